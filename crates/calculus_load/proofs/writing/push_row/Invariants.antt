use Rattle.std.proofs.Common.{◌≡◌, ◌++◌}
use Rattle.std.specs.String.{string_bytes}
use Rattle.qsr_lex.specs.Printed.{text_below}
use Rattle.calculus_load.specs.TableText.{entry_text}
use Rattle.calculus_load.proofs.writing.push_row.Given as goal

abbrev pub invariant-loop-s : goal.invariant-loop-s
invariant-loop-s l = record {
  text : string_bytes l.text ≡ string_bytes l.fn.text ++ text_below l.s (entry_text l.c l.r);
  sets : l.sets ≡ l.c;
}
