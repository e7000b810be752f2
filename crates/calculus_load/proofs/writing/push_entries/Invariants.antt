use Rattle.std.proofs.Common.{◌≡◌, ◌++◌}
use Rattle.std.specs.String.{string_bytes}
use Rattle.qsr_lex.specs.Printed.{text_below}
use Rattle.calculus_load.specs.TableText.{row_text}
use Rattle.calculus_load.proofs.writing.push_entries.Given as goal

abbrev pub invariant-loop-r : goal.invariant-loop-r
invariant-loop-r l = record {
  text : string_bytes l.text ≡ string_bytes l.fn.text ++ text_below l.r (row_text l.c);
  sets : l.sets ≡ l.c;
}
