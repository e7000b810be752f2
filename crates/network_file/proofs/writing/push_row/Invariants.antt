use Rattle.std.proofs.Common.{◌≡◌, ◌++◌}
use Rattle.std.specs.String.{string_bytes}
use Rattle.qsr_lex.specs.Printed.{text_below}
use Rattle.network_file.specs.NetworkText.{later_line}
use Rattle.network_file.proofs.writing.push_row.Given as goal

abbrev pub invariant-loop-j : goal.invariant-loop-j
invariant-loop-j l = record {
  text : string_bytes l.text ≡ string_bytes l.fn.text ++ text_below l.j (later_line l.fn.sets l.net l.i);
  sets : l.sets ≡ l.fn.sets;
}
