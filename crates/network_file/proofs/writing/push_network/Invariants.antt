use Rattle.std.proofs.Common.{◌≡◌, ◌++◌, codes}
use Rattle.std.specs.Fmt.{decimal}
use Rattle.std.specs.String.{string_bytes}
use Rattle.qsr_lex.specs.Printed.{text_below}
use Rattle.network_file.specs.NetworkText.{row_text, names_text}
use Rattle.network_file.proofs.writing.push_network.Given as goal

abbrev pub invariant-loop-i : goal.invariant-loop-i
invariant-loop-i l = record {
  text : string_bytes l.text ≡ (string_bytes l.fn.text ++ codes "nodes " ++ decimal l.net.nodes ++ codes "\n" ++ names_text l.net) ++ text_below l.i (row_text l.fn.sets l.net);
  sets : l.sets ≡ l.fn.sets;
}
