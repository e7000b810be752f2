use Rattle.std.proofs.Common.{◌≡◌, ◌++◌, codes}
use Rattle.std.specs.String.{string_bytes}
use Rattle.qsr_lex.specs.Printed.{text_below, word_text}
use Rattle.network_file.proofs.writing.push_names.Given as goal

abbrev pub invariant-loop-node : goal.invariant-loop-node
invariant-loop-node l = string_bytes l.text ≡ (string_bytes l.fn.text ++ codes "names ( ") ++ text_below l.node (word_text l.net.names)
