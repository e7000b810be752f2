use Rattle.std.proofs.Common.{◌≡◌, ◌++◌, codes}
use Rattle.std.specs.String.{string_bytes}
use Rattle.qsr_lex.specs.Printed.{text_below, word_text}
use Rattle.calculus_load.proofs.writing.push_names.Given as goal

abbrev pub invariant-loop-r : goal.invariant-loop-r
invariant-loop-r l = string_bytes l.text ≡ (string_bytes l.fn.text ++ codes "names ( ") ++ text_below l.r (word_text l.c.names)
