use Rattle.std.proofs.Common.{◌≡◌, ◌++◌, codes}
use Rattle.std.specs.String.{string_bytes}
use Rattle.qsr_lex.specs.Printed.{text_below}
use Rattle.named_sets.specs.Written.{member_text}
use Rattle.named_sets.proofs.writing.push_set.Given as goal

abbrev pub invariant-loop-r : goal.invariant-loop-r
invariant-loop-r l = string_bytes l.text ≡ (string_bytes l.fn.text ++ codes "( ") ++ text_below l.r (member_text l.c.names l.set)
