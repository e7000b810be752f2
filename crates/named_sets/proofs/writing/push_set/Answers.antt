use Rattle.std.proofs.Common.{◌≡◌, ℕ, List, ◌++◌, ◌∙◌, ap, append_assoc, codes, arith}
use Rattle.std.specs.String.{string_bytes}
use Rattle.qsr_lex.specs.Printed.{text_below}
use Rattle.named_sets.specs.Written.{member_text}
use Rattle.qsr_lex.proofs.WrittenTexts.{none_written, more_written}
use Rattle.named_sets.proofs.writing.push_set.Goals as goal

pub loop-r-init : goal.loop-r-init
loop-r-init c = c.in_ok-push_str.ensures.bytes ∙ none_written (string_bytes c.args.text.now ++ codes "( ") (member_text c.args.c.now.names c.args.set)

pub loop-r-preserved : goal.loop-r-preserved
loop-r-preserved c = more_written (string_bytes c.args.text.now ++ codes "( ") (string_bytes c.loop-r.text) (string_bytes c.push_member.new.text) c.loop-r.r (member_text c.args.c.now.names c.args.set) c.loop-r.invariant c.in_ok-push_member.ensures

pub returns : goal.returns
returns c =
    let old = string_bytes c.args.text.now in
    let members = member_text c.args.c.now.names c.args.set in
    let end : c.loop-r.r ≡ c.args.c.now.algebra.size = omega arith in
    c.in_ok-push_str-2.ensures.bytes
    ∙ ap (λ x. x ++ codes ")\n") (c.loop-r.invariant ∙ ap (λ k. (old ++ codes "( ") ++ text_below k members) end)
    ∙ shape old (text_below c.args.c.now.algebra.size members)
  where
    shape : (old all : List ℕ) → ((old ++ codes "( ") ++ all) ++ codes ")\n" ≡ old ++ ((codes "( " ++ all ++ codes ")") ++ codes "\n")
    shape old all = simp append_assoc
