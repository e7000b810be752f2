use Rattle.std.proofs.Common.{◌≡◌, ◌<◌, ◌^◌, ◌∙◌, sym, ap, subst, arith}
use Rattle.std.proofs.lemmas.Nat.{pow_pos}
use Rattle.calculus_table.specs.Rel.{Has}
use Rattle.calculus_table.specs.Algebra.{converse_at}
use Rattle.calculus_table.specs.Composition.{converse}
use Rattle.calculus_table.proofs.Compositions.{single-member}
use Rattle.calculus_table.proofs.Singles.{converse-single}
use Rattle.calculus_load.proofs.writing.converse_of.Goals as goal

pub least-requires : goal.least-requires
least-requires c = λ empty.
    let m = c.args.c.now.algebra in
    let single : c.converse.result ≡ 2 ^ converse_at m c.args.r = c.converse.ensures.value ∙ ap (converse m) c.single.ensures ∙ converse-single m c.args.r c.requires in
    omega (arith, pow_pos (converse_at m c.args.r), single, empty)

abbrev pub returns-clause-value : goal.returns-clause-value
returns-clause-value c =
    let m = c.args.c.now.algebra in
    let single : c.converse.result ≡ 2 ^ converse_at m c.args.r = c.converse.ensures.value ∙ ap (converse m) c.single.ensures ∙ converse-single m c.args.r c.requires in
    single-member (converse_at m c.args.r) c.least.result (subst (λ a. Has a c.least.result) single c.least.ensures.member)

pub returns-clause-below : goal.returns-clause-below
returns-clause-below c =
    subst (λ k. k < c.args.c.now.algebra.size) (sym (returns-clause-value c)) (c.lawful.ensures.table.converse_below c.args.r c.requires)
