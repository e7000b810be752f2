use Rattle.std.proofs.Common.{◌≡◌, ◌^◌, ap, subst, sym, ◌∙◌}
use Rattle.calculus_table.specs.Rel.{Has}
use Rattle.calculus_table.specs.Algebra.{converse_at}
use Rattle.calculus_table.specs.Composition.{converse}
use Rattle.calculus_table.proofs.Sets.{Has-single, not_Has-empty}
use Rattle.calculus_table.proofs.Compositions.{single-member}
use Rattle.calculus_table.proofs.Singles.{converse-single}
use Rattle.compose_fast.proofs.fast.converse_at.Goals as goal

pub least-requires : goal.least-requires
least-requires g c =
    let m = (g.C.Compose.algebra c.args.c.now) in
    let one : c.converse-converse.result ≡ 2 ^ converse_at m c.args.r = c.converse-converse.ensures.value ∙ ap (converse m) c.single.ensures ∙ converse-single m c.args.r c.requires in
    λ none. not_Has-empty (converse_at m c.args.r) (subst (λ x. Has x (converse_at m c.args.r)) (sym one ∙ none) (Has-single (converse_at m c.args.r)))

pub returns : goal.returns
returns g c =
    let m = (g.C.Compose.algebra c.args.c.now) in
    let one : c.converse-converse.result ≡ 2 ^ converse_at m c.args.r = c.converse-converse.ensures.value ∙ ap (converse m) c.single.ensures ∙ converse-single m c.args.r c.requires in
    single-member (converse_at m c.args.r) c.least.result (subst (λ x. Has x c.least.result) one c.least.ensures.member)
