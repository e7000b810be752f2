use Rattle.std.proofs.Common.{◌≡◌, sym, ◌∙◌}
use Rattle.std.proofs.lemmas.Bool.{eqb-true}
use Rattle.calculus_table.specs.Composition.{full_of}
use Rattle.edge_propagation.proofs.FullSets.{converse-full}
use Rattle.edge_propagation.proofs.loading.converse_of.Goals as goal

pub returns-then-eq-clause-value : goal.returns-then-eq-clause-value
returns-then-eq-clause-value g c =
    let m = g.C.Compose.algebra c.args.c.now in
    let full : c.args.rel ≡ full_of m = eqb-true _ _ (sym c.eq.ensures ∙ c.if-eq.true) ∙ c.full.ensures in
    rw full (sym (converse-full m c.lawful.ensures))
