use Rattle.std.proofs.Common.{◌-◌, ◌↔◌, IsTrue, eqb, length, ◌∙◌, sym, subst}
use Rattle.std.proofs.lemmas.Bool.{eqb-true, eq-eqb}
use Rattle.edge_propagation.specs.Worklist.{Worklist, IsQuiet, edge_place, worklist_in}
use Rattle.edge_propagation.proofs.Places.{unmarked, count-quiet}
use Rattle.edge_propagation.proofs.pairs.PairSets.is_idle.Goals as goal

pub returns : goal.returns
returns c =
    let inside = c.self.inside in
    let notes = length inside.notes.items in
    let work : Worklist = worklist_in inside.nodes inside.planes inside.bytes.items inside.queued.items
    (notes - inside.noted) notes in
    subst (λ (y : Worklist). IsTrue (eqb inside.waiting 0) ↔ IsQuiet y) c.self.view_is (
      λ h i _ j _ _. unmarked work.queued (edge_place i j) (sym c.self.invariant.2 ∙ eqb-true inside.waiting 0 h),
      λ quiet. eq-eqb inside.waiting 0 (c.self.invariant.2 ∙ count-quiet work c.self.invariant.4 quiet),
    )
