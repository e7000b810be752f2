use Rattle.std.proofs.Common.{◌≡◌, ℕ, ◌-◌, ◌∙◌, sym, ap}
use Rattle.std.specs.Prelude.{bit_and}
use Rattle.std.proofs.lemmas.Bool.{eqb-true, eq-eqb, false≢true}
use Rattle.calculus_table.specs.Algebra.{Algebra}
use Rattle.calculus_table.specs.Composition.{composition}
use Rattle.calculus_table.proofs.Sets.{IsWithin-trans, IsWithin-meet_l}
use Rattle.network_words.proofs.Pairs.{pair-second, pair-outer}
use Rattle.edge_propagation.specs.Worklist.{Worklist}
use Rattle.edge_propagation.proofs.Steps.{IsStep-refl}
use Rattle.edge_propagation.proofs.Settled.{settled-same, step-read, settled-read, empty-read, some-read}
use Rattle.edge_propagation.proofs.propagation.narrow.Goals as goal

met : (m : Algebra) (x a b along y r t : ℕ) → x ≡ r → b ≡ t → along ≡ composition m a b → y ≡ bit_and x along → y ≡ bit_and r (composition m a t)
met m x a b along y r t p u v w = cc

pub compose-requires-clause-within : goal.compose-requires-clause-within
compose-requires-clause-within g c = rw c.get.ensures (c.requires.ready.sets.within _ _ (pair-second _ _ _ _ c.requires.proper))

pub refine-requires-clause-within : goal.refine-requires-clause-within
refine-requires-clause-within g c =
    rw (c.meet-narrowed.ensures, c.get-rel.ensures) (IsWithin-trans _ _ _ (IsWithin-meet_l _ _) (c.requires.ready.sets.within _ _ (pair-outer _ _ _ _ c.requires.proper)))

pub returns-then-eq-clause-step : goal.returns-then-eq-clause-step
returns-then-eq-clause-step g c = IsStep-refl _ _ c.requires.ready.sets

pub returns-then-eq-clause-settled : goal.returns-then-eq-clause-settled
returns-then-eq-clause-settled g c =
    let r = c.requires in
    let m = g.C.Compose.algebra c.args.c.now in
    let e = met m _ c.args.a _ _ _ _ _ c.get-rel.ensures c.get.ensures c.compose.ensures c.meet-narrowed.ensures in
    let same : c.meet-narrowed.result ≡ c.get-rel.result = eqb-true c.meet-narrowed.result c.get-rel.result (cc) in
    settled-same m c.args.work.now c.args.work.now c.args.i c.args.j c.args.k c.args.a c.meet-narrowed.result r.ready.calculus r.ready.sets c.nodes-nodes.ensures.sized r.proper r.within r.set e
    (same ∙ c.get-rel.ensures)

pub returns-then-is_empty-clause-step : goal.returns-then-is_empty-clause-step
returns-then-is_empty-clause-step g c =
    let r = c.requires in
    let m = g.C.Compose.algebra c.args.c.now in
    let e = met m _ c.args.a _ _ _ _ _ c.get-rel.ensures c.get.ensures c.compose.ensures c.meet-narrowed.ensures in
    step-read m c.args.work.now c.note.new.self c.args.i c.args.j c.args.k c.args.a c.meet-narrowed.result r.ready.calculus r.ready.sets c.nodes-nodes.ensures.sized r.proper r.within r.set e (c.note.ensures ∙ ap (λ (y : Worklist). let z : Worklist = record y { room = y.room - 1 } in z) c.refine.ensures.value)
    (λ h. let same = eq-eqb c.meet-narrowed.result c.get-rel.result (h ∙ sym c.get-rel.ensures) in cc)

pub returns-then-is_empty-clause-empty : goal.returns-then-is_empty-clause-empty
returns-then-is_empty-clause-empty g c =
    let r = c.requires in
    let m = g.C.Compose.algebra c.args.c.now in
    let e = met m _ c.args.a _ _ _ _ _ c.get-rel.ensures c.get.ensures c.compose.ensures c.meet-narrowed.ensures in
    empty-read m c.args.work.now c.note.new.self c.args.i c.args.j c.args.k c.args.a c.meet-narrowed.result r.ready.calculus r.ready.sets c.nodes-nodes.ensures.sized r.proper r.within r.set e (c.note.ensures ∙ ap (λ (y : Worklist). let z : Worklist = record y { room = y.room - 1 } in z) c.refine.ensures.value)
    (c.is_empty.ensures.0 c.if-is_empty.true)

pub returns-clause-step : goal.returns-clause-step
returns-clause-step g c =
    let r = c.requires in
    let m = g.C.Compose.algebra c.args.c.now in
    let e = met m _ c.args.a _ _ _ _ _ c.get-rel.ensures c.get.ensures c.compose.ensures c.meet-narrowed.ensures in
    step-read m c.args.work.now c.note.new.self c.args.i c.args.j c.args.k c.args.a c.meet-narrowed.result r.ready.calculus r.ready.sets c.nodes-nodes.ensures.sized r.proper r.within r.set e (c.note.ensures ∙ ap (λ (y : Worklist). let z : Worklist = record y { room = y.room - 1 } in z) c.refine.ensures.value)
    (λ h. let same = eq-eqb c.meet-narrowed.result c.get-rel.result (h ∙ sym c.get-rel.ensures) in cc)

pub returns-clause-settled : goal.returns-clause-settled
returns-clause-settled g c =
    let r = c.requires in
    let m = g.C.Compose.algebra c.args.c.now in
    let e = met m _ c.args.a _ _ _ _ _ c.get-rel.ensures c.get.ensures c.compose.ensures c.meet-narrowed.ensures in
    settled-read m c.args.work.now c.note.new.self c.args.i c.args.j c.args.k c.args.a c.meet-narrowed.result r.ready.calculus r.ready.sets c.nodes-nodes.ensures.sized r.proper r.within r.set e (c.note.ensures ∙ ap (λ (y : Worklist). let z : Worklist = record y { room = y.room - 1 } in z) c.refine.ensures.value)
    (λ h. let same = eq-eqb c.meet-narrowed.result c.get-rel.result (h ∙ sym c.get-rel.ensures) in cc)

pub returns-clause-none : goal.returns-clause-none
returns-clause-none g c =
    let r = c.requires in
    let m = g.C.Compose.algebra c.args.c.now in
    let e = met m _ c.args.a _ _ _ _ _ c.get-rel.ensures c.get.ensures c.compose.ensures c.meet-narrowed.ensures in
    some-read m c.args.work.now c.note.new.self c.args.i c.args.j c.args.k c.args.a c.meet-narrowed.result r.ready.calculus r.ready.sets c.nodes-nodes.ensures.sized r.proper r.within r.set e (c.note.ensures ∙ ap (λ (y : Worklist). let z : Worklist = record y { room = y.room - 1 } in z) c.refine.ensures.value)
    (λ h. false≢true (sym c.if-is_empty.false ∙ c.is_empty.ensures.1 h))
