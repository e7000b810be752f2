use Rattle.std.proofs.Common.{◌≡◌, ℕ, ◌<◌, ◌++◌, ◌∙◌, List, length, take, drop, refl, sym, ap, subst, arith}
use Rattle.std.proofs.Math.Seq.{take-append_seam}
use Rattle.std.specs.List.{All}
use Rattle.std.proofs.lemmas.List.{length-set}
use Rattle.std.proofs.lemmas.List.Elements.{All-set}
use Rattle.closure_workers.specs.declared.worker.Desk.{Desk}
use Rattle.network_words.specs.Edge.{edge_count}
use Rattle.closure_workers.specs.declared.slices.Slice.{Slice}
use Rattle.closure_workers.specs.Workers.{IsDesk, AreDealt, slices_of}
use Rattle.closure_workers.proofs.DealtSlices.{slices_of-set}
use Rattle.session_phase.proofs.phase.closed_desks.Goals as goal

pub loop-desk-preserved : goal.loop-desk-preserved
loop-desk-preserved g c =
    let h = c.loop-desk.invariant in
    let now = c.loop-desk.desk-items in
    let k = c.loop-desk.desk-index in
    let old = c.desk-item.result in
    let new = c.begin_closed.new.self in
    let IsOne : Desk → Type 0 = IsDesk (g.C.Compose.algebra c.args.c.now) c.args.nodes in
    let below : k < length now = (let t = c.loop-desk-test.true in let l = h.count in omega arith) in
    record {
      desks = All-set IsOne now k new c.begin_closed.ensures.desk h.desks;
      slices = slices_of-set now k new old below c.begin_closed.ensures.slice ∙ h.slices;
      count = length-set now k new ∙ h.count;
    }

pub loop-desk-init : goal.loop-desk-init
loop-desk-init g c =
    let m = g.C.Compose.algebra c.args.c.now in
    record {
      desks = subst (All (IsDesk m c.args.nodes)) (sym c.deref_mut-desk-items.ensures.value) (c.in_ok-desks.ensures.desks m);
      slices = refl;
      count = refl;
    }

-- a list with something after it, cut at its end
cut : (xs ys : List Desk) (n : ℕ) → n ≡ length xs → take n (xs ++ ys) ≡ xs
cut xs ys n e = rw e (take-append_seam xs ys)

pub returns-clause-desks : goal.returns-clause-desks
returns-clause-desks g c =
    let items = c.loop-desk.desk-items in
    let old = c.in_ok-desks.desks in
    let size : old.len ≡ length items = (let a = c.loop-desk.auto.desk-items in let l = c.deref_mut-desk-items.ensures.len in omega arith) in
    subst (All (IsDesk (g.C.Compose.algebra c.args.c.now) c.args.nodes)) (sym (cut items (drop (length items) old.items) old.len size)) c.loop-desk.invariant.desks

pub returns-clause-dealt : goal.returns-clause-dealt
returns-clause-dealt g c =
    let items = c.loop-desk.desk-items in
    let old = c.in_ok-desks.desks in
    let size : old.len ≡ length items = (let a = c.loop-desk.auto.desk-items in let l = c.deref_mut-desk-items.ensures.len in omega arith) in
    let slices : slices_of items ≡ slices_of old.items = c.loop-desk.invariant.slices ∙ ap slices_of c.deref_mut-desk-items.ensures.value in
    subst (λ (ds : List Desk). AreDealt (slices_of ds) (edge_count c.args.nodes)) (sym (cut items (drop (length items) old.items) old.len size))
    (subst (λ (ss : List Slice). AreDealt ss (edge_count c.args.nodes)) (sym slices) c.in_ok-desks.ensures.dealt)
