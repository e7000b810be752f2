use Rattle.std.proofs.Common.{◌≡◌, ◌+◌, ◌++◌, ◌∷◌, [], length, length-append, ap, sym, subst, ◌∙◌, arith}
use Rattle.std.specs.List.{All}
use Rattle.std.specs.Prelude.{Some}
use Rattle.std.proofs.lemmas.Grind.{common_steps}
use Rattle.std.proofs.lemmas.List.{length-map}
use Rattle.std.proofs.lemmas.List.Elements.{All-push, All-pop}
use Rattle.narrow_core.specs.Actor.{ActorState, fresh, giving}
use Rattle.edge_table.specs.Opening.{PassState, algebra_of}
use Rattle.closure_workers.specs.declared.worker.Desk.{Desk}
use Rattle.closure_workers.specs.declared.worker.Worker.{Worker}
use Rattle.closure_workers.specs.Workers.{IsDesk, IsFreshWorker, slices_of, slices_at}
use Rattle.closure_workers.proofs.DealtSlices.{slices_of-push, slices_at-push, AreAmong-next, AreDealt-handed}
use Rattle.closure_workers.proofs.OneRound.{giving-more}
use Rattle.closure_workers.proofs.pieces.deal.Goals as goal

pub loop-desk-preserved : goal.loop-desk-preserved
loop-desk-preserved c =
    let h = c.loop-desk.invariant in
    let table = c.args.table.now in
    let IsOne : Desk → Type 0 = IsDesk (algebra_of table.opening) table.opening.nodes in
    let seen = c.args.pass.actor.seen in
    let old = c.loop-desk.desks.items in
    let left = c.pop.new.self.items in
    let desk = c.in-Some.desk in
    let items : old ≡ left ++ desk ∷ [] = c.in-Some.ensures.items in
    let one : length old ≡ length left + 1 = ap length items ∙ length-append left (desk ∷ []) in
    let parts = All-pop IsOne old left (Some desk) items h.left in
    let workers = c.loop-desk.workers.items in
    let worker : Worker = record { pass = c.split-kept.result.1; desk = desk; heard = c.nothing.result; narrowed = 0 } in
    let pushed : c.push.new.self.items ≡ workers ++ worker ∷ [] = c.in-Ok.ensures.items in
    let more : length c.push.new.self.items ≡ length workers + 1 = ap length pushed ∙ length-append workers (worker ∷ []) in
    let before : c.loop-desk.rest.actor ≡ giving (length workers) c.args.pass.actor = ap (λ (p : PassState). p.actor) h.rest in
    record {
      pass = c.split-kept.ensures.passes.0;
      rest = giving-more table c.args.pass c.loop-desk.rest c.split-kept.result.0 (length workers) (length c.push.new.self.items) c.requires.pass c.split-kept.ensures.passes.0 more h.rest
          c.split-kept.ensures.first c.split-kept.ensures.counts.0 c.split-kept.ensures.counts.1;
      left = parts.0;
      workers = subst (All (IsFreshWorker table seen)) (sym pushed) (All-push (IsFreshWorker table seen) workers worker h.workers (record {
        worker = record { pass = c.split-kept.ensures.passes.1; desk = parts.1 };
        actor = c.split-kept.ensures.second ∙ ap (λ (a : ActorState). fresh 1 a.seen) before;
      }));
      among = AreAmong-next (slices_of c.args.desks.items) (slices_of old) (slices_of left) (slices_at workers) (slices_at c.push.new.self.items) desk.slice
          (ap slices_of items ∙ slices_of-push left desk) (ap slices_at pushed ∙ slices_at-push workers worker) h.among;
      count = (let k = h.count in omega arith);
    }

pub returns-clause-dealt : goal.returns-clause-dealt
returns-clause-dealt c = λ edges dealt.
    let none : length c.loop-desk.desks.items ≡ 0 = grind (arith, common_steps) in
    AreDealt-handed (slices_of c.args.desks.items) (slices_of c.loop-desk.desks.items) (slices_at c.loop-desk.workers.items) edges
    (length-map c.loop-desk.desks.items (λ (d : Desk). d.slice) ∙ none) c.loop-desk.invariant.among dealt
