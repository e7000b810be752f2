use Rattle.std.proofs.Common.{◌≡◌, ℕ, ◌+◌, ◌++◌, ◌∷◌, [], List, length, length-append, ap, ap₂, sym, subst, ◌∙◌, arith}
use Rattle.std.specs.List.{All}
use Rattle.std.specs.Prelude.{Some}
use Rattle.std.proofs.lemmas.Grind.{common_steps}
use Rattle.std.proofs.lemmas.List.{append-nil, length-map}
use Rattle.std.proofs.lemmas.List.Elements.{All-push, All-pop}
use Rattle.network_words.specs.Edge.{edge_count}
use Rattle.network_words.specs.Network.{Refines}
use Rattle.network_words.proofs.Networks.{Refines-refl, Refines-trans}
use Rattle.narrow_core.specs.Actor.{ActorState, met_words}
use Rattle.narrow_core.proofs.Sights.{met-within_l, met-within_r}
use Rattle.closure_workers.specs.declared.worker.Worker.{Worker}
use Rattle.closure_workers.specs.Workers.{HasEnded, IsSeenDesk, slices_of, slices_at}
use Rattle.closure_workers.proofs.DealtSlices.{slices_of-push, slices_at-push, AreAmong-next, AreDealt-handed}
use Rattle.closure_workers.proofs.OneRound.{AllSeen-between, IsSeenDesk-ended, one_more_loads}
use Rattle.closure_workers.proofs.pieces.gather.Goals as goal

pub loop-worker-preserved : goal.loop-worker-preserved
loop-worker-preserved c =
    let h = c.loop-worker.invariant in
    let table = c.args.table.now in
    let began = c.args.home.actor.seen in
    let old = c.loop-worker.workers.items in
    let left = c.pop.new.self.items in
    let worker = c.in-Some.worker in
    let items : old ≡ left ++ worker ∷ [] = c.in-Some.ensures.items in
    let one : length old ≡ length left + 1 = ap length items ∙ length-append left (worker ∷ []) in
    let parts = All-pop (HasEnded table began) old left (Some worker) items h.left in
    let desks = c.loop-worker.desks.items in
    let pushed : c.push.new.self.items ≡ desks ++ worker.desk ∷ [] = c.in-Ok.ensures.items in
    let more : length c.push.new.self.items ≡ length desks + 1 = ap length pushed ∙ length-append desks (worker.desk ∷ []) in
    let all = c.loop-worker.all in
    let joined = c.join-all.ensures.actor in
    let next = c.join-all.result.actor.seen in
    let seen : next ≡ met_words all.actor.seen worker.pass.actor.seen = ap (λ (a : ActorState). a.seen) joined in
    let less : Refines next all.actor.seen = subst (λ (ws : List ℕ). Refines ws all.actor.seen) (sym seen) (met-within_l all.actor.seen worker.pass.actor.seen) in
    let lesser : Refines next worker.pass.actor.seen = subst (λ (ws : List ℕ). Refines ws worker.pass.actor.seen) (sym seen) (met-within_r all.actor.seen worker.pass.actor.seen) in
    record {
      pass = c.join-all.ensures.pass;
      weight = ap (λ (a : ActorState). a.weight) joined ∙ (let w = h.weight in let v = parts.1.weight in omega arith);
      facts = ap (λ (a : ActorState). a.mine) joined ∙ ap₂ ◌++◌ h.facts parts.1.facts ∙ append-nil c.args.home.actor.mine;
      loads = one_more_loads c.args.home.loads (length desks) (length c.push.new.self.items) (edge_count table.opening.nodes) all.loads worker.pass.loads c.join-all.result.loads more h.loads parts.1.loads
          c.join-all.ensures.loads;
      within = Refines-trans next all.actor.seen began less h.within;
      left = parts.0;
      desks = subst (All (IsSeenDesk table next began)) (sym pushed) (All-push (IsSeenDesk table next began) desks worker.desk
          (AllSeen-between table all.actor.seen next began began desks less (Refines-refl began) h.desks) (IsSeenDesk-ended table next began worker lesser parts.1));
      among = AreAmong-next (slices_at c.args.workers.items) (slices_at old) (slices_at left) (slices_of desks) (slices_of c.push.new.self.items) worker.desk.slice
          (ap slices_at items ∙ slices_at-push left worker) (ap slices_of pushed ∙ slices_of-push desks worker.desk) h.among;
      count = (let k = h.count in omega arith);
    }

pub returns-clause-dealt : goal.returns-clause-dealt
returns-clause-dealt c = λ edges dealt.
    let none : length c.loop-worker.workers.items ≡ 0 = grind (arith, common_steps) in
    AreDealt-handed (slices_at c.args.workers.items) (slices_at c.loop-worker.workers.items) (slices_of c.loop-worker.desks.items) edges
    (length-map c.loop-worker.workers.items (λ (w : Worker). w.desk.slice) ∙ none) c.loop-worker.invariant.among dealt
