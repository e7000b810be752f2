use Rattle.std.proofs.Common.{◌≡◌, ℕ, ◌+◌, ◌++◌, ◌∷◌, [], List, length, ap, ap₂, sym, subst, ◌∙◌, arith, length-append}
use Rattle.std.specs.List.{All}
use Rattle.std.specs.Prelude.{Some}
use Rattle.std.proofs.lemmas.List.Elements.{All-push, All-pop, All-weaker}
use Rattle.network_words.specs.declared.fact.Fact.{Fact}
use Rattle.network_words.specs.Network.{Refines}
use Rattle.narrow_core.specs.Actor.{ActorState, met_words}
use Rattle.narrow_core.proofs.Sights.{met-within_l, met-within_r}
use Rattle.edge_table.specs.Opening.{algebra_of}
use Rattle.session_phase.specs.declared.steps.Step.{Step}
use Rattle.session_phase.specs.declared.sessions.Session.{Session}
use Rattle.session_phase.specs.Phase.{steps_of, asked_of, facts_stated, asked_of_sessions, AreShownAbove, HasRun}
use Rattle.session_phase.proofs.SessionLists.{steps_of-push, asked_of-kept, facts_stated-push, AreShownAbove-less}
use Rattle.session_phase.proofs.sessions.gather_sessions.Goals as goal

pub loop-session-preserved : goal.loop-session-preserved
loop-session-preserved c =
    let h = c.loop-session.invariant in
    let table = c.args.table.now in
    let m = algebra_of table.opening in
    let session : Session = c.in-Some.session in
    let old = c.loop-session.sessions.items in
    let left = c.pop.new.self.items in
    let items : old ≡ left ++ session ∷ [] = c.in-Some.ensures.items in
    let one : length old ≡ length left + 1 = ap length items ∙ length-append left (session ∷ []) in
    let own = All-pop (HasRun m table) old left (Some session) items h.left in
    let before : List (List Step) = steps_of c.loop-session.lines.items in
    let kept : steps_of c.push.new.self.items ≡ before ++ session.steps.items ∷ [] = ap steps_of c.in-Ok.ensures.items ∙ steps_of-push c.loop-session.lines.items session.steps in
    let all = c.loop-session.all.actor in
    let joined = c.join-all.ensures.actor in
    let words = c.join-all.result.actor.seen in
    let seen : words ≡ met_words all.seen session.pass.actor.seen = ap (λ (a : ActorState). a.seen) joined in
    let first : Refines words all.seen = subst (λ (ws : List ℕ). Refines ws all.seen) (sym seen) (met-within_l all.seen session.pass.actor.seen) in
    let second : Refines words session.pass.actor.seen = subst (λ (ws : List ℕ). Refines ws session.pass.actor.seen) (sym seen) (met-within_r all.seen session.pass.actor.seen) in
    let Shown : List ℕ → List Step → Type 0 = AreShownAbove m table.opening.nodes table.opening.words in
    let less : (ws : List ℕ) → Refines words ws → (ss : List Step) → Shown ws ss → Shown words ss =
    λ ws w ss s. AreShownAbove-less m table.opening.nodes table.opening.words words ws ss w s in
    record {
      pass = c.join-all.ensures.pass;
      weight = (let w = ap (λ (a : ActorState). a.weight) joined in let v = own.1.weight in let u = h.weight in omega arith);
      left = own.0;
      facts = ap (λ (a : ActorState). a.mine) joined ∙ ap₂ (λ (xs ys : List Fact). xs ++ ys) h.facts own.1.facts ∙ sym (facts_stated-push before session.steps.items) ∙ ap facts_stated (sym kept);
      asked = ap (λ (ss : List (List Step)). asked_of ss ++ asked_of_sessions left) kept ∙ asked_of-kept before left session old items ∙ h.asked;
      shown = subst (All (Shown words)) (sym kept)
          (All-push (Shown words) before session.steps.items (All-weaker (Shown all.seen) (Shown words) (less all.seen first) before h.shown) (less session.pass.actor.seen second session.steps.items own.1.shown));
    }
