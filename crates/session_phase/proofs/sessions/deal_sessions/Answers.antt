use Rattle.std.proofs.Common.{◌≡◌, ◌+◌, ◌++◌, ◌∷◌, [], List, length, refl, ap, sym, subst, ◌∙◌, arith, length-append}
use Rattle.std.specs.List.{All}
use Rattle.std.specs.Prelude.{Some}
use Rattle.std.proofs.lemmas.List.Elements.{All-push, All-pop}
use Rattle.calculus_table.specs.Composition.{full_of}
use Rattle.narrow_core.specs.Actor.{ActorState, fresh, giving}
use Rattle.edge_table.specs.Opening.{algebra_of}
use Rattle.session_phase.specs.declared.steps.Step.{Step}
use Rattle.session_phase.specs.declared.sessions.Session.{Session}
use Rattle.session_phase.specs.Phase.{IsStepFor, steps_of, asked_of, asked_of_sessions, IsReady}
use Rattle.session_phase.proofs.SessionLists.{steps_of-push, asked_of-dealt}
use Rattle.session_phase.proofs.sessions.deal_sessions.Goals as goal

pub loop-steps-preserved : goal.loop-steps-preserved
loop-steps-preserved c =
    let h = c.loop-steps.invariant in
    let table = c.args.table.now in
    let m = algebra_of table.opening in
    let IsStep : Step → Type 0 = IsStepFor (full_of m) table.opening.nodes in
    let old = c.loop-steps.lines.items in
    let left = c.pop.new.self.items in
    let steps = c.in-Some.steps in
    let items : old ≡ left ++ steps ∷ [] = c.in-Some.ensures.items in
    let one : length old ≡ length left + 1 = ap length items ∙ length-append left (steps ∷ []) in
    let parts = All-pop (All IsStep) (steps_of old) (steps_of left) (Some steps.items) (ap steps_of items ∙ steps_of-push left steps) h.left in
    let sessions = c.loop-steps.sessions.items in
    let session : Session = record { pass = c.split-kept.result.1; number = c.len-number.result; steps = steps } in
    let pushed : c.push.new.self.items ≡ sessions ++ session ∷ [] = c.in-Ok.ensures.items in
    let words = table.opening.words in
    let ready : IsReady table session = record {
      few = (let f = c.requires.few in let k = h.count in omega arith);
      pass = c.split-kept.ensures.passes.1;
      actor = c.split-kept.ensures.second ∙ ap (λ (a : ActorState). fresh 1 a.seen) h.actor;
      steps = parts.1;
    } in
    record {
      pass = c.split-kept.ensures.passes.0;
      actor = c.split-kept.ensures.first ∙ ap (λ (a : ActorState). giving 1 a) h.actor ∙ ap (λ w. fresh w words) (let e = c.requires.enough in omega arith);
      left = parts.0;
      sessions = subst (All (IsReady table)) (sym pushed) (All-push (IsReady table) sessions session h.sessions ready);
      count = (let l = ap length pushed ∙ length-append sessions (session ∷ []) in let k = h.count in omega arith);
      asked = ap (λ (ss : List Session). asked_of (steps_of left) ++ asked_of_sessions ss) pushed ∙ asked_of-dealt old left steps sessions session items refl ∙ h.asked;
    }
