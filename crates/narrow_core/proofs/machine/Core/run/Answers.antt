use Rattle.std.proofs.Common.{◌≡◌, ◌+◌, ◌++◌, ◌∷◌, [], refl, sym, Result, Ok, Err, OnErr, ◌∙◌, ap, subst, length, take, List, arith, rules}
use Rattle.std.proofs.lemmas.List.{take_more}
use Rattle.std.proofs.lemmas.Option.{slice_get_read, slice_get_within}
use Rattle.narrow_core.specs.declared.event.Event.{Event}
use Rattle.narrow_core.specs.Event.{IsAllowed}
use Rattle.narrow_core.specs.Machine.{CoreState}
use Rattle.narrow_core.specs.Run.{IsRun, WantsMemory}
use Rattle.narrow_core.proofs.Runs.{run-more, same-trans}
use Rattle.narrow_core.proofs.machine.Core.run.Goals as goal

pub loop-done-preserved : goal.loop-done-preserved
loop-done-preserved g c =
    let m = g.C.Compose.algebra c.args.c.now in
    let h = c.loop-done.invariant in
    let e = c.index-events-done.result in
    let longer : take (c.loop-done.done + 1) c.args.events.now ≡ take c.loop-done.done c.args.events.now ++ e ∷ [] =
    take_more c.args.events.now c.loop-done.done e (omega arith) ∙ ap (λ (d : Event). take c.loop-done.done c.args.events.now ++ d ∷ []) (sym c.index-events-done.is) in
    let allowed : IsAllowed c.loop-done.self e = search rules in
    record {
      run = subst (λ (es : List Event). IsRun m es c.args.self.now c.step.new.self) (sym longer)
          (run-more m (take c.loop-done.done c.args.events.now) e c.args.self.now c.loop-done.self c.step.new.self h.run allowed c.in_ok-step.ensures.stepped);
      same = same-trans c.args.self.now c.loop-done.self c.step.new.self h.same c.step.ensures.same;
      bound = λ b. c.step.ensures.bound (h.bound b);
    }

wanted : {T E : Type 0} (P : Type 0) (r : Result T E) → P → OnErr r P
wanted P (Ok value) p = tt
wanted P (Err error) p = p

pub returns-in_err-step-clause-memory : goal.returns-in_err-step-clause-memory
returns-in_err-step-clause-memory g c =
    let m = g.C.Compose.algebra c.args.c.now in
    let e = c.index-events-done.result in
    let stays : c.step.new.self ≡ c.loop-done.self = c.in_err-step.ensures.memory in
    let allowed : IsAllowed c.loop-done.self e = search rules in
    let run = subst (IsRun m (take c.loop-done.done c.args.events.now) c.args.self.now) (sym stays) c.loop-done.invariant.run in
    wanted (WantsMemory m c.args.events.now c.args.self.now c.step.new.self) c.from_residual.result (record {
      steps = c.loop-done.done;
      run = run;
      event = e;
      is_next = slice_get_read c.args.events.now (length c.args.events.now) c.loop-done.done e refl c.loop-done-test.true c.index-events-done.is;
      allowed = subst (λ (s : CoreState). IsAllowed s e) (sym stays) allowed;
      takes = c.in_err-step.ensures.takes;
    })

pub returns-clause-stops : goal.returns-clause-stops
returns-clause-stops g c = record {
  bounded = omega arith;
  stops = λ e there. absurd (omega (arith, slice_get_within c.args.events.now (length c.args.events.now) e there));
}
