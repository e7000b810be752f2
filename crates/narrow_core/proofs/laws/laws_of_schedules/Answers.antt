use Rattle.std.proofs.Common.{◌∙◌, sym}
use Rattle.narrow_core.proofs.Runs.{schedule-keeps, Holds-step, Holds-alone}
use Rattle.narrow_core.proofs.laws.laws_of_schedules.Goals as goal

pub returns : goal.returns
returns c = record {
  every_schedule_keeps_the_bound = λ m net weight events s h. (schedule-keeps m net weight events s h).holds.bound;
  the_whole_weight_is_alone = λ m net weight events s k a h live whole.
      let kept = schedule-keeps m net weight events s h in
      Holds-alone m s k a kept.holds live (whole ∙ sym kept.same.opening_weight);
  the_bound_makes_alone = Holds-alone;
  every_step_keeps_the_bound = Holds-step;
}
