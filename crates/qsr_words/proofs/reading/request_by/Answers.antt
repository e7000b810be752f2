use Rattle.std.proofs.Common.{◌≡◌, ℕ, List, None, Some, ap, map, Option, refl, rules, subst, sym, ◌∙◌}
use Rattle.std.specs.Prelude.{IfSome, unwrap_or}
use Rattle.std.specs.String.{string_bytes}
use Rattle.qsr_words.specs.Asked.{close, solve, intervals, minimal, check, trace, relate, scene, serve, demo}
use Rattle.qsr_words.specs.Asked.{close_asked, solve_asked, intervals_asked, minimal_asked, check_asked, relate_asked}
use Rattle.qsr_words.specs.Asked.{scene_asked, serve_asked, demo_asked, command_by}
use Rattle.qsr_words.specs.Requests.{IsWithinLimits, asked_of, close_of, solve_of, intervals_of, minimal_of, check_of}
use Rattle.qsr_words.specs.Requests.{relate_of, scene_of, serve_of, demo_of}
use Rattle.qsr_words.specs.declared.reading.Request.TheVariants as request
use Rattle.qsr_words.proofs.CommandWords.{asked_of-made, IsWithinLimits-made}
use Rattle.qsr_words.proofs.reading.request_by.Goals as goal
use Rattle.qsr_words.proofs.reading.request_by.Goals.{in-close+in_ok-read-in-close, in-solve+in_ok-read-in-solve}
use Rattle.qsr_words.proofs.reading.request_by.Goals.{in-intervals+in_ok-read-in-intervals}
use Rattle.qsr_words.proofs.reading.request_by.Goals.{in-minimal+in_ok-read-in-minimal}
use Rattle.qsr_words.proofs.reading.request_by.Goals.{in-check+in_ok-read-in-check, in-trace+in_ok-read-in-trace}
use Rattle.qsr_words.proofs.reading.request_by.Goals.{in-relate+in_ok-read-in-relate, in-scene+in_ok-read-in-scene}
use Rattle.qsr_words.proofs.reading.request_by.Goals.{in-serve+in_ok-read-in-serve, in-demo+in_ok-read-in-demo}
use Rattle.qsr_words.proofs.reading.request_by.Goals.{in_default}

pub returns-clause-asked : goal.returns-clause-asked
returns-clause-asked c =
    let words : List (List ℕ) = map string_bytes c.args.words.now in
    let name : List ℕ = c.args.name.now in
    let unwrapped = ap asked_of c.unwrap_or.ensures in
    elim c.match-name.branch [
      | in-close+in_ok-read-in-close w ↦
          unwrapped ∙ ap (λ m. asked_of (unwrap_or m request.Usage)) w.request-is
          ∙ asked_of-made w.in_ok-read-in-close.field-0 _ request.Close close_of close (close_asked words) w.map-request.ensures.cases (λ x. refl) w.in_ok-read-in-close.ensures.asked
          ∙ sym (ap (λ n. command_by n words) w.in-close.is)
      | in-solve+in_ok-read-in-solve w ↦
          unwrapped ∙ ap (λ m. asked_of (unwrap_or m request.Usage)) w.request-is
          ∙ asked_of-made w.in_ok-read-in-solve.field-0 _ request.Solve solve_of solve (solve_asked words) w.map-request-in-solve.ensures.cases (λ x. refl) w.in_ok-read-in-solve.ensures.asked
          ∙ sym (ap (λ n. command_by n words) w.in-solve.is)
      | in-intervals+in_ok-read-in-intervals w ↦
          unwrapped ∙ ap (λ m. asked_of (unwrap_or m request.Usage)) w.request-is
          ∙ asked_of-made w.in_ok-read-in-intervals.field-0 _ request.Intervals intervals_of intervals
          (intervals_asked words) w.map-request-in-intervals.ensures.cases (λ x. refl)
          w.in_ok-read-in-intervals.ensures.asked
          ∙ sym (ap (λ n. command_by n words) w.in-intervals.is)
      | in-minimal+in_ok-read-in-minimal w ↦
          unwrapped ∙ ap (λ m. asked_of (unwrap_or m request.Usage)) w.request-is
          ∙ asked_of-made w.in_ok-read-in-minimal.field-0 _ request.Minimal minimal_of minimal
          (minimal_asked words) w.map-request-in-minimal.ensures.cases (λ x. refl)
          w.in_ok-read-in-minimal.ensures.asked
          ∙ sym (ap (λ n. command_by n words) w.in-minimal.is)
      | in-check+in_ok-read-in-check w ↦
          unwrapped ∙ ap (λ m. asked_of (unwrap_or m request.Usage)) w.request-is
          ∙ asked_of-made w.in_ok-read-in-check.field-0 _ request.Check check_of check (check_asked words) w.map-request-in-check.ensures.cases (λ x. refl) w.in_ok-read-in-check.ensures.asked
          ∙ sym (ap (λ n. command_by n words) w.in-check.is)
      | in-trace+in_ok-read-in-trace w ↦
          unwrapped ∙ ap (λ m. asked_of (unwrap_or m request.Usage)) w.request-is
          ∙ asked_of-made w.in_ok-read-in-trace.field-0 _ request.Trace check_of trace (check_asked words) w.map-request-in-trace.ensures.cases (λ x. refl) w.in_ok-read-in-trace.ensures.asked
          ∙ sym (ap (λ n. command_by n words) w.in-trace.is)
      | in-relate+in_ok-read-in-relate w ↦
          unwrapped ∙ ap (λ m. asked_of (unwrap_or m request.Usage)) w.request-is
          ∙ asked_of-made w.in_ok-read-in-relate.field-0 _ request.Relate relate_of relate (relate_asked words) w.map-request-in-relate.ensures.cases (λ x. refl) w.in_ok-read-in-relate.ensures
          ∙ sym (ap (λ n. command_by n words) w.in-relate.is)
      | in-scene+in_ok-read-in-scene w ↦
          unwrapped ∙ ap (λ m. asked_of (unwrap_or m request.Usage)) w.request-is
          ∙ asked_of-made w.in_ok-read-in-scene.field-0 _ request.Scene scene_of scene
          (scene_asked words) w.map-request-in-scene.ensures.cases (λ x. refl) w.in_ok-read-in-scene.ensures
          ∙ sym (ap (λ n. command_by n words) w.in-scene.is)
      | in-serve+in_ok-read-in-serve w ↦
          unwrapped ∙ ap (λ m. asked_of (unwrap_or m request.Usage)) w.request-is
          ∙ asked_of-made w.in_ok-read-in-serve.field-0 _ request.Serve serve_of serve (serve_asked words) w.map-request-in-serve.ensures.cases (λ x. refl) w.in_ok-read-in-serve.ensures.asked
          ∙ sym (ap (λ n. command_by n words) w.in-serve.is)
      | in-demo+in_ok-read-in-demo w ↦
          unwrapped ∙ ap (λ m. asked_of (unwrap_or m request.Usage)) w.request-is
          ∙ asked_of-made w.in_ok-read-in-demo.field-0 _ request.Demo demo_of demo (demo_asked words) w.map-request-in-demo.ensures.cases (λ x. refl) w.in_ok-read-in-demo.ensures.asked
          ∙ sym (ap (λ n. command_by n words) w.in-demo.is)
      | in_default w ↦
          let other : command_by name words ≡ None = search rules in
          unwrapped ∙ ap (λ m. asked_of (unwrap_or m request.Usage)) w.request-is ∙ sym other
    ]

each : {A : Type 0} (o : Option A) (P : A → Type 0) → ((x : A) → P x) → IfSome o P
each None P f = tt
each (Some x) P f = f x

pub returns-clause-limits : goal.returns-clause-limits
returns-clause-limits c =
    let unwrapped = c.unwrap_or.ensures in
    elim c.match-name.branch [
      | in-close+in_ok-read-in-close w ↦
          subst IsWithinLimits (sym (unwrapped ∙ ap (λ m. unwrap_or m request.Usage) w.request-is))
          (IsWithinLimits-made w.in_ok-read-in-close.field-0 _ request.Close w.map-request.ensures.cases w.in_ok-read-in-close.ensures.limits)
      | in-solve+in_ok-read-in-solve w ↦
          subst IsWithinLimits (sym (unwrapped ∙ ap (λ m. unwrap_or m request.Usage) w.request-is))
          (IsWithinLimits-made w.in_ok-read-in-solve.field-0 _ request.Solve w.map-request-in-solve.ensures.cases w.in_ok-read-in-solve.ensures.limits)
      | in-intervals+in_ok-read-in-intervals w ↦
          subst IsWithinLimits (sym (unwrapped ∙ ap (λ m. unwrap_or m request.Usage) w.request-is))
          (IsWithinLimits-made w.in_ok-read-in-intervals.field-0 _ request.Intervals
          w.map-request-in-intervals.ensures.cases w.in_ok-read-in-intervals.ensures.limits)
      | in-minimal+in_ok-read-in-minimal w ↦
          subst IsWithinLimits (sym (unwrapped ∙ ap (λ m. unwrap_or m request.Usage) w.request-is))
          (IsWithinLimits-made w.in_ok-read-in-minimal.field-0 _ request.Minimal
          w.map-request-in-minimal.ensures.cases w.in_ok-read-in-minimal.ensures.limits)
      | in-check+in_ok-read-in-check w ↦
          subst IsWithinLimits (sym (unwrapped ∙ ap (λ m. unwrap_or m request.Usage) w.request-is))
          (IsWithinLimits-made w.in_ok-read-in-check.field-0 _ request.Check w.map-request-in-check.ensures.cases w.in_ok-read-in-check.ensures.limits)
      | in-trace+in_ok-read-in-trace w ↦
          subst IsWithinLimits (sym (unwrapped ∙ ap (λ m. unwrap_or m request.Usage) w.request-is))
          (IsWithinLimits-made w.in_ok-read-in-trace.field-0 _ request.Trace w.map-request-in-trace.ensures.cases w.in_ok-read-in-trace.ensures.limits)
      | in-relate+in_ok-read-in-relate w ↦
          subst IsWithinLimits (sym (unwrapped ∙ ap (λ m. unwrap_or m request.Usage) w.request-is))
          (IsWithinLimits-made w.in_ok-read-in-relate.field-0 _ request.Relate w.map-request-in-relate.ensures.cases (each w.in_ok-read-in-relate.field-0 (λ x. IsWithinLimits (request.Relate x)) (λ x. tt)))
      | in-scene+in_ok-read-in-scene w ↦
          subst IsWithinLimits (sym (unwrapped ∙ ap (λ m. unwrap_or m request.Usage) w.request-is))
          (IsWithinLimits-made w.in_ok-read-in-scene.field-0 _ request.Scene w.map-request-in-scene.ensures.cases
          (each w.in_ok-read-in-scene.field-0 (λ x. IsWithinLimits (request.Scene x)) (λ x. tt)))
      | in-serve+in_ok-read-in-serve w ↦
          subst IsWithinLimits (sym (unwrapped ∙ ap (λ m. unwrap_or m request.Usage) w.request-is))
          (IsWithinLimits-made w.in_ok-read-in-serve.field-0 _ request.Serve w.map-request-in-serve.ensures.cases w.in_ok-read-in-serve.ensures.limits)
      | in-demo+in_ok-read-in-demo w ↦
          subst IsWithinLimits (sym (unwrapped ∙ ap (λ m. unwrap_or m request.Usage) w.request-is))
          (IsWithinLimits-made w.in_ok-read-in-demo.field-0 _ request.Demo w.map-request-in-demo.ensures.cases w.in_ok-read-in-demo.ensures.limits)
      | in_default w ↦ subst IsWithinLimits (sym (unwrapped ∙ ap (λ m. unwrap_or m request.Usage) w.request-is)) tt
    ]
