-- Closing and searching make one text and one status at least.
use Rattle.std.proofs.Common.{ℕ, suc, List, [], ◌∷◌, ◌++◌, ◌⊎◌, codes, inl, inr, refl, arith}
use Rattle.std.specs.Prelude.{Contains}
use Rattle.std.proofs.lemmas.Bool.{cases_eq}
use Rattle.std.proofs.lemmas.Map.Made.{Contains-tail}
use Rattle.calculus_table.specs.Calculus.{NamedAlgebra, IsNamedCalculus}
use Rattle.calculus_builtin.specs.Allen.{allen_calculus}
use Rattle.calculus_builtin.specs.Rcc8.{rcc8_calculus}
use Rattle.calculus_builtin.proofs.AllenLaws.{allen_lawful}
use Rattle.allen_real.proofs.Composed.{scenario-open}
use Rattle.allen_real.proofs.Realised.{scenario-realised}
use Rattle.qsr_lex.specs.Printed.{text_below}
use Rattle.network_words.specs.Network.{Network}
use Rattle.network_words.proofs.Existence.{closure_of}
use Rattle.network_file.specs.NetworkText.{network_text}
use Rattle.split_search.specs.declared.verdict.Verdict.{Verdict}
use Rattle.split_search.specs.declared.verdict.Verdict.TheVariants as verdict
use Rattle.split_search.proofs.SomeVerdict.{verdict_exists}
use Rattle.geo_facts.specs.PolygonFile.{NamedRing}
use Rattle.geo_sound.proofs.DrawnNetworks.{closed-closure}
use Rattle.geo_sound.proofs.SomeScene.{scene-there}
use Rattle.qsr_words.specs.Asked.{SolveAsked, IntervalsAsked}
use Rattle.qsr_inputs.specs.Inputs.{Guided, CanGuide}
use Rattle.qsr_inputs.specs.declared.statuses.Status.TheVariants.{Done, No}
use Rattle.qsr_inputs.proofs.InputsThere.{IsOver, IsGuide}
use Rattle.qsr_answers.specs.Texts.{verdict_line}
use Rattle.qsr_answers.specs.Verdicts.{HasScenario, answer_text, verdict_status}
use Rattle.qsr_answers.specs.Intervals.{IsIntervalsText, interval_line}
use Rattle.qsr_answers.specs.Commands.{ClosesNetwork, IsVerdictOn, SolvesNetwork, RealisesNetwork, IsAnswered}
use Rattle.qsr_answers.specs.Commands.{DrawsScene}
use Rattle.qsr_answers.proofs.Agreeing.{AreNamedRegions}
use Rattle.qsr_answers.proofs.SomeCertificates.{Made}
use Rattle.qsr_answers.proofs.Verdicts.{verdict_true, no_rules_out, scenario_of}

-- ---- closing

pub zero_or_not : (words : List ℕ) → Contains words 0 ⊎ (¬ Contains words 0)
zero_or_not [] = inr (λ h. omega (arith, h.1))
zero_or_not (w ∷ ws) = elim (cases_eq w 0) [
  | inl e ↦ inl (0, omega arith, e)
  | inr other ↦ elim (zero_or_not ws) [
    | inl h ↦ inl (suc h.0, omega (arith, h.1), h.2)
    | inr none ↦ inr (λ h. none (Contains-tail w ws 0 other h))
  ]
]

-- over a lawful calculus
module _ (c : NamedAlgebra) (net : Network) (lawful : IsNamedCalculus c) (over : IsOver c net) where
  pub closes : Made (ClosesNetwork c net)
  closes =
      let closure = closure_of c.algebra net.nodes net.words lawful.lawful over.network in
      let closed : Network = record net { words = closure.0 } in
      let text : List ℕ = network_text c closed in
      elim (zero_or_not closure.0) [
        | inl empty ↦ record {
          text = text;
          status = No;
          answered = tt;
          work = record { closed = closed; closure_text = record { rest = refl; closure = closure.1; text_is = refl }; verdict = empty };
        }
        | inr none ↦ record {
          text = text;
          status = Done;
          answered = tt;
          work = record { closed = closed; closure_text = record { rest = refl; closure = closure.1; text_is = refl }; verdict = none };
        }
      ]

-- ---- searching

verdict_answers : (v : Verdict) → IsAnswered (verdict_status v)
verdict_answers (verdict.Yes relations nodes) = tt
verdict_answers (verdict.No nodes) = tt
verdict_answers (verdict.Budget nodes) = tt

verdict_there : (budget : ℕ) (g : Guided) (net : Network) → IsGuide g → IsOver g.calculus net →
    (v : Verdict) × IsVerdictOn g.calculus g.class budget net v
verdict_there budget g net guide over =
    let c : NamedAlgebra = g.calculus in
    let v = verdict_exists c.algebra net.nodes g.class budget net.words guide.lawful.lawful over.network
    guide.guides.is_class guide.guides.bases in
    let is_true = verdict_true g net budget v.0 guide.lawful.lawful over.network guide.guides v.1 in (
      v.0,
      record {
        ruled = v.1;
        is_true = is_true;
        rules_out = no_rules_out c net budget v.0 guide.lawful.lawful over.network is_true;
      },
    )

pub solves : (asked : SolveAsked) (g : Guided) (net : Network) → IsGuide g → IsOver g.calculus net → Made (SolvesNetwork asked g.calculus g.class net)
solves asked g net guide over =
    let c : NamedAlgebra = g.calculus in
    let v = verdict_there asked.budget g net guide over in
    record {
      text = answer_text asked.is_cert c net v.0;
      status = verdict_status v.0;
      answered = verdict_answers v.0;
      work = record { verdict = v.0; on_network = v.1; text_is = refl; status_is = refl };
    }

-- ---- intervals

intervals_there : (net : Network) (v : Verdict) → HasScenario allen_calculus net v →
    (text : List ℕ) × IsIntervalsText net v text
intervals_there net (verdict.Yes relations nodes) h =
    let xs = scenario-realised net.nodes relations (scenario-open net.nodes net.words relations h) in (
      verdict_line (codes "yes") nodes ++ text_below net.nodes (interval_line net.names xs.0),
      record { intervals = xs.0; realised = xs.1; text_is = refl },
    )
intervals_there net (verdict.No nodes) h = (verdict_line (codes "no") nodes, refl)
intervals_there net (verdict.Budget nodes) h = (verdict_line (codes "budget") nodes, refl)

pub realises : (asked : IntervalsAsked) (class : List ℕ) (net : Network) →
    CanGuide (record { calculus = allen_calculus; class = class }) → IsOver allen_calculus net →
    Made (RealisesNetwork asked class net)
realises asked class net guides over =
    let g : Guided = record { calculus = allen_calculus; class = class } in
    let v = verdict_there asked.budget g net (record { lawful = allen_lawful; guides = guides }) over in
    let text = intervals_there net v.0 (scenario_of allen_calculus net asked.budget v.0 v.1.is_true) in
    record {
      text = text.0;
      status = verdict_status v.0;
      answered = verdict_answers v.0;
      work = record { verdict = v.0; on_network = v.1; text_is = text.1; status_is = refl };
    }

-- ---- scenes: it can't be that there is none

pub draws : (polygons : List NamedRing) → AreNamedRegions polygons → (Made (DrawsScene polygons) → ⊥) → ⊥
draws polygons are none = scene-there polygons are.regions (λ net is closed. none (record {
  text = network_text rcc8_calculus net;
  status = Done;
  answered = tt;
  work = (
    record {
      net = net;
      is_scene = is;
      is_closure = closed-closure net.nodes net.words closed;
      text_is = refl;
    },
    refl,
  );
}))
