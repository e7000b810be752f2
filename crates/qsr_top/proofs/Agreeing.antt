-- Facts of polygons alone never conflict: with polygons, a network that states nothing is never answered no.
use Rattle.std.proofs.Common.{◌≡◌, ◌≢◌, ℕ, List, [], Option, None, Some, Ok, refl, sym, ◌∙◌, ap, subst}
use Rattle.std.specs.Prelude.{codes}
use Rattle.calculus_table.specs.Calculus.{NamedAlgebra}
use Rattle.calculus_builtin.specs.Rcc8.{rcc8_calculus}
use Rattle.network_words.specs.Network.{Network}
use Rattle.geo_facts.specs.PolygonFile.{NamedRing}
use Rattle.qsr_outside.specs.Documents.{Documents}
use Rattle.qsr_words.specs.Asked.{SolveAsked, solve}
use Rattle.qsr_inputs.specs.Inputs.{CalculusOf, PolygonsAsked, Guided, Searched, SearchedOf, PlacedNetwork}
use Rattle.qsr_inputs.specs.Given.{Input}
use Rattle.qsr_inputs.specs.declared.statuses.Status.{Status}
use Rattle.qsr_inputs.specs.declared.statuses.Status.TheVariants.{No}
use Rattle.qsr_inputs.proofs.Parts.{same_value}
use Rattle.qsr_answers.specs.Commands.{SolvesNetwork}
use Rattle.qsr_answers.proofs.Agreeing.{AreNamedRegions, none-regions, file-regions, solves-not_no}
use Rattle.qsr_commands.specs.Output.{OutputOf, Works}
use Rattle.qsr_top.specs.Laws.{StatesNothing, PolygonsAgree}

-- ---- what the documents give

calculus-rcc8 : (documents : Documents) (word : List ℕ) (c : NamedAlgebra) → word ≡ codes "rcc8" →
    CalculusOf documents word (Ok c) → c ≡ rcc8_calculus
calculus-rcc8 documents word c is h =
    same_value c rcc8_calculus (Ok c) (Ok rcc8_calculus) refl refl
    (subst (λ w. CalculusOf documents w (Ok c)) is h)

asked-regions : (documents : Documents) (asked : Option (List ℕ)) (polygons : List NamedRing) →
    PolygonsAsked documents asked (Ok polygons) → AreNamedRegions polygons
asked-regions documents None polygons h =
    subst AreNamedRegions (sym (same_value polygons [] (Ok polygons) (Ok []) refl refl h)) none-regions
asked-regions documents (Some name) polygons h = file-regions h.value polygons h.second

-- RCC-8, and polygons whose names differ and whose rings are simple
record IsOnRegions (given : Searched) : Type 0 where
  calculus : given.guided.calculus ≡ rcc8_calculus
  regions : AreNamedRegions given.polygons

searched-regions : (documents : Documents) (word class : List ℕ) (polygons : Option (List ℕ)) (given : Searched) →
    word ≡ codes "rcc8" → SearchedOf documents word class polygons (Ok given) → IsOnRegions given
searched-regions documents word class polygons given is h =
    let guided : Guided = record { calculus = h.first.value; class = h.first.second.value } in
    let same : h.value ≡ guided =
    same_value h.value guided (Ok h.value) (Ok guided) refl refl h.first.second.second in
    let all : Searched = record { guided = h.value; polygons = h.second.value } in
    let whole : given ≡ all = same_value given all (Ok given) (Ok all) refl refl h.second.second in
    record {
      calculus = ap (λ (g : Searched). g.guided.calculus) whole ∙ ap (λ (g : Guided). g.calculus) same
          ∙ calculus-rcc8 documents word h.first.value is h.first.first;
      regions = subst AreNamedRegions (sym (ap (λ (g : Searched). g.polygons) whole))
          (asked-regions documents polygons h.second.value h.second.first);
    }

-- ---- what solve makes of it

module _ (asked : SolveAsked) (documents : Documents) (bytes text : List ℕ) (status : Status)
    (is : asked.calculus ≡ codes "rcc8") (nothing : StatesNothing rcc8_calculus bytes) where
  placed-not_no : (class : List ℕ) (polygons : List NamedRing) (placed : Network) → AreNamedRegions polygons →
      PlacedNetwork bytes rcc8_calculus polygons (Ok placed) →
      SolvesNetwork asked rcc8_calculus class placed text status → status ≢ No
  placed-not_no class polygons placed are h = solves-not_no asked class h.first.value text polygons h.value placed
      status are h.first.second (nothing h.value h.first) h.second

  given-not_no : (given : Searched) (placed : Network) → IsOnRegions given →
      PlacedNetwork bytes given.guided.calculus given.polygons (Ok placed) →
      SolvesNetwork asked given.guided.calculus given.guided.class placed text status → status ≢ No
  given-not_no given placed known h work =
      placed-not_no given.guided.class given.polygons placed known.regions
      (subst (λ c. PlacedNetwork bytes c given.polygons (Ok placed)) known.calculus h)
      (subst (λ c. SolvesNetwork asked c given.guided.class placed text status) known.calculus work)

  works-not_no : Works (solve asked) documents bytes text status → status ≢ No
  works-not_no h =
      let given : Searched = h.input.value in
      let placed : Network = h.input.second.value in
      let read : Input (solve asked) = record { given = given; read = placed } in
      let same : h.value ≡ read =
      same_value h.value read (Ok h.value) (Ok read) refl refl h.input.second.second in
      given-not_no given placed
      (searched-regions documents asked.calculus asked.class asked.polygons given is h.input.first)
      h.input.second.first
      (subst (λ (v : Input (solve asked)). SolvesNetwork asked v.given.guided.calculus v.given.guided.class v.read
      text status) same h.work)

pub polygons_agree : PolygonsAgree
polygons_agree asked documents bytes text status is nothing h e =
    works-not_no asked documents bytes text No is nothing (subst (OutputOf (solve asked) documents bytes text) e h) refl
