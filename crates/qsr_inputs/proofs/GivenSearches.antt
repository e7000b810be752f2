-- The class and the polygons of a search, read one after the other.
use Rattle.std.proofs.Common.{ℕ, List, ◌++◌, Option, Result, Ok, Err, inl, refl}
use Rattle.geo_facts.specs.PolygonFile.{NamedRing}
use Rattle.qsr_outside.specs.Documents.{Documents}
use Rattle.qsr_words.specs.Asked.{SolveAsked, solve}
use Rattle.qsr_inputs.specs.Parts.{Then}
use Rattle.qsr_inputs.specs.Inputs.{Guided, CalculusAndClass, PolygonsAsked, Searched, IsSearched}
use Rattle.qsr_inputs.specs.Given.{DocumentsGive}
use Rattle.qsr_inputs.specs.Told.{named_by_calculus, named_by_class, named_by_polygons, documents_of}
use Rattle.qsr_inputs.specs.Readings.{Fetches}
use Rattle.qsr_inputs.specs.declared.stops.Stop.{Stop}
use Rattle.qsr_inputs.proofs.Fetching.{fetches_then, fetches_stopped, fetches_made, fetches_caused}

module _ {F : Type 0} (documents : F → Option Documents) (faults given absent : F → ℕ) (a : SolveAsked) where
  abbrev GivenFrom : F → F → Result Searched Stop → Type 0
  GivenFrom from to r = Fetches documents faults given absent (documents_of (solve a)) (DocumentsGive (solve a)) from to r

  abbrev GuidedFrom : F → F → Result Guided Stop → Type 0
  GuidedFrom from to r = Fetches documents faults given absent (named_by_calculus a.calculus ++ named_by_class a.class) (λ d. CalculusAndClass d a.calculus a.class) from to r

  abbrev PolygonsFrom : F → F → Result (List NamedRing) Stop → Type 0
  PolygonsFrom from to r = Fetches documents faults given absent (named_by_polygons a.polygons) (λ d. PolygonsAsked d a.polygons) from to r

  pub guide_stops : (old new : F) (s : Stop) → GuidedFrom old new (Err s) → GivenFrom old new (Err s)
  guide_stops old new s h =
      fetches_stopped documents faults given absent (named_by_calculus a.calculus ++ named_by_class a.class) (named_by_polygons a.polygons)
      (λ d. CalculusAndClass d a.calculus a.class) (λ g d. Then (PolygonsAsked d a.polygons) (IsSearched g)) old new s h

  module _ (old mid new : F) (g : Guided) (h : GuidedFrom old mid (Ok g)) where
    pub polygons_stop : (s : Stop) → PolygonsFrom mid new (Err s) → GivenFrom old new (Err s)
    polygons_stop s k =
        fetches_then documents faults given absent (named_by_calculus a.calculus ++ named_by_class a.class) (named_by_polygons a.polygons)
        (λ d. CalculusAndClass d a.calculus a.class) (λ x d. Then (PolygonsAsked d a.polygons) (IsSearched x)) old mid new g h (Err s)
        (fetches_caused documents faults given absent (named_by_polygons a.polygons) (λ d. PolygonsAsked d a.polygons) (λ d. Then (PolygonsAsked d a.polygons) (IsSearched g)) mid new s (λ d c i. inl i) k)

    pub searched_fetched : (ps : List NamedRing) → PolygonsFrom mid new (Ok ps) → GivenFrom old new (Ok (record { guided = g; polygons = ps }))
    searched_fetched ps k =
        fetches_then documents faults given absent (named_by_calculus a.calculus ++ named_by_class a.class) (named_by_polygons a.polygons)
        (λ d. CalculusAndClass d a.calculus a.class) (λ x d. Then (PolygonsAsked d a.polygons) (IsSearched x)) old mid new g h (Ok (record { guided = g; polygons = ps }))
        (fetches_made documents faults given absent (named_by_polygons a.polygons) (λ d. PolygonsAsked d a.polygons) (λ d. Then (PolygonsAsked d a.polygons) (IsSearched g)) mid new ps
        (record { guided = g; polygons = ps }) (λ d i. record { value = ps; first = i; second = refl }) k)
