-- Polygons go with RCC-8 alone.
use Rattle.std.proofs.Common.{◌≡◌, ℕ, Bool, true, false, ◌||◌, cond, List, [], ◌∷◌, Option, None, Some, Result, Ok, refl, inl, inr}
use Rattle.std.specs.Prelude.{MatchOption, codes, is_some}
use Rattle.std.specs.FinMap as map
use Rattle.std.specs.Str.{bytes_eq}
use Rattle.std.proofs.lemmas.Bool.{false≢true}
use Rattle.calculus_table.specs.Calculus.{NamedAlgebra}
use Rattle.calculus_builtin.specs.Rcc8.{rcc8_calculus}
use Rattle.calculus_builtin.specs.Allen.{allen_calculus}
use Rattle.calculus_builtin.specs.Point.{point_calculus}
use Rattle.geo_facts.specs.PolygonFile.{NamedRing}
use Rattle.qsr_outside.specs.Documents.{Documents}
use Rattle.qsr_words.specs.Asked.{polygons_fit}
use Rattle.qsr_inputs.specs.Stops.{Cause}
use Rattle.qsr_inputs.specs.Parts.{Then}
use Rattle.qsr_inputs.specs.Inputs.{DocumentOf, TableOf, CalculusOf, PolygonsAsked, IsOnRcc8}
use Rattle.qsr_inputs.specs.Told.{named_by_calculus, named_by_polygons}
use Rattle.qsr_inputs.specs.Readings.{OfNamed}

module _ (word : List ℕ) (told : Option Documents) (c : NamedAlgebra) where
  -- the calculus that is built in, by the tests of its word
  abbrev chosen : (a b d : Bool) → Option NamedAlgebra
  chosen a b d = cond a (Some rcc8_calculus) (cond b (Some allen_calculus) (cond d (Some point_calculus) None))

  is_chosen : (r : Result NamedAlgebra Cause) (a b d : Bool) → r ≡ Ok c → OfNamed (cond (is_some (chosen a b d)) [] (word ∷ [])) told
      (λ x. MatchOption (chosen a b d) (Then (DocumentOf x word) TableOf r) (λ k. r ≡ Ok k)) → a ≡ true → c ≡ rcc8_calculus
  is_chosen r true b d is h e = let same : r ≡ Ok rcc8_calculus = h map.empty in cc
  is_chosen r false b d is h e = absurd (false≢true e)

  -- the calculus of the word `rcc8`
  pub is_rcc8 : OfNamed (named_by_calculus word) told (λ d. CalculusOf d word (Ok c)) → bytes_eq word (codes "rcc8") ≡ true → c ≡ rcc8_calculus
  is_rcc8 h e = is_chosen (Ok c) (bytes_eq word (codes "rcc8")) (bytes_eq word (codes "allen")) (bytes_eq word (codes "point")) refl h e

  fits_some : (a : Bool) → (a || false) ≡ true → a ≡ true
  fits_some true e = refl
  fits_some false e = e

  none_asked : (r : Result (List NamedRing) Cause) (ps : List NamedRing) → r ≡ Ok ps → r ≡ Ok [] → ps ≡ []
  none_asked r ps e i = cc

  -- polygons that fit the word are none, or the calculus is RCC-8
  pub on_rcc8_where : (polygons : Option (List ℕ)) (ps : List NamedRing) (later : Option Documents) → polygons_fit word polygons ≡ true →
      (bytes_eq word (codes "rcc8") ≡ true → c ≡ rcc8_calculus) → OfNamed (named_by_polygons polygons) later (λ d. PolygonsAsked d polygons (Ok ps)) → IsOnRcc8 c ps
  on_rcc8_where None ps later fits h k = inl (none_asked (Ok ps) ps refl (k map.empty))
  on_rcc8_where (Some name) ps later fits h k = inr (h (fits_some (bytes_eq word (codes "rcc8")) fits))

  pub on_rcc8 : (polygons : Option (List ℕ)) (ps : List NamedRing) (later : Option Documents) → polygons_fit word polygons ≡ true →
      OfNamed (named_by_calculus word) told (λ d. CalculusOf d word (Ok c)) →
      OfNamed (named_by_polygons polygons) later (λ d. PolygonsAsked d polygons (Ok ps)) → IsOnRcc8 c ps
  on_rcc8 polygons ps later fits h k = on_rcc8_where polygons ps later fits (is_rcc8 h) k
