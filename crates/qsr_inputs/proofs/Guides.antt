-- The calculus and the class that words name, as they are read one after the other.
use Rattle.std.proofs.Common.{◌≡◌, ℕ, Bool, true, false, ◌||◌, cond, List, [], ◌∷◌, ◌++◌, Option, None, Some, Result, Ok, Err, option_map, inl, refl, subst}
use Rattle.std.specs.Prelude.{MatchOption, codes, is_some}
use Rattle.std.specs.Str.{bytes_eq}
use Rattle.calculus_table.specs.Calculus.{NamedAlgebra, IsCalculus}
use Rattle.calculus_builtin.specs.Rcc8.{rcc8_calculus}
use Rattle.tract_classes.specs.BuiltIn.{h8, c8, q8, singles}
use Rattle.qsr_outside.specs.Documents.{Documents}
use Rattle.qsr_words.specs.Asked.{class_fits, is_rcc8_class}
use Rattle.qsr_inputs.specs.Stops.{Cause}
use Rattle.qsr_inputs.specs.Parts.{Then}
use Rattle.qsr_inputs.specs.Inputs.{DocumentOf, TableOf, CalculusOf, builtin_of, ClassFileOf, ClassOf, builtin_class, CanGuide, Guided, IsGuided, CalculusAndClass}
use Rattle.qsr_inputs.specs.Told.{named_by_calculus, named_by_class}
use Rattle.qsr_inputs.specs.Readings.{OfNamed, Fetches}
use Rattle.qsr_inputs.specs.declared.stops.Stop.{Stop}
use Rattle.qsr_inputs.specs.declared.stops.Stop.TheVariants as stop
use Rattle.qsr_inputs.proofs.Fetching.{fetches_then, fetches_stopped, fetches_made, fetches_caused, fetches_nothing, fetches_memory}
use Rattle.qsr_inputs.proofs.OnRcc8.{is_rcc8}
use Rattle.qsr_inputs.proofs.InputsThere.{IsGuideFor, h8_guides, c8_guides, q8_guides, none_guides, fits_rcc8}

-- ---- one that is built in, and one of a document

module _ {F : Type 0} (documents : F → Option Documents) (faults given absent : F → ℕ) (word : List ℕ) (old new : F) where
  abbrev FetchesFrom : {A : Type 0} → List (List ℕ) → (Documents → Result A Cause → Type 0) → F → F → Result A Stop → Type 0
  FetchesFrom names Part from to result = Fetches documents faults given absent names Part from to result

  built_in : (c : NamedAlgebra) (o : Option NamedAlgebra) → Some c ≡ o →
      FetchesFrom (cond (is_some o) [] (word ∷ [])) (λ d r. MatchOption o (Then (DocumentOf d word) TableOf r) (λ k. r ≡ Ok k)) old old (Ok c)
  built_in c None e = absurd cc
  built_in c (Some k) e = fetches_nothing documents faults given absent (λ d r. r ≡ Ok k) old c (λ d. cc)

  pub builtin_fetched : (c : NamedAlgebra) → Some c ≡ builtin_of word → FetchesFrom (named_by_calculus word) (λ d. CalculusOf d word) old old (Ok c)
  builtin_fetched c e = built_in c (builtin_of word) e

  of_document : (o : Option NamedAlgebra) (r : Result NamedAlgebra Stop) → None ≡ o → FetchesFrom (word ∷ []) (λ d. Then (DocumentOf d word) TableOf) old new r →
      FetchesFrom (cond (is_some o) [] (word ∷ [])) (λ d x. MatchOption o (Then (DocumentOf d word) TableOf x) (λ k. x ≡ Ok k)) old new r
  of_document None r e h = h
  of_document (Some k) r e h = absurd cc

  pub table_fetched : (r : Result NamedAlgebra Stop) → None ≡ builtin_of word → FetchesFrom (word ∷ []) (λ d. Then (DocumentOf d word) TableOf) old new r →
      FetchesFrom (named_by_calculus word) (λ d. CalculusOf d word) old new r
  table_fetched r e h = of_document (builtin_of word) r e h

  pub calculus_memory : FetchesFrom (named_by_calculus word) (λ d. CalculusOf d word) old old (Err stop.Memory)
  calculus_memory = fetches_memory documents faults given absent (λ d. CalculusOf d word) old (named_by_calculus word)

  module _ (c : NamedAlgebra) where
    class_built_in : (k : List ℕ) (o : Option (ℕ → List ℕ)) → Some k ≡ option_map (λ f. f c.algebra.size) o →
        FetchesFrom (cond (is_some o) [] (word ∷ [])) (λ d r. MatchOption o (Then (DocumentOf d word) (ClassFileOf c) r) (λ f. r ≡ Ok (f c.algebra.size))) old old (Ok k)
    class_built_in k None e = absurd cc
    class_built_in k (Some f) e = fetches_nothing documents faults given absent (λ d r. r ≡ Ok (f c.algebra.size)) old k (λ d. cc)

    pub builtin_class_fetched : (k : List ℕ) → Some k ≡ option_map (λ f. f c.algebra.size) (builtin_class word) → FetchesFrom (named_by_class word) (λ d. ClassOf d word c) old old (Ok k)
    builtin_class_fetched k e = class_built_in k (builtin_class word) e

    class_of_document : (o : Option (ℕ → List ℕ)) (r : Result (List ℕ) Stop) → None ≡ option_map (λ f. f c.algebra.size) o →
        FetchesFrom (word ∷ []) (λ d. Then (DocumentOf d word) (ClassFileOf c)) old new r →
        FetchesFrom (cond (is_some o) [] (word ∷ [])) (λ d x. MatchOption o (Then (DocumentOf d word) (ClassFileOf c) x) (λ f. x ≡ Ok (f c.algebra.size))) old new r
    class_of_document None r e h = h
    class_of_document (Some f) r e h = absurd cc

    pub class_file_fetched : (r : Result (List ℕ) Stop) → None ≡ option_map (λ f. f c.algebra.size) (builtin_class word) →
        FetchesFrom (word ∷ []) (λ d. Then (DocumentOf d word) (ClassFileOf c)) old new r → FetchesFrom (named_by_class word) (λ d. ClassOf d word c) old new r
    class_file_fetched r e h = class_of_document (builtin_class word) r e h

    pub class_memory : FetchesFrom (named_by_class word) (λ d. ClassOf d word c) old old (Err stop.Memory)
    class_memory = fetches_memory documents faults given absent (λ d. ClassOf d word c) old (named_by_class word)

-- ---- the calculus and then the class

module _ {F : Type 0} (documents : F → Option Documents) (faults given absent : F → ℕ) (word class : List ℕ) where
  abbrev GuidedFrom : F → F → Result Guided Stop → Type 0
  GuidedFrom from to r = Fetches documents faults given absent (named_by_calculus word ++ named_by_class class) (λ d. CalculusAndClass d word class) from to r

  pub calculus_stops : (old new : F) (s : Stop) → Fetches documents faults given absent (named_by_calculus word) (λ d. CalculusOf d word) old new (Err s) → GuidedFrom old new (Err s)
  calculus_stops old new s h =
      fetches_stopped documents faults given absent (named_by_calculus word) (named_by_class class) (λ d. CalculusOf d word) (λ c d. Then (ClassOf d class c) (IsGuided c)) old new s h

  module _ (old mid new : F) (c : NamedAlgebra) (h : Fetches documents faults given absent (named_by_calculus word) (λ d. CalculusOf d word) old mid (Ok c)) where
    pub class_stops : (s : Stop) → Fetches documents faults given absent (named_by_class class) (λ d. ClassOf d class c) mid new (Err s) → GuidedFrom old new (Err s)
    class_stops s k =
        fetches_then documents faults given absent (named_by_calculus word) (named_by_class class) (λ d. CalculusOf d word) (λ x d. Then (ClassOf d class x) (IsGuided x)) old mid new c h (Err s)
        (fetches_caused documents faults given absent (named_by_class class) (λ d. ClassOf d class c) (λ d. Then (ClassOf d class c) (IsGuided c)) mid new s (λ d x p. inl p) k)

    pub guided_fetched : (k : List ℕ) → Fetches documents faults given absent (named_by_class class) (λ d. ClassOf d class c) mid new (Ok k) →
        GuidedFrom old new (Ok (record { calculus = c; class = k }))
    guided_fetched k i =
        fetches_then documents faults given absent (named_by_calculus word) (named_by_class class) (λ d. CalculusOf d word) (λ x d. Then (ClassOf d class x) (IsGuided x)) old mid new c h (Ok (record { calculus = c; class = k }))
        (fetches_made documents faults given absent (named_by_class class) (λ d. ClassOf d class c) (λ d. Then (ClassOf d class c) (IsGuided c)) mid new k (record { calculus = c; class = k })
        (λ d p. record { value = k; first = p; second = refl }) i)

-- ---- which calculus it is, and that its class guides

-- a class of RCC-8 is asked for over RCC-8 alone
pub fitting_rcc8 : (word : List ℕ) (told : Option Documents) (c : NamedAlgebra) (class : List ℕ) → class_fits word class ≡ true →
    OfNamed (named_by_calculus word) told (λ d. CalculusOf d word (Ok c)) → is_rcc8_class class ≡ true → c ≡ rcc8_calculus
fitting_rcc8 word told c class fits h e = is_rcc8 word told c h (fits_rcc8 (bytes_eq word (codes "rcc8")) (is_rcc8_class class) fits e)

module _ (c : NamedAlgebra) (lawful : IsCalculus c.algebra) where
  abbrev class_chosen : (a b d e : Bool) → Option (ℕ → List ℕ)
  class_chosen a b d e = cond a (Some (λ _. h8)) (cond b (Some (λ _. c8)) (cond d (Some (λ _. q8)) (cond e (Some singles) None)))

  guides_chosen : (a b d e : Bool) (k : List ℕ) → ((a || b || d) ≡ true → c ≡ rcc8_calculus) →
      Some k ≡ option_map (λ f. f c.algebra.size) (class_chosen a b d e) → IsGuideFor c k
  guides_chosen true b d e k fits is = let same : h8 ≡ k = cc in subst (IsGuideFor c) same (h8_guides c (fits refl))
  guides_chosen false true d e k fits is = let same : c8 ≡ k = cc in subst (IsGuideFor c) same (c8_guides c (fits refl))
  guides_chosen false false true e k fits is = let same : q8 ≡ k = cc in subst (IsGuideFor c) same (q8_guides c (fits refl))
  guides_chosen false false false true k fits is = let same : singles c.algebra.size ≡ k = cc in subst (IsGuideFor c) same (none_guides c lawful)
  guides_chosen false false false false k fits is = absurd cc

  pub builtin_guides : (word k : List ℕ) → (is_rcc8_class word ≡ true → c ≡ rcc8_calculus) → Some k ≡ option_map (λ f. f c.algebra.size) (builtin_class word) →
      CanGuide (record { calculus = c; class = k })
  builtin_guides word k fits is =
      guides_chosen (bytes_eq word (codes "h8")) (bytes_eq word (codes "c8")) (bytes_eq word (codes "q8")) (bytes_eq word (codes "none")) k fits is
