-- A stored document found by its name is the map's document of that name.
use Rattle.std.proofs.Common.{◌≡◌, ℕ, zero, suc, ◌<◌, nat_lt, arith, subst, IfSome, IfNone, MatchOption, Bool, true, false, cond, List, [], ◌∷◌, Option, None, Some, length, map, refl, sym, ap, ◌∙◌, slice_get}
use Rattle.std.specs.List.{find, position, position_or_len}
use Rattle.std.specs.Option.{option_map}
use Rattle.std.specs.Ordering.{nat_cmp}
use Rattle.std.specs.Cmp.Lexicographic.{slice_cmp, nat_list_cmp_total}
use Rattle.std.specs.FinMap.{get-from_entries}
use Rattle.std.specs.FinMap.Entries as entries
use Rattle.std.specs.Str.{bytes_eq}
use Rattle.std.proofs.lemmas.Map.Text.{is_eq-slice_cmp}
use Rattle.std.proofs.lemmas.List.Folds.{find_at}
use Rattle.std.proofs.lemmas.Option.{slice_get_past}
use borrow.Author.Tests.{ltb-true, ltb-false}
use Rattle.qsr_outside.specs.Documents.{document}
use Rattle.qsr_outside.specs.StoredDocuments.{bytes_of, documents_of, is_named}
use Rattle.qsr_outside.specs.declared.map_shelf.Document.{Document}

found_entry : (documents : List Document) (name : List ℕ)
    → entries.find (slice_cmp nat_cmp) name (map (λ d. (d.name.items, d.bytes.items)) documents) ≡ option_map (λ d. d.bytes.items) (find (is_named name) documents)
found_entry [] name = refl
found_entry (d ∷ ds) name =
    rw is_eq-slice_cmp (elim (bytes_eq name d.name.items) as (λ b. cond b (Some d.bytes.items) (entries.find (slice_cmp nat_cmp) name (map (λ d. (d.name.items, d.bytes.items)) ds)) ≡ option_map (λ d. d.bytes.items) (cond b (Some d) (find (is_named name) ds))) [
      | true ↦ refl
      | false ↦ found_entry ds name
    ])

-- the map's document of a name is the first stored one of that name
pub document-documents_of : (documents : List Document) (name : List ℕ)
    → document (documents_of documents) name ≡ option_map (λ d. d.bytes.items) (slice_get documents (position_or_len (is_named name) documents))
document-documents_of documents name =
    get-from_entries nat_list_cmp_total (map (λ d. (d.name.items, d.bytes.items)) documents) name
    ∙ found_entry documents name ∙ ap (option_map (λ d. d.bytes.items)) (find_at (is_named name) documents)

bytes_of-slice_get : (documents : List Document) (k : ℕ) → k < length documents
    → option_map (λ d. d.bytes.items) (slice_get documents k) ≡ Some (bytes_of (slice_get documents k))
bytes_of-slice_get [] k h = absurd (omega arith)
bytes_of-slice_get (d ∷ ds) zero h = refl
bytes_of-slice_get (d ∷ ds) (suc k) h = bytes_of-slice_get ds k (omega arith)

abbrev FoundAt : List Document → List ℕ → Option ℕ → Type 0
FoundAt documents name place =
    MatchOption place (document (documents_of documents) name ≡ None) (λ k. document (documents_of documents) name ≡ Some (bytes_of (slice_get documents k)))

-- what the first place of a name says of the map
found_at : (documents : List Document) (name : List ℕ) (k : ℕ) (b : Bool) → k ≡ position_or_len (is_named name) documents → nat_lt k (length documents) ≡ b → FoundAt documents name (cond b (Some k) None)
found_at documents name k true is test =
    document-documents_of documents name ∙ ap (λ j. option_map (λ d. d.bytes.items) (slice_get documents j)) (sym is)
    ∙ bytes_of-slice_get documents k (ltb-true k (length documents) test)
found_at documents name k false is test =
    document-documents_of documents name ∙ ap (λ j. option_map (λ d. d.bytes.items) (slice_get documents j)) (sym is)
    ∙ ap (option_map (λ d. d.bytes.items)) (slice_get_past documents k (ltb-false k (length documents) test))

pub find_place : (documents : List Document) (name : List ℕ) (place : Option ℕ) → place ≡ position (is_named name) documents → FoundAt documents name place
find_place documents name place is =
    subst (FoundAt documents name) (sym is) (found_at documents name (position_or_len (is_named name) documents) _ refl refl)

pub find_some : (documents : List Document) (name : List ℕ) (place : Option ℕ) → place ≡ position (is_named name) documents
    → IfSome place (λ k. document (documents_of documents) name ≡ Some (bytes_of (slice_get documents k)))
find_some documents name None is = tt
find_some documents name (Some k) is = find_place documents name (Some k) is

pub find_none : (documents : List Document) (name : List ℕ) (place : Option ℕ) → place ≡ position (is_named name) documents
    → IfNone place (document (documents_of documents) name ≡ None)
find_none documents name None is = find_place documents name None is
find_none documents name (Some k) is = tt
