-- Lists by their places: the two readings of one place, the first elements after a write, and words written in turn.
use Rattle.std.proofs.Common.{◌≡◌, ℕ, zero, suc, ◌+◌, ◌<◌, ◌≤◌, List, [], ◌∷◌, length, take, set, get_or, refl, sym, ◌∙◌, ap, arith, Some, inl, inr}
use Rattle.std.specs.Prelude.{slice_get, slice_index, slice_set}
use Rattle.std.proofs.lemmas.Bool.{cases_eq}
use Rattle.std.proofs.lemmas.List.{length-set, get_or-set_same, get_or-set_other}
use Rattle.std.proofs.lemmas.Grind.{same_number_lists}
use Rattle.network_words.specs.Edge.{edge_count}
use Rattle.network_words.specs.Network.{Network}
use mathlib.Core.Option.{some, some-injective, some-ne-none}
use lib.ListN.{get_elem?}

module _ {A : Type 0} where
  -- what the table finds at a place is what is there
  pub get-found : (xs : List A) (k : ℕ) (a : A) → get_elem? xs k ≡ some a → slice_get xs k ≡ Some a
  get-found [] k a e = absurd (some-ne-none a (sym e))
  get-found (x ∷ xs) zero a e = ap Some (some-injective x a e)
  get-found (x ∷ xs) (suc k) a e = get-found xs k a e

  pub index-found : (xs : List A) (k : ℕ) (a d : A) → get_elem? xs k ≡ some a → get_or xs k d ≡ a
  index-found [] k a d e = absurd (some-ne-none a (sym e))
  index-found (x ∷ xs) zero a d e = some-injective x a e
  index-found (x ∷ xs) (suc k) a d e = index-found xs k a d e

  pub take-set_below : (n : ℕ) (xs : List A) (i : ℕ) (a : A) → take n (set xs i a) ≡ set (take n xs) i a
  take-set_below zero xs i a = refl
  take-set_below (suc n) [] i a = refl
  take-set_below (suc n) (x ∷ xs) zero a = refl
  take-set_below (suc n) (x ∷ xs) (suc i) a = ap (λ ys. x ∷ ys) (take-set_below n xs i a)

  pub take-index : (n : ℕ) (xs : List A) (i : ℕ) (d : A) → i < n → get_or (take n xs) i d ≡ get_or xs i d
  take-index zero xs i d h = absurd (omega arith)
  take-index (suc n) [] i d h = refl
  take-index (suc n) (x ∷ xs) zero d h = refl
  take-index (suc n) (x ∷ xs) (suc i) d h = take-index n xs i d (omega arith)

  pub length-take_below : (n : ℕ) (xs : List A) → n ≤ length xs → length (take n xs) ≡ n
  length-take_below zero xs h = refl
  length-take_below (suc n) [] h = absurd (omega arith)
  length-take_below (suc n) (x ∷ xs) h = ap suc (length-take_below n xs (omega arith))

-- ---- words written one after another

-- the words below e are those of the source
pub record IsWritten (old new : Network) (source : List ℕ) (e : ℕ) : Type 0 where
  pub rest : new ≡ record old { words = new.words }
  pub length_is : length new.words ≡ edge_count old.nodes
  pub written : (k : ℕ) → k < e → slice_index new.words k ≡ slice_index source k

pub IsWritten-none : (net : Network) (source : List ℕ) → length net.words ≡ edge_count net.nodes → IsWritten net net source 0
IsWritten-none net source l = record { rest = refl; length_is = l; written = λ k h. absurd (omega arith) }

pub IsWritten-more : (old net next : Network) (source : List ℕ) (e word : ℕ) → IsWritten old net source e → next ≡ record net { words = slice_set net.words e word } →
    get_elem? source e ≡ some word → e < edge_count old.nodes → IsWritten old next source (e + 1)
IsWritten-more old net next source e word h put found below =
    let words : next.words ≡ slice_set net.words e word = ap (λ (n : Network). n.words) put in
    let F : Network → Network = λ n. record n { words = slice_set net.words e word } in
    let all : next ≡ record old { words = slice_set net.words e word } = put ∙ ap F h.rest in
    record {
      rest = all ∙ ap (λ (ws : List ℕ). let n : Network = record old { words = ws } in n) (sym words);
      length_is = ap length words ∙ length-set net.words e word ∙ h.length_is;
      written = λ k l. elim (cases_eq k e) [
        | inl same ↦ rw same (ap (λ (ws : List ℕ). slice_index ws e) words ∙ get_or-set_same net.words e word 0 (omega (arith, h.length_is)) ∙ sym (index-found source e word 0 found))
        | inr differ ↦ ap (λ (ws : List ℕ). slice_index ws k) words ∙ get_or-set_other net.words e k word 0 differ ∙ h.written k (omega arith)
      ];
    }

pub IsWritten-all : (old new : Network) (source : List ℕ) (e : ℕ) → IsWritten old new source e → edge_count old.nodes ≤ e → edge_count old.nodes ≤ length source →
    new ≡ record old { words = take (edge_count old.nodes) source }
IsWritten-all old new source e h end enough =
    let n = edge_count old.nodes in
    let words : new.words ≡ take n source =
    same_number_lists new.words (take n source) (h.length_is ∙ sym (length-take_below n source enough))
    (λ k b. h.written k (omega (arith, h.length_is)) ∙ sym (take-index n source k 0 (omega (arith, h.length_is)))) in
    h.rest ∙ ap (λ (ws : List ℕ). let net : Network = record old { words = ws } in net) words
