-- The base relations of pieces, one after another, are those of all edges.
use Rattle.std.proofs.Common.{◌≡◌, ℕ, suc, ◌+◌, ◌-◌, ◌*◌, ◌<◌, ◌≤◌, min, List, [], ◌∷◌, ◌++◌, length, get_or, refl}
use Rattle.std.proofs.Common.{sym, ap, subst, ◌∙◌, inl, inr, arith, length-append, Result, Ok, Err, IfOk, Vec}
use Rattle.std.specs.Prelude.{slice_index}
use Rattle.std.specs.Global.{Global}
use Rattle.std.proofs.lemmas.Bool.{cases_lt}
use Rattle.std.proofs.lemmas.List.{get_or_append_left, get_or-append_right}
use Rattle.calculus_table.specs.declared.Memory.{Memory}
use Rattle.poly_exact.specs.declared.points.Point.{Point}
use Rattle.geo_sound.specs.Bases.{IsBaseAt, AreBases, IsPiece, AreJoined}

module _ (rings : List (List Point)) where
  pub AreBases-append : (from : ℕ) (xs ys : List ℕ) → AreBases rings from xs → AreBases rings (from + length xs) ys →
      AreBases rings from (xs ++ ys)
  AreBases-append from xs ys h k = record {
    each = λ d l. elim (cases_lt d (length xs)) [
      | inl x ↦ subst (IsBaseAt rings (from + d)) (sym (get_or_append_left xs ys 0 d x)) (h.each d x)
      | inr y ↦ (let place : from + length xs + (d - length xs) ≡ from + d = omega arith in
          subst (IsBaseAt rings (from + d)) (sym (get_or-append_right xs ys (length xs) d 0 refl y))
          (subst (λ e. IsBaseAt rings e (slice_index ys (d - length xs))) place
          (k.each (d - length xs) (omega (arith, l, length-append xs ys)))))
    ];
  }

  AreBases-none : (from : ℕ) → AreBases rings from []
  AreBases-none from = record { each = λ d l. absurd (omega arith) }

  -- the pieces from number k on
  abbrev pub ArePieces : ℕ → ℕ → ℕ → List (Result (Vec ℕ Global) Memory) → Type 0
  ArePieces edges size k pieces = (i : ℕ) (d : Result (Vec ℕ Global) Memory) → i < length pieces →
      IfOk (get_or pieces i d) (λ bases. IsPiece rings edges size (k + i) bases.items)

  record Joined (edges size k n : ℕ) (bases : List ℕ) : Type 0 where
    bases_are : AreBases rings (min edges (k * size)) bases
    length_is : min edges (k * size) + length bases ≡ min edges ((k + n) * size)

  later : (edges size k : ℕ) (piece : Result (Vec ℕ Global) Memory) (pieces : List (Result (Vec ℕ Global) Memory)) →
      ArePieces edges size k (piece ∷ pieces) → ArePieces edges size (suc k) pieces
  later edges size k piece pieces h = λ i d l.
      let e : k + suc i ≡ suc k + i = omega arith in
      subst (λ j. IfOk (get_or pieces i d) (λ bases. IsPiece rings edges size j bases.items)) e
      (h (suc i) d (omega arith))

  joined : (edges size k : ℕ) (pieces : List (Result (Vec ℕ Global) Memory)) (bases : List ℕ) →
      ArePieces edges size k pieces → AreJoined pieces bases → Joined edges size k (length pieces) bases
  joined edges size k [] bases h e = record {
    bases_are = subst (AreBases rings (min edges (k * size))) (sym e) (AreBases-none (min edges (k * size)));
    length_is = (let len = ap length e in let z : (k + 0) * size ≡ k * size = omega arith in omega arith);
  }
  joined edges size k (Err fault ∷ pieces) bases h e = absurd e
  joined edges size k (Ok piece ∷ pieces) bases h e =
      let zeroth : k + 0 ≡ k = omega arith in
      let first : IsPiece rings edges size k piece.items =
      subst (λ j. IsPiece rings edges size j piece.items) zeroth (h 0 (Ok piece) (omega arith)) in
      let rest = joined edges size (suc k) pieces e.0 (later edges size k (Ok piece) pieces h) e.2 in
      let len = ap length e.1 ∙ length-append piece.items e.0 in
      let next : suc k * size ≡ k * size + size = omega arith in
      let whole : (k + suc (length pieces)) * size ≡ (suc k + length pieces) * size = omega arith in
      let begins : min edges (k * size) ≡ k * size = omega (arith, first.starts) in
      let ends : k * size + length piece.items ≡ min edges (suc k * size) =
      omega (arith, first.starts, first.length_is, next) in
      record {
        bases_are = subst (AreBases rings (min edges (k * size))) (sym e.1)
            (subst (λ f. AreBases rings f (piece.items ++ e.0)) (sym begins)
            (AreBases-append (k * size) piece.items e.0 first.bases_are
            (subst (λ f. AreBases rings f e.0) (sym ends) rest.bases_are)));
        length_is = omega (arith, len, begins, ends, rest.length_is, whole);
      }

  pub pieces-bases : (edges size : ℕ) (pieces : List (Result (Vec ℕ Global) Memory)) (bases : List ℕ) →
      edges ≤ length pieces * size →
      ((i : ℕ) (d : Result (Vec ℕ Global) Memory) → i < length pieces →
      IfOk (get_or pieces i d) (λ bases. IsPiece rings edges size i bases.items)) → AreJoined pieces bases →
      AreBases rings 0 bases × (length bases ≡ edges)
  pieces-bases edges size pieces bases enough h e =
      let from_none = λ (i : ℕ) (d : Result (Vec ℕ Global) Memory) (l : i < length pieces).
      (let same : i ≡ 0 + i = omega arith in
      subst (λ j. IfOk (get_or pieces i d) (λ bases. IsPiece rings edges size j bases.items)) same (h i d l)) in
      let j = joined edges size 0 pieces bases from_none e in
      let start : min edges (0 * size) ≡ 0 = omega arith in
      let all : (0 + length pieces) * size ≡ length pieces * size = omega arith in
      (subst (λ f. AreBases rings f bases) start j.bases_are, omega (arith, j.length_is, start, all, enough))

pub empty-joined : (pieces : List (Result (Vec ℕ Global) Memory)) → length pieces < 1 → AreJoined pieces []
empty-joined [] h = refl
empty-joined (piece ∷ pieces) h = absurd (omega arith)
