-- The numbers of facts and of versions.
use Rattle.std.proofs.Common.{◌≡◌, ℕ, zero, suc, ◌+◌, ◌-◌, ◌<◌, ◌≤◌, Bool, true, false, ◌==◌, List, [], ◌∷◌, ◌++◌, length, get_or, drop, filter, find, Some, refl, inl, inr, arith}
use Rattle.std.proofs.lemmas.Bool.{cases_lt, eq-eqb, ne_eqb}
use Rattle.std.proofs.lemmas.List.{get_or_append_left, get_or_push, length_push, get_or-drop, length-drop}
use Rattle.std.proofs.lemmas.List.Elements.{All-filter}
use Rattle.std.proofs.lemmas.List.Kept.{AllPairs-filter}
use Rattle.session_versions.specs.HeldFacts.{HeldFact, AreNumbered}
use Rattle.session_versions.specs.Versions.{VersionState}
use Rattle.session_versions.specs.Stores.{AreInRow}

-- fewer facts are numbered
pub AreNumbered-filter : (p : HeldFact → Bool) (helds : List HeldFact) (next : ℕ) → AreNumbered helds next → AreNumbered (filter p helds) next
AreNumbered-filter p helds next n = record {
  rising = AllPairs-filter (λ a b. a.number < b.number) p helds n.rising;
  below = All-filter p (λ held. held.number < next) helds n.below;
}

-- the first element that passes
find-first : {X : Type 0} (p : X → Bool) (xs : List X) (k : ℕ) (d : X) → k < length xs → ((j : ℕ) → j < k → p (get_or xs j d) ≡ false) → p (get_or xs k d) ≡ true →
    find p xs ≡ Some (get_or xs k d)
find-first p [] k d l before here = absurd (omega arith)
find-first p (x ∷ xs) zero d l before here = rw here refl
find-first p (x ∷ xs) (suc k) d l before here =
    let first : p x ≡ false = before 0 (omega arith) in
    rw first (find-first p xs k d (omega arith) (λ j b. before (suc j) (omega arith)) here)

-- ---- the numbers of versions

pub AreInRow-push : (versions : List VersionState) (v : VersionState) → AreInRow versions v.number → AreInRow (versions ++ v ∷ []) (v.number + 1)
AreInRow-push versions v r = record {
  each = λ k w l.
      let long : length (versions ++ v ∷ []) ≡ length versions + 1 = length_push versions v in
      elim (cases_lt k (length versions)) [
        | inl b ↦ (let old = r.each k w b in rw (get_or_append_left versions (v ∷ []) w k b) (omega (arith, old, long)))
        | inr b ↦ rw (get_or_push versions v w k (omega arith)) (omega (arith, long))
      ];
}

pub AreInRow-drop : (n : ℕ) (versions : List VersionState) (next : ℕ) → n ≤ length versions → AreInRow versions next → AreInRow (drop n versions) next
AreInRow-drop n versions next b r = record {
  each = λ k v l.
      let long : length (drop n versions) ≡ length versions - n = length-drop n versions in
      let old = r.each (n + k) v (omega (arith, long)) in
      rw (get_or-drop n versions k v) (omega (arith, old, long));
}

-- the version with a number
pub find-number : (versions : List VersionState) (next number k : ℕ) (v : VersionState) → AreInRow versions next → k < length versions → number + length versions ≡ next + k →
    find (λ w. w.number == number) versions ≡ Some (get_or versions k v)
find-number versions next number k v r l e =
    find-first (λ w. w.number == number) versions k v l
    (λ j b. let old = r.each j v (omega arith) in ne_eqb (get_or versions j v).number number (λ same. omega (arith, old, same)))
    (let old = r.each k v l in eq-eqb (get_or versions k v).number number (omega (arith, old)))
