-- The vertices that are kept: neighbours differ, and each is one of the points.
use Rattle.std.proofs.Common.{◌≡◌, ◌≢◌, refl, sym, ap, ◌∙◌, subst, arith, inl, inr, ℕ, zero, suc, ◌+◌, ◌-◌, ◌<◌, ◌≤◌, List, [], ◌∷◌, length, take, Bool, true, false, cond}
use Rattle.std.specs.Prelude.{nat_lt, ◌&&◌}
use Rattle.std.specs.Ordering.{int_eq}
use Rattle.std.specs.List.{dedup, dedup_from}
use Rattle.std.proofs.lemmas.Bool.{false≢true, cases_lt, ltb-true, lt-ltb}
use Rattle.std.proofs.lemmas.List.{get_or-take, length-take-le}
use Rattle.poly_exact.specs.declared.points.Point.{Point}
use Rattle.poly_exact.specs.Rings.{vertex, next}
use Rattle.poly_exact.specs.Small.{IsSmall}
use Rattle.poly_exact.specs.Located.{AreSmall}
use Rattle.poly_exact.specs.Checks.{AreProper}
use Rattle.poly_exact.specs.Kept.{same_point, without_closing, kept}
use Rattle.std.proofs.lemmas.Bool.Decides.{Decides-int_eq}
use Rattle.poly_exact.proofs.Built.{differ}
use Rattle.poly_exact.proofs.RingLaw.{next-more, next-last}

-- neighbours differ, the last and the first aside
pub record Differ (vs : List Point) : Type 0 where
  pub each : (i : ℕ) → suc i < length vs → vertex vs i ≢ vertex vs (suc i)

-- ---- one point more

first_step : (k : Point) (us vs : List Point) (b : Bool) → vertex us 0 ≡ k → vertex (cond b us (k ∷ vs)) 0 ≡ k
first_step k us vs true h = h
first_step k us vs false h = refl

first-dedup : (k : Point) (xs : List Point) → vertex (dedup_from same_point k xs) 0 ≡ k
first-dedup k [] = refl
first-dedup k (x ∷ xs) = first_step k (dedup_from same_point k xs) (dedup_from same_point x xs) (same_point x k) (first-dedup k xs)

Differ-cons : (k : Point) (vs : List Point) → vertex vs 0 ≢ k → Differ vs → Differ (k ∷ vs)
Differ-cons k vs n h = record { each = pick } where
  pick : (i : ℕ) → suc i < length (k ∷ vs) → vertex (k ∷ vs) i ≢ vertex (k ∷ vs) (suc i)
  pick zero b e = n (sym e)
  pick (suc i) b e = h.each i (omega arith) e

differ_step : (k x : Point) (us vs : List Point) (b : Bool) → same_point x k ≡ b → vertex vs 0 ≡ x → Differ us → Differ vs → Differ (cond b us (k ∷ vs))
differ_step k x us vs true s f u v = u
differ_step k x us vs false s f u v = Differ-cons k vs (λ e. differ x k s (sym f ∙ e)) v

Differ-dedup_from : (k : Point) (xs : List Point) → Differ (dedup_from same_point k xs)
Differ-dedup_from k [] = record { each = λ i b. absurd (omega arith) }
Differ-dedup_from k (x ∷ xs) =
    differ_step k x (dedup_from same_point k xs) (dedup_from same_point x xs) (same_point x k) refl (first-dedup x xs) (Differ-dedup_from k xs) (Differ-dedup_from x xs)

Differ-dedup : (xs : List Point) → Differ (dedup same_point xs)
Differ-dedup [] = record { each = λ i b. absurd (omega arith) }
Differ-dedup (x ∷ xs) = Differ-dedup_from x xs

-- ---- vertices within the limits

AreSmall-tail : (k : Point) (vs : List Point) → AreSmall (k ∷ vs) → AreSmall vs
AreSmall-tail k vs h = record { each = λ i b. h.each (suc i) (omega arith) }

AreSmall-cons : (k : Point) (vs : List Point) → IsSmall k → AreSmall vs → AreSmall (k ∷ vs)
AreSmall-cons k vs s h = record { each = pick } where
  pick : (i : ℕ) → i < length (k ∷ vs) → IsSmall (vertex (k ∷ vs) i)
  pick zero b = s
  pick (suc i) b = h.each i (omega arith)

small_step : (k : Point) (us vs : List Point) (b : Bool) → IsSmall k → AreSmall us → AreSmall vs → AreSmall (cond b us (k ∷ vs))
small_step k us vs true s u v = u
small_step k us vs false s u v = AreSmall-cons k vs s v

AreSmall-dedup_from : (k : Point) (xs : List Point) → IsSmall k → AreSmall xs → AreSmall (dedup_from same_point k xs)
AreSmall-dedup_from k [] s h = AreSmall-cons k [] s h
AreSmall-dedup_from k (x ∷ xs) s h =
    let t = AreSmall-tail x xs h in
    let i : IsSmall x = h.each 0 (omega arith) in
    small_step k (dedup_from same_point k xs) (dedup_from same_point x xs) (same_point x k) s (AreSmall-dedup_from k xs s t) (AreSmall-dedup_from x xs i t)

AreSmall-dedup : (xs : List Point) → AreSmall xs → AreSmall (dedup same_point xs)
AreSmall-dedup [] h = h
AreSmall-dedup (x ∷ xs) h = AreSmall-dedup_from x xs (h.each 0 (omega arith)) (AreSmall-tail x xs h)

-- ---- the closing point

both_true : (a b : Bool) → (a && b) ≡ true → (a ≡ true) × (b ≡ true)
both_true true b e = (refl, e)
both_true false b e = absurd (false≢true e)

both_false : (a b : Bool) → a ≡ true → (a && b) ≡ false → b ≡ false
both_false true b e f = f
both_false false b e f = absurd (false≢true e)

same_is : (a b : Point) → same_point a b ≡ true → a ≡ b
same_is a b e =
    let h = both_true (int_eq a.x b.x) (int_eq a.y b.y) e in
    let x = (Decides-int_eq a.x b.x).0 h.0 in
    let y = (Decides-int_eq a.y b.y).0 h.1 in
    λ i. record { x = x i; y = y i }

module _ (vs : List Point) where
  n : ℕ
  n = length vs - 1

  abbrev pub front : List Point
  front = take (length vs - 1) vs

  length-front : length front ≡ length vs - 1
  length-front = length-take-le (length vs - 1) vs (omega arith)

  vertex-front : (i : ℕ) → i < length vs - 1 → vertex front i ≡ vertex vs i
  vertex-front i b = get_or-take (length vs - 1) vs i _ b

  small_front : AreSmall vs → AreSmall front
  small_front h = record { each = λ i b. let e = length-front in let j : i < length vs - 1 = omega arith in subst IsSmall (sym (vertex-front i j)) (h.each i (omega arith)) }

  proper_front : Differ vs → 1 < length vs → vertex vs 0 ≡ vertex vs (length vs - 1) → AreProper front
  proper_front h some e = record { each = each } where
    each : (k : ℕ) → k < length front → vertex front k ≢ vertex front (next front k)
    each k b g =
        let l = length-front in
        let kb : k < length vs - 1 = omega arith in
        elim (cases_lt (k + 1) (length vs - 1)) [
          | inl x ↦ (let nx : next front k ≡ k + 1 = next-more front k (omega arith) in
              h.each k (omega arith) (sym (vertex-front k kb) ∙ g ∙ ap (vertex front) nx ∙ vertex-front (k + 1) x ∙ ap (vertex vs) (omega arith)))
          | inr x ↦ (let nx : next front k ≡ 0 = next-last front k (omega arith) in
              let last : length vs - 1 ≡ suc k = omega arith in
              h.each k (omega arith) (sym (vertex-front k kb) ∙ g ∙ ap (vertex front) nx ∙ vertex-front 0 (omega arith) ∙ e ∙ ap (vertex vs) last))
        ]

  proper_open : Differ vs → 1 < length vs → vertex vs 0 ≢ vertex vs (length vs - 1) → AreProper vs
  proper_open h some n = record { each = each } where
    each : (k : ℕ) → k < length vs → vertex vs k ≢ vertex vs (next vs k)
    each k b g = elim (cases_lt (k + 1) (length vs)) [
      | inl x ↦ h.each k (omega arith) (g ∙ ap (vertex vs) (next-more vs k x) ∙ ap (vertex vs) (omega arith))
      | inr x ↦ (let last : length vs - 1 ≡ k = omega arith in n (sym (ap (vertex vs) last ∙ g ∙ ap (vertex vs) (next-last vs k (omega arith)))))
    ]

small_closing : (vs : List Point) → AreSmall vs → AreSmall (without_closing vs)
small_closing vs h = step (nat_lt 1 (length vs) && same_point (vertex vs 0) (vertex vs (length vs - 1))) where
  step : (b : Bool) → AreSmall (cond b (front vs) vs)
  step true = small_front vs h
  step false = h

proper_closing : (vs : List Point) → Differ vs → 3 ≤ length (without_closing vs) → AreProper (without_closing vs)
proper_closing vs h = step (nat_lt 1 (length vs) && same_point (vertex vs 0) (vertex vs (length vs - 1))) refl where
  step : (b : Bool) → (nat_lt 1 (length vs) && same_point (vertex vs 0) (vertex vs (length vs - 1))) ≡ b → 3 ≤ length (cond b (front vs) vs) → AreProper (cond b (front vs) vs)
  step true e l =
      let t = both_true (nat_lt 1 (length vs)) (same_point (vertex vs 0) (vertex vs (length vs - 1))) e in
      proper_front vs h (ltb-true 1 (length vs) t.0) (same_is _ _ t.1)
  step false e l =
      let some : 1 < length vs = omega arith in
      proper_open vs h some (differ _ _ (both_false (nat_lt 1 (length vs)) (same_point (vertex vs 0) (vertex vs (length vs - 1))) (lt-ltb 1 (length vs) some) e))

pub AreSmall-kept : (ps : List Point) → AreSmall ps → AreSmall (kept ps)
AreSmall-kept ps h = small_closing (dedup same_point ps) (AreSmall-dedup ps h)

pub AreProper-kept : (ps : List Point) → 3 ≤ length (kept ps) → AreProper (kept ps)
AreProper-kept ps l = proper_closing (dedup same_point ps) (Differ-dedup ps) l
