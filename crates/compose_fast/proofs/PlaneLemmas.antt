-- Planes one after another.
use Rattle.std.proofs.Common.{◌≡◌, ◌≢◌, ◌↔◌, ℕ, suc, ◌+◌, ◌*◌, ◌/◌, ◌%◌, ◌<◌, ◌++◌, List, length, get_or, replicate, refl, sym, ap, subst, ◌-◌, ◌∙◌, arith, w8, Fits, bit_and, bit_or, inl, inr}
use Rattle.std.proofs.lemmas.Bool.{cases_eq, cases_lt}
use Rattle.std.proofs.lemmas.Simd.{get_or-replicate}
use Rattle.std.proofs.lemmas.List.{get_or_append_left, get_or-append_right}
use Rattle.std.specs.Int.Bits.{or_zero_l}
use Rattle.calculus_table.specs.Rel.{Has}
use Rattle.calculus_table.specs.Composition.{union_below}
use Rattle.calculus_table.proofs.Sets.{Has-union, Has-union_l, Has-union_r, not_Has-empty}
use Rattle.compose_fast.specs.Lanes.{HasLanes, by_nibbles}
use Rattle.compose_fast.specs.Planes.{looked_up, along_at}

pub no-planes : (set bytes : List ℕ) (p at : ℕ) → HasLanes 16 (replicate 16 0) (λ k. along_at set bytes 0 p (at + k))
unfolding union_below
no-planes set bytes p at = record { long = refl; each = λ k l. get_or-replicate 16 k 0 0 l }

pub plane-step : (set bytes all low high v al res : List ℕ) (p q n at : ℕ) → n ≡ suc q → ((e : ℕ) → Fits w8 (get_or bytes e 0)) →
    HasLanes 16 all (λ k. along_at set bytes q p (at + k)) → HasLanes 16 low (λ k. get_or set (256 * p + 32 * q + k) 0) → HasLanes 16 high (λ k. get_or set (256 * p + 32 * q + 16 + k) 0) →
    HasLanes 16 v (λ k. get_or bytes (256 * q + at + k) 0) → HasLanes 16 al (λ k. by_nibbles low high (get_or v k 0)) → HasLanes 16 res (λ k. bit_or (get_or all k 0) (get_or al k 0)) →
    HasLanes 16 res (λ k. along_at set bytes n p (at + k))
unfolding union_below
plane-step set bytes all low high v al res p q n at e fits a l h w x r = rw e (record {
  long = r.long;
  each = λ k b.
      let y = get_or bytes (256 * q + (at + k)) 0 in
      let small = (fits (256 * q + (at + k))).fits in
      let read : get_or v k 0 ≡ y = w.each k b ∙ ap (λ i. get_or bytes i 0) (omega arith) in
      let one : get_or low (y % 16) 0 ≡ get_or set (256 * p + 32 * q + y % 16) 0 = l.each (y % 16) (omega arith) in
      let two : get_or high (y / 16) 0 ≡ get_or set (256 * p + 32 * q + 16 + y / 16) 0 = h.each (y / 16) (omega arith) in
      let here : get_or al k 0 ≡ looked_up set p q y =
      x.each k b ∙ ap (by_nibbles low high) read ∙ ap (λ z. bit_or z (get_or high (y / 16) 0)) one ∙ ap (bit_or (get_or set (256 * p + 32 * q + y % 16) 0)) two in
      r.each k b ∙ ap (λ z. bit_or z (get_or al k 0)) (a.each k b) ∙ ap (bit_or (along_at set bytes q p (at + k))) here;
})

-- a bit for each lane that isn't within in some plane below n
pub record AreGapsBelow (x f : ℕ → ℕ → ℕ) (gaps n : ℕ) : Type 0 where
  pub clear : (k : ℕ) → k < 16 → ¬ Has gaps k → (p : ℕ) → p < n → bit_and (x p k) (f p k) ≡ x p k
  pub gap : (k : ℕ) → Has gaps k → (p : ℕ) × (p < n) × (bit_and (x p k) (f p k) ≢ x p k)
  pub below : (k : ℕ) → Has gaps k → k < 16

pub AreGapsBelow-none : (x f : ℕ → ℕ → ℕ) → AreGapsBelow x f 0 0
AreGapsBelow-none x f = record {
  clear = λ k l none p b. absurd (omega arith);
  gap = λ k h. absurd (not_Has-empty k h);
  below = λ k h. absurd (not_Has-empty k h);
}

pub AreGapsBelow-step : (x f : ℕ → ℕ → ℕ) (v al met : List ℕ) (gaps d p n here : ℕ) (bytes : List ℕ) → n ≡ suc p → AreGapsBelow x f gaps p →
    HasLanes 16 v (λ k. x p k) → HasLanes 16 al (λ k. f p k) → HasLanes 16 met (λ k. bit_and (get_or v k 0) (get_or al k 0)) →
    ((k : ℕ) → k < 16 → Has d k ↔ (get_or met k 0 ≢ get_or v k 0)) → ((k : ℕ) → Has d k → k < 16) → AreGapsBelow x f (bit_or gaps d) n
AreGapsBelow-step x f v al met gaps d p n here bytes e s w a m bit small = record {
  clear = λ k b none q l. elim (cases_lt q p) [
    | inl below ↦ s.clear k b (λ h. none (Has-union_l gaps d k h)) q below
    | inr above ↦
        (let same : q ≡ p = omega arith in
        rw same (elim (cases_eq (get_or met k 0) (get_or v k 0)) [
          | inl equal ↦ ap (λ z. bit_and z (f p k)) (sym (w.each k b)) ∙ ap (bit_and (get_or v k 0)) (sym (a.each k b)) ∙ sym (m.each k b) ∙ equal ∙ w.each k b
          | inr differ ↦ absurd (none (Has-union_r gaps d k ((bit k b).1 differ)))
        ]))
  ];
  gap = λ k h. elim (Has-union gaps d k h) [
    | inl old ↦ (let g = s.gap k old in (g.0, omega (arith, g.1), g.2))
    | inr new ↦ (let b = small k new in
        (p, omega arith, λ q. (bit k b).0 new (m.each k b ∙ ap (λ z. bit_and z (get_or al k 0)) (w.each k b) ∙ ap (bit_and (x p k)) (a.each k b) ∙ q ∙ sym (w.each k b))))
  ];
  below = λ k h. elim (Has-union gaps d k h) [ inl old ↦ s.below k old | inr new ↦ small k new ];
}

-- ---- one plane, with the table in two vectors

module _ (set low high bytes : List ℕ) (set-is : low ++ high ≡ set) (p : length low ≡ 16) (q : length high ≡ 16) (fits : (e : ℕ) → Fits w8 (get_or bytes e 0)) where
  low-lanes : HasLanes 16 low (λ k. get_or set (256 * 0 + 32 * 0 + k) 0)
  low-lanes = rw (sym set-is) (record { long = p; each = λ k l. sym (ap (λ i. get_or (low ++ high) i 0) (omega arith) ∙ get_or_append_left low high 0 k (omega (arith, p))) })

  high-lanes : HasLanes 16 high (λ k. get_or set (256 * 0 + 32 * 0 + 16 + k) 0)
  high-lanes = rw (sym set-is) (record {
    long = q;
    each = λ k l.
        let at : 16 + k - 16 ≡ k = omega arith in
        sym (ap (λ i. get_or (low ++ high) i 0) (omega arith) ∙ get_or-append_right low high 16 (16 + k) 0 p (omega arith) ∙ ap (λ i. get_or high i 0) at);
  })

  along-one : (w al : List ℕ) (there : ℕ) → HasLanes 16 w (λ k. get_or bytes (there + k) 0) → HasLanes 16 al (λ k. by_nibbles low high (get_or w k 0)) →
      HasLanes 16 al (λ k. along_at set bytes 1 0 (there + k))
  along-one w al there h x =
      plane-step set bytes (replicate 16 0) low high w al al 0 0 1 there refl fits (no-planes set bytes 0 there) low-lanes high-lanes
      (record { long = h.long; each = λ k l. h.each k l ∙ ap (λ i. get_or bytes i 0) (omega arith) }) x
      (record { long = x.long; each = λ k l. sym (ap (λ z. bit_or z (get_or al k 0)) (get_or-replicate 16 k 0 0 l) ∙ or_zero_l (get_or al k 0)) })

  -- a bit for each lane that isn't within
  pub AreGapsBelow-one : (v w al met : List ℕ) (d here there : ℕ) → HasLanes 16 v (λ k. get_or bytes (here + k) 0) → HasLanes 16 w (λ k. get_or bytes (there + k) 0) →
      HasLanes 16 al (λ k. by_nibbles low high (get_or w k 0)) → HasLanes 16 met (λ k. bit_and (get_or v k 0) (get_or al k 0)) →
      ((k : ℕ) → k < 16 → Has d k ↔ (get_or met k 0 ≢ get_or v k 0)) → ((k : ℕ) → Has d k → k < 16) →
      AreGapsBelow (λ p k. get_or bytes (256 * p + (here + k)) 0) (λ p k. along_at set bytes 1 p (there + k)) d 1
  AreGapsBelow-one v w al met d here there f h x m bit small =
      let x' = λ (p k : ℕ). get_or bytes (256 * p + (here + k)) 0 in
      let f' = λ (p k : ℕ). along_at set bytes 1 p (there + k) in
      subst (λ g. AreGapsBelow x' f' g 1) (or_zero_l d)
      (AreGapsBelow-step x' f' v al met 0 d 0 1 here bytes refl (AreGapsBelow-none x' f')
      (record { long = f.long; each = λ k l. f.each k l ∙ ap (λ i. get_or bytes i 0) (omega arith) }) (along-one w al there h x) m bit small)

-- what the two vectors hold
pub table-read : (low high : List ℕ) (f : ℕ → ℕ) → HasLanes 16 low f → HasLanes 16 high (λ k. f (16 + k)) → (d : ℕ) → d < 32 → get_or (low ++ high) d 0 ≡ f d
table-read low high f p q d l = elim (cases_lt d 16) [
  | inl below ↦ get_or_append_left low high 0 d (omega (arith, p.long)) ∙ p.each d below
  | inr above ↦
      (let at : 16 + (d - 16) ≡ d = omega arith in
      get_or-append_right low high 16 d 0 p.long above ∙ q.each (d - 16) (omega arith) ∙ ap f at)
]
