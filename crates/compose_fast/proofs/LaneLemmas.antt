-- What the operations on vectors of 16 bytes hold at each lane.
use Rattle.std.proofs.Common.{◌≡◌, ◌≢◌, ◌↔◌, ℕ, ◌%◌, ◌^◌, ◌<◌, ◌≤◌, List, Bool, true, false, not, cond, eqb, length, get_or, map, replicate, refl, sym, ap, subst, ◌∙◌, arith, w8, w64, inl, inr}
use Rattle.std.specs.Int.{bit_at}
use Rattle.std.specs.Simd.Lanes.{zip2, mask_l, top}
use Rattle.std.proofs.lemmas.Simd.{length-zip2, get_or-zip2, get_or-replicate, bit_mask_l, tops_compared, mask_l-mod, mask_l-lt, length-swz_l, get_or-swz_l_below, swz_l, SwzOk, SwzOk-from_below, Each1-from_get_or}
use Rattle.std.proofs.lemmas.Bool.{eqb-true, eq-eqb, cases_lt}
use Rattle.std.proofs.lemmas.Nat.Bits.{bit_at_above, bit_at_or, same_from_bits}
use Rattle.std.specs.Prelude.{slice_index, bit_or}
use Rattle.compose_fast.specs.Lanes.{HasLanes}

-- an operator on two vectors
pub HasLanes-zip2 : (f : ℕ → ℕ → ℕ) (a b : List ℕ) → length a ≡ 16 → length b ≡ 16 → HasLanes 16 (zip2 f a b) (λ k. f (get_or a k 0) (get_or b k 0))
HasLanes-zip2 f a b p q = record {
  long = length-zip2 f a b (p ∙ sym q) ∙ p;
  each = λ k l. get_or-zip2 f a b k 0 0 0 (omega arith) (omega arith);
}

-- an operator on a vector and a splat
pub HasLanes-splat : (f : ℕ → ℕ → ℕ) (a : List ℕ) (x : ℕ) → length a ≡ 16 → HasLanes 16 (zip2 f a (replicate 16 x)) (λ k. f (get_or a k 0) x)
HasLanes-splat f a x p =
    let h = HasLanes-zip2 f a (replicate 16 x) p refl in
    record { long = h.long; each = λ k l. h.each k l ∙ ap (f (get_or a k 0)) (get_or-replicate 16 k x 0 l) }

module _ (js : List ℕ) (f : ℕ → ℕ) (h : HasLanes 16 js f) (small : (k : ℕ) → k < 16 → f k < 16) where
  -- positions below 16 may be looked up
  pub SwzOk-halves : SwzOk w8 16 16 0 js
  SwzOk-halves =
      let long = h.long in
      SwzOk-from_below w8 16 1 16 0 js refl (omega arith) (Each1-from_get_or (λ j. j < 16) js 0 (λ i l. omega (arith, h.each i (omega arith), small i (omega arith))))

  -- what the look-up gives
  pub HasLanes-look_up : (table : List ℕ) → HasLanes 16 (swz_l w8 16 table 0 js) (λ k. get_or table (f k) 0)
  HasLanes-look_up table =
      let long = h.long in
      record {
        long = length-swz_l w8 16 table 0 js ∙ long;
        each = λ k l.
            let e = h.each k l in
            get_or-swz_l_below w8 16 table 0 js k (omega arith) (omega (arith, small k l)) ∙ ap (λ j. get_or table j 0) (omega arith);
      }

abbrev pub differ : ℕ → ℕ → Bool
differ x y = not (eqb x y)

differ_by : (x y : ℕ) (b : Bool) → eqb x y ≡ b → (cond {A = ℕ} (not b) 1 0 ≡ 1) ↔ (x ≢ y)
differ_by x y true e = (λ h. absurd (omega arith), λ h. absurd (h (eqb-true x y e)))
differ_by x y false e = (λ h p. let q = eq-eqb x y p in absurd (cc), λ h. refl)

-- a bit of the mask of the lanes that differ
pub bit_of_differing : (a b : List ℕ) → length a ≡ 16 → length b ≡ 16 → (k : ℕ) → k < 16
    → (bit_at (mask_l (map (top 7) (zip2 (λ x y. cond (differ x y) 255 0) a b)) % 2 ^ 64) k ≡ 1) ↔ (get_or a k 0 ≢ get_or b k 0)
bit_of_differing a b p q k l =
    let tops : map (top 7) (zip2 (λ x y. cond (differ x y) 255 0) a b) ≡ zip2 differ a b = tops_compared w8 differ a b in
    let long : length (zip2 differ a b) ≡ 16 = length-zip2 differ a b (p ∙ sym q) ∙ p in
    let mask : mask_l (map (top 7) (zip2 (λ x y. cond (differ x y) 255 0) a b)) % 2 ^ 64 ≡ mask_l (zip2 differ a b) = ap (λ ms. mask_l ms % 2 ^ 64) tops ∙ mask_l-mod (zip2 differ a b) 64 (omega arith) in
    let bit : bit_at (mask_l (zip2 differ a b)) k ≡ cond (differ (get_or a k 0) (get_or b k 0)) 1 0 = bit_mask_l (zip2 differ a b) k ∙ ap (λ t. cond t 1 0) (get_or-zip2 differ a b k 0 0 false (omega arith) (omega arith)) in
    let e = ap (λ m. bit_at m k) mask ∙ bit in
    let t = differ_by (get_or a k 0) (get_or b k 0) _ refl in
    (λ h. t.0 (sym e ∙ h), λ h. e ∙ t.1 h)

-- and no other bit is set
pub differing-below : (a b : List ℕ) → length a ≡ 16 → length b ≡ 16 → (k : ℕ) → bit_at (mask_l (map (top 7) (zip2 (λ x y. cond (differ x y) 255 0) a b)) % 2 ^ 64) k ≡ 1 → k < 16
differing-below a b p q k h = elim (cases_lt k 16) [
  | inl l ↦ l
  | inr g ↦
      (let tops : map (top 7) (zip2 (λ x y. cond (differ x y) 255 0) a b) ≡ zip2 differ a b = tops_compared w8 differ a b in
      let long : length (zip2 differ a b) ≡ 16 = length-zip2 differ a b (p ∙ sym q) ∙ p in
      let mask : mask_l (map (top 7) (zip2 (λ x y. cond (differ x y) 255 0) a b)) % 2 ^ 64 ≡ mask_l (zip2 differ a b) = ap (λ ms. mask_l ms % 2 ^ 64) tops ∙ mask_l-mod (zip2 differ a b) 64 (omega arith) in
      let small : mask_l (zip2 differ a b) < 2 ^ 16 = subst (λ n. mask_l (zip2 differ a b) < 2 ^ n) long (mask_l-lt (zip2 differ a b)) in
      let none : bit_at (mask_l (zip2 differ a b)) k ≡ 0 = bit_at_above (mask_l (zip2 differ a b)) 16 k small g in
      let set : bit_at (mask_l (zip2 differ a b)) k ≡ 1 = ap (λ m. bit_at m k) (sym mask) ∙ h in
      absurd (omega arith))
]

-- a vector of zeros
pub HasLanes-zeros : HasLanes 16 (replicate 16 0) (λ _. 0)
HasLanes-zeros = record { long = refl; each = λ k l. get_or-replicate 16 k 0 0 l }

-- ---- words compared lane by lane

module _ (p : ℕ → ℕ → Bool) (a b : List ℕ) (n : ℕ) (long : length a ≡ n) (same : length b ≡ n) (few : n ≤ 64) where
  compared : mask_l (map (top 63) (zip2 (λ x y. cond (p x y) 18446744073709551615 0) a b)) % 2 ^ 64 ≡ mask_l (zip2 p a b)
  compared =
      let size : length (zip2 p a b) ≡ n = length-zip2 p a b (long ∙ sym same) ∙ long in
      ap (λ ms. mask_l ms % 2 ^ 64) (tops_compared w64 p a b) ∙ mask_l-mod (zip2 p a b) 64 (omega arith)

  pub bit_of_compared : (k : ℕ) → k < n →
      bit_at (mask_l (map (top 63) (zip2 (λ x y. cond (p x y) 18446744073709551615 0) a b)) % 2 ^ 64) k ≡ cond (p (get_or a k 0) (get_or b k 0)) 1 0
  bit_of_compared k l =
      ap (λ m. bit_at m k) compared ∙ bit_mask_l (zip2 p a b) k ∙ ap (λ t. cond t 1 0) (get_or-zip2 p a b k 0 0 false (omega arith) (omega arith))

  pub compared-below : (k : ℕ) → bit_at (mask_l (map (top 63) (zip2 (λ x y. cond (p x y) 18446744073709551615 0) a b)) % 2 ^ 64) k ≡ 1 → k < n
  compared-below k h = elim (cases_lt k n) [
    | inl l ↦ l
    | inr g ↦
        (let size : length (zip2 p a b) ≡ n = length-zip2 p a b (long ∙ sym same) ∙ long in
        let small : mask_l (zip2 p a b) < 2 ^ n = subst (λ m. mask_l (zip2 p a b) < 2 ^ m) size (mask_l-lt (zip2 p a b)) in
        let none : bit_at (mask_l (zip2 p a b)) k ≡ 0 = bit_at_above (mask_l (zip2 p a b)) n k small g in
        let set : bit_at (mask_l (zip2 p a b)) k ≡ 1 = ap (λ m. bit_at m k) (sym compared) ∙ h in
        absurd (omega arith))
  ]

equal_by : (x y : ℕ) (b : Bool) → eqb x y ≡ b → (cond {A = ℕ} b 1 0 ≡ 1) ↔ (x ≡ y)
equal_by x y true e = (λ h. eqb-true x y e, λ h. refl)
equal_by x y false e = (λ h. absurd (omega arith), λ h. let q = eq-eqb x y h in absurd (cc))

pub differ_at : (x y bit : ℕ) → bit ≡ cond (differ x y) 1 0 → (bit ≡ 1) ↔ (x ≢ y)
differ_at x y bit e = let t = differ_by x y _ refl in (λ h. t.0 (sym e ∙ h), λ h. e ∙ t.1 h)

pub equal_at : (x y bit : ℕ) → bit ≡ cond (eqb x y) 1 0 → (bit ≡ 1) ↔ (x ≡ y)
equal_at x y bit e = let t = equal_by x y _ refl in (λ h. t.0 (sym e ∙ h), λ h. e ∙ t.1 h)

-- ---- two rows at a time

pub HasLanes-two : (v : List ℕ) (f : ℕ → ℕ) → length v ≡ 2 → slice_index v 0 ≡ f 0 → slice_index v 1 ≡ f 1 → HasLanes 2 v f
HasLanes-two v f long p q = record {
  long = long;
  each = λ k l. elim (cases_lt k 1) [
    | inl low ↦ (let e : k ≡ 0 = omega arith in rw e p)
    | inr high ↦ (let e : k ≡ 1 = omega arith in rw e q)
  ];
}

pub two-unions : (a b x y : ℕ) → bit_or (bit_or a x) (bit_or b y) ≡ bit_or (bit_or (bit_or a b) x) y
two-unions a b x y = same_from_bits _ _ (λ r.
    omega (arith, bit_at_or (bit_or a x) (bit_or b y) r, bit_at_or a x r, bit_at_or b y r, bit_at_or (bit_or (bit_or a b) x) y r, bit_at_or (bit_or a b) x r, bit_at_or a b r))
