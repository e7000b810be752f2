-- The plain bytes at the front of a text, seen several at a time through the mask of those that are not.
use Rattle.std.proofs.Common.{◌≡◌, ℕ, suc, ◌+◌, ◌*◌, ◌%◌, ◌^◌, ◌<◌, ◌≤◌, Bool, true, false, not, cond, eqb, List, [], ◌∷◌, map, length, drop, replicate, Fits, w8, refl, sym, ap, ap₂, ◌∙◌, arith}
use Rattle.std.proofs.lemmas.Bool.{agree_below, agree_below_at, eq-eqb, ne_eqb}
use Rattle.std.proofs.lemmas.Simd.{chunk-drop, length-chunk, leading_from_mask_l, trailing_mask_l, mask_l-mod}
use Rattle.std.proofs.lemmas.List.{length-map, length-drop}
use Rattle.std.proofs.lemmas.List.Folds.{prefix_len-append}
use Rattle.std.proofs.lemmas.List.Sums.{prefix_len-le-length}
use Rattle.std.specs.List.{prefix_len}
use lib.Lanes.{chunk, zip2, mask_l, top, Each1}
use lib.Count.{count_trailing_zeros}
use Rattle.qsr_lex.specs.Bytes.{is_plain}

-- a byte at which a run of plain ones stops
abbrev pub is_stop : ℕ → Bool
is_stop b = not (is_plain b)

-- ---- lanes that were computed one by one

lanes-map : (h : ℕ → ℕ → ℕ) (f g : ℕ → ℕ) (v : List ℕ) → zip2 h (map f v) (map g v) ≡ map (λ x. h (f x) (g x)) v
lanes-map h f g [] = refl
lanes-map h f g (x ∷ xs) = ap (λ ys. h (f x) (g x) ∷ ys) (lanes-map h f g xs)

pub lanes : (h : ℕ → ℕ → ℕ) (f g : ℕ → ℕ) (v : List ℕ) {a b : List ℕ} → a ≡ map f v → b ≡ map g v → zip2 h a b ≡ map (λ x. h (f x) (g x)) v
lanes h f g v p q = ap₂ (zip2 h) p q ∙ lanes-map h f g v

-- the lanes give the test, as they do for each of the 256 bytes
tops : (f : ℕ → ℕ) → agree_below (λ x. top 7 (f x)) is_stop 256 ≡ true → (v : List ℕ) → Each1 (Fits w8) v → map (top 7) (map f v) ≡ map is_stop v
tops f all [] fits = refl
tops f all (x ∷ xs) fits = ap₂ (λ (t : Bool) ts. t ∷ ts) (agree_below_at (λ y. top 7 (f y)) is_stop 256 x all fits.0.fits) (tops f all xs fits.1)

pub mask-stops : (f : ℕ → ℕ) (v z : List ℕ) → length v ≡ 16 → Each1 (Fits w8) v → z ≡ map f v → agree_below (λ x. top 7 (f x)) is_stop 256 ≡ true
    → mask_l (map (top 7) z) % 2 ^ 64 ≡ mask_l (map is_stop v)
mask-stops f v z long fits e all =
    ap (λ bs. mask_l bs % 2 ^ 64) (ap (map (top 7)) e ∙ tops f all v fits) ∙ mask_l-mod (map is_stop v) 64 (omega (arith, length-map v is_stop))

-- ---- the run goes on after 16 plain bytes, and ends at the first that is not

not-not : (b : Bool) → not (not b) ≡ b
not-not true = refl
not-not false = refl

run-plain : (bs : List ℕ) → prefix_len (λ b. not (is_stop b)) bs ≡ prefix_len is_plain bs
run-plain [] = refl
run-plain (b ∷ bs) = ap₂ (λ c k. cond c (1 + k) 0) (not-not (is_plain b)) (run-plain bs)

no_bit : (plain : Bool) (k n m : ℕ) → k ≤ n → cond plain (1 + k) 0 ≡ suc n → (k ≡ n → m ≡ 0) → cond (not plain) 1 0 + 2 * m ≡ 0
no_bit true k n m le e rest = let none = rest (omega arith) in omega arith
no_bit false k n m le e rest = absurd (omega arith)

no_bits : (bs : List ℕ) → prefix_len is_plain bs ≡ length bs → mask_l (map is_stop bs) ≡ 0
no_bits [] e = refl
no_bits (b ∷ bs) e = no_bit (is_plain b) (prefix_len is_plain bs) (length bs) (mask_l (map is_stop bs)) (prefix_len-le-length is_plain bs) e (no_bits bs)

module _ (text : List ℕ) (at : ℕ) (room : at + 16 ≤ length text) where
  abbrev front : List ℕ
  front = chunk at 16 text

  abbrev back : List ℕ
  back = drop (at + 16) text

  long : length front ≡ 16
  long = length-chunk at 16 text room

  parts : prefix_len is_plain (drop at text) ≡ cond (eqb (prefix_len is_plain front) (length front)) (length front + prefix_len is_plain back) (prefix_len is_plain front)
  parts = ap (prefix_len is_plain) (chunk-drop at 16 text) ∙ prefix_len-append is_plain front back

  pub run-goes_on : mask_l (map is_stop front) ≡ 0 → prefix_len is_plain (drop at text) ≡ 16 + prefix_len is_plain back
  run-goes_on none =
      let whole : prefix_len is_plain front ≡ length front = sym (run-plain front) ∙ leading_from_mask_l is_stop front none in
      parts ∙ ap (λ c. cond c (length front + prefix_len is_plain back) (prefix_len is_plain front)) (eq-eqb _ _ whole) ∙ ap (λ n. n + prefix_len is_plain back) long

  pub run-ends : 0 < mask_l (map is_stop front) → prefix_len is_plain (drop at text) ≡ count_trailing_zeros 64 (mask_l (map is_stop front))
  run-ends some =
      let short = ne_eqb (prefix_len is_plain front) (length front) (λ whole. omega (arith, no_bits front whole)) in
      parts ∙ ap (λ c. cond c (length front + prefix_len is_plain back) (prefix_len is_plain front)) short
      ∙ sym (run-plain front) ∙ sym (trailing_mask_l is_stop 64 front (omega (arith, long)) some)

pub run-within : (text : List ℕ) (at : ℕ) → at ≤ length text → at + prefix_len is_plain (drop at text) ≤ length text
run-within text at le = omega (arith, prefix_len-le-length is_plain (drop at text), length-drop at text)
