-- The planes hold the sets.
use Rattle.std.proofs.Common.{◌≡◌, ◌≢◌, ℕ, zero, suc, [], ◌+◌, ◌*◌, ◌/◌, ◌%◌, ◌^◌, ◌<◌, ◌≤◌, List, length, get_or, replicate, refl, sym, ◌∙◌, ap, ap₂, subst, arith, inl, inr}
use Rattle.std.specs.Prelude.{slice_index, slice_set, bit_or}
use Rattle.std.proofs.lemmas.Bool.{cases_lt, cases_eq}
use Rattle.std.proofs.lemmas.List.{length-set, get_or-set_same, get_or-set_other, get_or-replicate, length-replicate, get_or_past, ext_get_or}
use Rattle.std.proofs.lemmas.List.FromFn.{length-map-range_with_len, get_or-map-range_with_len}
use Rattle.std.proofs.Math.Nat.{mul-le-mul_left, mul-le-mul_right, mul-suc, zero-mul, mod-one, mod-eq_of_lt, pow-le-pow_right}
use Rattle.compose_fast.specs.Nibbles.{byte}
use Rattle.calculus_table.specs.Algebra.{Algebra}
use Rattle.calculus_table.specs.Rel.{IsWithin}
use Rattle.calculus_table.specs.Composition.{full_of}
use Rattle.compose_fast.proofs.Parts.{byte-empty, bytes-more, full-lt}
use Rattle.edge_propagation.specs.Worklist.{Worklist, IsSized, AreBytesOf, set_of_bytes, sets_in}

pub zero-at : (n i : ℕ) → get_or {A = ℕ} (replicate n 0) i 0 ≡ 0
zero-at n i = elim (cases_lt i n) [
  | inl h ↦ get_or-replicate n i 0 0 h
  | inr h ↦ get_or_past (replicate n 0) i 0 (omega (arith, length-replicate {A = ℕ} n 0))
]

-- ---- a set from its bytes

-- the word that a byte is written as
pub shifted-byte : (y p : ℕ) → y < 256 → p < 8 → y * 2 ^ (8 * p) % 2 ^ 64 ≡ y * 2 ^ (8 * p)
shifted-byte y p small l =
    let exponent : 8 * p ≤ 56 = omega arith in
    let most : 2 ^ (8 * p) ≤ 2 ^ 56 = pow-le-pow_right {n = 2} (omega arith) exponent in
    let times : y * 2 ^ (8 * p) ≤ 255 * 2 ^ (8 * p) = mul-le-mul_right (2 ^ (8 * p)) (omega arith) in
    mod-eq_of_lt (omega arith)

pub set_of_bytes-none : (bytes : List ℕ) (at : ℕ) → set_of_bytes bytes 0 at ≡ 0
unfolding set_of_bytes
set_of_bytes-none bytes at = refl

pub set_of_bytes-more : (bytes : List ℕ) (p at : ℕ) → set_of_bytes bytes (p + 1) at ≡ bit_or (set_of_bytes bytes p at) (slice_index bytes (256 * p + at) * 2 ^ (8 * p))
unfolding set_of_bytes
set_of_bytes-more bytes p at = ap (λ k. set_of_bytes bytes k at) {x = p + 1} {y = suc p} (omega arith)

-- the same bytes make the same set
set_of_bytes-same : (bytes bytes' : List ℕ) (p at : ℕ) → ((q : ℕ) → q < p → slice_index bytes' (256 * q + at) ≡ slice_index bytes (256 * q + at)) → set_of_bytes bytes' p at ≡ set_of_bytes bytes p at
unfolding set_of_bytes
set_of_bytes-same bytes bytes' zero at h = refl
set_of_bytes-same bytes bytes' (suc p) at h = ap₂ bit_or (set_of_bytes-same bytes bytes' p at (λ q l. h q (omega arith))) (ap (λ y. y * 2 ^ (8 * p)) (h p (omega arith)))

-- the bytes of a set make it again
set_of_bytes-again : (bytes : List ℕ) (p at x : ℕ) → ((q : ℕ) → q < p → slice_index bytes (256 * q + at) ≡ byte x q) → set_of_bytes bytes p at ≡ x % 2 ^ (8 * p)
unfolding set_of_bytes
set_of_bytes-again bytes zero at x h = sym (ap (λ k. x % 2 ^ k) {x = 8 * 0} {y = 0} (omega arith) ∙ mod-one x)
set_of_bytes-again bytes (suc p) at x h =
    ap₂ bit_or (set_of_bytes-again bytes p at x (λ q l. h q (omega arith))) (ap (λ y. y * 2 ^ (8 * p)) (h p (omega arith))) ∙ bytes-more x p
    ∙ ap (λ k. x % 2 ^ (8 * k)) (omega arith)

-- bytes that are 0 make the empty set
set_of_bytes-zero : (bytes : List ℕ) (p at : ℕ) → ((e : ℕ) → slice_index bytes e ≡ 0) → set_of_bytes bytes p at ≡ 0
unfolding set_of_bytes
set_of_bytes-zero bytes zero at h = refl
set_of_bytes-zero bytes (suc p) at h = ap₂ bit_or (set_of_bytes-zero bytes p at h) (ap (λ y. y * 2 ^ (8 * p)) (h (256 * p + at)) ∙ zero-mul (2 ^ (8 * p)))

-- ---- the sets of all pairs

pub length-sets_in : (bytes : List ℕ) (planes n : ℕ) → length (sets_in bytes planes n) ≡ 256 * n
unfolding sets_in
length-sets_in bytes planes n = length-map-range_with_len (λ e. set_of_bytes bytes planes (256 * (planes * (e / 256)) + e % 256)) 0 (256 * n)

sets_in-entry : (bytes : List ℕ) (planes n e : ℕ) → e < 256 * n → slice_index (sets_in bytes planes n) e ≡ set_of_bytes bytes planes (256 * (planes * (e / 256)) + e % 256)
unfolding sets_in
sets_in-entry bytes planes n e below = get_or-map-range_with_len (λ e. set_of_bytes bytes planes (256 * (planes * (e / 256)) + e % 256)) 0 (256 * n) e e 0 below (omega arith)

pub sets_in-at : (bytes : List ℕ) (planes n i k : ℕ) → i < n → k < 256 → slice_index (sets_in bytes planes n) (256 * i + k) ≡ set_of_bytes bytes planes (256 * (planes * i) + k)
sets_in-at bytes planes n i k ib kb =
    sets_in-entry bytes planes n (256 * i + k) (omega arith)
    ∙ ap₂ (λ r c. set_of_bytes bytes planes (256 * (planes * r) + c)) (omega arith) (omega arith)

-- bytes that are 0 make empty sets
pub sets_in-zero : (bytes : List ℕ) (planes n : ℕ) → ((e : ℕ) → slice_index bytes e ≡ 0) → (e : ℕ) → slice_index (sets_in bytes planes n) e ≡ 0
sets_in-zero bytes planes n h e = elim (cases_lt e (256 * n)) [
  | inl l ↦ sets_in-entry bytes planes n e l ∙ set_of_bytes-zero bytes planes (256 * (planes * (e / 256)) + e % 256) h
  | inr g ↦ get_or_past (sets_in bytes planes n) e 0 (omega (arith, length-sets_in bytes planes n))
]

-- at first there are no planes
pub AreBytesOf-none : (work : Worklist) (bytes : List ℕ) → work.planes ≡ 0 → bytes ≡ [] → AreBytesOf work bytes
AreBytesOf-none work bytes none b =
    let rows : work.planes * work.nodes ≡ 0 = ap (λ p. p * work.nodes) none ∙ zero-mul work.nodes in
    let long : length bytes ≡ 0 = ap length b in
    record { most = omega arith; length_is = omega arith; each = λ p i k pb. absurd (omega arith) }

-- empty sets and bytes that are 0
pub AreBytesOf-empty : (work : Worklist) (bytes : List ℕ) → work.planes ≤ 8 → ((e : ℕ) → slice_index work.sets e ≡ 0) → bytes ≡ replicate (256 * (work.planes * work.nodes)) 0 → AreBytesOf work bytes
AreBytesOf-empty work bytes few s b = record {
  most = few;
  length_is = ap length b ∙ length-replicate {A = ℕ} (256 * (work.planes * work.nodes)) 0;
  each = λ p i k _ _ _.
      ap (λ xs. get_or xs (256 * (work.planes * i + p) + k) 0) b ∙ zero-at (256 * (work.planes * work.nodes)) (256 * (work.planes * i + p) + k)
      ∙ sym (ap (λ x. byte x p) (s (256 * i + k)) ∙ byte-empty p);
}

-- ---- rows of so many planes

below-row : (planes a i p q : ℕ) → p < planes → a < i → planes * a + p < planes * i + q
below-row planes a i p q pb h =
    let next : suc a ≤ i = omega arith in
    let more = mul-le-mul_left planes next in
    let row = mul-suc planes a in
    omega arith

-- a plane belongs to one row
row-is : (planes a i p q : ℕ) → p < planes → q < planes → planes * a + p ≡ planes * i + q → a ≡ i
row-is planes a i p q pb qb e = elim (cases_lt a i) [
  | inl below ↦ absurd (let h = below-row planes a i p q pb below in omega arith)
  | inr above ↦ elim (cases_lt i a) [
    | inl less ↦ absurd (let h = below-row planes i a q p qb less in omega arith)
    | inr same ↦ omega arith
  ]
]

-- a row's planes are among those of all rows
pub row-inside : (planes i n : ℕ) → i < n → planes * i + planes ≤ planes * n
row-inside planes i n h =
    let next : suc i ≤ n = omega arith in
    let more = mul-le-mul_left planes next in
    let row = mul-suc planes i in
    omega arith

-- a set of base relations fits in its planes
pub set-fits : (m : Algebra) (x planes : ℕ) → IsWithin x (full_of m) → m.size ≤ 8 * planes → x < 2 ^ (8 * planes)
set-fits m x planes within enough = full-lt m x (8 * planes) within enough

-- ---- one set written

-- x is written for the pair (i, j): its bytes stand at their places, and no other byte changed
module _ (work : Worklist) (bytes was bytes' : List ℕ) (planes i j x at : ℕ) (z : IsSized work) (ib : i < work.nodes) (jb : j < work.nodes) (known : work.planes ≡ planes) (same : was ≡ bytes) (place : at ≡ 256 * (planes * i) + j)
    (here : (p : ℕ) → p < planes → slice_index bytes' (256 * p + at) ≡ byte x p) (elsewhere : (e : ℕ) → ((p : ℕ) → p < planes → e ≢ 256 * p + at) → slice_index bytes' e ≡ slice_index was e) where
  at-is : at ≡ 256 * (work.planes * i) + j
  at-is = place ∙ ap (λ q. 256 * (q * i) + j) (sym known)

  here' : (p : ℕ) → p < work.planes → slice_index bytes' (256 * p + at) ≡ byte x p
  here' p l = here p (omega (arith, l, known))

  elsewhere' : (e : ℕ) → ((p : ℕ) → p < work.planes → e ≢ 256 * p + at) → slice_index bytes' e ≡ slice_index bytes e
  elsewhere' e apart = elsewhere e (λ p l. apart p (omega (arith, l, known))) ∙ ap (λ xs. slice_index xs e) same

  pub sets_in-put : x < 2 ^ (8 * planes) → sets_in bytes' work.planes work.nodes ≡ slice_set (sets_in bytes work.planes work.nodes) (256 * i + j) x
  sets_in-put fits =
      let n = work.nodes in
      let rows = work.planes in
      let few : n ≤ 256 = z.bounded in
      let sets = sets_in bytes rows n in
      let long = length-sets_in bytes rows n in
      let fit : x < 2 ^ (8 * rows) = subst (λ q. x < 2 ^ (8 * q)) (sym known) fits in
      ext_get_or 0 (sets_in bytes' rows n) (slice_set sets (256 * i + j) x) (length-sets_in bytes' rows n ∙ sym (length-set sets (256 * i + j) x ∙ long)) (λ e below.
      let inside : e < 256 * n = (let l = length-sets_in bytes' rows n in omega arith) in
      sets_in-entry bytes' rows n e inside ∙ elim (cases_eq e (256 * i + j)) as (λ _. set_of_bytes bytes' rows (256 * (rows * (e / 256)) + e % 256) ≡ slice_index (slice_set sets (256 * i + j) x) e) [
        | inl same ↦
            (let row : e / 256 ≡ i = omega arith in
            let column : e % 256 ≡ j = omega arith in
            let there : 256 * (rows * (e / 256)) + e % 256 ≡ at = ap₂ (λ r c. 256 * (rows * r) + c) row column ∙ sym at-is in
            ap (set_of_bytes bytes' rows) there ∙ set_of_bytes-again bytes' rows at x here' ∙ mod-eq_of_lt fit
            ∙ sym (ap (slice_index (slice_set sets (256 * i + j) x)) same ∙ get_or-set_same sets (256 * i + j) x 0 (omega arith)))
        | inr ne ↦
            set_of_bytes-same bytes bytes' rows (256 * (rows * (e / 256)) + e % 256)
            (λ q qb. elsewhere' (256 * q + (256 * (rows * (e / 256)) + e % 256))
            (λ p pb same.
            let column : e % 256 ≡ j = (let t = at-is in omega arith) in
            let plane : rows * (e / 256) + q ≡ rows * i + p = (let t = at-is in omega arith) in
            let row : e / 256 ≡ i = row-is rows (e / 256) i q p qb pb plane in
            ne (omega arith)))
            ∙ sym (sets_in-entry bytes rows n e inside) ∙ sym (get_or-set_other sets (256 * i + j) e x 0 ne)
      ])

  pub AreBytesOf-put : length bytes' ≡ length was → AreBytesOf work bytes → AreBytesOf (record work { sets = slice_set work.sets (256 * i + j) x }) bytes'
  AreBytesOf-put long b =
      let rows = work.planes in
      let few = z.bounded in
      record {
        most = b.most;
        length_is = long ∙ ap length same ∙ b.length_is;
        each = λ p a k pb ab kb. elim (cases_eq (256 * a + k) (256 * i + j)) [
          | inl same ↦
              (let row : a ≡ i = omega arith in
              let column : k ≡ j = omega arith in
              let there : 256 * (rows * a + p) + k ≡ 256 * p + at = ap (λ r. 256 * (rows * r + p) + k) row ∙ (let a = at-is in omega arith) in
              let set-is : slice_index (slice_set work.sets (256 * i + j) x) (256 * a + k) ≡ x = ap (slice_index (slice_set work.sets (256 * i + j) x)) same ∙ get_or-set_same work.sets (256 * i + j) x 0 (omega (arith, z.sets_length)) in
              ap (slice_index bytes') there ∙ here' p pb ∙ ap (λ y. byte y p) (sym set-is))
          | inr ne ↦
              elsewhere' (256 * (rows * a + p) + k)
              (λ q qb e.
              let column : k ≡ j = (let t = at-is in omega arith) in
              let plane : rows * a + p ≡ rows * i + q = (let t = at-is in omega arith) in
              let row : a ≡ i = row-is rows a i p q pb qb plane in
              ne (omega arith))
              ∙ b.each p a k pb ab kb ∙ ap (λ y. byte y p) (sym (get_or-set_other work.sets (256 * i + j) (256 * a + k) x 0 ne))
        ];
      }

pub IsSized-put : (work : Worklist) (e x : ℕ) → IsSized work → IsSized (record work { sets = slice_set work.sets e x })
IsSized-put work e x z = record { some = z.some; bounded = z.bounded; sets_length = length-set work.sets e x ∙ z.sets_length; queued_length = z.queued_length }
