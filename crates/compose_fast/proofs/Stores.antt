-- Vectors stored one after another.
use Rattle.std.proofs.Common.{◌≡◌, ◌≢◌, ℕ, ◌+◌, ◌*◌, ◌-◌, ◌/◌, ◌%◌, ◌<◌, ◌≤◌, List, length, set, refl, sym, ◌∙◌, ap, arith, ◌⊎◌, inl, inr}
use Rattle.std.specs.Prelude.{slice_index}
use Rattle.std.specs.Simd.Lanes.{put_chunk}
use Rattle.std.proofs.lemmas.Bool.{cases_lt, cases_eq}
use Rattle.std.proofs.lemmas.List.{get_or-set_same, get_or-set_other}
use Rattle.std.proofs.lemmas.Simd.{get_or-put_chunk_below, get_or-put_chunk_at, get_or-put_chunk_above, length-put_chunk}
use Rattle.compose_fast.specs.Lanes.{HasLanes}

pub stored-here : (xs v : List ℕ) (f : ℕ → ℕ) (i e : ℕ) → HasLanes 16 v f → i + 16 ≤ length xs → i ≤ e → e < i + 16 → slice_index (put_chunk i xs v) e ≡ f (e - i)
stored-here xs v f i e h fits low high =
    let at : i + (e - i) ≡ e = omega arith in
    ap (slice_index (put_chunk i xs v)) (sym at) ∙ get_or-put_chunk_at i xs v (e - i) 0 (omega (arith, h.long)) (omega (arith, h.long)) ∙ h.each (e - i) (omega arith)

pub stored-elsewhere : (xs v : List ℕ) (f : ℕ → ℕ) (i e : ℕ) → HasLanes 16 v f → (e < i) ⊎ (i + 16 ≤ e) → slice_index (put_chunk i xs v) e ≡ slice_index xs e
stored-elsewhere xs v f i e h (inl below) = get_or-put_chunk_below i xs v e 0 below
stored-elsewhere xs v f i e h (inr above) = get_or-put_chunk_above i xs v e 0 (omega (arith, h.long))

-- two vectors stored one after another, from place `at` on
pub stored-both : (xs v w : List ℕ) (f g h : ℕ → ℕ) (at : ℕ) → HasLanes 16 v f → HasLanes 16 w g → at + 32 ≤ length xs → ((k : ℕ) → k < 16 → f k ≡ h k) → ((k : ℕ) → k < 16 → g k ≡ h (16 + k)) →
    (d : ℕ) → d < 32 → slice_index (put_chunk (at + 16) (put_chunk at xs v) w) (at + d) ≡ h d
stored-both xs v w f g h at p q inside first second d l =
    let long : length (put_chunk at xs v) ≡ length xs = length-put_chunk at xs v in
    elim (cases_lt d 16) [
      | inl low ↦
          (let k : at + d - at ≡ d = omega arith in
          stored-elsewhere (put_chunk at xs v) w g (at + 16) (at + d) q (inl (omega arith))
          ∙ stored-here xs v f at (at + d) p (omega arith) (omega arith) (omega arith) ∙ ap f k ∙ first d low)
      | inr high ↦
          (let k : at + d - (at + 16) ≡ d - 16 = omega arith in
          let back : 16 + (d - 16) ≡ d = omega arith in
          stored-here (put_chunk at xs v) w g (at + 16) (at + d) q (omega (arith, long)) (omega arith) (omega arith) ∙ ap g k ∙ second (d - 16) (omega arith) ∙ ap h back)
    ]

pub stored-both-before : (xs v w : List ℕ) (f g : ℕ → ℕ) (at e : ℕ) → HasLanes 16 v f → HasLanes 16 w g → e < at → slice_index (put_chunk (at + 16) (put_chunk at xs v) w) e ≡ slice_index xs e
stored-both-before xs v w f g at e p q l = stored-elsewhere (put_chunk at xs v) w g (at + 16) e q (inl (omega arith)) ∙ stored-elsewhere xs v f at e p (inl l)

-- the places below d of plane p hold f, and all outside them are as before
pub record IsPlaneBelow (old now : List ℕ) (f : ℕ → ℕ) (p d : ℕ) : Type 0 where
  pub here : (e : ℕ) → e < d → slice_index now (256 * p + e) ≡ f e
  pub before : (e : ℕ) → e < 256 * p → slice_index now e ≡ slice_index old e
  pub after : (e : ℕ) → 256 * p + d ≤ e → slice_index now e ≡ slice_index old e

pub IsPlaneBelow-none : (old : List ℕ) (f : ℕ → ℕ) (p : ℕ) → IsPlaneBelow old old f p 0
IsPlaneBelow-none old f p = record { here = λ e l. absurd (omega arith); before = λ e l. refl; after = λ e l. refl }

pub IsPlaneBelow-step : (old now v : List ℕ) (f g : ℕ → ℕ) (p d at : ℕ) → at ≡ 256 * p + d → IsPlaneBelow old now f p d → HasLanes 16 v g → at + 16 ≤ length now →
    ((k : ℕ) → k < 16 → slice_index now (at + k) ≡ slice_index old (at + k) → g k ≡ f (d + k)) → IsPlaneBelow old (put_chunk at now v) f p (d + 16)
IsPlaneBelow-step old now v f g p d at i q h fits same = record {
  here = λ e l. elim (cases_lt e d) [
    | inl below ↦ stored-elsewhere now v g at (256 * p + e) h (inl (omega arith)) ∙ q.here e below
    | inr above ↦
        (let k : 256 * p + e - at ≡ e - d = omega arith in
        let back : d + (e - d) ≡ e = omega arith in
        stored-here now v g at (256 * p + e) h fits (omega arith) (omega arith) ∙ ap g k ∙ same (e - d) (omega arith) (q.after (at + (e - d)) (omega arith)) ∙ ap f back)
  ];
  before = λ e l. stored-elsewhere now v g at e h (inl (omega arith)) ∙ q.before e l;
  after = λ e l. stored-elsewhere now v g at e h (inr (omega arith)) ∙ q.after e (omega arith);
}

-- ---- bytes one after another, each at a place of its own

pub AreBytesBelow-step : (old now : List ℕ) (f place : ℕ → ℕ) (p x : ℕ) → x ≡ f p → place p < length now → ((q : ℕ) → q < p → place q ≢ place p) →
    ((q : ℕ) → q < p → slice_index now (place q) ≡ f q) → ((e : ℕ) → ((q : ℕ) → q < p → e ≢ place q) → slice_index now e ≡ slice_index old e) →
    record {
      here : (q : ℕ) → q < p + 1 → slice_index (set now (place p) x) (place q) ≡ f q;
      elsewhere : (e : ℕ) → ((q : ℕ) → q < p + 1 → e ≢ place q) → slice_index (set now (place p) x) e ≡ slice_index old e;
    }
AreBytesBelow-step old now f place p x e l apart here elsewhere = record {
  here = λ q b. elim (cases_lt q p) [
    | inl below ↦ get_or-set_other now (place p) (place q) x 0 (apart q below) ∙ here q below
    | inr above ↦ (let same : q ≡ p = omega arith in rw same (get_or-set_same now (place p) x 0 l ∙ e))
  ];
  elsewhere = λ d other. get_or-set_other now (place p) d x 0 (other p (omega arith)) ∙ elsewhere d (λ q b. other q (omega arith));
}

-- the entries of the base relations before place e, and one base relation's more
pub AreBasesBelow-step : (old now : List ℕ) (f : ℕ → ℕ → ℕ → ℕ) (planes e : ℕ) → planes ≤ 8 → e % 256 < 32 * planes →
    ((r p d : ℕ) → p < planes → d < 32 * planes → 256 * r + d < e → slice_index old (2048 * r + 256 * p + d) ≡ f r p d) →
    ((p : ℕ) → p < planes → slice_index now (256 * p + (2048 * (e / 256) + e % 256)) ≡ f (e / 256) p (e % 256)) →
    ((i : ℕ) → ((p : ℕ) → p < planes → i ≢ 256 * p + (2048 * (e / 256) + e % 256)) → slice_index now i ≡ slice_index old i) →
    (r p d : ℕ) → p < planes → d < 32 * planes → 256 * r + d < e + 1 → slice_index now (2048 * r + 256 * p + d) ≡ f r p d
AreBasesBelow-step old now f planes e few inside before here elsewhere r p d pb db l = elim (cases_eq (256 * r + d) e) [
  | inl same ↦
      (let re : r ≡ e / 256 = omega arith in
      let de : d ≡ e % 256 = omega arith in
      let at : 2048 * r + 256 * p + d ≡ 256 * p + (2048 * (e / 256) + e % 256) = omega arith in
      rw (at, re, de) (here p pb))
  | inr ne ↦
      elsewhere (2048 * r + 256 * p + d) (λ q qb same. ne (omega arith)) ∙ before r p d pb db (omega arith)
]
