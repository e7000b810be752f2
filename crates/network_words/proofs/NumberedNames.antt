-- Names that are numbered by their places: where a text stands among them, and names that differ.
use Rattle.std.proofs.Common.{◌≡◌, ◌≢◌, ℕ, zero, suc, ◌+◌, ◌<◌, Bool, true, false, cond, not, nat_lt, ◌||◌, List, [], ◌∷◌, ◌++◌, length, map, slice_get, Option, Some, None, is_some, unwrap_or, String, Global, refl, sym, ap, subst, ◌∙◌, arith, inl, inr, true≢false}
use Rattle.std.specs.List.{list_any, position, position_or_len}
use Rattle.std.specs.Prelude.{MatchOption}
use Rattle.std.specs.Str.{bytes_eq, IsUtf8}
use Rattle.std.specs.String.{string_bytes}
use Rattle.std.proofs.lemmas.Bool.{cases_lt, ltb-true}
use Rattle.std.proofs.lemmas.List.{length-map, length_push, map-append}
use Rattle.std.proofs.lemmas.Option.{slice_get_within}
use Rattle.std.proofs.lemmas.Str.{IsUtf8-had}
use Rattle.std.proofs.lemmas.Slice.Eq.{bytes_eq-Decides}
use Rattle.calculus_table.specs.Calculus.{AreDistinct, IsFirstRepeat}

-- ---- lists one after the other

front : {X : Type 0} (xs ys : List X) (i : ℕ) → i < length xs → slice_get (xs ++ ys) i ≡ slice_get xs i
front [] ys i h = absurd (omega arith)
front (x ∷ xs) ys zero h = refl
front (x ∷ xs) ys (suc i) h = front xs ys i (omega arith)

after : {X : Type 0} (xs ys : List X) (y : X) → slice_get (xs ++ y ∷ ys) (length xs) ≡ Some y
after [] ys y = refl
after (x ∷ xs) ys y = after xs ys y

same_some : {X : Type 0} {x y : X} → Some x ≡ Some y → x ≡ y
same_some {X} {x} e = ap (λ o. unwrap_or o x) e

-- ---- where a text stands

-- whether a text is among the names
abbrev pub is_among : List ℕ → List (String Global) → Bool
is_among text names = list_any (λ name. bytes_eq text (string_bytes name)) names

-- the place at which a text stands among names
record StandsAt (text : List ℕ) (names : List (String Global)) : Type 0 where
  pub at : ℕ
  pub below : at < length names
  pub there : slice_get (map string_bytes names) at ≡ Some text

among-stands : (text : List ℕ) (names : List (String Global)) → is_among text names ≡ true → StandsAt text names
among-stands text [] h = absurd (true≢false (sym h))
among-stands text (name ∷ names) h = by (bytes_eq text (string_bytes name)) refl (among-stands text names)
  where
    by : (b : Bool) → bytes_eq text (string_bytes name) ≡ b → (is_among text names ≡ true → StandsAt text names) → StandsAt text (name ∷ names)
    by true e later = record { at = 0; below = omega arith; there = ap Some (sym ((bytes_eq-Decides text (string_bytes name)).0 e)) }
    by false e later =
        let rest = later (sym (ap (λ b. b || is_among text names) e) ∙ h) in
        record { at = suc rest.at; below = omega (arith, rest.below); there = rest.there }

stands-among : (text : List ℕ) (names : List (String Global)) (at : ℕ) → slice_get (map string_bytes names) at ≡ Some text → is_among text names ≡ true
stands-among text [] at h = absurd (true≢false (sym (ap is_some h)))
stands-among text (name ∷ names) zero h =
    ap (λ b. b || is_among text names) ((bytes_eq-Decides text (string_bytes name)).1 (sym (same_some h)))
stands-among text (name ∷ names) (suc at) h = by (bytes_eq text (string_bytes name)) (stands-among text names at h)
  where
    by : (b : Bool) → is_among text names ≡ true → (b || is_among text names) ≡ true
    by true e = refl
    by false e = e

-- the first place at which a text stands
first-stands : (text : List ℕ) (names : List (String Global)) → let at = position_or_len (λ name. bytes_eq text (string_bytes name)) names in
    at < length names → slice_get (map string_bytes names) at ≡ Some text
first-stands text [] below = absurd (omega arith)
first-stands text (name ∷ names) below = by (bytes_eq text (string_bytes name)) refl (first-stands text names) below
  where
    by : (b : Bool) → bytes_eq text (string_bytes name) ≡ b → let later = position_or_len (λ x. bytes_eq text (string_bytes x)) names in
        (later < length names → slice_get (map string_bytes names) later ≡ Some text) →
        let at = cond (not b) (1 + later) 0 in
        at < length (name ∷ names) → slice_get (map string_bytes (name ∷ names)) at ≡ Some text
    by true e rest below = ap Some (sym ((bytes_eq-Decides text (string_bytes name)).0 e))
    by false e rest below =
        let later = position_or_len (λ x. bytes_eq text (string_bytes x)) names in
        let next : 1 + later ≡ suc later = omega arith in
        ap (slice_get (map string_bytes (name ∷ names))) next ∙ rest (omega arith)

found-stands : (text : List ℕ) (names : List (String Global)) (at : ℕ) → position (λ name. bytes_eq text (string_bytes name)) names ≡ Some at →
    slice_get (map string_bytes names) at ≡ Some text
found-stands text names at = by (nat_lt first (length names)) refl
  where
    first : ℕ
    first = position_or_len (λ name. bytes_eq text (string_bytes name)) names

    by : (b : Bool) → nat_lt first (length names) ≡ b → cond b (Some first) None ≡ Some at → slice_get (map string_bytes names) at ≡ Some text
    by true e h = subst (λ i. slice_get (map string_bytes names) i ≡ Some text) (same_some h) (first-stands text names (ltb-true first (length names) e))
    by false e h = absurd (true≢false (sym (ap is_some h)))

-- what a look-up by a text returns
pub looked_up : (text : List ℕ) (names : List (String Global)) (r : Option ℕ) → r ≡ position (λ name. bytes_eq text (string_bytes name)) names → is_some r ≡ is_among text names →
    MatchOption r ((k : ℕ) → slice_get (map string_bytes names) k ≢ Some text) (λ k. slice_get (map string_bytes names) k ≡ Some text)
looked_up text names None e f = λ k there. absurd (true≢false (sym (stands-among text names k there) ∙ sym f))
looked_up text names (Some at) e f = found-stands text names at (sym e)

-- names are UTF-8
pub name-spelled : (text : List ℕ) (names : List (String Global)) (at : ℕ) → slice_get (map string_bytes names) at ≡ Some text → IsUtf8 text
name-spelled text [] at h = absurd (true≢false (sym (ap is_some h)))
name-spelled text (name ∷ names) zero h = subst IsUtf8 (same_some h) (IsUtf8-had (string_bytes name) name.ok)
name-spelled text (name ∷ names) (suc at) h = name-spelled text names at h

-- ---- names that differ

pub distinct-push : (names : List (String Global)) (name : String Global) → AreDistinct (map string_bytes names) → is_among (string_bytes name) names ≡ false → AreDistinct (map string_bytes (names ++ name ∷ []))
distinct-push names name d new = subst AreDistinct (sym (map-append string_bytes names (name ∷ []))) (λ j k less below same.
    let texts = map string_bytes names in
    let text = string_bytes name in
    let at_j = front texts (text ∷ []) j in
    elim (cases_lt k (length texts)) [
      | inl here ↦ d j k less here (sym (at_j (omega arith)) ∙ same ∙ front texts (text ∷ []) k here)
      | inr last ↦
          (let end : k ≡ length texts = omega (arith, below, length_push texts text) in
          let found : slice_get texts j ≡ Some text = sym (at_j (omega (arith, less, end))) ∙ same ∙ ap (slice_get (texts ++ text ∷ [])) end ∙ after texts [] text in
          absurd (true≢false (sym (stands-among text names j found) ∙ new)))
    ])

-- the first of the names that is among those before it
pub first_repeat-push : (names rest : List (String Global)) (name : String Global) → AreDistinct (map string_bytes names) → is_among (string_bytes name) names ≡ true →
    IsFirstRepeat (map string_bytes (names ++ name ∷ rest)) (length names)
first_repeat-push names rest name d old = subst (λ xs. IsFirstRepeat xs (length names)) (sym (map-append string_bytes names (name ∷ rest)))
    (let texts = map string_bytes names in
    let text = string_bytes name in
    let after_them = text ∷ map string_bytes rest in
    let stands = among-stands text names old in
    let size : length texts ≡ length names = length-map names string_bytes in
    let last : slice_get (texts ++ after_them) (length names) ≡ Some text = ap (slice_get (texts ++ after_them)) (sym size) ∙ after texts (map string_bytes rest) text in
    record {
      here = record {
        below = slice_get_within (texts ++ after_them) (length names) text last;
        earlier = stands.at;
        is_earlier = stands.below;
        same = front texts after_them stands.at (omega (arith, stands.below)) ∙ stands.there ∙ sym last;
      };
      before = λ i j less below same. d i j less (omega arith) (sym (front texts after_them i (omega arith)) ∙ same ∙ front texts after_them j (omega arith));
    })
