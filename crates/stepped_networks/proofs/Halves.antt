-- Sets of at most eight base relations by their two nibbles.
use Rattle.std.proofs.Common.{◌≡◌, ℕ, ◌+◌, ◌-◌, ◌*◌, ◌/◌, ◌%◌, ◌≤◌, ◌<◌, sym, ◌∙◌, ap, arith, refl, ◌^◌, inl, inr}
use Rattle.std.proofs.Math.Nat.{mod-one}
use Rattle.std.specs.Prelude.{bit_or, bit_and}
use Rattle.std.proofs.lemmas.Nat.{or_comm, or_shifted}
use Rattle.calculus_table.specs.Rel.{IsWithin}
use Rattle.calculus_table.specs.Algebra.{Algebra}
use Rattle.calculus_table.specs.Composition.{full_of, composition}
use Rattle.calculus_table.specs.Calculus.{IsTable}
use Rattle.calculus_table.proofs.Compositions.{composition-union_l, composition-union_r}
use Rattle.calculus_table.proofs.Sets.{Has-meet, Has-meet_l, Has-meet_r, Has-union, Has-union_l, Has-union_r, IsWithin-antisym, IsWithin-trans, IsWithin-union, IsWithin-union_l, IsWithin-union_r, IsWithin-meet, IsWithin-meet_l, IsWithin-meet_r, IsWithin-empty, IsWithin-refl, meet-within}
use Rattle.compose_fast.specs.Nibbles.{nibble, set_of_place}
use Rattle.compose_fast.proofs.Parts.{nibbles-more, nibbles-whole, nibble-within}
use Rattle.stepped_networks.specs.Compositions.{set_at, set_of_byte, pair_entry}

module _ (m : Algebra) (few : m.size ≤ 8) (x : ℕ) (within : IsWithin x (full_of m)) where
  kept : (h : ℕ) → set_at m (16 * h + nibble x h) ≡ set_of_place (16 * h + nibble x h)
  kept h = meet-within _ _ (IsWithin-trans _ _ _ (nibble-within x h) within)

  empty-union : (y : ℕ) → bit_or 0 y ≡ y
  empty-union y = IsWithin-antisym _ _ (IsWithin-union 0 y y (IsWithin-empty y) (IsWithin-refl y)) (IsWithin-union_r 0 y)

  -- a set is the union of its two nibbles
  pub halves : x ≡ bit_or (set_at m (16 * 0 + nibble x 0)) (set_at m (16 * 1 + nibble x 1))
  halves =
      sym (nibbles-whole m x 2 within few) ∙ nibbles-more x 1
      ∙ ap (λ y. bit_or y (set_of_place (16 * 1 + nibble x 1))) (nibbles-more x 0 ∙ ap (λ y. bit_or y (set_of_place (16 * 0 + nibble x 0))) (mod-one x) ∙ empty-union (set_of_place (16 * 0 + nibble x 0)))
      ∙ ap (λ y. bit_or y (set_of_place (16 * 1 + nibble x 1))) (sym (kept 0))
      ∙ ap (bit_or (set_at m (16 * 0 + nibble x 0))) (sym (kept 1))

  pub composition-halves_l : (b : ℕ) → IsTable m →
      bit_or (composition m (set_at m (16 * 0 + nibble x 0)) b) (composition m (set_at m (16 * 1 + nibble x 1)) b) ≡ composition m x b
  composition-halves_l b k = sym (ap (λ y. composition m y b) halves ∙ composition-union_l m _ _ b k)

-- what two sets have in common with a third
meet-union : (a b f : ℕ) → bit_and (bit_or a b) f ≡ bit_or (bit_and a f) (bit_and b f)
meet-union a b f = IsWithin-antisym _ _
    (record {
      each = λ r h. elim (Has-union a b r (Has-meet_l (bit_or a b) f r h)) [
        | inl x ↦ Has-union_l (bit_and a f) (bit_and b f) r (Has-meet a f r x (Has-meet_r (bit_or a b) f r h))
        | inr y ↦ Has-union_r (bit_and a f) (bit_and b f) r (Has-meet b f r y (Has-meet_r (bit_or a b) f r h))
      ];
    })
    (IsWithin-union _ _ _
    (IsWithin-meet _ _ _ (IsWithin-trans _ _ _ (IsWithin-meet_l a f) (IsWithin-union_l a b)) (IsWithin-meet_r a f))
    (IsWithin-meet _ _ _ (IsWithin-trans _ _ _ (IsWithin-meet_l b f) (IsWithin-union_r a b)) (IsWithin-meet_r b f)))

-- an entry of the table at a nibble and a byte
entry-at : (m : Algebra) (e d b : ℕ) → e / 256 ≡ d → e % 256 ≡ b → pair_entry m e ≡ composition m (set_at m d) (set_of_byte m b)
unfolding pair_entry
entry-at m e d b q r = ap (λ x. composition m (set_at m x) (set_of_byte m (e % 256))) q ∙ ap (λ y. composition m (set_at m d) (set_of_byte m y)) r

-- a byte is the union of its two nibbles
byte-halves : (e : ℕ) → bit_or (e % 16) (e % 256 - e % 16) ≡ e % 256
byte-halves e =
    let high : e % 256 - e % 16 ≡ e % 256 / 16 * 16 = omega arith in
    let below : e % 16 < 2 ^ 4 = omega arith in
    let whole : e % 256 / 16 * 16 + e % 16 ≡ e % 256 = omega arith in
    ap (bit_or (e % 16)) high ∙ or_comm (e % 16) (e % 256 / 16 * 16) ∙ or_shifted (e % 256 / 16) 4 (e % 16) below ∙ whole

-- a composition with a byte is the union of those with its nibbles
pub pair_entry-halves : (m : Algebra) (e : ℕ) → IsTable m →
    bit_or (pair_entry m (e - (e % 256 - e % 16))) (pair_entry m (e - e % 16)) ≡ pair_entry m e
pair_entry-halves m e k =
    let d = e / 256 in
    let low = e % 16 in
    let high = e % 256 - e % 16 in
    let first = entry-at m (e - high) d low (omega arith) (omega arith) in
    let second = entry-at m (e - low) d high (omega arith) (omega arith) in
    let whole : set_of_byte m (e % 256) ≡ bit_or (set_of_byte m low) (set_of_byte m high) =
    ap (set_of_byte m) (sym (byte-halves e)) ∙ meet-union low high (full_of m) in
    ap (λ x. bit_or x (pair_entry m (e - low))) first ∙ ap (bit_or (composition m (set_at m d) (set_of_byte m low))) second
    ∙ sym (entry-at m e d (e % 256) refl refl ∙ ap (composition m (set_at m d)) whole ∙ composition-union_r m (set_at m d) _ _ k)
