-- Which places three rings have in common: an area's inside and outside are open, and its boundary has both
-- near it.
use Rattle.std.proofs.Common.{◌≡◌, ℕ, ◌%◌, ◌<◌, Bool, true, false, not, List, length, ◌⊎◌, inl, inr, arith}
use lib.IntN.{pos}
use lib.Signed.{◌<ℤ◌}
use Rattle.std.proofs.lemmas.Bool.{cases_lt}
use Rattle.poly_exact.specs.declared.points.Point.{Point}
use Rattle.poly_exact.specs.Places.{Place}
use Rattle.poly_exact.specs.Rings.{crossings, IsOnRing, IsInRing, IsOutOfRing, IsSimple}
use Rattle.poly_exact.proofs.Local.{in_law, out_law}
use Rattle.poly_exact.proofs.Around.{around, inside}
use Rattle.de9im.specs.Matrix.{Common}

-- in the ring, or out of it
abbrev pub IsAtSide : Bool → List Point → Place → Type 0
IsAtSide true vs p = IsInRing vs p
IsAtSide false vs p = IsOutOfRing vs p

-- no place in the first ring lies at that side of the second: the rings are apart, or the first is a part of
-- the second
abbrev pub HasNone : Bool → List Point → List Point → Type 0
HasNone side vs ws = Common (IsInRing vs) (IsAtSide side ws) → ⊥

-- no place is on both
abbrev pub IsUnmet : List Point → List Point → Type 0
IsUnmet vs ws = Common (IsOnRing vs) (IsOnRing ws) → ⊥

parity : (n : ℕ) → (n % 2 ≡ 1) ⊎ (n % 2 ≡ 0)
parity n = elim (cases_lt (n % 2) 1) [ inl l ↦ inr (omega arith) | inr g ↦ inl (omega arith) ]

in_or_out : (vs : List Point) (p : Place) → (IsOnRing vs p → ⊥) → IsInRing vs p ⊎ IsOutOfRing vs p
in_or_out vs p off = elim (parity (crossings vs p (length vs))) [
  | inl odd ↦ inl (record { off = off; odd = odd })
  | inr even ↦ inr (record { off = off; even = even })
]

module _ (vs ws : List Point) (simple : IsSimple ws) where
  -- a place in the first ring is then not on the second: near it would be places of that side
  pub off-second : (side : Bool) → HasNone side vs ws → (p : Place) → pos 0 <ℤ p.w → IsInRing vs p → IsOnRing ws p → ⊥
  off-second true none p w i o =
      let box = in_law vs p w i in
      let near = around ws simple p box.n w box.some o in
      none (record {
        place = near.p;
        weight = near.near_p.weight;
        first = box.each near.p near.near_p;
        second = near.in_p;
      })
  off-second false none p w i o =
      let box = in_law vs p w i in
      let near = around ws simple p box.n w box.some o in
      none (record {
        place = near.q;
        weight = near.near_q.weight;
        first = box.each near.q near.near_q;
        second = near.out_q;
      })

  -- but at the other side
  other-side : (side : Bool) → HasNone side vs ws → (p : Place) → pos 0 <ℤ p.w → IsInRing vs p →
      IsAtSide (not side) ws p
  other-side true none p w i = elim (in_or_out ws p (off-second true none p w i)) [
    | inl x ↦ absurd (none (record { place = p; weight = w; first = i; second = x }))
    | inr x ↦ x
  ]
  other-side false none p w i = elim (in_or_out ws p (off-second false none p w i)) [
    | inl x ↦ x
    | inr x ↦ absurd (none (record { place = p; weight = w; first = i; second = x }))
  ]

-- rings that are apart are no parts of one another: the first has a place in it
pub apart-no_part : (vs ws : List Point) → IsSimple vs → 0 < length vs → IsSimple ws → HasNone true vs ws →
    HasNone false vs ws → ⊥
apart-no_part vs ws simple some other apart part =
    let i = inside vs simple some in
    part (record {
      place = i.place;
      weight = i.weight;
      first = i.within;
      second = other-side vs ws other true apart i.place i.weight i.within;
    })

-- the first ring is a part of the second
module _ (us vs ws : List Point) (simple_us : IsSimple us) (simple_vs : IsSimple vs) (simple_ws : IsSimple ws)
    (part : HasNone false us vs) where
  -- what no place in the second has, none in the first has
  pub part-through : (side : Bool) → HasNone side vs ws → HasNone side us ws
  part-through side none c =
      none (record {
        place = c.place;
        weight = c.weight;
        first = other-side us vs simple_vs false part c.place c.weight c.first;
        second = c.second;
      })

  -- a place out of the second isn't on the first: near it would be places in the first
  off-first : (p : Place) → pos 0 <ℤ p.w → IsOutOfRing vs p → IsOnRing us p → ⊥
  off-first p w o on =
      let box = out_law vs p w o in
      let near = around us simple_us p box.n w box.some on in
      part (record {
        place = near.p;
        weight = near.near_p.weight;
        first = near.in_p;
        second = box.each near.p near.near_p;
      })

  -- a place on the first and the third is on the second
  on-second : (side : Bool) → HasNone side vs ws → (p : Place) → pos 0 <ℤ p.w → IsOnRing us p → IsOnRing ws p →
      (IsOnRing vs p → ⊥) → ⊥
  on-second side none p w on on_ws off = elim (in_or_out vs p off) [
    | inl x ↦ off-second vs ws simple_ws side none p w x on_ws
    | inr x ↦ off-first p w x on
  ]

  -- so where the second doesn't meet the first, or the third, the first doesn't meet the third
  pub unmet-first : (side : Bool) → HasNone side vs ws → IsUnmet us vs → IsUnmet us ws
  unmet-first side none unmet c =
      on-second side none c.place c.weight c.first c.second
      (λ o. unmet (record { place = c.place; weight = c.weight; first = c.first; second = o }))

  pub unmet-second : (side : Bool) → HasNone side vs ws → IsUnmet vs ws → IsUnmet us ws
  unmet-second side none unmet c =
      on-second side none c.place c.weight c.first c.second
      (λ o. unmet (record { place = c.place; weight = c.weight; first = o; second = c.second }))
