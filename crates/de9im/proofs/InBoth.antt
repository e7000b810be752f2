-- A place is in both rings exactly where an edge of one has a place in the other, or the rings share a stretch at whose left is the inside of both.
use Rattle.std.proofs.Common.{◌≡◌, refl, ℕ, ◌+◌, ◌%◌, List, length, arith, ◌⊎◌, inl, inr}
use Rattle.std.specs.Prelude.{◌↔◌}
use Rattle.poly_exact.specs.declared.points.Point.{Point}
use Rattle.poly_exact.specs.Places.{Place}
use Rattle.poly_exact.specs.Rings.{crossings, IsOnRing, IsInRing, IsOutOfRing, IsSimple}
use Rattle.de9im.specs.Matrix.{Common}
use Rattle.de9im.specs.Scans.{Stretch}
use Rattle.de9im.proofs.Commons.{Common-swap}
use Rattle.de9im.proofs.EdgeGives.{on_in, on_out}
use Rattle.de9im.proofs.Entries.{Edge, Shared, entry, shared_left}

Stretch-swap : (vs ws : List Point) (x y : ℕ) → Stretch vs ws x y → Stretch ws vs y x
Stretch-swap vs ws x y h = record {
  e = h.f;
  f = h.e;
  below_e = h.below_f;
  below_f = h.below_e;
  level_e = h.level_f;
  level_f = h.level_e;
  m = h.m;
  weight = h.weight;
  inside_e = h.inside_f;
  inside_f = h.inside_e;
  count_e = h.count_f;
  count_f = h.count_e;
}

-- the place is on no edge, and the count of edges has this parity
record IsOffRing (vs : List Point) (x : ℕ) (p : Place) : Type 0 where
  off : IsOnRing vs p → ⊥
  count : crossings vs p (length vs) % 2 ≡ x

in_off : (vs : List Point) (p : Place) → IsInRing vs p ↔ IsOffRing vs 1 p
in_off vs p = (λ i. record { off = i.off; count = i.odd }, λ i. record { off = i.off; odd = i.count })

out_off : (vs : List Point) (p : Place) → IsOutOfRing vs p ↔ IsOffRing vs 0 p
out_off vs p = (λ i. record { off = i.off; count = i.even }, λ i. record { off = i.off; even = i.count })

-- ---- in the first ring, and at one side of the second, where the count of edges has the parity x

module _ (vs ws : List Point) (sv : IsSimple vs) (sw : IsSimple ws) (x y : ℕ) (sides : x + y ≡ 1) (side : Place → Type 0) (off : (p : Place) → side p ↔ IsOffRing ws x p)
    (near : Common (IsOnRing vs) side → Common (IsInRing vs) side) (beside : Common (IsOnRing ws) (IsInRing vs) → Common side (IsInRing vs)) where
  of_edge : (p : Place) → side p → Edge vs ws p → Common (IsOnRing vs) side
  of_edge p i h = record { place = h.m; weight = h.weight; first = h.on; second = (off h.m).1 (record { off = h.off; count = (let a = h.alike in let o = ((off p).0 i).count in omega arith) }) }

  of_other_edge : (p : Place) → IsInRing vs p → Edge ws vs p → Common (IsOnRing ws) (IsInRing vs)
  of_other_edge p i h = record { place = h.m; weight = h.weight; first = h.on; second = record { off = h.off; odd = (let a = h.alike in let o = i.odd in omega arith) } }

  of_stretch : (p : Place) → IsInRing vs p → side p → Shared vs ws p → Stretch vs ws 0 y
  of_stretch p i j h =
      let b = h.both in
      record {
        e = b.e;
        f = b.f;
        below_e = b.below_e;
        below_f = b.below_f;
        level_e = b.level_e;
        level_f = b.level_f;
        m = b.m;
        weight = b.weight;
        inside_e = b.inside_e;
        inside_f = b.inside_f;
        count_e = (let f = b.flip_e in let o = i.odd in omega arith);
        count_f = (let f = b.flip_f in let o = ((off p).0 j).count in omega arith);
      }

  from_stretch : Stretch vs ws 0 y → Common (IsInRing vs) side
  from_stretch h =
      let z = shared_left vs ws sv sw h.m h.weight h.e h.f h.below_e h.below_f h.level_e h.level_f h.inside_e h.inside_f in
      record {
        place = z.z;
        weight = z.weight;
        first = record { off = z.off_v; odd = (let f = z.flip_v in let c = h.count_e in omega arith) };
        second = (off z.z).1 (record { off = z.off_w; count = (let f = z.flip_w in let c = h.count_f in omega arith) });
      }

  to : Common (IsInRing vs) side → Common (IsOnRing vs) side ⊎ (Common (IsOnRing ws) (IsInRing vs) ⊎ Stretch vs ws 0 y)
  to c = elim (entry vs ws c.place sv sw c.weight c.first.off ((off c.place).0 c.second).off (inl c.first.odd)) [
    | inl e ↦ inl (of_edge c.place c.second e)
    | inr o ↦ elim o [ inl e ↦ inr (inl (of_other_edge c.place c.first e)) | inr h ↦ inr (inr (of_stretch c.place c.first c.second h)) ]
  ]

  from : Common (IsOnRing vs) side ⊎ (Common (IsOnRing ws) (IsInRing vs) ⊎ Stretch vs ws 0 y) → Common (IsInRing vs) side
  from d = elim d [
    | inl c ↦ near c
    | inr o ↦ elim o [ inl c ↦ Common-swap (beside c) | inr h ↦ from_stretch h ]
  ]

  in_and_beside : Common (IsInRing vs) side ↔ Common (IsOnRing vs) side ⊎ (Common (IsOnRing ws) (IsInRing vs) ⊎ Stretch vs ws 0 y)
  in_and_beside = (to, from)

-- ---- in both, in the first alone, and in the second alone

module _ (vs ws : List Point) (sv : IsSimple vs) (sw : IsSimple ws) where
  pub in_both : Common (IsInRing vs) (IsInRing ws) ↔ Common (IsOnRing vs) (IsInRing ws) ⊎ (Common (IsOnRing ws) (IsInRing vs) ⊎ Stretch vs ws 0 0)
  in_both = in_and_beside vs ws sv sw 1 0 refl (IsInRing ws) (in_off ws) (λ c. (on_in vs ws sv c).0) (λ c. (on_in ws vs sw c).0)

  pub in_first_alone : Common (IsInRing vs) (IsOutOfRing ws) ↔ Common (IsOnRing vs) (IsOutOfRing ws) ⊎ (Common (IsOnRing ws) (IsInRing vs) ⊎ Stretch vs ws 0 1)
  in_first_alone = in_and_beside vs ws sv sw 0 1 refl (IsOutOfRing ws) (out_off ws) (λ c. (on_out vs ws sv c).0) (λ c. (on_in ws vs sw c).1)

module _ (vs ws : List Point) (sv : IsSimple vs) (sw : IsSimple ws) where
  pub in_second_alone : Common (IsOutOfRing vs) (IsInRing ws) ↔ Common (IsOnRing ws) (IsOutOfRing vs) ⊎ (Common (IsOnRing vs) (IsInRing ws) ⊎ Stretch vs ws 1 0)
  in_second_alone = (
    λ c. elim ((in_first_alone ws vs sw sv).0 (Common-swap c)) [
      | inl x ↦ inl x
      | inr y ↦ elim y [ inl x ↦ inr (inl x) | inr h ↦ inr (inr (Stretch-swap ws vs 0 1 h)) ]
    ],
    λ d. Common-swap ((in_first_alone ws vs sw sv).1 (elim d [ inl x ↦ inl x | inr y ↦ elim y [ inl x ↦ inr (inl x) | inr h ↦ inr (inr (Stretch-swap vs ws 1 0 h)) ] ])),
  )
