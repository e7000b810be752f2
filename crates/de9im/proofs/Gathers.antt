-- The matrix from what the scan found and what the boundaries see.
use Rattle.std.proofs.Common.{◌≡◌, refl, sym, ◌∙◌, subst, arith, ◌⊎◌, inl, inr, ℕ, zero, suc, ◌+◌, ◌<◌, ◌≤◌, ◌%◌, List, length, Bool, true, false, cond}
use Rattle.std.specs.Prelude.{◌||◌, ◌↔◌, IsTrue}
use lib.IntN.{ℤ, pos, ◌*ℤ◌}
use lib.Signed.{◌<ℤ◌}
use borrow.Author.Differences.{ints}
use Rattle.std.proofs.lemmas.Bool.{false≢true}
use Rattle.poly_exact.specs.declared.points.Point.{Point}
use Rattle.poly_exact.specs.declared.points.HalfPoint.{HalfPoint}
use Rattle.poly_exact.specs.declared.locations.Location.{Location}
use Rattle.poly_exact.specs.declared.locations.Location.TheVariants as location
use Rattle.de9im.specs.declared.scans.Contacts.{Contacts}
use Rattle.de9im.specs.declared.cuts.Sight.{Sight}
use Rattle.de9im.specs.declared.matrices.Dim.{Dim}
use Rattle.de9im.specs.declared.matrices.Dim.TheVariants as dim
use Rattle.de9im.specs.declared.relations.Views.{Views}
use Rattle.poly_exact.specs.Places.{Place}
use Rattle.poly_exact.specs.Rings.{vertex, next, crossings, IsOnRing, IsInRing, IsOutOfRing, IsSimple}
use Rattle.de9im.specs.Matrix.{Common}
use Rattle.poly_exact.specs.Small.{place}
use Rattle.poly_exact.specs.Located.{IsLocated}
use Rattle.poly_exact.specs.Met.{DoCross}
use Rattle.de9im.specs.Scans.{EdgePair, Stretch, IsSound, IsDone}
use Rattle.de9im.specs.Cuts.{IsBoundary, IsAllUncrossed, seen}
use Rattle.de9im.specs.Matrices.{IsEntry, IsBoundaryEntry, IsMatrix, AreViews, IsTold, IsUnmetRing, given, gathered}
use Rattle.poly_exact.proofs.RingLaw.{next-more}
use Rattle.poly_exact.proofs.VertexPlaces.{at, first_on, second_on}
use Rattle.de9im.proofs.Proper.{crossing_law}
use Rattle.poly_exact.proofs.SamePoints.{IsOnEdge-same}
use Rattle.de9im.proofs.Commons.{Common-swap}
use Rattle.de9im.proofs.Chains.{IsUnmet, unmet_law}
use Rattle.de9im.proofs.InBoth.{in_both, in_first_alone, in_second_alone}
use Rattle.de9im.proofs.Sights.{blind, or_left, or_right, or_either, seen_in, seen_out}

pub some_of : (vs : List Point) → 3 ≤ length vs → 0 < length vs
some_of vs h = omega arith

-- ---- rings that do not meet

module _ (vs ws : List Point) (some : 0 < length vs) (un : IsUnmetRing vs ws) where
  one : pos 0 <ℤ pos 1
  one = omega (arith, ints)

  unmet : (k : ℕ) → k < length vs → IsUnmet vs ws k
  unmet k h = record { none = λ z w o r. un.none z w (record { edge = k; below = h; on = o }) r }

  to_vertex : (k : ℕ) → k < length vs → (crossings ws (at (vertex vs 0)) (length ws) + crossings ws (at (vertex vs k)) (length ws)) % 2 ≡ 0
  to_vertex zero h = omega arith
  to_vertex (suc k) h =
      let e = to_vertex k (omega arith) in
      let u = unmet_law vs ws k (unmet k (omega arith)) (at (vertex vs k)) (at (vertex vs (next vs k))) one one (first_on _ _) (second_on _ _) in
      let s : next vs k ≡ suc k = next-more vs k (omega arith) ∙ omega arith in
      let u' = subst (λ j. (crossings ws (at (vertex vs k)) (length ws) + crossings ws (at (vertex vs j)) (length ws)) % 2 ≡ 0) s u in
      omega arith

  to_place : (z : Place) → pos 0 <ℤ z.w → IsOnRing vs z → (crossings ws (at (vertex vs 0)) (length ws) + crossings ws z (length ws)) % 2 ≡ 0
  to_place z w o =
      let e = to_vertex o.edge o.below in
      let u = unmet_law vs ws o.edge (unmet o.edge o.below) (at (vertex vs o.edge)) z one w (first_on _ _) o.on in
      omega arith

  module _ (p : HalfPoint) (ex : p.x ≡ (vertex vs 0).x *ℤ pos 2) (ey : p.y ≡ (vertex vs 0).y *ℤ pos 2) where
    two : pos 0 <ℤ pos 2
    two = omega (arith, ints)

    on_first : IsOnRing vs (place p)
    on_first =
        let unit : (u : ℤ) → u *ℤ pos 1 ≡ u = λ u. omega (arith, ints) in
        let x = unit p.x in let y = unit p.y in
        record { edge = 0; below = some; on = IsOnEdge-same _ _ (at (vertex vs 0)) (place p) one two (omega (arith, ints)) (omega (arith, ints)) (first_on _ _) }

    off_first : IsOnRing ws (place p) → ⊥
    off_first o = un.none (place p) two on_first o

    same_in : (l : Location) → IsLocated l ws (place p) → (z : Place) → pos 0 <ℤ z.w → IsOnRing vs z → IsInRing ws z → l ≡ location.In
    same_in location.In h z w o i = refl
    same_in location.On h z w o i = absurd (off_first h)
    same_in location.Out h z w o i = let e = to_place z w o in let f = to_place (place p) two on_first in let g = h.even in let k = i.odd in absurd (omega arith)

    same_out : (l : Location) → IsLocated l ws (place p) → (z : Place) → pos 0 <ℤ z.w → IsOnRing vs z → IsOutOfRing ws z → l ≡ location.Out
    same_out location.In h z w o i = let e = to_place z w o in let f = to_place (place p) two on_first in let g = h.odd in let k = i.even in absurd (omega arith)
    same_out location.On h z w o i = absurd (off_first h)
    same_out location.Out h z w o i = refl

    lone_sound_in : (l : Location) → IsLocated l ws (place p) → IsTrue (seen blind l).inside → Common (IsOnRing vs) (IsInRing ws)
    lone_sound_in location.In h t = record { place = place p; weight = two; first = on_first; second = h }
    lone_sound_in location.On h t = absurd (false≢true t)
    lone_sound_in location.Out h t = absurd (false≢true t)

    lone_sound_out : (l : Location) → IsLocated l ws (place p) → IsTrue (seen blind l).outside → Common (IsOnRing vs) (IsOutOfRing ws)
    lone_sound_out location.In h t = absurd (false≢true t)
    lone_sound_out location.On h t = absurd (false≢true t)
    lone_sound_out location.Out h t = record { place = place p; weight = two; first = on_first; second = h }

    pub lone_boundary : (l : Location) (r : Sight) → r ≡ seen blind l → IsLocated l ws (place p) → IsBoundary r vs ws
    lone_boundary l r e h = subst (λ s. IsBoundary s vs ws) (sym e) (record {
      sound = record { inside = lone_sound_in l h; outside = lone_sound_out l h };
      full = λ z w o. record { inside = λ i. seen_in blind l (same_in l h z w o i); outside = λ i. seen_out blind l (same_out l h z w o i) };
    })

-- ---- what the scan tells

module _ (f : Contacts) (vs ws : List Point) (sv : IsSimple vs) (sw : IsSimple ws) (sound : IsSound f vs ws) (done : IsDone f vs ws (length vs)) where
  first_cross : EdgePair vs ws DoCross → Common (IsOnRing vs) (IsInRing ws) × Common (IsOnRing vs) (IsOutOfRing ws)
  first_cross h = let k = h.holds in crossing_law vs ws sw h.e h.f h.below_e h.below_f k.crossing.m k.crossing.weight k.crossing.first.on k.crossing.second k.first

  second_cross : EdgePair vs ws DoCross → Common (IsOnRing ws) (IsInRing vs) × Common (IsOnRing ws) (IsOutOfRing vs)
  second_cross h = let k = h.holds in crossing_law ws vs sv h.f h.e h.below_f h.below_e k.crossing.m k.crossing.weight k.crossing.second.on k.crossing.first k.second

  pub proper_views : f.proper ≡ true → AreViews (record { first = record { inside = true; outside = true }; second = record { inside = true; outside = true } }) vs ws
  proper_views t =
      let x = first_cross (sound.proper t) in
      let y = second_cross (sound.proper t) in
      record {
        first = record { sound = record { inside = λ i. x.0; outside = λ i. x.1 }; full = λ z w o. record { inside = λ i. refl; outside = λ i. refl } };
        second = record { sound = record { inside = λ i. y.0; outside = λ i. y.1 }; full = λ z w o. record { inside = λ i. refl; outside = λ i. refl } };
      }

  pub uncrossed : f.proper ≡ false → IsAllUncrossed vs ws
  uncrossed n = record { each = λ e b. record { none = λ k h o r. false≢true (sym n ∙ (done.full e k b h).proper o r) } }

  pub uncrossed_back : f.proper ≡ false → IsAllUncrossed ws vs
  uncrossed_back n = record { each = λ e b. record { none = λ k h o r. false≢true (sym n ∙ (done.full k e h b).proper r o) } }

  pub unmet_ring : f.meets ≡ false → IsUnmetRing vs ws
  unmet_ring n = record { none = λ z w o r. false≢true (sym n ∙ (done.full o.edge r.edge o.below r.below).meets z w o.on r.on) }

  pub unmet_back : f.meets ≡ false → IsUnmetRing ws vs
  unmet_back n = record { none = λ z w o r. (unmet_ring n).none z w r o }

  pub told : IsTold f vs ws
  told = record { proper = λ t. (proper_views t).first; uncrossed = uncrossed; unmet = unmet_ring }

  pub told_back : IsTold f ws vs
  told_back = record { proper = λ t. (proper_views t).second; uncrossed = uncrossed_back; unmet = unmet_back }

  -- ---- the entries

  entry_of : (t : Bool) (d : Dim) (p : Type 0) → (IsTrue t → p) → (p → IsTrue t) → IsEntry (given t d) d p
  entry_of true d p x y = inl (refl, x refl)
  entry_of false d p x y = inr (refl, λ h. false≢true (y h))

  boundary_entry : (s m : Bool) → f.stretch ≡ s → f.meets ≡ m → IsBoundaryEntry (cond s dim.D1 (given m dim.D0)) vs ws
  boundary_entry true m e g = inl (refl, sound.stretch e)
  boundary_entry false true e g = inr (inl (refl, (λ h. false≢true (sym e ∙ (done.full h.e h.f h.below_e h.below_f).stretch h.holds), sound.meets g)))
  boundary_entry false false e g = inr (inr (refl, λ c. (unmet_ring g).none c.place c.weight c.first c.second))

  module _ (v : Views) (views : AreViews v vs ws) where
    a_in : Common (IsOnRing vs) (IsInRing ws) → IsTrue v.first.inside
    a_in c = (views.first.full c.place c.weight c.first).inside c.second

    a_out : Common (IsOnRing vs) (IsOutOfRing ws) → IsTrue v.first.outside
    a_out c = (views.first.full c.place c.weight c.first).outside c.second

    b_in : Common (IsOnRing ws) (IsInRing vs) → IsTrue v.second.inside
    b_in c = (views.second.full c.place c.weight c.first).inside c.second

    b_out : Common (IsOnRing ws) (IsOutOfRing vs) → IsTrue v.second.outside
    b_out c = (views.second.full c.place c.weight c.first).outside c.second

    -- one of three holds exactly where one of three tests is true
    from_tests : {A B C D : Type 0} (x y z : Bool) → D ↔ (A ⊎ (B ⊎ C)) → (IsTrue x → A) → (IsTrue y → B) → (IsTrue z → C) → IsTrue (x || (y || z)) → D
    from_tests x y z law a b c t = law.1 (elim (or_either x _ t) [ inl h ↦ inl (a h) | inr r ↦ inr (elim (or_either y z r) [ inl h ↦ inl (b h) | inr h ↦ inr (c h) ]) ])

    to_tests : {A B C D : Type 0} (x y z : Bool) → D ↔ (A ⊎ (B ⊎ C)) → (A → IsTrue x) → (B → IsTrue y) → (C → IsTrue x ⊎ IsTrue z) → D → IsTrue (x || (y || z))
    to_tests x y z law a b c d = elim (law.0 d) [
      | inl h ↦ or_left x _ (a h)
      | inr r ↦ elim r [
        | inl h ↦ or_right x _ (or_left y z (b h))
        | inr h ↦ elim (c h) [ inl t ↦ or_left x _ t | inr t ↦ or_right x _ (or_right y z t) ]
      ]
    ]

    in_law : Stretch vs ws 0 0 → IsTrue v.first.inside ⊎ IsTrue f.ii
    in_law h = elim ((done.full h.e h.f h.below_e h.below_f).ii h refl refl) [ inl t ↦ inl (a_in (first_cross (sound.proper t)).0) | inr t ↦ inr t ]

    first_law : Stretch vs ws 0 1 → IsTrue v.first.outside ⊎ IsTrue f.ie
    first_law h = elim ((done.full h.e h.f h.below_e h.below_f).ie h refl refl) [ inl t ↦ inl (a_out (first_cross (sound.proper t)).1) | inr t ↦ inr t ]

    second_law : Stretch vs ws 1 0 → IsTrue v.second.outside ⊎ IsTrue f.ei
    second_law h = elim ((done.full h.e h.f h.below_e h.below_f).ei h refl refl) [ inl t ↦ inl (b_out (second_cross (sound.proper t)).1) | inr t ↦ inr t ]

    pub gathered_is : IsMatrix (gathered f v) vs ws
    gathered_is = record {
      ii = entry_of _ dim.D2 _ (from_tests _ _ _ (in_both vs ws sv sw) views.first.sound.inside views.second.sound.inside sound.ii) (to_tests _ _ _ (in_both vs ws sv sw) a_in b_in in_law);
      ib = entry_of _ dim.D1 _ (λ t. Common-swap (views.second.sound.inside t)) (λ c. b_in (Common-swap c));
      ie = entry_of _ dim.D2 _ (from_tests _ _ _ (in_first_alone vs ws sv sw) views.first.sound.outside views.second.sound.inside sound.ie) (to_tests _ _ _ (in_first_alone vs ws sv sw) a_out b_in first_law);
      bi = entry_of _ dim.D1 _ views.first.sound.inside a_in;
      bb = boundary_entry f.stretch f.meets refl refl;
      be = entry_of _ dim.D1 _ views.first.sound.outside a_out;
      ei = entry_of _ dim.D2 _ (from_tests _ _ _ (in_second_alone vs ws sv sw) views.second.sound.outside views.first.sound.inside sound.ei) (to_tests _ _ _ (in_second_alone vs ws sv sw) b_out a_in second_law);
      eb = entry_of _ dim.D1 _ (λ t. Common-swap (views.second.sound.outside t)) (λ c. b_out (Common-swap c));
      ee = refl;
    }
