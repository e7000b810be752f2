-- A sample of a piece speaks for the piece, and each place of the edge but its second end lies in a piece.
use Rattle.std.proofs.Common.{◌≡◌, ◌≢◌, refl, sym, ◌∙◌, subst, arith, ◌⊎◌, inl, inr, ℕ, zero, suc, ◌+◌, ◌<◌, ◌%◌, List, length}
use lib.IntN.{ℤ, pos, ◌+ℤ◌, ◌-ℤ◌, ◌*ℤ◌, zero-*ℤ}
use lib.Signed.{◌<ℤ◌, ◌≤ℤ◌}
use borrow.Author.Differences.{ints}
use Rattle.std.proofs.lemmas.Int.{by_lt_z}
use Rattle.std.proofs.lemmas.Bool.{cases_lt}
use Rattle.poly_exact.specs.declared.points.Point.{Point}
use Rattle.poly_exact.specs.declared.points.HalfPoint.{HalfPoint}
use Rattle.poly_exact.specs.declared.locations.Location.{Location}
use Rattle.poly_exact.specs.declared.locations.Location.TheVariants as location
use Rattle.poly_exact.specs.Places.{Place, turn, reach, IsOnEdge, IsInside, between}
use Rattle.poly_exact.specs.Rings.{vertex, crossings, IsOnRing, IsInRing, IsOutOfRing, IsSimple}
use Rattle.poly_exact.specs.Located.{IsLocated, AreSmall}
use Rattle.de9im.specs.Matrix.{Common}
use Rattle.poly_exact.specs.Small.{place}
use Rattle.de9im.specs.Cuts.{IsCut, IsAmong, IsNextCut, IsUncrossed, IsInPiece, IsSample}
use Rattle.poly_exact.proofs.Whole.{weak, expand, polys, pos-of-mul}
use Rattle.poly_exact.proofs.VertexPlaces.{at, first_on, second_on}
use Rattle.poly_exact.proofs.Pieces.{IsQuiet, quiet_law, off_z}
use Rattle.poly_exact.proofs.Pairs.{reach_first, half_inside, half_reach}
use Rattle.poly_exact.proofs.Lines.{long_is}

module _ (a b c d : Point) (ws : List Point) (proper : a ≢ b) (sw : IsSimple ws) (cut : IsCut a b c) (end : IsNextCut d a b c ws) (un : IsUncrossed a b ws) where
  abbrev pub half : Place
  half = between (pos 1) (pos 1) (at c) (at d)

  half_weight : pos 0 <ℤ half.w
  half_weight = omega (arith, ints)

  twice : (u : ℤ) → u *ℤ half.w ≡ u +ℤ u
  twice u = omega (arith, ints)

  lo : ℤ
  lo = reach a b (at c)

  hi : ℤ
  hi = reach a b (at d)

  at_half : IsInside a b half
  at_half = half_inside a b a b proper proper (first_on a b).line (second_on a b).line c d cut.line end.line (rw (reach_first a b) cut.low) end.beyond end.high

  reach_half : reach a b half ≡ reach a b (at c) +ℤ reach a b (at d)
  reach_half = half_reach a b a b proper proper (first_on a b).line (second_on a b).line c d cut.line end.line (rw (reach_first a b) cut.low) end.beyond end.high

  quiet : IsQuiet a b ws (reach a b (at c)) (reach a b (at d))
  quiet = record {
    low = cut.low;
    high = (let e = long_is a b in let h = end.high in omega (arith, ints));
    vertices = λ k h t x y. end.none k h t x y;
    crossings = λ k h o r. un.none k h o r;
  }

  above_low : (reach a b (at c) *ℤ half.w) <ℤ reach a b half
  above_low = let e = twice (reach a b (at c)) in let f = reach_half in let g = end.beyond in omega (arith, ints)

  below_high : reach a b half <ℤ (reach a b (at d) *ℤ half.w)
  below_high = let e = twice (reach a b (at d)) in let f = reach_half in let g = end.beyond in omega (arith, ints)

  -- a place of the piece is before the next cut
  before : (z : Place) → IsInPiece a b c ws z → reach a b z <ℤ (reach a b (at d) *ℤ z.w)
  before z p = elim end.end [
    | inl e ↦ subst (λ v. reach a b z <ℤ (reach a b (at v) *ℤ z.w)) (sym e) p.high
    | inr k ↦ subst (λ v. reach a b z <ℤ (reach a b (at v) *ℤ z.w)) (sym k.is)
        (p.none k.k k.below (subst (λ v. turn a b (at v) ≡ pos 0) k.is end.line) (subst (λ v. reach a b (at c) <ℤ reach a b (at v)) k.is end.beyond))
  ]

  alike : (z : Place) → IsInPiece a b c ws z → (IsOnRing ws z → ⊥) → (crossings ws z (length ws) + crossings ws half (length ws)) % 2 ≡ 0
  alike z p off = quiet_law a b ws (reach a b (at c)) (reach a b (at d)) proper sw.proper quiet z half p.weight half_weight p.on at_half.on p.low (before z p) above_low below_high off

  half_off : (z : Place) → IsInPiece a b c ws z → (IsOnRing ws z → ⊥) → IsOnRing ws half → ⊥
  half_off z p off o = off_z a b ws (reach a b (at c)) (reach a b (at d)) proper sw.proper quiet half z half_weight p.weight at_half.on p.on above_low below_high p.low (before z p) off o.edge o.below o.on

  sound_in : (l : Location) → IsLocated l ws half → l ≡ location.In → Common (IsOnEdge a b) (IsInRing ws)
  sound_in l h e = record { place = half; weight = half_weight; first = at_half.on; second = subst (λ k. IsLocated k ws half) e h }

  sound_out : (l : Location) → IsLocated l ws half → l ≡ location.Out → Common (IsOnEdge a b) (IsOutOfRing ws)
  sound_out l h e = record { place = half; weight = half_weight; first = at_half.on; second = subst (λ k. IsLocated k ws half) e h }

  full_in : (l : Location) → IsLocated l ws half → (z : Place) → IsInPiece a b c ws z → IsInRing ws z → l ≡ location.In
  full_in location.In h z p i = refl
  full_in location.On h z p i = absurd (half_off z p i.off h)
  full_in location.Out h z p i = let e = alike z p i.off in let f = h.even in let g = i.odd in absurd (omega arith)

  full_out : (l : Location) → IsLocated l ws half → (z : Place) → IsInPiece a b c ws z → IsOutOfRing ws z → l ≡ location.Out
  full_out location.In h z p i = let e = alike z p i.off in let f = h.odd in let g = i.even in absurd (omega arith)
  full_out location.On h z p i = absurd (half_off z p i.off h)
  full_out location.Out h z p i = refl

  pub sample_is : (l : Location) (p : HalfPoint) → p.x ≡ c.x +ℤ d.x → p.y ≡ c.y +ℤ d.y → IsLocated l ws (place p) → IsSample l a b c ws
  sample_is l p ex ey h =
      let u : (s t : ℤ) → s +ℤ t ≡ pos 1 *ℤ s +ℤ pos 1 *ℤ t = λ s t. omega (arith, ints) in
      let x : p.x ≡ pos 1 *ℤ c.x +ℤ pos 1 *ℤ d.x = ex ∙ u c.x d.x in
      let y : p.y ≡ pos 1 *ℤ c.y +ℤ pos 1 *ℤ d.y = ey ∙ u c.y d.y in
      let same : place p ≡ half = λ i. record { x = x i; y = y i; w = pos 2 } in
      let k = subst (IsLocated l ws) same h in
      record { sound_in = sound_in l k; sound_out = sound_out l k; full_in = full_in l k; full_out = full_out l k }

-- ---- the piece of a place

pub record Start (a b : Point) (ws : List Point) (z : Place) (n : ℕ) : Type 0 where
  pub c : Point
  pub cut : IsCut a b c
  pub from : (c ≡ a) ⊎ IsAmong c ws n
  pub low : (reach a b (at c) *ℤ z.w) ≤ℤ reach a b z
  pub none : (k : ℕ) → k < n → turn a b (at (vertex ws k)) ≡ pos 0 → reach a b (at c) <ℤ reach a b (at (vertex ws k)) → reach a b z <ℤ (reach a b (at (vertex ws k)) *ℤ z.w)

cancel : (u v w : ℤ) → pos 0 <ℤ w → (u *ℤ w) <ℤ (v *ℤ w) → u <ℤ v
cancel u v w h k =
    let e : w *ℤ (v -ℤ u) ≡ v *ℤ w -ℤ u *ℤ w = simp expand (omega (arith, polys)) in
    let m = pos-of-mul w (v -ℤ u) (weak h) (omega (arith, ints)) in
    omega (arith, ints)

module _ (a b : Point) (ws : List Point) (small : AreSmall ws) (z : Place) (w : pos 0 <ℤ z.w) (high : reach a b z <ℤ (reach a b (at b) *ℤ z.w)) where
  more : (n : ℕ) → n < length ws → Start a b ws z n → Start a b ws z (suc n)
  more n h s =
      let v = vertex ws n in
      let keep : ((turn a b (at v) ≡ pos 0) → reach a b (at s.c) <ℤ reach a b (at v) → reach a b z <ℤ (reach a b (at v) *ℤ z.w)) → Start a b ws z (suc n) = λ f. record {
        c = s.c;
        cut = s.cut;
        from = elim s.from [ inl e ↦ inl e | inr k ↦ inr (record { k = k.k; below = (let kb = k.below in omega arith); is = k.is }) ];
        low = s.low;
        none = λ k kb t x. elim (cases_lt k n) [
          | inl y ↦ s.none k y t x
          | inr y ↦ (let e : k ≡ n = omega arith in
              subst (λ j. reach a b z <ℤ (reach a b (at (vertex ws j)) *ℤ z.w)) (sym e) (f (subst (λ j. turn a b (at (vertex ws j)) ≡ pos 0) e t) (subst (λ j. reach a b (at s.c) <ℤ reach a b (at (vertex ws j))) e x)))
        ];
      } in
      by_lt_z (reach a b z) (reach a b (at v) *ℤ z.w)
      (λ x. keep (λ t y. x))
      (λ x. by_lt_z (reach a b (at s.c)) (reach a b (at v))
      (λ y. by_lt_z (turn a b (at v)) (pos 0)
      (λ l. keep (λ t g. absurd (omega (arith, ints))))
      (λ l. by_lt_z (pos 0) (turn a b (at v))
      (λ m. keep (λ t g. absurd (omega (arith, ints))))
      (λ m. record {
        c = v;
        cut = record { small = small.each n h; line = omega (arith, ints); low = (let q = s.cut.low in omega (arith, ints)); high = cancel (reach a b (at v)) (reach a b (at b)) z.w w (omega (arith, ints)) };
        from = inr (record { k = n; below = omega arith; is = refl });
        low = x;
        none = λ k kb t g. elim (cases_lt k n) [
          | inl i ↦ s.none k i t (omega (arith, ints))
          | inr i ↦ (let e : k ≡ n = omega arith in
              let g' : reach a b (at v) <ℤ reach a b (at v) = subst (λ j. reach a b (at v) <ℤ reach a b (at (vertex ws j))) e g in absurd (omega (arith, ints)))
        ];
      })))
      (λ y. keep (λ t g. absurd (omega (arith, ints)))))

  last : IsCut a b a → pos 0 ≤ℤ reach a b z → (n : ℕ) → n < suc (length ws) → Start a b ws z n
  last cut l zero h = record { c = a; cut = cut; from = inl refl; low = (let e : reach a b (at a) *ℤ z.w ≡ pos 0 = rw (reach_first a b) (zero-*ℤ z.w) in omega (arith, ints)); none = λ k b t x. absurd (omega arith) }
  last cut l (suc n) h = more n (omega arith) (last cut l n (omega arith))

  pub piece_of : IsCut a b a → pos 0 ≤ℤ reach a b z → Start a b ws z (length ws)
  piece_of cut l = last cut l (length ws) (omega arith)
