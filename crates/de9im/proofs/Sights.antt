-- What the loops over the pieces of an edge, and over the edges, see.
use Rattle.std.proofs.Common.{◌≡◌, ◌≢◌, refl, sym, ap, ◌∙◌, subst, arith, w64, to_z, of_z, ◌⊎◌, inl, inr, ℕ, ◌+◌, ◌<◌, ◌≤◌, List, length, Bool, true, false}
use Rattle.std.specs.Prelude.{◌||◌, IsTrue, ◌↔◌}
use lib.IntN.{ℤ, pos, ◌*ℤ◌, *ℤ_comm, *ℤ-zero}
use Rattle.poly_exact.proofs.Judged.{back}
use lib.Signed.{◌<ℤ◌, ◌≤ℤ◌, lt_z, le_z, mag}
use borrow.Author.Differences.{ints}
use Rattle.std.proofs.lemmas.Int.{by_lt_z}
use Rattle.std.proofs.lemmas.Bool.{false≢true, cases_lt}
use Rattle.poly_exact.specs.declared.points.Point.{Point}
use Rattle.poly_exact.specs.declared.locations.Location.{Location}
use Rattle.poly_exact.specs.declared.locations.Location.TheVariants as location
use Rattle.de9im.specs.declared.cuts.Sight.{Sight}
use Rattle.poly_exact.specs.Places.{Place, turn, reach, IsOnEdge}
use Rattle.poly_exact.specs.Rings.{vertex, next, IsOnRing, IsInRing, IsOutOfRing, IsSimple, IsAt}
use Rattle.poly_exact.specs.Located.{AreSmall}
use Rattle.de9im.specs.Matrix.{Common}
use Rattle.poly_exact.specs.Small.{IsSmall}
use Rattle.de9im.specs.Cuts.{IsNearer, IsNextTo, IsCut, IsInPiece, IsSample, seen, joined, IsTrueSight, IsSeen, IsSight, IsSightTo, IsBoundary, IsBoundaryTo}
use Rattle.poly_exact.proofs.Whole.{mul-pos}
use Rattle.poly_exact.proofs.Crossings.{IsOnEdge-reversed}
use Rattle.poly_exact.proofs.Inner.{reach_on}
use Rattle.poly_exact.proofs.VertexPlaces.{at, first_on, second_on}
use Rattle.poly_exact.proofs.SamePoints.{IsOnEdge-same}
use Rattle.poly_exact.proofs.Pieces.{long_edge, first_at, reach_at, next-below}
use Rattle.poly_exact.proofs.Pairs.{reach_first, reach_second}
use Rattle.poly_exact.proofs.Lines.{reach_back, less_yes}
use Rattle.de9im.proofs.Samples.{piece_of}

-- ---- the next cut

module _ (a b c : Point) (ws : List Point) where
  pub next_first : IsSmall b → IsCut a b c → IsNextTo b a b c ws 0
  next_first s cut = record { small = s; line = (second_on a b).line; beyond = cut.high; high = (let x = cut.high in omega (arith, ints)); none = λ k h. absurd (omega arith); end = inl refl }

  pub next_step : (d : Point) (k : ℕ) → IsSmall (vertex ws k) → IsNearer a b c d (vertex ws k) → IsNextTo d a b c ws k → IsNextTo (vertex ws k) a b c ws (k + 1)
  next_step d k s n h = record {
    small = s;
    line = n.line;
    beyond = n.beyond;
    high = (let x = n.before in let y = h.high in omega (arith, ints));
    none = λ j jb t x y. elim (cases_lt j k) [
      | inl i ↦ (let z = n.before in h.none j i t x (omega (arith, ints)))
      | inr i ↦ (let e : j ≡ k = omega arith in let y' = subst (λ m. reach a b (at (vertex ws m)) <ℤ reach a b (at (vertex ws k))) e y in omega (arith, ints))
    ];
    end = inr (record { k = k; below = omega arith; is = refl });
  }

  pub next_skip : (d : Point) (k : ℕ) → (IsNearer a b c d (vertex ws k) → ⊥) → IsNextTo d a b c ws k → IsNextTo d a b c ws (k + 1)
  next_skip d k n h = record {
    small = h.small;
    line = h.line;
    beyond = h.beyond;
    high = h.high;
    none = λ j jb t x y. elim (cases_lt j k) [
      | inl i ↦ h.none j i t x y
      | inr i ↦ (let e : j ≡ k = omega arith in
          n (record { line = subst (λ m. turn a b (at (vertex ws m)) ≡ pos 0) e t; beyond = subst (λ m. reach a b (at c) <ℤ reach a b (at (vertex ws m))) e x; before = subst (λ m. reach a b (at (vertex ws m)) <ℤ reach a b (at d)) e y }))
    ];
    end = elim h.end [ inl e ↦ inl e | inr m ↦ inr (record { k = m.k; below = (let mb = m.below in omega arith); is = m.is }) ];
  }

  pub next_end : (d : Point) (k : ℕ) → length ws ≤ k → k ≤ length ws → IsNextTo d a b c ws k → IsNextTo d a b c ws (length ws)
  next_end d k x y h = let i : k ≡ length ws = omega arith in subst (λ j. IsNextTo d a b c ws j) i h

-- ---- for the code: the tests as they were read

yes_less : (u v : ℤ) → u <ℤ v → lt_z u v ≡ true
yes_less u v h = sym (omega (arith, ints))

pub cut_test : (a b c : Point) (t r l : ℤ) → IsSmall c → t ≡ turn a b (at c) → t ≡ pos 0 → r ≡ reach a b (at c) → pos 0 ≤ℤ r → l ≡ reach a b (at b) → IsTrue (lt_z r l) ↔ IsCut a b c
cut_test a b c t r l s e z f h g = (
  λ x. (let y = less_yes r l x in record { small = s; line = sym e ∙ z; low = omega (arith, ints); high = omega (arith, ints) }),
  λ k. (let x = k.high in yes_less r l (omega (arith, ints))),
)

pub nearer_test : (a b from best c : Point) (t r l u : ℤ) → t ≡ turn a b (at c) → t ≡ pos 0 → r ≡ reach a b (at c) → u ≡ reach a b (at from) → u <ℤ r → l ≡ reach a b (at best) → IsTrue (lt_z r l) ↔ IsNearer a b from best c
nearer_test a b from best c t r l u e z f m h g = (
  λ x. (let y = less_yes r l x in record { line = sym e ∙ z; beyond = omega (arith, ints); before = omega (arith, ints) }),
  λ k. (let x = k.before in yes_less r l (omega (arith, ints))),
)

pub not_le : (u v : ℤ) → le_z u v ≡ false → v <ℤ u
not_le u v e = omega (arith, ints)

-- a number whose bits are 0
pub zero_bits : (t : ℤ) → mag t < 9223372036854775808 → of_z w64 t ≡ 0 → t ≡ pos 0
zero_bits t h e = sym (back t t h refl) ∙ ap (to_z w64) e

pub no_of : (t : Bool) (p : Type 0) → IsTrue t ↔ p → t ≡ false → p → ⊥
no_of t p h e x = false≢true (sym e ∙ h.1 x)

pub never : (p : Type 0) → (p → ⊥) → IsTrue false ↔ p
never p n = (λ e. absurd (false≢true e), λ x. absurd (n x))

abbrev pub blind : Sight
blind = record { inside = false; outside = false }

-- ---- one more sample

seen_sound : (s : Sight) (l : Location) (a b c : Point) (ws : List Point) → IsSample l a b c ws → IsTrueSight s (IsOnEdge a b) ws → IsTrueSight (seen s l) (IsOnEdge a b) ws
seen_sound s location.In a b c ws m t = record { inside = λ x. m.sound_in refl; outside = t.outside }
seen_sound s location.On a b c ws m t = t
seen_sound s location.Out a b c ws m t = record { inside = t.inside; outside = λ x. m.sound_out refl }

seen_more : (s : Sight) (l : Location) (ws : List Point) (z : Place) → IsSeen s ws z → IsSeen (seen s l) ws z
seen_more s location.In ws z h = record { inside = λ x. refl; outside = h.outside }
seen_more s location.On ws z h = h
seen_more s location.Out ws z h = record { inside = h.inside; outside = λ x. refl }

pub seen_in : (s : Sight) (l : Location) → l ≡ location.In → IsTrue (seen s l).inside
seen_in s l e = subst (λ k. IsTrue (seen s k).inside) (sym e) refl

pub seen_out : (s : Sight) (l : Location) → l ≡ location.Out → IsTrue (seen s l).outside
seen_out s l e = subst (λ k. IsTrue (seen s k).outside) (sym e) refl

seen_piece : (s : Sight) (l : Location) (a b c : Point) (ws : List Point) → IsSample l a b c ws → (z : Place) → IsInPiece a b c ws z → IsSeen (seen s l) ws z
seen_piece s l a b c ws m z p = record { inside = λ i. seen_in s l (m.full_in z p i); outside = λ i. seen_out s l (m.full_out z p i) }

-- ---- the loop over the pieces

module _ (a b : Point) (ws : List Point) where
  pub sight_first : (r : Sight) (l : Location) → r ≡ seen blind l → IsSample l a b a ws → IsSightTo r a b ws 0
  sight_first r l e m = subst (λ s. IsSightTo s a b ws 0) (sym e) (record {
    sound = seen_sound blind l a b a ws m (record { inside = λ t. absurd (false≢true t); outside = λ t. absurd (false≢true t) });
    first = seen_piece blind l a b a ws m;
    later = λ k h. absurd (omega arith);
  })

  pub sight_step : (s r : Sight) (l : Location) (k : ℕ) → r ≡ seen s l → IsSample l a b (vertex ws k) ws → IsSightTo s a b ws k → IsSightTo r a b ws (k + 1)
  sight_step s r l k e m t = subst (λ q. IsSightTo q a b ws (k + 1)) (sym e) (record {
    sound = seen_sound s l a b (vertex ws k) ws m t.sound;
    first = λ z p. seen_more s l ws z (t.first z p);
    later = λ j h c z p. elim (cases_lt j k) [
      | inl x ↦ seen_more s l ws z (t.later j x c z p)
      | inr x ↦ (let i : j ≡ k = omega arith in seen_piece s l a b (vertex ws k) ws m z (subst (λ n. IsInPiece a b (vertex ws n) ws z) i p))
    ];
  })

  pub sight_skip : (s : Sight) (k : ℕ) → (IsCut a b (vertex ws k) → ⊥) → IsSightTo s a b ws k → IsSightTo s a b ws (k + 1)
  sight_skip s k n t = record {
    sound = t.sound;
    first = t.first;
    later = λ j h c z p. elim (cases_lt j k) [
      | inl x ↦ t.later j x c z p
      | inr x ↦ (let i : j ≡ k = omega arith in absurd (n (subst (λ m. IsCut a b (vertex ws m)) i c)))
    ];
  }

  pub cut_first : a ≢ b → IsSmall a → IsCut a b a
  cut_first n h = let e = reach_first a b in record { small = h; line = (first_on a b).line; low = omega (arith, ints); high = rw e (reach_second a b n) }

  pub sight_end : (s : Sight) (n : ℕ) → a ≢ b → IsSmall a → AreSmall ws → length ws ≤ n → n ≤ length ws → IsSightTo s a b ws n → IsSight s a b ws
  sight_end s n d sa small x y t0 =
      let i : n ≡ length ws = omega arith in
      let t = subst (λ j. IsSightTo s a b ws j) i t0 in
      record {
        sound = t.sound;
        full = λ z w o h.
            let q = piece_of a b ws small z w h (cut_first d sa) (reach_on a b z w o) in
            let p : IsInPiece a b q.c ws z = record { weight = w; on = o; low = q.low; high = h; none = q.none } in
            elim q.from [
              | inl e ↦ t.first z (subst (λ c. IsInPiece a b c ws z) e p)
              | inr k ↦ t.later k.k k.below (subst (λ c. IsCut a b c) k.is q.cut) z (subst (λ c. IsInPiece a b c ws z) k.is p)
            ];
      }

-- ---- the loop over the edges

pub or_left : (x y : Bool) → IsTrue x → IsTrue (x || y)
or_left true y e = refl
or_left false y e = absurd (false≢true e)

pub or_right : (x y : Bool) → IsTrue y → IsTrue (x || y)
or_right true y e = refl
or_right false y e = e

pub or_either : (x y : Bool) → IsTrue (x || y) → IsTrue x ⊎ IsTrue y
or_either true y e = inl refl
or_either false y e = inr e

join_left : (s t : Sight) (ws : List Point) (z : Place) → IsSeen s ws z → IsSeen (joined s t) ws z
join_left s t ws z h = record { inside = λ i. or_left _ t.inside (h.inside i); outside = λ i. or_left _ t.outside (h.outside i) }

join_right : (s t : Sight) (ws : List Point) (z : Place) → IsSeen t ws z → IsSeen (joined s t) ws z
join_right s t ws z h = record { inside = λ i. or_right s.inside _ (h.inside i); outside = λ i. or_right s.outside _ (h.outside i) }

module _ (vs ws : List Point) where
  pub boundary_first : IsBoundaryTo blind vs ws 0
  boundary_first = record {
    sound = record { inside = λ t. absurd (false≢true t); outside = λ t. absurd (false≢true t) };
    full = λ e h. absurd (omega arith);
  }

  pub boundary_step : (s t r : Sight) (e n : ℕ) → e < length vs → n ≡ next vs e → r ≡ joined s t → IsSight t (vertex vs e) (vertex vs n) ws → IsBoundaryTo s vs ws e → IsBoundaryTo r vs ws (e + 1)
  boundary_step s t r e n below nn rr g0 h =
      let g = subst (λ m. IsSight t (vertex vs e) (vertex vs m) ws) nn g0 in
      let on : (q : Place → Type 0) → Common (IsOnEdge (vertex vs e) (vertex vs (next vs e))) q → Common (IsOnRing vs) q = λ q c. record { place = c.place; weight = c.weight; first = record { edge = e; below = below; on = c.first }; second = c.second } in
      subst (λ q. IsBoundaryTo q vs ws (e + 1)) (sym rr) (record {
        sound = record {
          inside = λ x. elim (or_either s.inside t.inside x) [ inl y ↦ h.sound.inside y | inr y ↦ on (IsInRing ws) (g.sound.inside y) ];
          outside = λ x. elim (or_either s.outside t.outside x) [ inl y ↦ h.sound.outside y | inr y ↦ on (IsOutOfRing ws) (g.sound.outside y) ];
        };
        full = λ j b z w o l. elim (cases_lt j e) [
          | inl x ↦ join_left s t ws z (h.full j x z w o l)
          | inr x ↦ (let i : j ≡ e = omega arith in
              join_right s t ws z (g.full z w (subst (λ k. IsOnEdge (vertex vs k) (vertex vs (next vs k)) z) i o)
              (subst (λ k. reach (vertex vs k) (vertex vs (next vs k)) z <ℤ (reach (vertex vs k) (vertex vs (next vs k)) (at (vertex vs (next vs k))) *ℤ z.w)) i l)))
        ];
      })

  -- a second end is the next edge's first
  second_end : (s : Sight) → IsSimple vs → IsBoundaryTo s vs ws (length vs) → (e : ℕ) → e < length vs → (z : Place) → pos 0 <ℤ z.w → IsAt (vertex vs (next vs e)) z → IsSeen s ws z
  second_end s simple h e below z w is =
      let f = next vs e in
      let bf = next-below vs e below in
      let c = vertex vs f in let d = vertex vs (next vs f) in
      let one : pos 0 <ℤ pos 1 = omega (arith, ints) in
      let unit : (u : ℤ) → u ≡ u *ℤ pos 1 = λ u. omega (arith, ints) in
      let ex = is.across in let ey = is.along in
      let ux = unit z.x in let uy = unit z.y in
      let r : reach c d z ≡ pos 0 = reach_at c d c z is ∙ rw (reach_first c d) (*ℤ-zero z.w) in
      let m = mul-pos (reach c d (at d)) z.w (reach_second c d (simple.proper f bf)) w in
      h.full f bf z w (IsOnEdge-same c d (at c) z one w (omega (arith, ints)) (omega (arith, ints)) (first_on c d)) (omega (arith, ints))

  pub boundary_end : (s : Sight) (n : ℕ) → IsSimple vs → length vs ≤ n → n ≤ length vs → IsBoundaryTo s vs ws n → IsBoundary s vs ws
  boundary_end s n simple x y t0 =
      let i : n ≡ length vs = omega arith in
      let t = subst (λ j. IsBoundaryTo s vs ws j) i t0 in
      record {
        sound = t.sound;
        full = λ z w o.
            let e = o.edge in
            let a = vertex vs e in let b = vertex vs (next vs e) in
            by_lt_z (reach a b z) (reach a b (at b) *ℤ z.w)
            (λ l. t.full e o.below z w o.on l)
            (λ l. let p = IsOnEdge-reversed a b z o.on in
            let n = reach_on b a z w p in
            let f = reach_back a b z in
            let g : z.w *ℤ reach a b (at b) ≡ reach a b (at b) *ℤ z.w = *ℤ_comm z.w (reach a b (at b)) in
            second_end s simple t e o.below z w (first_at b a (long_edge b a (λ k. simple.proper e o.below (sym k))) z p (omega (arith, ints))));
      }
