-- What the sides of two edges' ends tell of the places that the edges have in common.
use Rattle.std.proofs.Common.{◌≡◌, ◌≢◌, sym, ap, ◌∙◌, arith, ◌⊎◌, inl, inr}
use lib.IntN.{ℤ, pos, ◌+ℤ◌, ◌-ℤ◌, ◌*ℤ◌, neg_ℤ, *ℤ_comm, *ℤ-zero}
use lib.Signed.{◌<ℤ◌}
use borrow.Author.Differences.{ints}
use Rattle.std.proofs.lemmas.Int.{by_lt_z, clamps}
use Rattle.poly_exact.specs.declared.points.Point.{Point}
use Rattle.poly_exact.specs.Places.{Place, turn, IsBetween, IsOnEdge}
use Rattle.poly_exact.specs.Met.{AreAlike, AreParted, IsOneZero, AreBeyond, AreApart, IsLone, Crossing, DoTouch, DoCross}
use Rattle.poly_exact.proofs.Whole.{expand, polys, mul-pos, zero-of-mul, neg-mul}
use Rattle.poly_exact.proofs.Crossings.{turn_first, turn-reversed, IsOnEdge-reversed}
use Rattle.poly_exact.proofs.Shifts.{IsInside-reversed}
use Rattle.poly_exact.proofs.VertexPlaces.{at, first_on, second_on}
use Rattle.poly_exact.proofs.CrossingPlace.{same_weight}
use Rattle.poly_exact.proofs.EdgeEnds.{ends_apart}
use Rattle.poly_exact.proofs.Pairs.{left_apart, right_apart, crossing, touching}

-- ---- boxes

pub less_times : (w s t : ℤ) → pos 0 <ℤ w → s <ℤ t → (s *ℤ w) <ℤ (t *ℤ w)
less_times w s t h k =
    let m = mul-pos w (t -ℤ s) h (omega (arith, ints)) in
    let e : w *ℤ (t -ℤ s) ≡ t *ℤ w -ℤ s *ℤ w = simp expand (omega (arith, polys)) in
    omega (arith, ints)

ranges_apart : (u v s t x w : ℤ) → pos 0 <ℤ w → AreBeyond u v s t → IsBetween (u *ℤ w) (v *ℤ w) x → IsBetween (s *ℤ w) (t *ℤ w) x → ⊥
ranges_apart u v s t x w h o i j =
    let il = i.least in let ig = i.greatest in let jl = j.least in let jg = j.greatest in
    elim o [
      | inl k ↦ (let a = less_times w u s h k.0.0 in let b = less_times w u t h k.0.1 in let c = less_times w v s h k.1.0 in let d = less_times w v t h k.1.1 in omega (arith, ints, clamps))
      | inr k ↦ (let a = less_times w s u h k.0.0 in let b = less_times w t u h k.0.1 in let c = less_times w s v h k.1.0 in let d = less_times w t v h k.1.1 in omega (arith, ints, clamps))
    ]

pub apart_across : (a b c d : Point) → AreBeyond a.x b.x c.x d.x → AreApart a b c d
apart_across a b c d o = record { none = λ z w i j. ranges_apart a.x b.x c.x d.x z.x z.w w o i.across j.across }

pub apart_along : (a b c d : Point) → AreBeyond a.y b.y c.y d.y → AreApart a b c d
apart_along a b c d o = record { none = λ z w i j. ranges_apart a.y b.y c.y d.y z.y z.w w o i.along j.along }

pub read_across : (a b c d : Point) (u v s t : ℤ) → u ≡ a.x → v ≡ b.x → s ≡ c.x → t ≡ d.x → AreBeyond u v s t → AreApart a b c d
read_across a b c d u v s t e f g h o = apart_across a b c d (rw (e, f, g, h) at o)

pub read_along : (a b c d : Point) (u v s t : ℤ) → u ≡ a.y → v ≡ b.y → s ≡ c.y → t ≡ d.y → AreBeyond u v s t → AreApart a b c d
read_along a b c d u v s t e f g h o = apart_along a b c d (rw (e, f, g, h) at o)

-- ---- both ends at one side

pub alike_apart : (a b c d : Point) → c ≢ d → AreAlike (turn a b (at c)) (turn a b (at d)) → AreApart a b c d
alike_apart a b c d n o = record {
  none = λ z w i j. elim o [ inl h ↦ left_apart a b c d z n w h.0 h.1 i j | inr h ↦ right_apart a b c d z n w h.0 h.1 i j ];
}

pub AreApart-swapped : (a b c d : Point) → AreApart c d a b → AreApart a b c d
AreApart-swapped a b c d h = record { none = λ z w i j. h.none z w j i }

-- ---- edges of two lines have at most one point in common

-- two places of one line
line_plain : (ex ey pw qw u v u' v' : ℤ) → neg_ℤ u *ℤ ey +ℤ v *ℤ ex ≡ pos 0 → neg_ℤ u' *ℤ ey +ℤ v' *ℤ ex ≡ pos 0 → ex *ℤ (v *ℤ qw -ℤ v' *ℤ pw) ≡ ey *ℤ (u *ℤ qw -ℤ u' *ℤ pw)
line_plain ex ey pw qw u v u' v' e f =
    let g : qw *ℤ (neg_ℤ u *ℤ ey +ℤ v *ℤ ex) ≡ pos 0 = rw e (*ℤ-zero qw) in
    let h : pw *ℤ (neg_ℤ u' *ℤ ey +ℤ v' *ℤ ex) ≡ pos 0 = rw f (*ℤ-zero pw) in
    let i : qw *ℤ (neg_ℤ u *ℤ ey +ℤ v *ℤ ex) -ℤ pw *ℤ (neg_ℤ u' *ℤ ey +ℤ v' *ℤ ex) ≡ ex *ℤ (v *ℤ qw -ℤ v' *ℤ pw) -ℤ ey *ℤ (u *ℤ qw -ℤ u' *ℤ pw) = simp expand (omega (arith, polys)) in
    omega (arith, ints)

seen_from : (ax px pw qx qw : ℤ) → (px -ℤ ax *ℤ pw) *ℤ qw -ℤ (qx -ℤ ax *ℤ qw) *ℤ pw ≡ px *ℤ qw -ℤ qx *ℤ pw
seen_from ax px pw qx qw = simp expand (omega (arith, polys))

line_two : (ex ey ax ay px py pw qx qy qw : ℤ) → neg_ℤ (px -ℤ ax *ℤ pw) *ℤ ey +ℤ (py -ℤ ay *ℤ pw) *ℤ ex ≡ pos 0 → neg_ℤ (qx -ℤ ax *ℤ qw) *ℤ ey +ℤ (qy -ℤ ay *ℤ qw) *ℤ ex ≡ pos 0
    → ex *ℤ (py *ℤ qw -ℤ qy *ℤ pw) ≡ ey *ℤ (px *ℤ qw -ℤ qx *ℤ pw)
line_two ex ey ax ay px py pw qx qy qw e f =
    ap (λ z. ex *ℤ z) (sym (seen_from ay py pw qy qw)) ∙ line_plain ex ey pw qw _ _ _ _ e f ∙ ap (λ z. ey *ℤ z) (seen_from ax px pw qx qw)

two_lines : (ex ey fx fy dx dy : ℤ) → ex *ℤ dy ≡ ey *ℤ dx → fx *ℤ dy ≡ fy *ℤ dx → ((ex *ℤ fy -ℤ ey *ℤ fx) *ℤ dx ≡ pos 0) × ((ex *ℤ fy -ℤ ey *ℤ fx) *ℤ dy ≡ pos 0)
two_lines ex ey fx fy dx dy e f =
    let g : ex *ℤ (fx *ℤ dy) ≡ ex *ℤ (fy *ℤ dx) = ap (λ z. ex *ℤ z) f in
    let h : fx *ℤ (ex *ℤ dy) ≡ fx *ℤ (ey *ℤ dx) = ap (λ z. fx *ℤ z) e in
    let i : ey *ℤ (fx *ℤ dy) ≡ ey *ℤ (fy *ℤ dx) = ap (λ z. ey *ℤ z) f in
    let j : fy *ℤ (ex *ℤ dy) ≡ fy *ℤ (ey *ℤ dx) = ap (λ z. fy *ℤ z) e in
    let k : (ex *ℤ fy -ℤ ey *ℤ fx) *ℤ dx ≡ ex *ℤ (fy *ℤ dx) -ℤ fx *ℤ (ey *ℤ dx) = simp expand (omega (arith, polys)) in
    let l : ex *ℤ (fx *ℤ dy) ≡ fx *ℤ (ex *ℤ dy) = omega (arith, polys) in
    let m : (ex *ℤ fy -ℤ ey *ℤ fx) *ℤ dy ≡ fy *ℤ (ex *ℤ dy) -ℤ ey *ℤ (fx *ℤ dy) = simp expand (omega (arith, polys)) in
    let n : fy *ℤ (ey *ℤ dx) ≡ ey *ℤ (fy *ℤ dx) = omega (arith, polys) in
    (omega (arith, ints), omega (arith, ints))

no_factor : (x y : ℤ) → x ≢ pos 0 → x *ℤ y ≡ pos 0 → y ≡ pos 0
no_factor x y n e = by_lt_z (pos 0) x
    (λ l. zero-of-mul x y l e)
    (λ l. by_lt_z x (pos 0) (λ k. zero-of-mul (neg_ℤ x) y (omega (arith, ints)) (neg-mul x y ∙ ap neg_ℤ e)) (λ k. absurd (n (omega (arith, ints)))))

cross_is : (ax ay bx by cx cy dx dy : ℤ) → ((ax -ℤ dx) *ℤ (by -ℤ ay) +ℤ (dy -ℤ ay) *ℤ (bx -ℤ ax)) -ℤ ((ax -ℤ cx) *ℤ (by -ℤ ay) +ℤ (cy -ℤ ay) *ℤ (bx -ℤ ax)) ≡ (bx -ℤ ax) *ℤ (dy -ℤ cy) -ℤ (by -ℤ ay) *ℤ (dx -ℤ cx)
cross_is ax ay bx by cx cy dx dy =
    let e : (u v d : ℤ) → (u -ℤ v) *ℤ d ≡ u *ℤ d -ℤ v *ℤ d = λ u v d. simp expand (omega (arith, polys)) in
    let f = *ℤ_comm (by -ℤ ay) (dx -ℤ cx) in
    let g = *ℤ_comm (bx -ℤ ax) (dy -ℤ cy) in
    let h : (ax -ℤ dx) *ℤ (by -ℤ ay) -ℤ (ax -ℤ cx) *ℤ (by -ℤ ay) ≡ neg_ℤ ((dx -ℤ cx) *ℤ (by -ℤ ay)) = rw (e ax dx (by -ℤ ay), e ax cx (by -ℤ ay), e dx cx (by -ℤ ay)) (omega (arith, ints)) in
    let i : (dy -ℤ ay) *ℤ (bx -ℤ ax) -ℤ (cy -ℤ ay) *ℤ (bx -ℤ ax) ≡ (dy -ℤ cy) *ℤ (bx -ℤ ax) = rw (e dy ay (bx -ℤ ax), e cy ay (bx -ℤ ax), e dy cy (bx -ℤ ax)) (omega (arith, ints)) in
    omega (arith, ints)

at_turn : (a b c : Point) → turn a b (at c) ≡ (a.x -ℤ c.x) *ℤ (b.y -ℤ a.y) +ℤ (c.y -ℤ a.y) *ℤ (b.x -ℤ a.x)
at_turn a b c =
    let e : a.x *ℤ pos 1 -ℤ c.x ≡ a.x -ℤ c.x = omega (arith, ints) in
    let f : c.y -ℤ a.y *ℤ pos 1 ≡ c.y -ℤ a.y = omega (arith, ints) in
    λ i. e i *ℤ (b.y -ℤ a.y) +ℤ f i *ℤ (b.x -ℤ a.x)

pub lone_lines : (a b c d : Point) → turn a b (at c) ≢ turn a b (at d) → IsLone a b c d
lone_lines a b c d n = record {
  same = λ p q wp wq ip jp iq jq.
      let e = line_two (b.x -ℤ a.x) (b.y -ℤ a.y) a.x a.y p.x p.y p.w q.x q.y q.w (sym (turn_first a b p) ∙ ip.line) (sym (turn_first a b q) ∙ iq.line) in
      let f = line_two (d.x -ℤ c.x) (d.y -ℤ c.y) c.x c.y p.x p.y p.w q.x q.y q.w (sym (turn_first c d p) ∙ jp.line) (sym (turn_first c d q) ∙ jq.line) in
      let t = two_lines (b.x -ℤ a.x) (b.y -ℤ a.y) (d.x -ℤ c.x) (d.y -ℤ c.y) (p.x *ℤ q.w -ℤ q.x *ℤ p.w) (p.y *ℤ q.w -ℤ q.y *ℤ p.w) e f in
      let c' = cross_is a.x a.y b.x b.y c.x c.y d.x d.y in
      let tc = at_turn a b c in
      let td = at_turn a b d in
      let x : (b.x -ℤ a.x) *ℤ (d.y -ℤ c.y) -ℤ (b.y -ℤ a.y) *ℤ (d.x -ℤ c.x) ≢ pos 0 = λ z. n (omega (arith, ints)) in
      let u = no_factor _ _ x t.0 in
      let v = no_factor _ _ x t.1 in
      record { across = omega (arith, ints); along = omega (arith, ints) };
}

pub IsLone-swapped : (a b c d : Point) → IsLone c d a b → IsLone a b c d
IsLone-swapped a b c d h = record { same = λ p q wp wq ip jp iq jq. h.same p q wp wq jp ip jq iq }

-- ---- parted both ways

turn-swapped : (a b : Point) (p : Place) → pos 0 <ℤ turn a b p → turn b a p <ℤ pos 0
turn-swapped a b p h = let e = turn-reversed a b p in omega (arith, ints)

turn-swapped-back : (a b : Point) (p : Place) → turn a b p <ℤ pos 0 → pos 0 <ℤ turn b a p
turn-swapped-back a b p h = let e = turn-reversed a b p in omega (arith, ints)

Parted-reversed : (a b : Point) (p q : Place) → AreParted (turn a b p) (turn a b q) → AreParted (turn b a p) (turn b a q)
Parted-reversed a b p q o = elim o [
  | inl h ↦ inr (turn-swapped a b p h.0, turn-swapped-back a b q h.1)
  | inr h ↦ inl (turn-swapped-back a b p h.0, turn-swapped a b q h.1)
]

pub parted_crossing : (a b c d : Point) → a ≢ b → c ≢ d → AreParted (turn c d (at a)) (turn c d (at b)) → AreParted (turn a b (at c)) (turn a b (at d)) → Crossing a b c d
parted_crossing a b c d n k o r = elim o [
  | inl h ↦ (let m = crossing b a c d (λ e. n (sym e)) k h.1 h.0 (Parted-reversed a b (at c) (at d) r) in record { m = m.m; weight = m.weight; first = IsInside-reversed b a m.m m.first; second = m.second })
  | inr h ↦ (let m = crossing a b c d n k h.0 h.1 r in record { m = m.m; weight = m.weight; first = m.first; second = m.second })
]

parted_differ : (t u : ℤ) → AreParted t u → t ≢ u
parted_differ t u o e = elim o [ inl h ↦ (let x = h.0 in let y = h.1 in omega (arith, ints)) | inr h ↦ (let x = h.0 in let y = h.1 in omega (arith, ints)) ]

pub parted_cross : (a b c d : Point) → a ≢ b → c ≢ d → AreParted (turn c d (at a)) (turn c d (at b)) → AreParted (turn a b (at c)) (turn a b (at d)) → DoCross a b c d
parted_cross a b c d n k o r = record { crossing = parted_crossing a b c d n k o r; lone = lone_lines a b c d (parted_differ _ _ r); first = o; second = r }

-- ---- one end on the line of the other edge

one_zero_parted : (t u : ℤ) → IsOneZero t u → ((pos 0 <ℤ t) × (u <ℤ pos 0)) ⊎ (((t <ℤ pos 0) × (pos 0 <ℤ u)) ⊎ ((t ≡ pos 0) × (u ≡ pos 0))) → ⊥
one_zero_parted t u o r = elim r [
  | inl h ↦ (let x = h.0 in let y = h.1 in elim o [ inl k ↦ (let z = k.0 in omega (arith, ints)) | inr k ↦ (let z = k.1 in omega (arith, ints)) ])
  | inr s ↦ elim s [
    | inl h ↦ (let x = h.0 in let y = h.1 in elim o [ inl k ↦ (let z = k.0 in omega (arith, ints)) | inr k ↦ (let z = k.1 in omega (arith, ints)) ])
    | inr h ↦ elim o [ inl k ↦ k.1 h.1 | inr k ↦ k.0 h.0 ]
  ]
]

one_zero_differ : (t u : ℤ) → IsOneZero t u → t ≢ u
one_zero_differ t u o e = elim o [ inl k ↦ k.1 (sym e ∙ k.0) | inr k ↦ k.0 (e ∙ k.1) ]

-- c is on the line of a b, d at its right
touch_right : (a b c d : Point) → turn a b (at c) ≡ pos 0 → turn a b (at d) <ℤ pos 0 → (AreAlike (turn c d (at a)) (turn c d (at b)) → ⊥) → IsOnEdge a b (at c)
touch_right a b c d z n o =
    let s = same_weight a b c d in
    touching a b c d z n
    (by_lt_z (pos 0) (turn c d (at a)) (λ h. absurd (o (inl (h, omega (arith, ints))))) (λ h. h))
    (by_lt_z (turn c d (at b)) (pos 0) (λ h. absurd (o (inr (omega (arith, ints), h)))) (λ h. h))

AreAlike-swap : (t u : ℤ) → AreAlike t u → AreAlike u t
AreAlike-swap t u o = elim o [ inl h ↦ inl (h.1, h.0) | inr h ↦ inr (h.1, h.0) ]

touch_first : (a b c d : Point) → turn a b (at c) ≡ pos 0 → turn a b (at d) ≢ pos 0 → (AreAlike (turn c d (at a)) (turn c d (at b)) → ⊥) → IsOnEdge a b (at c)
touch_first a b c d z n o = by_lt_z (turn a b (at d)) (pos 0)
    (λ h. touch_right a b c d z h o)
    (λ h. let e = turn-reversed a b (at d) in let f = turn-reversed a b (at c) in
    let g : pos 0 <ℤ turn a b (at d) = by_lt_z (pos 0) (turn a b (at d)) (λ k. k) (λ k. absurd (n (omega (arith, ints)))) in
    IsOnEdge-reversed b a (at c) (touch_right b a c d (omega (arith, ints)) (omega (arith, ints)) (λ k. o (AreAlike-swap _ _ k))))

alike_negated : (t u t' u' : ℤ) → t' ≡ neg_ℤ t → u' ≡ neg_ℤ u → AreAlike t' u' → AreAlike t u
alike_negated t u t' u' e f o = elim o [
  | inl h ↦ (let x = h.0 in let y = h.1 in inr (omega (arith, ints), omega (arith, ints)))
  | inr h ↦ (let x = h.0 in let y = h.1 in inl (omega (arith, ints), omega (arith, ints)))
]

pub one_touch : (a b c d : Point) → IsOneZero (turn a b (at c)) (turn a b (at d)) → (AreAlike (turn c d (at a)) (turn c d (at b)) → ⊥) → DoTouch a b c d
one_touch a b c d z o =
    let lone = lone_lines a b c d (one_zero_differ _ _ z) in
    let one : pos 0 <ℤ pos 1 = omega (arith, ints) in
    let outer : Crossing a b c d → ⊥ = λ x. one_zero_parted _ _ z (ends_apart c d a b x.m x.second x.first.on.line) in
    elim z [
      | inl h ↦ record { m = at c; weight = one; first = touch_first a b c d h.0 h.1 o; second = first_on c d; lone = lone; outer = outer }
      | inr h ↦ record { m = at d; weight = one; first = touch_first a b d c h.1 h.0 (λ k. o (alike_negated _ _ _ _ (turn-reversed c d (at a)) (turn-reversed c d (at b)) k)); second = second_on c d; lone = lone; outer = outer }
    ]

pub DoTouch-swapped : (a b c d : Point) → DoTouch c d a b → DoTouch a b c d
DoTouch-swapped a b c d t = record {
  m = t.m;
  weight = t.weight;
  first = t.second;
  second = t.first;
  lone = IsLone-swapped a b c d t.lone;
  outer = λ x. t.outer (record { m = x.m; weight = x.weight; first = x.second; second = x.first });
}

-- ---- what the sides exclude

pub zero_not_alike : (t u : ℤ) → IsOneZero t u → AreAlike t u → ⊥
zero_not_alike t u o r = elim r [
  | inl h ↦ (let x = h.0 in let y = h.1 in elim o [ inl k ↦ (let z = k.0 in omega (arith, ints)) | inr k ↦ (let z = k.1 in omega (arith, ints)) ])
  | inr h ↦ (let x = h.0 in let y = h.1 in elim o [ inl k ↦ (let z = k.0 in omega (arith, ints)) | inr k ↦ (let z = k.1 in omega (arith, ints)) ])
]

pub parted_not_alike : (t u : ℤ) → AreParted t u → AreAlike t u → ⊥
parted_not_alike t u o r = elim r [
  | inl h ↦ (let x = h.0 in let y = h.1 in elim o [ inl k ↦ (let z = k.1 in omega (arith, ints)) | inr k ↦ (let z = k.0 in omega (arith, ints)) ])
  | inr h ↦ (let x = h.0 in let y = h.1 in elim o [ inl k ↦ (let z = k.0 in omega (arith, ints)) | inr k ↦ (let z = k.1 in omega (arith, ints)) ])
]

pub line_not_alike : (t u : ℤ) → (t ≡ pos 0) × (u ≡ pos 0) → AreAlike t u → ⊥
line_not_alike t u o r = let z = o.0 in elim r [ inl h ↦ (let x = h.0 in omega (arith, ints)) | inr h ↦ (let x = h.0 in omega (arith, ints)) ]

-- one line one way, two the other way
pub line_parted : (a b c d : Point) → AreParted (turn a b (at c)) (turn a b (at d)) → (turn c d (at a) ≡ pos 0) × (turn c d (at b) ≡ pos 0) → ⊥
line_parted a b c d o z =
    let s = same_weight a b c d in
    let x = z.0 in let y = z.1 in
    parted_differ _ _ o (omega (arith, ints))
