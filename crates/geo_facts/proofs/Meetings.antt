-- Two edges meet in one of four ways, and so it is decided whether a list of points is that of a ring.
use Rattle.std.proofs.Common.{◌≡◌, ◌≢◌, ℕ, zero, suc, ◌+◌, ◌<◌, ◌≤◌, ◌⊎◌, inl, inr, List, length, refl, subst, arith}
use lib.IntN.{ℤ, pos, negsuc, ◌-ℤ◌}
use lib.Signed.{◌<ℤ◌, ◌≤ℤ◌}
use borrow.Author.Differences.{ints}
use Rattle.std.proofs.lemmas.Bool.{cases_lt, cases_eq}
use Rattle.poly_exact.specs.declared.points.Point.{Point}
use Rattle.poly_exact.specs.declared.edges.Ends.{Ends}
use Rattle.poly_exact.specs.declared.edges.Ends.TheVariants as ends
use Rattle.poly_exact.specs.declared.edges.Meeting.{Meeting}
use Rattle.poly_exact.specs.declared.edges.Meeting.TheVariants as meeting
use Rattle.poly_exact.specs.declared.rings.RingFault.{RingFault}
use Rattle.poly_exact.specs.declared.rings.RingFault.TheVariants as ring_fault
use Rattle.poly_exact.specs.Places.{turn, reach}
use Rattle.poly_exact.specs.Small.{IsSmall}
use Rattle.poly_exact.specs.Located.{AreSmall}
use Rattle.poly_exact.specs.Rings.{vertex, next}
use Rattle.poly_exact.specs.Kept.{kept}
use Rattle.poly_exact.specs.Met.{IsSorted, IsOverlap, IsMet, DoTouch}
use Rattle.poly_exact.specs.Checks.{AreProper, IsGoodPair, AreGoodTo, AreAllGoodTo, IsBadOf, IsFirstBad}
use Rattle.poly_exact.specs.Built.{AreSmallTo, IsFirstLarge, IsAccepted, IsFaultOf}
use Rattle.poly_exact.proofs.VertexPlaces.{at}
use Rattle.poly_exact.proofs.Meets.{alike_apart, AreApart-swapped, parted_cross, one_touch, DoTouch-swapped, zero_not_alike, parted_not_alike, line_not_alike, line_parted}
use Rattle.poly_exact.proofs.Lines.{line_up, line_down}
use Rattle.poly_exact.proofs.Checked.{good_apart, good_next, good_last, bad_crossing, good_more, first_bad, all_good_none, all_good_more, simple_end}
use Rattle.poly_exact.proofs.KeptVertices.{AreProper-kept}

-- ---- whole numbers

sign-cases : (t : ℤ) → (pos 0 <ℤ t) ⊎ ((t ≡ pos 0) ⊎ (t <ℤ pos 0))
sign-cases (pos zero) = inr (inl refl)
sign-cases (pos (suc n)) = inl (omega (arith, ints))
sign-cases (negsuc n) = inr (inr (omega (arith, ints)))

lt-cases : (u v : ℤ) → (u <ℤ v) ⊎ (v ≤ℤ u)
lt-cases u v = elim (sign-cases (v -ℤ u)) [
  | inl h ↦ inl (omega (arith, ints))
  | inr h ↦ elim h [ inl e ↦ inr (omega (arith, ints)) | inr l ↦ inr (omega (arith, ints)) ]
]

-- ---- two edges

record Sorted (t u : ℤ) : Type 0 where
  ends : Ends
  is : IsSorted ends t u

sort : (t u : ℤ) → (pos 0 <ℤ t) ⊎ ((t ≡ pos 0) ⊎ (t <ℤ pos 0)) → (pos 0 <ℤ u) ⊎ ((u ≡ pos 0) ⊎ (u <ℤ pos 0)) → Sorted t u
sort t u (inl h) (inl g) = record { ends = ends.Same; is = inl (h, g) }
sort t u (inl h) (inr (inl g)) = record { ends = ends.Touched; is = inr ((λ e. omega (arith, ints)), g) }
sort t u (inl h) (inr (inr g)) = record { ends = ends.Parted; is = inl (h, g) }
sort t u (inr (inl h)) (inl g) = record { ends = ends.Touched; is = inl (h, (λ e. omega (arith, ints))) }
sort t u (inr (inl h)) (inr (inl g)) = record { ends = ends.Line; is = (h, g) }
sort t u (inr (inl h)) (inr (inr g)) = record { ends = ends.Touched; is = inl (h, (λ e. omega (arith, ints))) }
sort t u (inr (inr h)) (inl g) = record { ends = ends.Parted; is = inr (h, g) }
sort t u (inr (inr h)) (inr (inl g)) = record { ends = ends.Touched; is = inr ((λ e. omega (arith, ints)), g) }
sort t u (inr (inr h)) (inr (inr g)) = record { ends = ends.Same; is = inr (h, g) }

sorted : (t u : ℤ) → Sorted t u
sorted t u = sort t u (sign-cases t) (sign-cases u)

record Overlap (long low high : ℤ) : Type 0 where
  meeting : Meeting
  is : IsOverlap meeting long low high

overlap : (long low high : ℤ) → Overlap long low high
overlap long low high = elim (sign-cases high) [
  | inr (inr under) ↦ record { meeting = meeting.Apart; is = inl under }
  | inr (inl level) ↦ elim (lt-cases long low) [
    | inl over ↦ record { meeting = meeting.Apart; is = inr over }
    | inr within ↦ record { meeting = meeting.Touch; is = inl (level, within) }
  ]
  | inl up ↦ elim (lt-cases long low) [
    | inl over ↦ record { meeting = meeting.Apart; is = inr over }
    | inr within ↦ elim (lt-cases low long) [
      | inl less ↦ record { meeting = meeting.Stretch; is = (up, less) }
      | inr more ↦
          (let same : low ≡ long = omega (arith, ints) in
          let some : pos 0 ≤ℤ high = omega (arith, ints) in
          record { meeting = meeting.Touch; is = inr (same, some) })
    ]
  ]
]

module _ (a b c d : Point) (one : a ≢ b) (other : c ≢ d) where
  record Met : Type 0 where
    meeting : Meeting
    is : IsMet meeting a b c d

  on_line : turn a b (at c) ≡ pos 0 → turn a b (at d) ≡ pos 0 → Met
  on_line flat_c flat_d =
      let long = reach a b (at b) in let r = reach a b (at c) in let s = reach a b (at d) in
      elim (lt-cases r s) [
        | inl up ↦
            (let o = overlap long r s in
            record { meeting = o.meeting; is = line_up o.meeting a b c d long r s one other flat_c flat_d refl refl refl up o.is })
        | inr down ↦
            (let o = overlap long s r in
            record { meeting = o.meeting; is = line_down o.meeting a b c d long r s one other flat_c flat_d refl refl refl down o.is })
      ]

  by_both : (s t : Ends) → IsSorted s (turn a b (at c)) (turn a b (at d)) → IsSorted t (turn c d (at a)) (turn c d (at b)) → Met
  by_both ends.Same t h g = record { meeting = meeting.Apart; is = alike_apart a b c d other h }
  by_both ends.Line t h g = on_line h.0 h.1
  by_both ends.Touched ends.Same h g = record { meeting = meeting.Apart; is = AreApart-swapped a b c d (alike_apart c d a b one g) }
  by_both ends.Touched ends.Parted h g = record { meeting = meeting.Touch; is = one_touch a b c d h (parted_not_alike _ _ g) }
  by_both ends.Touched ends.Touched h g = record { meeting = meeting.Touch; is = one_touch a b c d h (zero_not_alike _ _ g) }
  by_both ends.Touched ends.Line h g = record { meeting = meeting.Touch; is = one_touch a b c d h (line_not_alike _ _ g) }
  by_both ends.Parted ends.Same h g = record { meeting = meeting.Apart; is = AreApart-swapped a b c d (alike_apart c d a b one g) }
  by_both ends.Parted ends.Parted h g = record { meeting = meeting.Proper; is = parted_cross a b c d one other g h }
  by_both ends.Parted ends.Touched h g = record { meeting = meeting.Touch; is = DoTouch-swapped a b c d (one_touch c d a b g (parted_not_alike _ _ h)) }
  by_both ends.Parted ends.Line h g = absurd (line_parted a b c d h g)

  met : Met
  met =
      let s = sorted (turn a b (at c)) (turn a b (at d)) in
      let t = sorted (turn c d (at a)) (turn c d (at b)) in
      by_both s.ends t.ends s.is t.is

-- ---- the edges of a list of vertices

module _ (vs : List Point) (proper : AreProper vs) where
  touch : (e f : ℕ) → DoTouch (vertex vs e) (vertex vs (next vs e)) (vertex vs f) (vertex vs (next vs f)) → IsGoodPair vs e f ⊎ (IsGoodPair vs e f → ⊥)
  touch e f t = elim (cases_eq f (next vs e)) [
    | inl after ↦ inl (good_next vs e f t after)
    | inr later ↦ elim (cases_eq e (next vs f)) [
      | inl first ↦ inl (good_last vs e f t first)
      | inr none ↦ inr (λ g. elim (g.meets t.m t.weight t.first t.second) [ inl y ↦ later y.0 | inr y ↦ none y.0 ])
    ]
  ]

  pair-of : (e f : ℕ) (m : Meeting) → IsMet m (vertex vs e) (vertex vs (next vs e)) (vertex vs f) (vertex vs (next vs f)) → IsGoodPair vs e f ⊎ (IsGoodPair vs e f → ⊥)
  pair-of e f meeting.Apart h = inl (good_apart vs e f h)
  pair-of e f meeting.Touch h = touch e f h
  pair-of e f meeting.Proper h = inr (bad_crossing vs e f h.crossing)
  pair-of e f meeting.Stretch h = inr (bad_crossing vs e f h.crossing)

  pair : (e f : ℕ) → e < length vs → f < length vs → IsGoodPair vs e f ⊎ (IsGoodPair vs e f → ⊥)
  pair e f first second =
      let m = met (vertex vs e) (vertex vs (next vs e)) (vertex vs f) (vertex vs (next vs f)) (proper.each e first) (proper.each f second) in
      pair-of e f m.meeting m.is

  record Bad (e : ℕ) : Type 0 where
    f : ℕ
    is : IsBadOf vs e f

  good-to : (e k : ℕ) → k ≤ length vs → AreGoodTo vs e k ⊎ Bad e
  good-to e zero l = inl (record { each = λ f h g. absurd (omega arith) })
  good-to e (suc k) l = by (good-to e k (omega arith)) (cases_lt e k)
    where
      more : k + 1 ≡ suc k
      more = omega arith

      by : AreGoodTo vs e k ⊎ Bad e → (e < k) ⊎ (k ≤ e) → AreGoodTo vs e (suc k) ⊎ Bad e
      by (inr bad) o = inr bad
      by (inl good) (inr under) = inl (record { each = λ f h g. absurd (omega arith) })
      by (inl good) (inl over) = elim (pair e k (omega arith) (omega arith)) [
        | inl g ↦ inl (subst (AreGoodTo vs e) more (good_more vs e k g good))
        | inr b ↦ inr (record { f = k; is = record { order = over; below = omega arith; bad = b; before = good } })
      ]

  record FirstBad : Type 0 where
    e : ℕ
    f : ℕ
    is : IsFirstBad vs e f

  all-to : (k : ℕ) → k ≤ length vs → AreAllGoodTo vs k ⊎ FirstBad
  all-to zero l = inl (all_good_none vs)
  all-to (suc k) l = by (all-to k (omega arith)) (good-to k (length vs) (omega arith))
    where
      more : k + 1 ≡ suc k
      more = omega arith

      by : AreAllGoodTo vs k ⊎ FirstBad → AreGoodTo vs k (length vs) ⊎ Bad k → AreAllGoodTo vs (suc k) ⊎ FirstBad
      by (inr bad) o = inr bad
      by (inl good) (inl g) = inl (subst (AreAllGoodTo vs) more (all_good_more vs k g good))
      by (inl good) (inr b) = inr (record { e = k; f = b.f; is = first_bad vs k b.f b.is good })

-- ---- points within the limits

small : (p : Point) → IsSmall p ⊎ (IsSmall p → ⊥)
small p =
    elim (lt-cases p.x (negsuc 99999999)) [
      | inl l ↦ inr (λ s. let h = s.left in omega (arith, ints))
      | inr left ↦ elim (lt-cases (pos 100000000) p.x) [
        | inl l ↦ inr (λ s. let h = s.right in omega (arith, ints))
        | inr right ↦ elim (lt-cases p.y (negsuc 99999999)) [
          | inl l ↦ inr (λ s. let h = s.low in omega (arith, ints))
          | inr low ↦ elim (lt-cases (pos 100000000) p.y) [
            | inl l ↦ inr (λ s. let h = s.high in omega (arith, ints))
            | inr high ↦ inl (record { left = left; right = right; low = low; high = high })
          ]
        ]
      ]
    ]

record FirstLarge (ps : List Point) : Type 0 where
  k : ℕ
  is : IsFirstLarge ps k

small-to : (ps : List Point) (k : ℕ) → k ≤ length ps → AreSmallTo ps k ⊎ FirstLarge ps
small-to ps zero l = inl (record { each = λ j h. absurd (omega arith) })
small-to ps (suc k) l = by (small-to ps k (omega arith)) (small (vertex ps k))
  where
    by : AreSmallTo ps k ⊎ FirstLarge ps → IsSmall (vertex ps k) ⊎ (IsSmall (vertex ps k) → ⊥) → AreSmallTo ps (suc k) ⊎ FirstLarge ps
    by (inr large) o = inr large
    by (inl before) (inr here) = inr (record { k = k; is = record { below = omega arith; before = before; large = here } })
    by (inl before) (inl here) = inl (record {
      each = λ j h. elim (cases_lt j k) [ inl less ↦ before.each j less | inr same ↦ (let e : k ≡ j = omega arith in subst (λ i. IsSmall (vertex ps i)) e here) ];
    })

-- ---- a ring, or why there is none

pub record RingFaultOf (ps : List Point) : Type 0 where
  pub fault : RingFault
  pub of_points : fault ≢ ring_fault.Memory
  pub is : IsFaultOf fault ps

kept-answer : (ps : List Point) → AreSmall ps → 3 ≤ length (kept ps) → length (kept ps) ≤ 256 → IsAccepted ps ⊎ RingFaultOf ps
kept-answer ps all few many =
    let vs = kept ps in
    let proper : AreProper vs = AreProper-kept ps few in
    elim (all-to vs proper (length vs) (omega arith)) [
      | inl good ↦ inl (record { small = all; few = few; many = many; simple = simple_end vs (length vs) (omega arith) proper good })
      | inr bad ↦ inr (record { fault = ring_fault.NotSimple bad.e bad.f; of_points = λ e. cc; is = record { small = all; few = few; many = many; first = bad.is } })
    ]

small-answer : (ps : List Point) → AreSmall ps → IsAccepted ps ⊎ RingFaultOf ps
small-answer ps all = elim (cases_lt (length (kept ps)) 3) [
  | inl less ↦ inr (record { fault = ring_fault.Few; of_points = λ e. cc; is = (all, less) })
  | inr few ↦ elim (cases_lt 256 (length (kept ps))) [
    | inl more ↦ inr (record { fault = ring_fault.ManyVertices; of_points = λ e. cc; is = (all, more) })
    | inr many ↦ kept-answer ps all few many
  ]
]

pub points-answer : (ps : List Point) → IsAccepted ps ⊎ RingFaultOf ps
points-answer ps = elim (small-to ps (length ps) (omega arith)) [
  | inl all ↦ small-answer ps (record { each = all.each })
  | inr large ↦ inr (record { fault = ring_fault.Coordinate large.k; of_points = λ e. cc; is = large.is })
]
