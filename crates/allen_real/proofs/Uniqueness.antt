-- Intervals that realise base relations by ranks are the only ones.
use Rattle.std.proofs.Common.{◌≡◌, ℕ, zero, suc, ◌<◌, Bool, true, false, ltb, List, length, get_or, refl, sym}
use Rattle.std.proofs.Common.{◌∙◌, ap, subst, arith, inl, inr}
use Rattle.std.specs.Prelude.{slice_index}
use Rattle.std.proofs.lemmas.Bool.{cases_order, and_from, eq-eqb, ltb-true, lt-ltb}
use Rattle.std.proofs.lemmas.List.{ext_get_or}
use Rattle.calculus_builtin.specs.Allen.{holds}
use Rattle.calculus_builtin.proofs.AllenRule.{allen_rule}
use Rattle.network_words.specs.Edge.{edge_count, edge_at}
use Rattle.network_words.proofs.Edges.{EdgeOf, edge_of}
use Rattle.allen_real.specs.declared.intervals.Interval.{Interval}
use Rattle.allen_real.specs.EndPoints.{no_interval, end_of, below_in_example, base_between}
use Rattle.allen_real.specs.Realisation.{IsAllenScenario, interval_at, Realise, RealiseByRanks}
use Rattle.allen_real.proofs.Orders.{end-below, holds-order, rule-below}
use Rattle.allen_real.proofs.Composed.{Has-open, base_between-forward, base_between-backward, base_between-same}
use Rattle.allen_real.proofs.Counted.{IsEndAt, is_end-at, end_point-at, ranks-no_gap}

abbrev made : ℕ → ℕ → Interval
made lo hi = record { lo = lo; hi = hi }

same-interval : (x y : Interval) → x.lo ≡ y.lo → x.hi ≡ y.hi → x ≡ y
same-interval x y e f = ap (λ lo. made lo x.hi) e ∙ ap (λ hi. made y.lo hi) f

-- ---- end points of intervals that realise base relations compare as these say

module _ (n : ℕ) (relations : List ℕ) (xs : List Interval) (r : Realise n relations xs) where
  edge-below : (i j : ℕ) → i < j → j < n → slice_index relations (edge_at n i j) < 13
  edge-below i j o b = rule-below _ (interval_at xs i) (interval_at xs j) (r.related i j o b)

  related-itself : (i : ℕ) → holds 6 (interval_at xs i) (interval_at xs i) ≡ true
  related-itself i =
      and_from _ _ (eq-eqb (interval_at xs i).low _ refl) (eq-eqb (interval_at xs i).high _ refl)

  related-nodes : (i j : ℕ) → i < n → j < n →
      holds (base_between n relations i j) (interval_at xs i) (interval_at xs j) ≡ true
  related-nodes i j hi hj = elim (cases_order i j) [
    | inl e ↦ subst (λ k. holds (base_between n relations i k) (interval_at xs i) (interval_at xs k) ≡ true) e
        (rw (base_between-same n relations i) (related-itself i))
    | inr other ↦ elim other [
      | inl o ↦ rw (base_between-forward n relations i j o) (r.related i j o hj)
      | inr o ↦ rw (base_between-backward n relations i j o)
          (allen_rule.turns _ (interval_at xs i) (interval_at xs j) (edge-below j i o hi) ∙ r.related j i o hi)
    ]
  ]

  end-order : (i j : ℕ) (a b : Bool) → i < n → j < n →
      ltb (end_of (interval_at xs i) a) (end_of (interval_at xs j) b)
      ≡ below_in_example (base_between n relations i j) a b
  end-order i j a b hi hj =
      let related = related-nodes i j hi hj in
      end-below _ _ _ a b (holds-order (base_between n relations i j) _ _ (r.proper i hi) (r.proper j hj) related)

same_order : (n : ℕ) (relations : List ℕ) (xs ys : List Interval) (i j : ℕ) (a b : Bool) → Realise n relations xs →
    Realise n relations ys → i < n → j < n → end_of (interval_at xs i) a < end_of (interval_at xs j) b →
    end_of (interval_at ys i) a < end_of (interval_at ys j) b
same_order n relations xs ys i j a b x y hi hj l =
    let of_xs = end-order n relations xs x i j a b hi hj in
    let of_ys = end-order n relations ys y i j a b hi hj in
    ltb-true _ _ (of_ys ∙ sym of_xs ∙ lt-ltb _ _ l)

-- ---- ranks are one

-- each number below an end point is an end point
lower-end : (n : ℕ) (relations : List ℕ) (xs : List Interval) (i q : ℕ) (a : Bool) → RealiseByRanks n relations xs →
    i < n → q < end_of (interval_at xs i) a → IsEndAt xs q
lower-end n relations xs i q a x hi l =
    let listed = end_point-at xs i a (omega (arith, x.realise.one_each)) in
    is_end-at xs q (ranks-no_gap xs (end_of (interval_at xs i) a) q x.ranks listed l)

module _ (n : ℕ) (relations : List ℕ) (xs ys : List Interval) (x : RealiseByRanks n relations xs)
    (y : RealiseByRanks n relations ys) where
  -- where the first have the end point v, the second do
  abbrev SameAt : ℕ → Type 0
  SameAt v = (i : ℕ) (a : Bool) → i < n → end_of (interval_at xs i) a ≡ v → end_of (interval_at ys i) a ≡ v

  not_below : (v i : ℕ) (a : Bool) → i < n → end_of (interval_at xs i) a ≡ v → ((u : ℕ) → u < v → SameAt u) →
      end_of (interval_at ys i) a < v → ⊥
  not_below v i a hi e before l =
      let w = end_of (interval_at ys i) a in
      let p = lower-end n relations xs i w a x hi (omega (arith, e, l)) in
      let hp : p.node < n = omega (arith, p.within, x.realise.one_each) in
      let same : end_of (interval_at ys p.node) p.is_end ≡ w = before w l p.node p.is_end hp p.is in
      let lower : end_of (interval_at xs p.node) p.is_end < end_of (interval_at xs i) a = omega (arith, p.is, e, l) in
      let less = same_order n relations xs ys p.node i p.is_end a x.realise y.realise hp hi lower in
      omega (arith, less, same)

  not_above : (v i : ℕ) (a : Bool) → i < n → end_of (interval_at xs i) a ≡ v → ((u : ℕ) → u < v → SameAt u) →
      v < end_of (interval_at ys i) a → ⊥
  not_above v i a hi e before l =
      let p = lower-end n relations ys i v a y hi l in
      let hp : p.node < n = omega (arith, p.within, y.realise.one_each) in
      let lower : end_of (interval_at ys p.node) p.is_end < end_of (interval_at ys i) a = omega (arith, p.is, l) in
      let less = same_order n relations ys xs p.node i p.is_end a y.realise x.realise hp hi lower in
      let u = end_of (interval_at xs p.node) p.is_end in
      let same : end_of (interval_at ys p.node) p.is_end ≡ u =
      before u (omega (arith, less, e)) p.node p.is_end hp refl in
      omega (arith, less, same, p.is, e)

  same-next : (v : ℕ) → ((u : ℕ) → u < v → SameAt u) → SameAt v
  same-next v before i a hi e = elim (cases_order (end_of (interval_at ys i) a) v) [
    | inl same ↦ same
    | inr other ↦ elim other [
      | inl l ↦ absurd (not_below v i a hi e before l)
      | inr l ↦ absurd (not_above v i a hi e before l)
    ]
  ]

  same-upto : (bound v : ℕ) → v < bound → SameAt v
  same-upto zero v h = absurd (omega arith)
  same-upto (suc bound) v h = same-next v (λ u l. same-upto bound u (omega arith))

  same-end : (i : ℕ) (a : Bool) → i < n → end_of (interval_at xs i) a ≡ end_of (interval_at ys i) a
  same-end i a hi =
      let v = end_of (interval_at xs i) a in
      sym (same-upto (suc v) v (omega arith) i a hi refl)

  pub ranks-one : xs ≡ ys
  ranks-one = ext_get_or no_interval xs ys (x.realise.one_each ∙ sym y.realise.one_each) (λ i h.
      let hi : i < n = omega (arith, x.realise.one_each) in
      same-interval (get_or xs i no_interval) (get_or ys i no_interval) (same-end i false hi) (same-end i true hi))

-- ---- what is realised is a scenario

pub realised-scenario : (n : ℕ) (relations : List ℕ) (xs : List Interval) → length relations ≡ edge_count n →
    Realise n relations xs → IsAllenScenario n relations
realised-scenario n relations xs l r =
    let below = λ (i j : ℕ) (o : i < j) (b : j < n). edge-below n relations xs r i j o b in
    let each_below = λ (e : ℕ) (h : e < edge_count n). (let o : EdgeOf n e = edge_of n e h in
    subst (λ k. slice_index relations k < 13) o.number (below o.first o.second o.order o.below)) in
    record {
      length_is = l;
      below = each_below;
      member = λ e h. Has-open n relations e h (each_below e h);
      composes = λ i j k o o2 b. allen_rule.sound _ _ _ (interval_at xs i) (interval_at xs j) (interval_at xs k)
          (below i j o (omega arith)) (below j k o2 b) (below i k (omega arith) b)
          (record {
            x_proper = r.proper i (omega arith);
            y_proper = r.proper j (omega arith);
            z_proper = r.proper k b;
            first = r.related i j o (omega arith);
            second = r.related j k o2 b;
            third = r.related i k (omega arith) b;
          });
    }
