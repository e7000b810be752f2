-- The ranks of the end points of a scenario realise it.
use Rattle.std.proofs.Common.{◌≡◌, ℕ, ◌*◌, ◌<◌, Bool, true, false, ltb, List, length, map, get_or, sym, ◌∙◌}
use Rattle.std.proofs.Common.{ap, subst, arith}
use Rattle.std.specs.Prelude.{slice_index, All}
use Rattle.std.specs.List.{range_with_len}
use Rattle.std.proofs.lemmas.Bool.{ltb-true}
use Rattle.std.proofs.lemmas.List.{get_or_default}
use Rattle.std.proofs.lemmas.List.FromFn.{length-map-range_with_len, get_or-map-range_with_len}
use Rattle.calculus_table.specs.Algebra.{converse_at}
use Rattle.calculus_builtin.specs.Allen.{IsInterval, holds, allen_algebra}
use Rattle.network_words.specs.Edge.{edge_at}
use Rattle.network_words.proofs.Edges.{edge_at-lt}
use Rattle.allen_real.specs.declared.intervals.Interval.{Interval}
use Rattle.allen_real.specs.declared.end_points.EndPoint.{EndPoint}
use Rattle.allen_real.specs.EndPoints.{no_interval, end_of, end_point, below_in_example, base_between}
use Rattle.allen_real.specs.EndPoints.{is_below, AreEqual}
use Rattle.allen_real.specs.Realisation.{IsAllenScenario, interval_at, is_end_point, RealiseByRanks}
use Rattle.allen_real.specs.Classes.{HasClass, AreMembers, classes_below, ranked}
use Rattle.allen_real.proofs.Orders.{LieAsIn, lie-from_ends, order-holds}
use Rattle.allen_real.proofs.Composed.{base_between-forward, base_between-backward, base_between-same}
use Rattle.allen_real.proofs.Ranked.{IsOrder, IsMemberFor, ranks-below, rank-bound, no_gap}
use Rattle.allen_real.proofs.Comparisons.{IsOf, end_points-order}
use Rattle.allen_real.proofs.Counted.{end_point-at, rank-from_each}
use Rattle.allen_real.proofs.Members.{number-below, members-there}

no_point : EndPoint
no_point = end_point 0 false

module _ (n : ℕ) (relations : List ℕ) (s : IsAllenScenario n relations) (members : List EndPoint)
    (m : AreMembers n relations (2 * n) members) where
  abbrev order : IsOrder EndPoint (IsOf n) (is_below n relations)
  order = end_points-order n relations s

  abbrev intervals : List Interval
  intervals = map (ranked n relations members) (range_with_len 0 n)

  intervals-length : length intervals ≡ n
  intervals-length = length-map-range_with_len (ranked n relations members) 0 n

  interval-is : (i : ℕ) → i < n → get_or intervals i no_interval ≡ ranked n relations members i
  interval-is i h = get_or-map-range_with_len (ranked n relations members) 0 n i i no_interval h (omega arith)

  end-is : (i : ℕ) (is_end : Bool) → i < n →
      end_of (interval_at intervals i) is_end ≡ classes_below n relations members (end_point i is_end)
  end-is i false h = ap (λ x. x.lo) (interval-is i h)
  end-is i true h = ap (λ x. x.hi) (interval-is i h)

  are_points : (k : ℕ) → k < length members → IsOf n (get_or members k no_point)
  are_points k h = m.of_nodes k no_point h

  -- ---- the intervals compare as the end points do

  abbrev Member : EndPoint → ℕ → Type 0
  Member q k = IsMemberFor EndPoint no_point (IsOf n) (is_below n relations) order members q k

  member-of : (q : EndPoint) → IsOf n q → (k : ℕ) × Member q k
  member-of q h =
      let c : HasClass n relations members q = m.each q (number-below n q.node q.is_end h) in
      let e : get_or members c.0 no_point ≡ c.1 = get_or_default members c.0 no_point c.1 c.2 ∙ c.3 in
      let equal : AreEqual n relations (get_or members c.0 no_point) q = rw e c.4 in
      (c.0, record { within = c.2; not_below = equal.not_below; not_above = equal.not_above })

  ends-compare : (i j : ℕ) (a b : Bool) → i < n → j < n →
      ltb (end_of (interval_at intervals i) a) (end_of (interval_at intervals j) b)
      ≡ is_below n relations (end_point i a) (end_point j b)
  ends-compare i j a b hi hj =
      let at = member-of (end_point i a) hi in
      rw (end-is i a hi, end-is j b hj)
      (ranks-below EndPoint no_point (IsOf n) (is_below n relations) order members (end_point i a) (end_point j b) at.0
      are_points hi hj at.1)

  ends-lie : (i j r : ℕ) → i < n → j < n → base_between n relations i j ≡ r →
      LieAsIn r (interval_at intervals i) (interval_at intervals j)
  ends-lie i j r hi hj e =
      lie-from_ends r _ _ (λ p q. ends-compare i j p q hi hj ∙ ap (λ k. below_in_example k p q) e)

  proper : (i : ℕ) → i < n → IsInterval (interval_at intervals i)
  proper i h = ltb-true _ _ (ends-lie i i 6 h h (base_between-same n relations i)).low_high

  related : (i j : ℕ) → i < j → j < n →
      holds (slice_index relations (edge_at n i j)) (interval_at intervals i) (interval_at intervals j) ≡ true
  related i j o b =
      let r = slice_index relations (edge_at n i j) in
      order-holds r _ _ (s.below (edge_at n i j) (edge_at-lt n i j o b))
      (ends-lie i j r (omega arith) b (base_between-forward n relations i j o))
      (ends-lie j i (converse_at allen_algebra r) b (omega arith) (base_between-backward n relations j i o))

  -- ---- their end points are ranks

  lower-end : (i : ℕ) (is_end : Bool) (q : ℕ) → i < n → q < end_of (interval_at intervals i) is_end →
      is_end_point intervals q ≡ true
  lower-end i is_end q h l =
      let r = no_gap EndPoint no_point (IsOf n) (is_below n relations) order members (end_point i is_end) q are_points
      (λ j k o b. m.differ j k no_point o b) (rw (end-is i is_end h) at l) in
      let p = get_or members r.place no_point in
      let b : p.node < n = are_points r.place r.within in
      let e : end_of (interval_at intervals p.node) p.is_end ≡ q = end-is p.node p.is_end b ∙ r.is in
      let listed = end_point-at intervals p.node p.is_end (omega (arith, intervals-length)) in
      subst (λ k. is_end_point intervals k ≡ true) e listed

  pub realise-by_ranks : RealiseByRanks n relations intervals
  realise-by_ranks = record {
    realise = record { one_each = intervals-length; proper = proper; related = related };
    ranks = record {
      low = λ i h. rank-from_each intervals _ (λ q l. lower-end i false q (omega (arith, intervals-length)) l);
      high = λ i h. rank-from_each intervals _ (λ q l. lower-end i true q (omega (arith, intervals-length)) l);
    };
  }

  pub ranks-bound : All (λ x. x.hi < 2 * n) intervals
  ranks-bound i d h =
      let hi : i < n = omega (arith, intervals-length) in
      let p = end_point i true in
      let at = member-of p hi in
      let bound = rank-bound EndPoint no_point (IsOf n) (is_below n relations) order members p at.0 at.1 in
      let below : classes_below n relations members p < 2 * n = omega (arith, m.few, bound) in
      let e : get_or intervals i d ≡ ranked n relations members i =
      get_or-map-range_with_len (ranked n relations members) 0 n i i d hi (omega arith) in
      subst (λ x. x.hi < 2 * n) (sym e) below

pub scenario-realised : (n : ℕ) (relations : List ℕ) → IsAllenScenario n relations →
    (xs : List Interval) × RealiseByRanks n relations xs
scenario-realised n relations s =
    let m = members-there n relations in
    (map (ranked n relations m.0) (range_with_len 0 n), realise-by_ranks n relations s m.0 m.1)
