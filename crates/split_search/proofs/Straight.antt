-- The least base relations of a closed network over a straight class are a scenario.
use Rattle.std.proofs.Common.{◌≡◌, ℕ, ◌<◌, List, subst, arith}
use Rattle.std.specs.Prelude.{Contains, slice_index}
use Rattle.calculus_table.specs.Rel.{IsWithin}
use Rattle.calculus_table.specs.Algebra.{Algebra}
use Rattle.calculus_table.specs.Composition.{composition}
use Rattle.calculus_table.proofs.Members.{full-member}
use Rattle.network_words.specs.Edge.{edge_count, edge_at, IsProperTriple}
use Rattle.network_words.specs.Closure.{IsClosed}
use Rattle.network_words.proofs.Networks.{relation_between-forward, relation_between-backward}
use Rattle.network_words.proofs.Edges.{edge_at-lt}
use Rattle.tract_classes.specs.Straight.{IsClosedTriple}
use Rattle.split_search.specs.Straight.{IsClosedOver}
use Rattle.split_search.specs.Laws.{LeastAreScenario}
use Rattle.split_search.proofs.SetEdges.{network-edge}

-- a set is within the composition of two others, read forward or backward
along : (m : Algebra) (x y z a b d : ℕ) → x ≡ d → y ≡ a → z ≡ b → IsWithin x (composition m y z) →
    IsWithin d (composition m a b)
along m x y z a b d e f g w =
    subst (λ q. IsWithin q (composition m a b)) e
    (subst (λ q. IsWithin x (composition m q b)) f (subst (λ q. IsWithin x (composition m y q)) g w))

closed-triple : (m : Algebra) (n : ℕ) (words : List ℕ) (i j k : ℕ) → IsClosed m n words → i < j → j < k → k < n →
    IsClosedTriple m (slice_index words (edge_at n i j)) (slice_index words (edge_at n j k))
    (slice_index words (edge_at n i k))
closed-triple m n words i j k c ij jk below =
    let proper : IsProperTriple n i j k = record {
      first_below = omega arith;
      second_below = omega arith;
      third_below = below;
      first_second = omega arith;
      second_third = omega arith;
      first_third = omega arith;
    } in
    let crossed : IsProperTriple n i k j = record {
      first_below = omega arith;
      second_below = below;
      third_below = omega arith;
      first_second = omega arith;
      second_third = omega arith;
      first_third = omega arith;
    } in
    let turned : IsProperTriple n j i k = record {
      first_below = omega arith;
      second_below = omega arith;
      third_below = below;
      first_second = omega arith;
      second_third = omega arith;
      first_third = omega arith;
    } in
    let fij = relation_between-forward m n words i j ij in
    let fjk = relation_between-forward m n words j k jk in
    let fik = relation_between-forward m n words i k (omega (arith, ij, jk)) in
    let bkj = relation_between-backward m n words k j (omega arith) in
    let bji = relation_between-backward m n words j i (omega arith) in
    record {
      across = along m _ _ _ _ _ _ fik fij fjk (c.each i j k proper);
      first = along m _ _ _ _ _ _ fij fik bkj (c.each i k j crossed);
      second = along m _ _ _ _ _ _ fjk bji fik (c.each j i k turned);
    }

-- the set of an edge is in the class
pub member-at : (m : Algebra) (n : ℕ) (class words : List ℕ) (e : ℕ) → IsClosedOver m n class words →
    e < edge_count n → Contains class (slice_index words e)
member-at m n class words e over below = over.members e 0 (network-edge m n words e over.is_network below)

pub least_scenario : LeastAreScenario
least_scenario m n class words relations straight over least = record {
  length_is = least.length_is;
  below = λ e h.
      let r = slice_index relations e in
      full-member m r ((over.is_network.within e).each r (least.each e h).here);
  member = λ e h. (least.each e h).here;
  composes = λ i j k ij jk below.
      let d = edge_at n i j in
      let e = edge_at n j k in
      let f = edge_at n i k in
      let first : d < edge_count n = edge_at-lt n i j ij (omega arith) in
      let second : e < edge_count n = edge_at-lt n j k jk below in
      let across : f < edge_count n = edge_at-lt n i k (omega arith) below in
      straight.each (slice_index words d) (slice_index words e) (slice_index words f)
      (slice_index relations d) (slice_index relations e) (slice_index relations f)
      (member-at m n class words d over first) (member-at m n class words e over second)
      (member-at m n class words f over across) (closed-triple m n words i j k over.closed ij jk below)
      (least.each d first) (least.each e second) (least.each f across);
}
