-- A seed has one network of a demonstration at most, and its sets are those of RCC-8.
use Rattle.std.proofs.Common.{◌≡◌, ℕ, ◌<◌, inl, inr, Bool, true, false, List, slice_index, sym, subst, ◌∙◌, arith}
use Rattle.std.proofs.lemmas.Bool.{cases_lt}
use Rattle.std.proofs.lemmas.Grind.{same_number_lists}
use Rattle.std.proofs.Math.ListN.{get_or-eq_default}
use Rattle.calculus_table.specs.Rel.{IsWithin}
use Rattle.calculus_table.specs.Composition.{full_of}
use Rattle.calculus_table.proofs.Sets.{IsWithin-refl, IsWithin-empty}
use Rattle.calculus_builtin.specs.Rcc8.{rcc8_algebra}
use Rattle.network_words.specs.Edge.{edge_count, EdgeOf}
use Rattle.network_words.specs.Network.{Network}
use Rattle.network_words.proofs.Edges.{edge_of}
use Rattle.poly_exact.specs.declared.points.Point.{Point}
use Rattle.geo_facts.specs.Demo.{demo_ring, is_forgotten, IsDrawnWord, IsDemo}
use Rattle.geo_facts.specs.Laws.{DemoIsOne, DemoIsNetwork}
use Rattle.geo_facts.proofs.OneFacts.{rcc8-one, IsRcc8-within}

drawn-one : (forgotten : Bool) (vs ws : List Point) (word other : ℕ) → IsDrawnWord forgotten vs ws word → IsDrawnWord forgotten vs ws other → word ≡ other
drawn-one true vs ws word other h g = h ∙ sym g
drawn-one false vs ws word other h g = rcc8-one vs ws word other h g

drawn-within : (forgotten : Bool) (vs ws : List Point) (word : ℕ) → IsDrawnWord forgotten vs ws word → IsWithin word (full_of rcc8_algebra)
drawn-within true vs ws word h = subst (λ x. IsWithin x (full_of rcc8_algebra)) (sym h) (IsWithin-refl (full_of rcc8_algebra))
drawn-within false vs ws word h = IsRcc8-within vs ws word h

module _ (seed n : ℕ) where
  -- the set of the edge with this number is drawn for its nodes
  drawn-at : (net : Network) (count e : ℕ) → IsDemo seed n net count → (edge : EdgeOf n e) → e < edge_count n →
      IsDrawnWord (is_forgotten seed n e) (demo_ring seed edge.first) (demo_ring seed edge.second) (slice_index net.words e)
  drawn-at net count e h edge below =
      subst (λ k. IsDrawnWord (is_forgotten seed n k) (demo_ring seed edge.first) (demo_ring seed edge.second) (slice_index net.words k)) edge.number
      (h.words edge.first edge.second edge.order edge.below (let number = edge.number in omega (arith, number, below)))

  words-one : (net other : Network) (count other_count : ℕ) → IsDemo seed n net count → IsDemo seed n other other_count → net.words ≡ other.words
  words-one net other count other_count h g =
      same_number_lists net.words other.words (h.length_is ∙ sym g.length_is) (λ e less.
      let below : e < edge_count n = omega (arith, less, h.length_is) in
      let edge = edge_of n e below in
      drawn-one (is_forgotten seed n e) (demo_ring seed edge.first) (demo_ring seed edge.second) (slice_index net.words e) (slice_index other.words e) (drawn-at net count e h edge below) (drawn-at other other_count e g edge below))

  words-within : (net : Network) (count e : ℕ) → IsDemo seed n net count → IsWithin (slice_index net.words e) (full_of rcc8_algebra)
  words-within net count e h = elim (cases_lt e (edge_count n)) [
    | inl below ↦
        (let edge = edge_of n e below in
        drawn-within (is_forgotten seed n e) (demo_ring seed edge.first) (demo_ring seed edge.second) (slice_index net.words e) (drawn-at net count e h edge below))
    | inr past ↦
        (let none : slice_index net.words e ≡ 0 = get_or-eq_default net.words 0 (omega (arith, past, h.length_is)) in
        subst (λ x. IsWithin x (full_of rcc8_algebra)) (sym none) (IsWithin-empty (full_of rcc8_algebra)))
  ]

pub demo-one : DemoIsOne
demo-one seed n net other count other_count h g =
    let nodes : net.nodes ≡ other.nodes = h.nodes ∙ sym g.nodes in
    let full : net.full ≡ other.full = h.full ∙ sym g.full in
    let words = words-one seed n net other count other_count h g in
    let names : net.names ≡ other.names = h.names ∙ sym g.names in
    (λ i. record { nodes = nodes i; full = full i; words = words i; names = names i }, h.count_is ∙ sym g.count_is)

pub demo-network : DemoIsNetwork
demo-network seed n net count h = record { length_is = h.length_is; within = λ e. words-within seed n net count e h }
