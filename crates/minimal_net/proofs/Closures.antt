-- Networks with one closure have one verdict, and a network has the labels of its closure.
use Rattle.std.proofs.Common.{◌≡◌, ℕ, ◌^◌, ◌<◌, List, length, sym, ◌∙◌, subst}
use Rattle.std.specs.Prelude.{slice_index}
use Rattle.std.proofs.lemmas.List.{length-set}
use Rattle.calculus_table.specs.Rel.{IsWithin}
use Rattle.calculus_table.specs.Algebra.{Algebra}
use Rattle.calculus_table.proofs.Sets.{IsWithin-meet_r, IsWithin-trans}
use Rattle.network_words.specs.Network.{Refines}
use Rattle.network_words.specs.Closure.{IsClosed, IsClosure}
use Rattle.network_words.proofs.Networks.{Refines-trans, IsClosure-unique, IsClosure-between}
use Rattle.network_words.proofs.Existence.{closure_of}
use Rattle.split_trees.specs.Tree.{TreeNode, NestedTree}
use Rattle.split_search.specs.declared.verdict.Verdict.TheVariants.{Yes, No, Budget}
use Rattle.split_search.specs.Ruled.{HasTree}
use Rattle.split_search.proofs.Networks.{closure-network}
use Rattle.minimal_net.specs.Labels.{set_to}
use Rattle.minimal_net.specs.Laws.{SameClosureSameVerdict, ClosureSetTo, LabelOfClosure}
use Rattle.split_search.proofs.SetEdges.{meet_at, set_to-here, set_to-refines, set_to-network, network-edge}
use Rattle.minimal_net.proofs.SetEdges.{set_to-keeps}

same-tree : (m : Algebra) (n : ℕ) (words others closure : List ℕ) (nodes : List TreeNode)
    (P : List ℕ → NestedTree → Type 0) → IsClosure m n words closure → IsClosure m n others closure →
    HasTree m n words nodes P → HasTree m n others nodes P
same-tree m n words others closure nodes P own is h = record {
  closure = closure;
  is_closure = is;
  tree = h.tree;
  nodes_are = h.nodes_are;
  has = subst (λ c. P c h.tree) (IsClosure-unique m n words h.closure closure h.is_closure own) h.has;
}

pub same_verdict : SameClosureSameVerdict
same_verdict m n class budget words others closure (Yes relations nodes) own is h =
    same-tree m n words others closure nodes _ own is h
same_verdict m n class budget words others closure (No nodes) own is h =
    same-tree m n words others closure nodes _ own is h
same_verdict m n class budget words others closure (Budget nodes) own is h =
    same-tree m n words others closure nodes _ own is h

-- what is closed within the network with the edge set so is within its closure with the edge set so
closed-set_to : (m : Algebra) (n : ℕ) (words closure : List ℕ) (e base : ℕ) (other : List ℕ) →
    IsClosure m n words closure → e < length words → length other ≡ length words → IsClosed m n other →
    Refines other (set_to words e base) → Refines other (set_to closure e base)
closed-set_to m n words closure e base other is below same closed within =
    let all : Refines other words =
    Refines-trans other (set_to words e base) words within (set_to-refines words e base below) in
    let here : IsWithin (slice_index other e) (2 ^ base) =
    IsWithin-trans (slice_index other e) (meet_at words e base) (2 ^ base)
    (subst (IsWithin (slice_index other e)) (set_to-here words e base below) (within.each e))
    (IsWithin-meet_r (slice_index words e) (2 ^ base)) in
    set_to-keeps closure other e base (subst (λ k. e < k) (sym is.length_is) below)
    (is.greatest other same closed all) here

set_to-mono : (m : Algebra) (n : ℕ) (words closure : List ℕ) (e base : ℕ) → IsClosure m n words closure →
    e < length words → Refines (set_to closure e base) (set_to words e base)
set_to-mono m n words closure e base is below =
    let own : e < length closure = subst (λ k. e < k) (sym is.length_is) below in
    set_to-keeps words (set_to closure e base) e base below
    (Refines-trans (set_to closure e base) closure words (set_to-refines closure e base own) is.within)
    (subst (λ x. IsWithin x (2 ^ base)) (sym (set_to-here closure e base own))
    (IsWithin-meet_r (slice_index closure e) (2 ^ base)))

pub closure_set_to : ClosureSetTo
closure_set_to m n words closure e base made is below net =
    let own : e < length words = network-edge m n words e net below in
    let mono = set_to-mono m n words closure e base is own in
    let longs : length (set_to words e base) ≡ length words = length-set words e (meet_at words e base) in
    let same : length (set_to closure e base) ≡ length words =
    length-set closure e (meet_at closure e base) ∙ is.length_is in (
      (λ c. record {
        length_is = c.length_is ∙ same ∙ sym longs;
        closed = c.closed;
        within = Refines-trans made (set_to closure e base) (set_to words e base) c.within mono;
        greatest = λ other long closed within. c.greatest other (long ∙ longs ∙ sym same) closed
            (closed-set_to m n words closure e base other is own (long ∙ longs) closed within);
      }),
      (λ c. IsClosure-between m n (set_to words e base) (set_to closure e base) made c (same ∙ sym longs)
          (closed-set_to m n words closure e base made is own (c.length_is ∙ longs) c.closed c.within) mono),
    )

pub label_of_closure : LabelOfClosure
label_of_closure m n class budget words closure e base label calculus net is below =
    let own = set_to-network m n closure e base (closure-network m n words closure net is) below in
    let found = closure_of m n (set_to closure e base) calculus own in
    let other = (closure_set_to m n words closure e base found.0 is below net).0 found.1 in
    let before = set_to words e base in
    let after = set_to closure e base in (
      (λ l. record {
        verdict = l.verdict;
        is_verdict = same_verdict m n class budget before after found.0 l.verdict other found.1 l.is_verdict;
        is = l.is;
      }),
      (λ l. record {
        verdict = l.verdict;
        is_verdict = same_verdict m n class budget after before found.0 l.verdict found.1 other l.is_verdict;
        is = l.is;
      }),
    )
