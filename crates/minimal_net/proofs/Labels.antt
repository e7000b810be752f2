-- A base relation has one label at an edge, and what it says is so.
use Rattle.std.proofs.Common.{◌≡◌, ℕ, ◌+◌, ◌<◌, ◌≤◌, List, [], refl, sym, ap, ◌∙◌, subst, arith}
use Rattle.calculus_table.specs.Algebra.{Algebra}
use Rattle.calculus_table.specs.Calculus.{IsCalculus, EachBase}
use Rattle.network_words.specs.Edge.{edge_count}
use Rattle.network_words.specs.Network.{Network, IsNetwork}
use Rattle.network_words.specs.Closure.{IsClosure}
use Rattle.tract_classes.specs.Class.{HasBase}
use Rattle.refutation.proofs.NoScenarios.{refuted-none}
use Rattle.split_search.specs.declared.verdict.Verdict.{Verdict}
use Rattle.split_search.specs.declared.verdict.Verdict.TheVariants.{Yes, No, Budget}
use Rattle.split_search.specs.Ruled.{IsVerdict, product}
use Rattle.split_search.specs.Verdicts as verdicts
use Rattle.split_search.specs.Verdicts.{AreSearched}
use Rattle.split_search.proofs.OneVerdict.{verdict_one}
use Rattle.split_search.proofs.SomeVerdict.{verdict_exists}
use Rattle.split_search.proofs.Products.{product_suffices}
use Rattle.split_search.proofs.Refuted.{no_refutation}
use Rattle.split_search.proofs.Truths.{verdict-true}
use Rattle.minimal_net.specs.declared.label.Label.{Label}
use Rattle.minimal_net.specs.declared.label.Label.TheVariants.{Held}
use Rattle.minimal_net.specs.Labels.{set_to, label_of, HasAt, IsTrueOf, nodes_of}
use Rattle.minimal_net.specs.Laws.{LabelIsOne, LabelExists, LabelIsTrue, SeenIsHeld}
use Rattle.split_search.proofs.SetEdges.{set_to-network}
use Rattle.minimal_net.proofs.SetEdges.{HasAt-from_set, IsScenario-set_to}

IsTrueOf-label_of : (m : Algebra) (n : ℕ) (words : List ℕ) (e base budget : ℕ) → IsCalculus m → IsNetwork m n words →
    e < edge_count n → (v : Verdict) → verdicts.IsTrueOf m n (set_to words e base) budget v →
    IsTrueOf m n words e base budget (label_of v)
IsTrueOf-label_of m n words e base budget calculus net below (Yes relations nodes) is =
    HasAt-from_set m n words e base relations net below is
IsTrueOf-label_of m n words e base budget calculus net below (No nodes) is = (
  is,
  λ relations h.
      let own = set_to-network m n words e base net below in
      refuted-none m n (set_to words e base) nodes relations calculus own is
      (IsScenario-set_to m n words e base relations net below h),
)
IsTrueOf-label_of m n words e base budget calculus net below (Budget nodes) is = is

-- the network that is searched, as a whole
pub IsNetwork-set : (m : Algebra) (net made : Network) (e base : ℕ) →
    made ≡ record net { words = set_to net.words e base } → IsNetwork m net.nodes net.words → e < edge_count net.nodes →
    IsNetwork m made.nodes made.words
IsNetwork-set m net made e base is network below =
    subst (λ (x : Network). IsNetwork m x.nodes x.words) (sym is)
    (set_to-network m net.nodes net.words e base network below)

pub IsTrueOf-set : (m : Algebra) (net made : Network) (e base budget : ℕ) (v : Verdict) (label : Label) →
    made ≡ record net { words = set_to net.words e base } → label ≡ label_of v → IsCalculus m →
    IsNetwork m net.nodes net.words → e < edge_count net.nodes →
    verdicts.IsTrueOf m made.nodes made.words budget v → IsTrueOf m net.nodes net.words e base budget label
IsTrueOf-set m net made e base budget v label is of calculus network below truth =
    subst (IsTrueOf m net.nodes net.words e base budget) (sym of)
    (IsTrueOf-label_of m net.nodes net.words e base budget calculus network below v
    (subst (λ (x : Network). verdicts.IsTrueOf m x.nodes x.words budget v) is truth))

pub AreSearched-label : (budget : ℕ) (v : Verdict) (label : Label) → label ≡ label_of v →
    AreSearched budget (verdicts.nodes_of v) → AreSearched budget (nodes_of label)
AreSearched-label budget v label is h = subst (λ l. AreSearched budget (nodes_of l)) (sym is) (searched v h)
  where
    none : AreSearched budget []
    none = record {
      sweeps = λ k d below. absurd (omega arith);
      steps = λ k d below. absurd (omega arith);
      leaves = refl;
      few = omega arith;
      short = omega arith;
    }

    searched : (w : Verdict) → AreSearched budget (verdicts.nodes_of w) → AreSearched budget (nodes_of (label_of w))
    searched (Yes relations nodes) h = none
    searched (No nodes) h = h
    searched (Budget nodes) h = h

pub label_one : LabelIsOne
label_one m n class budget words e base k l a b =
    let same = verdict_one m n class budget (set_to words e base) a.verdict b.verdict a.is_verdict b.is_verdict in
    a.is ∙ ap label_of same ∙ sym b.is

pub label_exists : LabelExists
label_exists m n class budget words e base calculus net is_class bases below =
    let own = set_to-network m n words e base net below in
    let v = verdict_exists m n class budget (set_to words e base) calculus own is_class bases in
    (label_of v.0, record { verdict = v.0; is_verdict = v.1; is = refl })

pub label_true : LabelIsTrue
label_true m n class budget words e base label calculus net bases below l =
    let own = set_to-network m n words e base net below in
    subst (IsTrueOf m n words e base budget) (sym l.is)
    (IsTrueOf-label_of m n words e base budget calculus net below l.verdict
    (verdict-true m n class budget (set_to words e base) calculus own bases l.verdict l.is_verdict))

-- ---- a base relation that some scenario has there

seen-held : (m : Algebra) (n : ℕ) (class : List ℕ) (budget : ℕ) (words : List ℕ) (e base : ℕ)
    (relations closure : List ℕ) → IsCalculus m → IsNetwork m n words → EachBase m (HasBase class) → e < edge_count n →
    HasAt m n words e base relations → IsClosure m n (set_to words e base) closure → product closure ≤ budget + 1 →
    (v : Verdict) → IsVerdict m n class budget (set_to words e base) v → (held : List ℕ) × (label_of v ≡ Held held)
seen-held m n class budget words e base relations closure calculus net bases below h is few (Yes found nodes) v =
    (found, refl)
seen-held m n class budget words e base relations closure calculus net bases below h is few (No nodes) v =
    let own = set_to-network m n words e base net below in
    let refutes = no_refutation m n class budget (set_to words e base) nodes calculus own bases v in
    absurd (refuted-none m n (set_to words e base) nodes relations calculus own refutes
    (IsScenario-set_to m n words e base relations net below h))
seen-held m n class budget words e base relations closure calculus net bases below h is few (Budget nodes) v =
    let own = set_to-network m n words e base net below in
    absurd (product_suffices m n class budget (set_to words e base) closure nodes calculus own bases is few v)

pub seen_held : SeenIsHeld
seen_held m n class budget words e base relations closure label calculus net bases below h is few l =
    let v = l.verdict in
    let is_held = seen-held m n class budget words e base relations closure calculus net bases below h is few v in
    let found = is_held l.is_verdict in
    (found.0, l.is ∙ found.1)
