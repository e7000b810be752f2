-- The labels of shares of the edges, and of all edges from them.
use Rattle.std.proofs.Common.{◌≡◌, ℕ, ◌+◌, ◌*◌, ◌/◌, ◌%◌, ◌<◌, ◌≤◌, List, [], ◌∷◌, ◌++◌, length, get_or, sym, ap, ◌∙◌, subst}
use Rattle.std.proofs.Common.{arith, inl, inr}
use Rattle.std.proofs.lemmas.Bool.{cases_eq, cases_lt}
use Rattle.std.proofs.lemmas.List.{length-append, get_or_append_left}
use Rattle.std.proofs.Math.Seq.{get_or-append_seam}
use Rattle.std.proofs.Math.Nat.{mod-add-div'}
use Rattle.std.proofs.lemmas.Nat.{mul-le, mod_below}
use Rattle.std.specs.Prelude.{Result, Ok, Vec}
use Rattle.std.specs.Global.{Global}
use Rattle.calculus_table.specs.declared.Memory.{Memory}
use Rattle.network_words.specs.Edge.{edge_count}
use Rattle.minimal_net.specs.declared.edge_labels.EdgeLabels.{EdgeLabels}
use Rattle.minimal_net.specs.NetworkLabels.{no_labels, labels_at, AreLabels}
use Rattle.minimal_net.specs.Searching.{Task, AreLabelsAt, AreLabelsOfShare, AreShares}

-- labels of the first edges of some kind, as many as there are
pub record AreFirst (P : ℕ → EdgeLabels → Type 0) (labels : List EdgeLabels) : Type 0 where
  pub each : (k : ℕ) → k < length labels → P k (labels_at labels k)

pub first-none : (P : ℕ → EdgeLabels → Type 0) → AreFirst P []
first-none P = record { each = λ k below. absurd (omega arith) }

pub first-more : (P : ℕ → EdgeLabels → Type 0) (labels : List EdgeLabels) (l : EdgeLabels) → AreFirst P labels →
    P (length labels) l → AreFirst P (labels ++ l ∷ [])
first-more P labels l are more = record {
  each = λ k below. elim (cases_eq k (length labels)) [
    | inl same ↦
        subst (P k) (sym (ap (λ j. labels_at (labels ++ l ∷ []) j) same ∙ get_or-append_seam labels l [] no_labels))
        (subst (λ j. P j l) (sym same) more)
    | inr apart ↦ (
        let lower : k < length labels = omega (arith, below, length-append labels (l ∷ []), apart) in
        subst (P k) (sym (get_or_append_left labels (l ∷ []) no_labels k lower)) (are.each k lower))
  ];
}

-- a share is whole when its next edge is none
pub share-whole : (t : Task) (first step edge : ℕ) (labels : List EdgeLabels) →
    AreFirst (λ k. AreLabelsAt t (first + k * step)) labels → edge ≡ first + length labels * step →
    edge_count t.nodes ≤ edge → AreLabelsOfShare t first step labels
share-whole t first step edge labels are next past = λ k below. elim (cases_lt k (length labels)) [
  | inl lower ↦ (lower, are.each k lower)
  | inr above ↦ absurd (omega (arith, below, next, past, mul-le (length labels) step k step above (omega arith)))
]

-- edge e is in share e % w, at place e / w
pub share-edge : (t : Task) (shares : List (Result (Vec EdgeLabels Global) Memory)) (e : ℕ)
    (d : Result (Vec EdgeLabels Global) Memory) (share : Vec EdgeLabels Global) → 0 < length shares →
    e < edge_count t.nodes → AreShares t shares → get_or shares (e % length shares) d ≡ Ok share →
    (e / length shares < length share.items) × AreLabelsAt t e (labels_at share.items (e / length shares))
share-edge t shares e d share some below are is =
    let w = length shares in
    let whole : e % w + e / w * w ≡ e = mod-add-div' e w in
    let at = are (e % w) d share (mod_below e w some) is (e / w) (subst (λ k. k < edge_count t.nodes) (sym whole) below) in
    (at.0, subst (λ k. AreLabelsAt t k (labels_at share.items (e / w))) whole at.1)

pub all-labels : (t : Task) (labels : List EdgeLabels) → length labels ≡ edge_count t.nodes →
    AreFirst (AreLabelsAt t) labels → AreLabels t.algebra t.nodes t.class t.budget t.words t.words labels
all-labels t labels long are = record {
  length_is = long;
  each = λ e below. are.each e (omega (arith, below, long));
}
