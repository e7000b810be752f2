-- How many labels there are of each kind, and what is left where the refuted base relations are taken away.
use Rattle.std.proofs.Common.{◌≡◌, ℕ, zero, suc, ◌+◌, ◌<◌, ◌≤◌, List, [], ◌∷◌, ◌++◌, length, get_or, take, refl, sym, ap}
use Rattle.std.proofs.Common.{◌∙◌, arith}
use Rattle.std.specs.Prelude.{count_ones}
use Rattle.std.proofs.lemmas.List.{take_more}
use Rattle.minimal_net.specs.declared.counts.Counts.{Counts}
use Rattle.minimal_net.specs.declared.edge_labels.EdgeLabels.{EdgeLabels}
use Rattle.minimal_net.specs.declared.outcome.Outcome.{Outcome}
use Rattle.minimal_net.specs.declared.outcome.Outcome.TheVariants.{Held, Refuted, Open}
use Rattle.minimal_net.specs.NetworkLabels.{with_outcome, labels_at, count_of}

-- the labels of an edge that is there
pub labels_at-any : (labels : List EdgeLabels) (e : ℕ) (d : EdgeLabels) → e < length labels →
    get_or labels e d ≡ labels_at labels e
labels_at-any [] e d below = absurd (omega arith)
labels_at-any (l ∷ labels) zero d below = refl
labels_at-any (l ∷ labels) (suc e) d below = labels_at-any labels e d (omega arith)

pub record AreCounts (labels : List EdgeLabels) (counts : Counts) : Type 0 where
  pub held : counts.held ≡ count_of Held labels
  pub refuted : counts.refuted ≡ count_of Refuted labels
  pub undecided : counts.undecided ≡ count_of Open labels

pub count-append : (o : Outcome) (ks ls : List EdgeLabels) → count_of o (ks ++ ls) ≡ count_of o ks + count_of o ls
count-append o [] ls = omega arith
count-append o (k ∷ ks) ls = omega (arith, count-append o ks ls)

pub count-more : (o : Outcome) (labels : List EdgeLabels) (l : EdgeLabels) →
    count_of o (labels ++ l ∷ []) ≡ count_of o labels + count_ones (with_outcome o l)
count-more o labels l = omega (arith, count-append o labels (l ∷ []))

-- the counts are bounded
pub record AreSmall (bound : ℕ) (counts : Counts) : Type 0 where
  pub held : counts.held ≤ bound
  pub refuted : counts.refuted ≤ bound
  pub undecided : counts.undecided ≤ bound

-- one edge more is counted
pub counts-more : (labels : List EdgeLabels) (k : ℕ) (l : EdgeLabels) (old new : Counts) → k < length labels →
    l ≡ get_or labels k l → AreCounts (take k labels) old → new.held ≡ old.held + count_ones l.held →
    new.refuted ≡ old.refuted + count_ones l.refuted → new.undecided ≡ old.undecided + count_ones l.undecided →
    AreCounts (take (k + 1) labels) new
counts-more labels k l old new below is are held refuted undecided =
    let whole : take (k + 1) labels ≡ take k labels ++ l ∷ [] =
    take_more labels k l below ∙ ap (λ x. take k labels ++ x ∷ []) (sym is) in
    record {
      held = omega (arith, held, are.held, count-more Held (take k labels) l, ap (count_of Held) whole);
      refuted = omega (arith, refuted, are.refuted, count-more Refuted (take k labels) l, ap (count_of Refuted) whole);
      undecided = omega (arith, undecided, are.undecided, count-more Open (take k labels) l, ap (count_of Open) whole);
    }
