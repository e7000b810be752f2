-- Steps of propagation: the sets of a pair made smaller, and steps one after another.
use Rattle.std.proofs.Common.{◌≡◌, ◌≢◌, ℕ, ◌+◌, ◌*◌, ◌<◌, ◌≤◌, Bool, true, false, cond, List, length, get_or, set, refl, sym, ◌∙◌, ap, subst, arith, inl, inr, count_by, sum}
use Rattle.std.specs.Prelude.{slice_index, slice_set}
use Rattle.std.proofs.lemmas.List.{length-set, get_or-set_same, get_or-set_other}
use Rattle.std.proofs.lemmas.List.Sums.{sum_by-set}
use Rattle.calculus_table.specs.Rel.{IsWithin}
use Rattle.calculus_table.specs.Algebra.{Algebra}
use Rattle.calculus_table.specs.Composition.{full_of, converse}
use Rattle.calculus_table.specs.Calculus.{IsCalculus}
use Rattle.calculus_table.proofs.Sets.{IsWithin-refl, IsWithin-trans, IsWithin-le, IsWithin-empty, empty-within}
use Rattle.calculus_table.proofs.Compositions.{converse-mono, converse-within, converse-converse}
use Rattle.network_words.specs.Edge.{IsProperPair, IsSamePair}
use Rattle.network_words.specs.Network.{IsNetwork, relation_between}
use Rattle.network_words.specs.Closure.{IsClosed}
use Rattle.network_words.proofs.Networks.{relation_between-converse}
use Rattle.edge_propagation.specs.Worklist.{Worklist, IsSized, edge_place, set_of, with_pair}
use Rattle.edge_propagation.specs.Propagation.{AreConverses, IsReady, IsInside, IsStep, IsRefinement, EmptiesNone}
use Rattle.edge_propagation.specs.Propagation.{IsMet}
use Rattle.edge_propagation.proofs.Places.{edge_place-inside, same-place, same-cases, mark-kept}

-- ---- the sets of one pair written

module _ (sets : List ℕ) (n i k x y : ℕ) (few : n ≤ 256) (long : length sets ≡ 256 * n) (p : IsProperPair n i k) where
  pub length-with_pair : length (with_pair sets i k x y) ≡ 256 * n
  length-with_pair = length-set (slice_set sets (256 * i + k) x) (256 * k + i) y ∙ length-set sets (256 * i + k) x ∙ long

  pub with_pair-first : slice_index (with_pair sets i k x y) (256 * i + k) ≡ x
  with_pair-first =
      let ib = p.first_below in
      let kb = p.second_below in
      let d = p.differ in
      get_or-set_other (slice_set sets (256 * i + k) x) (256 * k + i) (256 * i + k) y 0 (λ e. d (omega arith)) ∙ get_or-set_same sets (256 * i + k) x 0 (omega arith)

  pub with_pair-second : slice_index (with_pair sets i k x y) (256 * k + i) ≡ y
  with_pair-second =
      let ib = p.first_below in
      let kb = p.second_below in
      let size = length-set sets (256 * i + k) x in
      get_or-set_same (slice_set sets (256 * i + k) x) (256 * k + i) y 0 (omega arith)

  pub with_pair-other : (a b : ℕ) → IsProperPair n a b → ¬ IsSamePair a b i k → slice_index (with_pair sets i k x y) (256 * a + b) ≡ slice_index sets (256 * a + b)
  with_pair-other a b q ne =
      let ib = p.first_below in
      let kb = p.second_below in
      let ab = q.first_below in
      let bb = q.second_below in
      get_or-set_other (slice_set sets (256 * i + k) x) (256 * k + i) (256 * a + b) y 0 (λ e. ne (inr (omega arith, omega arith)))
      ∙ get_or-set_other sets (256 * i + k) (256 * a + b) x 0 (λ e. ne (inl (omega arith, omega arith)))

  pub sum-with_pair : x < slice_index sets (256 * i + k) → y ≤ slice_index sets (256 * k + i) → sum (with_pair sets i k x y) < sum sets
  sum-with_pair less le =
      let ib = p.first_below in
      let kb = p.second_below in
      let d = p.differ in
      let size = length-set sets (256 * i + k) x in
      let second : slice_index (slice_set sets (256 * i + k) x) (256 * k + i) ≡ slice_index sets (256 * k + i) = get_or-set_other sets (256 * i + k) (256 * k + i) x 0 (λ e. d (omega arith)) in
      let one = sum_by-set (λ (a : ℕ). a) sets (256 * i + k) x 0 (omega arith) in
      let two = sum_by-set (λ (a : ℕ). a) (slice_set sets (256 * i + k) x) (256 * k + i) y 0 (omega arith) in
      omega arith

-- ---- steps

pub IsStep-refl : (m : Algebra) (work : Worklist) → AreConverses m work → IsStep m work work
IsStep-refl m work s = record {
  nodes = refl;
  planes = refl;
  sets = s;
  within = λ i j p. IsWithin-refl _;
  kept = λ words net closed inside. inside;
  stays = λ i j h. h;
  same = λ i j p quiet. refl;
  less = omega arith;
}

pub IsStep-trans : (m : Algebra) (a b c : Worklist) → IsStep m a b → IsStep m b c → IsStep m a c
IsStep-trans m a b c p q =
    let nodes : a.nodes ≡ b.nodes = sym p.nodes in
    let pair = λ (i j : ℕ) (r : IsProperPair a.nodes i j). subst (λ n. IsProperPair n i j) nodes r in
    record {
      nodes = q.nodes ∙ p.nodes;
      planes = q.planes ∙ p.planes;
      sets = q.sets;
      within = λ i j r. IsWithin-trans _ _ _ (q.within i j (pair i j r)) (p.within i j r);
      kept = λ words net closed inside. q.kept words (subst (λ n. IsNetwork m n words) nodes net) (subst (λ n. IsClosed m n words) nodes closed) (p.kept words net closed inside);
      stays = λ i j h. q.stays i j (p.stays i j h);
      same = λ i j r quiet. q.same i j (pair i j r) quiet ∙ p.same i j r (λ h. quiet (q.stays i j h));
      less = let f = p.less in let g = q.less in omega arith;
    }

-- sets made smaller, and more of them
pub IsMet-step : (m : Algebra) (old new : Worklist) → IsStep m old new → IsMet m old new
IsMet-step m old new p = record { nodes = p.nodes; planes = p.planes; sets = p.sets; within = p.within; stays = p.stays; same = p.same }

pub IsMet-refl : (m : Algebra) (work : Worklist) → AreConverses m work → IsMet m work work
IsMet-refl m work s = IsMet-step m work work (IsStep-refl m work s)

pub IsMet-trans : (m : Algebra) (a b c : Worklist) → IsMet m a b → IsMet m b c → IsMet m a c
IsMet-trans m a b c p q =
    let pair = λ (i j : ℕ) (r : IsProperPair a.nodes i j). subst (λ n. IsProperPair n i j) (sym p.nodes) r in
    record {
      nodes = q.nodes ∙ p.nodes;
      planes = q.planes ∙ p.planes;
      sets = q.sets;
      within = λ i j r. IsWithin-trans _ _ _ (q.within i j (pair i j r)) (p.within i j r);
      stays = λ i j h. q.stays i j (p.stays i j h);
      same = λ i j r quiet. q.same i j (pair i j r) quiet ∙ p.same i j r (λ h. quiet (q.stays i j h));
    }

-- what can be noted plays no part in a step
pub IsStep-room : (m : Algebra) (old new : Worklist) (room : ℕ) → IsStep m old new → IsStep m old (record new { room = room })
IsStep-room m old new room p = record {
  nodes = p.nodes;
  planes = p.planes;
  sets = record { within = p.sets.within; converse = p.sets.converse };
  within = p.within;
  kept = p.kept;
  stays = p.stays;
  same = p.same;
  less = p.less;
}

pub IsReady-step : (m : Algebra) (planes : ℕ) (old new : Worklist) → IsReady m planes old → IsStep m old new → IsReady m planes new
IsReady-step m planes old new r s = record { calculus = r.calculus; few = r.few; enough = r.enough; planes_are = s.planes ∙ r.planes_are; sets = s.sets }

pub pair-step : (m : Algebra) (old new : Worklist) (i j : ℕ) → IsStep m old new → IsProperPair old.nodes i j → IsProperPair new.nodes i j
pair-step m old new i j s p = subst (λ n. IsProperPair n i j) (sym s.nodes) p

-- ---- the sets of a pair made smaller

-- only the empty set has an empty converse
converse-some : (m : Algebra) (x : ℕ) → IsCalculus m → IsWithin x (full_of m) → converse m x ≡ 0 → x ≡ 0
converse-some m x c w e =
    let back : IsWithin (converse m 0) (converse m (converse m 0)) = converse-mono m 0 (converse m 0) (IsWithin-empty _) in
    let none : converse m 0 ≡ 0 = empty-within _ (subst (IsWithin (converse m 0)) (converse-converse m 0 c (IsWithin-empty _)) back) in
    sym (converse-converse m x c w) ∙ ap (converse m) e ∙ none

count-mark : (xs : List Bool) (e : ℕ) → e < length xs → count_by (λ b. b) (set xs e true) ≤ count_by (λ b. b) xs + 1
count-mark xs e l = omega (arith, sum_by-set (λ (b : Bool). cond b 1 0) xs e true false l)

-- the worklist in which the set of (i, k) is x, and its edge is queued
abbrev pub refined : Algebra → Worklist → ℕ → ℕ → ℕ → Worklist
refined m work i k x = record work { sets = with_pair work.sets i k x (converse m x); queued = slice_set work.queued (edge_place i k) true }

module _ (m : Algebra) (work : Worklist) (i k x : ℕ) (c : IsCalculus m) (s : AreConverses m work) (z : IsSized work) (p : IsProperPair work.nodes i k) (w : IsWithin x (set_of work i k)) where
  full : IsWithin x (full_of m)
  full = IsWithin-trans _ _ _ w (s.within i k p)

  first : set_of (refined m work i k x) i k ≡ x
  first = with_pair-first work.sets work.nodes i k x (converse m x) z.bounded z.sets_length p

  second : set_of (refined m work i k x) k i ≡ converse m x
  second = with_pair-second work.sets work.nodes i k x (converse m x) z.bounded z.sets_length p

  other : (a b : ℕ) → IsProperPair work.nodes a b → ¬ IsSamePair a b i k → set_of (refined m work i k x) a b ≡ set_of work a b
  other a b q ne = with_pair-other work.sets work.nodes i k x (converse m x) z.bounded z.sets_length p a b q ne

  -- a fact of each pair's set, from one of x, one of its converse, and the old ones
  by_pair : (P : ℕ → ℕ → ℕ → Type 0) → P i k x → P k i (converse m x) → ((a b : ℕ) → IsProperPair work.nodes a b → ¬ IsSamePair a b i k → P a b (set_of work a b)) →
      (a b : ℕ) → IsProperPair work.nodes a b → P a b (set_of (refined m work i k x) a b)
  by_pair P here swapped rest a b q = elim (same-cases work.nodes a b i k z.bounded q p) [
    | inl same ↦ elim same [
      | inl e ↦ rw (e.0, e.1, first) here
      | inr e ↦ rw (e.0, e.1, second) swapped
    ]
    | inr ne ↦ rw (other a b q ne) (rest a b q ne)
  ]

  back : converse m x ≡ set_of (refined m work i k x) k i
  back = sym second

  AreConverses-refined : AreConverses m (refined m work i k x)
  AreConverses-refined = record {
    within = by_pair (λ a b y. IsWithin y (full_of m)) full (converse-within m x c.table) (λ a b q ne. s.within a b q);
    converse = by_pair (λ a b y. set_of (refined m work i k x) b a ≡ converse m y) second (first ∙ sym (converse-converse m x c full))
        (λ a b q ne. other b a (record { first_below = q.second_below; second_below = q.first_below; differ = λ e. q.differ (sym e) }) (λ t. ne (swapped t)) ∙ s.converse a b q);
  }
    where
      swapped : {a b : ℕ} → IsSamePair b a i k → IsSamePair a b i k
      swapped (inl e) = inr (e.1, e.0)
      swapped (inr e) = inl (e.1, e.0)

  pub IsMet-refined : IsMet m work (refined m work i k x)
  IsMet-refined =
      let inside : edge_place i k < length work.queued = omega (arith, z.queued_length, edge_place-inside work.nodes i k z.bounded p) in
      let turn : IsWithin (converse m x) (set_of work k i) = rw (s.converse i k p) (converse-mono m x _ w) in
      record {
        nodes = refl;
        planes = refl;
        sets = AreConverses-refined;
        within = by_pair (λ a b y. IsWithin y (set_of work a b)) w turn (λ a b q ne'. IsWithin-refl _);
        stays = λ a b h. mark-kept work.queued (edge_place i k) (edge_place a b) true h (inr refl);
        same = λ a b q quiet. other a b q (λ t.
            quiet (subst (λ e. get_or (set work.queued (edge_place i k) true) e false ≡ true) (sym (same-place a b i k p.differ t)) (get_or-set_same work.queued (edge_place i k) true false inside)));
      }

  pub IsStep-refined : x ≢ set_of work i k → ((words : List ℕ) → IsNetwork m work.nodes words → IsClosed m work.nodes words → IsInside m words work → IsWithin (relation_between m work.nodes words i k) x) →
      IsStep m work (refined m work i k x)
  IsStep-refined ne keeps =
      let inside : edge_place i k < length work.queued = omega (arith, z.queued_length, edge_place-inside work.nodes i k z.bounded p) in
      let turn : IsWithin (converse m x) (set_of work k i) = rw (s.converse i k p) (converse-mono m x _ w) in
      record {
        nodes = refl;
        planes = refl;
        sets = IsMet-refined.sets;
        within = IsMet-refined.within;
        kept = λ words net closed all. by_pair (λ a b y. IsWithin (relation_between m work.nodes words a b) y) (keeps words net closed all)
            (rw (relation_between-converse m work.nodes words i k c net p.differ) (converse-mono m _ x (keeps words net closed all)))
            (λ a b q ne'. all a b q);
        stays = IsMet-refined.stays;
        same = IsMet-refined.same;
        less =
            let le = IsWithin-le x (set_of work i k) w in
            let fewer = sum-with_pair work.sets work.nodes i k x (converse m x) z.bounded z.sets_length p (omega arith) (IsWithin-le _ _ turn) in
            let more = count-mark work.queued (edge_place i k) inside in
            omega arith;
      }

  pub EmptiesNone-refined : x ≢ 0 → EmptiesNone work (refined m work i k x)
  EmptiesNone-refined some = by_pair (λ a b y. y ≡ 0 → set_of work a b ≡ 0) (λ e. absurd (some e)) (λ e. absurd (some (converse-some m x c full e))) (λ a b q ne e. e)

  pub refined-first : set_of (refined m work i k x) i k ≡ x
  refined-first = first

  pub refined-other : (a b : ℕ) → IsProperPair work.nodes a b → ¬ IsSamePair a b i k → set_of (refined m work i k x) a b ≡ set_of work a b
  refined-other = other

-- ---- sets that stay other than empty

pub EmptiesNone-trans : (m : Algebra) (a b c : Worklist) → IsStep m a b → EmptiesNone a b → EmptiesNone b c → EmptiesNone a c
EmptiesNone-trans m a b c p h k = λ i j pair e. h i j pair (k i j (subst (λ n. IsProperPair n i j) (sym p.nodes) pair) e)

-- from where the queue alone is another
pub EmptiesNone-queue : (m : Algebra) (a b b' c : Worklist) (queued : List Bool) → b' ≡ record b { queued = queued } → IsRefinement m a b → EmptiesNone a b → EmptiesNone b' c → EmptiesNone a c
EmptiesNone-queue m a b b' c queued same p h k' =
    let k : EmptiesNone (record b { queued = queued }) c = subst (λ (y : Worklist). EmptiesNone y c) same k' in
    λ i j pair e. h i j pair (k i j (subst (λ n. IsProperPair n i j) (sym p.nodes) pair) e)

-- ---- what steps come to

pub IsRefinement-refl : (m : Algebra) (work : Worklist) → AreConverses m work → IsRefinement m work work
IsRefinement-refl m work s = record { nodes = refl; planes = refl; sets = s; within = λ i j p. IsWithin-refl _; kept = λ words net closed inside. inside }

-- a step from where the queue alone is another
pub IsRefinement-step : (m : Algebra) (a b b' c : Worklist) (queued : List Bool) → b' ≡ record b { queued = queued } → IsRefinement m a b → IsStep m b' c → IsRefinement m a c
IsRefinement-step m a b b' c queued e p q' =
    let q : IsStep m (record b { queued = queued }) c = rw e at q' in
    let nodes : a.nodes ≡ b.nodes = sym p.nodes in
    let pair = λ (i j : ℕ) (r : IsProperPair a.nodes i j). subst (λ n. IsProperPair n i j) nodes r in
    record {
      nodes = q.nodes ∙ p.nodes;
      planes = q.planes ∙ p.planes;
      sets = q.sets;
      within = λ i j r. IsWithin-trans _ _ _ (q.within i j (pair i j r)) (p.within i j r);
      kept = λ words net closed inside. q.kept words (subst (λ n. IsNetwork m n words) nodes net) (subst (λ n. IsClosed m n words) nodes closed) (p.kept words net closed inside);
    }

-- what is queued plays no part in a refinement
pub IsRefinement-queue : (m : Algebra) (a b : Worklist) (queued : List Bool) → IsRefinement m a b → IsRefinement m a (record b { queued = queued })
IsRefinement-queue m a b queued p = record {
  nodes = p.nodes;
  planes = p.planes;
  sets = record { within = p.sets.within; converse = p.sets.converse };
  within = p.within;
  kept = p.kept;
}

pub IsReady-refinement : (m : Algebra) (planes : ℕ) (old new : Worklist) → IsReady m planes old → IsRefinement m old new → IsReady m planes new
IsReady-refinement m planes old new r s = record { calculus = r.calculus; few = r.few; enough = r.enough; planes_are = s.planes ∙ r.planes_are; sets = s.sets }
