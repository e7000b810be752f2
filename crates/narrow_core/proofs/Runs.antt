-- Runs: what every run keeps, how one goes on by a step, and what an actor with the whole weight knows.
use Rattle.std.proofs.Common.{◌≡◌, ◌≢◌, ℕ, zero, suc, ◌<◌, false, List, [], ◌∷◌, ◌++◌, length, set, refl, sym, ◌∙◌, subst, arith, inl, inr, Some}
use Rattle.std.specs.Prelude.{slice_get, slice_index}
use Rattle.std.specs.List.{All}
use Rattle.std.proofs.lemmas.Bool.{cases_eq}
use Rattle.std.proofs.lemmas.List.Elements.{All-nil, All-cons, All-head, All-tail, All-weaker}
use Rattle.calculus_table.specs.Rel.{IsWithin}
use Rattle.calculus_table.specs.Algebra.{Algebra}
use Rattle.calculus_table.specs.Composition.{full_of}
use Rattle.calculus_table.specs.Calculus.{IsCalculus}
use Rattle.calculus_table.proofs.Sets.{IsWithin-trans, IsWithin-meet_r}
use Rattle.network_words.specs.declared.fact.Fact.{Fact}
use Rattle.network_words.specs.Network.{Network, Refines, IsNetwork, narrowed_at, relation_between}
use Rattle.network_words.specs.Facts.{narrowed_by}
use Rattle.network_words.specs.Closure.{IsClosure}
use Rattle.network_words.proofs.Networks.{Refines-refl, Refines-trans, narrowed_at-keeps, relation_between-mono, relation_between-narrowed_at, IsClosure-between}
use Rattle.network_words.proofs.Refinements.{IsNetwork-narrowed_at, IsNetwork-refines}
use Rattle.network_words.proofs.Meets.{length-narrowed_by, narrowed_by-within}
use Rattle.narrow_core.specs.declared.event.Event.{Event}
use Rattle.narrow_core.specs.declared.event.Event.TheVariants.{Assert, Read, Narrow, Split, Join}
use Rattle.narrow_core.specs.Actor.{ActorState, IsLiveAt, fresh, giving, joining}
use Rattle.narrow_core.specs.Machine.{CoreState, AreSets, IsProperFact, IsProperActor, IsCore, SameOpening, opened}
use Rattle.narrow_core.specs.Event.{IsAllowed, IsStep}
use Rattle.narrow_core.specs.Run.{IsRun}
use Rattle.narrow_core.specs.Bound.{IsWithinFact, IsWithinActor, HasSeenWithin, Bound, Holds, IsAlone}
use Rattle.narrow_core.specs.Laws.{IsSchedule}
use Rattle.narrow_core.proofs.Sights.{facts-mono, AreSets-network}
use Rattle.narrow_core.proofs.Cores.{same_actor, core-step, core-split, core-join, weights-two}
use Rattle.narrow_core.proofs.Bounds.{full-fact, bound-step, bound-split, bound-join}

-- ---- one step

-- a machine that is known to be another
same-after : (s t u : CoreState) → t ≡ u → SameOpening s u → SameOpening s t
same-after s t u e h = subst (SameOpening s) (sym e) h

-- every event leaves the opening as it was
pub step-stays : (m : Algebra) (e : Event) (s t : CoreState) → IsStep m e s t → SameOpening s t
step-stays m (Assert k fact) s t step = same-after s t _ step.after (record { nodes = refl; full = refl; opening = refl; opening_weight = refl })
step-stays m (Read k e) s t step = same-after s t _ step.after (record { nodes = refl; full = refl; opening = refl; opening_weight = refl })
step-stays m (Narrow k i j l) s t step = same-after s t _ step.after (record { nodes = refl; full = refl; opening = refl; opening_weight = refl })
step-stays m (Split k left) s t step = same-after s t _ step.after (record { nodes = refl; full = refl; opening = refl; opening_weight = refl })
step-stays m (Join k l) s t step = same-after s t _ step.after (record { nodes = refl; full = refl; opening = refl; opening_weight = refl })

pub same-trans : (s t u : CoreState) → SameOpening s t → SameOpening t u → SameOpening s u
same-trans s t u p q = record {
  nodes = q.nodes ∙ p.nodes;
  full = q.full ∙ p.full;
  opening = q.opening ∙ p.opening;
  opening_weight = q.opening_weight ∙ p.opening_weight;
}

-- ---- runs

-- a run goes on by one step
pub run-more : (m : Algebra) (events : List Event) (e : Event) (s t u : CoreState) → IsRun m events s t → IsAllowed t e → IsStep m e t u → IsRun m (events ++ e ∷ []) s u
run-more m [] e s t u run may step = (u, subst (λ (x : CoreState). IsAllowed x e) run may, subst (λ (x : CoreState). IsStep m e x u) run step, refl)
run-more m (d ∷ events) e s t u run may step = (run.0, run.1, run.2, run-more m events e run.0 t u run.3 may step)

-- every allowed event keeps the bound
pub Holds-step : (m : Algebra) (e : Event) (s t : CoreState) → Holds m s → IsAllowed s e → IsStep m e s t → Holds m t
Holds-step m e s t h may step = record {
  calculus = h.calculus;
  full = (step-stays m e s t step).full ∙ h.full;
  core = core-step m e s t h.core may step;
  bound = bound-step m e s t h.calculus h.full h.core may step h.bound;
}

-- what a run keeps
pub record Keeps (m : Algebra) (s t : CoreState) : Type 0 where
  pub holds : Holds m t
  pub same : SameOpening s t

pub run-keeps : (m : Algebra) (events : List Event) (s t : CoreState) → Holds m s → IsRun m events s t → Keeps m s t
run-keeps m [] s t h run =
    subst (Keeps m s) (sym run) (record { holds = h; same = record { nodes = refl; full = refl; opening = refl; opening_weight = refl } })
run-keeps m (e ∷ events) s t h run =
    let mid = run.0 in
    let rest = run-keeps m events mid t (Holds-step m e s mid h run.1 run.2) run.3 in
    record { holds = rest.holds; same = same-trans s mid t (step-stays m e s mid run.2) rest.same }

-- ---- the opening

only_first : (a b : ActorState) (k : ℕ) → slice_get (a ∷ []) k ≡ Some b → a ≡ b
only_first a b zero e = cc
only_first a b (suc k) e = absurd (cc)

each-first : (a : ActorState) (P : ActorState → Type 0) → P a → (k : ℕ) (b : ActorState) → slice_get (a ∷ []) k ≡ Some b → P b
each-first a P h k b e = subst P (only_first a b k e) h

pub opened-core : (net : Network) (weight : ℕ) → 0 < weight → AreSets net.nodes net.full net.words → IsCore (opened net weight)
opened-core net weight some sets = record {
  opening = sets;
  words = sets;
  actors = λ k b l. each-first (fresh weight net.words) (IsProperActor net.nodes net.full) (record { seen = sets; facts = All-nil (IsProperFact net.nodes net.full) }) k b l.is_there;
  weights = record {
    some = λ k a l. each-first (fresh weight net.words) (λ x. 0 < x.weight) some k a l.is_there;
    sum = omega arith;
  };
}

pub opened-bound : (m : Algebra) (net : Network) (weight : ℕ) → 0 < weight → Bound m (opened net weight)
opened-bound m net weight some =
    let a = fresh weight net.words in
    record {
      nothing_lost = λ xs cand. cand.opening;
      words_within = record {
        opening = Refines-refl net.words;
        actors = λ k b l. each-first a (IsWithinActor m net.nodes net.words)
            (record { seen = Refines-refl net.words; facts = All-nil (IsWithinFact m net.nodes net.words) }) k b l.is_there;
      };
      seen_within = λ k b l. each-first a (HasSeenWithin m net.nodes net.words)
          (record { opening = Refines-refl net.words; facts = All-nil (IsWithinFact m net.nodes net.words) }) k b l.is_there;
      weights = record {
        some = λ k b l. each-first a (λ x. 0 < x.weight) some k b l.is_there;
        sum = omega arith;
      };
    }

pub Holds-opened : (m : Algebra) (net : Network) (weight : ℕ) → IsCalculus m → net.full ≡ full_of m → IsNetwork m net.nodes net.words → 0 < weight → Holds m (opened net weight)
Holds-opened m net weight calculus full network some =
    let sets : AreSets net.nodes net.full net.words = record { length_is = network.length_is; within = λ e. subst (IsWithin (slice_index net.words e)) (sym full) (network.within e) } in
    record { calculus = calculus; full = full; core = opened-core net weight some sets; bound = opened-bound m net weight some }

-- ---- a split and a join

-- the state after a split
pub Holds-split : (m : Algebra) (s : CoreState) (k left : ℕ) (a : ActorState) → Holds m s → IsLiveAt s.actors k a → 0 < left → left < a.weight →
    Holds m (record s { actors = set s.actors k (giving left a) ++ fresh left a.seen ∷ [] })
Holds-split m s k left a h live some less = record {
  calculus = h.calculus;
  full = h.full;
  core = core-split s k left a h.core live some less;
  bound = bound-split m s k left a h.bound live some less;
}

-- the state after a join, whatever is left of the second actor, if it isn't live
pub Holds-join : (m : Algebra) (s : CoreState) (k l : ℕ) (a b z : ActorState) → Holds m s → k ≢ l → IsLiveAt s.actors k a → IsLiveAt s.actors l b → z.is_live ≡ false →
    Holds m (record s { actors = set (set s.actors k (joining a b)) l z })
Holds-join m s k l a b z h differ live other_live dead = record {
  calculus = h.calculus;
  full = h.full;
  core = core-join s k l a b z h.core differ live other_live dead;
  bound = bound-join m s k l a b z h.bound differ live other_live dead;
}

-- ---- an actor alone

-- a network within the words and each fact is within the words met with the facts
narrowed_by-keeps : (m : Algebra) (n : ℕ) (xs words : List ℕ) (facts : List Fact) → IsCalculus m → IsNetwork m n xs → Refines xs words → All (IsWithinFact m n xs) facts →
    Refines xs (narrowed_by m n words facts)
narrowed_by-keeps m n xs words [] calculus net w h = w
narrowed_by-keeps m n xs words (f ∷ facts) calculus net w h =
    narrowed_by-keeps m n xs (narrowed_at m n words f.i f.j f.rel) facts calculus net
    (narrowed_at-keeps m n xs words f.i f.j f.rel calculus net w (All-head (IsWithinFact m n xs) f facts h)) (All-tail (IsWithinFact m n xs) f facts h)

-- the words met with the facts are within each of them
narrowed_by-facts : (m : Algebra) (n : ℕ) (words : List ℕ) (facts : List Fact) → IsCalculus m → IsNetwork m n words → All (IsProperFact n (full_of m)) facts →
    All (IsWithinFact m n (narrowed_by m n words facts)) facts
narrowed_by-facts m n words [] calculus net p = All-nil (IsWithinFact m n words)
narrowed_by-facts m n words (f ∷ facts) calculus net p =
    let next = narrowed_at m n words f.i f.j f.rel in
    let met = narrowed_by m n next facts in
    let proper : IsProperFact n (full_of m) f = All-head (IsProperFact n (full_of m)) f facts p in
    let here : IsWithin (relation_between m n next f.i f.j) f.rel =
    rw (relation_between-narrowed_at m n words f.i f.j f.rel calculus net proper.pair proper.within) (IsWithin-meet_r (relation_between m n words f.i f.j) f.rel) in
    All-cons (IsWithinFact m n met) f facts
    (IsWithin-trans _ _ _ (relation_between-mono m n met next f.i f.j (narrowed_by-within m n next facts)) here)
    (narrowed_by-facts m n next facts calculus (IsNetwork-narrowed_at m n words f.i f.j f.rel net) (All-tail (IsProperFact n (full_of m)) f facts p))

full-facts : (m : Algebra) (n full : ℕ) (facts : List Fact) → full ≡ full_of m → All (IsProperFact n full) facts → All (IsProperFact n (full_of m)) facts
full-facts m n full facts e = All-weaker (IsProperFact n full) (IsProperFact n (full_of m)) (λ f. full-fact m n full f e) facts

alone-only : (s : CoreState) (k l : ℕ) (a b : ActorState) → IsCore s → IsLiveAt s.actors k a → a.weight ≡ s.opening_weight → IsLiveAt s.actors l b → l ≡ k
alone-only s k l a b core p whole q = elim (cases_eq l k) [
  | inl same ↦ same
  | inr differ ↦ absurd (omega (arith, weights-two s.opening_weight s.actors k l a b (λ e. differ (sym e)) p q core.weights, core.weights.some l b q))
]

-- an actor with the whole weight is alone
pub Holds-alone : (m : Algebra) (s : CoreState) (k : ℕ) (a : ActorState) → Holds m s → IsLiveAt s.actors k a → a.weight ≡ s.opening_weight → IsAlone m s k a
Holds-alone m s k a h live whole =
    let n = s.nodes in
    let calculus = h.calculus in
    let full = h.full in
    let core = h.core in
    let bound = h.bound in
    let met = narrowed_by m n s.opening a.mine in
    let net : IsNetwork m n s.words = AreSets-network m n s.full s.words full core.words in
    let opening : IsNetwork m n s.opening = AreSets-network m n s.full s.opening full core.opening in
    let proper = full-facts m n s.full a.mine full (core.actors k a live).facts in
    let upper : Refines s.words met = narrowed_by-keeps m n s.words s.opening a.mine calculus net bound.words_within.opening (bound.words_within.actors k a live).facts in
    let size : length met ≡ length s.opening = length-narrowed_by m n s.opening a.mine in
    let lower : (c : List ℕ) → IsClosure m n met c → Refines c s.words = λ c closure.
    let in_opening : Refines c s.opening = Refines-trans c met s.opening closure.within (narrowed_by-within m n s.opening a.mine) in
    bound.nothing_lost c (record {
      network = IsNetwork-refines m n c s.opening opening (closure.length_is ∙ size) in_opening;
      closed = closure.closed;
      opening = in_opening;
      facts = λ l b t.
          let here : k ≡ l = sym (alone-only s k l a b core live whole t) in
          let e : a ≡ b = same_actor s.actors l a b (subst (λ (i : ℕ). slice_get s.actors i ≡ Some a) here live.is_there) t.is_there in
          subst (λ (x : ActorState). All (IsWithinFact m n c) x.mine) e (facts-mono m n c met a.mine closure.within (narrowed_by-facts m n s.opening a.mine calculus opening proper));
    }) in
    record {
      only = λ l b t. alone-only s k l a b core live whole t;
      upper = upper;
      lower = lower;
      same_closure = λ c closure. IsClosure-between m n met s.words c closure (net.length_is ∙ sym (size ∙ opening.length_is)) (lower c closure) upper;
    }

-- ---- schedules

pub schedule-keeps : (m : Algebra) (net : Network) (weight : ℕ) (events : List Event) (s : CoreState) → IsSchedule m net weight events s → Keeps m (opened net weight) s
schedule-keeps m net weight events s h = run-keeps m events (opened net weight) s (Holds-opened m net weight h.calculus h.full h.network h.some) h.run
