-- What every machine keeps: an allowed event leaves sets for each edge, proper facts, and the sum of the weights.
use Rattle.std.proofs.Common.{◌≡◌, ◌≢◌, ℕ, ◌+◌, ◌-◌, ◌<◌, ◌≤◌, false, cond, List, [], ◌∷◌, ◌++◌, length, set, refl, sym, ◌∙◌, ap, subst, arith, inl, inr, Some}
use Rattle.std.specs.Prelude.{slice_get, slice_index, IsTrue}
use Rattle.std.specs.List.{sum_by}
use Rattle.std.proofs.lemmas.List.Elements.{All-append, All-push, All-nil}
use Rattle.std.proofs.lemmas.List.Sums.{sum_by-set, sum_by-append}
use Rattle.std.proofs.lemmas.Option.{slice_get_within, get_or_from_slice_get}
use Rattle.calculus_table.specs.Algebra.{Algebra}
use Rattle.calculus_table.specs.Composition.{composition}
use Rattle.network_words.specs.declared.fact.Fact.{Fact}
use Rattle.network_words.specs.Edge.{edge_between}
use Rattle.network_words.specs.Network.{Refines, relation_between}
use Rattle.network_words.proofs.Networks.{Refines-refl, length-narrowed_at, narrowed_at-within}
use Rattle.narrow_core.specs.declared.event.Event.{Event}
use Rattle.narrow_core.specs.declared.event.Event.TheVariants.{Assert, Read, Narrow, Split, Join}
use Rattle.narrow_core.specs.Actor.{ActorState, IsLiveAt, EachLive, live_weight, fresh, seeing, stating, giving, joining, spent}
use Rattle.narrow_core.specs.Machine.{CoreState, AreSets, IsProperFact, IsProperActor, AreWeighed, IsCore}
use Rattle.narrow_core.specs.Event.{IsAllowed, IsStep, HasLive, MayAssert, MayRead, MayNarrow, MaySplit, MayJoin, Asserts, Reads, Narrows, Splits, Joins}
use Rattle.narrow_core.proofs.Places.{get-set, get-set_other, get-last}
use Rattle.narrow_core.proofs.Sights.{length-seen, seen-within, length-met, met-within_l, AreSets-less}

-- ---- two readings of one place

pub same_actor : (actors : List ActorState) (k : ℕ) (a b : ActorState) → slice_get actors k ≡ Some a → slice_get actors k ≡ Some b → a ≡ b
same_actor actors k a b p q = let e : Some a ≡ Some b = sym p ∙ q in cc

pub live_here : (s : CoreState) (k : ℕ) (a : ActorState) → HasLive s k → slice_get s.actors k ≡ Some a → IsLiveAt s.actors k a
live_here s k a h e =
    let same : h.actor ≡ a = same_actor s.actors k h.actor a h.live.is_there e in
    record { is_there = e; is_live = subst (λ (x : ActorState). IsTrue x.is_live) same h.live.is_live }

-- ---- the live actors after a change

-- each live actor after an actor was changed is one that was live before, or the changed one
pub live-set : (actors : List ActorState) (k : ℕ) (a : ActorState) (P : ActorState → Type 0) → (IsTrue a.is_live → P a) →
    ((j : ℕ) (b : ActorState) → j ≢ k → IsLiveAt actors j b → P b) → EachLive (set actors k a) P
live-set actors k a P here there j b l = elim (get-set actors k j a b l.is_there) [
  | inl t ↦ subst P t.1 (here (subst (λ (x : ActorState). IsTrue x.is_live) (sym t.1) l.is_live))
  | inr t ↦ there j b t.0 (record { is_there = t.1; is_live = l.is_live })
]

pub live-more : (actors : List ActorState) (a : ActorState) (P : ActorState → Type 0) → EachLive actors P → P a → EachLive (actors ++ a ∷ []) P
live-more actors a P all here j b l = elim (get-last actors j a b l.is_there) [
  | inl t ↦ all j b (record { is_there = t; is_live = l.is_live })
  | inr t ↦ subst P t.1 here
]

-- ---- weights

live_weight-live : (a : ActorState) → IsTrue a.is_live → live_weight a ≡ a.weight
live_weight-live a h = ap (λ b. cond b a.weight 0) h

-- the sum after an actor was changed
pub weights-set : (actors : List ActorState) (k : ℕ) (a b : ActorState) → slice_get actors k ≡ Some a →
    sum_by live_weight (set actors k b) + live_weight a ≡ sum_by live_weight actors + live_weight b
weights-set actors k a b e = let s = sum_by-set live_weight actors k b a (slice_get_within actors k a e) in rw (get_or_from_slice_get actors k a a e) at s

pub weights-same : (w : ℕ) (actors : List ActorState) (k : ℕ) (a b : ActorState) → slice_get actors k ≡ Some a → b.is_live ≡ a.is_live → b.weight ≡ a.weight →
    AreWeighed w actors → AreWeighed w (set actors k b)
weights-same w actors k a b e l q h = record {
  some = live-set actors k b (λ x. 0 < x.weight)
      (λ t. subst (λ x. 0 < x) (sym q) (h.some k a (record { is_there = e; is_live = sym l ∙ t })))
      (λ j x n t. h.some j x t);
  sum =
      let same : live_weight b ≡ live_weight a = cc in
      omega (arith, weights-set actors k a b e, h.sum);
}

pub weights-split : (w : ℕ) (actors : List ActorState) (k left : ℕ) (a : ActorState) (seen : List ℕ) → IsLiveAt actors k a → 0 < left → left < a.weight →
    AreWeighed w actors → AreWeighed w (set actors k (giving left a) ++ fresh left seen ∷ [])
weights-split w actors k left a seen l p q h = record {
  some = live-more (set actors k (giving left a)) (fresh left seen) (λ x. 0 < x.weight)
      (live-set actors k (giving left a) (λ x. 0 < x.weight) (λ t. omega arith) (λ j x n t. h.some j x t))
      p;
  sum =
      let one : live_weight a ≡ a.weight = live_weight-live a l.is_live in
      let two : live_weight (giving left a) ≡ a.weight - left = live_weight-live (giving left a) l.is_live in
      let s = weights-set actors k a (giving left a) l.is_there in
      let t = sum_by-append live_weight (set actors k (giving left a)) (fresh left seen ∷ []) in
      omega (arith, s, t, one, two, h.sum);
}

live_weight-spent : (z : ActorState) → z.is_live ≡ false → live_weight z ≡ 0
live_weight-spent z h = ap (λ b. cond b z.weight 0) h

-- the sum after two actors were joined, whatever is left of the second one, if it isn't live
pub weights-join : (w : ℕ) (actors : List ActorState) (k l : ℕ) (a b z : ActorState) → k ≢ l → IsLiveAt actors k a → IsLiveAt actors l b → z.is_live ≡ false →
    AreWeighed w actors → AreWeighed w (set (set actors k (joining a b)) l z)
weights-join w actors k l a b z d p q dead h = record {
  some = live-set (set actors k (joining a b)) l z (λ x. 0 < x.weight) (λ t. absurd (cc))
      (λ j x n t. live-set actors k (joining a b) (λ y. 0 < y.weight)
      (λ u. let s = h.some k a p in omega arith)
      (λ i y o u. h.some i y u) j x t);
  sum =
      let there : slice_get (set actors k (joining a b)) l ≡ Some b = get-set_other actors k l (joining a b) (λ e. d (sym e)) ∙ q.is_there in
      let one : live_weight a ≡ a.weight = live_weight-live a p.is_live in
      let two : live_weight b ≡ b.weight = live_weight-live b q.is_live in
      let both : live_weight (joining a b) ≡ a.weight + b.weight = live_weight-live (joining a b) p.is_live in
      let s = weights-set actors k a (joining a b) p.is_there in
      let none = live_weight-spent z dead in
      let t = weights-set (set actors k (joining a b)) l b z there in
      omega (arith, s, t, one, two, both, none, h.sum);
}

-- a live actor has no more weight than all
pub weights-one : (w : ℕ) (actors : List ActorState) (k : ℕ) (a : ActorState) → IsLiveAt actors k a → AreWeighed w actors → a.weight ≤ w
weights-one w actors k a p h =
    let one : live_weight a ≡ a.weight = live_weight-live a p.is_live in
    let s = weights-set actors k a (spent a) p.is_there in
    omega (arith, s, one, h.sum)

-- two live actors have no more weight than all
pub weights-two : (w : ℕ) (actors : List ActorState) (k l : ℕ) (a b : ActorState) → k ≢ l → IsLiveAt actors k a → IsLiveAt actors l b →
    AreWeighed w actors → a.weight + b.weight ≤ w
weights-two w actors k l a b d p q h =
    let there : slice_get (set actors k (spent a)) l ≡ Some b = get-set_other actors k l (spent a) (λ e. d (sym e)) ∙ q.is_there in
    let one : live_weight a ≡ a.weight = live_weight-live a p.is_live in
    let two : live_weight b ≡ b.weight = live_weight-live b q.is_live in
    let s = weights-set actors k a (spent a) p.is_there in
    let t = weights-set (set actors k (spent a)) l b (spent b) there in
    omega (arith, s, t, one, two, h.sum)

-- ---- proper actors

pub proper-seeing : (n full e x : ℕ) (a : ActorState) → IsProperActor n full a → IsProperActor n full (seeing e x a)
proper-seeing n full e x a p = record { seen = AreSets-less n full a.seen _ p.seen (length-seen a.seen e x) (seen-within a.seen e x); facts = p.facts }

pub proper-stating : (n full : ℕ) (fact : Fact) (a : ActorState) → IsProperActor n full a → IsProperFact n full fact → IsProperActor n full (stating fact a)
proper-stating n full fact a p f = record { seen = p.seen; facts = All-push (IsProperFact n full) a.mine fact p.facts f }

pub proper-giving : (n full left : ℕ) (a : ActorState) → IsProperActor n full a → IsProperActor n full (giving left a)
proper-giving n full left a p = record { seen = p.seen; facts = p.facts }

pub proper-fresh : (n full weight : ℕ) (seen : List ℕ) → AreSets n full seen → IsProperActor n full (fresh weight seen)
proper-fresh n full weight seen p = record { seen = p; facts = All-nil (IsProperFact n full) }

pub proper-joining : (n full : ℕ) (a b : ActorState) → IsProperActor n full a → IsProperActor n full b → IsProperActor n full (joining a b)
proper-joining n full a b p q = record {
  seen = AreSets-less n full a.seen _ p.seen (length-met a.seen b.seen (p.seen.length_is ∙ sym q.seen.length_is)) (met-within_l a.seen b.seen);
  facts = All-append (IsProperFact n full) a.mine b.mine p.facts q.facts;
}

-- ---- every machine

-- one actor with its weight and some words were changed
core-moved : (s : CoreState) (words : List ℕ) (k : ℕ) (a b : ActorState) → IsCore s → slice_get s.actors k ≡ Some a → length words ≡ length s.words → Refines words s.words →
    IsProperActor s.nodes s.full b → b.is_live ≡ a.is_live → b.weight ≡ a.weight → IsCore (record s { words = words; actors = set s.actors k b })
core-moved s words k a b h e l w p live weight = record {
  opening = h.opening;
  words = AreSets-less s.nodes s.full s.words words h.words l w;
  actors = live-set s.actors k b (IsProperActor s.nodes s.full) (λ _. p) (λ j c d t. h.actors j c t);
  weights = weights-same s.opening_weight s.actors k a b e live weight h.weights;
}

pub core-asserts : (m : Algebra) (k : ℕ) (fact : Fact) (s t : CoreState) → IsCore s → MayAssert s k fact → Asserts m k fact s t → IsCore t
core-asserts m k fact s t h may step =
    let a = step.actor in
    let words = step.words in
    let e = edge_between s.nodes fact.i fact.j in
    let p : IsProperActor s.nodes s.full a = h.actors k a (live_here s k a may.live step.is_there) in
    let l : length words ≡ length s.words = ap length step.words_is ∙ length-narrowed_at m s.nodes s.words fact.i fact.j fact.rel in
    let w : Refines words s.words = subst (λ (x : List ℕ). Refines x s.words) (sym step.words_is) (narrowed_at-within m s.nodes s.words fact.i fact.j fact.rel) in
    subst IsCore (sym step.after) (core-moved s words k a (seeing e (slice_index words e) (stating fact a)) h step.is_there l w
    (proper-seeing s.nodes s.full e (slice_index words e) (stating fact a) (proper-stating s.nodes s.full fact a p may.proper)) refl refl)

pub core-reads : (k e : ℕ) (s t : CoreState) → IsCore s → MayRead s k e → Reads k e s t → IsCore t
core-reads k e s t h may step =
    let a = step.actor in
    let p : IsProperActor s.nodes s.full a = h.actors k a (live_here s k a may.live step.is_there) in
    subst IsCore (sym step.after) (core-moved s s.words k a (seeing e (slice_index s.words e) a) h step.is_there refl (Refines-refl s.words)
    (proper-seeing s.nodes s.full e (slice_index s.words e) a p) refl refl)

pub core-narrows : (m : Algebra) (k i j l : ℕ) (s t : CoreState) → IsCore s → MayNarrow s k i j l → Narrows m k i j l s t → IsCore t
core-narrows m k i j l s t h may step =
    let a = step.actor in
    let words = step.words in
    let e = edge_between s.nodes i l in
    let x = composition m (relation_between m s.nodes a.seen i j) (relation_between m s.nodes a.seen j l) in
    let p : IsProperActor s.nodes s.full a = h.actors k a (live_here s k a may.live step.is_there) in
    let q : length words ≡ length s.words = ap length step.words_is ∙ length-narrowed_at m s.nodes s.words i l x in
    let w : Refines words s.words = subst (λ (y : List ℕ). Refines y s.words) (sym step.words_is) (narrowed_at-within m s.nodes s.words i l x) in
    subst IsCore (sym step.after) (core-moved s words k a (seeing e (slice_index words e) a) h step.is_there q w
    (proper-seeing s.nodes s.full e (slice_index words e) a p) refl refl)

pub core-split : (s : CoreState) (k left : ℕ) (a : ActorState) → IsCore s → IsLiveAt s.actors k a → 0 < left → left < a.weight →
    IsCore (record s { actors = set s.actors k (giving left a) ++ fresh left a.seen ∷ [] })
core-split s k left a h live some less =
    let p : IsProperActor s.nodes s.full a = h.actors k a live in
    record {
      opening = h.opening;
      words = h.words;
      actors = live-more (set s.actors k (giving left a)) (fresh left a.seen) (IsProperActor s.nodes s.full)
          (live-set s.actors k (giving left a) (IsProperActor s.nodes s.full) (λ _. proper-giving s.nodes s.full left a p) (λ j c d t. h.actors j c t))
          (proper-fresh s.nodes s.full left a.seen p.seen);
      weights = weights-split s.opening_weight s.actors k left a a.seen live some less h.weights;
    }

pub core-splits : (k left : ℕ) (s t : CoreState) → IsCore s → MaySplit s k left → Splits k left s t → IsCore t
core-splits k left s t h may step =
    let a = step.actor in
    let same : may.live.actor ≡ a = same_actor s.actors k may.live.actor a may.live.live.is_there step.is_there in
    let live : IsLiveAt s.actors k a = record { is_there = step.is_there; is_live = subst (λ (x : ActorState). IsTrue x.is_live) same may.live.live.is_live } in
    let less : left < a.weight = subst (λ (x : ActorState). left < x.weight) same may.live.more in
    subst IsCore (sym step.after) (core-split s k left a h live may.some less)

pub core-join : (s : CoreState) (k l : ℕ) (a b z : ActorState) → IsCore s → k ≢ l → IsLiveAt s.actors k a → IsLiveAt s.actors l b → z.is_live ≡ false →
    IsCore (record s { actors = set (set s.actors k (joining a b)) l z })
core-join s k l a b z h differ live other_live dead = record {
  opening = h.opening;
  words = h.words;
  actors = live-set (set s.actors k (joining a b)) l z (IsProperActor s.nodes s.full) (λ t. absurd (cc))
      (λ j x d t. live-set s.actors k (joining a b) (IsProperActor s.nodes s.full)
      (λ _. proper-joining s.nodes s.full a b (h.actors k a live) (h.actors l b other_live))
      (λ i y e u. h.actors i y u) j x t);
  weights = weights-join s.opening_weight s.actors k l a b z differ live other_live dead h.weights;
}

pub core-joins : (k l : ℕ) (s t : CoreState) → IsCore s → MayJoin s k l → Joins k l s t → IsCore t
core-joins k l s t h may step =
    let live : IsLiveAt s.actors k step.actor = live_here s k step.actor may.live step.is_there in
    let other_live : IsLiveAt s.actors l step.other = live_here s l step.other may.other_live step.other_there in
    subst IsCore (sym step.after) (core-join s k l step.actor step.other (spent step.other) h may.differ live other_live refl)

-- every allowed event keeps it
pub core-step : (m : Algebra) (e : Event) (s t : CoreState) → IsCore s → IsAllowed s e → IsStep m e s t → IsCore t
core-step m (Assert k fact) s t h may step = core-asserts m k fact s t h may step
core-step m (Read k e) s t h may step = core-reads k e s t h may step
core-step m (Narrow k i j l) s t h may step = core-narrows m k i j l s t h may step
core-step m (Split k left) s t h may step = core-splits k left s t h may step
core-step m (Join k l) s t h may step = core-joins k l s t h may step
