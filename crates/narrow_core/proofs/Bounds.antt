-- Every allowed event keeps the bound.
use Rattle.std.proofs.Common.{◌≡◌, ◌≢◌, ℕ, ◌<◌, false, List, [], ◌∷◌, ◌++◌, length, set, refl, sym, ◌∙◌, subst, arith, inl, inr, Some}
use Rattle.std.specs.Prelude.{bit_and, slice_get, slice_index, slice_set, IsTrue}
use Rattle.std.specs.List.{All}
use Rattle.std.proofs.lemmas.Bool.{cases_eq}
use Rattle.std.proofs.lemmas.List.Elements.{All-append, All-push, All-nil}
use Rattle.std.proofs.lemmas.Option.{slice_get_within}
use Rattle.calculus_table.specs.Rel.{IsWithin}
use Rattle.calculus_table.specs.Algebra.{Algebra}
use Rattle.calculus_table.specs.Composition.{full_of, composition}
use Rattle.calculus_table.specs.Calculus.{IsCalculus}
use Rattle.calculus_table.proofs.Sets.{IsWithin-trans, IsWithin-meet_r}
use Rattle.network_words.specs.declared.fact.Fact.{Fact}
use Rattle.network_words.specs.Edge.{edge_count, IsProperTriple, edge_between}
use Rattle.network_words.specs.Network.{Refines, IsNetwork, narrowed_at, relation_between}
use Rattle.network_words.specs.Closure.{IsClosed}
use Rattle.network_words.proofs.Networks.{Refines-refl, Refines-trans, narrowed_at-within, narrowed_at-keeps, relation_between-narrowed_at, narrow-keeps}
use Rattle.narrow_core.specs.declared.event.Event.{Event}
use Rattle.narrow_core.specs.declared.event.Event.TheVariants.{Assert, Read, Narrow, Split, Join}
use Rattle.narrow_core.specs.Actor.{ActorState, IsLiveAt, EachLive, fresh, seeing, stating, giving, joining, spent, met_words}
use Rattle.narrow_core.specs.Machine.{CoreState, IsProperFact, IsCore}
use Rattle.narrow_core.specs.Event.{IsAllowed, IsStep}
use Rattle.narrow_core.specs.Bound.{IsWithinFact, IsWithinActor, HasSeenWithin, IsCandidate, Bound}
use Rattle.narrow_core.proofs.Places.{get-set_same, get-set_other, get-more, All-last, All-left, All-right}
use Rattle.narrow_core.proofs.Sights.{facts-mono, edge_between-lt, relation_between-edge, seen-within, seen-keeps, seen-edge, met-within_l, met-within_r, met-keeps, AreSets-network}
use Rattle.narrow_core.proofs.Cores.{same_actor, live_here, live-set, live-more, weights-same, weights-split, weights-join}

-- ---- a step of one actor

-- what a step of one actor leaves: the words and the actor after it
pub record Move (m : Algebra) (n : ℕ) (words after : List ℕ) (a b : ActorState) : Type 0 where
  pub live : b.is_live ≡ a.is_live
  pub weight : b.weight ≡ a.weight
  pub less : Refines after words
  pub sees : Refines words a.seen → Refines after b.seen
  pub sight : Refines b.seen a.seen
  pub facts : (xs : List ℕ) → All (IsWithinFact m n xs) b.mine → All (IsWithinFact m n xs) a.mine
  pub stated : All (IsWithinFact m n after) a.mine → All (IsWithinFact m n after) b.mine
  pub seen_stated : All (IsWithinFact m n b.seen) a.mine → All (IsWithinFact m n b.seen) b.mine
  pub kept : (xs : List ℕ) → IsNetwork m n xs → IsClosed m n xs → Refines xs words → Refines xs a.seen → All (IsWithinFact m n xs) b.mine → Refines xs after

-- the facts of every actor that was live are those of one that is
move-facts : (m : Algebra) (s : CoreState) (words xs : List ℕ) (k : ℕ) (a b : ActorState) → IsLiveAt s.actors k a → Move m s.nodes s.words words a b →
    EachLive (set s.actors k b) (λ x. All (IsWithinFact m s.nodes xs) x.mine) → EachLive s.actors (λ x. All (IsWithinFact m s.nodes xs) x.mine)
move-facts m s words xs k a b l move all j c t = elim (cases_eq j k) [
  | inl same ↦ (let e : a ≡ c = same_actor s.actors k a c l.is_there (subst (λ (i : ℕ). slice_get s.actors i ≡ Some c) same t.is_there) in
      subst (λ (x : ActorState). All (IsWithinFact m s.nodes xs) x.mine) e
      (move.facts xs (all k b (record { is_there = get-set_same s.actors k b (slice_get_within s.actors k a l.is_there); is_live = move.live ∙ l.is_live }))))
  | inr differ ↦ all j c (record { is_there = get-set_other s.actors k j b differ ∙ t.is_there; is_live = t.is_live })
]

pub bound-move : (m : Algebra) (s : CoreState) (words : List ℕ) (k : ℕ) (a b : ActorState) → Bound m s → IsLiveAt s.actors k a → Move m s.nodes s.words words a b →
    Bound m (record s { words = words; actors = set s.actors k b })
bound-move m s words k a b h l move = record {
  nothing_lost = λ xs cand.
      let old : IsCandidate m s xs = record { network = cand.network; closed = cand.closed; opening = cand.opening; facts = move-facts m s words xs k a b l move cand.facts } in
      let w : Refines xs s.words = h.nothing_lost xs old in
      move.kept xs cand.network cand.closed w (Refines-trans xs s.words a.seen w (h.words_within.actors k a l).seen)
      (cand.facts k b (record { is_there = get-set_same s.actors k b (slice_get_within s.actors k a l.is_there); is_live = move.live ∙ l.is_live }));
  words_within = record {
    opening = Refines-trans words s.words s.opening move.less h.words_within.opening;
    actors = live-set s.actors k b (IsWithinActor m s.nodes words)
        (λ t. record {
          seen = move.sees (h.words_within.actors k a l).seen;
          facts = move.stated (facts-mono m s.nodes words s.words a.mine move.less (h.words_within.actors k a l).facts);
        })
        (λ j c d t. record {
          seen = Refines-trans words s.words c.seen move.less (h.words_within.actors j c t).seen;
          facts = facts-mono m s.nodes words s.words c.mine move.less (h.words_within.actors j c t).facts;
        });
  };
  seen_within = live-set s.actors k b (HasSeenWithin m s.nodes s.opening)
      (λ t. record {
        opening = Refines-trans b.seen a.seen s.opening move.sight (h.seen_within k a l).opening;
        facts = move.seen_stated (facts-mono m s.nodes b.seen a.seen a.mine move.sight (h.seen_within k a l).facts);
      })
      (λ j c d t. h.seen_within j c t);
  weights = weights-same s.opening_weight s.actors k a b l.is_there move.live move.weight h.weights;
}

pub move-read : (m : Algebra) (n : ℕ) (words : List ℕ) (e : ℕ) (a : ActorState) → Move m n words words a (seeing e (slice_index words e) a)
move-read m n words e a = record {
  live = refl;
  weight = refl;
  less = Refines-refl words;
  sees = seen-keeps words a.seen e;
  sight = seen-within a.seen e (slice_index words e);
  facts = λ xs h. h;
  stated = λ h. h;
  seen_stated = λ h. h;
  kept = λ xs net closed w seen facts. w;
}

pub move-narrow : (m : Algebra) (n : ℕ) (words after : List ℕ) (i j k e : ℕ) (a : ActorState) → IsCalculus m → IsProperTriple n i j k →
    after ≡ narrowed_at m n words i k (composition m (relation_between m n a.seen i j) (relation_between m n a.seen j k)) → Move m n words after a (seeing e (slice_index after e) a)
move-narrow m n words after i j k e a calculus p eq =
    let x = composition m (relation_between m n a.seen i j) (relation_between m n a.seen j k) in
    let less : Refines after words = subst (λ (y : List ℕ). Refines y words) (sym eq) (narrowed_at-within m n words i k x) in
    record {
      live = refl;
      weight = refl;
      less = less;
      sees = λ h. seen-keeps after a.seen e (Refines-trans after words a.seen less h);
      sight = seen-within a.seen e (slice_index after e);
      facts = λ xs h. h;
      stated = λ h. h;
      seen_stated = λ h. h;
      kept = λ xs net closed w seen facts. subst (Refines xs) (sym eq) (narrow-keeps m n xs words a.seen i j k calculus net closed p w seen);
    }

pub move-assert : (m : Algebra) (n : ℕ) (words after : List ℕ) (fact : Fact) (a : ActorState) → IsCalculus m → IsNetwork m n words → length a.seen ≡ edge_count n →
    IsProperFact n (full_of m) fact → after ≡ narrowed_at m n words fact.i fact.j fact.rel →
    Move m n words after a (seeing (edge_between n fact.i fact.j) (slice_index after (edge_between n fact.i fact.j)) (stating fact a))
move-assert m n words after fact a calculus net l p eq =
    let e = edge_between n fact.i fact.j in
    let x = slice_index after e in
    let less : Refines after words = subst (λ (y : List ℕ). Refines y words) (sym eq) (narrowed_at-within m n words fact.i fact.j fact.rel) in
    let here : IsWithinFact m n after fact =
    subst (λ (y : List ℕ). IsWithin (relation_between m n y fact.i fact.j) fact.rel) (sym eq)
    (rw (relation_between-narrowed_at m n words fact.i fact.j fact.rel calculus net p.pair p.within) (IsWithin-meet_r (relation_between m n words fact.i fact.j) fact.rel)) in
    let below : e < length a.seen = omega (arith, l, edge_between-lt n fact.i fact.j p.pair) in
    let seen = slice_set a.seen e (bit_and (slice_index a.seen e) x) in
    let seen_here : IsWithinFact m n seen fact =
    IsWithin-trans _ _ _ (relation_between-edge m n seen after fact.i fact.j (seen-edge a.seen e x below)) here in
    record {
      live = refl;
      weight = refl;
      less = less;
      sees = λ h. seen-keeps after a.seen e (Refines-trans after words a.seen less h);
      sight = seen-within a.seen e x;
      facts = λ xs h. All-left (IsWithinFact m n xs) a.mine (fact ∷ []) h;
      stated = λ h. All-push (IsWithinFact m n after) a.mine fact h here;
      seen_stated = λ h. All-push (IsWithinFact m n seen) a.mine fact h seen_here;
      kept = λ xs xs_net closed w seen facts.
          subst (Refines xs) (sym eq) (narrowed_at-keeps m n xs words fact.i fact.j fact.rel calculus xs_net w (All-last (IsWithinFact m n xs) a.mine fact facts));
    }

-- ---- a split

split-facts : (m : Algebra) (s : CoreState) (xs : List ℕ) (k left : ℕ) (a : ActorState) → IsLiveAt s.actors k a →
    EachLive (set s.actors k (giving left a) ++ fresh left a.seen ∷ []) (λ x. All (IsWithinFact m s.nodes xs) x.mine) →
    EachLive s.actors (λ x. All (IsWithinFact m s.nodes xs) x.mine)
split-facts m s xs k left a l all j c t = elim (cases_eq j k) [
  | inl same ↦ (let e : a ≡ c = same_actor s.actors k a c l.is_there (subst (λ (i : ℕ). slice_get s.actors i ≡ Some c) same t.is_there) in
      subst (λ (x : ActorState). All (IsWithinFact m s.nodes xs) x.mine) e
      (all k (giving left a) (record {
        is_there = get-more (set s.actors k (giving left a)) (fresh left a.seen ∷ []) k (giving left a)
            (get-set_same s.actors k (giving left a) (slice_get_within s.actors k a l.is_there));
        is_live = l.is_live;
      })))
  | inr differ ↦ all j c (record {
    is_there = get-more (set s.actors k (giving left a)) (fresh left a.seen ∷ []) j c (get-set_other s.actors k j (giving left a) differ ∙ t.is_there);
    is_live = t.is_live;
  })
]

pub bound-split : (m : Algebra) (s : CoreState) (k left : ℕ) (a : ActorState) → Bound m s → IsLiveAt s.actors k a → 0 < left → left < a.weight →
    Bound m (record s { actors = set s.actors k (giving left a) ++ fresh left a.seen ∷ [] })
bound-split m s k left a h l some less =
    let b = giving left a in
    let c = fresh left a.seen in
    let in_words : IsWithinActor m s.nodes s.words a = h.words_within.actors k a l in
    let in_seen : HasSeenWithin m s.nodes s.opening a = h.seen_within k a l in
    record {
      nothing_lost = λ xs cand. h.nothing_lost xs (record {
        network = cand.network;
        closed = cand.closed;
        opening = cand.opening;
        facts = split-facts m s xs k left a l cand.facts;
      });
      words_within = record {
        opening = h.words_within.opening;
        actors = live-more (set s.actors k b) c (IsWithinActor m s.nodes s.words)
            (live-set s.actors k b (IsWithinActor m s.nodes s.words) (λ t. record { seen = in_words.seen; facts = in_words.facts }) (λ j x d t. h.words_within.actors j x t))
            (record { seen = in_words.seen; facts = All-nil (IsWithinFact m s.nodes s.words) });
      };
      seen_within = live-more (set s.actors k b) c (HasSeenWithin m s.nodes s.opening)
          (live-set s.actors k b (HasSeenWithin m s.nodes s.opening) (λ t. record { opening = in_seen.opening; facts = in_seen.facts }) (λ j x d t. h.seen_within j x t))
          (record { opening = in_seen.opening; facts = All-nil (IsWithinFact m s.nodes a.seen) });
      weights = weights-split s.opening_weight s.actors k left a a.seen l some less h.weights;
    }

-- ---- a join

join-facts : (m : Algebra) (s : CoreState) (xs : List ℕ) (k l : ℕ) (a b z : ActorState) → k ≢ l → IsLiveAt s.actors k a → IsLiveAt s.actors l b →
    EachLive (set (set s.actors k (joining a b)) l z) (λ x. All (IsWithinFact m s.nodes xs) x.mine) →
    EachLive s.actors (λ x. All (IsWithinFact m s.nodes xs) x.mine)
join-facts m s xs k l a b z d p q all j c t =
    let P : ActorState → Type 0 = λ x. All (IsWithinFact m s.nodes xs) x.mine in
    let joined : All (IsWithinFact m s.nodes xs) (a.mine ++ b.mine) = all k (joining a b) (record {
      is_there = get-set_other (set s.actors k (joining a b)) l k z d ∙ get-set_same s.actors k (joining a b) (slice_get_within s.actors k a p.is_there);
      is_live = p.is_live;
    }) in
    elim (cases_eq j k) [
      | inl same ↦ (let e : a ≡ c = same_actor s.actors k a c p.is_there (subst (λ (i : ℕ). slice_get s.actors i ≡ Some c) same t.is_there) in
          subst P e (All-left (IsWithinFact m s.nodes xs) a.mine b.mine joined))
      | inr differ ↦ elim (cases_eq j l) [
        | inl same ↦ (let e : b ≡ c = same_actor s.actors l b c q.is_there (subst (λ (i : ℕ). slice_get s.actors i ≡ Some c) same t.is_there) in
            subst P e (All-right (IsWithinFact m s.nodes xs) a.mine b.mine joined))
        | inr other ↦ all j c (record {
          is_there = get-set_other (set s.actors k (joining a b)) l j z other ∙ get-set_other s.actors k j (joining a b) differ ∙ t.is_there;
          is_live = t.is_live;
        })
      ]
    ]

-- whatever is left of the second actor, if it isn't live
pub bound-join : (m : Algebra) (s : CoreState) (k l : ℕ) (a b z : ActorState) → Bound m s → k ≢ l → IsLiveAt s.actors k a → IsLiveAt s.actors l b → z.is_live ≡ false →
    Bound m (record s { actors = set (set s.actors k (joining a b)) l z })
bound-join m s k l a b z h d p q dead =
    let n = s.nodes in
    let seen = met_words a.seen b.seen in
    let actors = set s.actors k (joining a b) in
    let a_words : IsWithinActor m n s.words a = h.words_within.actors k a p in
    let b_words : IsWithinActor m n s.words b = h.words_within.actors l b q in
    let a_seen : HasSeenWithin m n s.opening a = h.seen_within k a p in
    let b_seen : HasSeenWithin m n s.opening b = h.seen_within l b q in
    record {
      nothing_lost = λ xs cand. h.nothing_lost xs (record {
        network = cand.network;
        closed = cand.closed;
        opening = cand.opening;
        facts = join-facts m s xs k l a b z d p q cand.facts;
      });
      words_within = record {
        opening = h.words_within.opening;
        actors = live-set actors l z (IsWithinActor m n s.words) (λ t. absurd (cc))
            (λ j x e t. live-set s.actors k (joining a b) (IsWithinActor m n s.words)
            (λ u. record {
              seen = met-keeps s.words a.seen b.seen a_words.seen b_words.seen;
              facts = All-append (IsWithinFact m n s.words) a.mine b.mine a_words.facts b_words.facts;
            })
            (λ i y f u. h.words_within.actors i y u) j x t);
      };
      seen_within = live-set actors l z (HasSeenWithin m n s.opening) (λ t. absurd (cc))
          (λ j x e t. live-set s.actors k (joining a b) (HasSeenWithin m n s.opening)
          (λ u. record {
            opening = Refines-trans seen a.seen s.opening (met-within_l a.seen b.seen) a_seen.opening;
            facts = All-append (IsWithinFact m n seen) a.mine b.mine
                (facts-mono m n seen a.seen a.mine (met-within_l a.seen b.seen) a_seen.facts)
                (facts-mono m n seen b.seen b.mine (met-within_r a.seen b.seen) b_seen.facts);
          })
          (λ i y f u. h.seen_within i y u) j x t);
      weights = weights-join s.opening_weight s.actors k l a b z d p q dead h.weights;
    }

-- ---- every event

pub full-fact : (m : Algebra) (n full : ℕ) (fact : Fact) → full ≡ full_of m → IsProperFact n full fact → IsProperFact n (full_of m) fact
full-fact m n full fact e p = record { pair = p.pair; within = subst (IsWithin fact.rel) e p.within }

-- every allowed event keeps the bound
pub bound-step : (m : Algebra) (e : Event) (s t : CoreState) → IsCalculus m → s.full ≡ full_of m → IsCore s → IsAllowed s e → IsStep m e s t → Bound m s → Bound m t
bound-step m (Assert k fact) s t calculus full core may step h =
    let a = step.actor in
    let e = edge_between s.nodes fact.i fact.j in
    subst (Bound m) (sym step.after) (bound-move m s step.words k a (seeing e (slice_index step.words e) (stating fact a)) h (live_here s k a may.live step.is_there)
    (move-assert m s.nodes s.words step.words fact a calculus (AreSets-network m s.nodes s.full s.words full core.words) (core.actors k a (live_here s k a may.live step.is_there)).seen.length_is
    (full-fact m s.nodes s.full fact full may.proper) step.words_is))
bound-step m (Read k e) s t calculus full core may step h =
    let a = step.actor in
    subst (Bound m) (sym step.after) (bound-move m s s.words k a (seeing e (slice_index s.words e) a) h (live_here s k a may.live step.is_there)
    (move-read m s.nodes s.words e a))
bound-step m (Narrow k i j l) s t calculus full core may step h =
    let a = step.actor in
    let e = edge_between s.nodes i l in
    subst (Bound m) (sym step.after) (bound-move m s step.words k a (seeing e (slice_index step.words e) a) h (live_here s k a may.live step.is_there)
    (move-narrow m s.nodes s.words step.words i j l e a calculus may.proper step.words_is))
bound-step m (Split k left) s t calculus full core may step h =
    let a = step.actor in
    let same : may.live.actor ≡ a = same_actor s.actors k may.live.actor a may.live.live.is_there step.is_there in
    let live : IsLiveAt s.actors k a = record { is_there = step.is_there; is_live = subst (λ (x : ActorState). IsTrue x.is_live) same may.live.live.is_live } in
    let less : left < a.weight = subst (λ (x : ActorState). left < x.weight) same may.live.more in
    subst (Bound m) (sym step.after) (bound-split m s k left a h live may.some less)
bound-step m (Join k l) s t calculus full core may step h =
    subst (Bound m) (sym step.after) (bound-join m s k l step.actor step.other (spent step.other) h may.differ
    (live_here s k step.actor may.live step.is_there) (live_here s l step.other may.other_live step.other_there) refl)

-- the same for an event that is known to be another
pub bound-step_at : (m : Algebra) (e d : Event) (s t : CoreState) → e ≡ d → IsCalculus m → s.full ≡ full_of m → IsCore s → IsAllowed s e → IsStep m d s t → Bound m s → Bound m t
bound-step_at m e d s t same calculus full core may step = bound-step m d s t calculus full core (subst (IsAllowed s) same may) step

pub step_at : (m : Algebra) (e d : Event) (s t : CoreState) → e ≡ d → IsStep m d s t → IsStep m e s t
step_at m e d s t same step = subst (λ (x : Event). IsStep m x s t) (sym same) step
