-- Passes after a step: they stay passes, and what they have seen.
use Rattle.std.proofs.Common.{◌≡◌, ◌≢◌, ◌↔◌, ℕ, ◌+◌, ◌<◌, ◌≤◌, Bool, true, false, cond, ◌||◌, List, length, refl, sym, ◌∙◌, ap, subst, arith, inl, inr}
use Rattle.std.specs.Prelude.{bit_and, slice_index, slice_set, nat_lt, sum, IsTrue}
use Rattle.std.proofs.lemmas.Bool.{cases_Bool, cases_lt, cases_eq, lt-ltb, le-ltb, or_cases, false≢true}
use Rattle.std.proofs.lemmas.List.{length-set, get_or-set_same, get_or-set_other, set-get_or}
use Rattle.std.proofs.lemmas.Grind.{same_number_lists}
use Rattle.atomic_table.specs.Table.{Me}
use Rattle.atomic_table.specs.Seated.{TableId}
use Rattle.calculus_table.specs.Rel.{IsWithin}
use Rattle.calculus_table.specs.Algebra.{Algebra}
use Rattle.calculus_table.specs.Composition.{full_of, composition, converse}
use Rattle.calculus_table.proofs.Compositions.{converse-mono, converse-converse}
use Rattle.calculus_table.specs.Calculus.{IsCalculus}
use Rattle.network_words.specs.declared.fact.Fact.{Fact}
use Rattle.network_words.specs.Edge.{edge_count, edge_at, edge_between, IsSamePair, IsProperPair, IsProperTriple}
use Rattle.network_words.specs.Closure.{IsClosedAt}
use Rattle.network_words.specs.Network.{IsNetwork, Refines, relation_between, oriented}
use Rattle.network_words.proofs.Networks.{Refines-refl, Refines-trans, relation_between-mono}
use Rattle.network_words.proofs.Pairs.{pair-first, pair-second, pair-outer, pair-from_edge}
use Rattle.network_words.proofs.Refinements.{relation_between-same, sum-refines, sum-smaller}
use Rattle.narrow_core.specs.Actor.{ActorState, seeing, stating}
use Rattle.narrow_core.specs.Machine.{IsProperFact, IsProperActor}
use Rattle.narrow_core.proofs.Cores.{proper-seeing, proper-stating, proper-joining}
use Rattle.narrow_core.proofs.Sights.{AreSets-network, seen-within}
use Rattle.edge_table.specs.Opening.{OpenState, PassState, IsPassOf, IsPass, algebra_of}
use Rattle.edge_table.specs.declared.rule.Opening.{Opening}
use Rattle.edge_table.specs.declared.sight.Sight.{Sight}
use Rattle.edge_table.specs.Rule.{States, uniting}
use Rattle.edge_table.specs.Passes.{seen_between, Reads, Narrows, ReadsAndNarrows, ReadsSome, ReadsAll, GoesOn}

-- ---- a pass stays a pass

-- what contracts see of a pass whose seat has this view
abbrev pub pass_of : TableId → ℕ → ℕ → Sight → PassState
pass_of id nodes full v = record { id = id; nodes = nodes; full = full; actor = v.actor; loads = v.loads; fetch_ands = v.fetch_ands }

pub IsPass-sees : (weight nodes full : ℕ) (id id' : TableId) (v w : Me ℕ Sight) (e x : ℕ) → IsPass weight v.1 (pass_of id nodes full v.0) → w.0.actor ≡ seeing e x v.0.actor → w.1 ≡ v.1 →
    IsPass weight w.1 (pass_of id' nodes full w.0)
IsPass-sees weight nodes full id id' v w e x p after carries = record {
  carries = carries ∙ p.carries;
  live = subst (λ (a : ActorState). IsTrue a.is_live) (sym after) p.live;
  weighs = subst (λ (a : ActorState). weight ≡ a.weight) (sym after) p.weighs;
  proper = subst (IsProperActor nodes full) (sym after) (proper-seeing nodes full e x v.0.actor p.proper);
}

pub IsPass-states : (weight nodes full : ℕ) (id id' : TableId) (v w : Me ℕ Sight) (fact : Fact) (e x : ℕ) → IsProperFact nodes full fact → IsPass weight v.1 (pass_of id nodes full v.0) →
    States fact e x v w → IsPass weight w.1 (pass_of id' nodes full w.0)
IsPass-states weight nodes full id id' v w fact e x f p s =
    let after : w.0.actor ≡ seeing e x (stating fact v.0.actor) = ap (λ (u : Sight). u.actor) s.after in
    record {
      carries = s.carries ∙ p.carries;
      live = subst (λ (a : ActorState). IsTrue a.is_live) (sym after) p.live;
      weighs = subst (λ (a : ActorState). weight ≡ a.weight) (sym after) p.weighs;
      proper = subst (IsProperActor nodes full) (sym after) (proper-seeing nodes full e x (stating fact v.0.actor) (proper-stating nodes full fact v.0.actor p.proper f));
    }

-- what a proper actor has seen is a network
pub seen-network : (m : Algebra) (nodes full : ℕ) (a : ActorState) → full ≡ full_of m → IsProperActor nodes full a → IsNetwork m nodes a.seen
seen-network m nodes full a e p = AreSets-network m nodes full a.seen e p.seen

-- ---- what a pass has seen of a pair

-- the word of the edge, or its converse where the pair is the other way round
pub relation_between-oriented : (m : Algebra) (n : ℕ) (words : List ℕ) (i j : ℕ) → relation_between m n words i j ≡ oriented m i j (slice_index words (edge_between n i j))
relation_between-oriented m n words i j =
    elim (nat_lt i j) as (λ t. cond t (slice_index words (edge_at n i j)) (converse m (slice_index words (edge_at n j i)))
    ≡ cond t (slice_index words (cond t (edge_at n i j) (edge_at n j i))) (converse m (slice_index words (cond t (edge_at n i j) (edge_at n j i))))) [
      | true ↦ refl
      | false ↦ refl
    ]

-- what was shown of the edge
pub relation_between-shown : (m : Algebra) (n : ℕ) (words : List ℕ) (i j x : ℕ) → slice_index words (edge_between n i j) ≡ x → relation_between m n words i j ≡ oriented m i j x
relation_between-shown m n words i j x e = relation_between-oriented m n words i j ∙ ap (oriented m i j) e

-- what has been seen only becomes less
pub seen-less : (m : Algebra) (n : ℕ) (seen : List ℕ) (e x i j : ℕ) →
    IsWithin (relation_between m n (slice_set seen e (bit_and (slice_index seen e) x)) i j) (relation_between m n seen i j)
seen-less m n seen e x i j = relation_between-mono m n (slice_set seen e (bit_and (slice_index seen e) x)) seen i j (seen-within seen e x)

-- what is within a set as the edge has it is within the set, as the pair has it
pub oriented-within : (m : Algebra) (i j x y : ℕ) → IsCalculus m → IsWithin x (full_of m) → IsWithin y (oriented m i j x) → IsWithin (oriented m i j y) x
oriented-within m i j x y c f w = elim (cases_lt i j) [
  | inl h ↦ rw (ap (λ t. cond t y (converse m y)) (lt-ltb i j h)) (rw (ap (λ t. cond t x (converse m x)) (lt-ltb i j h)) at w)
  | inr h ↦ rw (ap (λ t. cond t y (converse m y)) (le-ltb i j h))
      (subst (IsWithin (converse m y)) (converse-converse m x c f) (converse-mono m _ _ (rw (ap (λ t. cond t x (converse m x)) (le-ltb i j h)) at w)))
]

-- a fact that is proper for the table is proper for its pass
pub proper-pass : (nodes full : ℕ) (o : Opening) (fact : Fact) → nodes ≡ o.nodes → full ≡ full_of (algebra_of o) → IsProperFact o.nodes (full_of (algebra_of o)) fact → IsProperFact nodes full fact
proper-pass nodes full o fact p q h = subst (λ n. IsProperFact n full fact) (sym p) (subst (λ f. IsProperFact o.nodes f fact) (sym q) h)

-- the operand of a narrowing, as the table's own calculus and nodes have it
pub operand-of : (m m' : Algebra) (n n' : ℕ) (seen : List ℕ) (i j k along y z : ℕ) → m ≡ m' → n ≡ n' → along ≡ composition m (relation_between m n seen i j) (relation_between m n seen j k) →
    z ≡ oriented m i k along → y ≡ z → y ≡ oriented m' i k (composition m' (relation_between m' n' seen i j) (relation_between m' n' seen j k))
operand-of m m' n n' seen i j k along y z p q a r s =
    let F : Algebra → ℕ → ℕ = λ b x. oriented b i k (composition b (relation_between b x seen i j) (relation_between b x seen j k)) in
    let here : y ≡ F m n = s ∙ r ∙ ap (oriented m i k) a in
    here ∙ ap (λ (b : Algebra). F b n) p ∙ ap (F m') q

-- ---- a pair that is not the one seen

pub seen-apart : (m : Algebra) (n : ℕ) (seen : List ℕ) (a b p q x : ℕ) → IsProperPair n a b → IsProperPair n p q → ¬ IsSamePair a b p q →
    relation_between m n (slice_set seen (edge_between n p q) (bit_and (slice_index seen (edge_between n p q)) x)) a b ≡ relation_between m n seen a b
seen-apart m n seen a b p q x ab pq apart =
    let e = edge_between n p q in
    relation_between-same m n (slice_set seen e (bit_and (slice_index seen e) x)) seen a b
    (get_or-set_other seen e (edge_between n a b) (bit_and (slice_index seen e) x) 0 (λ same. apart (pair-from_edge n a b p q ab pq same)))

-- (i, j) and (j, k) are neither (i, k) nor each other
first-apart : (n i j k : ℕ) → IsProperTriple n i j k → ¬ IsSamePair i j i k
first-apart n i j k t s = elim s [ inl u ↦ t.second_third u.1 | inr u ↦ t.first_third u.0 ]

second-apart : (n i j k : ℕ) → IsProperTriple n i j k → ¬ IsSamePair j k i k
second-apart n i j k t s = elim s [ inl u ↦ t.first_second (sym u.0) | inr u ↦ t.second_third u.0 ]

neighbours-apart : (n i j k : ℕ) → IsProperTriple n i j k → ¬ IsSamePair i j j k
neighbours-apart n i j k t s = elim s [ inl u ↦ t.first_second u.0 | inr u ↦ t.first_third u.0 ]

-- ---- passes after an event

pub Reads-less : (m : Algebra) (e i j : ℕ) (old new : PassState) → Reads e old new → IsWithin (seen_between m new i j) (seen_between m old i j)
Reads-less m e i j old new r =
    subst (λ (p : PassState). IsWithin (seen_between m p i j) (seen_between m old i j)) (sym r.after) (seen-less m old.nodes old.actor.seen e r.word i j)

-- reading (j, k) leaves what was seen of (i, j)
pub Reads-apart : (m : Algebra) (e i j k : ℕ) (old new : PassState) → IsProperTriple old.nodes i j k → e ≡ edge_between old.nodes j k → Reads e old new →
    seen_between m new i j ≡ seen_between m old i j
Reads-apart m e i j k old new t edge reads =
    let r : Reads (edge_between old.nodes j k) old new = subst (λ d. Reads d old new) edge reads in
    ap (λ (p : PassState). seen_between m p i j) r.after
    ∙ seen-apart m old.nodes old.actor.seen i j j k r.word (pair-first old.nodes i j k t) (pair-second old.nodes i j k t) (neighbours-apart old.nodes i j k t)

pub Narrows-less : (m : Algebra) (i j k a b : ℕ) (old new : PassState) → Narrows m i j k old new → IsWithin (seen_between m new a b) (seen_between m old a b)
Narrows-less m i j k a b old new r =
    let x = bit_and r.word (oriented m i k (composition m (seen_between m old i j) (seen_between m old j k))) in
    subst (λ (p : PassState). IsWithin (seen_between m p a b) (seen_between m old a b)) (sym r.after) (seen-less m old.nodes old.actor.seen (edge_between old.nodes i k) x a b)

-- nodes and the rest stay
pub Narrows-nodes : (m : Algebra) (i j k : ℕ) (old new : PassState) → Narrows m i j k old new → new.nodes ≡ old.nodes
Narrows-nodes m i j k old new r = ap (λ (p : PassState). p.nodes) r.after

-- narrowing (i, k) leaves what was seen of (i, j) and of (j, k)
Narrows-along : (m : Algebra) (i j k : ℕ) (old new : PassState) → IsProperTriple old.nodes i j k → Narrows m i j k old new →
    composition m (seen_between m new i j) (seen_between m new j k) ≡ composition m (seen_between m old i j) (seen_between m old j k)
Narrows-along m i j k old new t r =
    let n = old.nodes in
    let x = bit_and r.word (oriented m i k (composition m (seen_between m old i j) (seen_between m old j k))) in
    let ik = pair-outer n i j k t in
    let first : seen_between m new i j ≡ seen_between m old i j =
    ap (λ (p : PassState). seen_between m p i j) r.after ∙ seen-apart m n old.actor.seen i j i k x (pair-first n i j k t) ik (first-apart n i j k t) in
    let second : seen_between m new j k ≡ seen_between m old j k =
    ap (λ (p : PassState). seen_between m p j k) r.after ∙ seen-apart m n old.actor.seen j k i k x (pair-second n i j k t) ik (second-apart n i j k t) in
    ap (λ y. composition m y (seen_between m new j k)) first ∙ ap (composition m (seen_between m old i j)) second

-- what the pass has then seen of (i, k) is within the composition of what it has seen along j
pub Narrows-closed : (m : Algebra) (n i j k along word : ℕ) (old new : PassState) → IsCalculus m → IsProperTriple n i j k → old.nodes ≡ n → Narrows m i j k old new →
    along ≡ composition m (seen_between m old i j) (seen_between m old j k) → IsWithin along (full_of m) → slice_index new.actor.seen (edge_between n i k) ≡ word →
    IsWithin word (oriented m i k along) → IsClosedAt m new.nodes new.actor.seen i j k
Narrows-closed m n i j k along word old new c t' nodes r a full shown' w =
    let t : IsProperTriple old.nodes i j k = subst (λ x. IsProperTriple x i j k) (sym nodes) t' in
    let same : new.nodes ≡ n = Narrows-nodes m i j k old new r ∙ nodes in
    let shown : slice_index new.actor.seen (edge_between new.nodes i k) ≡ word = subst (λ x. slice_index new.actor.seen (edge_between x i k) ≡ word) (sym same) shown' in
    let here : seen_between m new i k ≡ oriented m i k word = relation_between-shown m new.nodes new.actor.seen i k word shown in
    let there : along ≡ composition m (seen_between m new i j) (seen_between m new j k) = a ∙ sym (Narrows-along m i j k old new t r) in
    subst (λ x. IsWithin x (composition m (seen_between m new i j) (seen_between m new j k))) (sym here)
    (subst (IsWithin (oriented m i k word)) there (oriented-within m i k along word c full w))

-- ---- sets as edges have them

pub oriented-injective : (m : Algebra) (i j x y : ℕ) → IsCalculus m → IsWithin x (full_of m) → IsWithin y (full_of m) → oriented m i j x ≡ oriented m i j y → x ≡ y
oriented-injective m i j x y c p q e = elim (cases_lt i j) [
  | inl h ↦ sym (ap (λ t. cond t x (converse m x)) (lt-ltb i j h)) ∙ e ∙ ap (λ t. cond t y (converse m y)) (lt-ltb i j h)
  | inr h ↦ (let converses : converse m x ≡ converse m y = sym (ap (λ t. cond t x (converse m x)) (le-ltb i j h)) ∙ e ∙ ap (λ t. cond t y (converse m y)) (le-ltb i j h) in
      sym (converse-converse m x c p) ∙ ap (converse m) converses ∙ converse-converse m y c q)
]

-- another word is another relation
pub changed-relation : (m : Algebra) (n i k word : ℕ) (seen seen' : List ℕ) (result : Bool) → IsCalculus m → IsNetwork m n seen → IsWithin word (full_of m) →
    slice_index seen' (edge_between n i k) ≡ word → IsTrue result ↔ (word ≢ slice_index seen (edge_between n i k)) →
    IsTrue result ↔ (relation_between m n seen' i k ≢ relation_between m n seen i k)
changed-relation m n i k word seen seen' result c net full shown changed =
    let was = slice_index seen (edge_between n i k) in
    let new : relation_between m n seen' i k ≡ oriented m i k word = relation_between-shown m n seen' i k word shown in
    let old : relation_between m n seen i k ≡ oriented m i k was = relation_between-oriented m n seen i k in (
      λ h e. changed.0 h (oriented-injective m i k word was c full (net.within (edge_between n i k)) (sym new ∙ e ∙ old)),
      λ h. changed.1 (λ e. h (new ∙ ap (oriented m i k) e ∙ sym old)),
    )

-- ---- what a call returns

-- a word that was shown, as the pair has it
pub shown-relation : (m : Algebra) (n n' e i j x y z : ℕ) (seen : List ℕ) → e ≡ edge_between n' i j → n ≡ n' → slice_index seen e ≡ x → z ≡ x → y ≡ oriented m i j z → y ≡ relation_between m n seen i j
shown-relation m n n' e i j x y z seen edge nodes shown same as_pair =
    let at : slice_index seen (edge_between n i j) ≡ x = subst (λ k. slice_index seen (edge_between k i j) ≡ x) (sym nodes) (subst (λ d. slice_index seen d ≡ x) edge shown) in
    as_pair ∙ ap (oriented m i j) same ∙ sym (relation_between-shown m n seen i j x at)

-- a word that is within a set as the edge has it is within the set, as the pair has it
pub relation-within : (m : Algebra) (n n' e i j x y : ℕ) (seen : List ℕ) → IsCalculus m → IsWithin x (full_of m) → e ≡ edge_between n' i j → n ≡ n' → y ≡ oriented m i j x →
    IsWithin (slice_index seen e) y → IsWithin (relation_between m n seen i j) x
relation-within m n n' e i j x y seen c full edge nodes as_edge w =
    let same : e ≡ edge_between n i j = edge ∙ ap (λ k. edge_between k i j) (sym nodes) in
    let at : IsWithin (slice_index seen (edge_between n i j)) (oriented m i j x) = subst (λ d. IsWithin (slice_index seen d) (oriented m i j x)) same (subst (IsWithin (slice_index seen e)) as_edge w) in
    subst (λ z. IsWithin z x) (sym (relation_between-oriented m n seen i j)) (oriented-within m i j x (slice_index seen (edge_between n i j)) c full at)

-- two passes joined
pub IsPass-joined : (wa wb nodes full nodes' full' : ℕ) (id id' id'' : TableId) (a b v : Me ℕ Sight) → IsPass wa a.1 (pass_of id nodes full a.0) → IsPass wb b.1 (pass_of id' nodes' full' b.0) →
    nodes' ≡ nodes → full' ≡ full → v ≡ (let w : Me ℕ Sight = (uniting a.0 b.0, a.1) in w) → IsPass (wa + wb) v.1 (pass_of id'' nodes full v.0)
IsPass-joined wa wb nodes full nodes' full' id id' id'' a b v p q n f e = record {
  carries = ap (λ (w : Me ℕ Sight). w.1) e ∙ p.carries;
  live = subst (λ (w : Me ℕ Sight). IsTrue w.0.actor.is_live) (sym e) p.live;
  weighs = let both : wa + wb ≡ a.0.actor.weight + b.0.actor.weight = cc (p.weighs, q.weighs) in subst (λ (w : Me ℕ Sight). wa + wb ≡ w.0.actor.weight) (sym e) both;
  proper = subst (λ (w : Me ℕ Sight). IsProperActor nodes full w.0.actor) (sym e)
      (proper-joining nodes full a.0.actor b.0.actor p.proper (subst (λ x. IsProperActor x full b.0.actor) n (subst (λ y. IsProperActor nodes' y b.0.actor) f q.proper)));
}

-- what is composed after two reads is what the pass has then seen along the way
pub along-read : (m : Algebra) (n i j k first second x : ℕ) (p q : PassState) → p.nodes ≡ n → IsProperTriple n i j k → Reads (edge_between n j k) p q → first ≡ seen_between m p i j →
    second ≡ seen_between m q j k → x ≡ composition m first second → x ≡ composition m (seen_between m q i j) (seen_between m q j k)
along-read m n i j k first second x p q nodes t reads a b e =
    let triple : IsProperTriple p.nodes i j k = subst (λ y. IsProperTriple y i j k) (sym nodes) t in
    let edge : edge_between n j k ≡ edge_between p.nodes j k = ap (λ y. edge_between y j k) (sym nodes) in
    let apart : seen_between m q i j ≡ seen_between m p i j = Reads-apart m (edge_between n j k) i j k p q triple edge reads in
    e ∙ ap (λ y. composition m y second) (a ∙ sym apart) ∙ ap (composition m (seen_between m q i j)) b

-- another word in the snapshot is another relation that the pass has seen
pub changed-pass : (m : Algebra) (n i k e word : ℕ) (old new : PassState) (snap : List ℕ) (result : Bool) → IsCalculus m → old.nodes ≡ n → new.nodes ≡ n → IsNetwork m old.nodes old.actor.seen →
    IsWithin word (full_of m) → slice_index new.actor.seen (edge_between n i k) ≡ word → e ≡ edge_between n i k → snap ≡ old.actor.seen → IsTrue result ↔ (word ≢ slice_index snap e) →
    IsTrue result ↔ (seen_between m new i k ≢ seen_between m old i k)
changed-pass m n i k e word old new snap result c p q net full shown edge same changed =
    let here : slice_index snap e ≡ slice_index old.actor.seen (edge_between n i k) = ap (λ (ws : List ℕ). slice_index ws e) same ∙ ap (slice_index old.actor.seen) edge in
    let all = changed-relation m n i k word old.actor.seen new.actor.seen result c (subst (λ x. IsNetwork m x old.actor.seen) p net) full shown
    (λ h d. changed.0 h (d ∙ sym here), λ h. changed.1 (λ d. h (d ∙ here))) in
    let now : relation_between m new.nodes new.actor.seen i k ≡ relation_between m n new.actor.seen i k = ap (λ x. relation_between m x new.actor.seen i k) q in
    let was : relation_between m old.nodes old.actor.seen i k ≡ relation_between m n old.actor.seen i k = ap (λ x. relation_between m x old.actor.seen i k) p in
    (λ h d. all.0 h (sym now ∙ d ∙ was), λ h. all.1 (λ d. h (now ∙ d ∙ sym was)))

-- what is composed from a snapshot is what the pass has seen along the way
pub along-snap : (m : Algebra) (n n' i j k x : ℕ) (snap seen : List ℕ) → n ≡ n' → snap ≡ seen → x ≡ composition m (relation_between m n snap i j) (relation_between m n snap j k) →
    x ≡ composition m (relation_between m n' seen i j) (relation_between m n' seen j k)
along-snap m n n' i j k x snap seen p q e =
    let F : ℕ → List ℕ → ℕ = λ y ws. composition m (relation_between m y ws i j) (relation_between m y ws j k) in
    e ∙ ap (λ y. F y snap) p ∙ ap (F n') q

-- ---- loads, one after another

-- no load
pub ReadsSome-none : (pass : PassState) → ReadsSome 0 pass pass
ReadsSome-none pass =
    let same : pass.loads ≡ pass.loads + 0 = omega arith in
    record { rest = ap (λ n. let p : PassState = record pass { loads = n } in p) same; length_is = refl; within = Refines-refl pass.actor.seen }

-- one more load
pub ReadsSome-more : (count e word : ℕ) (old pass next : PassState) → ReadsSome count old pass → next ≡ record pass { actor = seeing e word pass.actor; loads = pass.loads + 1 } →
    ReadsSome (count + 1) old next
ReadsSome-more count e word old pass next h eq =
    let x = bit_and (slice_index pass.actor.seen e) word in
    let seen : next.actor.seen ≡ slice_set pass.actor.seen e x = ap (λ (p : PassState). p.actor.seen) eq in
    let F : PassState → PassState = λ p. record p { actor = seeing e word p.actor; loads = p.loads + 1 } in
    let all : next ≡ record old { actor = record old.actor { seen = slice_set pass.actor.seen e x }; loads = old.loads + count + 1 } = eq ∙ ap F h.rest in
    let counted : old.loads + count + 1 ≡ old.loads + (count + 1) = omega arith in
    record {
      rest = all
          ∙ ap (λ (ws : List ℕ). let p : PassState = record old { actor = record old.actor { seen = ws }; loads = old.loads + count + 1 } in p) (sym seen)
          ∙ ap (λ n. let p : PassState = record old { actor = record old.actor { seen = next.actor.seen }; loads = n } in p) counted;
      length_is = ap length seen ∙ length-set pass.actor.seen e x ∙ h.length_is;
      within = subst (λ (ws : List ℕ). Refines ws old.actor.seen) (sym seen) (Refines-trans (slice_set pass.actor.seen e x) pass.actor.seen old.actor.seen (seen-within pass.actor.seen e word) h.within);
    }

-- a read is one load
pub ReadsSome-read : (e : ℕ) (old new : PassState) → Reads e old new → ReadsSome 1 old new
ReadsSome-read e old new r =
    let one : 0 + 1 ≡ 1 = omega arith in
    subst (λ n. ReadsSome n old new) one (ReadsSome-more 0 e r.word old old new (ReadsSome-none old) r.after)

-- the same number, told otherwise
pub ReadsSome-same : (count count' : ℕ) (old new : PassState) → count ≡ count' → ReadsSome count old new → ReadsSome count' old new
ReadsSome-same count count' old new e = subst (λ n. ReadsSome n old new) e

-- loads after loads
pub ReadsSome-trans : (count count' : ℕ) (old mid new : PassState) → ReadsSome count old mid → ReadsSome count' mid new → ReadsSome (count + count') old new
ReadsSome-trans count count' old mid new p q =
    let F : PassState → PassState = λ x. record x { actor = record x.actor { seen = new.actor.seen }; loads = x.loads + count' } in
    let counted : old.loads + count + count' ≡ old.loads + (count + count') = omega arith in
    record {
      rest = q.rest ∙ ap F p.rest ∙ ap (λ n. let x : PassState = record old { actor = record old.actor { seen = new.actor.seen }; loads = n } in x) counted;
      length_is = q.length_is ∙ p.length_is;
      within = Refines-trans new.actor.seen mid.actor.seen old.actor.seen q.within p.within;
    }

-- ---- passes that go on

pub GoesOn-refl : (pass : PassState) → GoesOn pass pass
GoesOn-refl pass = record {
  id = refl;
  nodes = refl;
  full = refl;
  live = refl;
  weight = refl;
  facts = refl;
  length_is = refl;
  within = Refines-refl pass.actor.seen;
  loads = omega arith;
  fetch_ands = omega arith;
}

-- a pass that goes on stays with its table
pub IsPassOf-goes_on : (table : OpenState) (old new : PassState) → IsPassOf table old → GoesOn old new → IsPassOf table new
IsPassOf-goes_on table old new p g = record { id = g.id ∙ p.id; nodes = g.nodes ∙ p.nodes; full = g.full ∙ p.full }

pub GoesOn-trans : (a b c : PassState) → GoesOn a b → GoesOn b c → GoesOn a c
GoesOn-trans a b c p q =
    let first_loads : a.loads ≤ b.loads = p.loads in
    let second_loads : b.loads ≤ c.loads = q.loads in
    let first_ands : a.fetch_ands ≤ b.fetch_ands = p.fetch_ands in
    let second_ands : b.fetch_ands ≤ c.fetch_ands = q.fetch_ands in
    record {
      id = q.id ∙ p.id;
      nodes = q.nodes ∙ p.nodes;
      full = q.full ∙ p.full;
      live = q.live ∙ p.live;
      weight = q.weight ∙ p.weight;
      facts = q.facts ∙ p.facts;
      length_is = q.length_is ∙ p.length_is;
      within = Refines-trans c.actor.seen b.actor.seen a.actor.seen q.within p.within;
      loads = omega (arith, first_loads, second_loads);
      fetch_ands = omega (arith, first_ands, second_ands);
    }

pub GoesOn-reads_some : (count : ℕ) (old new : PassState) → ReadsSome count old new → GoesOn old new
GoesOn-reads_some count old new r =
    let loads : new.loads ≡ old.loads + count = ap (λ (p : PassState). p.loads) r.rest in
    let fetch_ands : new.fetch_ands ≡ old.fetch_ands = ap (λ (p : PassState). p.fetch_ands) r.rest in
    record {
      id = ap (λ (p : PassState). p.id) r.rest;
      nodes = ap (λ (p : PassState). p.nodes) r.rest;
      full = ap (λ (p : PassState). p.full) r.rest;
      live = ap (λ (p : PassState). p.actor.is_live) r.rest;
      weight = ap (λ (p : PassState). p.actor.weight) r.rest;
      facts = ap (λ (p : PassState). p.actor.mine) r.rest;
      length_is = r.length_is;
      within = r.within;
      loads = omega (arith, loads);
      fetch_ands = omega (arith, fetch_ands);
    }

pub GoesOn-reads_all : (old new : PassState) → ReadsAll old new → GoesOn old new
GoesOn-reads_all old new r = GoesOn-reads_some (edge_count old.nodes) old new r

pub GoesOn-reads : (e : ℕ) (old new : PassState) → Reads e old new → GoesOn old new
GoesOn-reads e old new r = GoesOn-reads_some 1 old new (ReadsSome-read e old new r)

pub GoesOn-narrows : (m : Algebra) (i j k : ℕ) (old new : PassState) → Narrows m i j k old new → GoesOn old new
GoesOn-narrows m i j k old new r =
    let e = edge_between old.nodes i k in
    let y = bit_and r.word (oriented m i k (composition m (seen_between m old i j) (seen_between m old j k))) in
    subst (GoesOn old) (sym r.after) (record {
      id = refl;
      nodes = refl;
      full = refl;
      live = refl;
      weight = refl;
      facts = refl;
      length_is = length-set old.actor.seen e (bit_and (slice_index old.actor.seen e) y);
      within = seen-within old.actor.seen e y;
      loads = omega arith;
      fetch_ands = omega arith;
    })

pub GoesOn-reads_and_narrows : (m : Algebra) (i j k : ℕ) (old new : PassState) → ReadsAndNarrows m i j k old new → GoesOn old new
GoesOn-reads_and_narrows m i j k old new r =
    GoesOn-trans old r.first new (GoesOn-reads (edge_between old.nodes i j) old r.first r.reads)
    (GoesOn-trans r.first r.second new (GoesOn-reads (edge_between r.first.nodes j k) r.first r.second r.reads_next) (GoesOn-narrows m i j k r.second new r.narrows))

-- ---- every edge read, one after another

-- the pass has read the edges below e, one load for each, and the snapshot has what it has then seen of them
pub record IsRefreshed (old pass : PassState) (snap : List ℕ) (edges e : ℕ) : Type 0 where
  pub reads : ReadsSome e old pass
  pub bounded : e ≤ edges
  pub size : length snap ≡ edges
  pub shown : (k : ℕ) → k < e → slice_index snap k ≡ slice_index pass.actor.seen k

pub IsRefreshed-none : (pass : PassState) (snap : List ℕ) (edges : ℕ) → length snap ≡ edges → IsRefreshed pass pass snap edges 0
IsRefreshed-none pass snap edges l = record { reads = ReadsSome-none pass; bounded = omega arith; size = l; shown = λ k h. absurd (omega arith) }

pub IsRefreshed-more : (old pass next : PassState) (snap snap' : List ℕ) (edges e word : ℕ) → IsRefreshed old pass snap edges e →
    next ≡ record pass { actor = seeing e word pass.actor; loads = pass.loads + 1 } → slice_index next.actor.seen e ≡ word → snap' ≡ slice_set snap e word → e < edges →
    IsRefreshed old next snap' edges (e + 1)
IsRefreshed-more old pass next snap snap' edges e word h eq shown put below =
    let x = bit_and (slice_index pass.actor.seen e) word in
    let seen : next.actor.seen ≡ slice_set pass.actor.seen e x = ap (λ (p : PassState). p.actor.seen) eq in
    record {
      reads = ReadsSome-more e e word old pass next h.reads eq;
      bounded = omega (arith, below);
      size = ap length put ∙ length-set snap e word ∙ h.size;
      shown = λ k l. elim (cases_eq k e) [
        | inl same ↦ rw same (ap (λ (ws : List ℕ). slice_index ws e) put ∙ get_or-set_same snap e word 0 (omega (arith, h.size)) ∙ sym shown)
        | inr differ ↦
            ap (λ (ws : List ℕ). slice_index ws k) put ∙ get_or-set_other snap e k word 0 differ
            ∙ h.shown k (omega arith)
            ∙ sym (ap (λ (ws : List ℕ). slice_index ws k) seen ∙ get_or-set_other pass.actor.seen e k x 0 differ)
      ];
    }

pub IsRefreshed-all : (old pass : PassState) (snap : List ℕ) (edges e : ℕ) → IsRefreshed old pass snap edges e → edges ≤ e → length old.actor.seen ≡ edges → snap ≡ pass.actor.seen
IsRefreshed-all old pass snap edges e h end l =
    same_number_lists snap pass.actor.seen (h.size ∙ sym l ∙ sym h.reads.length_is) (λ k b. h.shown k (omega (arith, h.size)))

-- ---- every edge read again, one after another

-- the pass has made so many loads, the snapshot is what it has seen, and `less` tells whether some edge became less
pub record IsReadAgain (count : ℕ) (old pass : PassState) (snap : List ℕ) (less : Bool) : Type 0 where
  pub reads : ReadsSome count old pass
  pub snap_is : snap ≡ pass.actor.seen
  pub smaller : less ≡ true → sum pass.actor.seen < sum old.actor.seen
  pub same : less ≡ false → pass.actor.seen ≡ old.actor.seen

pub IsReadAgain-none : (pass : PassState) (snap : List ℕ) → snap ≡ pass.actor.seen → IsReadAgain 0 pass pass snap false
IsReadAgain-none pass snap e = record {
  reads = ReadsSome-none pass;
  snap_is = e;
  smaller = λ none. absurd (false≢true none);
  same = λ none. refl;
}

-- a word that is the same as the snapshot has, since it wasn't found to be another
same-word : (word was : ℕ) (changed : Bool) → IsTrue changed ↔ (word ≢ was) → changed ≡ false → word ≡ was
same-word word was changed differs stays = elim (cases_eq word was) as (λ _. word ≡ was) [
  | inl w ↦ w
  | inr ne ↦ absurd (false≢true (sym stays ∙ differs.1 ne))
]

-- neither of the two
or-none : (a b : Bool) → (a || b) ≡ false → (a ≡ false) × (b ≡ false)
or-none true b e = absurd (false≢true (sym e))
or-none false b e = (refl, e)

pub IsReadAgain-more : (count : ℕ) (old pass next : PassState) (snap snap' : List ℕ) (e word : ℕ) (less changed : Bool) → IsReadAgain count old pass snap less →
    next ≡ record pass { actor = seeing e word pass.actor; loads = pass.loads + 1 } → slice_index next.actor.seen e ≡ word → snap' ≡ slice_set snap e word →
    IsTrue changed ↔ (word ≢ slice_index snap e) → IsReadAgain (count + 1) old next snap' (less || changed)
IsReadAgain-more count old pass next snap snap' e word less changed h eq shown put differs =
    let x = bit_and (slice_index pass.actor.seen e) word in
    let seen : next.actor.seen ≡ slice_set pass.actor.seen e x = ap (λ (p : PassState). p.actor.seen) eq in
    let long : length next.actor.seen ≡ length pass.actor.seen = ap length seen ∙ length-set pass.actor.seen e x in
    let within : Refines next.actor.seen pass.actor.seen = subst (λ (ws : List ℕ). Refines ws pass.actor.seen) (sym seen) (seen-within pass.actor.seen e word) in
    let fell = sum-refines next.actor.seen pass.actor.seen long within in
    let snap_is : snap' ≡ next.actor.seen = same_number_lists snap' next.actor.seen (ap length put ∙ length-set snap e word ∙ ap length h.snap_is ∙ sym long) (λ k b. elim (cases_eq k e) [
      | inl same ↦
          (let size = ap length put ∙ length-set snap e word in
          let inside : e < length snap = omega (arith, size) in
          rw same (ap (λ (ws : List ℕ). slice_index ws e) put ∙ get_or-set_same snap e word 0 inside ∙ sym shown))
      | inr differ ↦ ap (λ (ws : List ℕ). slice_index ws k) put ∙ get_or-set_other snap e k word 0 differ ∙ ap (λ (ws : List ℕ). slice_index ws k) h.snap_is
          ∙ sym (ap (λ (ws : List ℕ). slice_index ws k) seen ∙ get_or-set_other pass.actor.seen e k x 0 differ)
    ]) in
    record {
      reads = ReadsSome-more count e word old pass next h.reads eq;
      snap_is = snap_is;
      smaller = λ t. elim (or_cases less changed t) [
        | inl u ↦ (let was = h.smaller u in omega arith)
        | inr u ↦
            (let less_now = sum-smaller next.actor.seen pass.actor.seen long within
            (λ same. differs.0 u (sym shown ∙ ap (λ (ws : List ℕ). slice_index ws e) same ∙ ap (λ (ws : List ℕ). slice_index ws e) (sym h.snap_is))) in
            let was = sum-refines pass.actor.seen old.actor.seen h.reads.length_is h.reads.within in
            omega arith)
      ];
      same = λ none.
          let both = or-none less changed none in
          sym snap_is ∙ put ∙ ap (slice_set snap e) (same-word word (slice_index snap e) changed differs both.1) ∙ set-get_or snap e 0 ∙ h.snap_is ∙ h.same both.0;
    }

-- the answer tells just whether the pass has then seen another list
pub IsReadAgain-differs : (count : ℕ) (old pass : PassState) (snap : List ℕ) (less : Bool) → IsReadAgain count old pass snap less → IsTrue less ↔ (pass.actor.seen ≢ old.actor.seen)
IsReadAgain-differs count old pass snap less h = (
  λ t same.
      let fell = h.smaller t in
      let equal = ap sum same in
      absurd (omega (arith, fell, equal)),
  λ differ. elim (cases_Bool less) [
    | inl t ↦ t
    | inr f ↦ absurd (differ (h.same f))
  ],
)

-- a word that was read again and is the same as before
pub IsReadAgain-same : (count : ℕ) (old pass next : PassState) (snap snap' : List ℕ) (e word : ℕ) (changed : Bool) → IsReadAgain count old pass snap false →
    next ≡ record pass { actor = seeing e word pass.actor; loads = pass.loads + 1 } → slice_index next.actor.seen e ≡ word → snap' ≡ slice_set snap e word →
    IsTrue changed ↔ (word ≢ slice_index snap e) → changed ≡ false → IsReadAgain (count + 1) old next snap' false × (snap' ≡ snap)
IsReadAgain-same count old pass next snap snap' e word changed h eq shown put differs stays = (
  subst (λ (b : Bool). IsReadAgain (count + 1) old next snap' b) stays (IsReadAgain-more count old pass next snap snap' e word false changed h eq shown put differs),
  put ∙ ap (slice_set snap e) (same-word word (slice_index snap e) changed differs stays) ∙ set-get_or snap e 0,
)
