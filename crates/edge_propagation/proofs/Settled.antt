-- Each triple that isn't closed has a source edge that is queued.
use Rattle.std.proofs.Common.{◌≡◌, ◌≢◌, ℕ, ◌-◌, ◌<◌, ◌⊎◌, Bool, false, List, length, sym, ◌∙◌, subst, arith, inl, inr}
use Rattle.std.specs.Prelude.{bit_and, slice_set}
use Rattle.std.proofs.lemmas.Bool.{cases_lt}
use Rattle.calculus_table.specs.Rel.{IsWithin}
use Rattle.calculus_table.specs.Algebra.{Algebra}
use Rattle.calculus_table.specs.Composition.{composition, converse}
use Rattle.calculus_table.specs.Calculus.{IsCalculus}
use Rattle.calculus_table.proofs.Sets.{IsWithin-trans, IsWithin-meet, IsWithin-meet_l, IsWithin-meet_r, within-meet}
use Rattle.calculus_table.proofs.Compositions.{converse-mono, converse-composition, composition-mono}
use Rattle.network_words.specs.Edge.{IsProperPair, IsProperTriple, IsSamePair}
use Rattle.network_words.proofs.Pairs.{pair-first, pair-second, pair-outer, triple-swap}
use Rattle.edge_propagation.specs.Worklist.{Worklist, IsSized, IsQueued, IsIdle, edge_place, set_of, work_left}
use Rattle.edge_propagation.specs.declared.span.Span.{Span}
use Rattle.edge_propagation.specs.Propagation.{AreConverses, IsReady, IsStep, HasEmpty, EmptiesNone, IsClosedAlong, AreClosed, AreRowsClosed, IsSettledAt, IsSettled, AreRowsSettled, IsSettledBut, IsCharged, all_nodes}
use Rattle.edge_propagation.proofs.Places.{edge_place-inside, same-cases, mark-kept, count-cleared, IsQueued-swap, pair-from_place}
use Rattle.edge_propagation.specs.Propagation.{IsMet}
use Rattle.edge_propagation.proofs.Steps.{refined, IsMet-step, IsStep-refined, IsStep-room, EmptiesNone-refined, refined-first, refined-other}

-- ---- one triple narrowed

-- by the composition of a set that contains that of (i, j)
module _ (m : Algebra) (work : Worklist) (i j k a : ℕ) (c : IsCalculus m) (s : AreConverses m work) (z : IsSized work) (t : IsProperTriple work.nodes i j k)
    (aw : IsWithin (set_of work i j) a) where
  IsStep-narrowed : bit_and (set_of work i k) (composition m a (set_of work j k)) ≢ set_of work i k →
      IsStep m work (refined m work i k (bit_and (set_of work i k) (composition m a (set_of work j k))))
  IsStep-narrowed ne =
      let n = work.nodes in
      IsStep-refined m work i k _ c s z (pair-outer n i j k t) (IsWithin-meet_l _ _) ne (λ words net closed inside.
      IsWithin-meet _ _ _ (inside i k (pair-outer n i j k t))
      (IsWithin-trans _ _ _ (closed.each i j k t) (composition-mono m _ _ _ _ c.table (IsWithin-trans _ _ _ (inside i j (pair-first n i j k t)) aw) (inside j k (pair-second n i j k t)))))

  IsClosedAlong-narrowed : a ≡ set_of work i j → IsClosedAlong m (refined m work i k (bit_and (set_of work i k) (composition m a (set_of work j k)))) i j k
  IsClosedAlong-narrowed same =
      let n = work.nodes in
      let w = IsWithin-meet_l (set_of work i k) (composition m a (set_of work j k)) in
      let p = pair-outer n i j k t in
      rw (
        refined-first m work i k _ c s z p w,
        refined-other m work i k _ c s z p w i j (pair-first n i j k t) (λ e. elim e [ inl u ↦ t.second_third u.1 | inr u ↦ t.first_third u.0 ]),
        refined-other m work i k _ c s z p w j k (pair-second n i j k t) (λ e. elim e [ inl u ↦ t.first_second (sym u.0) | inr u ↦ t.second_third u.0 ]),
        sym same,
      )
      (IsWithin-meet_r (set_of work i k) (composition m a (set_of work j k)))

-- the worklist in which the set of (i, k) is x, its edge is queued, and that is noted
abbrev pub noted : Algebra → Worklist → ℕ → ℕ → ℕ → Worklist
noted m work i k x = record (refined m work i k x) { room = work.room - 1 }

-- the same by what was read and computed
module _ (m : Algebra) (work new : Worklist) (i j k a x : ℕ) (c : IsCalculus m) (s : AreConverses m work) (z : IsSized work) (t : IsProperTriple work.nodes i j k)
    (aw : IsWithin (set_of work i j) a) (set-is : ¬ IsQueued work i j → a ≡ set_of work i j)
    (e : x ≡ bit_and (set_of work i k) (composition m a (set_of work j k))) where
  -- where nothing became smaller
  pub settled-same : x ≡ set_of work i k → IsSettledAt m work i j k
  settled-same same = λ quiet _.
      subst (λ b. IsWithin (set_of work i k) (composition m b (set_of work j k))) (set-is quiet) (within-meet _ _ (sym e ∙ same))

  pub step-read : new ≡ noted m work i k x → x ≢ set_of work i k → IsStep m work new
  step-read stored ne = rw (stored, e) (IsStep-room m work _ (work.room - 1) (IsStep-narrowed m work i j k a c s z t aw (λ h. ne (e ∙ h))))

  pub settled-read : new ≡ noted m work i k x → x ≢ set_of work i k → IsSettledAt m new i j k
  settled-read stored ne = λ quiet _.
      let same = set-is (λ w. quiet ((step-read stored ne).stays i j w)) in
      rw (stored, e) (IsClosedAlong-narrowed m work i j k a c s z t aw same)

  pub empty-read : new ≡ noted m work i k x → x ≡ 0 → HasEmpty new
  empty-read stored none =
      let p = pair-outer work.nodes i j k t in
      rw stored (record { first = i; second = k; proper = p; empty = refined-first m work i k x c s z p (subst (λ y. IsWithin y (set_of work i k)) (sym e) (IsWithin-meet_l _ _)) ∙ none })

  pub some-read : new ≡ noted m work i k x → x ≢ 0 → EmptiesNone work new
  some-read stored some =
      let p = pair-outer work.nodes i j k t in
      rw stored (EmptiesNone-refined m work i k x c s z p (subst (λ y. IsWithin y (set_of work i k)) (sym e) (IsWithin-meet_l _ _)) some)

-- ---- settled triples

IsClosedAlong-swap : (m : Algebra) (work : Worklist) (i j k : ℕ) → IsCalculus m → AreConverses m work → IsProperTriple work.nodes i j k → IsClosedAlong m work i j k → IsClosedAlong m work k j i
IsClosedAlong-swap m work i j k c s t h =
    let n = work.nodes in
    rw (s.converse i k (pair-outer n i j k t), s.converse j k (pair-second n i j k t), s.converse i j (pair-first n i j k t))
    (subst (IsWithin (converse m (set_of work i k))) (converse-composition m (set_of work i j) (set_of work j k) c) (converse-mono m _ _ h))

IsSettledAt-swap : (m : Algebra) (work : Worklist) (i j k : ℕ) → IsCalculus m → AreConverses m work → IsProperTriple work.nodes i j k → IsSettledAt m work i j k → IsSettledAt m work k j i
IsSettledAt-swap m work i j k c s t h = λ p q.
    IsClosedAlong-swap m work i j k c s t (h (λ w. q (IsQueued-swap work i j t.first_second w)) (λ w. p (IsQueued-swap work j k t.second_third w)))

-- sets made smaller leave each triple settled
IsSettledAt-met : (m : Algebra) (old new : Worklist) (i j k : ℕ) → IsMet m old new → IsProperTriple old.nodes i j k → IsSettledAt m old i j k → IsSettledAt m new i j k
IsSettledAt-met m old new i j k p t h = λ q r.
    let n = old.nodes in
    let closed = h (λ w. q (p.stays i j w)) (λ w. r (p.stays j k w)) in
    let ij = p.same i j (pair-first n i j k t) q in
    let jk = p.same j k (pair-second n i j k t) r in
    rw (ij, jk) (IsWithin-trans _ _ _ (p.within i k (pair-outer n i j k t)) closed)

IsCharged-swap : (rows : Span) (i k : ℕ) → IsCharged rows i k → IsCharged rows k i
IsCharged-swap rows i k h = record { first_from = h.second_from; second_from = h.first_from; lesser_below = elim h.lesser_below [ inl l ↦ inr l | inr l ↦ inl l ] }

pub IsSettledAt-step : (m : Algebra) (old new : Worklist) (i j k : ℕ) → IsStep m old new → IsProperTriple old.nodes i j k → IsSettledAt m old i j k → IsSettledAt m new i j k
IsSettledAt-step m old new i j k p = IsSettledAt-met m old new i j k (IsMet-step m old new p)

pub IsSettled-met : (m : Algebra) (rows : Span) (old new : Worklist) → IsMet m old new → IsSettled m rows old → IsSettled m rows new
IsSettled-met m rows old new p h = λ i j k t' e.
    let t : IsProperTriple old.nodes i j k = subst (λ n. IsProperTriple n i j k) p.nodes t' in
    IsSettledAt-met m old new i j k p t (h i j k t e)

-- no row, and more rows: the pairs of their nodes with greater ones
pub IsSettled-none : (m : Algebra) (first : ℕ) (work : Worklist) → IsSettled m (record { first = first; end = first }) work
IsSettled-none m first work = λ i j k t e.
    let a = e.first_from in
    let b = e.second_from in
    elim e.lesser_below as (λ _. IsSettledAt m work i j k) [ inl l ↦ absurd (omega arith) | inr l ↦ absurd (omega arith) ]

pub IsSettled-rows : (m : Algebra) (first i end : ℕ) (work : Worklist) → IsCalculus m → AreConverses m work → IsSettled m (record { first = first; end = i }) work → AreRowsSettled m work (record { first = i; end = end }) →
    IsSettled m (record { first = first; end = end }) work
IsSettled-rows m first i end work c s h rows = λ x y z t e.
    let charged : (x < i) ⊎ (z < i) → IsCharged (record { first = first; end = i }) x z = λ b. record { first_from = e.first_from; second_from = e.second_from; lesser_below = b } in
    elim (cases_lt x i) as (λ _. IsSettledAt m work x y z) [
      | inl xb ↦ h x y z t (charged (inl xb))
      | inr xa ↦ elim (cases_lt z i) as (λ _. IsSettledAt m work x y z) [
        | inl zb ↦ h x y z t (charged (inr zb))
        | inr za ↦ elim (cases_lt x z) as (λ _. IsSettledAt m work x y z) [
          | inl xz ↦
              (let below : x < end = elim e.lesser_below as (λ _. x < end) [ inl l ↦ l | inr l ↦ omega arith ] in
              rows x (record { from = xa; below = below }) y z xz t)
          | inr zx ↦
              (let d = t.first_third in
              let less : z < x = omega (arith, d) in
              let below : z < end = elim e.lesser_below as (λ _. z < end) [ inl l ↦ omega arith | inr l ↦ l ] in
              let turned = triple-swap work.nodes x y z t in
              IsSettledAt-swap m work z y x c s turned (rows z (record { from = za; below = below }) y x less turned))
        ]
      ]
    ]

-- after the triples of an edge were propagated, both ways, every triple is settled
pub IsSettled-propagated : (m : Algebra) (rows : Span) (a b c : Worklist) (i j : ℕ) → IsCalculus m → IsSized a → IsProperPair a.nodes i j → IsSettledBut m rows a i j →
    IsStep m a b → ((k : ℕ) → IsProperTriple a.nodes i j k → IsCharged rows i k → IsSettledAt m b i j k) →
    IsStep m b c → ((k : ℕ) → IsProperTriple b.nodes j i k → IsCharged rows j k → IsSettledAt m c j i k) → IsSettled m rows c
IsSettled-propagated m rows a b c i j k z pair but p first q second = λ x y w t' h.
    let ba : b.nodes ≡ a.nodes = p.nodes in
    let cb : c.nodes ≡ b.nodes = q.nodes in
    let t : IsProperTriple a.nodes x y w = subst (λ n. IsProperTriple n x y w) (cb ∙ ba) t' in
    let forward = λ (d : ℕ) (s : IsProperTriple a.nodes i j d) (e : IsCharged rows i d). IsSettledAt-step m b c i j d q (subst (λ n. IsProperTriple n i j d) (sym ba) s) (first d s e) in
    let backward = λ (d : ℕ) (s : IsProperTriple a.nodes j i d) (e : IsCharged rows j d). second d (subst (λ n. IsProperTriple n j i d) (sym ba) s) e in
    let h' = IsCharged-swap rows x w h in
    elim (same-cases a.nodes x y i j z.bounded (pair-first a.nodes x y w t) pair) [
      | inl same ↦ elim same [
        | inl s ↦ rw (s.0, s.1) (forward w (rw (s.0, s.1) at t) (rw s.0 at h))
        | inr s ↦ rw (s.0, s.1) (backward w (rw (s.0, s.1) at t) (rw s.0 at h))
      ]
      | inr ne ↦ elim (same-cases a.nodes y w i j z.bounded (pair-second a.nodes x y w t) pair) [
        | inl same ↦ elim same [
          | inl s ↦ rw (s.0, s.1) (IsSettledAt-swap m c j i x k q.sets (rw (s.0, s.1) at (triple-swap c.nodes x y w t')) (backward x (rw (s.0, s.1) at (triple-swap a.nodes x y w t)) (rw s.1 at h')))
          | inr s ↦ rw (s.0, s.1) (IsSettledAt-swap m c i j x k q.sets (rw (s.0, s.1) at (triple-swap c.nodes x y w t')) (forward x (rw (s.0, s.1) at (triple-swap a.nodes x y w t)) (rw s.1 at h')))
        ]
        | inr ne' ↦ IsSettledAt-step m b c x y w q (subst (λ n. IsProperTriple n x y w) (sym ba) t) (IsSettledAt-step m a b x y w p t (but x y w t h ne ne'))
      ]
    ]

-- ---- an edge taken off the queue

-- the worklist without the mark of the edge between i and j
abbrev pub popped : Worklist → ℕ → ℕ → Worklist
popped work i j = record work { queued = slice_set work.queued (edge_place i j) false }

pub IsReady-queue : (m : Algebra) (planes : ℕ) (work : Worklist) (queued : List Bool) → IsReady m planes work → IsReady m planes (record work { queued = queued })
IsReady-queue m planes work queued r = record {
  calculus = r.calculus;
  few = r.few;
  enough = r.enough;
  planes_are = r.planes_are;
  sets = record { within = r.sets.within; converse = r.sets.converse };
}

pub IsSettledBut-popped : (m : Algebra) (rows : Span) (work : Worklist) (i j : ℕ) → IsSized work → IsProperPair work.nodes i j → IsSettled m rows work → IsSettledBut m rows (popped work i j) i j
IsSettledBut-popped m rows work i j z pair h = λ a b c t e ne ne' p q.
    let n = work.nodes in
    let kept = λ (x y : ℕ) (xy : IsProperPair n x y) (differ : ¬ IsSamePair x y i j) (w : IsQueued work x y).
    mark-kept work.queued (edge_place i j) (edge_place x y) false w (inl (λ d. differ (pair-from_place n x y i j z.bounded xy pair d))) in
    h a b c t e (λ w. p (kept a b (pair-first n a b c t) ne w)) (λ w. q (kept b c (pair-second n a b c t) ne' w))

pub work_left-popped : (work : Worklist) (i j : ℕ) → IsSized work → IsProperPair work.nodes i j → IsQueued work i j → work_left (popped work i j) < work_left work
work_left-popped work i j z pair h =
    let e = edge_place i j in
    let inside : e < length work.queued = omega (arith, z.queued_length, edge_place-inside work.nodes i j z.bounded pair) in
    omega (arith, count-cleared work.queued e inside h)

-- where no edge is queued every triple is closed
pub quiet-idle : (work : Worklist) → ((i : ℕ) → i < work.nodes → IsIdle work i) → (i j : ℕ) → IsProperPair work.nodes i j → ¬ IsQueued work i j
quiet-idle work idle i j p w = elim (cases_lt i j) as (λ _. ⊥) [
  | inl l ↦ idle i p.first_below j l p.second_below w
  | inr g ↦ idle j p.second_below i (omega (arith, p.differ)) p.first_below (IsQueued-swap work i j p.differ w)
]

pub AreRowsClosed-idle : (m : Algebra) (rows : Span) (work : Worklist) → IsSettled m rows work → ((i : ℕ) → i < work.nodes → IsIdle work i) → AreRowsClosed m rows work
AreRowsClosed-idle m rows work h idle = λ i j k t e.
    h i j k t e (quiet-idle work idle i j (pair-first work.nodes i j k t)) (quiet-idle work idle j k (pair-second work.nodes i j k t))

-- ---- all rows

IsCharged-all : (n i k : ℕ) → i < n → IsCharged (all_nodes n) i k
IsCharged-all n i k b = record { first_from = omega arith; second_from = omega arith; lesser_below = inl b }

pub AreClosed-all : (m : Algebra) (n : ℕ) (work : Worklist) → work.nodes ≡ n → AreRowsClosed m (all_nodes n) work → AreClosed m work
AreClosed-all m n work e h = λ i j k t. h i j k t (IsCharged-all n i k (let b = t.first_below in omega (arith, b, e)))
