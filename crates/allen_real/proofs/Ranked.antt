-- Ranks of points that are ordered but for equal ones, by one member of each class of equal points.
use Rattle.std.proofs.Common.{◌≡◌, ℕ, zero, suc, ◌+◌, ◌-◌, ◌<◌, ◌≤◌, Bool, true, false, cond, ltb}
use Rattle.std.proofs.Common.{List, [], ◌∷◌, length, get_or, sym, ◌∙◌, arith, ◌⊎◌, inl, inr}
use Rattle.std.specs.List.{count_by}
use Rattle.std.proofs.lemmas.Bool.{cases_order, cases_Bool, lt-ltb, le-ltb, both_ways}
use Rattle.std.proofs.lemmas.List.Sums.{sum_by-cons, count_by-le-length}
use Rattle.allen_real.proofs.Steps.{step-mono, step-above, step-none, step-le}

-- no two lie below each other, and what lies between two ends lies above the one or below the other
pub record IsOrder (X : Type 0) (IsPoint : X → Type 0) (below : X → X → Bool) : Type 0 where
  pub asymmetric : (p q : X) → IsPoint p → IsPoint q → below p q ≡ true → below q p ≡ false
  pub divides : (p q u : X) → IsPoint p → IsPoint q → IsPoint u → below p q ≡ true →
      (below p u ≡ true) ⊎ (below u q ≡ true)

module _ (X : Type 0) (d : X) (IsPoint : X → Type 0) (below : X → X → Bool) (order : IsOrder X IsPoint below) where
  irreflexive : (p : X) → IsPoint p → below p p ≡ false
  irreflexive p h = elim (cases_Bool (below p p)) [
    | inl e ↦ order.asymmetric p p h h e
    | inr e ↦ e
  ]

  -- what lies below q lies below what isn't below q, and what isn't above p lies below what lies above p
  below-rest : (p q u : X) → IsPoint p → IsPoint q → IsPoint u → below p q ≡ true → below u q ≡ false →
      below p u ≡ true
  below-rest p q u hp hq hu l g = elim (order.divides p q u hp hq hu l) [
    | inl h ↦ h
    | inr h ↦ absurd (both_ways (below u q) g h)
  ]

  rest-below : (p q u : X) → IsPoint p → IsPoint q → IsPoint u → below p q ≡ true → below p u ≡ false →
      below u q ≡ true
  rest-below p q u hp hq hu l g = elim (order.divides p q u hp hq hu l) [
    | inl h ↦ absurd (both_ways (below p u) g h)
    | inr h ↦ h
  ]

  -- ---- points compare as their ranks

  abbrev rank_by : List X → X → ℕ
  rank_by members q = count_by (λ p. below p q) members

  rank-cons : (m : X) (members : List X) (q : X) →
      rank_by (m ∷ members) q ≡ cond (below m q) 1 0 + rank_by members q
  rank-cons m members q = sum_by-cons (λ p. cond (below p q) 1 0) m members

  abbrev ArePoints : List X → Type 0
  ArePoints members = (k : ℕ) → k < length members → IsPoint (get_or members k d)

  front-point : (m : X) (members : List X) → ArePoints (m ∷ members) → IsPoint m
  front-point m members a = a 0 (omega arith)

  later-points : (m : X) (members : List X) → ArePoints (m ∷ members) → ArePoints members
  later-points m members a = λ k h. a (suc k) (omega arith)

  rank-mono : (members : List X) (u v : X) → ArePoints members → IsPoint u → IsPoint v → below v u ≡ false →
      rank_by members u ≤ rank_by members v
  rank-mono [] u v a hu hv e = omega arith
  rank-mono (m ∷ members) u v a hu hv e =
      let first = step-mono (below m u) (below m v)
      (λ l. below-rest m u v (front-point m members a) hu hv l e) in
      let later = rank-mono members u v (later-points m members a) hu hv e in
      omega (arith, rank-cons m members u, rank-cons m members v, first, later)

  -- the member at k is in the class of q
  pub record IsMemberFor (members : List X) (q : X) (k : ℕ) : Type 0 where
    pub within : k < length members
    pub not_below : below (get_or members k d) q ≡ false
    pub not_above : below q (get_or members k d) ≡ false

  later-member : (m : X) (members : List X) (q : X) (k : ℕ) → IsMemberFor (m ∷ members) q (suc k) →
      IsMemberFor members q k
  later-member m members q k h = record {
    within = omega (arith, h.within);
    not_below = h.not_below;
    not_above = h.not_above;
  }

  rank-strict : (members : List X) (u v : X) (k : ℕ) → ArePoints members → IsPoint u → IsPoint v →
      IsMemberFor members u k → below u v ≡ true → rank_by members u < rank_by members v
  rank-strict [] u v k a hu hv h l = absurd (omega (arith, h.within))
  rank-strict (m ∷ members) u v zero a hu hv h l =
      let above = step-above (below m v) (rest-below u v m hu hv (front-point m members a) l h.not_above) in
      let later = rank-mono members u v (later-points m members a) hu hv (order.asymmetric u v hu hv l) in
      omega (arith, rank-cons m members u, rank-cons m members v, step-none (below m u) h.not_below, above, later)
  rank-strict (m ∷ members) u v (suc k) a hu hv h l =
      let first = step-mono (below m u) (below m v)
      (λ y. below-rest m u v (front-point m members a) hu hv y (order.asymmetric u v hu hv l)) in
      let later = rank-strict members u v k (later-points m members a) hu hv (later-member m members u k h) l in
      omega (arith, rank-cons m members u, rank-cons m members v, first, later)

  pub ranks-below : (members : List X) (u v : X) (k : ℕ) → ArePoints members → IsPoint u → IsPoint v →
      IsMemberFor members u k → ltb (rank_by members u) (rank_by members v) ≡ below u v
  ranks-below members u v k a hu hv h = elim (cases_Bool (below u v)) [
    | inl l ↦ lt-ltb _ _ (rank-strict members u v k a hu hv h l) ∙ sym l
    | inr g ↦ le-ltb _ _ (rank-mono members v u a hv hu g) ∙ sym g
  ]

  -- ---- ranks are below the number of members

  pub rank-bound : (members : List X) (u : X) (k : ℕ) → IsMemberFor members u k → rank_by members u < length members
  rank-bound [] u k h = absurd (omega (arith, h.within))
  rank-bound (m ∷ members) u zero h =
      let later = count_by-le-length (λ p. below p u) members in
      omega (arith, rank-cons m members u, step-none (below m u) h.not_below, later)
  rank-bound (m ∷ members) u (suc k) h =
      let later = rank-bound members u k (later-member m members u k h) in
      omega (arith, rank-cons m members u, step-le (below m u), later)

  -- ---- each number below the rank of a point is the rank of a member

  abbrev pub Differ : X → X → Type 0
  Differ p q = (below p q ≡ true) ⊎ (below q p ≡ true)

  abbrev DifferEach : List X → Type 0
  DifferEach members = (j k : ℕ) → j < k → k < length members → Differ (get_or members j d) (get_or members k d)

  -- a member with the rank v
  pub record HasRank (members : List X) (v : ℕ) : Type 0 where
    pub place : ℕ
    pub within : place < length members
    pub is : rank_by members (get_or members place d) ≡ v

  -- one more member in front: what has a lower rank than it keeps its own, what has no lower one gets the next
  rank-kept : (m : X) (members : List X) (v : ℕ) → ArePoints (m ∷ members) → v < rank_by members m →
      HasRank members v → HasRank (m ∷ members) v
  rank-kept m members v a h r =
      let p = get_or members r.place d in
      let later : ArePoints members = later-points m members a in
      let hm : IsPoint m = front-point m members a in
      let hp : IsPoint p = later r.place r.within in
      let not_above : below m p ≡ false = elim (cases_Bool (below m p)) [
        | inl l ↦ (let lower = rank-mono members m p later hm hp (order.asymmetric m p hm hp l) in
            absurd (omega (arith, lower, r.is)))
        | inr g ↦ g
      ] in
      record {
        place = suc r.place;
        within = omega (arith, r.within);
        is = omega (arith, rank-cons m members p, step-none (below m p) not_above, r.is);
      }

  rank-next : (m : X) (members : List X) (v : ℕ) → ArePoints (m ∷ members) → DifferEach (m ∷ members) →
      rank_by members m < v → HasRank members (v - 1) → HasRank (m ∷ members) v
  rank-next m members v a differ h r =
      let p = get_or members r.place d in
      let later : ArePoints members = later-points m members a in
      let hm : IsPoint m = front-point m members a in
      let hp : IsPoint p = later r.place r.within in
      let itself : IsMemberFor members p r.place =
      record { within = r.within; not_below = irreflexive p hp; not_above = irreflexive p hp } in
      let is_above : below m p ≡ true = elim (differ 0 (suc r.place) (omega arith) (omega (arith, r.within))) [
        | inl l ↦ l
        | inr l ↦ absurd (omega (arith, rank-strict members p m r.place later hp hm itself l, r.is))
      ] in
      record {
        place = suc r.place;
        within = omega (arith, r.within);
        is = omega (arith, rank-cons m members p, step-above (below m p) is_above, step-le (below m p), r.is);
      }

  pub no_gap : (members : List X) (u : X) (v : ℕ) → ArePoints members → DifferEach members → v < rank_by members u →
      HasRank members v
  no_gap [] u v a differ h = absurd (omega arith)
  no_gap (m ∷ members) u v a differ h =
      let later : ArePoints members = later-points m members a in
      let differ_later : DifferEach members = λ j k o b. differ (suc j) (suc k) (omega arith) (omega arith) in
      let itself = step-none (below m m) (irreflexive m (front-point m members a)) in
      elim (cases_order v (rank_by members m)) [
        | inl e ↦ record { place = 0; within = omega arith; is = omega (arith, rank-cons m members m, itself, e) }
        | inr other ↦ elim other [
          | inl l ↦ rank-kept m members v a l (no_gap members m v later differ_later l)
          | inr g ↦ (let first = rank-cons m members u in
              let lower : v - 1 < rank_by members u = omega (arith, first, step-le (below m u)) in
              rank-next m members v a differ g (no_gap members u (v - 1) later differ_later lower))
        ]
      ]
