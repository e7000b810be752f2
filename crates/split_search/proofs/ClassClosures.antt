-- The closure of a network over a closed class is over the class: the least members over its sets make a closed
-- network, which is within the closure, as the closure is within it.
use Rattle.std.proofs.Common.{◌≡◌, ◌≢◌, ℕ, zero, suc, ◌<◌, ◌≤◌, List, [], ◌∷◌, length, refl, sym, ◌∙◌, subst, arith}
use Rattle.std.proofs.Common.{inl, inr}
use Rattle.std.specs.Prelude.{All, Contains, slice_index, bit_and}
use Rattle.std.proofs.lemmas.Bool.{cases_lt, cases_eq}
use Rattle.std.proofs.lemmas.List.Elements.{All-from_get_or}
use Rattle.std.proofs.Math.ListN.{get_or-eq_default}
use Rattle.calculus_table.specs.Rel.{IsWithin}
use Rattle.calculus_table.specs.Algebra.{Algebra}
use Rattle.calculus_table.specs.Composition.{composition}
use Rattle.calculus_table.specs.Calculus.{IsCalculus}
use Rattle.calculus_table.proofs.Sets.{IsWithin-refl, IsWithin-trans, IsWithin-empty, IsWithin-meet, IsWithin-meet_l}
use Rattle.calculus_table.proofs.Sets.{IsWithin-meet_r, meet-within, within-meet}
use Rattle.calculus_table.proofs.Compositions.{composition-mono}
use Rattle.network_words.specs.Edge.{edge_at}
use Rattle.network_words.specs.Network.{IsNetwork, Refines, relation_between}
use Rattle.network_words.specs.Closure.{IsClosed, IsClosure}
use Rattle.network_words.proofs.Edges.{edge_at-lt}
use Rattle.network_words.proofs.Networks.{relation_between-forward, relation_between-backward, relation_between-mono}
use Rattle.network_words.proofs.Networks.{Refines-antisym, IsClosed-ordered}
use Rattle.tract_classes.specs.Class.{IsClosedClass}
use Rattle.tract_classes.proofs.Ascending.{Contains-cons, Contains-cons_cases}
use Rattle.split_search.proofs.Networks.{refines-network}
use Rattle.split_search.specs.Straight.{IsClosedOver}

-- ---- the least member over a set

module _ (m : Algebra) (class : List ℕ) (closed : IsClosedClass m class) where
  -- y is a member between d and x, and within each set of the list over d
  record IsLeastOver (sets : List ℕ) (d x y : ℕ) : Type 0 where
    member : Contains class y
    over : IsWithin d y
    within : IsWithin y x
    least : (a : ℕ) → Contains sets a → IsWithin d a → IsWithin y a

  least_over : (sets : List ℕ) (d x : ℕ) → ((a : ℕ) → Contains sets a → Contains class a) → Contains class x →
      IsWithin d x → (y : ℕ) × IsLeastOver sets d x y
  least_over [] d x known member over = (
    x,
    record {
      member = member;
      over = over;
      within = IsWithin-refl x;
      least = λ a c within. absurd (omega (arith, c.1));
    },
  )
  least_over (b ∷ sets) d x known member over =
      let rest = least_over sets d x (λ a c. known a (Contains-cons b sets a c)) member over in
      let y = rest.0 in
      elim (cases_eq (bit_and d b) d) [
        | inl same ↦ (
          bit_and y b,
          record {
            member = closed.meet y b rest.1.member (known b (0, omega arith, refl));
            over = IsWithin-meet d y b rest.1.over (within-meet d b same);
            within = IsWithin-trans (bit_and y b) y x (IsWithin-meet_l y b) rest.1.within;
            least = λ a c within. elim (Contains-cons_cases b sets a c) [
              | inl here ↦ subst (IsWithin (bit_and y b)) here (IsWithin-meet_r y b)
              | inr there ↦ IsWithin-trans (bit_and y b) y a (IsWithin-meet_l y b) (rest.1.least a there within)
            ];
          },
        )
        | inr differ ↦ (
          y,
          record {
            member = rest.1.member;
            over = rest.1.over;
            within = rest.1.within;
            least = λ a c within. elim (Contains-cons_cases b sets a c) [
              | inl here ↦ absurd (differ (meet-within d b (subst (IsWithin d) (sym here) within)))
              | inr there ↦ rest.1.least a there within
            ];
          },
        )
      ]

  -- a member for each set of a network
  record AreLeastOver (ds xs ys : List ℕ) : Type 0 where
    length_is : length ys ≡ length xs
    each : (e : ℕ) → e < length xs → IsLeastOver class (slice_index ds e) (slice_index xs e) (slice_index ys e)

  all_least : (ds xs : List ℕ) → length ds ≡ length xs → Refines ds xs →
      ((e : ℕ) → e < length xs → Contains class (slice_index xs e)) →
      (ys : List ℕ) × AreLeastOver ds xs ys
  all_least [] [] same within members = ([], record { length_is = refl; each = λ e below. absurd (omega arith) })
  all_least [] (x ∷ xs) same within members = absurd (omega arith)
  all_least (d ∷ ds) [] same within members = absurd (omega arith)
  all_least (d ∷ ds) (x ∷ xs) same within members =
      let first = least_over class d x (λ a c. c) (members 0 (omega arith)) (within.each 0) in
      let tail : Refines ds xs = record { each = λ e. within.each (suc e) } in
      let rest = all_least ds xs (omega arith) tail (λ e l. members (suc e) (omega arith)) in (
        first.0 ∷ rest.0,
        record {
          length_is = omega (arith, rest.1.length_is);
          each = λ e below. at e first.0 rest.0 first.1 rest.1 below;
        },
      )
    where
      at : (e y : ℕ) (ys : List ℕ) → IsLeastOver class d x y → AreLeastOver ds xs ys → e < length (x ∷ xs) →
          IsLeastOver class (slice_index (d ∷ ds) e) (slice_index (x ∷ xs) e) (slice_index (y ∷ ys) e)
      at zero y ys h g below = h
      at (suc e) y ys h g below = g.each e (omega arith)

-- ---- the closure

past-within : (xs ys : List ℕ) (e : ℕ) → length xs ≤ e → IsWithin (slice_index xs e) (slice_index ys e)
past-within xs ys e past =
    subst (λ x. IsWithin x (slice_index ys e)) (sym (get_or-eq_default xs 0 past)) (IsWithin-empty (slice_index ys e))

module _ (m : Algebra) (n : ℕ) (class words closure : List ℕ) (calculus : IsCalculus m) (own : IsClosedClass m class)
    (net : IsNetwork m n words) (members : All (Contains class) words) (is : IsClosure m n words closure) where
  module _ (ys : List ℕ) (h : AreLeastOver m class own closure words ys) where
    least-within : Refines ys words
    least-within = record {
      each = λ e. elim (cases_lt e (length words)) [
        | inl below ↦ (h.each e below).within
        | inr past ↦ past-within ys words e (omega (arith, past, h.length_is))
      ];
    }

    least-over : Refines closure ys
    least-over = record {
      each = λ e. elim (cases_lt e (length words)) [
        | inl below ↦ (h.each e below).over
        | inr past ↦ past-within closure ys e (omega (arith, past, is.length_is))
      ];
    }

    least-network : IsNetwork m n ys
    least-network = refines-network m n words ys net h.length_is least-within

    edge-below : (i j : ℕ) → i < j → j < n → edge_at n i j < length words
    edge-below i j order below = omega (arith, net.length_is, edge_at-lt n i j order below)

    pair-member : (i j : ℕ) → i < n → j < n → i ≢ j → Contains class (relation_between m n ys i j)
    pair-member i j first second differ = elim (cases_lt i j) [
      | inl order ↦ subst (Contains class) (sym (relation_between-forward m n ys i j order))
          (h.each (edge_at n i j) (edge-below i j order second)).member
      | inr turned ↦ subst (Contains class) (sym (relation_between-backward m n ys i j turned))
          (own.converse (slice_index ys (edge_at n j i))
          (h.each (edge_at n j i) (edge-below j i (omega (arith, turned, differ)) first)).member)
    ]

    least-closed : IsClosed m n ys
    least-closed = IsClosed-ordered m n ys calculus least-network (λ i j k p order.
        let a = relation_between m n ys i j in
        let b = relation_between m n ys j k in
        let here = h.each (edge_at n i k) (edge-below i k order p.third_below) in
        let along : IsWithin (slice_index closure (edge_at n i k)) (composition m a b) =
        subst (λ x. IsWithin x (composition m a b)) (relation_between-forward m n closure i k order)
        (IsWithin-trans (relation_between m n closure i k) _ (composition m a b) (is.closed.each i j k p)
        (composition-mono m _ _ a b calculus.table (relation_between-mono m n closure ys i j least-over)
        (relation_between-mono m n closure ys j k least-over))) in
        subst (λ x. IsWithin x (composition m a b)) (sym (relation_between-forward m n ys i k order))
        (here.least (composition m a b)
        (own.composition a b (pair-member i j p.first_below p.second_below p.first_second)
        (pair-member j k p.second_below p.third_below p.second_third)) along))

    least-same : ys ≡ closure
    least-same =
        Refines-antisym ys closure (h.length_is ∙ sym is.length_is)
        (is.greatest ys h.length_is least-closed least-within) least-over

    closure-members : All (Contains class) closure
    closure-members = All-from_get_or (Contains class) closure 0 (λ e below.
        subst (λ xs. Contains class (slice_index xs e)) least-same
        (h.each e (omega (arith, below, is.length_is))).member)

  pub closure-over : IsClosedOver m n class closure
  closure-over =
      let found = all_least m class own closure words is.length_is is.within (λ e below. members e 0 below) in
      record {
        is_network = refines-network m n words closure net is.length_is is.within;
        closed = is.closed;
        members = closure-members found.0 found.1;
      }
