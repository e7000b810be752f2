-- The table of Allen's algebra is that of the end point rule.
use Rattle.std.proofs.Common.{◌≡◌, ℕ, ◌<◌, ◌≤◌, Bool, true, ◌&&◌, ltb, leb, eqb, refl, sym, ◌∙◌, ap, subst, arith}
use Rattle.std.specs.List.{filter, list_all, list_any}
use Rattle.std.proofs.lemmas.Bool.{and_parts, ltb-true, leb-true, eqb-true}
use Rattle.std.proofs.lemmas.Bool.Decides.{nat_tests}
use Rattle.calculus_table.specs.Rel.{Has}
use Rattle.calculus_table.specs.Algebra.{converse_at, entry_at}
use Rattle.calculus_table.specs.Checked.{each_below}
use Rattle.calculus_table.proofs.Computed.{each_below-at}
use Rattle.calculus_table.proofs.Sets.{Has-single}
use Rattle.calculus_table.proofs.Compositions.{single-member}
use Rattle.calculus_builtin.specs.Allen.{Interval, equals, interval, intervals, bases, single, holds, holds_at, IsInterval, ComposesByRule, FollowsRule, relations, relations_past, relations_from, allen_entry, allen_algebra}
use Rattle.calculus_builtin.proofs.Unions.{Listed, InUnionOf, union_of-member, Has-union_of, filter-listed, Listed-filter, listed-passes, Listed-from_test}
use Rattle.calculus_builtin.proofs.Numbers.{EachNumber, each_number-at}
use Rattle.calculus_builtin.proofs.AllenRanks.{ComposesByRule-ranked}
use Rattle.calculus_builtin.proofs.AllenLaws.{written, allen_table-written}

-- ---- the fifteen intervals are those among six end points

abbrev pub is_among_six : Interval → Bool
is_among_six x = ltb x.low x.high && leb x.high 5

intervals_among : list_all is_among_six intervals ≡ true
intervals_among = refl

listed-proper : (x : Interval) → Listed x intervals → IsInterval x
listed-proper x l =
    ltb-true _ _ (and_parts (ltb x.low x.high) (leb x.high 5) (listed-passes is_among_six intervals x intervals_among l)).0

listed-within : (x : Interval) → Listed x intervals → x.high ≤ 5
listed-within x l =
    leb-true _ _ (and_parts (ltb x.low x.high) (leb x.high 5) (listed-passes is_among_six intervals x intervals_among l)).1

abbrev pub has_points : ℕ → ℕ → Interval → Bool
has_points high low x = eqb low x.low && eqb high x.high

abbrev pub is_interval : ℕ → ℕ → Bool
is_interval high low = list_any (has_points high low) intervals

abbrev pub are_intervals : ℕ → Bool
are_intervals high = each_below high (is_interval high)

intervals_all : each_below 6 are_intervals ≡ true
intervals_all = refl

interval-same : (high low : ℕ) (y : Interval) → has_points high low y ≡ true → interval low high ≡ y
interval-same high low y e =
    let p = and_parts (eqb low y.low) (eqb high y.high) e in
    let lows : low ≡ y.low = eqb-true _ _ p.0 in
    let highs : high ≡ y.high = eqb-true _ _ p.1 in
    ap (λ l. interval l high) lows ∙ ap (λ h. interval y.low h) highs

listed-among : (x : Interval) → IsInterval x → x.high ≤ 5 → Listed x intervals
listed-among x proper within =
    let row = each_below-at 6 are_intervals x.high intervals_all (omega arith) in
    Listed-from_test (has_points x.high x.low) x (interval-same x.high x.low) intervals (each_below-at x.high (is_interval x.high) x.low row proper)

-- ---- the thirteen base numbers

abbrev pub is_base : ℕ → Bool
is_base t = list_any (eqb t) bases

bases_all : each_below 13 is_base ≡ true
bases_all = refl

listed-base : (t : ℕ) → t < 13 → Listed t bases
listed-base t h = Listed-from_test (eqb t) t (eqb-true t) bases (each_below-at 13 is_base t bases_all h)

-- ---- the compositions

relations-member : (x z : Interval) (t : ℕ) → Has (relations x z) t → holds t x z ≡ true
relations-member x z t h =
    let i : InUnionOf single (filter (holds_at x z) bases) t = union_of-member single (filter (holds_at x z) bases) t h in
    let same : t ≡ i.element = single-member i.element t i.member in
    ap (λ u. holds u x z) same ∙ (filter-listed (holds_at x z) bases i.element i.listed).1

Has-relations : (x z : Interval) (t : ℕ) → t < 13 → holds t x z ≡ true → Has (relations x z) t
Has-relations x z t l h =
    Has-union_of single (filter (holds_at x z) bases) t t (Listed-filter (holds_at x z) bases t (listed-base t l) h) (Has-single t)

entry-member : (r s t : ℕ) → Has (allen_entry r s) t → ComposesByRule r s t
entry-member r s t h =
    let i : InUnionOf (relations_from r s) intervals t = union_of-member (relations_from r s) intervals t h in
    let x = i.element in
    let j : InUnionOf (relations_past s x) (filter (holds r x) intervals) t = union_of-member (relations_past s x) (filter (holds r x) intervals) t i.member in
    let y = j.element in
    let k : InUnionOf (relations x) (filter (holds s y) intervals) t = union_of-member (relations x) (filter (holds s y) intervals) t j.member in
    let z = k.element in
    let first = filter-listed (holds r x) intervals y j.listed in
    let second = filter-listed (holds s y) intervals z k.listed in
    record {
      x = x;
      y = y;
      z = z;
      x_within = listed-within x i.listed;
      y_within = listed-within y first.0;
      z_within = listed-within z second.0;
      lie = record {
        x_proper = listed-proper x i.listed;
        y_proper = listed-proper y first.0;
        z_proper = listed-proper z second.0;
        first = first.1;
        second = second.1;
        third = relations-member x z t k.member;
      };
    }

Has-entry : (r s t : ℕ) → t < 13 → ComposesByRule r s t → Has (allen_entry r s) t
Has-entry r s t l c =
    let lie = c.lie in
    let xs : Listed c.x intervals = listed-among c.x lie.x_proper c.x_within in
    let ys : Listed c.y intervals = listed-among c.y lie.y_proper c.y_within in
    let zs : Listed c.z intervals = listed-among c.z lie.z_proper c.z_within in
    Has-union_of (relations_from r s) intervals t c.x xs
    (Has-union_of (relations_past s c.x) (filter (holds r c.x) intervals) t c.y (Listed-filter (holds r c.x) intervals c.y ys lie.first)
    (Has-union_of (relations c.x) (filter (holds s c.y) intervals) t c.z (Listed-filter (holds s c.y) intervals c.z zs lie.second)
    (Has-relations c.x c.z t l lie.third)))

-- ---- the entries of the table

abbrev pub is_entry : ℕ → ℕ → Bool
is_entry r s = eqb (entry_at written r s) (allen_entry r s)

abbrev pub are_entries : ℕ → Bool
are_entries r = each_below 13 (is_entry r)

entries_all : each_below 13 are_entries ≡ true
entries_all = refl

written-entry : (r s : ℕ) → r < 13 → s < 13 → entry_at written r s ≡ allen_entry r s
written-entry r s hr hs =
    eqb-true _ _ (each_below-at 13 (is_entry r) s (each_below-at 13 are_entries r entries_all hr) hs)

-- ---- the converses

abbrev pub TurnsRule : ℕ → Type 0
TurnsRule r = (x y : Interval) → holds (converse_at written r) x y ≡ holds r y x

eqb-swap : (a b : ℕ) → eqb a b ≡ eqb b a
eqb-swap a b = grind (arith, nat_tests)

equals-swap : (x y : Interval) → equals x y ≡ equals y x
equals-swap x y =
    ap (λ b. b && eqb x.high y.high) (eqb-swap x.low y.low) ∙ ap (λ b. eqb y.low x.low && b) (eqb-swap x.high y.high)

rules_of_converses : EachNumber 13 TurnsRule
rules_of_converses =
    (λ x y. refl, (λ x y. refl, (λ x y. refl, (λ x y. refl, (λ x y. refl, (λ x y. refl, (equals-swap, (λ x y. refl, (λ x y. refl, (λ x y. refl, (λ x y. refl, (λ x y. refl, (λ x y. refl, tt)))))))))))))

written-rule : FollowsRule written
written-rule = record {
  composes = λ r s t hr hs ht. let e = written-entry r s hr hs in
      (λ h. entry-member r s t (rw e at h), λ c. rw e (Has-entry r s t ht c));
  sound = λ r s t x y z hr hs ht lie.
      rw (written-entry r s hr hs) (Has-entry r s t ht (ComposesByRule-ranked r s t x y z hr hs ht lie));
  turns = λ r x y hr. each_number-at 13 TurnsRule rules_of_converses r hr x y;
}

-- Allen's algebra follows the end point rule
pub allen_rule : FollowsRule allen_algebra
allen_rule =
    subst (λ table. FollowsRule (record allen_algebra { table = table })) (sym allen_table-written) written-rule
