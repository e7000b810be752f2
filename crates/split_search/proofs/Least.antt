-- A network without an empty set has least base relations, and one list of them.
use Rattle.std.proofs.Common.{◌≡◌, ◌≢◌, ℕ, zero, suc, ◌/◌, ◌%◌, ◌<◌, ◌≤◌, List, [], ◌∷◌, length, sym, ◌∙◌, arith, inl}
use Rattle.std.proofs.Common.{inr}
use Rattle.std.specs.Prelude.{Contains, slice_index}
use Rattle.std.proofs.lemmas.Bool.{cases_eq}
use Rattle.std.proofs.lemmas.Nat.{mod_below}
use Rattle.std.proofs.lemmas.Nat.Bits.{bit_at_lowest, bit_at-suc}
use Rattle.std.proofs.lemmas.Grind.{same_number_lists}
use Rattle.calculus_table.specs.Rel.{Has}
use Rattle.tract_classes.proofs.Ascending.{Contains-cons}
use Rattle.tract_classes.specs.Straight.{IsLeast}
use Rattle.split_search.specs.Laws.{LeastExist, LeastAreOne}

least_of : (fuel a : ℕ) → a ≤ fuel → a ≢ 0 → (r : ℕ) × IsLeast a r
least_of zero a low some = absurd (some (omega arith))
least_of (suc fuel) a low some = elim (cases_eq (a % 2) 1) [
  | inl odd ↦ (0, record { here = bit_at_lowest a ∙ odd; least = λ t has. omega arith })
  | inr even ↦ (let below = mod_below a 2 (omega arith) in
      let half : a / 2 ≢ 0 = λ none. some (omega (arith, even, none, below)) in
      let rest = least_of fuel (a / 2) (omega arith) half in (
        suc rest.0,
        record {
          here = bit_at-suc a rest.0 ∙ rest.1.here;
          least = λ t has. above a rest.0 t even rest.1 has;
        },
      ))
]
  where
    above : (b r t : ℕ) → b % 2 ≢ 1 → IsLeast (b / 2) r → Has b t → suc r ≤ t
    above b r zero even half has = absurd (even (sym (bit_at_lowest b) ∙ has))
    above b r (suc t) even half has = omega (arith, half.least t (sym (bit_at-suc b t) ∙ has))

-- the least base relation of each set
record AreAllLeast (words rs : List ℕ) : Type 0 where
  same : length rs ≡ length words
  each : (e : ℕ) → e < length words → IsLeast (slice_index words e) (slice_index rs e)

all_least_of : (words : List ℕ) → ¬ Contains words 0 →
    (rs : List ℕ) × AreAllLeast words rs
all_least_of [] some = ([], record { same = omega arith; each = λ e below. absurd (omega arith) })
all_least_of (a ∷ words) some =
    let first = least_of a a (omega arith) (λ e. some (0, omega arith, e)) in
    let rest = all_least_of words (λ c. some (Contains-cons a words 0 c)) in (
      first.0 ∷ rest.0,
      record {
        same = omega (arith, rest.1.same);
        each = λ e below. at e first.0 rest.0 first.1 rest.1 below;
      },
    )
  where
    at : (e r : ℕ) (rs : List ℕ) → IsLeast a r → AreAllLeast words rs → e < length (a ∷ words) →
        IsLeast (slice_index (a ∷ words) e) (slice_index (r ∷ rs) e)
    at zero r rs h g below = h
    at (suc e) r rs h g below = g.each e (omega arith)

pub least_exist : LeastExist
least_exist n words same some =
    let found = all_least_of words some in (
      found.0,
      record {
        length_is = found.1.same ∙ same;
        each = λ e below. found.1.each e (omega (arith, below, same));
      },
    )

pub least_one : LeastAreOne
least_one n words rs ss a b = same_number_lists rs ss (a.length_is ∙ sym b.length_is) (λ e l.
    let first = a.each e (omega (arith, l, a.length_is)) in
    let second = b.each e (omega (arith, l, a.length_is)) in
    omega (arith, first.least (slice_index ss e) second.here, second.least (slice_index rs e) first.here))
