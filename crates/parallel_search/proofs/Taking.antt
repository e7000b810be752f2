-- Elements of a list after one of them was taken out, and the last one put in its place.
use Rattle.std.proofs.Common.{◌≡◌, ℕ, ◌+◌, ◌-◌, ◌<◌, List, length, sym, subst, arith, inl, inr}
use Rattle.std.specs.Prelude.{slice_index_or, ◌≢◌}
use Rattle.std.specs.List.{All}
use Rattle.std.proofs.lemmas.Bool.{cases_eq}

-- what is known of the list afterwards, index by index
pub record IsTaken {X : Type 0} (old new : List X) (i : ℕ) : Type 0 where
  pub below : i < length old
  pub len : length new + 1 ≡ length old
  pub here : (d : X) → i + 1 < length old → slice_index_or new i d ≡ slice_index_or old (length old - 1) d
  pub others : (k : ℕ) (d : X) → k ≢ i → k + 1 < length old → slice_index_or new k d ≡ slice_index_or old k d

pub All-taken : {X : Type 0} (P : X → Type 0) (old new : List X) (i : ℕ) → IsTaken old new i → All P old → All P new
All-taken P old new i t all = λ k d l. elim (cases_eq k i) as (λ _. P (slice_index_or new k d)) [
  | inl e ↦ rw e (subst P (sym (t.here d (omega (arith, t.len, l, e))))
      (all (length old - 1) d (omega (arith, t.below))))
  | inr ne ↦ subst P (sym (t.others k d ne (omega (arith, t.len, l)))) (all k d (omega (arith, t.len, l)))
]
