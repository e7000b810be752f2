-- What was given keeps the shape of a table.
use Rattle.std.proofs.Common.{◌≡◌, ℕ, zero, suc, ◌+◌, ◌*◌, ◌-◌, ◌^◌, ◌<◌, ◌≤◌, List, ◌∷◌, length, map, set, replicate, get_or, drop, Option, Some, None, inl, inr, refl, sym, ap, ◌∙◌, subst, arith}
use Rattle.std.proofs.lemmas.List.{length-map, length-replicate, length-set, map-set, get_or-set_same, get_or-set_other, at_drop_more}
use Rattle.std.proofs.lemmas.Bool.{cases_eq}
use Rattle.calculus_table.specs.Rel.{IsWithin}
use Rattle.calculus_table.specs.declared.TheConstants.{MAX_BASES}
use Rattle.calculus_table.proofs.Sets.{IsWithin-empty}
use Rattle.calculus_load.specs.Given.{Given, HasShape, value_of, first_missing_from}
use Rattle.calculus_load.specs.TableFile.{nothing_given}

-- a fact of each place is kept where one place gets a value with it
place_kept : (P : ℕ → Type 0) (xs : List (Option ℕ)) (k v i : ℕ) → k < length xs → P v → P (get_or (map value_of xs) i 0) → P (get_or (map value_of (set xs k (Some v))) i 0)
place_kept P xs k v i below new old =
    subst P (sym (ap (λ ys. get_or ys i 0) (map-set value_of xs k (Some v))))
    (elim (cases_eq i k) [
      | inl e ↦ subst P (sym (ap (λ j. get_or (set (map value_of xs) k v) j 0) e ∙ get_or-set_same (map value_of xs) k v 0 (omega (arith, length-map xs value_of)))) new
      | inr ne ↦ subst P (sym (get_or-set_other (map value_of xs) k i v 0 ne)) old
    ])

length-given : (xs : List (Option ℕ)) (k v : ℕ) → length (map value_of (set xs k (Some v))) ≡ length (map value_of xs)
length-given xs k v = length-map (set xs k (Some v)) value_of ∙ length-set xs k (Some v) ∙ sym (length-map xs value_of)

pub HasShape-converse : (g : Given) (a b : ℕ) → HasShape g → a < length g.names → b < length g.names → HasShape (record g { converses = set g.converses a (Some b) })
HasShape-converse g a b h first second =
    let long : length (map value_of g.converses) ≡ length g.names = h.converses_length in
    record {
      some = h.some;
      bounded = h.bounded;
      identity_below = h.identity_below;
      converses_length = length-given g.converses a b ∙ long;
      table_length = h.table_length;
      converse_below = λ r below. place_kept (λ c. c < length g.names) g.converses a b r (omega (arith, length-map g.converses value_of, long)) second (h.converse_below r below);
      entry_within = h.entry_within;
    }

pub HasShape-entry : (g : Given) (k set' : ℕ) → HasShape g → k < length g.names * length g.names → IsWithin set' (2 ^ length g.names - 1) → HasShape (record g { entries = set g.entries k (Some set') })
HasShape-entry g k set' h below within =
    let long : length (map value_of g.entries) ≡ length g.names * length g.names = h.table_length in
    record {
      some = h.some;
      bounded = h.bounded;
      identity_below = h.identity_below;
      converses_length = h.converses_length;
      table_length = length-given g.entries k set' ∙ long;
      converse_below = h.converse_below;
      entry_within = λ r s b1 b2. place_kept (λ e. IsWithin e (2 ^ length g.names - 1)) g.entries k set' (r * length g.names + s) (subst (λ n. k < n) (sym long ∙ length-map g.entries value_of) below) within (h.entry_within r s b1 b2);
    }

-- nothing was given
nothing-at : (n i : ℕ) → get_or (map value_of (replicate n None)) i 0 ≡ 0
nothing-at zero i = refl
nothing-at (suc n) zero = refl
nothing-at (suc n) (suc i) = nothing-at n i

length-nothing : (n : ℕ) → length (map value_of (replicate n None)) ≡ n
length-nothing n = length-map (replicate n None) value_of ∙ length-replicate n None

pub HasShape-nothing : (names : List (List ℕ)) (id : ℕ) → length names ≤ MAX_BASES → id < length names → HasShape (nothing_given names id)
HasShape-nothing names id few below =
    record {
      some = omega arith;
      bounded = few;
      identity_below = below;
      converses_length = length-nothing (length names);
      table_length = length-nothing (length names * length names);
      converse_below = λ r b. subst (λ c. c < length names) (sym (nothing-at (length names) r)) (omega arith);
      entry_within = λ r s b1 b2. subst (λ e. IsWithin e (2 ^ length names - 1)) (sym (nothing-at (length names * length names) (r * length names + s))) (IsWithin-empty (2 ^ length names - 1));
    }

pub HasShape-fresh : (names : List (List ℕ)) (id n : ℕ) (converses entries : List (Option ℕ)) → length names ≤ MAX_BASES → id < length names → n ≡ length names
    → converses ≡ replicate n None → entries ≡ replicate (n * n) None → HasShape (record { names = names; identity = id; converses = converses; entries = entries })
HasShape-fresh names id n converses entries few below e c1 c2 =
    let with_converses : List (Option ℕ) → Given = λ x. record { names = names; identity = id; converses = x; entries = entries } in
    let with_entries : List (Option ℕ) → Given = λ x. record { names = names; identity = id; converses = replicate (length names) None; entries = x } in
    subst HasShape (sym (ap with_converses (c1 ∙ ap (λ k. replicate k None) e) ∙ ap with_entries (c2 ∙ ap (λ k. replicate (k * k) None) e)))
    (HasShape-nothing names id few below)

-- the first place at which nothing was given
pub first_missing-hit : {A : Type 0} (xs : List (Option A)) (k : ℕ) → k < length xs → get_or xs k None ≡ None → first_missing_from k (drop k xs) ≡ Some k
first_missing-hit {A = A} xs k below h =
    at_drop_more (first_missing_from k) xs k None below ∙ ap (λ (o : Option A). first_missing_from k (o ∷ drop (k + 1) xs)) h
