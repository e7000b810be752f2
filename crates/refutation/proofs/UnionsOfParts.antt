-- Unions of sets, from the first one on.
use Rattle.std.proofs.Common.{◌≡◌, ℕ, zero, suc, ◌<◌, ◌≤◌, ◌+◌, List, [], ◌∷◌, length, drop, get_or, sym, ◌∙◌, ap, arith, inl, inr, add-one, refl}
use Rattle.std.specs.Prelude.{bit_or}
use Rattle.std.specs.Int.Bits.{or_zero_r}
use Rattle.std.proofs.Math.Seq.{drop-cons}
use Rattle.calculus_table.proofs.Sets.{IsWithin-antisym, Has-union, Has-union_l, Has-union_r}
use Rattle.split_trees.specs.Refutes.{union_of}

pub union_assoc : (a b c : ℕ) → bit_or (bit_or a b) c ≡ bit_or a (bit_or b c)
union_assoc a b c = IsWithin-antisym (bit_or (bit_or a b) c) (bit_or a (bit_or b c))
    (record {
      each = λ r h. elim (Has-union (bit_or a b) c r h) [
        | inl ab ↦ elim (Has-union a b r ab) [ inl x ↦ Has-union_l a (bit_or b c) r x | inr y ↦ Has-union_r a (bit_or b c) r (Has-union_l b c r y) ]
        | inr z ↦ Has-union_r a (bit_or b c) r (Has-union_r b c r z)
      ];
    })
    (record {
      each = λ r h. elim (Has-union a (bit_or b c) r h) [
        | inl x ↦ Has-union_l (bit_or a b) c r (Has-union_l a b r x)
        | inr bc ↦ elim (Has-union b c r bc) [ inl y ↦ Has-union_l (bit_or a b) c r (Has-union_r a b r y) | inr z ↦ Has-union_r (bit_or a b) c r z ]
      ];
    })

pub union-more : (all : ℕ) (parts : List ℕ) (k part : ℕ) → k < length parts → part ≡ get_or parts k 0 →
    bit_or (bit_or all part) (union_of (drop (k + 1) parts)) ≡ bit_or all (union_of (drop k parts))
union-more all parts k part b is_part =
    let e : drop k parts ≡ part ∷ drop (k + 1) parts =
    drop-cons parts k 0 b ∙ ap (λ x. x ∷ drop (suc k) parts) (sym is_part) ∙ ap (λ q. part ∷ drop q parts) (sym (add-one k)) in
    union_assoc all part (union_of (drop (k + 1) parts)) ∙ ap (λ xs. bit_or all (union_of xs)) (sym e)

pub union-end : (all : ℕ) (parts : List ℕ) (k : ℕ) → length parts ≤ k → all ≡ bit_or all (union_of (drop k parts))
union-end all parts k l = sym (ap (λ xs. bit_or all (union_of xs)) (past parts k l) ∙ or_zero_r all)
  where
    past : (xs : List ℕ) (k : ℕ) → length xs ≤ k → drop k xs ≡ []
    past [] zero l = refl
    past [] (suc k) l = refl
    past (y ∷ ys) zero l = absurd (omega arith)
    past (y ∷ ys) (suc k) l = past ys k (omega arith)
