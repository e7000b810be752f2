-- Unions over the members of a set, byte by byte.
use Rattle.std.proofs.Common.{◌≡◌, ℕ, zero, suc, ◌<◌, Bool, true, false, cond, refl, sym, ◌∙◌, ap, subst, arith, inl, inr}
use Rattle.std.proofs.lemmas.Bool.{cases_eq}
use Rattle.std.specs.Prelude.{bit_or, ◌==◌}
use Rattle.std.specs.Int.{bit_at}
use Rattle.calculus_table.specs.Rel.{IsWithin, IsWithout}
use Rattle.calculus_table.specs.Algebra.{Algebra}
use Rattle.calculus_table.specs.Composition.{full_of, union_below, if_has, row_composition, composition}
use Rattle.calculus_table.proofs.Sets.{meet-within, not_Has-empty, IsWithin-trans, IsWithin-empty, IsWithin-union, IsWithin-union_l, IsWithin-union_r}
use Rattle.calculus_table.proofs.Members.{InUnion, union_below-member, if_has-member}
use Rattle.calculus_table.proofs.Unions.{union_over, union_over-has, IsUnionBut, IsUnionBut-start, IsUnionBut-end}
use Rattle.compose_fast.specs.Nibbles.{byte}
use Rattle.compose_fast.proofs.Parts.{byte-union, byte-empty}

-- at first all members are left
pub IsUnionBut-within : (m : Algebra) (f : ℕ → ℕ) (a all : ℕ) → IsWithin a (full_of m) → all ≡ 0 → IsUnionBut m.size f a a all
IsUnionBut-within m f a all w e =
    subst (IsUnionBut m.size f a a) (sym e) (subst (λ left. IsUnionBut m.size f a left 0) (meet-within a (full_of m) w) (IsUnionBut-start m f a))

byte-if_has : (p x : ℕ) (b : Bool) → cond b (byte x p) 0 ≡ byte (cond b x 0) p
byte-if_has p x true = refl
byte-if_has p x false = sym (byte-empty p)

-- byte p of a union is the union of the bytes p
pub byte-union_over : (n p a : ℕ) (f g : ℕ → ℕ) → ((r : ℕ) → r < n → f r ≡ byte (g r) p) → union_over n f a ≡ byte (union_over n g a) p
unfolding union_below
byte-union_over zero p a f g e = sym (byte-empty p)
byte-union_over (suc n) p a f g e =
    ap (bit_or (union_over n f a)) (ap (if_has a n) (e n (omega arith)) ∙ byte-if_has p (g n) (bit_at a n == 1))
    ∙ ap (λ x. bit_or x (byte (if_has a n (g n)) p)) (byte-union_over n p a f g (λ r l. e r (omega arith)))
    ∙ sym (byte-union (union_over n g a) (if_has a n (g n)) p)

-- the union over a set is that over the set without a member, with that of the member
pub union_over-without : (n : ℕ) (f : ℕ → ℕ) (a r rest : ℕ) → r < n → IsWithout a r rest → union_over n f a ≡ bit_or (union_over n f rest) (f r)
union_over-without n f a r rest b p =
    let all = bit_or (union_over n f rest) (f r) in
    sym (IsUnionBut-end n f a 0 all refl (record {
      within = IsWithin-empty a;
      below = λ q h. absurd (not_Has-empty q h);
      sound = IsWithin-union (union_over n f rest) (f r) _
          (record {
            each = λ t h. let i : InUnion n (λ q. if_has rest q (f q)) t = union_below-member n (λ q. if_has rest q (f q)) t h in
                let m = if_has-member rest i.at (f i.at) t i.member in
                (union_over-has n f a i.at i.below (p.within.each i.at m.0)).each t m.1;
          })
          (union_over-has n f a r b p.member);
      seen = λ q l h. elim (cases_eq q r) [
        | inl e ↦ inr (subst (λ k. IsWithin (f k) all) (sym e) (IsWithin-union_r (union_over n f rest) (f r)))
        | inr ne ↦ inr (IsWithin-trans (f q) (union_over n f rest) all (union_over-has n f rest q l (p.others q h ne)) (IsWithin-union_l (union_over n f rest) (f r)))
      ];
    }))

-- byte 0 of what a set composed with b gives, from that of the set without a member
pub byte-composition-without : (m : Algebra) (a r rest b : ℕ) → r < m.size → IsWithout a r rest →
    bit_or (byte (composition m rest b) 0) (byte (row_composition m r b) 0) ≡ byte (composition m a b) 0
byte-composition-without m a r rest b l p =
    sym (byte-union (composition m rest b) (row_composition m r b) 0) ∙ ap (λ x. byte x 0) (sym (union_over-without m.size (λ q. row_composition m q b) a r rest l p))
