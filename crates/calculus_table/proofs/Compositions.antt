-- The laws of composition and converse of sets of base relations.
use Rattle.std.proofs.Common.{◌≡◌, ℕ, ◌^◌, ◌<◌, refl, sym, ◌∙◌, ap, subst, inl, inr}
use Rattle.std.specs.Prelude.{bit_or}
use Rattle.calculus_table.specs.Rel.{Has, IsWithin}
use Rattle.calculus_table.specs.Algebra.{Algebra, converse_at, entry_at}
use Rattle.calculus_table.specs.Composition.{full_of, composition, converse, InComposition, InConverse}
use Rattle.calculus_table.specs.Calculus.{IsTable, IsCalculus}
use Rattle.calculus_table.proofs.Sets.{Has-union, Has-union_l, Has-union_r, Has-single, IsWithin-refl, IsWithin-antisym}
pub use Rattle.calculus_table.proofs.Members.{single-member, Has-full, full-member, InUnion, union_below-member, Has-union_below, if_has-member, Has-if_has, composition-member, Has-composition, converse-member, Has-converse, composition-members, converse-members, composition-within, converse-within}

-- ---- unions and converses

-- composition is monotone
pub composition-mono : (m : Algebra) (a b c d : ℕ) → IsTable m → IsWithin a c → IsWithin b d → IsWithin (composition m a b) (composition m c d)
composition-mono m a b c d k p q = record {
  each = λ t h. let i : InComposition m a b t = composition-member m a b t k h in
      Has-composition m c d t (record { first = i.first; second = i.second; first_in = p.each i.first i.first_in; second_in = q.each i.second i.second_in; composes = i.composes });
}

-- converse is monotone
pub converse-mono : (m : Algebra) (a b : ℕ) → IsWithin a b → IsWithin (converse m a) (converse m b)
converse-mono m a b p = record {
  each = λ t h. let i : InConverse m a t = converse-member m a t h in
      Has-converse m b t (record { base = i.base; below = i.below; base_in = p.each i.base i.base_in; is_converse = i.is_converse });
}

-- composition distributes over a union on the left
pub composition-union_l : (m : Algebra) (a b c : ℕ) → IsTable m → composition m (bit_or a b) c ≡ bit_or (composition m a c) (composition m b c)
composition-union_l m a b c k = IsWithin-antisym _ _
    (record {
      each = λ t h. let i : InComposition m (bit_or a b) c t = composition-member m (bit_or a b) c t k h in
          elim (Has-union a b i.first i.first_in) [
            | inl x ↦ Has-union_l _ _ t (Has-composition m a c t (record { first = i.first; second = i.second; first_in = x; second_in = i.second_in; composes = i.composes }))
            | inr y ↦ Has-union_r _ _ t (Has-composition m b c t (record { first = i.first; second = i.second; first_in = y; second_in = i.second_in; composes = i.composes }))
          ];
    })
    (record {
      each = λ t h. elim (Has-union _ _ t h) [
        | inl x ↦ (composition-mono m a c (bit_or a b) c k (record { each = λ r p. Has-union_l a b r p }) (IsWithin-refl c)).each t x
        | inr y ↦ (composition-mono m b c (bit_or a b) c k (record { each = λ r p. Has-union_r a b r p }) (IsWithin-refl c)).each t y
      ];
    })

-- composition distributes over a union on the right
pub composition-union_r : (m : Algebra) (a b c : ℕ) → IsTable m → composition m a (bit_or b c) ≡ bit_or (composition m a b) (composition m a c)
composition-union_r m a b c k = IsWithin-antisym _ _
    (record {
      each = λ t h. let i : InComposition m a (bit_or b c) t = composition-member m a (bit_or b c) t k h in
          elim (Has-union b c i.second i.second_in) [
            | inl x ↦ Has-union_l _ _ t (Has-composition m a b t (record { first = i.first; second = i.second; first_in = i.first_in; second_in = x; composes = i.composes }))
            | inr y ↦ Has-union_r _ _ t (Has-composition m a c t (record { first = i.first; second = i.second; first_in = i.first_in; second_in = y; composes = i.composes }))
          ];
    })
    (record {
      each = λ t h. elim (Has-union _ _ t h) [
        | inl x ↦ (composition-mono m a b a (bit_or b c) k (IsWithin-refl a) (record { each = λ r p. Has-union_l b c r p })).each t x
        | inr y ↦ (composition-mono m a c a (bit_or b c) k (IsWithin-refl a) (record { each = λ r p. Has-union_r b c r p })).each t y
      ];
    })

-- converse distributes over a union
pub converse-union : (m : Algebra) (a b : ℕ) → converse m (bit_or a b) ≡ bit_or (converse m a) (converse m b)
converse-union m a b = IsWithin-antisym _ _
    (record {
      each = λ t h. let i : InConverse m (bit_or a b) t = converse-member m (bit_or a b) t h in
          elim (Has-union a b i.base i.base_in) [
            | inl x ↦ Has-union_l _ _ t (Has-converse m a t (record { base = i.base; below = i.below; base_in = x; is_converse = i.is_converse }))
            | inr y ↦ Has-union_r _ _ t (Has-converse m b t (record { base = i.base; below = i.below; base_in = y; is_converse = i.is_converse }))
          ];
    })
    (record {
      each = λ t h. elim (Has-union _ _ t h) [
        | inl x ↦ (converse-mono m a (bit_or a b) (record { each = λ r p. Has-union_l a b r p })).each t x
        | inr y ↦ (converse-mono m b (bit_or a b) (record { each = λ r p. Has-union_r a b r p })).each t y
      ];
    })

-- the converse of the converse of a set of base relations is the set
pub converse-converse : (m : Algebra) (a : ℕ) → IsCalculus m → IsWithin a (full_of m) → converse m (converse m a) ≡ a
converse-converse m a k w = IsWithin-antisym _ _
    (record {
      each = λ t h. let i : InConverse m (converse m a) t = converse-member m (converse m a) t h in
          let j : InConverse m a i.base = converse-member m a i.base i.base_in in
          let e : j.base ≡ t = sym (k.involution j.base j.below).twice ∙ ap (converse_at m) j.is_converse ∙ i.is_converse in
          subst (Has a) e j.base_in;
    })
    (record {
      each = λ t h. let l : t < m.size = full-member m t (w.each t h) in
          Has-converse m (converse m a) t (record {
            base = converse_at m t;
            below = k.table.converse_below t l;
            base_in = Has-converse m a (converse_at m t) (record { base = t; below = l; base_in = h; is_converse = refl });
            is_converse = (k.involution t l).twice;
          });
    })

-- the members of a converse of base relations below the size
pub Has-converse_at : (m : Algebra) (a r : ℕ) → r < m.size → Has a r → Has (converse m a) (converse_at m r)
Has-converse_at m a r l h = Has-converse m a (converse_at m r) (record { base = r; below = l; base_in = h; is_converse = refl })

-- the converse of A;B is (the converse of B);(the converse of A)
pub converse-composition : (m : Algebra) (a b : ℕ) → IsCalculus m → converse m (composition m a b) ≡ composition m (converse m b) (converse m a)
converse-composition m a b k = IsWithin-antisym _ _
    (record {
      each = λ t h. let i : InConverse m (composition m a b) t = converse-member m (composition m a b) t h in
          let j : InComposition m a b i.base = composition-member m a b i.base k.table i.base_in in
          let r_below = j.composes.first_below in
          let s_below = j.composes.second_below in
          subst (Has (composition m (converse m b) (converse m a))) i.is_converse
          (Has-composition m (converse m b) (converse m a) (converse_at m i.base) (record {
            first = converse_at m j.second;
            second = converse_at m j.first;
            first_in = Has-converse_at m b j.second s_below j.second_in;
            second_in = Has-converse_at m a j.first r_below j.first_in;
            composes = record {
              first_below = k.table.converse_below j.second s_below;
              second_below = k.table.converse_below j.first r_below;
              below = k.table.converse_below i.base i.below;
              member = (k.converse j.first j.second i.base r_below s_below i.below).0 j.composes.member;
            };
          }));
    })
    (record {
      each = λ t h. let j : InComposition m (converse m b) (converse m a) t = composition-member m (converse m b) (converse m a) t k.table h in
          let s : InConverse m b j.first = converse-member m b j.first j.first_in in
          let r : InConverse m a j.second = converse-member m a j.second j.second_in in
          let l : t < m.size = j.composes.below in
          let l' : converse_at m t < m.size = k.table.converse_below t l in
          let twice : converse_at m (converse_at m t) ≡ t = (k.involution t l).twice in
          let of_converses : Has (entry_at m (converse_at m s.base) (converse_at m r.base)) (converse_at m (converse_at m t))
          = subst (λ x. Has (entry_at m x (converse_at m r.base)) (converse_at m (converse_at m t))) (sym s.is_converse)
          (subst (λ y. Has (entry_at m j.first y) (converse_at m (converse_at m t))) (sym r.is_converse)
          (subst (Has (entry_at m j.first j.second)) (sym twice) j.composes.member)) in
          Has-converse m (composition m a b) t (record {
            base = converse_at m t;
            below = l';
            is_converse = twice;
            base_in = Has-composition m a b (converse_at m t) (record {
              first = r.base;
              second = s.base;
              first_in = r.base_in;
              second_in = s.base_in;
              composes = record {
                first_below = r.below;
                second_below = s.below;
                below = l';
                member = (k.converse r.base s.base (converse_at m t) r.below s.below l').1 of_converses;
              };
            });
          });
    })

-- ---- the identity

pub composition-identity_l : (m : Algebra) (a : ℕ) → IsCalculus m → IsWithin a (full_of m) → composition m (2 ^ m.identity) a ≡ a
composition-identity_l m a k w = IsWithin-antisym _ _
    (record {
      each = λ t h. let i : InComposition m (2 ^ m.identity) a t = composition-member m (2 ^ m.identity) a t k.table h in
          let e : i.first ≡ m.identity = single-member m.identity i.first i.first_in in
          let own : Has (2 ^ i.second) t = subst (λ x. Has x t) (k.identity i.second i.composes.second_below).left (subst (λ r. Has (entry_at m r i.second) t) e i.composes.member) in
          subst (Has a) (sym (single-member i.second t own)) i.second_in;
    })
    (record {
      each = λ t h. let l : t < m.size = full-member m t (w.each t h) in
          Has-composition m (2 ^ m.identity) a t (record {
            first = m.identity;
            second = t;
            first_in = Has-single m.identity;
            second_in = h;
            composes = record {
              first_below = k.table.identity_below;
              second_below = l;
              below = l;
              member = subst (λ x. Has x t) (sym (k.identity t l).left) (Has-single t);
            };
          });
    })

pub composition-identity_r : (m : Algebra) (a : ℕ) → IsCalculus m → IsWithin a (full_of m) → composition m a (2 ^ m.identity) ≡ a
composition-identity_r m a k w = IsWithin-antisym _ _
    (record {
      each = λ t h. let i : InComposition m a (2 ^ m.identity) t = composition-member m a (2 ^ m.identity) t k.table h in
          let e : i.second ≡ m.identity = single-member m.identity i.second i.second_in in
          let own : Has (2 ^ i.first) t = subst (λ x. Has x t) (k.identity i.first i.composes.first_below).right (subst (λ s. Has (entry_at m i.first s) t) e i.composes.member) in
          subst (Has a) (sym (single-member i.first t own)) i.first_in;
    })
    (record {
      each = λ t h. let l : t < m.size = full-member m t (w.each t h) in
          Has-composition m a (2 ^ m.identity) t (record {
            first = t;
            second = m.identity;
            first_in = h;
            second_in = Has-single m.identity;
            composes = record {
              first_below = l;
              second_below = k.table.identity_below;
              below = l;
              member = subst (λ x. Has x t) (sym (k.identity t l).right) (Has-single t);
            };
          });
    })
