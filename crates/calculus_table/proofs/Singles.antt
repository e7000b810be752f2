-- Sets of one base relation: what they are within, their converses and their compositions.
use Rattle.std.proofs.Common.{◌≡◌, ℕ, ◌^◌, ◌<◌, sym, ap, ◌∙◌, subst}
use Rattle.calculus_table.specs.Rel.{Has, IsWithin}
use Rattle.calculus_table.specs.Algebra.{Algebra, converse_at, entry_at}
use Rattle.calculus_table.specs.Composition.{composition, converse, InConverse}
use Rattle.calculus_table.specs.Calculus.{IsTable}
use Rattle.calculus_table.proofs.Sets.{Has-single, IsWithin-antisym}
use Rattle.calculus_table.proofs.Members.{single-member, full-member, composition-member, Has-composition, converse-member}
use Rattle.calculus_table.proofs.Compositions.{Has-converse_at}

pub single-within : (r a : ℕ) → Has a r → IsWithin (2 ^ r) a
single-within r a h = record { each = λ t p. subst (Has a) (sym (single-member r t p)) h }

pub within-single : (r a : ℕ) → IsWithin (2 ^ r) a → Has a r
within-single r a w = w.each r (Has-single r)

-- the converse of a single set is that of its member
pub converse-single : (m : Algebra) (r : ℕ) → r < m.size → converse m (2 ^ r) ≡ 2 ^ converse_at m r
converse-single m r l = IsWithin-antisym _ _
    (record {
      each = λ t h. let i : InConverse m (2 ^ r) t = converse-member m (2 ^ r) t h in
          let e : converse_at m r ≡ t = ap (converse_at m) (sym (single-member r i.base i.base_in)) ∙ i.is_converse in
          subst (Has (2 ^ converse_at m r)) e (Has-single (converse_at m r));
    })
    (single-within (converse_at m r) (converse m (2 ^ r)) (Has-converse_at m (2 ^ r) r l (Has-single r)))

-- the composition of single sets is that of their members
pub composition-single : (m : Algebra) (r s : ℕ) → IsTable m → r < m.size → s < m.size → composition m (2 ^ r) (2 ^ s) ≡ entry_at m r s
composition-single m r s table below below2 =
    IsWithin-antisym (composition m (2 ^ r) (2 ^ s)) (entry_at m r s)
    (record {
      each = λ t h.
          let i = composition-member m (2 ^ r) (2 ^ s) t table h in
          let first : i.first ≡ r = single-member r i.first i.first_in in
          let second : i.second ≡ s = single-member s i.second i.second_in in
          subst (λ k. Has (entry_at m k s) t) first (subst (λ k. Has (entry_at m i.first k) t) second i.composes.member);
    })
    (record {
      each = λ t h.
          Has-composition m (2 ^ r) (2 ^ s) t (record {
            first = r;
            second = s;
            first_in = Has-single r;
            second_in = Has-single s;
            composes = record { first_below = below; second_below = below2; below = full-member m t ((table.entry_within r s below below2).each t h); member = h };
          });
    })
