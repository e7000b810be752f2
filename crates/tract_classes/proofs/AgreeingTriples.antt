-- Triples whose least base relations agree.
use Rattle.std.proofs.Common.{◌≡◌, ℕ, sym, ap, ◌∙◌, subst, arith}
use Rattle.calculus_table.specs.Rel.{Has}
use Rattle.calculus_table.specs.Algebra.{Algebra, entry_at}
use Rattle.tract_classes.specs.Straight.{IsLeast, IsClosedTriple, Agree, HasLeastOf}

IsLeast-one : (a r s : ℕ) → IsLeast a r → IsLeast a s → r ≡ s
IsLeast-one a r s h k = omega (arith, h.least s k.here, k.least r h.here)

-- sets a and b with the least base relations r and s, whose composition is `entry`
module _ (m : Algebra) (a b d r s entry : ℕ) (first : IsLeast a r) (second : IsLeast b s)
    (is : entry ≡ entry_at m r s) where
  pub agree-from_least : HasLeastOf entry d → Agree m a b d
  agree-from_least has p q t closed h k l =
      let e : p ≡ r = IsLeast-one a p r h first in
      let f : q ≡ s = IsLeast-one b q s k second in
      subst (λ x. Has x t) (is ∙ ap (λ x. entry_at m x s) (sym e) ∙ ap (entry_at m p) (sym f)) (has t l)

  pub least-from_agree : IsClosedTriple m a b d → Agree m a b d → HasLeastOf entry d
  least-from_agree closed agree t l = subst (λ x. Has x t) (sym is) (agree r s t closed first second l)
