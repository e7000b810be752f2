-- The triples of which a law says the same.
use Rattle.std.proofs.Common.{ℕ, ◌<◌, ◌↔◌, subst}
use Rattle.calculus_table.specs.Rel.{Has}
use Rattle.calculus_table.specs.Algebra.{Algebra, converse_at, entry_at}
use Rattle.calculus_table.specs.Calculus.{EachBase, InvolutionAt, ConverseAt, CycleAt}

-- (t, converse of s, r) for (r, s, t)
pub cycle-turned : (m : Algebra) (r s t : ℕ) → EachBase m (InvolutionAt m) → s < m.size → CycleAt m t (converse_at m s) r → CycleAt m r s t
cycle-turned m r s t involution below h =
    let there : Has (entry_at m t (converse_at m s)) r ↔ Has (entry_at m r s) t
    = subst (λ x. Has (entry_at m t (converse_at m s)) r ↔ Has (entry_at m r x) t) (involution s below).twice h in
    (there.1, there.0)

-- (converse of s, converse of r, converse of t) for (r, s, t)
pub converse-turned : (m : Algebra) (r s t : ℕ) → EachBase m (InvolutionAt m) → r < m.size → s < m.size → t < m.size →
    ConverseAt m (converse_at m s) (converse_at m r) (converse_at m t) → ConverseAt m r s t
converse-turned m r s t involution below below2 below3 h =
    let there : Has (entry_at m (converse_at m s) (converse_at m r)) (converse_at m t) ↔ Has (entry_at m r s) t
    = subst (λ z. Has (entry_at m (converse_at m s) (converse_at m r)) (converse_at m t) ↔ Has (entry_at m r s) z) (involution t below3).twice
    (subst (λ y. Has (entry_at m (converse_at m s) (converse_at m r)) (converse_at m t) ↔ Has (entry_at m r y) (converse_at m (converse_at m t))) (involution s below2).twice
    (subst (λ x. Has (entry_at m (converse_at m s) (converse_at m r)) (converse_at m t) ↔ Has (entry_at m x (converse_at m (converse_at m s))) (converse_at m (converse_at m t))) (involution r below).twice h)) in
    (there.1, there.0)
