-- The numbers of planes that sets are kept in.
use Rattle.std.proofs.Common.{ℕ, ◌≤◌, arith, inl, inr}
use Rattle.edge_propagation.specs.Propagation.{IsPlanes}

pub planes-le : (planes : ℕ) → IsPlanes planes → planes ≤ 8
planes-le planes p = elim p [
  | inl e ↦ omega arith
  | inr q ↦ elim q [ inl e ↦ omega arith | inr r ↦ elim r [ inl e ↦ omega arith | inr e ↦ omega arith ] ]
]
