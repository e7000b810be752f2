-- The full set is its own converse.
use Rattle.std.proofs.Common.{◌≡◌, subst}
use Rattle.calculus_table.specs.Algebra.{Algebra}
use Rattle.calculus_table.specs.Rel.{IsWithin}
use Rattle.calculus_table.specs.Composition.{full_of, converse}
use Rattle.calculus_table.specs.Calculus.{IsCalculus}
use Rattle.calculus_table.proofs.Sets.{IsWithin-refl, IsWithin-antisym}
use Rattle.calculus_table.proofs.Members.{converse-within}
use Rattle.calculus_table.proofs.Compositions.{converse-converse, converse-mono}

pub converse-full : (m : Algebra) → IsCalculus m → converse m (full_of m) ≡ full_of m
converse-full m k =
    let full = full_of m in
    let all = converse m full in
    let within : IsWithin all full = converse-within m full k.table in
    IsWithin-antisym all full within
    (subst (λ x. IsWithin x all) (converse-converse m full k (IsWithin-refl full)) (converse-mono m all full within))
