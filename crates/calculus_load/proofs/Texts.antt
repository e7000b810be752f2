-- Texts that are written piece by piece.
use Rattle.std.proofs.Common.{◌≡◌, ℕ, List, [], ◌++◌, sym, ap, append_assoc, Some, unwrap_or, slice_get}
use Rattle.calculus_table.specs.Calculus.{NamedAlgebra}
use Rattle.calculus_load.specs.TableText.{base_name}

-- the name that was read
pub base_name-read : (c : NamedAlgebra) (r : ℕ) (name : List ℕ) → slice_get c.names r ≡ Some name → name ≡ base_name c r
base_name-read c r name h = sym (ap (λ o. unwrap_or o []) h)

-- pieces that were written at once
pub regroup : (old a b c d : List ℕ) → old ++ (a ++ (b ++ (c ++ d))) ≡ old ++ (a ++ b ++ c ++ d)
regroup old a b c d = simp append_assoc
