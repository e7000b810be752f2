-- The fault of a table: the first of its checks, in their order, that fails, at the first place.
use Rattle.std.specs.Prelude.{ℕ, List}
use Rattle.calculus_table.specs.Algebra.{Algebra}
use Rattle.calculus_table.specs.Calculus.{AreDistinct, EachBase, EachTriple, InvolutionAt, IdentityAt, ConverseAt, CycleAt, IsFirstRepeat, IsFirstBase, IsFirstTriple}
use Rattle.calculus_table.specs.declared.calculus.TableFault.{TableFault}
use Rattle.calculus_table.specs.declared.calculus.TableFault.TheVariants.{NameTwice, NotInvolution, IdentityLaw, ConverseLaw, CycleLaw, Memory}

-- the laws before it hold, and this one fails first at this place
abbrev pub IsLawFaultOf : Algebra → TableFault → Type 0
IsLawFaultOf m (NotInvolution r) = IsFirstBase m (InvolutionAt m) r
IsLawFaultOf m (IdentityLaw r) = EachBase m (InvolutionAt m) × IsFirstBase m (IdentityAt m) r
IsLawFaultOf m (ConverseLaw r s t) = EachBase m (InvolutionAt m) × EachBase m (IdentityAt m) × IsFirstTriple m (ConverseAt m) r s t
IsLawFaultOf m (CycleLaw r s t) =
    EachBase m (InvolutionAt m) × EachBase m (IdentityAt m) × EachTriple m (ConverseAt m) × IsFirstTriple m (CycleAt m) r s t
IsLawFaultOf m (NameTwice at) = ⊥
IsLawFaultOf m Memory = ⊥

-- the checks before it hold, and its own fails first at this place; out of memory says nothing of the table
abbrev pub IsFaultOf : List (List ℕ) → Algebra → TableFault → Type 0
IsFaultOf names m (NameTwice at) = IsFirstRepeat names at
IsFaultOf names m Memory = Unit {0}
IsFaultOf names m (NotInvolution r) = AreDistinct names × IsLawFaultOf m (NotInvolution r)
IsFaultOf names m (IdentityLaw r) = AreDistinct names × IsLawFaultOf m (IdentityLaw r)
IsFaultOf names m (ConverseLaw r s t) = AreDistinct names × IsLawFaultOf m (ConverseLaw r s t)
IsFaultOf names m (CycleLaw r s t) = AreDistinct names × IsLawFaultOf m (CycleLaw r s t)
