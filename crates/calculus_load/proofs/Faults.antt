-- How a fault of a part is the fault of the whole.
use Rattle.std.proofs.Common.{◌≡◌, ◌≢◌, None, Result, Ok, Err, refl, sym, ap, ◌∙◌, subst}
use Rattle.calculus_table.specs.Calculus.{NamedAlgebra, IsNamedCalculus}
use Rattle.calculus_table.specs.TableFault.{IsFaultOf}
use Rattle.calculus_table.specs.declared.calculus.TableFault.{TableFault}
use Rattle.calculus_table.specs.declared.calculus.TableFault.TheVariants.{NameTwice, NotInvolution, IdentityLaw, ConverseLaw, CycleLaw}
use Rattle.calculus_table.specs.declared.calculus.TableFault.TheVariants as faults
use Rattle.calculus_load.specs.Given.{Given, algebra_of, first_missing, with_converses, with_entries, complete}
use Rattle.line_files.specs.Steps.{◌>>=◌}
use Rattle.calculus_table.proofs.Faults.{fault-one}
use Rattle.calculus_load.specs.Laws.{LoadIsOne, LoadedHasNoFault}
use Rattle.calculus_load.specs.TableFile.{fault_of, FailsWith, IsTableFaultOf, IsLoadFaultOf, table_of}
use Rattle.calculus_load.specs.declared.fault.LoadFault.{LoadFault}
use Rattle.calculus_load.specs.declared.fault.LoadFault.TheVariants.{Syntax, Unknown, Missing, Twice, TooMany, Table, Memory}

pub table_fault : (c : NamedAlgebra) (f : TableFault) → IsFaultOf c.names c.algebra f → IsLoadFaultOf (Ok c) (fault_of f)
table_fault c faults.Memory h = tt
table_fault c (NameTwice at) h = h
table_fault c (NotInvolution r) h = h
table_fault c (IdentityLaw r) h = h
table_fault c (ConverseLaw r s t) h = h
table_fault c (CycleLaw r s t) h = h

pub complete-given : (g : Given) → first_missing g.converses ≡ None → first_missing g.entries ≡ None → complete g ≡ Ok (record { names = g.names; algebra = algebra_of g })
complete-given g h k = ap (with_converses g) h ∙ ap (with_entries g) k

-- the checks of a complete table
pub checked_fault : (g : Given) (f : TableFault) → first_missing g.converses ≡ None → first_missing g.entries ≡ None → IsFaultOf g.names (algebra_of g) f
    → IsLoadFaultOf (complete g) (fault_of f)
checked_fault g f h k is =
    subst (λ r. IsLoadFaultOf r (fault_of f)) (sym (complete-given g h k)) (table_fault (record { names = g.names; algebra = algebra_of g }) f is)

infixl 10 ◌then◌
abbrev pub ◌then◌ : {A B : Type 0} → Result A LoadFault → (A → Result B LoadFault) → Result B LoadFault
r then f = r >>= f

-- the fault of a first step is the fault of the whole
pub IsLoadFaultOf-then : {A : Type 0} (r : Result A LoadFault) (f : A → Result NamedAlgebra LoadFault) (e : LoadFault) → FailsWith r e → IsLoadFaultOf (r then f) e
IsLoadFaultOf-then r f Memory h = tt
IsLoadFaultOf-then r f (Syntax n) h = subst (λ x. IsLoadFaultOf (x then f) (Syntax n)) (sym (h (λ e. cc))) refl
IsLoadFaultOf-then r f (Unknown n) h = subst (λ x. IsLoadFaultOf (x then f) (Unknown n)) (sym (h (λ e. cc))) refl
IsLoadFaultOf-then r f (Missing n s) h = subst (λ x. IsLoadFaultOf (x then f) (Missing n s)) (sym (h (λ e. cc))) refl
IsLoadFaultOf-then r f (Twice n) h = subst (λ x. IsLoadFaultOf (x then f) (Twice n)) (sym (h (λ e. cc))) refl
IsLoadFaultOf-then r f (TooMany n) h = subst (λ x. IsLoadFaultOf (x then f) (TooMany n)) (sym (h (λ e. cc))) refl
IsLoadFaultOf-then r f (Table t) h = subst (λ x. IsLoadFaultOf (x then f) (Table t)) (sym (h (λ e. cc))) refl

-- a calculus has no fault but out of memory
lawful_table : (c : NamedAlgebra) (f : TableFault) → IsNamedCalculus c → IsTableFaultOf c f → ⊥
lawful_table c faults.Memory h is = is
lawful_table c (NameTwice at) h is = h.distinct is.here.earlier at is.here.is_earlier is.here.below is.here.same
lawful_table c (NotInvolution r) h is = is.1.here (h.lawful.involution r is.1.below)
lawful_table c (IdentityLaw r) h is = is.1.1.here (h.lawful.identity r is.1.1.below)
lawful_table c (ConverseLaw r s t) h is = is.1.2.here (h.lawful.converse r s t is.1.2.first_below is.1.2.second_below is.1.2.below)
lawful_table c (CycleLaw r s t) h is = is.1.3.here (h.lawful.cycle r s t is.1.3.first_below is.1.3.second_below is.1.3.below)

pub lawful_fault : (c : NamedAlgebra) (f : LoadFault) → IsNamedCalculus c → IsLoadFaultOf (Ok c) f → f ≡ Memory
lawful_fault c Memory h is = refl
lawful_fault c (Syntax n) h is = absurd is
lawful_fault c (Unknown n) h is = absurd is
lawful_fault c (Missing n s) h is = absurd is
lawful_fault c (Twice n) h is = absurd is
lawful_fault c (TooMany n) h is = absurd is
lawful_fault c (Table f) h is = absurd (lawful_table c f h is)

-- ---- one answer

-- the fault of a text whose lines or whose gaps are at fault
err-fault : (e f : LoadFault) → f ≢ Memory → IsLoadFaultOf (Err e) f → f ≡ e
err-fault e Memory other is = absurd (other refl)
err-fault e (Syntax n) other is = is
err-fault e (Unknown n) other is = is
err-fault e (Missing n s) other is = is
err-fault e (Twice n) other is = is
err-fault e (TooMany n) other is = is
err-fault e (Table t) other is = is

-- the fault of a whole table
record IsOfTable (c : NamedAlgebra) (f : LoadFault) : Type 0 where
  fault : TableFault
  same : f ≡ Table fault
  is : IsFaultOf c.names c.algebra fault
  no : fault ≢ faults.Memory

of_table : (c : NamedAlgebra) (t : TableFault) → IsTableFaultOf c t → IsOfTable c (Table t)
of_table c faults.Memory is = absurd is
of_table c (NameTwice at) is = record { fault = NameTwice at; same = refl; is = is; no = λ e. cc }
of_table c (NotInvolution r) is = record { fault = NotInvolution r; same = refl; is = is; no = λ e. cc }
of_table c (IdentityLaw r) is = record { fault = IdentityLaw r; same = refl; is = is; no = λ e. cc }
of_table c (ConverseLaw r s t) is = record { fault = ConverseLaw r s t; same = refl; is = is; no = λ e. cc }
of_table c (CycleLaw r s t) is = record { fault = CycleLaw r s t; same = refl; is = is; no = λ e. cc }

ok-fault : (c : NamedAlgebra) (f : LoadFault) → f ≢ Memory → IsLoadFaultOf (Ok c) f → IsOfTable c f
ok-fault c Memory other is = absurd (other refl)
ok-fault c (Syntax n) other is = absurd is
ok-fault c (Unknown n) other is = absurd is
ok-fault c (Missing n s) other is = absurd is
ok-fault c (Twice n) other is = absurd is
ok-fault c (TooMany n) other is = absurd is
ok-fault c (Table t) other is = of_table c t is

one_fault : (table : Result NamedAlgebra LoadFault) (f g : LoadFault) → f ≢ Memory → g ≢ Memory → IsLoadFaultOf table f → IsLoadFaultOf table g → f ≡ g
one_fault (Err e) f g h k p q = err-fault e f h p ∙ sym (err-fault e g k q)
one_fault (Ok c) f g h k p q =
    let x : IsOfTable c f = ok-fault c f h p in
    let y : IsOfTable c g = ok-fault c g k q in
    x.same ∙ ap Table (fault-one c.names c.algebra x.fault y.fault x.is y.is x.no y.no) ∙ sym y.same

pub load-one : LoadIsOne
load-one bytes f g h k p q = one_fault (table_of bytes) f g h k p q

pub loaded-none : LoadedHasNoFault
loaded-none bytes c f ok lawful is = lawful_fault c f lawful (subst (λ t. IsLoadFaultOf t f) ok is)
