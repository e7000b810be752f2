-- The fault of a law among the faults of a table, and that a table has one fault at most.
use Rattle.std.proofs.Common.{◌≡◌, ◌≢◌, ℕ, ◌<◌, List, refl, ap, sym, ◌∙◌, arith, ◌⊎◌, inl, inr}
use Rattle.std.proofs.lemmas.Bool.{cases_lt}
use Rattle.calculus_table.specs.Algebra.{Algebra}
use Rattle.calculus_table.specs.Calculus.{IsCalculus, AreDistinct, EachBase, EachTriple, InvolutionAt, IdentityAt, ConverseAt, CycleAt, IsFirstRepeat, IsFirstBase, IsFirstTriple}
use Rattle.calculus_table.specs.TableFault.{IsLawFaultOf, IsFaultOf}
use Rattle.calculus_table.specs.declared.calculus.TableFault.{TableFault}
use Rattle.calculus_table.specs.declared.calculus.TableFault.TheVariants.{NameTwice, NotInvolution, IdentityLaw, ConverseLaw, CycleLaw, Memory}

-- after distinct names the fault of a law is the fault of the table
pub law_fault : (names : List (List ℕ)) (m : Algebra) (f : TableFault) → AreDistinct names → IsLawFaultOf m f → IsFaultOf names m f
law_fault names m (NameTwice at) d h = absurd h
law_fault names m Memory d h = tt
law_fault names m (NotInvolution r) d h = (d, h)
law_fault names m (IdentityLaw r) d h = (d, h)
law_fault names m (ConverseLaw r s t) d h = (d, h)
law_fault names m (CycleLaw r s t) d h = (d, h)

-- ---- first places are one

same-number : (x y : ℕ) → ¬ (x < y) → ¬ (y < x) → x ≡ y
same-number x y p q = elim (cases_lt x y) [
  | inl h ↦ absurd (p h)
  | inr g ↦ elim (cases_lt y x) [ inl h ↦ absurd (q h) | inr e ↦ omega arith ]
]

not-before : (names : List (List ℕ)) (j k : ℕ) → IsFirstRepeat names j → IsFirstRepeat names k → ¬ (j < k)
not-before names j k p q h = q.before p.here.earlier j p.here.is_earlier h p.here.same

IsFirstRepeat-one : (names : List (List ℕ)) (j k : ℕ) → IsFirstRepeat names j → IsFirstRepeat names k → j ≡ k
IsFirstRepeat-one names j k p q = same-number j k (not-before names j k p q) (not-before names k j q p)

IsFirstBase-one : (m : Algebra) (P : ℕ → Type 0) (q r : ℕ) → IsFirstBase m P q → IsFirstBase m P r → q ≡ r
IsFirstBase-one m P q r a b = same-number q r (λ h. a.here (b.before q h)) (λ h. b.here (a.before r h))

-- three numbers that are the same
record AreSame (r s t r' s' t' : ℕ) : Type 0 where
  first : r ≡ r'
  second : s ≡ s'
  third : t ≡ t'

IsFirstTriple-one : (m : Algebra) (P : ℕ → ℕ → ℕ → Type 0) (r s t r' s' t' : ℕ) → IsFirstTriple m P r s t → IsFirstTriple m P r' s' t' → AreSame r s t r' s' t'
IsFirstTriple-one m P r s t r' s' t' a b =
    let first : r ≡ r' = same-number r r'
    (λ h. a.here (b.first_before r s t h a.second_below a.below))
    (λ h. b.here (a.first_before r' s' t' h b.second_below b.below)) in
    let second : s ≡ s' = same-number s s'
    (λ h. a.here (rw first (b.second_before s t h a.below)))
    (λ h. b.here (rw (← first) (a.second_before s' t' h b.below))) in
    record {
      first = first;
      second = second;
      third = same-number t t' (λ h. a.here (rw (first, second) (b.before t h))) (λ h. b.here (rw (← first, ← second) (a.before t' h)));
    }

-- ---- a law that holds has no first failure

no-repeat : {A : Type 0} (names : List (List ℕ)) (k : ℕ) → AreDistinct names → IsFirstRepeat names k → A
no-repeat names k d p = absurd (d p.here.earlier k p.here.is_earlier p.here.below p.here.same)

no-base : {A : Type 0} (m : Algebra) (P : ℕ → Type 0) (r : ℕ) → EachBase m P → IsFirstBase m P r → A
no-base m P r all p = absurd (p.here (all r p.below))

no-triple : {A : Type 0} (m : Algebra) (P : ℕ → ℕ → ℕ → Type 0) (r s t : ℕ) → EachTriple m P → IsFirstTriple m P r s t → A
no-triple m P r s t all p = absurd (p.here (all r s t p.first_below p.second_below p.below))

-- ---- one fault

law_fault-one : (m : Algebra) (f g : TableFault) → IsLawFaultOf m f → IsLawFaultOf m g → f ≡ g
law_fault-one m (NameTwice at) g p q = absurd p
law_fault-one m Memory g p q = absurd p
law_fault-one m f (NameTwice at) p q = absurd q
law_fault-one m f Memory p q = absurd q
law_fault-one m (NotInvolution r) (NotInvolution r') p q = ap NotInvolution (IsFirstBase-one m (InvolutionAt m) r r' p q)
law_fault-one m (NotInvolution r) (IdentityLaw r') p q = no-base m (InvolutionAt m) r q.0 p
law_fault-one m (NotInvolution r) (ConverseLaw r' s' t') p q = no-base m (InvolutionAt m) r q.0 p
law_fault-one m (NotInvolution r) (CycleLaw r' s' t') p q = no-base m (InvolutionAt m) r q.0 p
law_fault-one m (IdentityLaw r) (NotInvolution r') p q = no-base m (InvolutionAt m) r' p.0 q
law_fault-one m (IdentityLaw r) (IdentityLaw r') p q = ap IdentityLaw (IsFirstBase-one m (IdentityAt m) r r' p.1 q.1)
law_fault-one m (IdentityLaw r) (ConverseLaw r' s' t') p q = no-base m (IdentityAt m) r q.1 p.1
law_fault-one m (IdentityLaw r) (CycleLaw r' s' t') p q = no-base m (IdentityAt m) r q.1 p.1
law_fault-one m (ConverseLaw r s t) (NotInvolution r') p q = no-base m (InvolutionAt m) r' p.0 q
law_fault-one m (ConverseLaw r s t) (IdentityLaw r') p q = no-base m (IdentityAt m) r' p.1 q.1
law_fault-one m (ConverseLaw r s t) (ConverseLaw r' s' t') p q =
    let same : AreSame r s t r' s' t' = IsFirstTriple-one m (ConverseAt m) r s t r' s' t' p.2 q.2 in cc (same.first, same.second, same.third)
law_fault-one m (ConverseLaw r s t) (CycleLaw r' s' t') p q = no-triple m (ConverseAt m) r s t q.2 p.2
law_fault-one m (CycleLaw r s t) (NotInvolution r') p q = no-base m (InvolutionAt m) r' p.0 q
law_fault-one m (CycleLaw r s t) (IdentityLaw r') p q = no-base m (IdentityAt m) r' p.1 q.1
law_fault-one m (CycleLaw r s t) (ConverseLaw r' s' t') p q = no-triple m (ConverseAt m) r' s' t' p.2 q.2
law_fault-one m (CycleLaw r s t) (CycleLaw r' s' t') p q =
    let same : AreSame r s t r' s' t' = IsFirstTriple-one m (CycleAt m) r s t r' s' t' p.3 q.3 in cc (same.first, same.second, same.third)

-- a fault is out of memory, that of a name, or that of a law after distinct names
kind-of : (names : List (List ℕ)) (m : Algebra) (f : TableFault) → IsFaultOf names m f → (f ≡ Memory) ⊎ (((at : ℕ) × (f ≡ NameTwice at) × IsFirstRepeat names at) ⊎ (AreDistinct names × IsLawFaultOf m f))
kind-of names m (NameTwice at) h = inr (inl (at, refl, h))
kind-of names m Memory h = inl refl
kind-of names m (NotInvolution r) h = inr (inr h)
kind-of names m (IdentityLaw r) h = inr (inr h)
kind-of names m (ConverseLaw r s t) h = inr (inr h)
kind-of names m (CycleLaw r s t) h = inr (inr h)

pub fault-one : (names : List (List ℕ)) (m : Algebra) (f g : TableFault) → IsFaultOf names m f → IsFaultOf names m g → f ≢ Memory → g ≢ Memory → f ≡ g
fault-one names m f g p q a b = elim (kind-of names m f p) [
  | inl e ↦ absurd (a e)
  | inr x ↦ elim (kind-of names m g q) [
    | inl e ↦ absurd (b e)
    | inr y ↦ elim x [
      | inl u ↦ elim y [
        | inl v ↦ u.1 ∙ ap NameTwice (IsFirstRepeat-one names u.0 v.0 u.2 v.2) ∙ sym v.1
        | inr v ↦ no-repeat names u.0 v.0 u.2
      ]
      | inr u ↦ elim y [
        | inl v ↦ no-repeat names v.0 u.0 v.2
        | inr v ↦ law_fault-one m f g u.1 v.1
      ]
    ]
  ]
]

-- ---- no fault

no-law_fault : (m : Algebra) (f : TableFault) → IsCalculus m → IsLawFaultOf m f → f ≡ Memory
no-law_fault m (NameTwice at) c p = absurd p
no-law_fault m Memory c p = absurd p
no-law_fault m (NotInvolution r) c p = no-base m (InvolutionAt m) r c.involution p
no-law_fault m (IdentityLaw r) c p = no-base m (IdentityAt m) r c.identity p.1
no-law_fault m (ConverseLaw r s t) c p = no-triple m (ConverseAt m) r s t c.converse p.2
no-law_fault m (CycleLaw r s t) c p = no-triple m (CycleAt m) r s t c.cycle p.3

pub no-fault : (names : List (List ℕ)) (m : Algebra) (f : TableFault) → IsCalculus m → AreDistinct names → IsFaultOf names m f → f ≡ Memory
no-fault names m f c d p = elim (kind-of names m f p) [
  | inl e ↦ e
  | inr x ↦ elim x [
    | inl u ↦ no-repeat names u.0 d u.2
    | inr u ↦ no-law_fault m f c u.1
  ]
]
