-- Where a law of tables can be decided at each place, each place obeys it, or a first one breaks it.
use Rattle.std.proofs.Common.{◌≡◌, ℕ, zero, suc, ◌^◌, ◌<◌, ◌⊎◌, inl, inr, ◌↔◌, subst, arith}
use Rattle.std.proofs.lemmas.Bool.{cases_lt, cases_eq}
use Rattle.std.specs.Int.{bit_at}
use Rattle.calculus_table.specs.Rel.{Has}
use Rattle.calculus_table.specs.Algebra.{Algebra, converse_at, entry_at}
use Rattle.calculus_table.specs.Calculus.{IsTable, IsCalculus, EachBase, EachTriple, InvolutionAt, IdentityAt, ConverseAt, CycleAt, IsFirstBase, IsFirstTriple}
use Rattle.calculus_table.specs.Laws.{BreaksLaw}
use Rattle.calculus_table.specs.declared.calculus.TableFault.TheVariants.{NotInvolution, IdentityLaw, ConverseLaw, CycleLaw}

-- ---- first places

-- the first place below n without the property
record IsFirst (n : ℕ) (P : ℕ → Type 0) : Type 0 where
  at : ℕ
  below : at < n
  here : ¬ P at
  before : (q : ℕ) → q < at → P q

abbrev EachBelow : ℕ → (ℕ → Type 0) → Type 0
EachBelow n P = (k : ℕ) → k < n → P k

one_more : (n : ℕ) (P : ℕ → Type 0) → EachBelow n P → P n → EachBelow (suc n) P
one_more n P each last k b = elim (cases_lt k n) [
  | inl less ↦ each k less
  | inr breaks ↦ (let e : n ≡ k = omega arith in subst P e last)
]

each_or_first : (n : ℕ) (P : ℕ → Type 0) → ((k : ℕ) → P k ⊎ (¬ P k)) → EachBelow n P ⊎ IsFirst n P
each_or_first zero P decided = inl (λ k b. absurd (omega arith))
each_or_first (suc n) P decided = elim (each_or_first n P decided) [
  | inl each ↦ elim (decided n) [
    | inl last ↦ inl (one_more n P each last)
    | inr breaks ↦ inr (record { at = n; below = omega arith; here = breaks; before = each })
  ]
  | inr first ↦ inr (record { at = first.at; below = omega (arith, first.below); here = first.here; before = first.before })
]

each_or_not : (n : ℕ) (P : ℕ → Type 0) → ((k : ℕ) → P k ⊎ (¬ P k)) → EachBelow n P ⊎ (¬ EachBelow n P)
each_or_not n P decided = elim (each_or_first n P decided) [
  | inl each ↦ inl each
  | inr first ↦ inr (λ each. first.here (each first.at first.below))
]

first_of : (n : ℕ) (P : ℕ → Type 0) → ((k : ℕ) → P k ⊎ (¬ P k)) → (¬ EachBelow n P) → IsFirst n P
first_of n P decided breaks = elim (each_or_first n P decided) [ inl each ↦ absurd (breaks each) | inr first ↦ first ]

-- ---- base relations and triples of them

record BreaksAtBase (m : Algebra) (P : ℕ → Type 0) : Type 0 where
  base : ℕ
  first : IsFirstBase m P base

each_base : (m : Algebra) (P : ℕ → Type 0) → ((r : ℕ) → P r ⊎ (¬ P r)) → EachBase m P ⊎ BreaksAtBase m P
each_base m P decided = elim (each_or_first m.size P decided) [
  | inl each ↦ inl each
  | inr f ↦ inr (record { base = f.at; first = record { below = f.below; here = f.here; before = f.before } })
]

record BreaksAtTriple (m : Algebra) (P : ℕ → ℕ → ℕ → Type 0) : Type 0 where
  r : ℕ
  s : ℕ
  t : ℕ
  first : IsFirstTriple m P r s t

module _ (m : Algebra) (P : ℕ → ℕ → ℕ → Type 0) (decided : (r s t : ℕ) → P r s t ⊎ (¬ P r s t)) where
  abbrev EachThird : ℕ → ℕ → Type 0
  EachThird r s = EachBelow m.size (P r s)

  abbrev EachSecond : ℕ → Type 0
  EachSecond r = EachBelow m.size (EachThird r)

  third_decided : (r s : ℕ) → EachThird r s ⊎ (¬ EachThird r s)
  third_decided r s = each_or_not m.size (P r s) (decided r s)

  second_decided : (r : ℕ) → EachSecond r ⊎ (¬ EachSecond r)
  second_decided r = each_or_not m.size (EachThird r) (third_decided r)

  first_triple : IsFirst m.size EachSecond → BreaksAtTriple m P
  first_triple f =
      let g : IsFirst m.size (EachThird f.at) = first_of m.size (EachThird f.at) (third_decided f.at) f.here in
      let h : IsFirst m.size (P f.at g.at) = first_of m.size (P f.at g.at) (decided f.at g.at) g.here in
      record {
        r = f.at;
        s = g.at;
        t = h.at;
        first = record {
          first_below = f.below;
          second_below = g.below;
          below = h.below;
          here = h.here;
          before = h.before;
          second_before = λ p q less b. g.before p less q b;
          first_before = λ o p q less b c. f.before o less p b q c;
        };
      }

  each_triple : EachTriple m P ⊎ BreaksAtTriple m P
  each_triple = elim (each_or_first m.size EachSecond second_decided) [
    | inl each ↦ inl (λ r s t b c d. each r b s c t d)
    | inr f ↦ inr (first_triple f)
  ]

-- ---- the laws are decided

iff_decided : {A B : Type 0} → A ⊎ (¬ A) → B ⊎ (¬ B) → (A ↔ B) ⊎ (¬ (A ↔ B))
iff_decided (inl a) (inl b) = inl (λ _. b, λ _. a)
iff_decided (inl a) (inr breaks) = inr (λ h. breaks (h.0 a))
iff_decided (inr breaks) (inl b) = inr (λ h. breaks (h.1 b))
iff_decided (inr a) (inr b) = inl (λ x. absurd (a x), λ x. absurd (b x))

has_decided : (a r : ℕ) → Has a r ⊎ (¬ Has a r)
has_decided a r = elim (cases_eq (bit_at a r) 1) [ inl e ↦ inl e | inr breaks ↦ inr breaks ]

involution_decided : (m : Algebra) (r : ℕ) → InvolutionAt m r ⊎ (¬ InvolutionAt m r)
involution_decided m r = elim (cases_eq (converse_at m (converse_at m r)) r) [
  | inr breaks ↦ inr (λ h. breaks h.twice)
  | inl twice ↦ elim (cases_eq (converse_at m r) r) [
    | inl same ↦ inl (record { twice = twice; identity = λ _. same })
    | inr other ↦ elim (cases_eq r m.identity) [
      | inl e ↦ inr (λ h. other (h.identity e))
      | inr breaks ↦ inl (record { twice = twice; identity = λ e. absurd (breaks e) })
    ]
  ]
]

identity_decided : (m : Algebra) (r : ℕ) → IdentityAt m r ⊎ (¬ IdentityAt m r)
identity_decided m r = elim (cases_eq (entry_at m m.identity r) (2 ^ r)) [
  | inr breaks ↦ inr (λ h. breaks h.left)
  | inl left ↦ elim (cases_eq (entry_at m r m.identity) (2 ^ r)) [
    | inl right ↦ inl (record { left = left; right = right })
    | inr breaks ↦ inr (λ h. breaks h.right)
  ]
]

converse_decided : (m : Algebra) (r s t : ℕ) → ConverseAt m r s t ⊎ (¬ ConverseAt m r s t)
converse_decided m r s t =
    iff_decided (has_decided (entry_at m r s) t) (has_decided (entry_at m (converse_at m s) (converse_at m r)) (converse_at m t))

cycle_decided : (m : Algebra) (r s t : ℕ) → CycleAt m r s t ⊎ (¬ CycleAt m r s t)
cycle_decided m r s t = iff_decided (has_decided (entry_at m r s) t) (has_decided (entry_at m t (converse_at m s)) r)

-- a table of the right shape is a calculus, or it breaks a law
pub calculus_or_fault : (m : Algebra) → IsTable m → IsCalculus m ⊎ BreaksLaw m
calculus_or_fault m table = elim (each_base m (InvolutionAt m) (involution_decided m)) [
  | inr b ↦ inr (record { fault = NotInvolution b.base; broken = b.first })
  | inl involution ↦ elim (each_base m (IdentityAt m) (identity_decided m)) [
    | inr b ↦ inr (record { fault = IdentityLaw b.base; broken = (involution, b.first) })
    | inl identity ↦ elim (each_triple m (ConverseAt m) (converse_decided m)) [
      | inr b ↦ inr (record { fault = ConverseLaw b.r b.s b.t; broken = (involution, identity, b.first) })
      | inl turned ↦ elim (each_triple m (CycleAt m) (cycle_decided m)) [
        | inr b ↦ inr (record { fault = CycleLaw b.r b.s b.t; broken = (involution, identity, turned, b.first) })
        | inl cycle ↦ inl (record { table = table; involution = involution; identity = identity; converse = turned; cycle = cycle })
      ]
    ]
  ]
]
