-- A class file has one answer.
use Rattle.std.proofs.Common.{◌≡◌, ◌≢◌, ℕ, zero, suc, ◌+◌, ◌-◌, ◌^◌, ◌<◌, ◌≤◌, List, [], ◌∷◌, length, get_or, refl, sym, ap, ◌∙◌, subst, arith, ◌⊎◌, inl, inr, Result, Ok, Err, Option, Some, None}
use Rattle.std.specs.Prelude.{Contains, IfSome, MatchResult, bit_and, nat_lt}
use Rattle.std.specs.Option.{ok_or}
use Rattle.std.specs.List.Sorted.{IsStrictlyIncreasing}
use Rattle.std.proofs.lemmas.Bool.{cases_lt, cases_eq, ltb-false}
use Rattle.calculus_table.specs.Rel.{IsWithin}
use Rattle.calculus_table.specs.Algebra.{Algebra}
use Rattle.calculus_table.specs.Composition.{converse, composition}
use Rattle.calculus_table.specs.Calculus.{NamedAlgebra, IsNamedCalculus, IsFirstBase}
use Rattle.calculus_table.proofs.Sets.{IsWithin-empty}
use Rattle.qsr_lex.proofs.Found.{IfSome-and_then, IfSome-at_end}
use Rattle.qsr_lex.specs.Lexemes.{Lexeme}
use Rattle.qsr_lex.specs.TokenLines.{TokenLine}
use Rattle.qsr_lex.specs.LineTokens.{is_end_line, at_end}
use Rattle.line_files.specs.FileText.{FileText, file_text, extra_line}
use Rattle.line_files.specs.Steps.{◌>>=◌}
use Rattle.line_files.specs.declared.lines.TextEnd.{TextEnd}
use Rattle.line_files.specs.declared.lines.TextEnd.TheVariants.{Whole, BadLine}
use Rattle.line_files.proofs.Steps.{MatchResult-then, MatchResult-ok_or, MatchResult-cond}
use Rattle.named_sets.specs.Named.{set_at}
use Rattle.named_sets.proofs.ReadSets.{set_at-within}
use Rattle.tract_classes.specs.Class.{IsClass, EachMember, EachPair, HasBase, HasConverse, HasMeet, HasComposition, IsSetBelow, IsClassBelow, AreSetsOf, IsClosedClass}
use Rattle.tract_classes.specs.ClassFile.{set_line, with_member, or_too_many, with_line, class_before, class_at_end, end_fault, sets_from, class_of}
use Rattle.tract_classes.specs.ClassFault.{IsFirstMember, IsFirstPair, IsNotClosedAt, IsFaultOf, IsClassFaultOf}
use Rattle.tract_classes.specs.Laws.{ClassFaultIsOne, ClosedClassHasNoFault, IsTextOfClass, TextHasFault, ClassFileHasAnswer}
use Rattle.tract_classes.specs.declared.TheConstants.{MAX_MEMBERS}
use Rattle.tract_classes.specs.declared.fault.ClassFault.{ClassFault}
use Rattle.tract_classes.specs.declared.fault.ClassFault.TheVariants.{Syntax, LacksBase, NotClosed, TooMany, Memory}
use Rattle.tract_classes.proofs.Ascending.{Contains-at, Contains-cons, Contains-cons_cases}
use Rattle.tract_classes.proofs.FirstMembers.{EachBefore, each_member, one_more, found, no_more_pairs, found_pair}
use Rattle.tract_classes.proofs.ReadClasses.{IsClassBelow-with, fault-of_class}

-- ---- one fault of a class

IsFirstBase-one : (m : Algebra) (P : ℕ → Type 0) (q r : ℕ) → IsFirstBase m P q → IsFirstBase m P r → q ≡ r
IsFirstBase-one m P q r h k = elim (cases_lt q r) [
  | inl l ↦ absurd (h.here (k.before q l))
  | inr g ↦ elim (cases_lt r q) [ inl l ↦ absurd (k.here (h.before r l)) | inr le ↦ omega arith ]
]

IsFirstMember-one : (class : List ℕ) (P : ℕ → Type 0) (a b : ℕ) → IsFirstMember class P a → IsFirstMember class P b → a ≡ b
IsFirstMember-one class P a b h k = elim (cases_lt a b) [
  | inl l ↦ absurd (h.here (k.before a l h.member))
  | inr g ↦ elim (cases_lt b a) [ inl l ↦ absurd (k.here (h.before b l k.member)) | inr le ↦ omega arith ]
]

-- two numbers are the same as two others
record AreSame (a b c d : ℕ) : Type 0 where
  first : a ≡ c
  second : b ≡ d

IsFirstPair-one : (class : List ℕ) (P : ℕ → ℕ → Type 0) (a b c d : ℕ) → IsFirstPair class P a b → IsFirstPair class P c d → AreSame a b c d
IsFirstPair-one class P a b c d h k =
    let first : a ≡ c = elim (cases_lt a c) [
      | inl l ↦ absurd (h.second.here (k.before a b l h.first h.second.member))
      | inr g ↦ elim (cases_lt c a) [ inl l ↦ absurd (k.second.here (h.before c d l k.first k.second.member)) | inr le ↦ omega arith ]
    ] in
    record { first = first; second = IsFirstMember-one class (P a) b d h.second (subst (λ x. IsFirstMember class (P x) d) (sym first) k.second) }

-- a class isn't closed in one way
record AreSameThree (a b op c d other : ℕ) : Type 0 where
  first : a ≡ c
  second : b ≡ d
  operation : op ≡ other

IsNotClosedAt-one : (m : Algebra) (class : List ℕ) (a b op c d other : ℕ) → IsNotClosedAt m class a b op → IsNotClosedAt m class c d other →
    AreSameThree a b op c d other
IsNotClosedAt-one m class a b op c d other (inl h) (inl k) = record {
  first = IsFirstMember-one class (HasConverse m class) a c h.first k.first;
  second = h.second ∙ sym k.second;
  operation = h.operation ∙ sym k.operation;
}
IsNotClosedAt-one m class a b op c d other (inl h) (inr (inl k)) = absurd (h.first.here (k.converse a h.first.member))
IsNotClosedAt-one m class a b op c d other (inl h) (inr (inr k)) = absurd (h.first.here (k.converse a h.first.member))
IsNotClosedAt-one m class a b op c d other (inr (inl h)) (inl k) = absurd (k.first.here (h.converse c k.first.member))
IsNotClosedAt-one m class a b op c d other (inr (inr h)) (inl k) = absurd (k.first.here (h.converse c k.first.member))
IsNotClosedAt-one m class a b op c d other (inr (inl h)) (inr (inl k)) =
    let same : AreSame a b c d = IsFirstPair-one class (HasMeet class) a b c d h.first k.first in
    record { first = same.first; second = same.second; operation = h.operation ∙ sym k.operation }
IsNotClosedAt-one m class a b op c d other (inr (inl h)) (inr (inr k)) = absurd (h.first.second.here (k.meet a b h.first.first h.first.second.member))
IsNotClosedAt-one m class a b op c d other (inr (inr h)) (inr (inl k)) = absurd (k.first.second.here (h.meet c d k.first.first k.first.second.member))
IsNotClosedAt-one m class a b op c d other (inr (inr h)) (inr (inr k)) =
    let same : AreSame a b c d = IsFirstPair-one class (HasComposition m class) a b c d h.first k.first in
    record { first = same.first; second = same.second; operation = h.operation ∙ sym k.operation }

fault_one : (m : Algebra) (class : List ℕ) (f g : ClassFault) → IsFaultOf m class f → IsFaultOf m class g → f ≡ g
fault_one m class (LacksBase q) (LacksBase r) h k = ap LacksBase (IsFirstBase-one m (HasBase class) q r h k)
fault_one m class (LacksBase q) (NotClosed c d other) h k = absurd (h.here (k.0 q h.below))
fault_one m class (NotClosed a b op) (LacksBase r) h k = absurd (k.here (h.0 r k.below))
fault_one m class (NotClosed a b op) (NotClosed c d other) h k =
    let same : AreSameThree a b op c d other = IsNotClosedAt-one m class a b op c d other h.1 k.1 in cc (same.first, same.second, same.operation)
fault_one m class (Syntax line) g h k = absurd h
fault_one m class (TooMany line) g h k = absurd h
fault_one m class Memory g h k = absurd h
fault_one m class (LacksBase q) (Syntax line) h k = absurd k
fault_one m class (LacksBase q) (TooMany line) h k = absurd k
fault_one m class (LacksBase q) Memory h k = absurd k
fault_one m class (NotClosed a b op) (Syntax line) h k = absurd k
fault_one m class (NotClosed a b op) (TooMany line) h k = absurd k
fault_one m class (NotClosed a b op) Memory h k = absurd k

-- ---- one fault of a text

class-fault : (m : Algebra) (class : List ℕ) (f : ClassFault) → f ≢ Memory → IsClassFaultOf m (Ok class) f → IsFaultOf m class f
class-fault m class Memory other is = absurd (other refl)
class-fault m class (Syntax line) other is = is
class-fault m class (LacksBase r) other is = is
class-fault m class (NotClosed a b op) other is = is
class-fault m class (TooMany line) other is = is

line-fault : (m : Algebra) (e f : ClassFault) → f ≢ Memory → IsClassFaultOf m (Err e) f → f ≡ e
line-fault m e Memory other is = absurd (other refl)
line-fault m e (Syntax line) other is = is
line-fault m e (LacksBase r) other is = is
line-fault m e (NotClosed a b op) other is = is
line-fault m e (TooMany line) other is = is

text_fault_one : (m : Algebra) (text : Result (List ℕ) ClassFault) (f g : ClassFault) → f ≢ Memory → g ≢ Memory → IsClassFaultOf m text f → IsClassFaultOf m text g → f ≡ g
text_fault_one m (Err e) f g h k p q = line-fault m e f h p ∙ sym (line-fault m e g k q)
text_fault_one m (Ok class) f g h k p q = fault_one m class f g (class-fault m class f h p) (class-fault m class g k q)

pub class_fault_one : ClassFaultIsOne
class_fault_one c bytes f g h k p q = text_fault_one c.algebra (class_of c.names bytes) f g h k p q

-- ---- a closed class has none

not_closed_none : (m : Algebra) (class : List ℕ) (a b op : ℕ) → IsClosedClass m class → IsNotClosedAt m class a b op → ⊥
not_closed_none m class a b op closed (inl h) = h.first.here (closed.converse a h.first.member)
not_closed_none m class a b op closed (inr (inl h)) = h.first.second.here (closed.meet a b h.first.first h.first.second.member)
not_closed_none m class a b op closed (inr (inr h)) = h.first.second.here (closed.composition a b h.first.first h.first.second.member)

closed_none : (m : Algebra) (class : List ℕ) (f : ClassFault) → IsClosedClass m class → IsClassFaultOf m (Ok class) f → f ≡ Memory
closed_none m class Memory closed is = refl
closed_none m class (Syntax line) closed is = absurd is
closed_none m class (LacksBase r) closed is = absurd (is.here (closed.bases r is.below))
closed_none m class (NotClosed a b op) closed is = absurd (not_closed_none m class a b op closed is.1)
closed_none m class (TooMany line) closed is = absurd is

pub closed_class_none : ClosedClassHasNoFault
closed_class_none c bytes class f e closed is = closed_none c.algebra class f closed (subst (λ t. IsClassFaultOf c.algebra t f) e is)

-- ---- a fault of a line is that of the text

own-fault : (m : Algebra) (f : ClassFault) → IsClassFaultOf m (Err f) f
own-fault m Memory = tt
own-fault m (Syntax line) = refl
own-fault m (LacksBase r) = refl
own-fault m (NotClosed a b op) = refl
own-fault m (TooMany line) = refl

-- ---- each class is closed or has a fault

member_decided : (class : List ℕ) (a : ℕ) → Contains class a ⊎ (¬ Contains class a)
member_decided [] a = inr (λ c. omega (arith, c.1))
member_decided (b ∷ class) a = elim (cases_eq b a) [
  | inl e ↦ inl (Contains-at (b ∷ class) 0 a (omega arith) e)
  | inr ne ↦ elim (member_decided class a) [
    | inl c ↦ inl (Contains-cons b class a c)
    | inr not ↦ inr (λ c. elim (Contains-cons_cases b class a c) [ inl e ↦ ne e | inr d ↦ not d ])
  ]
]

-- the first base relation that isn't a member
record LacksSomeBase (m : Algebra) (class : List ℕ) : Type 0 where
  base : ℕ
  first : IsFirstBase m (HasBase class) base

bases_below : (m : Algebra) (class : List ℕ) (n : ℕ) → n ≤ m.size → ((r : ℕ) → r < n → HasBase class r) ⊎ LacksSomeBase m class
bases_below m class zero h = inl (λ r l. absurd (omega arith))
bases_below m class (suc n) h = elim (bases_below m class n (omega arith)) [
  | inr lacks ↦ inr lacks
  | inl before ↦ elim (member_decided class (2 ^ n)) [
    | inr none ↦ inr (record { base = n; first = record { below = omega arith; here = none; before = before } })
    | inl last ↦ inl (λ r l. elim (cases_eq r n) [ inl e ↦ subst (HasBase class) (sym e) last | inr ne ↦ before r (omega arith) ])
  ]
]

module _ (class : List ℕ) (ascending : IsStrictlyIncreasing class) where
  -- each member has a property, or something is found on the way
  walk : (Q : ℕ → Type 0) (F : Type 0) → ((k : ℕ) → k < length class → EachBefore class Q k → Q (get_or class k 0) ⊎ F) →
      (k : ℕ) → k ≤ length class → EachBefore class Q k ⊎ F
  walk Q F step zero h = inl (λ j l. absurd (omega arith))
  walk Q F step (suc k) h = elim (walk Q F step k (omega arith)) [
    | inr found ↦ inr found
    | inl before ↦ elim (step k (omega arith) before) [
      | inr found ↦ inr found
      | inl here ↦ (let e : k + 1 ≡ suc k = omega arith in inl (subst (EachBefore class Q) e (one_more class class ascending refl k Q before here)))
    ]
  ]

  each_or_first : (P : ℕ → Type 0) → ((a : ℕ) → P a ⊎ (¬ P a)) → EachMember class P ⊎ ((a : ℕ) × IsFirstMember class P a)
  each_or_first P decided = elim (walk P ((a : ℕ) × IsFirstMember class P a) (λ k below before. elim (decided (get_or class k 0)) [
    | inl here ↦ inl here
    | inr none ↦ inr (get_or class k 0, found class class ascending refl k P before below none)
  ]) (length class) (omega arith)) [
    | inl before ↦ inl (each_member class ascending P before)
    | inr first ↦ inr first
  ]

  each_or_first_pair : (P : ℕ → ℕ → Type 0) → ((a b : ℕ) → P a b ⊎ (¬ P a b)) → EachPair class P ⊎ ((a : ℕ) × ((b : ℕ) × IsFirstPair class P a b))
  each_or_first_pair P decided = elim (walk (λ a. EachMember class (P a)) ((a : ℕ) × ((b : ℕ) × IsFirstPair class P a b))
      (λ k below before. elim (each_or_first (P (get_or class k 0)) (decided (get_or class k 0))) [
        | inl here ↦ inl here
        | inr (b, first) ↦ inr (get_or class k 0, (b, found_pair class class ascending refl k P b before below first))
      ]) (length class) (omega arith)) [
        | inl before ↦ inl (no_more_pairs class class ascending refl (length class) P before (omega arith))
        | inr first ↦ inr first
      ]

-- a class has a fault that says something of it
record ClassHasFault (m : Algebra) (class : List ℕ) : Type 0 where
  fault : ClassFault
  of_text : fault ≢ Memory
  is : IsFaultOf m class fault

closed_or_fault : (m : Algebra) (class : List ℕ) → IsStrictlyIncreasing class → AreSetsOf m class → IsClosedClass m class ⊎ ClassHasFault m class
closed_or_fault m class up sets = elim (bases_below m class m.size (omega arith)) [
  | inr lacks ↦ inr (record { fault = LacksBase lacks.base; of_text = λ e. cc; is = lacks.first })
  | inl bases ↦ elim (each_or_first class up (HasConverse m class) (λ a. member_decided class (converse m a))) [
    | inr (a, first) ↦ inr (record { fault = NotClosed a 0 1; of_text = λ e. cc; is = (bases, inl (record { operation = refl; first = first; second = refl })) })
    | inl converses ↦ elim (each_or_first_pair class up (HasMeet class) (λ a b. member_decided class (bit_and a b))) [
      | inr (a, (b, first)) ↦ inr (record {
        fault = NotClosed a b 2;
        of_text = λ e. cc;
        is = (bases, inr (inl (record { operation = refl; converse = converses; first = first })));
      })
      | inl meets ↦ elim (each_or_first_pair class up (HasComposition m class) (λ a b. member_decided class (composition m a b))) [
        | inr (a, (b, first)) ↦ inr (record {
          fault = NotClosed a b 3;
          of_text = λ e. cc;
          is = (bases, inr (inr (record { operation = refl; converse = converses; meet = meets; first = first })));
        })
        | inl compositions ↦ inl (record { sets = sets; bases = bases; converse = converses; meet = meets; composition = compositions })
      ]
    ]
  ]
]

-- ---- each text is that of a class of sets below, or has a fault

abbrev IsOfText : ClassFault → Type 0
IsOfText fault = fault ≢ Memory

module _ (bases : List (List ℕ)) where
  set_line-below : (tokens : List Lexeme) → IfSome (set_line bases tokens) (IsSetBelow (length bases))
  set_line-below tokens =
      let B = IsSetBelow (length bases) in
      IfSome-and_then (λ s. IfSome s.0 B) B (λ f. _) (set_at bases tokens) (set_at-within bases tokens) (λ f h.
      IfSome-and_then (λ s. IfSome s B) B (λ set. set) (at_end f.0 f.1) (IfSome-at_end (λ s. IfSome s B) f.0 f.1 h) (λ s k. k))

  or_too_many-below : (line a : ℕ) (class : List ℕ) → IsClassBelow (length bases) class → IsSetBelow (length bases) a →
      MatchResult (or_too_many line (with_member a class)) (IsClassBelow (length bases)) IsOfText
  or_too_many-below line a class h set =
      MatchResult-cond IsOfText (IsClassBelow (length bases)) (nat_lt MAX_MEMBERS (length (with_member a class))) (Err (TooMany line)) (Ok (with_member a class))
      (λ _ e. cc) (λ few. IsClassBelow-with (length bases) a class h set (ltb-false MAX_MEMBERS (length (with_member a class)) few))

  with_line-below : (line : ℕ) (tokens : List Lexeme) (class : List ℕ) → IsClassBelow (length bases) class →
      MatchResult (with_line bases line tokens class) (IsClassBelow (length bases)) IsOfText
  with_line-below line tokens class h =
      MatchResult-then IsOfText (IsSetBelow (length bases)) (IsClassBelow (length bases)) (ok_or (set_line bases tokens) (Syntax line))
      (λ a. or_too_many line (with_member a class)) (MatchResult-ok_or IsOfText (IsSetBelow (length bases)) (set_line bases tokens) (Syntax line) (set_line-below tokens) (λ e. cc))
      (λ a set. or_too_many-below line a class h set)

  end_fault-of_text : (end : TextEnd) → IsOfText (end_fault end)
  end_fault-of_text (BadLine line) e = cc
  end_fault-of_text (Whole lines) e = cc

  class_before-below : (o : Option ℕ) (class : List ℕ) → IsClassBelow (length bases) class → MatchResult (class_before o class) (IsClassBelow (length bases)) IsOfText
  class_before-below None class h = h
  class_before-below (Some line) class h = λ e. cc

  sets_from-below : (end : TextEnd) (lines : List TokenLine) (class : List ℕ) → IsClassBelow (length bases) class →
      MatchResult (sets_from bases end lines class) (IsClassBelow (length bases)) IsOfText
  sets_from-below end [] class h = end_fault-of_text end
  sets_from-below end (l ∷ ls) class h =
      MatchResult-cond IsOfText (IsClassBelow (length bases)) (is_end_line l.tokens) (class_at_end end ls class)
      (with_line bases l.number l.tokens class >>= λ more. sets_from bases end ls more)
      (λ _. class_before-below (extra_line ls end) class h)
      (λ _. MatchResult-then IsOfText (IsClassBelow (length bases)) (IsClassBelow (length bases)) (with_line bases l.number l.tokens class) (λ more. sets_from bases end ls more)
      (with_line-below l.number l.tokens class h) (λ more kept. sets_from-below end ls more kept))

  empty_class : IsClassBelow (length bases) (0 ∷ [])
  empty_class = record {
    is_class = record {
      ascending = λ k l. absurd (omega arith);
      empty = Contains-at (0 ∷ []) 0 0 (omega arith) refl;
      few = omega arith;
    };
    below = λ a c. elim (Contains-cons_cases 0 [] a c) [
      | inl e ↦ subst (IsSetBelow (length bases)) e (IsWithin-empty (2 ^ length bases - 1))
      | inr d ↦ absurd (omega (arith, d.1))
    ];
  }

-- ---- each text has an answer

answered : (c : NamedAlgebra) (bytes : List ℕ) (text : Result (List ℕ) ClassFault) → IsNamedCalculus c → class_of c.names bytes ≡ text →
    MatchResult text (IsClassBelow (length c.names)) IsOfText → IsTextOfClass c bytes ⊎ TextHasFault c bytes
answered c bytes (Err e) lawful is of_text =
    inr (record { fault = e; of_text = of_text; is = subst (λ t. IsClassFaultOf c.algebra t e) (sym is) (own-fault c.algebra e) })
answered c bytes (Ok class) lawful is below =
    let sets : AreSetsOf c.algebra class = λ a d. subst (λ n. IsWithin a (2 ^ n - 1)) lawful.one_each (below.below a d) in
    elim (closed_or_fault c.algebra class below.is_class.ascending sets) [
      | inl closed ↦ inl (record { class = class; is_of_text = is; closed = closed })
      | inr f ↦ inr (record { fault = f.fault; of_text = f.of_text; is = subst (λ t. IsClassFaultOf c.algebra t f.fault) (sym is) (fault-of_class c.algebra class f.fault f.is) })
    ]

pub class_file_answer : ClassFileHasAnswer
class_file_answer c bytes lawful =
    let text : FileText = file_text bytes in
    answered c bytes (class_of c.names bytes) lawful refl (sets_from-below c.names text.end text.lines (0 ∷ []) (empty_class c.names))

-- the sets of a text make a class
pub class_of_text : (names : List (List ℕ)) (bytes class : List ℕ) → class_of names bytes ≡ Ok class → IsClass class
class_of_text names bytes class e =
    let text : FileText = file_text bytes in
    let below = subst (λ t. MatchResult t (IsClassBelow (length names)) IsOfText) e
    (sets_from-below names text.end text.lines (0 ∷ []) (empty_class names)) in
    below.is_class
