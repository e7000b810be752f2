-- The facts that lines state, and those that the steps of their sessions state.
use Rattle.std.proofs.Common.{ℕ, zero, suc, ◌+◌, ◌<◌, List, [], ◌∷◌, ◌++◌, length, get_or, refl, subst, sym, arith, inl, inr}
use Rattle.std.specs.List.{All}
use Rattle.std.proofs.lemmas.Bool.{cases_eq}
use Rattle.std.proofs.lemmas.List.Elements.{All-nil, All-cons, All-head, All-tail, All-append}
use Rattle.network_words.specs.declared.fact.Fact.{Fact}
use Rattle.narrow_core.specs.Machine.{IsProperFact}
use Rattle.session_scripts.specs.declared.batch.What.{What}
use Rattle.session_scripts.specs.declared.batch.What.TheVariants.{Assert, Peek, Withdraw, Ask, Refused}
use Rattle.session_scripts.specs.declared.batch.Line.{Line}
use Rattle.session_scripts.specs.Batches.{BatchState, IsAsked, HasSession, IsLineFor, IsBatchFor}
use Rattle.session_replies.specs.Replies.{facts_of_line, facts_of_lines}
use Rattle.session_phase.specs.Phase.{fact_of, facts_of_session, facts_asked}
use Rattle.session_run.specs.Steps.{lines_from, AreDealt}
use Rattle.session_run.proofs.Dealt.{lines_from-own, lines_from-other}

-- ---- parts of lists

all_left : (P : Fact → Type 0) (xs ys : List Fact) → All P (xs ++ ys) → All P xs
all_left P [] ys h = All-nil P
all_left P (x ∷ xs) ys h = All-cons P x xs (All-head P x (xs ++ ys) h) (all_left P xs ys (All-tail P x (xs ++ ys) h))

all_right : (P : Fact → Type 0) (xs ys : List Fact) → All P (xs ++ ys) → All P ys
all_right P [] ys h = h
all_right P (x ∷ xs) ys h = all_right P xs ys (All-tail P x (xs ++ ys) h)

-- ---- of sessions

asked-all : (P : Fact → Type 0) (asked : List (List (ℕ × What))) → ((k : ℕ) → k < length asked → All P (facts_of_session (get_or asked k []))) → All P (facts_asked asked)
asked-all P [] h = All-nil P
asked-all P (a ∷ more) h = All-append P (facts_of_session a) (facts_asked more) (h 0 (omega arith)) (asked-all P more (λ k b. h (suc k) (omega arith)))

asked-each : (P : Fact → Type 0) (asked : List (List (ℕ × What))) → All P (facts_asked asked) → (k : ℕ) → k < length asked → All P (facts_of_session (get_or asked k []))
asked-each P [] h k b = absurd (omega arith)
asked-each P (a ∷ more) h zero b = all_left P (facts_of_session a) (facts_asked more) h
asked-each P (a ∷ more) h (suc k) b = asked-each P more (all_right P (facts_of_session a) (facts_asked more) h) k (omega arith)

-- ---- of lines

of_line : (P : Fact → Type 0) (what : What) → All P (facts_of_line what) → All P (fact_of what)
of_line P (Assert fact) h = h
of_line P (Peek i j) h = All-nil P
of_line P (Withdraw fact) h = All-nil P
of_line P (Ask version i j) h = All-nil P
of_line P (Refused number) h = All-nil P

to_line : (P : Fact → Type 0) (what : What) (sessions session : ℕ) → HasSession sessions session what → (session < sessions → All P (fact_of what)) → All P (facts_of_line what)
to_line P (Assert fact) sessions session s h = h s
to_line P (Peek i j) sessions session s h = All-nil P
to_line P (Withdraw fact) sessions session s h = All-nil P
to_line P (Ask version i j) sessions session s h = All-nil P
to_line P (Refused number) sessions session s h = All-nil P

from_lines : (P : Fact → Type 0) (k at : ℕ) (ls : List Line) → All P (facts_of_lines ls) → All P (facts_of_session (lines_from k at ls))
from_lines P k at [] h = All-nil P
from_lines P k at (l ∷ ls) h =
    let rest = from_lines P k (at + 1) ls (all_right P (facts_of_line l.what) (facts_of_lines ls) h) in
    elim (cases_eq l.session k) [
      | inl same ↦
          rw (lines_from-own k at l ls same)
          (All-append P (fact_of l.what) (facts_of_session (lines_from k (at + 1) ls)) (of_line P l.what (all_left P (facts_of_line l.what) (facts_of_lines ls) h)) rest)
      | inr other ↦ rw (lines_from-other k at l ls other) rest
    ]

to_lines : (P : Fact → Type 0) (full n sessions at : ℕ) (ls : List Line) → All (IsLineFor full n sessions) ls →
    ((k : ℕ) → k < sessions → All P (facts_of_session (lines_from k at ls))) → All P (facts_of_lines ls)
to_lines P full n sessions at [] p h = All-nil P
to_lines P full n sessions at (l ∷ ls) p h =
    let one : IsLineFor full n sessions l = All-head (IsLineFor full n sessions) l ls p in
    All-append P (facts_of_line l.what) (facts_of_lines ls)
    (to_line P l.what sessions l.session one.session (λ b.
    all_left P (fact_of l.what) (facts_of_session (lines_from l.session (at + 1) ls))
    (subst (λ (ps : List (ℕ × What)). All P (facts_of_session ps)) (lines_from-own l.session at l ls refl) (h l.session b))))
    (to_lines P full n sessions (at + 1) ls (All-tail (IsLineFor full n sessions) l ls p) (λ k b. elim (cases_eq l.session k) [
      | inl same ↦
          all_right P (fact_of l.what) (facts_of_session (lines_from k (at + 1) ls))
          (subst (λ (ps : List (ℕ × What)). All P (facts_of_session ps)) (lines_from-own k at l ls same) (h k b))
      | inr other ↦ subst (λ (ps : List (ℕ × What)). All P (facts_of_session ps)) (lines_from-other k at l ls other) (h k b)
    ]))

-- what holds of all facts of the lines holds of all facts of the sessions, and the other way round
pub asked-from_lines : (P : Fact → Type 0) (batch : BatchState) (asked : List (List (ℕ × What))) → AreDealt batch asked → All P (facts_of_lines batch.lines) → All P (facts_asked asked)
asked-from_lines P batch asked d h = asked-all P asked (λ k b.
    subst (λ (ps : List (ℕ × What)). All P (facts_of_session ps)) (sym (d.each k b)) (from_lines P k 0 batch.lines h))

pub asked-to_lines : (P : Fact → Type 0) (full n : ℕ) (batch : BatchState) (asked : List (List (ℕ × What))) → IsBatchFor full n batch → AreDealt batch asked →
    All P (facts_asked asked) → All P (facts_of_lines batch.lines)
asked-to_lines P full n batch asked p d h = to_lines P full n (length batch.sessions) 0 batch.lines p (λ k b.
    let below : k < length asked = omega (arith, d.count) in
    subst (λ (ps : List (ℕ × What)). All P (facts_of_session ps)) (d.each k below) (asked-each P asked h k below))

-- ---- proper facts

proper_line : (full n : ℕ) (what : What) → IsAsked full n what → All (IsProperFact n full) (facts_of_line what)
proper_line full n (Assert fact) h = All-cons (IsProperFact n full) fact [] (record { pair = h.0; within = h.1 }) (All-nil (IsProperFact n full))
proper_line full n (Peek i j) h = All-nil (IsProperFact n full)
proper_line full n (Withdraw fact) h = All-nil (IsProperFact n full)
proper_line full n (Ask version i j) h = All-nil (IsProperFact n full)
proper_line full n (Refused number) h = All-nil (IsProperFact n full)

pub proper_lines : (full n sessions : ℕ) (ls : List Line) → All (IsLineFor full n sessions) ls → All (IsProperFact n full) (facts_of_lines ls)
proper_lines full n sessions [] p = All-nil (IsProperFact n full)
proper_lines full n sessions (l ∷ ls) p =
    let one : IsLineFor full n sessions l = All-head (IsLineFor full n sessions) l ls p in
    All-append (IsProperFact n full) (facts_of_line l.what) (facts_of_lines ls) (proper_line full n l.what one.asked)
    (proper_lines full n sessions ls (All-tail (IsLineFor full n sessions) l ls p))
