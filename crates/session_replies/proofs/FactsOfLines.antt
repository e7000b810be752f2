-- What the lines of a batch do to a draft.
use Rattle.std.proofs.Common.{◌≡◌, ℕ, ◌+◌, ◌≤◌, ◌==◌, Bool, true, false, not, cond, List, [], ◌∷◌, ◌++◌, length, filter, drop, All, Option, Some, None, refl, sym, ap, subst, ◌∙◌, arith, append_assoc, append-nil, length-append}
use Rattle.std.proofs.lemmas.List.{at_drop_all, map_push}
use Rattle.std.proofs.lemmas.List.Elements.{All-head, All-tail}
use Rattle.calculus_table.specs.Algebra.{Algebra}
use Rattle.calculus_table.specs.Composition.{full_of}
use Rattle.network_words.specs.declared.fact.Fact.{Fact}
use Rattle.session_versions.specs.HeldFacts.{HeldFact, facts_of}
use Rattle.session_versions.specs.Drafts.{DraftState, withdraw_fault, withdrawing}
use Rattle.session_versions.specs.HeldFacts.{held_with}
use Rattle.session_versions.specs.Versions.{AreProper}
use Rattle.session_versions.specs.declared.draft.WithdrawFault.{WithdrawFault}
use Rattle.session_versions.proofs.Proper.{AreProper-push, AreProper-filter}
use Rattle.session_scripts.specs.declared.batch.What.{What}
use Rattle.session_scripts.specs.declared.batch.What.TheVariants.{Assert, Peek, Withdraw, Ask, Refused}
use Rattle.session_scripts.specs.declared.batch.Line.{Line}
use Rattle.session_scripts.specs.Batches.{session_name, IsAsked, IsLineFor}
use Rattle.session_replies.specs.Drafting.{LosesFacts, GainsFacts}
use Rattle.session_replies.specs.Replies.{withdrawn_if, withdrawn_by, after_withdrawals, stated_by, after_facts, facts_of_line, facts_of_lines}

-- ---- filters

cond-le : {X : Type 0} (b : Bool) (x : X) (ys : List X) (n : ℕ) → length ys ≤ n → length (cond b (x ∷ ys) ys) ≤ n + 1
cond-le true x ys n l = omega arith
cond-le false x ys n l = omega arith

-- no more pass than there are
length-filter-le : {X : Type 0} (p : X → Bool) (xs : List X) → length (filter p xs) ≤ length xs
length-filter-le p [] = omega arith
length-filter-le p (x ∷ xs) = omega (arith, cond-le (p x) x (filter p xs) (length xs) (length-filter-le p xs))

cond-all : {X : Type 0} (b : Bool) (x : X) (xs ys : List X) → length ys ≤ length xs → (length ys ≡ length xs → ys ≡ xs) → length (cond b (x ∷ ys) ys) ≡ length xs + 1 → cond b (x ∷ ys) ys ≡ x ∷ xs
cond-all true x xs ys l same e = ap (λ zs. x ∷ zs) (same (omega (arith, e)))
cond-all false x xs ys l same e = absurd (omega (arith, e))

-- where as many pass as there are all do
filter-all : {X : Type 0} (p : X → Bool) (xs : List X) → length (filter p xs) ≡ length xs → filter p xs ≡ xs
filter-all p [] e = refl
filter-all p (x ∷ xs) e = cond-all (p x) x xs (filter p xs) (length-filter-le p xs) (filter-all p xs) (omega (arith, e))

-- ---- withdrawals

LosesFacts-refl : (draft : DraftState) → LosesFacts draft draft
LosesFacts-refl draft = record { next = refl; fewer = omega arith; same = λ e. refl; proper = λ m n p. p }

LosesFacts-trans : (a b c : DraftState) → LosesFacts a b → LosesFacts b c → LosesFacts a c
LosesFacts-trans a b c p q = record {
  next = q.next ∙ p.next;
  fewer = omega (arith, p.fewer, q.fewer);
  same = λ e. q.same (omega (arith, e, p.fewer, q.fewer)) ∙ p.same (omega (arith, e, p.fewer, q.fewer));
  proper = λ m n w. q.proper m n (p.proper m n w);
}

LosesFacts-withdrawing : (fact : ℕ) (draft : DraftState) → LosesFacts draft (withdrawing fact draft)
LosesFacts-withdrawing fact draft =
    let stays : HeldFact → Bool = λ held. not (held.number == fact) in
    record {
      next = refl;
      fewer = length-filter-le stays draft.facts;
      same = λ e. ap (λ facts. record draft { facts = facts }) (filter-all stays draft.facts e);
      proper = λ m n p. AreProper-filter m n stays draft.facts p;
    }

LosesFacts-if : (fault : Option WithdrawFault) (fact : ℕ) (draft : DraftState) → LosesFacts draft (withdrawn_if fault fact draft)
LosesFacts-if None fact draft = LosesFacts-withdrawing fact draft
LosesFacts-if (Some fault) fact draft = LosesFacts-refl draft

LosesFacts-line : (session : List ℕ) (what : What) (draft : DraftState) → LosesFacts draft (withdrawn_by session what draft)
LosesFacts-line session (Withdraw fact) draft = LosesFacts-if (withdraw_fault session (held_with fact draft.facts)) fact draft
LosesFacts-line session (Assert fact) draft = LosesFacts-refl draft
LosesFacts-line session (Peek i j) draft = LosesFacts-refl draft
LosesFacts-line session (Ask version i j) draft = LosesFacts-refl draft
LosesFacts-line session (Refused number) draft = LosesFacts-refl draft

pub LosesFacts-lines : (sessions : List (List ℕ)) (lines : List Line) (draft : DraftState) → LosesFacts draft (after_withdrawals sessions lines draft)
LosesFacts-lines sessions [] draft = LosesFacts-refl draft
LosesFacts-lines sessions (l ∷ ls) draft =
    let name = session_name sessions l.session in
    let next = withdrawn_by name l.what draft in
    LosesFacts-trans draft next (after_withdrawals sessions ls next) (LosesFacts-line name l.what draft) (LosesFacts-lines sessions ls next)

-- after the last line
pub LosesFacts-looped : (sessions : List (List ℕ)) (lines : List Line) (k : ℕ) (old new : DraftState) → length lines ≤ k →
    after_withdrawals sessions (drop k lines) new ≡ after_withdrawals sessions lines old → LosesFacts old new
LosesFacts-looped sessions lines k old new l e =
    subst (LosesFacts old) (sym (sym (at_drop_all (λ ls. after_withdrawals sessions ls new) lines k l) ∙ e)) (LosesFacts-lines sessions lines old)

-- ---- new facts

-- what comes of stating facts
record AddsFacts (facts : List Fact) (old new : DraftState) : Type 0 where
  next : new.next ≡ old.next + length facts
  facts_are : facts_of new.facts ≡ facts_of old.facts ++ facts

AddsFacts-none : (draft : DraftState) → AddsFacts [] draft draft
AddsFacts-none draft = record { next = omega arith; facts_are = sym (append-nil (facts_of draft.facts)) }

AddsFacts-line : (session : List ℕ) (what : What) (draft : DraftState) → AddsFacts (facts_of_line what) draft (stated_by session what draft)
AddsFacts-line session (Assert fact) draft = record {
  next = refl;
  facts_are = map_push (λ (held : HeldFact). held.fact) draft.facts (record { number = draft.next; session = session; fact = fact });
}
AddsFacts-line session (Withdraw fact) draft = AddsFacts-none draft
AddsFacts-line session (Peek i j) draft = AddsFacts-none draft
AddsFacts-line session (Ask version i j) draft = AddsFacts-none draft
AddsFacts-line session (Refused number) draft = AddsFacts-none draft

AddsFacts-trans : (xs ys : List Fact) (a b c : DraftState) → AddsFacts xs a b → AddsFacts ys b c → AddsFacts (xs ++ ys) a c
AddsFacts-trans xs ys a b c p q = record {
  next = omega (arith, p.next, q.next, length-append xs ys);
  facts_are = q.facts_are ∙ ap (λ fs. fs ++ ys) p.facts_are ∙ append_assoc (facts_of a.facts) xs ys;
}

AddsFacts-lines : (sessions : List (List ℕ)) (lines : List Line) (draft : DraftState) → AddsFacts (facts_of_lines lines) draft (after_facts sessions lines draft)
AddsFacts-lines sessions [] draft = AddsFacts-none draft
AddsFacts-lines sessions (l ∷ ls) draft =
    let name = session_name sessions l.session in
    let next = stated_by name l.what draft in
    AddsFacts-trans (facts_of_line l.what) (facts_of_lines ls) draft next (after_facts sessions ls next) (AddsFacts-line name l.what draft) (AddsFacts-lines sessions ls next)

few_of_line : (what : What) → length (facts_of_line what) ≤ 1
few_of_line (Assert fact) = omega arith
few_of_line (Withdraw fact) = omega arith
few_of_line (Peek i j) = omega arith
few_of_line (Ask version i j) = omega arith
few_of_line (Refused number) = omega arith

-- a line states one fact at most
few_facts : (lines : List Line) → length (facts_of_lines lines) ≤ length lines
few_facts [] = omega arith
few_facts (l ∷ ls) = omega (arith, few_of_line l.what, few_facts ls, length-append (facts_of_line l.what) (facts_of_lines ls))

AreProper-line : (m : Algebra) (n : ℕ) (session : List ℕ) (what : What) (draft : DraftState) → IsAsked (full_of m) n what → AreProper m n draft.facts → AreProper m n (stated_by session what draft).facts
AreProper-line m n session (Assert fact) draft asked p =
    AreProper-push m n draft.facts (record { number = draft.next; session = session; fact = fact }) p asked.0 asked.1
AreProper-line m n session (Withdraw fact) draft asked p = p
AreProper-line m n session (Peek i j) draft asked p = p
AreProper-line m n session (Ask version i j) draft asked p = p
AreProper-line m n session (Refused number) draft asked p = p

AreProper-lines : (m : Algebra) (n count : ℕ) (sessions : List (List ℕ)) (lines : List Line) (draft : DraftState) → All (IsLineFor (full_of m) n count) lines →
    AreProper m n draft.facts → AreProper m n (after_facts sessions lines draft).facts
AreProper-lines m n count sessions [] draft asked p = p
AreProper-lines m n count sessions (l ∷ ls) draft asked p =
    let first : IsLineFor (full_of m) n count l = All-head (IsLineFor (full_of m) n count) l ls asked in
    AreProper-lines m n count sessions ls (stated_by (session_name sessions l.session) l.what draft) (All-tail (IsLineFor (full_of m) n count) l ls asked)
    (AreProper-line m n (session_name sessions l.session) l.what draft first.asked p)

-- after the last line
pub GainsFacts-looped : (sessions : List (List ℕ)) (lines : List Line) (k : ℕ) (old new : DraftState) → length lines ≤ k →
    after_facts sessions (drop k lines) new ≡ after_facts sessions lines old → GainsFacts lines old new
GainsFacts-looped sessions lines k old new l e =
    let adds = AddsFacts-lines sessions lines old in
    let all : after_facts sessions lines old ≡ new = sym (sym (at_drop_all (λ ls. after_facts sessions ls new) lines k l) ∙ e) in
    subst (GainsFacts lines old) all
    (record { facts = adds.facts_are; next = adds.next; few = few_facts lines; proper = λ m n count asked p. AreProper-lines m n count sessions lines old asked p })
