-- The lines of a batch dealt to its sessions.
use Rattle.std.proofs.Common.{◌≡◌, ℕ, suc, ◌+◌, ◌<◌, ◌≤◌, List, [], ◌∷◌, ◌++◌, length, take, get_or, set, refl, sym, subst, ap, ◌∙◌, arith, inl, inr}
use Rattle.std.specs.Prelude.{Vec}
use Rattle.std.specs.Global.{Global}
use Rattle.std.specs.List.{All}
use Rattle.std.proofs.lemmas.Bool.{cases_eq, eq-eqb, ne_eqb}
use Rattle.std.proofs.lemmas.List.{take_more, length-take-le, length-set, length-map, get_or-set_same, get_or-set_other, map-set, get_or-map}
use Rattle.std.proofs.lemmas.List.Elements.{All-nil, All-cons, All-head, All-tail}
use Rattle.session_scripts.specs.declared.batch.What.{What}
use Rattle.session_scripts.specs.declared.batch.Line.{Line}
use Rattle.session_scripts.specs.Batches.{BatchState, IsAsked, IsLineFor, IsBatchFor}
use Rattle.session_phase.specs.declared.steps.Step.{Step}
use Rattle.session_phase.specs.Phase.{IsStepFor, asked_by, asked_of, steps_of}
use Rattle.session_run.specs.Steps.{lines_from, lines_by, AreDealt}

-- ---- one line more

pub lines_from-own : (k at : ℕ) (l : Line) (ls : List Line) → l.session ≡ k → lines_from k at (l ∷ ls) ≡ (at, l.what) ∷ lines_from k (at + 1) ls
lines_from-own k at l ls e = rw (eq-eqb l.session k e) refl

pub lines_from-other : (k at : ℕ) (l : Line) (ls : List Line) → (l.session ≡ k → ⊥) → lines_from k at (l ∷ ls) ≡ lines_from k (at + 1) ls
lines_from-other k at l ls e = rw (ne_eqb l.session k e) refl

later : (k at : ℕ) (x : Line) (xs : List Line) (l : Line) (ys : List (ℕ × What)) → ys ++ (at + 1 + length xs, l.what) ∷ [] ≡ ys ++ (at + length (x ∷ xs), l.what) ∷ []
later k at x xs l ys =
    let e : at + 1 + length xs ≡ at + length (x ∷ xs) = omega arith in
    ap (λ (n : ℕ). ys ++ (n, l.what) ∷ []) e

lines_from-push_own : (k at : ℕ) (ls : List Line) (l : Line) → l.session ≡ k → lines_from k at (ls ++ l ∷ []) ≡ lines_from k at ls ++ (at + length ls, l.what) ∷ []
lines_from-push_own k at [] l e =
    let here : at ≡ at + 0 = omega arith in
    lines_from-own k at l [] e ∙ ap (λ (n : ℕ). (n, l.what) ∷ []) here
lines_from-push_own k at (x ∷ xs) l e =
    let rest = lines_from-push_own k (at + 1) xs l e ∙ later k at x xs l (lines_from k (at + 1) xs) in
    let last : List (ℕ × What) = (at + length (x ∷ xs), l.what) ∷ [] in
    elim (cases_eq x.session k) [
      | inl same ↦
          lines_from-own k at x (xs ++ l ∷ []) same ∙ ap (λ (zs : List (ℕ × What)). (at, x.what) ∷ zs) rest
          ∙ ap (λ (zs : List (ℕ × What)). zs ++ last) (sym (lines_from-own k at x xs same))
      | inr other ↦
          lines_from-other k at x (xs ++ l ∷ []) other ∙ rest ∙ ap (λ (zs : List (ℕ × What)). zs ++ last) (sym (lines_from-other k at x xs other))
    ]

lines_from-push_other : (k at : ℕ) (ls : List Line) (l : Line) → (l.session ≡ k → ⊥) → lines_from k at (ls ++ l ∷ []) ≡ lines_from k at ls
lines_from-push_other k at [] l e = lines_from-other k at l [] e
lines_from-push_other k at (x ∷ xs) l e = elim (cases_eq x.session k) [
  | inl same ↦
      lines_from-own k at x (xs ++ l ∷ []) same ∙ ap (λ (zs : List (ℕ × What)). (at, x.what) ∷ zs) (lines_from-push_other k (at + 1) xs l e)
      ∙ sym (lines_from-own k at x xs same)
  | inr other ↦
      lines_from-other k at x (xs ++ l ∷ []) other ∙ lines_from-push_other k (at + 1) xs l e ∙ sym (lines_from-other k at x xs other)
]

pub one_more : (lines : List Line) (i : ℕ) (l : Line) → i < length lines → l ≡ get_or lines i l → take (i + 1) lines ≡ take i lines ++ l ∷ []
one_more lines i l h e = take_more lines i l h ∙ ap (λ (x : Line). take i lines ++ x ∷ []) (sym e)

lines_by-own : (k i : ℕ) (lines : List Line) (l : Line) → i < length lines → l ≡ get_or lines i l → l.session ≡ k →
    lines_by k (take (i + 1) lines) ≡ lines_by k (take i lines) ++ (i, l.what) ∷ []
lines_by-own k i lines l h e s =
    let within : i ≤ length lines = omega arith in
    let count : 0 + length (take i lines) ≡ i = omega (arith, length-take-le i lines within) in
    ap (lines_by k) (one_more lines i l h e) ∙ lines_from-push_own k 0 (take i lines) l s
    ∙ ap (λ (n : ℕ). lines_by k (take i lines) ++ (n, l.what) ∷ []) count

lines_by-other : (k i : ℕ) (lines : List Line) (l : Line) → i < length lines → l ≡ get_or lines i l → (l.session ≡ k → ⊥) →
    lines_by k (take (i + 1) lines) ≡ lines_by k (take i lines)
lines_by-other k i lines l h e s = ap (lines_by k) (one_more lines i l h e) ∙ lines_from-push_other k 0 (take i lines) l s

-- ---- dealt

pub AreDealt-own : (sessions : List (List ℕ)) (lines : List Line) (i : ℕ) (l : Line) (asked : List (List (ℕ × What))) → i < length lines → l ≡ get_or lines i l →
    l.session < length asked → AreDealt (record { sessions = sessions; lines = take i lines }) asked →
    AreDealt (record { sessions = sessions; lines = take (i + 1) lines }) (set asked l.session (get_or asked l.session [] ++ (i, l.what) ∷ []))
AreDealt-own sessions lines i l asked b e there d =
    let one : List (ℕ × What) = (i, l.what) ∷ [] in
    let more = get_or asked l.session [] ++ one in
    record {
      count = length-set asked l.session more ∙ d.count;
      each = λ k h.
          let below : k < length asked = omega (arith, length-set asked l.session more) in
          elim (cases_eq k l.session) [
            | inl same ↦
                ap (λ (j : ℕ). get_or (set asked l.session more) j []) same ∙ get_or-set_same asked l.session more [] there
                ∙ ap (λ (zs : List (ℕ × What)). zs ++ one) (d.each l.session there ∙ ap (λ (j : ℕ). lines_by j (take i lines)) (sym same))
                ∙ sym (lines_by-own k i lines l b e (sym same))
            | inr other ↦
                get_or-set_other asked l.session k more [] other ∙ d.each k below ∙ sym (lines_by-other k i lines l b e (λ s. other (sym s)))
          ];
    }

pub AreDealt-passed : (sessions : List (List ℕ)) (lines : List Line) (i : ℕ) (l : Line) (asked : List (List (ℕ × What))) → i < length lines → l ≡ get_or lines i l →
    length asked ≤ l.session → AreDealt (record { sessions = sessions; lines = take i lines }) asked →
    AreDealt (record { sessions = sessions; lines = take (i + 1) lines }) asked
AreDealt-passed sessions lines i l asked b e past d = record {
  count = d.count;
  each = λ k h. d.each k h ∙ sym (lines_by-other k i lines l b e (λ s. absurd (omega arith)));
}

pub length-steps_of : (lists : List (Vec Step Global)) → length (steps_of lists) ≡ length lists
length-steps_of lists = length-map lists (λ (steps : Vec Step Global). steps.items)

pub length-asked_of : (lists : List (Vec Step Global)) → length (asked_of (steps_of lists)) ≡ length lists
length-asked_of lists = length-map (steps_of lists) asked_by ∙ length-steps_of lists

-- a session gets one step more
pub asked_of-more : (lists : List (Vec Step Global)) (k i : ℕ) (what : What) (old new : Vec Step Global) → k < length lists → old ≡ get_or lists k old →
    asked_by new.items ≡ asked_by old.items ++ (i, what) ∷ [] →
    asked_of (steps_of (set lists k new)) ≡ set (asked_of (steps_of lists)) k (get_or (asked_of (steps_of lists)) k [] ++ (i, what) ∷ [])
asked_of-more lists k i what old new h e a =
    let f = λ (steps : Vec Step Global). steps.items in
    let below : k < length (steps_of lists) = omega (arith, length-map lists f) in
    let here : get_or (asked_of (steps_of lists)) k [] ≡ asked_by old.items =
    get_or-map asked_by (steps_of lists) k old.items [] below ∙ ap asked_by (get_or-map f lists k old old.items h ∙ ap f (sym e)) in
    ap asked_of (map-set f lists k new) ∙ map-set asked_by (steps_of lists) k new.items
    ∙ ap (set (asked_of (steps_of lists)) k) (a ∙ ap (λ (zs : List (ℕ × What)). zs ++ (i, what) ∷ []) (sym here))

-- ---- what the steps ask for

lines_asked : (full n sessions k at : ℕ) (ls : List Line) → All (IsLineFor full n sessions) ls → All (λ (p : ℕ × What). IsAsked full n p.1) (lines_from k at ls)
lines_asked full n sessions k at [] h = All-nil (λ (p : ℕ × What). IsAsked full n p.1)
lines_asked full n sessions k at (l ∷ ls) h =
    let one : IsLineFor full n sessions l = All-head (IsLineFor full n sessions) l ls h in
    let rest = lines_asked full n sessions k (at + 1) ls (All-tail (IsLineFor full n sessions) l ls h) in
    elim (cases_eq l.session k) [
      | inl same ↦ rw (lines_from-own k at l ls same) (All-cons (λ (p : ℕ × What). IsAsked full n p.1) (at, l.what) (lines_from k (at + 1) ls) one.asked rest)
      | inr other ↦ rw (lines_from-other k at l ls other) rest
    ]

steps_asked : (full n : ℕ) (steps : List Step) → All (λ (p : ℕ × What). IsAsked full n p.1) (asked_by steps) → All (IsStepFor full n) steps
steps_asked full n [] h = All-nil (IsStepFor full n)
steps_asked full n (s ∷ ss) h =
    All-cons (IsStepFor full n) s ss (All-head (λ (p : ℕ × What). IsAsked full n p.1) (s.place, s.what) (asked_by ss) h)
    (steps_asked full n ss (All-tail (λ (p : ℕ × What). IsAsked full n p.1) (s.place, s.what) (asked_by ss) h))

sessions_asked : (full n : ℕ) (lists : List (List Step)) →
    ((k : ℕ) → k < length (asked_of lists) → All (λ (p : ℕ × What). IsAsked full n p.1) (get_or (asked_of lists) k [])) → All (All (IsStepFor full n)) lists
sessions_asked full n [] h = All-nil (All (IsStepFor full n))
sessions_asked full n (steps ∷ more) h =
    All-cons (All (IsStepFor full n)) steps more (steps_asked full n steps (h 0 (omega arith))) (sessions_asked full n more (λ k b. h (suc k) (omega arith)))

-- each step asks what its line asks
pub steps-asked : (full n : ℕ) (batch : BatchState) (lists : List (List Step)) → IsBatchFor full n batch → AreDealt batch (asked_of lists) → All (All (IsStepFor full n)) lists
steps-asked full n batch lists p d = sessions_asked full n lists (λ k b.
    subst (All (λ (p : ℕ × What). IsAsked full n p.1)) (sym (d.each k b)) (lines_asked full n (length batch.sessions) k 0 batch.lines p))
