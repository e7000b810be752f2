-- The sets that steps show, put back to the lines of the steps, one line after another.
use Rattle.std.proofs.Common.{◌≡◌, ℕ, ◌+◌, ◌<◌, ◌≤◌, List, [], ◌∷◌, ◌++◌, length, take, drop, get_or, set, replicate, refl, sym, ap, ◌∙◌, arith, inl, inr}
use Rattle.std.specs.Prelude.{map, filter, ◌==◌, Vec}
use Rattle.std.specs.Global.{Global}
use Rattle.std.specs.List.{zip}
use Rattle.std.proofs.lemmas.Bool.{cases_eq, eq-eqb, ne_eqb}
use Rattle.std.proofs.lemmas.List.{map-append, length_push, length-take-le, length-drop, length-set, length-map, get_or-set_same, get_or-set_other, get_or-map, get_or-replicate, get_or_default, drop_more, take_more, take_all, drop_all, length-replicate}
use Rattle.std.proofs.lemmas.List.Elements.{filter-append}
use Rattle.session_scripts.specs.declared.batch.What.{What}
use Rattle.session_scripts.specs.declared.batch.What.TheVariants.{Refused}
use Rattle.session_scripts.specs.declared.batch.Line.{Line}
use Rattle.session_scripts.specs.Batches.{BatchState}
use Rattle.session_phase.specs.declared.steps.Step.{Step}
use Rattle.session_replies.specs.Replies.{said_by}
use Rattle.session_phase.specs.Phase.{asked_by, shown_by, asked_of, steps_of}
use Rattle.session_run.specs.Steps.{lines_from, AreDealt}
use Rattle.session_run.proofs.Dealt.{lines_from-own, lines_from-other, one_more}

-- ---- what a session said

said_by-append : (k : ℕ) (xs ys : List (Line × ℕ)) → said_by k (xs ++ ys) ≡ said_by k xs ++ said_by k ys
said_by-append k xs ys =
    let own = λ (p : Line × ℕ). p.0.session == k in
    let says : Line × ℕ → What × ℕ = λ p. (p.0.what, p.1) in
    ap (map says) (filter-append own xs ys) ∙ map-append says (filter own xs) (filter own ys)

said_by-own : (k : ℕ) (l : Line) (x : ℕ) → l.session ≡ k → said_by k ((l, x) ∷ []) ≡ (l.what, x) ∷ []
said_by-own k l x e = rw (eq-eqb l.session k e) refl

said_by-other : (k : ℕ) (l : Line) (x : ℕ) → (l.session ≡ k → ⊥) → said_by k ((l, x) ∷ []) ≡ []
said_by-other k l x e = rw (ne_eqb l.session k e) refl

zip-push : (ls : List Line) (xs : List ℕ) (l : Line) (x : ℕ) → length xs ≡ length ls → zip (ls ++ l ∷ []) (xs ++ x ∷ []) ≡ zip ls xs ++ (l, x) ∷ []
zip-push [] [] l x e = refl
zip-push [] (y ∷ ys) l x e = absurd (omega arith)
zip-push (k ∷ ls) [] l x e = absurd (omega arith)
zip-push (k ∷ ls) (y ∷ ys) l x e =
    let same : length ys ≡ length ls = omega arith in
    ap (λ (zs : List (Line × ℕ)). (k, y) ∷ zs) (zip-push ls ys l x same)

-- ---- so many lines have their sets

pub record AreBack (lines : List Line) (sessions : List (List Step)) (p : ℕ) (taken shown : List ℕ) : Type 0 where
  pub size : length shown ≡ p
  pub counts : length taken ≡ length sessions
  pub ahead : (k : ℕ) → k < length sessions → asked_by (drop (get_or taken k 0) (get_or sessions k [])) ≡ lines_from k p (drop p lines)
  pub back : (k : ℕ) → k < length sessions → said_by k (zip (take p lines) shown) ≡ shown_by (take (get_or taken k 0) (get_or sessions k []))

drop_line : (lines : List Line) (p : ℕ) (l : Line) → p < length lines → l ≡ get_or lines p l → drop p lines ≡ l ∷ drop (p + 1) lines
drop_line lines p l h e = drop_more lines p l h ∙ ap (λ (x : Line). x ∷ drop (p + 1) lines) (sym e)

zip-more : (lines : List Line) (shown : List ℕ) (p : ℕ) (l : Line) (x : ℕ) → p < length lines → l ≡ get_or lines p l → length shown ≡ p →
    zip (take (p + 1) lines) (shown ++ x ∷ []) ≡ zip (take p lines) shown ++ (l, x) ∷ []
zip-more lines shown p l x h e size =
    let within : p ≤ length lines = omega arith in
    let same : length shown ≡ length (take p lines) = omega (arith, length-take-le p lines within) in
    ap (λ (ls : List Line). zip ls (shown ++ x ∷ [])) (one_more lines p l h e) ∙ zip-push (take p lines) shown l x same

said-own : (k : ℕ) (lines : List Line) (shown : List ℕ) (p : ℕ) (l : Line) (x : ℕ) → p < length lines → l ≡ get_or lines p l → length shown ≡ p → l.session ≡ k →
    said_by k (zip (take (p + 1) lines) (shown ++ x ∷ [])) ≡ said_by k (zip (take p lines) shown) ++ (l.what, x) ∷ []
said-own k lines shown p l x h e size own =
    ap (said_by k) (zip-more lines shown p l x h e size) ∙ said_by-append k (zip (take p lines) shown) ((l, x) ∷ [])
    ∙ ap (λ (zs : List (What × ℕ)). said_by k (zip (take p lines) shown) ++ zs) (said_by-own k l x own)

append-none : (xs : List (What × ℕ)) → xs ++ [] ≡ xs
append-none [] = refl
append-none (x ∷ xs) = ap (λ (zs : List (What × ℕ)). x ∷ zs) (append-none xs)

said-other : (k : ℕ) (lines : List Line) (shown : List ℕ) (p : ℕ) (l : Line) (x : ℕ) → p < length lines → l ≡ get_or lines p l → length shown ≡ p → (l.session ≡ k → ⊥) →
    said_by k (zip (take (p + 1) lines) (shown ++ x ∷ [])) ≡ said_by k (zip (take p lines) shown)
said-other k lines shown p l x h e size other =
    ap (said_by k) (zip-more lines shown p l x h e size) ∙ said_by-append k (zip (take p lines) shown) ((l, x) ∷ [])
    ∙ ap (λ (zs : List (What × ℕ)). said_by k (zip (take p lines) shown) ++ zs) (said_by-other k l x other) ∙ append-none (said_by k (zip (take p lines) shown))

ahead-other : (k : ℕ) (lines : List Line) (p : ℕ) (l : Line) → p < length lines → l ≡ get_or lines p l → (l.session ≡ k → ⊥) →
    lines_from k p (drop p lines) ≡ lines_from k (p + 1) (drop (p + 1) lines)
ahead-other k lines p l h e other = ap (lines_from k p) (drop_line lines p l h e) ∙ lines_from-other k p l (drop (p + 1) lines) other

ahead-own : (k : ℕ) (lines : List Line) (p : ℕ) (l : Line) → p < length lines → l ≡ get_or lines p l → l.session ≡ k →
    lines_from k p (drop p lines) ≡ (p, l.what) ∷ lines_from k (p + 1) (drop (p + 1) lines)
ahead-own k lines p l h e own = ap (lines_from k p) (drop_line lines p l h e) ∙ lines_from-own k p l (drop (p + 1) lines) own

some_asked : (steps : List Step) (t : ℕ) (a : ℕ × What) (more : List (ℕ × What)) → asked_by (drop t steps) ≡ a ∷ more → t < length steps
some_asked steps t a more e =
    let count : length (asked_by (drop t steps)) ≡ length (drop t steps) = length-map (drop t steps) (λ (s : Step). (s.place, s.what)) in
    let some : length (asked_by (drop t steps)) ≡ length (a ∷ more) = ap length e in
    omega (arith, length-drop t steps)

-- the session of the next line has a step that isn't taken
pub AreBack-room : (lines : List Line) (sessions : List (List Step)) (p : ℕ) (taken shown : List ℕ) (l : Line) → AreBack lines sessions p taken shown →
    p < length lines → l ≡ get_or lines p l → l.session < length sessions → get_or taken l.session 0 < length (get_or sessions l.session [])
AreBack-room lines sessions p taken shown l a h e there =
    some_asked (get_or sessions l.session []) (get_or taken l.session 0) (p, l.what) (lines_from l.session (p + 1) (drop (p + 1) lines))
    (a.ahead l.session there ∙ ahead-own l.session lines p l h e refl)

drop_step : (steps : List Step) (t : ℕ) (s : Step) → t < length steps → s ≡ get_or steps t s → drop t steps ≡ s ∷ drop (t + 1) steps
drop_step steps t s h e = drop_more steps t s h ∙ ap (λ (x : Step). x ∷ drop (t + 1) steps) (sym e)

take_step : (steps : List Step) (t : ℕ) (s : Step) → t < length steps → s ≡ get_or steps t s → take (t + 1) steps ≡ take t steps ++ s ∷ []
take_step steps t s h e = take_more steps t s h ∙ ap (λ (x : Step). take t steps ++ x ∷ []) (sym e)

next_asked : (s : Step) (ss : List Step) (a : ℕ × What) (more : List (ℕ × What)) → asked_by (s ∷ ss) ≡ a ∷ more → (s.what ≡ a.1) × (asked_by ss ≡ more)
next_asked s ss a more e =
    let first : (s.place, s.what) ≡ a = cc in
    let what : s.what ≡ a.1 = ap (λ (q : ℕ × What). q.1) first in
    let rest : asked_by ss ≡ more = cc in
    (what, rest)

-- the next line gets the set of its step
pub AreBack-own : (lines : List Line) (sessions : List (List Step)) (p : ℕ) (taken shown : List ℕ) (l : Line) (s : Step) → AreBack lines sessions p taken shown →
    p < length lines → l ≡ get_or lines p l → l.session < length sessions → s ≡ get_or (get_or sessions l.session []) (get_or taken l.session 0) s →
    AreBack lines sessions (p + 1) (set taken l.session (get_or taken l.session 0 + 1)) (shown ++ s.set ∷ [])
AreBack-own lines sessions p taken shown l s a h e there step =
    let own = l.session in
    let t = get_or taken own 0 in
    let steps = get_or sessions own [] in
    let room : t < length steps = AreBack-room lines sessions p taken shown l a h e there in
    let taken_there : own < length taken = omega (arith, a.counts) in
    let now : get_or (set taken own (t + 1)) own 0 ≡ t + 1 = get_or-set_same taken own (t + 1) 0 taken_there in
    let next = next_asked s (drop (t + 1) steps) (p, l.what) (lines_from own (p + 1) (drop (p + 1) lines))
    (ap asked_by (sym (drop_step steps t s room step)) ∙ a.ahead own there ∙ ahead-own own lines p l h e refl) in
    record {
      size = length_push shown s.set ∙ ap (λ (n : ℕ). n + 1) a.size;
      counts = length-set taken own (t + 1) ∙ a.counts;
      ahead = λ k b. elim (cases_eq k own) [
        | inl same ↦
            rw same (ap (λ (n : ℕ). asked_by (drop n steps)) now ∙ next.1)
        | inr other ↦
            ap (λ (n : ℕ). asked_by (drop n (get_or sessions k []))) (get_or-set_other taken own k (t + 1) 0 other)
            ∙ a.ahead k b ∙ ahead-other k lines p l h e (λ q. other (sym q))
      ];
      back = λ k b. elim (cases_eq k own) [
        | inl same ↦
            rw same (
            said-own own lines shown p l s.set h e a.size refl
            ∙ ap (λ (zs : List (What × ℕ)). zs ++ (l.what, s.set) ∷ []) (a.back own there)
            ∙ ap (λ (w : What). shown_by (take t steps) ++ (w, s.set) ∷ []) (sym next.0)
            ∙ sym (map-append (λ (x : Step). (x.what, x.set)) (take t steps) (s ∷ []))
            ∙ ap shown_by (sym (take_step steps t s room step))
            ∙ ap (λ (n : ℕ). shown_by (take n steps)) (sym now))
        | inr other ↦
            said-other k lines shown p l s.set h e a.size (λ q. other (sym q)) ∙ a.back k b
            ∙ ap (λ (n : ℕ). shown_by (take n (get_or sessions k []))) (sym (get_or-set_other taken own k (t + 1) 0 other))
      ];
    }

-- the same, where the set is that of the step at this place, whatever comes after the last one
pub AreBack-shown : (lines : List Line) (sessions : List (List Step)) (p : ℕ) (taken shown : List ℕ) (l : Line) (x : ℕ) → AreBack lines sessions p taken shown →
    p < length lines → l ≡ get_or lines p l → l.session < length sessions →
    ((d : Step) → x ≡ (get_or (get_or sessions l.session []) (get_or taken l.session 0) d).set) →
    AreBack lines sessions (p + 1) (set taken l.session (get_or taken l.session 0 + 1)) (shown ++ x ∷ [])
AreBack-shown lines sessions p taken shown l x a h e there is =
    let steps = get_or sessions l.session [] in
    let t = get_or taken l.session 0 in
    let nothing : Step = record { place = 0; what = Refused 0; set = 0 } in
    let room : t < length steps = AreBack-room lines sessions p taken shown l a h e there in
    let s : Step = get_or steps t nothing in
    rw (is nothing) (AreBack-own lines sessions p taken shown l s a h e there (get_or_default steps t nothing s room))

-- the steps of a session
pub steps_of-at : (lists : List (Vec Step Global)) (k : ℕ) (v : Vec Step Global) → k < length lists → v ≡ get_or lists k v → get_or (steps_of lists) k [] ≡ v.items
steps_of-at lists k v h e =
    let f = λ (steps : Vec Step Global). steps.items in
    get_or-map f lists k v [] h ∙ ap f (sym e)

-- a line without a session
pub AreBack-other : (lines : List Line) (sessions : List (List Step)) (p : ℕ) (taken shown : List ℕ) (l : Line) (x : ℕ) → AreBack lines sessions p taken shown →
    p < length lines → l ≡ get_or lines p l → length sessions ≤ l.session → AreBack lines sessions (p + 1) taken (shown ++ x ∷ [])
AreBack-other lines sessions p taken shown l x a h e past = record {
  size = length_push shown x ∙ ap (λ (n : ℕ). n + 1) a.size;
  counts = a.counts;
  ahead = λ k b. a.ahead k b ∙ ahead-other k lines p l h e (λ q. absurd (omega arith));
  back = λ k b. said-other k lines shown p l x h e a.size (λ q. absurd (omega arith)) ∙ a.back k b;
}

-- no line has its set yet
pub AreBack-none : (batch : BatchState) (sessions : List (List Step)) (taken : List ℕ) → AreDealt batch (asked_of sessions) → taken ≡ replicate (length sessions) 0 →
    AreBack batch.lines sessions 0 taken []
AreBack-none batch sessions taken d e = record {
  size = refl;
  counts = ap length e ∙ length-replicate (length sessions) 0;
  ahead = λ k b.
      let asked_there : k < length (asked_of sessions) = omega (arith, length-map sessions asked_by) in
      ap (λ (n : ℕ). asked_by (drop n (get_or sessions k []))) (none k b) ∙ sym (get_or-map asked_by sessions k [] [] b) ∙ d.each k asked_there;
  back = λ k b. ap (λ (n : ℕ). shown_by (take n (get_or sessions k []))) (sym (none k b));
}
  where
    none : (k : ℕ) → k < length sessions → get_or taken k 0 ≡ 0
    none k b = ap (λ (ts : List ℕ). get_or ts k 0) e ∙ get_or-replicate (length sessions) k 0 0 b

-- every line has its set
pub AreBack-all : (lines : List Line) (sessions : List (List Step)) (p : ℕ) (taken shown : List ℕ) → AreBack lines sessions p taken shown → p ≡ length lines →
    (k : ℕ) → k < length sessions → said_by k (zip lines shown) ≡ shown_by (get_or sessions k [])
AreBack-all lines sessions p taken shown a e k b =
    let t = get_or taken k 0 in
    let steps = get_or sessions k [] in
    let past : length lines ≤ p = omega arith in
    let none : asked_by (drop t steps) ≡ [] = a.ahead k b ∙ ap (lines_from k p) (drop_all p lines past) in
    let count : length (asked_by (drop t steps)) ≡ length (drop t steps) = length-map (drop t steps) (λ (s : Step). (s.place, s.what)) in
    let empty : length (asked_by (drop t steps)) ≡ 0 = ap length none in
    let all : length steps ≤ t = omega (arith, length-drop t steps) in
    ap (λ (ls : List Line). said_by k (zip ls shown)) (sym (take_all p lines past)) ∙ a.back k b ∙ ap shown_by (take_all t steps all)
