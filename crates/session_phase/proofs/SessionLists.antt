-- Lists of sessions: what they ask for, dealt out, run and gathered again.
use Rattle.std.proofs.Common.{◌≡◌, ℕ, zero, suc, ◌<◌, List, [], ◌∷◌, ◌++◌, length, get_or, refl, sym, ap, ◌∙◌, subst, arith, append_assoc, length-append, Vec, Global}
use Rattle.std.specs.List.{All}
use Rattle.std.proofs.lemmas.List.{append-nil, map_push, map-append}
use Rattle.std.proofs.lemmas.List.Elements.{All-weaker}
use Rattle.calculus_table.specs.Algebra.{Algebra}
use Rattle.network_words.specs.declared.fact.Fact.{Fact}
use Rattle.network_words.specs.Network.{Network, Refines}
use Rattle.network_words.proofs.Networks.{Refines-trans}
use Rattle.edge_table.specs.Opening.{OpenState}
use Rattle.closure_workers.specs.Rounds.{IsClosureWithin}
use Rattle.session_scripts.specs.declared.batch.What.{What}
use Rattle.session_replies.specs.Replies.{AreShown}
use Rattle.session_phase.specs.declared.steps.Step.{Step}
use Rattle.session_phase.specs.declared.sessions.Session.{Session}
use Rattle.session_phase.specs.Phase.{asked_by, steps_of, asked_of, facts_of_session, facts_asked, facts_stated, asked_of_sessions, AreShownAbove}
use Rattle.session_phase.specs.Phase.{shown_by, HaveRun, HaveNarrowed}

-- ---- what sessions ask for

pub asked_of_sessions-push : (sessions : List Session) (session : Session) → asked_of_sessions (sessions ++ session ∷ []) ≡ asked_by session.steps.items ∷ asked_of_sessions sessions
asked_of_sessions-push [] session = refl
asked_of_sessions-push (s ∷ ss) session =
    ap (λ (xs : List (List (ℕ × What))). xs ++ asked_by s.steps.items ∷ []) (asked_of_sessions-push ss session)

pub length-asked_of_sessions : (sessions : List Session) → length (asked_of_sessions sessions) ≡ length sessions
length-asked_of_sessions [] = refl
length-asked_of_sessions (s ∷ ss) = omega (arith, length-append (asked_of_sessions ss) (asked_by s.steps.items ∷ []), length-asked_of_sessions ss)

-- sessions that each ask for the same
pub asked_of_sessions-each : (xs ys : List Session) → length ys ≡ length xs
    → ((k : ℕ) (d : Session) → k < length xs → asked_by (get_or ys k d).steps.items ≡ asked_by (get_or xs k d).steps.items) →
    asked_of_sessions ys ≡ asked_of_sessions xs
asked_of_sessions-each [] [] l e = refl
asked_of_sessions-each [] (y ∷ ys) l e = absurd (omega arith)
asked_of_sessions-each (x ∷ xs) [] l e = absurd (omega arith)
asked_of_sessions-each (x ∷ xs) (y ∷ ys) l e =
    let rest : asked_of_sessions ys ≡ asked_of_sessions xs = asked_of_sessions-each xs ys (omega arith) (λ k d b. e (suc k) d (omega arith)) in
    let first : asked_by y.steps.items ≡ asked_by x.steps.items = e zero x (omega arith) in
    ap (λ (asked : List (List (ℕ × What))). asked ++ asked_by y.steps.items ∷ []) rest ∙ ap (λ (a : List (ℕ × What)). asked_of_sessions xs ++ a ∷ []) first

pub facts_asked-append : (xs ys : List (List (ℕ × What))) → facts_asked (xs ++ ys) ≡ facts_asked xs ++ facts_asked ys
facts_asked-append [] ys = refl
facts_asked-append (x ∷ xs) ys =
    ap (λ (fs : List Fact). facts_of_session x ++ fs) (facts_asked-append xs ys) ∙ sym (append_assoc (facts_of_session x) (facts_asked xs) (facts_asked ys))

-- the facts of one session more
pub facts_stated-push : (lines : List (List Step)) (steps : List Step) → facts_stated (lines ++ steps ∷ []) ≡ facts_stated lines ++ facts_of_session (asked_by steps)
facts_stated-push lines steps =
    ap facts_asked (map-append asked_by lines (steps ∷ [])) ∙ facts_asked-append (asked_of lines) (asked_by steps ∷ [])
    ∙ ap (λ (fs : List Fact). facts_stated lines ++ fs) (append-nil (facts_of_session (asked_by steps)))

-- what is above all that was seen is above what is less
pub AreShownAbove-less : (m : Algebra) (n : ℕ) (opening xs ys : List ℕ) (steps : List Step) → Refines xs ys → AreShownAbove m n opening ys steps → AreShownAbove m n opening xs steps
AreShownAbove-less m n opening xs ys steps w h = λ words v. h words (Refines-trans words xs ys v w)

-- ---- sessions one by one

pub steps_of-push : (lines : List (Vec Step Global)) (steps : Vec Step Global) → steps_of (lines ++ steps ∷ []) ≡ steps_of lines ++ steps.items ∷ []
steps_of-push lines steps = map_push (λ (v : Vec Step Global). v.items) lines steps

-- the last session is dealt out next
pub asked_of-dealt : (old left : List (Vec Step Global)) (steps : Vec Step Global) (sessions : List Session) (session : Session) → old ≡ left ++ steps ∷ [] → session.steps ≡ steps →
    asked_of (steps_of left) ++ asked_of_sessions (sessions ++ session ∷ []) ≡ asked_of (steps_of old) ++ asked_of_sessions sessions
asked_of-dealt old left steps sessions session items same =
    let Asked : Type 0 = List (List (ℕ × What)) in
    let first : Asked = asked_of (steps_of left) in
    let others : Asked = asked_of_sessions sessions in
    let pushed : asked_of (steps_of old) ≡ first ++ asked_by steps.items ∷ [] =
    ap (λ (xs : List (Vec Step Global)). asked_of (steps_of xs)) items ∙ ap asked_of (steps_of-push left steps) ∙ map_push asked_by (steps_of left) steps.items in
    ap (λ (xs : Asked). first ++ xs) (asked_of_sessions-push sessions session ∙ ap (λ (v : Vec Step Global). asked_by v.items ∷ others) same)
    ∙ sym (append_assoc first (asked_by steps.items ∷ []) others) ∙ ap (λ (xs : Asked). xs ++ others) (sym pushed)

-- the last session's lines are kept next
pub asked_of-kept : (lines : List (List Step)) (left : List Session) (session : Session) (old : List Session) → old ≡ left ++ session ∷ [] →
    asked_of (lines ++ session.steps.items ∷ []) ++ asked_of_sessions left ≡ asked_of lines ++ asked_of_sessions old
asked_of-kept lines left session old items =
    let Asked : Type 0 = List (List (ℕ × What)) in
    let asked : List (ℕ × What) = asked_by session.steps.items in
    ap (λ (xs : Asked). xs ++ asked_of_sessions left) (map-append asked_by lines (session.steps.items ∷ [])) ∙ append_assoc (asked_of lines) (asked ∷ []) (asked_of_sessions left)
    ∙ ap (λ (xs : Asked). asked_of lines ++ xs) (sym (asked_of_sessions-push left session) ∙ ap asked_of_sessions (sym items))

-- ---- the whole

-- as many sessions have run as there are
pub HaveRun-count : (m : Algebra) (table : OpenState) (before after : List Session) → HaveRun m table before after →
    length after ≡ length before
HaveRun-count m table before after h =
    sym (length-asked_of_sessions after) ∙ ap length h.asked ∙ length-asked_of_sessions before

-- sessions gathered, and the closure of the opening with what they stated
pub HaveNarrowed-closed :
    (m : Algebra) (old new : Network) (lines done : List (List Step)) (facts : List Fact) (seen : List ℕ) →
    new ≡ record old { words = new.words } → facts ≡ facts_stated done → asked_of done ≡ asked_of lines →
    IsClosureWithin m old.nodes old.words facts new.words → Refines new.words seen →
    All (AreShownAbove m old.nodes old.words seen) done → HaveNarrowed m old new lines done
HaveNarrowed-closed m old new lines done facts seen rest stated asked closure below shown = record {
  rest = rest;
  closure = subst (λ (fs : List Fact). IsClosureWithin m old.nodes old.words fs new.words)
      (stated ∙ ap facts_asked asked) closure;
  asked = asked;
  shown = All-weaker (AreShownAbove m old.nodes old.words seen)
      (λ (steps : List Step). AreShown m old.nodes new.words old.words (shown_by steps))
      (λ steps s. s new.words below) done shown;
}
