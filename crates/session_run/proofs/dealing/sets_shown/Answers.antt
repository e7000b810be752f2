-- A line gets the set of its session's next step.
use Rattle.std.proofs.Common.{◌≡◌, ℕ, ◌+◌, ◌<◌, ◌≤◌, List, [], ◌∷◌, ◌++◌, length, get_or, set, ap, ◌∙◌, subst, sym, arith}
use Rattle.std.specs.Prelude.{Vec}
use Rattle.std.specs.Global.{Global}
use Rattle.std.proofs.lemmas.List.{length-map, get_or_read}
use Rattle.session_scripts.specs.declared.batch.Line.{Line}
use Rattle.session_scripts.specs.Batches.{BatchState}
use Rattle.session_phase.specs.declared.steps.Step.{Step}
use Rattle.session_phase.specs.Phase.{steps_of}
use Rattle.session_run.proofs.Back.{AreBack, AreBack-room, AreBack-shown, AreBack-other, AreBack-all, steps_of-at}
use Rattle.session_run.proofs.dealing.sets_shown.Goals as goal
use Rattle.session_run.proofs.dealing.sets_shown.Goals.{then-session-sessions, else-session-sessions}

-- how many steps of a session are taken, read from the list
read_count : (taken : List ℕ) (k x : ℕ) → k < length taken → x ≡ get_or taken k x → x ≡ get_or taken k 0
read_count taken k x h e = get_or_read taken k x h e 0

-- the session of the next line has a step that isn't taken
room : (batch : BatchState) (lines : List Line) (lists : List (Vec Step Global)) (p : ℕ) (taken shown : List ℕ) (l : Line) (v : Vec Step Global) (steps : List Step) (x : ℕ) → lines ≡ batch.lines →
    AreBack batch.lines (steps_of lists) p taken shown → p < length lines → l ≡ get_or lines p l → l.session < length lists → v ≡ get_or lists l.session v → steps ≡ v.items →
    x ≡ get_or taken l.session x → x < length steps
room batch lines lists p taken shown l v steps x is a h e there at items read =
    let here : p < length batch.lines = subst (λ (ls : List Line). p < length ls) is h in
    let line : l ≡ get_or batch.lines p l = subst (λ (ls : List Line). l ≡ get_or ls p l) is e in
    let below : l.session < length (steps_of lists) = omega (arith, length-map lists (λ (steps : Vec Step Global). steps.items)) in
    let counted : l.session < length taken = omega (arith, a.counts) in
    let free = AreBack-room batch.lines (steps_of lists) p taken shown l a here line below in
    let all : length steps ≡ length (get_or (steps_of lists) l.session []) = ap length (items ∙ sym (steps_of-at lists l.session v there at)) in
    let count = read_count taken l.session x counted read in
    omega (arith, free, all, count)

pub set_at-set-requires : goal.set_at-set-requires
set_at-set-requires c =
    room c.args.batch.now c.deref-line-items.result.now c.args.sessions.now c.loop-line.line-index c.loop-line.taken.items c.loop-line.shown.items c.line-item.result
    c.index-sessions-session.result c.deref.result.now c.index.result.now (c.deref-line-items.ensures.value ∙ ap (λ (b : BatchState). b.lines) c.batch.view_is)
    c.loop-line.invariant c.loop-line-test.true c.line-item.is c.if-session-sessions.true c.index-sessions-session.is c.deref.ensures.value c.index.ensures

pub overflow_add-index_mut : goal.overflow_add-index_mut
overflow_add-index_mut c =
    let below = room c.args.batch.now c.deref-line-items.result.now c.args.sessions.now c.loop-line.line-index c.loop-line.taken.items c.loop-line.shown.items c.line-item.result
    c.index-sessions-session.result c.deref.result.now c.index_mut.result.now (c.deref-line-items.ensures.value ∙ ap (λ (b : BatchState). b.lines) c.batch.view_is)
    c.loop-line.invariant c.loop-line-test.true c.line-item.is c.if-session-sessions.true c.index-sessions-session.is c.deref.ensures.value c.index_mut.ensures.value in
    omega (arith, below, c.deref.type_inv.0)

-- the line of a session is put back
own_line : (batch : BatchState) (lines : List Line) (lists : List (Vec Step Global)) (p : ℕ) (taken taken' shown shown' : List ℕ) (l : Line) (v : Vec Step Global) (steps : List Step) (i j x : ℕ) →
    lines ≡ batch.lines → AreBack batch.lines (steps_of lists) p taken shown → p < length lines → l ≡ get_or lines p l → l.session < length lists → v ≡ get_or lists l.session v →
    steps ≡ v.items → i ≡ get_or taken l.session i → j ≡ get_or taken l.session j → ((d : Step) → x ≡ (get_or steps i d).set) → taken' ≡ set taken l.session (j + 1) →
    shown' ≡ shown ++ x ∷ [] → AreBack batch.lines (steps_of lists) (p + 1) taken' shown'
own_line batch lines lists p taken taken' shown shown' l v steps i j x is a h e there at items read_i read_j set_is taken_is shown_is =
    let here : p < length batch.lines = subst (λ (ls : List Line). p < length ls) is h in
    let line : l ≡ get_or batch.lines p l = subst (λ (ls : List Line). l ≡ get_or ls p l) is e in
    let below : l.session < length (steps_of lists) = omega (arith, length-map lists (λ (steps : Vec Step Global). steps.items)) in
    let counted : l.session < length taken = omega (arith, a.counts) in
    let count_i = read_count taken l.session i counted read_i in
    let count_j = read_count taken l.session j counted read_j in
    let all : steps ≡ get_or (steps_of lists) l.session [] = items ∙ sym (steps_of-at lists l.session v there at) in
    rw (taken_is, shown_is, count_j)
    (AreBack-shown batch.lines (steps_of lists) p taken shown l x a here line below
    (λ d. set_is d ∙ ap (λ (n : ℕ). (get_or steps n d).set) count_i ∙ ap (λ (ss : List Step). (get_or ss (get_or taken l.session 0) d).set) all))

other_line : (batch : BatchState) (lines : List Line) (lists : List (Vec Step Global)) (p : ℕ) (taken taken' shown shown' : List ℕ) (l : Line) (x : ℕ) → lines ≡ batch.lines →
    AreBack batch.lines (steps_of lists) p taken shown → p < length lines → l ≡ get_or lines p l → length lists ≤ l.session → taken' ≡ taken → shown' ≡ shown ++ x ∷ [] →
    AreBack batch.lines (steps_of lists) (p + 1) taken' shown'
other_line batch lines lists p taken taken' shown shown' l x is a h e past taken_is shown_is =
    let here : p < length batch.lines = subst (λ (ls : List Line). p < length ls) is h in
    let line : l ≡ get_or batch.lines p l = subst (λ (ls : List Line). l ≡ get_or ls p l) is e in
    let beyond : length (steps_of lists) ≤ l.session = omega (arith, length-map lists (λ (steps : Vec Step Global). steps.items)) in
    rw (taken_is, shown_is) (AreBack-other batch.lines (steps_of lists) p taken shown l x a here line beyond)

pub loop-line-preserved : goal.loop-line-preserved
loop-line-preserved c =
    let lines_are = c.deref-line-items.ensures.value ∙ ap (λ (b : BatchState). b.lines) c.batch.view_is in
    elim c.if-session-sessions.branch [
      | then-session-sessions w ↦
          own_line c.args.batch.now c.deref-line-items.result.now c.args.sessions.now c.loop-line.line-index c.loop-line.taken.items c.if-session-sessions.taken.items c.loop-line.shown.items
          c.push.new.self.items c.line-item.result w.index-sessions-session.result w.deref.result.now w.index.result.now w.index_mut.result.now c.if-session-sessions.set lines_are c.loop-line.invariant
          c.loop-line-test.true c.line-item.is w.if-session-sessions.true w.index-sessions-session.is w.deref.ensures.value w.index.ensures w.index_mut.ensures.value
          (λ d. w.set-is ∙ w.set_at-set.ensures d) (ap (λ (v : Vec ℕ Global). v.items) w.taken-is) c.in-Ok.ensures.items
      | else-session-sessions w ↦
          other_line c.args.batch.now c.deref-line-items.result.now c.args.sessions.now c.loop-line.line-index c.loop-line.taken.items c.if-session-sessions.taken.items c.loop-line.shown.items
          c.push.new.self.items c.line-item.result c.if-session-sessions.set lines_are c.loop-line.invariant c.loop-line-test.true c.line-item.is w.if-session-sessions.false
          (ap (λ (v : Vec ℕ Global). v.items) w.taken-is) c.in-Ok.ensures.items
    ]

pub returns-clause-shown : goal.returns-clause-shown
returns-clause-shown c =
    let lines = c.args.batch.now.lines in
    let lines_are : c.deref-line-items.result.now ≡ lines = c.deref-line-items.ensures.value ∙ ap (λ (b : BatchState). b.lines) c.batch.view_is in
    let count : length c.deref-line-items.result.now ≡ length lines = ap length lines_are in
    let ended : c.loop-line.line-index ≡ length lines = omega (arith, count) in
    λ k b.
    let below : k < length (steps_of c.args.sessions.now) = omega (arith, length-map c.args.sessions.now (λ (steps : Vec Step Global). steps.items)) in
    AreBack-all lines (steps_of c.args.sessions.now) c.loop-line.line-index c.loop-line.taken.items c.loop-line.shown.items c.loop-line.invariant ended k below
