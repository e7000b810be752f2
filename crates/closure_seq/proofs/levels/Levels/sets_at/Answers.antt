use Rattle.std.proofs.Common.{◌≡◌, ◌<◌, ◌≤◌, length, drop, ap, sym, ◌∙◌, arith}
use Rattle.std.specs.Prelude.{slice_index}
use Rattle.std.proofs.lemmas.List.Elements.{All-drop}
use Rattle.closure_seq.specs.Levels.{IsChange, restored}
use Rattle.closure_seq.proofs.Trails.{changes-inside, level-at, level-past}
use Rattle.closure_seq.proofs.levels.Levels.sets_at.Goals as goal

pub restore-requires : goal.restore-requires
restore-requires c =
    let a = c.self.inside in
    let sets = c.in-Ok.ensures.items ∙ c.deref.ensures.value in
    let back = c.split_at.ensures.back ∙ ap (drop c.in-Some.mark.now) c.deref-3.ensures.value in
    let changes = All-drop (IsChange a.nodes a.full) c.in-Some.mark.now a.trail.items c.self.invariant.changes in
    rw sets (rw back (changes-inside a.nodes a.full a.words.items _ c.self.invariant.top changes))

pub returns : goal.returns
returns c =
    let a = c.self.inside in
    let sets : c.in-Ok.sets.items ≡ a.words.items = c.in-Ok.ensures.items ∙ c.deref.ensures.value in
    let back : c.split_at.result.1.now ≡ drop c.in-Some.mark.now a.trail.items =
    c.split_at.ensures.back ∙ ap (drop c.in-Some.mark.now) c.deref-3.ensures.value in
    let l = c.in-Some.ensures.lookup in
    let mark : c.in-Some.mark.now ≡ slice_index a.marks.items c.args.level =
    l.3.1 0 ∙ ap (λ xs. slice_index xs c.args.level) c.deref-2.ensures.value in
    let below : c.args.level < length a.marks.items = omega (arith, l.3.0, ap length c.deref-2.ensures.value) in
    rw (← c.self.view_is)
    (c.restore.ensures ∙ ap (λ xs. restored xs c.split_at.result.1.now) sets ∙ ap (restored a.words.items) back
    ∙ ap (λ k. restored a.words.items (drop k a.trail.items)) mark
    ∙ sym (level-at a.words.items a.trail.items a.marks.items c.args.level below))

pub returns-in_default-get : goal.returns-in_default-get
returns-in_default-get c =
    let a = c.self.inside in
    let past : length a.marks.items ≤ c.args.level =
    omega (arith, c.in_default-get.ensures.lookup.3, ap length c.deref-2.ensures.value) in
    rw (← c.self.view_is) (c.in-Ok.ensures.items ∙ c.deref.ensures.value
    ∙ sym (level-past a.words.items a.trail.items a.marks.items c.args.level past))
