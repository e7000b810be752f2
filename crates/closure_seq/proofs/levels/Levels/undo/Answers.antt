use Rattle.std.proofs.Common.{◌≡◌, ◌≤◌, ◌-◌, ap, sym, ◌∙◌, subst, length, arith}
use Rattle.std.specs.Prelude.{slice_index, slice_set}
use Rattle.network_words.proofs.Edges.{edge_at-lt}
use Rattle.closure_seq.specs.Levels.{LevelSets, IsTrail, levels_below, last_changes}
use Rattle.closure_seq.proofs.Trails.{IsChange-undone, IsTrail-undo, levels-undo}
use Rattle.closure_seq.proofs.levels.Levels.undo.Goals as goal

pub index_mut-requires : goal.index_mut-requires
index_mut-requires c =
    let n = c.self.inside.nodes in
    let ws = c.self.inside.words.items in
    let marks = c.self.inside.marks.items in
    let ch = c.in_ok-change.change in
    let p = subst (λ xs. IsTrail n c.self.inside.full ws xs marks) c.in_ok-change.ensures.items c.self.invariant in
    let h = IsChange-undone n c.self.inside.full ws c.pop.new.self.items marks ch p in
    omega (arith, h.edge_is, edge_at-lt n ch.i ch.j h.order h.below, p.top.length_is, c.self.inside.words.ok.0)

pub invariant_of-self-2 : goal.invariant_of-self-2
invariant_of-self-2 c =
    let n = c.self.inside.nodes in
    let ws = c.self.inside.words.items in
    let marks = c.self.inside.marks.items in
    let t = c.pop.new.self.items in
    let p = subst (λ xs. IsTrail n c.self.inside.full ws xs marks) c.in_ok-change.ensures.items c.self.invariant in
    let mark : c.last_mark-mark.result ≡ slice_index marks (length marks - 1) = c.last_mark-mark.ensures ∙ ap (λ xs. slice_index xs (length xs - 1)) c.deref.ensures.value in
    let above : slice_index marks (length marks - 1) ≤ length t = omega (arith, mark, c.if-len-mark.false, c.len.ensures, c.in_ok-change.ensures.len, c.pop.new.self.ok.0) in
    rw c.word.ensures (IsTrail-undo n c.self.inside.full ws t marks c.in_ok-change.change p above)

pub returns-clause-undone : goal.returns-clause-undone
returns-clause-undone c =
    let n = c.self.inside.nodes in
    let full = c.self.inside.full in
    let ws = c.self.inside.words.items in
    let trail = c.self.inside.trail.items in
    let marks = c.self.inside.marks.items in
    let t = c.pop.new.self.items in
    let ch = c.in_ok-change.change in
    let items = c.in_ok-change.ensures.items in
    let p = subst (λ xs. IsTrail n full ws xs marks) items c.self.invariant in
    let mark : c.last_mark-mark.result ≡ slice_index marks (length marks - 1) = c.last_mark-mark.ensures ∙ ap (λ xs. slice_index xs (length xs - 1)) c.deref.ensures.value in
    let above : slice_index marks (length marks - 1) ≤ length t = omega (arith, mark, c.if-len-mark.false, c.len.ensures, c.in_ok-change.ensures.len, c.pop.new.self.ok.0) in
    let top : slice_set ws ch.edge c.word.result ≡ slice_set ws ch.edge ch.old = ap (slice_set ws ch.edge) c.word.ensures in
    let below : levels_below (slice_set ws ch.edge c.word.result) t marks ≡ levels_below ws trail marks =
    ap (λ x. levels_below x t marks) top ∙ levels-undo n full ws t marks ch p above ∙ ap (λ xs. levels_below ws xs marks) (sym items) in
    rw (← c.self.view_is) (λ i. let r : LevelSets = record { nodes = n; full = full; top = top i; below = below i; changes = last_changes t marks } in r)

pub returns-clause-change : goal.returns-clause-change
returns-clause-change c =
    let n = c.self.inside.nodes in
    let ws = c.self.inside.words.items in
    let marks = c.self.inside.marks.items in
    let p = subst (λ xs. IsTrail n c.self.inside.full ws xs marks) c.in_ok-change.ensures.items c.self.invariant in
    rw (← c.self.view_is) (IsChange-undone n c.self.inside.full ws c.pop.new.self.items marks c.in_ok-change.change p)
