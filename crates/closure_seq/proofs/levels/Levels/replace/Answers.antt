use Rattle.std.proofs.Common.{◌≡◌, ◌<◌, ap, ◌∙◌, refl, length, arith}
use Rattle.std.specs.Prelude.{slice_index, slice_set}
use Rattle.std.proofs.lemmas.List.{get_or_read}
use Rattle.network_words.specs.Edge.{edge_at}
use Rattle.network_words.proofs.Edges.{edge_between-forward}
use Rattle.closure_seq.specs.declared.levels.Change.{Change}
use Rattle.closure_seq.specs.Levels.{LevelSets, levels_below, last_changes}
use Rattle.closure_seq.proofs.Trails.{levels-replace}
use Rattle.closure_seq.proofs.levels.Levels.replace.Goals as goal

pub returns-clause-top : goal.returns-clause-top
returns-clause-top c =
    let n = c.self.inside.nodes in
    let full = c.self.inside.full in
    let ws = c.self.inside.words.items in
    let trail = c.self.inside.trail.items in
    let marks = c.self.inside.marks.items in
    let trail' = c.push.new.self.items in
    let e = c.edge_between-edge.result in
    let x = c.word.result in
    let change : Change = record { i = c.args.i; j = c.args.j; edge = e; old = c.of-old.result } in
    let at : e ≡ edge_at n c.args.i c.args.j = c.edge_between-edge.ensures.value ∙ edge_between-forward n c.args.i c.args.j c.requires.order in
    let inside : e < length ws = omega (arith, c.edge_between-edge.ensures.below, c.self.invariant.top.length_is) in
    let was : change.old ≡ slice_index ws e = c.of-old.ensures ∙ get_or_read ws e _ inside c.index.ensures 0 in
    let below : levels_below (slice_set ws e x) trail' marks ≡ levels_below ws trail marks =
    ap (λ t. levels_below (slice_set ws e x) t marks) c.in-Ok.ensures.items ∙ levels-replace n full ws trail marks e x change c.self.invariant refl was in
    let top : slice_set ws e x ≡ slice_set ws (edge_at n c.args.i c.args.j) c.args.rel = ap (λ d. slice_set ws d x) at ∙ ap (slice_set ws (edge_at n c.args.i c.args.j)) c.word.ensures in
    rw (← c.self.view_is) (λ i. let r : LevelSets = record { nodes = n; full = full; top = top i; below = below i; changes = last_changes trail' marks } in r)
