use Rattle.std.proofs.Common.{◌≡◌, ℕ, ap, sym, subst, ◌∙◌, replicate, length}
use Rattle.std.specs.Prelude.{slice_index, Contains}
use Rattle.std.proofs.lemmas.Bool.{false≢true}
use Rattle.std.proofs.lemmas.Result.{on_ok_weaker}
use Rattle.calculus_table.specs.Rel.{IsWithin}
use Rattle.network_words.specs.Edge.{edge_at}
use Rattle.closure_seq.specs.Levels.{LevelSets}
use Rattle.closure_seq.specs.Paths.{Path, counted_top}
use Rattle.closure_seq.proofs.Counted.{IsClosure-counted, counted-none, within-made, level-made, closure-made, closure-emptied}
use Rattle.closure_seq.proofs.path.ClosedPath.narrow.Goals as goal

pub returns-then-is_empty-clause-closure : goal.returns-then-is_empty-clause-closure
returns-then-is_empty-clause-closure c =
    let now = c.args.self.now in
    let p = c.nodes-nodes.ensures.path in
    on_ok_weaker c.count_level.result
    (λ e. IsClosure-counted now.algebra now.nodes c.args.edge c.args.rel now.top c.count_level.new.self.top p.calculus p.top (c.is_empty.ensures.0 c.if-is_empty.true) c.requires.within
    (ap (λ (y : Path). y.top) e))
    c.count_level.ensures.level

pub begin_level-requires-clause-within : goal.begin_level-requires-clause-within
begin_level-requires-clause-within c =
    let a = c.self.inside in
    let s = c.self.invariant in
    let q = c.nodes_of_edge-pair.result in
    let top : counted_top a.emptied a.levels.top ≡ c.args.self.now.top = ap (λ (y : Path). y.top) c.self.view_is in
    let nodes : c.nodes-nodes.result ≡ a.levels.nodes = c.nodes-nodes.ensures.value ∙ sym (ap (λ (y : Path). y.nodes) c.self.view_is) in
    let none : a.emptied ≡ 0 = counted-none a.emptied a.levels.top a.levels.nodes s.0.top.network.length_is s.1
    (λ h. false≢true (sym c.if-is_empty.false ∙ c.is_empty.ensures.1 (subst (λ xs. Contains xs 0) top h))) in
    let same : edge_at a.levels.nodes q.0 q.1 ≡ c.args.edge = ap (λ n. edge_at n q.0 q.1) (sym nodes) ∙ c.nodes_of_edge-pair.ensures.edge in
    within-made a.levels a.emptied c.args.edge (edge_at a.levels.nodes q.0 q.1) c.args.rel none same (subst (λ xs. IsWithin c.args.rel (slice_index xs c.args.edge)) (sym top) c.requires.within)

pub returns-in-Ok-clause-closure : goal.returns-in-Ok-clause-closure
returns-in-Ok-clause-closure c =
    let a = c.self.inside in
    let s = c.self.invariant in
    let q = c.nodes_of_edge-pair.result in
    let top : counted_top a.emptied a.levels.top ≡ c.args.self.now.top = ap (λ (y : Path). y.top) c.self.view_is in
    let nodes : c.nodes-nodes.result ≡ a.levels.nodes = c.nodes-nodes.ensures.value ∙ sym (ap (λ (y : Path). y.nodes) c.self.view_is) in
    let none : a.emptied ≡ 0 = counted-none a.emptied a.levels.top a.levels.nodes s.0.top.network.length_is s.1
    (λ h. false≢true (sym c.if-is_empty.false ∙ c.is_empty.ensures.1 (subst (λ xs. Contains xs 0) top h))) in
    let same : edge_at a.levels.nodes q.0 q.1 ≡ c.args.edge = ap (λ n. edge_at n q.0 q.1) (sym nodes) ∙ c.nodes_of_edge-pair.ensures.edge in
    rw (← c.self.view_is) (closure-made a.calculus a.levels c.begin_level.new.levels a.emptied c.args.edge (edge_at a.levels.nodes q.0 q.1) c.args.rel none same c.in-Ok.ensures.closure)

pub returns-in-Ok-clause-level : goal.returns-in-Ok-clause-level
returns-in-Ok-clause-level c =
    let a = c.self.inside in
    let s = c.self.invariant in
    let top : counted_top a.emptied a.levels.top ≡ c.args.self.now.top = ap (λ (y : Path). y.top) c.self.view_is in
    let none : a.emptied ≡ 0 = counted-none a.emptied a.levels.top a.levels.nodes s.0.top.network.length_is s.1
    (λ h. false≢true (sym c.if-is_empty.false ∙ c.is_empty.ensures.1 (subst (λ xs. Contains xs 0) top h))) in
    rw (← c.self.view_is) (level-made a.calculus a.levels c.begin_level.new.levels a.emptied none c.begin_level.ensures.nodes c.in-Ok.ensures.below)

pub returns-in-Err-Emptied-clause-closure : goal.returns-in-Err-Emptied-clause-closure
returns-in-Err-Emptied-clause-closure c =
    let a = c.self.inside in
    let s = c.self.invariant in
    let q = c.nodes_of_edge-pair.result in
    let top : counted_top a.emptied a.levels.top ≡ c.args.self.now.top = ap (λ (y : Path). y.top) c.self.view_is in
    let nodes : c.nodes-nodes.result ≡ a.levels.nodes = c.nodes-nodes.ensures.value ∙ sym (ap (λ (y : Path). y.nodes) c.self.view_is) in
    let none : a.emptied ≡ 0 = counted-none a.emptied a.levels.top a.levels.nodes s.0.top.network.length_is s.1
    (λ h. false≢true (sym c.if-is_empty.false ∙ c.is_empty.ensures.1 (subst (λ xs. Contains xs 0) top h))) in
    let same : edge_at a.levels.nodes q.0 q.1 ≡ c.args.edge = ap (λ n. edge_at n q.0 q.1) (sym nodes) ∙ c.nodes_of_edge-pair.ensures.edge in
    let kept = c.in-Err-Emptied.ensures.kept in
    rw (← c.self.view_is)
    (on_ok_weaker c.count_level-in-Err-Emptied.result
    (λ e. closure-emptied a.calculus a.levels a.emptied c.args.edge (edge_at a.levels.nodes q.0 q.1) c.args.rel c.count_level-in-Err-Emptied.new.self.top none same
    (c.in-Err-Emptied.ensures.empty c.in-Err-Emptied.field-0-is)
    (ap (λ (y : Path). y.top) e ∙ ap (λ (y : LevelSets). replicate {A = ℕ} (length (counted_top a.emptied y.top)) 0) kept))
    c.count_level-in-Err-Emptied.ensures.level)
