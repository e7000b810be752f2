use Rattle.std.proofs.Common.{◌≡◌, ℕ, List, ap, sym, ◌∙◌, subst, arith}
use Rattle.std.proofs.lemmas.List.Elements.{All-nil}
use Rattle.network_words.specs.Network.{Network, IsNetwork}
use Rattle.compose_fast.specs.Planes.{AreBaseTables}
use Rattle.edge_propagation.specs.Worklist.{Worklist, Room}
use Rattle.edge_propagation.specs.Propagation.{IsInStep}
use Rattle.closure_seq.specs.Levels.{LevelSets}
use Rattle.closure_seq.specs.Paths.{IsClosedNetwork}
use Rattle.edge_propagation.specs.Propagation.{IsPlanes}
use Rattle.edge_propagation.proofs.Loads.{IsInStep-queue}
use Rattle.closure_seq.proofs.Counted.{IsClosedNetwork-closure}
use Rattle.closure_seq.proofs.path.ClosedPath.new.Goals as goal

pub load_planes-requires : goal.load_planes-requires
load_planes-requires g c =
    let m = c.in_ok-calculus.calculus in
    let given = c.in_ok-closed.closed in
    let net : IsNetwork m given.nodes given.words = rw (c.in_ok-calculus.ensures, c.in_ok-closed.ensures) c.requires in
    let at : c.work.inside.pairs.nodes ≡ given.nodes = ap (λ (r : Room). r.nodes) c.work.view_is ∙ c.close_with.ensures.work ∙ c.in_ok-work.ensures ∙ c.nodes.ensures.value in
    let closed = (IsClosedNetwork-closure m given.nodes given.words c.close_with.new.net.words net c.close_with.ensures.closure).network in
    subst (λ n. IsNetwork m n c.words.result.now) (sym at) (subst (λ (ws : List ℕ). IsNetwork m given.nodes ws) (sym c.words.ensures.value) closed)

pub new-levels-requires-clause-words : goal.new-levels-requires-clause-words
new-levels-requires-clause-words g c =
    let m = c.in_ok-calculus.calculus in
    let given = c.in_ok-closed.closed in
    let net : IsNetwork m given.nodes given.words = rw (c.in_ok-calculus.ensures, c.in_ok-closed.ensures) c.requires in
    let nodes = ap (λ (y : Network). y.nodes) c.close_with.ensures.rest in
    let closed = (IsClosedNetwork-closure m given.nodes given.words c.close_with.new.net.words net c.close_with.ensures.closure).network in
    rw (c.nodes-2.ensures.value, c.full.ensures, c.in-Ok.ensures.items, c.words-2.ensures.value, nodes) (record { length_is = closed.length_is; within = closed.within })

pub invariant_of-result : goal.invariant_of-result
invariant_of-result g c =
    let m = c.in_ok-calculus.calculus in
    let given = c.in_ok-closed.closed in
    let closed = c.close_with.new.net in
    let net : IsNetwork m given.nodes given.words = rw (c.in_ok-calculus.ensures, c.in_ok-closed.ensures) c.requires in
    let nodes = ap (λ (y : Network). y.nodes) c.close_with.ensures.rest in
    let top : IsClosedNetwork m closed.nodes closed.words =
    rw nodes (IsClosedNetwork-closure m given.nodes given.words closed.words net c.close_with.ensures.closure) in
    let s = c.load_planes.ensures in
    let at : c.work.inside.pairs.nodes ≡ closed.nodes = ap (λ (r : Room). r.nodes) c.work.view_is ∙ c.close_with.ensures.work ∙ c.in_ok-work.ensures ∙ c.nodes.ensures.value ∙ sym nodes in
    let loaded : IsInStep m closed.nodes closed.words c.load_planes.new.work =
    subst (λ n. IsInStep m n closed.words c.load_planes.new.work) at (subst (λ (ws : List ℕ). IsInStep m c.work.inside.pairs.nodes ws c.load_planes.new.work) c.words.ensures.value s.in_step) in
    let planes = ap (λ (y : Worklist). y.planes) c.clear.ensures.rest in (
      rw (c.new-levels.ensures, c.nodes-2.ensures.value, c.in-Ok.ensures.items, c.words-2.ensures.value)
          (record {
            calculus = s.calculus;
            planes = subst IsPlanes (sym planes) s.planes;
            enough = omega (arith, s.enough, planes);
            tables = subst (λ n. AreBaseTables m n c.load_planes.new.tables.bases) (sym planes) s.tables;
            full_is = c.full.ensures;
            in_step = IsInStep-queue m closed.nodes closed.words c.load_planes.new.work c.clear.new.self c.clear.ensures.rest loaded;
            quiet = c.clear.ensures.idle;
            top = top;
            below = All-nil (IsClosedNetwork m closed.nodes);
          }),
      λ h. absurd (omega arith),
    )

pub returns : goal.returns
returns g c =
    let l = c.new-levels.ensures in
    let nodes = ap (λ (y : Network). y.nodes) c.close_with.ensures.rest in
    let top = ap (λ (y : LevelSets). y.top) l ∙ c.in-Ok.ensures.items ∙ c.words-2.ensures.value in
    record {
      algebra_is = c.in_ok-calculus.ensures;
      nodes_are = ap (λ (y : LevelSets). y.nodes) l ∙ c.nodes-2.ensures.value ∙ nodes ∙ ap (λ (y : Network). y.nodes) c.in_ok-closed.ensures;
      closure = rw (top, ← c.in_ok-calculus.ensures, ← c.in_ok-closed.ensures) c.close_with.ensures.closure;
      first = ap (λ (y : LevelSets). y.below) l;
    }
