use Rattle.std.proofs.Common.{◌∷◌, [], subst, ◌∙◌, ap, refl, arith, length}
use Rattle.std.proofs.lemmas.List.{length-append}
use Rattle.calculus_table.specs.Rel.{IsWithin}
use Rattle.network_words.proofs.Pairs.{pair-ordered}
use Rattle.edge_propagation.specs.Worklist.{Worklist}
use Rattle.closure_seq.specs.Levels.{LevelSets}
use Rattle.closure_seq.proofs.Trails.{rest-levels}
use Rattle.closure_seq.proofs.InStep.{IsInStep-undone}
use Rattle.closure_seq.proofs.narrowing.undo_changes.Goals as goal

pub loop-change-init : goal.loop-change-init
loop-change-init g c = record { planes = refl; in_step = c.requires.in_step; quiet = c.requires.quiet; rest = refl }

pub put_pair-requires-clause-planes : goal.put_pair-requires-clause-planes
put_pair-requires-clause-planes g c = c.loop-change.invariant.planes ∙ c.requires.planes

pub put_pair-requires-clause-proper : goal.put_pair-requires-clause-proper
put_pair-requires-clause-proper g c =
    let h = c.in-Some.ensures.change in
    rw (c.from.ensures, c.from-in-Some.ensures, c.loop-change.invariant.in_step.nodes) (pair-ordered _ _ _ h.order h.below)

pub put_pair-requires-clause-within : goal.put_pair-requires-clause-within
put_pair-requires-clause-within g c =
    let full = ap (λ (y : LevelSets). y.full) c.loop-change.invariant.rest ∙ c.requires.full in
    subst (IsWithin c.in-Some.change.old) full c.in-Some.ensures.change.within

pub loop-change-preserved : goal.loop-change-preserved
loop-change-preserved g c =
    let m = g.C.Compose.algebra c.args.c.now in
    let p = c.loop-change.invariant in
    let w = c.loop-change.pairs in
    let l = c.loop-change.levels in
    let h = c.in-Some.ensures.change in
    record {
      planes = ap (λ (y : Worklist). y.planes) c.put_pair.ensures.value ∙ p.planes;
      in_step = rw (c.put_pair.ensures.value, c.in-Some.ensures.undone, c.from.ensures, c.from-in-Some.ensures)
          (IsInStep-undone m l.nodes l.top w c.in-Some.change.i c.in-Some.change.j c.in-Some.change.old c.in-Some.change.edge c.put_pair.ensures.sized h.order h.below h.edge_is c.undo.ensures.sized.length_is p.in_step);
      quiet = rw c.put_pair.ensures.value p.quiet;
      rest = rest-levels c.args.levels.now l c.undo.new.self _ _ p.rest c.in-Some.ensures.undone;
    }

pub loop-change-smaller : goal.loop-change-smaller
loop-change-smaller g c =
    let e = ap length c.in-Some.ensures.last ∙ length-append c.undo.new.self.changes (c.in-Some.change ∷ []) in
    omega arith
