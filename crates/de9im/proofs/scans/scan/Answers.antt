use Rattle.std.proofs.Common.{subst, sym, ◌+◌}
use Rattle.de9im.specs.Scans.{IsUnderWay}
use Rattle.de9im.proofs.Notes.{scan_start, scan_step, scan_skip, scan_end}
use Rattle.de9im.proofs.scans.scan.Goals as goal
use Rattle.de9im.proofs.scans.scan.Goals.{then-not-is_off, else-not-is_off}

pub loop-e-init : goal.loop-e-init
loop-e-init c = scan_start c.args.a.vertices.now c.args.b.vertices.now

pub loop-e-preserved : goal.loop-e-preserved
loop-e-preserved c =
    let vs = c.args.a.vertices.now in let ws = c.args.b.vertices.now in let e = c.loop-e.e in
    elim c.if-not-is_off.branch [
      | then-not-is_off w ↦ subst (λ g. IsUnderWay g vs ws (e + 1)) (sym w.found-is) (scan_step c.loop-e.found w.scan_edge-found.result vs ws e c.loop-e.invariant w.scan_edge-found.ensures.sound w.scan_edge-found.ensures.more w.scan_edge-found.ensures.done)
      | else-not-is_off w ↦ subst (λ g. IsUnderWay g vs ws (e + 1)) (sym w.found-is) (scan_skip vs ws e c.next_index.result c.requires.one.ring.simple c.requires.two.ring.simple c.loop-e-test.true c.next_index.ensures.following c.loop-e.found c.args.b.rect c.requires.two.covers (c.is_off.ensures w.if-not-is_off.false) c.loop-e.invariant)
    ]

pub returns-clause-sound : goal.returns-clause-sound
returns-clause-sound c = c.loop-e.invariant.sound

pub returns-clause-done : goal.returns-clause-done
returns-clause-done c = scan_end c.loop-e.found c.args.a.vertices.now c.args.b.vertices.now c.loop-e.e c.loop-e-test.false c.loop-e.auto.e-end c.loop-e.invariant
