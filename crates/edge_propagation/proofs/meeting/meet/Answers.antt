use Rattle.edge_propagation.proofs.Steps.{IsMet-refl, IsMet-trans}
use Rattle.edge_propagation.proofs.Meets.{AreRowsMet-none, AreRowsMet-more}
use Rattle.edge_propagation.proofs.meeting.meet.Goals as goal

pub loop-i-init : goal.loop-i-init
loop-i-init g c = record { met = IsMet-refl _ _ c.requires.sets; rows = AreRowsMet-none _ _ }

pub loop-i-preserved : goal.loop-i-preserved
loop-i-preserved g c =
    let h = c.loop-i.invariant in
    let e = c.meet_row.ensures in
    record {
      met = IsMet-trans _ _ _ _ h.met e.met;
      rows = AreRowsMet-more c.args.words.now c.args.work.now _ _ c.loop-i.i h.met.nodes h.rows e.row;
    }
