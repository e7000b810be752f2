use Rattle.std.proofs.Common.{◌≡◌, ◌+◌, ◌-◌, vec_len}
use Rattle.qsr_outside.proofs.SoFar.{ReadSoFar}
use Rattle.qsr_outside.proofs.reading.read_all.Given as goal

abbrev pub invariant-loop-n : goal.invariant-loop-n
invariant-loop-n g l = record {
  buffer : vec_len l.buffer ≡ 8192;
  read : ReadSoFar (g.S.Source.left l.fn.source) (g.S.Source.left l.source)
      (g.S.Source.given l.fn.source) (g.S.Source.given l.source)
      (g.S.Source.faults l.fn.source) (g.S.Source.faults l.source) l.limit l.bytes.items;
  documents : g.S.Source.documents l.source ≡ g.S.Source.documents l.fn.source;
  absent_openings : g.S.Source.absent_openings l.source ≡ g.S.Source.absent_openings l.fn.source;
}

abbrev pub decreases-loop-n : goal.decreases-loop-n
decreases-loop-n g l = l.limit + 1 - vec_len l.bytes
