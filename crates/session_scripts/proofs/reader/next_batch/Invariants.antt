use Rattle.std.proofs.Common.{◌≡◌, ◌+◌, ◌-◌, ◌≤◌, true, length, take}
use Rattle.session_scripts.specs.Readers.{TakesBytes, given_to}
use Rattle.session_scripts.specs.Readings.{IsRead}
use Rattle.session_scripts.proofs.reader.next_batch.Given as goal

abbrev pub invariant-loop-committed : goal.invariant-loop-committed
invariant-loop-committed g l = record {
  read : IsRead l.bases l.nodes (take (l.input.limit - l.input.cut) l.input.kept) l.reading;
  takes : TakesBytes l.fn.input l.input (g.S.Source.left l.fn.source) (g.S.Source.left l.source) (g.S.Source.given l.fn.source) (g.S.Source.given l.source);
  near : length l.input.kept ≤ l.reading.from + l.reading.searched + 4096;
  faults : g.S.Source.faults l.source ≡ g.S.Source.faults l.fn.source;
  waits : l.fn.input.ended ≡ true → l.source ≡ l.fn.source;
  documents : g.S.Source.documents l.source ≡ g.S.Source.documents l.fn.source;
  absent_openings : g.S.Source.absent_openings l.source ≡ g.S.Source.absent_openings l.fn.source;
}

abbrev pub decreases-loop-committed : goal.decreases-loop-committed
decreases-loop-committed g l = l.input.limit + 1 - given_to l.input
