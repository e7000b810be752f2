use Rattle.std.proofs.Common.{◌+◌, ◌-◌, ◌≤◌, length}
use Rattle.session_scripts.specs.Readings.{IsRead}
use Rattle.session_scripts.proofs.reading.read_lines.Given as goal

abbrev pub invariant-loop-len : goal.invariant-loop-len
invariant-loop-len l = record {
  read : IsRead l.bases l.nodes l.text l.reading;
  onward : l.fn.reading.from + l.fn.reading.searched ≤ l.reading.from + l.reading.searched;
}

abbrev pub decreases-loop-len : goal.decreases-loop-len
decreases-loop-len l = length l.text - l.reading.from
