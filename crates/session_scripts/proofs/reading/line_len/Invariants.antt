use Rattle.std.proofs.Common.{◌≡◌, false, take}
use Rattle.session_scripts.specs.Scripts.{has_lf}
use Rattle.session_scripts.proofs.reading.line_len.Given as goal

abbrev pub invariant-loop-index : goal.invariant-loop-index
invariant-loop-index l = has_lf (take l.index l.text) ≡ false
