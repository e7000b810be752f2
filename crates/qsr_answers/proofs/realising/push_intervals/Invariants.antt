use Rattle.std.proofs.Common.{◌≡◌, ◌++◌}
use Rattle.std.specs.String.{string_bytes}
use Rattle.qsr_lex.specs.Printed.{text_below}
use Rattle.qsr_answers.specs.Intervals.{interval_line}
use Rattle.qsr_answers.proofs.realising.push_intervals.Given as goal

abbrev pub invariant-loop-node : goal.invariant-loop-node
invariant-loop-node l =
    string_bytes l.text ≡ string_bytes l.fn.text ++ text_below l.node (interval_line l.net.names l.intervals)
