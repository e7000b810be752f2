use Rattle.std.proofs.Common.{◌-◌}
use Rattle.qsr_lex.specs.declared.TheConstants.{MAX_TEXT}
use Rattle.qsr_words.specs.Requests.{serve_of}
use Rattle.qsr_commands.proofs.AnsweredSoFar.{Serving}
use Rattle.qsr_commands.proofs.serving.serve_over.Given as goal

abbrev pub invariant-loop-batch : goal.invariant-loop-batch
invariant-loop-batch g l =
    Serving g.S.Source.left g.S.Source.faults g.S.Source.given g.W.Sink.held g.W.Sink.faults (serve_of l.request) l.calculus l.fn.source l.fn.sink
    l.source l.sink l.store l.reader

abbrev pub decreases-loop-batch : goal.decreases-loop-batch
decreases-loop-batch g l = MAX_TEXT - l.reader.cut
