use Rattle.qsr_words.specs.Requests.{serve_of}
use Rattle.qsr_inputs.specs.declared.statuses.Status.TheVariants.{Memory}
use Rattle.qsr_commands.proofs.ServingRuns.{serving_runs, refused_runs}
use Rattle.qsr_commands.proofs.serving.serve_script.Goals as goal

pub returns-in-Err : goal.returns-in-Err
returns-in-Err g c =
    refused_runs g.F.Source.documents g.F.Source.faults g.F.Source.given g.F.Source.absent_openings g.S.Source.left g.S.Source.faults g.S.Source.given g.W.Sink.held g.W.Sink.faults
    (serve_of c.args.request.now) c.args.shelf.now c.calculus.new.shelf c.args.source.now c.args.sink.now c.write_answer.new.sink c.in-Err.stop c.write_answer.result
    (rw c.as_str.ensures.value at c.in-Err.ensures) c.write_answer.ensures

pub returns-in-Ok-serve_over : goal.returns-in-Ok-serve_over
returns-in-Ok-serve_over g c =
    serving_runs g.F.Source.documents g.F.Source.faults g.F.Source.given g.F.Source.absent_openings g.S.Source.left g.S.Source.faults g.S.Source.given g.W.Sink.held g.W.Sink.faults
    (serve_of c.args.request.now) c.args.shelf.now c.calculus.new.shelf c.args.source.now c.serve_over.new.source c.args.sink.now c.serve_over.new.sink c.in-Ok.calculus c.in-Ok-serve_over.status
    (rw c.as_str.ensures.value at c.in-Ok.ensures) c.in-Ok-serve_over.ensures

pub returns : goal.returns
returns g c =
    serving_runs g.F.Source.documents g.F.Source.faults g.F.Source.given g.F.Source.absent_openings g.S.Source.left g.S.Source.faults g.S.Source.given g.W.Sink.held g.W.Sink.faults
    (serve_of c.args.request.now) c.args.shelf.now c.calculus.new.shelf c.args.source.now c.serve_over.new.source c.args.sink.now c.serve_over.new.sink c.in-Ok.calculus Memory
    (rw c.as_str.ensures.value at c.in-Ok.ensures) c.in-Err-serve_over.ensures
