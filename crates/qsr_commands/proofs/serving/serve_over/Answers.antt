use Rattle.std.proofs.Common.{ap, Err, sym, ◌∙◌, arith, subst}
use Rattle.std.specs.String.{string_bytes}
use Rattle.std.proofs.lemmas.Result.{err_from_is_err_and}
use Rattle.qsr_words.specs.Requests.{serve_of}
use Rattle.session_scripts.specs.Batches.{IsBatch}
use Rattle.qsr_commands.proofs.AnsweredSoFar.{serving_first, serves_nothing, serves_err, serves_done, serves_stop, serves_unanswered, serves_part, serving_next, some_room, new_within}
use Rattle.qsr_commands.proofs.serving.serve_over.Goals as goal

pub returns-in_err-fast : goal.returns-in_err-fast
returns-in_err-fast g c =
    let p = err_from_is_err_and c.from_residual.result c.from_residual.ensures.1 in
    serves_err g.S.Source.left g.S.Source.faults g.S.Source.given g.W.Sink.held g.W.Sink.faults (serve_of c.args.request.now) c.args.calculus.now c.args.source.now c.args.sink.now
    c.args.source.now c.args.sink.now c.from_residual.result p.0 p.1 (serves_nothing g.S.Source.left g.S.Source.faults g.S.Source.given g.W.Sink.held g.W.Sink.faults (serve_of c.args.request.now) c.args.calculus.now c.args.source.now c.args.sink.now)

pub returns-in_err-store : goal.returns-in_err-store
returns-in_err-store g c =
    let p = err_from_is_err_and c.from_residual-in_err-store.result c.from_residual-in_err-store.ensures.1 in
    serves_err g.S.Source.left g.S.Source.faults g.S.Source.given g.W.Sink.held g.W.Sink.faults (serve_of c.args.request.now) c.args.calculus.now c.args.source.now c.args.sink.now
    c.args.source.now c.args.sink.now c.from_residual-in_err-store.result p.0 p.1 (serves_nothing g.S.Source.left g.S.Source.faults g.S.Source.given g.W.Sink.held g.W.Sink.faults (serve_of c.args.request.now) c.args.calculus.now c.args.source.now c.args.sink.now)

pub returns-in_err-reader : goal.returns-in_err-reader
returns-in_err-reader g c =
    let p = err_from_is_err_and c.from_residual-in_err-reader.result c.from_residual-in_err-reader.ensures.1 in
    serves_err g.S.Source.left g.S.Source.faults g.S.Source.given g.W.Sink.held g.W.Sink.faults (serve_of c.args.request.now) c.args.calculus.now c.args.source.now c.args.sink.now
    c.args.source.now c.args.sink.now c.from_residual-in_err-reader.result p.0 p.1 (serves_nothing g.S.Source.left g.S.Source.faults g.S.Source.given g.W.Sink.held g.W.Sink.faults (serve_of c.args.request.now) c.args.calculus.now c.args.source.now c.args.sink.now)

pub loop-batch-init : goal.loop-batch-init
loop-batch-init g c = serving_first g.S.Source.left g.S.Source.faults g.S.Source.given g.W.Sink.held g.W.Sink.faults (serve_of c.args.request.now) c.args.calculus.now c.args.source.now c.args.sink.now
    c.in_ok-store.store c.in_ok-reader.reader c.in_ok-store.ensures c.in_ok-reader.ensures

pub returns-in-Ok-None : goal.returns-in-Ok-None
returns-in-Ok-None g c = serves_done g.S.Source.left g.S.Source.faults g.S.Source.given g.W.Sink.held g.W.Sink.faults (serve_of c.args.request.now) c.args.calculus.now c.args.source.now c.args.sink.now
    c.loop-batch.source c.next.new.source c.loop-batch.sink c.loop-batch.store c.loop-batch.reader c.next.new.self c.loop-batch.invariant c.next.ensures.faults_never_fall
    (rw c.in-Ok-None.field-0-is at (c.in-Ok-None.ensures.reads c.loop-batch.invariant.no_stop)) c.in-Ok-None.ensures.source_waits

pub returns-in-Err : goal.returns-in-Err
returns-in-Err g c = rw c.end_of_stop.ensures (serves_stop g.S.Source.left g.S.Source.faults g.S.Source.given g.W.Sink.held g.W.Sink.faults (serve_of c.args.request.now) c.args.calculus.now c.args.source.now c.args.sink.now
    c.loop-batch.source c.next.new.source c.loop-batch.sink c.loop-batch.store c.loop-batch.reader c.next.new.self c.loop-batch.invariant c.next.ensures.faults_never_fall
    c.in-Err.stop (c.in-Err.ensures.reads c.loop-batch.invariant.no_stop)
    (λ ended e. c.in-Err.ensures.no_fault_at_end c.loop-batch.invariant.no_stop ended (ap Err e)))

pub run_batch-requires-clause-names : goal.run_batch-requires-clause-names
run_batch-requires-clause-names g c κs within = sym c.loop-batch.invariant.calculus_is

pub run_batch-requires-clause-calculus : goal.run_batch-requires-clause-calculus
run_batch-requires-clause-calculus g c κs within = c.in_ok-fast.ensures ∙ sym c.loop-batch.invariant.calculus_is

pub run_batch-requires-clause-batch : goal.run_batch-requires-clause-batch
run_batch-requires-clause-batch g c κs within =
    rw (c.loop-batch.invariant.calculus_is, c.loop-batch.invariant.nodes_are) (rw c.in-Ok-Some.field-0-is at c.in-Ok-Some.ensures.fits)

pub run_batch-requires-clause-versions : goal.run_batch-requires-clause-versions
run_batch-requires-clause-versions g c κs within = omega (arith, c.loop-batch.invariant.versions, c.loop-batch.invariant.within)

pub run_batch-requires-clause-facts : goal.run_batch-requires-clause-facts
run_batch-requires-clause-facts g c κs within = omega (arith, c.loop-batch.invariant.facts, c.loop-batch.invariant.within)

pub returns-in_err-replies : goal.returns-in_err-replies
returns-in_err-replies g c =
    let p = err_from_is_err_and c.from_residual-in_err-replies.result c.from_residual-in_err-replies.ensures.1 in
    serves_err g.S.Source.left g.S.Source.faults g.S.Source.given g.W.Sink.held g.W.Sink.faults (serve_of c.args.request.now) c.args.calculus.now c.args.source.now c.args.sink.now
    c.next.new.source c.loop-batch.sink c.from_residual-in_err-replies.result p.0 p.1 (serves_unanswered g.S.Source.left g.S.Source.faults g.S.Source.given g.W.Sink.held g.W.Sink.faults (serve_of c.args.request.now) c.args.calculus.now c.args.source.now c.args.sink.now
    c.loop-batch.source c.next.new.source c.loop-batch.sink c.loop-batch.store c.loop-batch.reader c.next.new.self c.loop-batch.invariant c.next.ensures.faults_never_fall
    c.in-Ok-Some.batch (rw c.in-Ok-Some.field-0-is at (c.in-Ok-Some.ensures.reads c.loop-batch.invariant.no_stop)) c.in-Ok-Some.ensures.source_waits)

pub returns-in-Err-WriteFault : goal.returns-in-Err-WriteFault
returns-in-Err-WriteFault g c = serves_part g.S.Source.left g.S.Source.faults g.S.Source.given g.W.Sink.held g.W.Sink.faults (serve_of c.args.request.now) c.args.calculus.now c.args.source.now c.args.sink.now
    c.loop-batch.source c.next.new.source c.loop-batch.sink c.loop-batch.store c.loop-batch.reader c.next.new.self c.loop-batch.invariant c.next.ensures.faults_never_fall
    c.in-Ok-Some.batch (rw c.in-Ok-Some.field-0-is at (c.in-Ok-Some.ensures.reads c.loop-batch.invariant.no_stop)) c.in-Ok-Some.ensures.source_waits
    c.write_all.new.sink c.run_batch.new.store (string_bytes c.in_ok-replies.replies) c.in_ok-replies.ensures.answered
    (rw c.as_bytes.ensures.value at c.in-Err-WriteFault.ensures.fault_writes_part) c.in-Err-WriteFault.ensures.fault_is_counted c.in-Err-WriteFault.ensures.faults_never_fall

pub loop-batch-smaller : goal.loop-batch-smaller
loop-batch-smaller g c =
    let room = some_room g.S.Source.left g.S.Source.faults g.S.Source.given g.W.Sink.held g.W.Sink.faults (serve_of c.args.request.now) c.args.calculus.now c.args.source.now c.args.sink.now
    c.loop-batch.source c.next.new.source c.loop-batch.sink c.loop-batch.store c.loop-batch.reader c.next.new.self c.loop-batch.invariant c.next.ensures.faults_never_fall
    c.in-Ok-Some.batch (rw c.in-Ok-Some.field-0-is at (c.in-Ok-Some.ensures.reads c.loop-batch.invariant.no_stop)) c.in-Ok-Some.ensures.source_waits in
    let within = new_within g.S.Source.left g.S.Source.faults g.S.Source.given g.W.Sink.held g.W.Sink.faults (serve_of c.args.request.now) c.args.calculus.now c.args.source.now c.args.sink.now
    c.loop-batch.source c.next.new.source c.loop-batch.sink c.loop-batch.store c.loop-batch.reader c.next.new.self c.loop-batch.invariant c.next.ensures.faults_never_fall
    c.in-Ok-Some.batch (rw c.in-Ok-Some.field-0-is at (c.in-Ok-Some.ensures.reads c.loop-batch.invariant.no_stop)) c.in-Ok-Some.ensures.source_waits in
    omega (arith, room, within)

pub loop-batch-preserved : goal.loop-batch-preserved
loop-batch-preserved g c = serving_next g.S.Source.left g.S.Source.faults g.S.Source.given g.W.Sink.held g.W.Sink.faults (serve_of c.args.request.now) c.args.calculus.now c.args.source.now c.args.sink.now
    c.loop-batch.source c.next.new.source c.loop-batch.sink c.loop-batch.store c.loop-batch.reader c.next.new.self c.loop-batch.invariant c.next.ensures.faults_never_fall
    c.in-Ok-Some.batch (rw c.in-Ok-Some.field-0-is at (c.in-Ok-Some.ensures.reads c.loop-batch.invariant.no_stop)) c.in-Ok-Some.ensures.source_waits
    c.write_all.new.sink c.run_batch.new.store (string_bytes c.in_ok-replies.replies) c.in_ok-replies.ensures.answered
    (subst IsBatch c.batch.view_is c.batch.invariant) c.in_ok-replies.ensures.few_facts
    (rw c.as_bytes.ensures.value at c.in-Ok.ensures.writes_all) c.in-Ok.ensures.ok_is_no_fault
