use Rattle.std.proofs.Common.{ap, refl, sym, rules}
use Rattle.qsr_words.specs.Asked.{close, solve, intervals, minimal, check, trace, relate, scene, demo}
use Rattle.qsr_words.specs.Requests.{asked_of, close_of, solve_of, intervals_of, minimal_of, check_of, relate_of}
use Rattle.qsr_words.specs.Requests.{scene_of, demo_of}
use Rattle.qsr_commands.proofs.Answering.{command_runs, alone_runs, usage_runs}
use Rattle.qsr_commands.proofs.CommandAnswers.{demo_answers}
use Rattle.qsr_top.proofs.running.run_request.Goals as goal

pub returns-in-Close : goal.returns-in-Close
returns-in-Close g c =
    command_runs g.F.Source.documents g.F.Source.faults g.F.Source.given g.F.Source.absent_openings g.S.Source.left g.S.Source.faults g.S.Source.given g.W.Sink.held g.W.Sink.faults
    c.args.shelf.now c.close_answer.new.shelf c.args.source.now c.close_answer.new.source c.args.sink.now c.write_answer.new.sink (close (close_of c.in-Close.close)) (asked_of c.args.request.now)
    c.close_answer.result c.write_answer.result refl (sym (ap asked_of c.in-Close.is)) c.close_answer.ensures c.write_answer.ensures

pub returns-in-Solve : goal.returns-in-Solve
returns-in-Solve g c =
    command_runs g.F.Source.documents g.F.Source.faults g.F.Source.given g.F.Source.absent_openings g.S.Source.left g.S.Source.faults g.S.Source.given g.W.Sink.held g.W.Sink.faults
    c.args.shelf.now c.solve_answer.new.shelf c.args.source.now c.solve_answer.new.source c.args.sink.now c.write_answer-in-Solve.new.sink (solve (solve_of c.in-Solve.solve)) (asked_of c.args.request.now)
    c.solve_answer.result c.write_answer-in-Solve.result refl (sym (ap asked_of c.in-Solve.is)) c.solve_answer.ensures c.write_answer-in-Solve.ensures

pub returns-in-Intervals : goal.returns-in-Intervals
returns-in-Intervals g c =
    command_runs g.F.Source.documents g.F.Source.faults g.F.Source.given g.F.Source.absent_openings
    g.S.Source.left g.S.Source.faults g.S.Source.given g.W.Sink.held g.W.Sink.faults
    c.args.shelf.now c.intervals_answer.new.shelf c.args.source.now c.intervals_answer.new.source c.args.sink.now
    c.write_answer-in-Intervals.new.sink (intervals (intervals_of c.in-Intervals.intervals))
    (asked_of c.args.request.now) c.intervals_answer.result c.write_answer-in-Intervals.result refl
    (sym (ap asked_of c.in-Intervals.is)) c.intervals_answer.ensures c.write_answer-in-Intervals.ensures

pub returns-in-Minimal : goal.returns-in-Minimal
returns-in-Minimal g c =
    command_runs g.F.Source.documents g.F.Source.faults g.F.Source.given g.F.Source.absent_openings
    g.S.Source.left g.S.Source.faults g.S.Source.given g.W.Sink.held g.W.Sink.faults
    c.args.shelf.now c.minimal_answer.new.shelf c.args.source.now c.minimal_answer.new.source c.args.sink.now
    c.write_answer-in-Minimal.new.sink (minimal (minimal_of c.in-Minimal.minimal))
    (asked_of c.args.request.now) c.minimal_answer.result c.write_answer-in-Minimal.result refl
    (sym (ap asked_of c.in-Minimal.is)) c.minimal_answer.ensures c.write_answer-in-Minimal.ensures

pub returns-in-Check : goal.returns-in-Check
returns-in-Check g c =
    command_runs g.F.Source.documents g.F.Source.faults g.F.Source.given g.F.Source.absent_openings g.S.Source.left g.S.Source.faults g.S.Source.given g.W.Sink.held g.W.Sink.faults
    c.args.shelf.now c.check_answer.new.shelf c.args.source.now c.check_answer.new.source c.args.sink.now c.write_answer-in-Check.new.sink (check (check_of c.in-Check.check)) (asked_of c.args.request.now)
    c.check_answer.result c.write_answer-in-Check.result refl (sym (ap asked_of c.in-Check.is)) c.check_answer.ensures c.write_answer-in-Check.ensures

pub returns-in-Trace : goal.returns-in-Trace
returns-in-Trace g c =
    command_runs g.F.Source.documents g.F.Source.faults g.F.Source.given g.F.Source.absent_openings g.S.Source.left g.S.Source.faults g.S.Source.given g.W.Sink.held g.W.Sink.faults
    c.args.shelf.now c.trace_answer.new.shelf c.args.source.now c.trace_answer.new.source c.args.sink.now c.write_answer-in-Trace.new.sink (trace (check_of c.in-Trace.check)) (asked_of c.args.request.now)
    c.trace_answer.result c.write_answer-in-Trace.result refl (sym (ap asked_of c.in-Trace.is)) c.trace_answer.ensures c.write_answer-in-Trace.ensures

pub returns-in-Relate : goal.returns-in-Relate
returns-in-Relate g c =
    alone_runs g.F.Source.documents g.F.Source.faults g.F.Source.given g.F.Source.absent_openings
    g.S.Source.left g.S.Source.faults g.S.Source.given g.W.Sink.held g.W.Sink.faults
    c.args.shelf.now c.relate_answer.new.shelf c.args.source.now c.args.sink.now c.write_answer-in-Relate.new.sink
    (relate (relate_of c.in-Relate.relate)) (asked_of c.args.request.now) c.relate_answer.result
    c.write_answer-in-Relate.result refl refl (sym (ap asked_of c.in-Relate.is))
    c.relate_answer.ensures c.write_answer-in-Relate.ensures

pub returns-in-Scene : goal.returns-in-Scene
returns-in-Scene g c =
    alone_runs g.F.Source.documents g.F.Source.faults g.F.Source.given g.F.Source.absent_openings
    g.S.Source.left g.S.Source.faults g.S.Source.given g.W.Sink.held g.W.Sink.faults
    c.args.shelf.now c.scene_answer.new.shelf c.args.source.now c.args.sink.now c.write_answer-in-Scene.new.sink
    (scene (scene_of c.in-Scene.scene)) (asked_of c.args.request.now) c.scene_answer.result
    c.write_answer-in-Scene.result refl refl (sym (ap asked_of c.in-Scene.is))
    c.scene_answer.ensures c.write_answer-in-Scene.ensures

pub returns-in-Demo : goal.returns-in-Demo
returns-in-Demo g c =
    command_runs g.F.Source.documents g.F.Source.faults g.F.Source.given g.F.Source.absent_openings g.S.Source.left g.S.Source.faults g.S.Source.given g.W.Sink.held g.W.Sink.faults
    c.args.shelf.now c.args.shelf.now c.args.source.now c.args.source.now c.args.sink.now c.write_answer-in-Demo.new.sink (demo (demo_of c.in-Demo.demo)) (asked_of c.args.request.now)
    c.demo_answer.result c.write_answer-in-Demo.result refl (sym (ap asked_of c.in-Demo.is)) (demo_answers g.F.Source.documents g.F.Source.faults g.F.Source.given g.F.Source.absent_openings g.S.Source.left g.S.Source.faults g.S.Source.given
    (demo_of c.in-Demo.demo) c.args.shelf.now c.args.source.now c.demo_answer.result c.demo_answer.ensures.demonstrates c.demo_answer.ensures.memory) c.write_answer-in-Demo.ensures

pub returns-in-Serve : goal.returns-in-Serve
returns-in-Serve g c = rw c.in-Serve.is c.serve_script.ensures

pub returns-in-Usage : goal.returns-in-Usage
returns-in-Usage g c =
    usage_runs g.F.Source.documents g.F.Source.faults g.F.Source.given g.F.Source.absent_openings g.S.Source.left g.S.Source.faults g.S.Source.given g.W.Sink.held g.W.Sink.faults
    c.args.shelf.now c.args.source.now c.args.sink.now c.write_answer-in-Usage.new.sink c.write_answer-in-Usage.result (asked_of c.args.request.now)
    c.map_err.result (sym (ap asked_of c.in-Usage.is)) (search rules) c.write_answer-in-Usage.ensures
