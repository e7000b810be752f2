use Rattle.std.proofs.Common.{map}
use Rattle.std.specs.String.{string_bytes}
use Rattle.qsr_words.specs.Asked.{asked_by}
use Rattle.qsr_commands.proofs.Answering.{memory_runs}
use Rattle.qsr_top.proofs.running.run.Goals as goal

pub returns-in-Ok : goal.returns-in-Ok
returns-in-Ok g c = let r = rw c.in-Ok.ensures.asked at c.run_request.ensures in record {
  output = r.output;
  by_status = r.by_status;
  usage_part = r.usage_part;
  status = r.status;
  read_fault = r.read_fault;
  write_fault = r.write_fault;
  read_faults_are_told = r.read_faults_are_told;
  write_faults_are_told = r.write_faults_are_told;
  too_long = r.too_long;
  above = r.above;
  source_waits = r.source_waits;
  shelf_stays = r.shelf_stays;
  ends = r.ends;
  documents_stay = r.documents_stay;
  absent_openings_stay = r.absent_openings_stay;
  shelf_faults = r.shelf_faults;
  source_faults = r.faults_of_source;
  sink_faults = r.faults_of_sink;
}

pub returns-in-Err : goal.returns-in-Err
returns-in-Err g c = let r = memory_runs g.F.Source.documents g.F.Source.faults g.F.Source.given g.F.Source.absent_openings g.S.Source.left g.S.Source.faults g.S.Source.given g.W.Sink.held g.W.Sink.faults
    c.args.shelf.now c.args.source.now (asked_by (map string_bytes c.args.words.now)) c.args.sink.now in record {
      output = r.output;
      by_status = r.by_status;
      usage_part = r.usage_part;
      status = r.status;
      read_fault = r.read_fault;
      write_fault = r.write_fault;
      read_faults_are_told = r.read_faults_are_told;
      write_faults_are_told = r.write_faults_are_told;
      too_long = r.too_long;
      above = r.above;
      source_waits = r.source_waits;
      shelf_stays = r.shelf_stays;
      ends = r.ends;
      documents_stay = r.documents_stay;
      absent_openings_stay = r.absent_openings_stay;
      shelf_faults = r.shelf_faults;
      source_faults = r.faults_of_source;
      sink_faults = r.faults_of_sink;
    }
