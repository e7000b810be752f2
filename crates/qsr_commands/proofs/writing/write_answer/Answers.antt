use Rattle.std.proofs.Common.{Ok, Err, refl, arith}
use Rattle.qsr_commands.proofs.writing.write_answer.Goals as goal

pub returns-in-Ok : goal.returns-in-Ok
returns-in-Ok g c = record {
  spoken = Ok c.in-Ok.answer;
  is_spoken = c.in-Ok.ensures;
  writes = c.write.ensures.written;
  faults_never_fall = c.write.ensures.faults_never_fall;
}

pub returns-in-Err : goal.returns-in-Err
returns-in-Err g c = record {
  spoken = Err c.in-Err.stop;
  is_spoken = c.in-Err.ensures;
  writes = (c.end_of_stop.ensures, refl);
  faults_never_fall = omega arith;
}
