use Rattle.calculus_load.proofs.Faults.{lawful_fault}
use Rattle.calculus_load.proofs.ReadAgain.{text-again}
use Rattle.calculus_load.proofs.laws.printed_table_is_read.Goals as goal

pub returns : goal.returns
returns c = record {
  same = λ k lawful names. text-again k (record { lawful = lawful; names = names });
  no_fault = λ k fault lawful is. lawful_fault k fault lawful is;
}
