-- The exit status of each way in which a run ends.
use Rattle.std.specs.Prelude.{ℕ}
use Rattle.qsr_inputs.specs.declared.statuses.Status.{Status}
use Rattle.qsr_inputs.specs.declared.statuses.Status.TheVariants.{Done, No, Usage, Refused, ReadFault, WriteFault, Memory, Budget, NotAccepted, TooLong}

abbrev pub code_of : Status → ℕ
code_of Done = 0
code_of No = 1
code_of Usage = 2
code_of (Refused number place) = 3
code_of ReadFault = 4
code_of WriteFault = 5
code_of Memory = 6
code_of Budget = 7
code_of (NotAccepted number place) = 8
code_of TooLong = 9
