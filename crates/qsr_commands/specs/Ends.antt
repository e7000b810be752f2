-- How a run may end, over every shelf, source and sink, also those that tell nothing.
use Rattle.std.specs.Prelude.{Option, None, Some}
use Rattle.qsr_outside.specs.declared.reading.ReadStop.{ReadStop}
use Rattle.qsr_outside.specs.declared.reading.ReadStop.TheVariants as stop
use Rattle.qsr_words.specs.Asked.{Asked, close, solve, intervals, minimal, check, trace, relate, scene, serve, demo}
use Rattle.qsr_inputs.specs.declared.statuses.Status.{Status}
use Rattle.qsr_inputs.specs.declared.statuses.Status.TheVariants.{Done, No, Usage, ReadFault, WriteFault, Memory, Budget, NotAccepted, TooLong}

-- the ends of the command that closes a network
abbrev pub IsCloseEnd : Status → Type 0
IsCloseEnd Usage = ⊥
IsCloseEnd Budget = ⊥
IsCloseEnd (NotAccepted number place) = ⊥
IsCloseEnd status = Unit {0}

-- the ends of the commands that search for scenarios
abbrev pub IsSolveEnd : Status → Type 0
IsSolveEnd Usage = ⊥
IsSolveEnd (NotAccepted number place) = ⊥
IsSolveEnd status = Unit {0}

-- the ends of the commands that check a certificate
abbrev pub IsCheckEnd : Status → Type 0
IsCheckEnd No = ⊥
IsCheckEnd Usage = ⊥
IsCheckEnd Budget = ⊥
IsCheckEnd status = Unit {0}

-- the ends of the commands that relate polygons and draw their scene
abbrev pub IsRelateEnd : Status → Type 0
IsRelateEnd No = ⊥
IsRelateEnd Usage = ⊥
IsRelateEnd Budget = ⊥
IsRelateEnd (NotAccepted number place) = ⊥
IsRelateEnd status = Unit {0}

-- the ends of the command that answers a script
abbrev pub IsServeEnd : Status → Type 0
IsServeEnd No = ⊥
IsServeEnd Usage = ⊥
IsServeEnd Budget = ⊥
IsServeEnd (NotAccepted number place) = ⊥
IsServeEnd status = Unit {0}

-- the ends of the demonstration, which never answers no
abbrev pub IsDemoEnd : Status → Type 0
IsDemoEnd Done = Unit {0}
IsDemoEnd Budget = Unit {0}
IsDemoEnd WriteFault = Unit {0}
IsDemoEnd Memory = Unit {0}
IsDemoEnd status = ⊥

-- the ends where the words ask for nothing
abbrev pub IsUsageEnd : Status → Type 0
IsUsageEnd Usage = Unit {0}
IsUsageEnd WriteFault = Unit {0}
IsUsageEnd Memory = Unit {0}
IsUsageEnd status = ⊥

-- the ends of a run whose words ask for this
abbrev pub MayEnd : Option Asked → Status → Type 0
MayEnd None status = IsUsageEnd status
MayEnd (Some (close asked)) status = IsCloseEnd status
MayEnd (Some (solve asked)) status = IsSolveEnd status
MayEnd (Some (intervals asked)) status = IsSolveEnd status
MayEnd (Some (minimal asked)) status = IsSolveEnd status
MayEnd (Some (check asked)) status = IsCheckEnd status
MayEnd (Some (trace asked)) status = IsCheckEnd status
MayEnd (Some (relate asked)) status = IsRelateEnd status
MayEnd (Some (scene asked)) status = IsRelateEnd status
MayEnd (Some (serve asked)) status = IsServeEnd status
MayEnd (Some (demo asked)) status = IsDemoEnd status

-- an input was too long; out of memory may come in its place, and so may a fault of the sink where a script is answered
abbrev pub IsLongEnd : Status → Option Asked → Type 0
IsLongEnd TooLong asked = Unit {0}
IsLongEnd Memory asked = Unit {0}
IsLongEnd WriteFault (Some (serve asked)) = Unit {0}
IsLongEnd WriteFault asked = ⊥
IsLongEnd status asked = ⊥

-- the end of a run whose input was not read to its end
abbrev pub end_of_stop : ReadStop → Status
end_of_stop stop.ReadFault = ReadFault
end_of_stop stop.TooLong = TooLong
end_of_stop stop.Memory = Memory
