-- What reading a source to its end returns.
use Rattle.std.specs.Prelude.{⊤, Result, Ok, Err}
use Rattle.qsr_outside.specs.declared.reading.ReadStop.{ReadStop}
use Rattle.qsr_outside.specs.declared.reading.ReadStop.TheVariants.{ReadFault, TooLong, Memory}

-- too much was given; out of memory may come in its place
abbrev pub IsTooLongOrMemory : {T : Type 0} → Result T ReadStop → Type 0
IsTooLongOrMemory (Ok value) = ⊥
IsTooLongOrMemory (Err ReadFault) = ⊥
IsTooLongOrMemory (Err TooLong) = ⊤
IsTooLongOrMemory (Err Memory) = ⊤

-- all was read; out of memory may come in its place
abbrev pub IsOkOrMemory : {T : Type 0} → Result T ReadStop → Type 0
IsOkOrMemory (Ok value) = ⊤
IsOkOrMemory (Err ReadFault) = ⊥
IsOkOrMemory (Err TooLong) = ⊥
IsOkOrMemory (Err Memory) = ⊤
