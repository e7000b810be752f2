-- Why an input has no value.
use Rattle.std.specs.Prelude.{ℕ, Option, None, Some, Result, Ok, Err}
use Rattle.qsr_outside.specs.declared.reading.ReadStop.{ReadStop}
use Rattle.qsr_outside.specs.declared.reading.ReadStop.TheVariants as read
use Rattle.qsr_inputs.specs.declared.statuses.Place.{Place}
use Rattle.qsr_inputs.specs.declared.stops.Stop.{Stop}
use Rattle.qsr_inputs.specs.declared.stops.Stop.TheVariants as stop

-- by what the input holds: it is refused, with a number and a place, or it is longer than the limit
pub data Cause : Type 0 where
  refuses : ℕ → Place → Cause
  is_long : Cause

-- a stop of the program has a cause in the input of which this is a part, unless a read failed or memory ran out
abbrev pub HasCause : {A : Type 0} → (Result A Cause → Type 0) → Stop → Type 0
HasCause Part (stop.Refused number place) = Part (Err (refuses number place))
HasCause Part stop.TooLong = Part (Err is_long)
HasCause Part stop.ReadFault = Unit {0}
HasCause Part stop.Memory = Unit {0}

-- the stop of a fault with this number and place; one without a number is out of memory
abbrev pub stop_of : Option (ℕ × Place) → Stop
stop_of None = stop.Memory
stop_of (Some refusal) = stop.Refused refusal.0 refusal.1

-- a refusal of an input, or out of memory
abbrev pub IsRefusalOrMemory : Stop → Type 0
IsRefusalOrMemory (stop.Refused number place) = Unit {0}
IsRefusalOrMemory stop.Memory = Unit {0}
IsRefusalOrMemory stop.TooLong = ⊥
IsRefusalOrMemory stop.ReadFault = ⊥

-- the stop of reading
abbrev pub stop_of_reading : ReadStop → Stop
stop_of_reading read.ReadFault = stop.ReadFault
stop_of_reading read.TooLong = stop.TooLong
stop_of_reading read.Memory = stop.Memory

-- an input was too long; out of memory may come in its place
abbrev pub IsTooLongStop : {A : Type 0} → Result A Stop → Type 0
IsTooLongStop (Ok value) = ⊥
IsTooLongStop (Err stop.TooLong) = Unit {0}
IsTooLongStop (Err stop.Memory) = Unit {0}
IsTooLongStop (Err (stop.Refused number place)) = ⊥
IsTooLongStop (Err stop.ReadFault) = ⊥
