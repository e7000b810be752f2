-- What a command makes of its input is its output, and so is nothing where an input is too long.
use Rattle.std.proofs.Common.{ℕ, List, [], Err, inl, refl}
use Rattle.qsr_outside.specs.Documents.{Documents}
use Rattle.qsr_words.specs.Asked.{Asked, serve}
use Rattle.qsr_inputs.specs.Stops.{is_long}
use Rattle.qsr_inputs.specs.Given.{InputOf}
use Rattle.qsr_inputs.specs.declared.statuses.Status.{Status}
use Rattle.qsr_inputs.specs.declared.statuses.Status.TheVariants.{Done, No, Budget, NotAccepted}
use Rattle.qsr_answers.specs.Commands.{IsAnswered}
use Rattle.qsr_commands.specs.Output.{OutputOf, LongOutput, Works}

pub working_output : (asked : Asked) (documents : Documents) (bytes text : List ℕ) (status : Status) →
    IsAnswered status → Works asked documents bytes text status → OutputOf asked documents bytes text status
working_output asked documents bytes text Done is h = h
working_output asked documents bytes text No is h = h
working_output asked documents bytes text Budget is h = h
working_output asked documents bytes text (NotAccepted number place) is h = h
working_output asked documents bytes text _ is h = absurd is

pub long_output : (asked : Asked) (documents : Documents) (bytes : List ℕ) →
    InputOf asked documents bytes (Err is_long) → LongOutput asked documents bytes []
long_output (serve asked) documents bytes h = inl (h, refl)
long_output _ documents bytes h = (h, refl)
