-- What the program writes, and how it ends: a relation between what its words ask for, the documents, the bytes of its source, a text
-- and a status. Each command makes something of what the documents give and what the source gives.
use Rattle.std.specs.Prelude.{◌≡◌, ◌⊎◌, ℕ, List, [], Option, None, Some, Ok, Err}
use Rattle.qsr_outside.specs.Documents.{Documents}
use Rattle.qsr_words.specs.Asked.{Asked, close, solve, intervals, minimal, check, trace, relate, scene, serve, demo}
use Rattle.qsr_inputs.specs.Stops.{refuses, is_long}
use Rattle.qsr_inputs.specs.Given.{GivenTo, ReadBy, Input, InputOf}
use Rattle.qsr_inputs.specs.declared.statuses.Status.{Status}
use Rattle.qsr_inputs.specs.declared.statuses.Status.TheVariants.{Usage, Refused, ReadFault, WriteFault, Memory, TooLong}
use Rattle.qsr_answers.specs.Texts.{usage_text, refusal_text}
use Rattle.qsr_answers.specs.Demonstrations.{Demonstrates}
use Rattle.qsr_answers.specs.Commands.{ClosesNetwork, SolvesNetwork, RealisesNetwork, ChecksNetwork, TracesNetwork}
use Rattle.qsr_answers.specs.Commands.{LabelsNetwork, RelatesPolygons, DrawsScene}
use Rattle.qsr_commands.specs.Serving.{ServesScript}

-- ---- what each command makes of what it is given

-- the text and the status that it makes of both
abbrev pub Makes : (asked : Asked) → GivenTo asked → ReadBy asked → List ℕ → Status → Type 0
Makes (close asked) c net = ClosesNetwork c net
Makes (solve asked) given net = SolvesNetwork asked given.guided.calculus given.guided.class net
Makes (intervals asked) class net = RealisesNetwork asked class net
Makes (minimal asked) guided net = LabelsNetwork asked guided.calculus guided.class net
Makes (check asked) given net = ChecksNetwork given.calculus given.certificate net
Makes (trace asked) given net = TracesNetwork given.calculus given.certificate net
Makes (relate asked) given read = RelatesPolygons given
Makes (scene asked) polygons read = DrawsScene polygons
Makes (serve asked) c script = ServesScript asked c script
Makes (demo asked) given read = Demonstrates asked

-- ---- every command

-- an input, and what the command makes of it
pub record Works (asked : Asked) (documents : Documents) (bytes text : List ℕ) (status : Status) : Type 0 where
  pub value : Input asked
  pub input : InputOf asked documents bytes (Ok value)
  pub work : Makes asked value.given value.read text status

-- nothing where an input is too long; of a script that is, a part is answered
abbrev pub LongOutput : Asked → Documents → List ℕ → List ℕ → Type 0
LongOutput (serve asked) documents bytes text =
    (InputOf (serve asked) documents bytes (Err is_long) × (text ≡ [])) ⊎ Works (serve asked) documents bytes text TooLong
LongOutput asked documents bytes text = InputOf asked documents bytes (Err is_long) × (text ≡ [])

-- the line of a refusal, what is written where an input is too long, and else what the command makes of its input
abbrev pub OutputOf : Asked → Documents → List ℕ → List ℕ → Status → Type 0
OutputOf asked documents bytes text (Refused number place) =
    InputOf asked documents bytes (Err (refuses number place)) × (text ≡ refusal_text number place)
OutputOf asked documents bytes text TooLong = LongOutput asked documents bytes text
OutputOf asked documents bytes text Usage = ⊥
OutputOf asked documents bytes text ReadFault = ⊥
OutputOf asked documents bytes text WriteFault = ⊥
OutputOf asked documents bytes text Memory = ⊥
OutputOf asked documents bytes text status = Works asked documents bytes text status

-- what is written to words that ask for nothing
abbrev pub UsageOutput : List ℕ → Status → Type 0
UsageOutput text status = (status ≡ Usage) × (text ≡ usage_text)

-- the texts and statuses that are permitted
abbrev pub Output : Option Asked → Documents → List ℕ → List ℕ → Status → Type 0
Output None documents bytes = UsageOutput
Output (Some asked) documents bytes = OutputOf asked documents bytes
