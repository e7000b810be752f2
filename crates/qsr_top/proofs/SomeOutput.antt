-- One text and one status at least are permitted for what words ask for, where the documents that they name are there, and no
-- polygons are asked for.
use Rattle.std.proofs.Common.{ℕ, List, [], None, Some, Ok, Err, inl, refl}
use Rattle.std.specs.Prelude.{⊤}
use Rattle.calculus_builtin.specs.Allen.{allen_calculus}
use Rattle.network_words.specs.Network.{Network}
use Rattle.qsr_outside.specs.Documents.{Documents}
use Rattle.qsr_words.specs.Asked.{Asked, SceneAsked, close, solve, intervals, minimal, check, trace, scene}
use Rattle.qsr_inputs.specs.Stops.{Cause, refuses, is_long}
use Rattle.qsr_inputs.specs.Parts.{Then}
use Rattle.qsr_inputs.specs.Inputs.{Guided, Searched, Claimed}
use Rattle.qsr_inputs.specs.Given.{GivenTo, ReadBy, DocumentsGive, SourceGives, Input, IsInput, InputOf}
use Rattle.qsr_inputs.specs.declared.statuses.Status.TheVariants.{Usage, Refused, TooLong}
use Rattle.qsr_inputs.proofs.InputsThere.{There, value, stops, Then-there, IsOfWord, CalculusOf-there, SourceNetwork-there, PlacedNetwork-there, IsOver, IsSoundSearch, SearchedOf-there, IsSoundClaim, ClaimedOf-there}
use Rattle.qsr_inputs.proofs.InputsThere.{IsGuide, CalculusAndClass-there, IsGuideFor, AllenClass-there, AreOfSomeFile, DrawnOf-there}
use Rattle.qsr_answers.specs.Texts.{usage_text, refusal_text}
use Rattle.qsr_answers.proofs.SomeCertificates.{Made, checks_there, traces_there}
use Rattle.qsr_answers.proofs.SomeAnswers.{closes, solves, realises, draws}
use Rattle.qsr_answers.proofs.MinimalAnswers.{labels_there}
use Rattle.qsr_answers.proofs.Agreeing.{file-regions}
use Rattle.qsr_commands.specs.Output.{Makes}
use Rattle.qsr_top.specs.Laws.{HasOutput, OutputIsThere, SceneIsAnswered}
use Rattle.qsr_commands.proofs.Working.{working_output, long_output}

-- ---- a command

module _ (asked : Asked) (documents : Documents) (bytes : List ℕ) (Given : GivenTo asked → Type 0) (Read : GivenTo asked → ReadBy asked → Type 0) where
  -- what is known of an input
  record Known (input : Input asked) : Type 0 where
    given : Given input.given
    read : Read input.given input.read

  input_there : There (DocumentsGive asked documents) Given →
      ((g : GivenTo asked) → Given g → There (SourceGives asked bytes g) (Read g)) →
      There (InputOf asked documents bytes) Known
  input_there first more =
      Then-there (DocumentsGive asked documents) (λ g. Then (SourceGives asked bytes g) (IsInput asked g)) Given Known first (λ g given.
      Then-there (SourceGives asked bytes g) (IsInput asked g) (Read g) Known (more g given) (λ r read.
      value (record { given = g; read = r }) refl (record { given = given; read = read })))

  worked_out : (i : Input asked) → InputOf asked documents bytes (Ok i) → Made (Makes asked i.given i.read) →
      HasOutput (Some asked) documents bytes
  worked_out i input made = record {
    text = made.text;
    status = made.status;
    output = working_output asked documents bytes made.text made.status made.answered (record { value = i; input = input; work = made.work });
  }

  stopped_out : (cause : Cause) → InputOf asked documents bytes (Err cause) → HasOutput (Some asked) documents bytes
  stopped_out (refuses number place) h = record { text = refusal_text number place; status = Refused number place; output = (h, refl) }
  stopped_out is_long h = record { text = []; status = TooLong; output = long_output asked documents bytes h }

  some_output : There (InputOf asked documents bytes) Known →
      ((g : GivenTo asked) (r : ReadBy asked) → Given g → Read g r → Made (Makes asked g r)) →
      HasOutput (Some asked) documents bytes
  some_output (value i input known) make = worked_out i input (make i.given i.read known.given known.read)
  some_output (stops cause h) make = stopped_out cause h

  -- what the documents give is there, then what the source gives, and then what the command makes of both
  command_out : There (DocumentsGive asked documents) Given →
      ((g : GivenTo asked) → Given g → There (SourceGives asked bytes g) (Read g)) →
      ((g : GivenTo asked) (r : ReadBy asked) → Given g → Read g r → Made (Makes asked g r)) →
      HasOutput (Some asked) documents bytes
  command_out first more make = some_output (input_there first more) make

-- ---- all words

pub output_there : OutputIsThere
output_there None documents bytes fits none there = record { text = usage_text; status = Usage; output = (refl, refl) }
output_there (Some (close asked)) documents bytes fits none there =
    command_out (close asked) documents bytes (IsOfWord asked.calculus) IsOver (CalculusOf-there documents asked.calculus there) (λ c known. SourceNetwork-there bytes c)
    (λ c net known over. closes c net known.lawful over)
output_there (Some (solve asked)) documents bytes fits none there =
    command_out (solve asked) documents bytes IsSoundSearch (λ (g : Searched) (net : Network). IsOver g.guided.calculus net)
    (SearchedOf-there documents asked.calculus asked.class asked.polygons fits.0 none there)
    (λ g known. PlacedNetwork-there bytes g.guided.calculus g.polygons known.none) (λ g net known over. solves asked g.guided net known.guide over)
output_there (Some (intervals asked)) documents bytes fits none there =
    command_out (intervals asked) documents bytes (IsGuideFor allen_calculus)
    (λ (class : List ℕ) (net : Network). IsOver allen_calculus net)
    (AllenClass-there documents asked.class fits there) (λ class guides. SourceNetwork-there bytes allen_calculus)
    (λ class net guides over. realises asked class net guides over)
output_there (Some (minimal asked)) documents bytes fits none there =
    command_out (minimal asked) documents bytes IsGuide (λ (g : Guided) (net : Network). IsOver g.calculus net)
    (CalculusAndClass-there documents asked.calculus asked.class fits there)
    (λ g known. SourceNetwork-there bytes g.calculus) (λ g net known over. labels_there asked g net known over)
output_there (Some (check asked)) documents bytes fits none there =
    command_out (check asked) documents bytes IsSoundClaim (λ (k : Claimed) (net : Network). IsOver k.calculus net)
    (ClaimedOf-there documents asked.calculus asked.certificate asked.polygons none there)
    (λ k known. PlacedNetwork-there bytes k.calculus k.polygons known.none) (λ k net known over. checks_there k.calculus net known.lawful over k.certificate known.scenario)
output_there (Some (trace asked)) documents bytes fits none there =
    command_out (trace asked) documents bytes IsSoundClaim (λ (k : Claimed) (net : Network). IsOver k.calculus net)
    (ClaimedOf-there documents asked.calculus asked.certificate asked.polygons none there)
    (λ k known. PlacedNetwork-there bytes k.calculus k.polygons known.none) (λ k net known over. traces_there k.calculus net known.lawful over k.certificate known.scenario)
output_there _ documents bytes fits none there = absurd none

-- ---- scenes

module _ (asked : SceneAsked) (documents : Documents) (bytes : List ℕ) where
  drawn_out : There (DocumentsGive (scene asked) documents) AreOfSomeFile →
      (HasOutput (Some (scene asked)) documents bytes → ⊥) → ⊥
  drawn_out (stops cause h) none =
      none (stopped_out (scene asked) documents bytes AreOfSomeFile (λ g r. ⊤) cause (inl h))
  drawn_out (value polygons h are) none =
      draws polygons (file-regions are.bytes polygons are.are) (λ made.
      none (worked_out (scene asked) documents bytes AreOfSomeFile (λ g r. ⊤) (record { given = polygons; read = tt })
      (record { value = polygons; first = h; second = record { value = tt; first = refl; second = refl } }) made))

pub scene_answered : SceneIsAnswered
scene_answered asked documents bytes there none =
    drawn_out asked documents bytes (DrawnOf-there documents asked.polygons there) none
