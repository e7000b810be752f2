-- What holds of all outputs.
use Rattle.std.specs.Prelude.{◌≡◌, ◌≢◌, ℕ, ⊤, false, List, All, replicate, codes, Option, None, Some, IsSomeAnd, Ok}
use Rattle.calculus_table.specs.Calculus.{NamedAlgebra}
use Rattle.calculus_table.specs.Composition.{full_of}
use Rattle.calculus_builtin.specs.Rcc8.{rcc8_calculus}
use Rattle.network_words.specs.Edge.{edge_count}
use Rattle.network_words.specs.Network.{Network}
use Rattle.qsr_outside.specs.Documents.{Documents, document}
use Rattle.qsr_words.specs.Asked.{Asked, SolveAsked, SceneAsked, close, solve, intervals, minimal, check}
use Rattle.qsr_words.specs.Asked.{trace, scene, asked_by}
use Rattle.qsr_words.specs.Requests.{FitsCalculus}
use Rattle.qsr_inputs.specs.Inputs.{SourceNetwork}
use Rattle.qsr_inputs.specs.Told.{named_documents, is_served}
use Rattle.qsr_inputs.specs.declared.statuses.Status.{Status}
use Rattle.qsr_inputs.specs.declared.statuses.Status.TheVariants.{No}
use Rattle.qsr_commands.specs.Output.{Output}

-- one text and one status at most, but for scripts, where peeks may show different sets
abbrev pub OutputIsOne : Type 0
OutputIsOne = (asked : Option Asked) (documents : Documents) (bytes t u : List ℕ) (s r : Status) →
    is_served asked ≡ false → Output asked documents bytes t s → Output asked documents bytes u r → (t ≡ u) × (s ≡ r)

-- the documents that are named are there
abbrev pub HasNamedDocuments : Option Asked → Documents → Type 0
HasNamedDocuments asked documents = All (λ name. IsSomeAnd (document documents name) (λ _. ⊤)) (named_documents asked)

-- no polygons are asked for, and neither a script is answered nor a demonstration made
abbrev pub HasNoPolygons : Option Asked → Type 0
HasNoPolygons None = ⊤
HasNoPolygons (Some (close asked)) = ⊤
HasNoPolygons (Some (solve asked)) = asked.polygons ≡ None
HasNoPolygons (Some (intervals asked)) = ⊤
HasNoPolygons (Some (minimal asked)) = ⊤
HasNoPolygons (Some (check asked)) = asked.polygons ≡ None
HasNoPolygons (Some (trace asked)) = asked.polygons ≡ None
HasNoPolygons asked = ⊥

-- a text and a status that are permitted
pub record HasOutput (asked : Option Asked) (documents : Documents) (bytes : List ℕ) : Type 0 where
  pub text : List ℕ
  pub status : Status
  pub output : Output asked documents bytes text status

-- and one text and one status at least, where the named documents are there, class and polygons fit, no polygons are
-- asked for, and no script is answered
abbrev pub OutputIsThere : Type 0
OutputIsThere = (asked : Option Asked) (documents : Documents) (bytes : List ℕ) →
    FitsCalculus asked → HasNoPolygons asked → HasNamedDocuments asked documents → HasOutput asked documents bytes

-- which they do in all that words ask for
abbrev pub WordsFit : Type 0
WordsFit = (words : List (List ℕ)) → FitsCalculus (asked_by words)

-- where polygons are drawn it can't be that nothing is permitted, if the document that is named is there
abbrev pub SceneIsAnswered : Type 0
SceneIsAnswered = (asked : SceneAsked) (documents : Documents) (bytes : List ℕ) →
    HasNamedDocuments (Some (scene asked)) documents → (HasOutput (Some (scene asked)) documents bytes → ⊥) → ⊥

-- the network of the source states nothing: each of its edges has all base relations
abbrev pub StatesNothing : NamedAlgebra → List ℕ → Type 0
StatesNothing c bytes = (net : Network) → SourceNetwork bytes c (Ok net) →
    net.words ≡ replicate (edge_count net.nodes) (full_of c.algebra)

-- facts of polygons alone never conflict: with polygons, a network that states nothing is never answered no
abbrev pub PolygonsAgree : Type 0
PolygonsAgree = (asked : SolveAsked) (documents : Documents) (bytes text : List ℕ) (status : Status) →
    asked.calculus ≡ codes "rcc8" → StatesNothing rcc8_calculus bytes →
    Output (Some (solve asked)) documents bytes text status → status ≢ No
