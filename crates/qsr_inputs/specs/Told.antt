-- Of what a run's output is a function: only what its words ask for has to be told.
use Rattle.std.specs.Prelude.{◌≡◌, ℕ, ⊤, List, [], ◌∷◌, ◌++◌, All, Bool, true, false, Option, None, Some, Err, is_some, IfSome, MatchBool, if◌then◌else◌}
use Rattle.std.specs.FinMap as map
use Rattle.qsr_outside.specs.Documents.{Documents, HasDocument}
use Rattle.qsr_words.specs.Asked.{Asked, close, solve, intervals, minimal, check, trace, relate, scene, serve, demo}
use Rattle.qsr_inputs.specs.Stops.{Cause}
use Rattle.qsr_inputs.specs.Inputs.{builtin_of, builtin_class}
use Rattle.qsr_inputs.specs.Given.{DocumentsGive}

-- the document that a word for a calculus names, where no calculus is built in under it; and one for a class
abbrev pub named_by_calculus : List ℕ → List (List ℕ)
named_by_calculus word = if is_some (builtin_of word) then [] else word ∷ []

abbrev pub named_by_class : List ℕ → List (List ℕ)
named_by_class word = if is_some (builtin_class word) then [] else word ∷ []

-- that of a word for polygons, where there is one
abbrev pub named_by_polygons : Option (List ℕ) → List (List ℕ)
named_by_polygons None = []
named_by_polygons (Some word) = word ∷ []

-- the documents that a command names, in the order in which they are opened
abbrev pub documents_of : Asked → List (List ℕ)
documents_of (close asked) = named_by_calculus asked.calculus
documents_of (solve asked) = (named_by_calculus asked.calculus ++ named_by_class asked.class) ++ named_by_polygons asked.polygons
documents_of (intervals asked) = named_by_class asked.class
documents_of (minimal asked) = named_by_calculus asked.calculus ++ named_by_class asked.class
documents_of (check asked) = named_by_calculus asked.calculus ++ (asked.certificate ∷ []) ++ named_by_polygons asked.polygons
documents_of (trace asked) = named_by_calculus asked.calculus ++ (asked.certificate ∷ []) ++ named_by_polygons asked.polygons
documents_of (relate asked) = asked.polygons ∷ []
documents_of (scene asked) = asked.polygons ∷ []
documents_of (serve asked) = named_by_calculus asked.calculus
documents_of (demo asked) = []

abbrev pub named_documents : Option Asked → List (List ℕ)
named_documents None = []
named_documents (Some asked) = documents_of asked

-- the documents, where one is named; else none is asked for
abbrev pub told_where : List (List ℕ) → Option Documents → Option Documents
told_where [] told = Some map.empty
told_where (name ∷ names) told = told

abbrev pub told_documents : Option Asked → Option Documents → Option Documents
told_documents asked told = told_where (named_documents asked) told

-- the command reads the source
abbrev pub reads_source : Asked → Bool
reads_source (close asked) = true
reads_source (solve asked) = true
reads_source (intervals asked) = true
reads_source (minimal asked) = true
reads_source (check asked) = true
reads_source (trace asked) = true
reads_source (relate asked) = false
reads_source (scene asked) = false
reads_source (serve asked) = true
reads_source (demo asked) = false

-- the command answers a script batch by batch, as it reads it
abbrev pub is_served : Option Asked → Bool
is_served (Some (serve asked)) = true
is_served asked = false

-- the bytes of the source, where the command reads it
abbrev pub told_source : Option Asked → Option (List ℕ) → Option (List ℕ)
told_source None told = Some []
told_source (Some asked) told = if reads_source asked then told else Some []

-- the fact of documents and bytes holds where both are told, as far as they are asked for
abbrev pub WhereTold : Option Asked → Option Documents → Option (List ℕ) → (Documents → List ℕ → Type 0) → Type 0
WhereTold asked documents left Fact =
    IfSome (told_documents asked documents) (λ shelf. IfSome (told_source asked left) (λ bytes. Fact shelf bytes))

-- the documents of these names are there
abbrev pub AreThere : List (List ℕ) → Option Documents → Type 0
AreThere names told = All (λ name. HasDocument told name (λ _. ⊤)) names

-- where the documents that the words name are there, no absent name was opened
abbrev pub AbsentStays : Option Asked → Option Documents → ℕ → ℕ → Type 0
AbsentStays asked told old new = AreThere (named_documents asked) told → new ≡ old

-- the documents stop the command for this cause, before its source is read
abbrev pub StopsBefore : Asked → Documents → Cause → Type 0
StopsBefore asked documents cause = DocumentsGive asked documents (Err cause)

-- where the command reads no source, or is stopped before, the source is as it was
abbrev pub SourceWaits : Option Asked → Option Documents → Type 0 → Type 0
SourceWaits None told IsAsBefore = IsAsBefore
SourceWaits (Some asked) told IsAsBefore =
    MatchBool (reads_source asked)
    (IfSome (told_documents (Some asked) told) (λ documents. (cause : Cause) → StopsBefore asked documents cause → IsAsBefore)) IsAsBefore

-- what holds of the source after a command that read it
abbrev pub AfterSource : Option Asked → Type 0 → Type 0
AfterSource None Fact = ⊤
AfterSource (Some asked) Fact = reads_source asked ≡ true → Fact
