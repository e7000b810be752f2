-- What each command is given: by the documents that its words name, and by the source.
use Rattle.std.specs.Prelude.{◌≡◌, ℕ, List, Result, Ok}
use Rattle.calculus_table.specs.Calculus.{NamedAlgebra}
use Rattle.calculus_builtin.specs.Allen.{allen_calculus}
use Rattle.network_words.specs.Network.{Network}
use Rattle.geo_facts.specs.PolygonFile.{NamedRing}
use Rattle.qsr_outside.specs.Documents.{Documents}
use Rattle.qsr_words.specs.Asked.{Asked, close, solve, intervals, minimal, check, trace, relate, scene, serve, demo}
use Rattle.qsr_inputs.specs.Stops.{Cause}
use Rattle.qsr_inputs.specs.Parts.{Then}
use Rattle.qsr_inputs.specs.Inputs.{CalculusOf, ClassOf, Guided, CalculusAndClass, Searched, SearchedOf, Claimed}
use Rattle.qsr_inputs.specs.Inputs.{ClaimedOf, Related, RelatedOf, DrawnOf, SourceNetwork, PlacedNetwork}

-- what the documents give it
abbrev pub GivenTo : Asked → Type 0
GivenTo (close asked) = NamedAlgebra
GivenTo (solve asked) = Searched
GivenTo (intervals asked) = List ℕ
GivenTo (minimal asked) = Guided
GivenTo (check asked) = Claimed
GivenTo (trace asked) = Claimed
GivenTo (relate asked) = Related
GivenTo (scene asked) = List NamedRing
GivenTo (serve asked) = NamedAlgebra
GivenTo (demo asked) = Unit {0}

abbrev pub DocumentsGive : (asked : Asked) → Documents → Result (GivenTo asked) Cause → Type 0
DocumentsGive (close asked) documents = CalculusOf documents asked.calculus
DocumentsGive (solve asked) documents = SearchedOf documents asked.calculus asked.class asked.polygons
DocumentsGive (intervals asked) documents = ClassOf documents asked.class allen_calculus
DocumentsGive (minimal asked) documents = CalculusAndClass documents asked.calculus asked.class
DocumentsGive (check asked) documents = ClaimedOf documents asked.calculus asked.certificate asked.polygons
DocumentsGive (trace asked) documents = ClaimedOf documents asked.calculus asked.certificate asked.polygons
DocumentsGive (relate asked) documents = RelatedOf documents asked.polygons asked.pattern
DocumentsGive (scene asked) documents = DrawnOf documents asked.polygons
DocumentsGive (serve asked) documents = CalculusOf documents asked.calculus
DocumentsGive (demo asked) documents = λ result. result ≡ Ok tt

-- what the source gives it: a network or a script, or nothing where it isn't read
abbrev pub ReadBy : Asked → Type 0
ReadBy (close asked) = Network
ReadBy (solve asked) = Network
ReadBy (intervals asked) = Network
ReadBy (minimal asked) = Network
ReadBy (check asked) = Network
ReadBy (trace asked) = Network
ReadBy (relate asked) = Unit {0}
ReadBy (scene asked) = Unit {0}
ReadBy (serve asked) = List ℕ
ReadBy (demo asked) = Unit {0}

abbrev pub SourceGives : (asked : Asked) → List ℕ → GivenTo asked → Result (ReadBy asked) Cause → Type 0
SourceGives (close asked) bytes c = SourceNetwork bytes c
SourceGives (solve asked) bytes given = PlacedNetwork bytes given.guided.calculus given.polygons
SourceGives (intervals asked) bytes class = SourceNetwork bytes allen_calculus
SourceGives (minimal asked) bytes guided = SourceNetwork bytes guided.calculus
SourceGives (check asked) bytes given = PlacedNetwork bytes given.calculus given.polygons
SourceGives (trace asked) bytes given = PlacedNetwork bytes given.calculus given.polygons
SourceGives (relate asked) bytes given = λ result. result ≡ Ok tt
SourceGives (scene asked) bytes given = λ result. result ≡ Ok tt
SourceGives (serve asked) bytes c = λ result. result ≡ Ok bytes
SourceGives (demo asked) bytes given = λ result. result ≡ Ok tt

-- what the documents and the source give
pub record Input (asked : Asked) : Type 0 where
  pub given : GivenTo asked
  pub read : ReadBy asked

abbrev pub IsInput : (asked : Asked) → GivenTo asked → ReadBy asked → Result (Input asked) Cause → Type 0
IsInput asked given read result = result ≡ Ok (record { given = given; read = read })

-- the documents come before the source
abbrev pub InputOf : (asked : Asked) → Documents → List ℕ → Result (Input asked) Cause → Type 0
InputOf asked documents bytes = Then (DocumentsGive asked documents) (λ given. Then (SourceGives asked bytes given) (IsInput asked given))
