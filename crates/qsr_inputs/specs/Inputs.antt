-- The inputs of the commands, each as a part: the calculus, the class, the certificate and the polygons that words name, a pattern,
-- and the network of the source.
use Rattle.std.specs.Prelude.{◌≡◌, ◌⊎◌, ℕ, ◌<◌, ◌≤◌, List, [], ◌∷◌, length, codes, Option, Some, None, Result, Ok, Err}
use Rattle.std.specs.Prelude.{IsSomeAnd, MatchOption, if◌then◌else◌}
use Rattle.std.specs.Str.{bytes_eq}
use Rattle.calculus_table.specs.Calculus.{NamedAlgebra, IsNamedCalculus, EachBase, AreDistinct}
use Rattle.calculus_builtin.specs.Rcc8.{rcc8_calculus}
use Rattle.calculus_builtin.specs.Allen.{allen_calculus}
use Rattle.calculus_builtin.specs.Point.{point_calculus}
use Rattle.calculus_load.specs.TableFile.{table_of, IsLoadFaultOf}
use Rattle.calculus_load.specs.declared.fault.LoadFault.{LoadFault}
use Rattle.tract_classes.specs.Class.{IsClass, IsClosedClass, HasBase}
use Rattle.tract_classes.specs.ClassFile.{class_of}
use Rattle.tract_classes.specs.ClassFault.{IsClassFaultOf}
use Rattle.tract_classes.specs.BuiltIn.{h8, c8, q8, singles}
use Rattle.tract_classes.specs.declared.fault.ClassFault.{ClassFault}
use Rattle.network_words.specs.Network.{Network}
use Rattle.network_words.specs.Facts.{narrowed_by}
use Rattle.network_words.specs.declared.fact.Fact.{Fact}
use Rattle.network_file.specs.NetworkFile.{IsFileOf, read_network}
use Rattle.network_file.specs.declared.fault.FileFault.{FileFault}
use Rattle.cert_file.specs.Certificate.{Certificate}
use Rattle.cert_file.specs.Files as cert_files
use Rattle.cert_file.specs.declared.fault.CertFault.{CertFault}
use Rattle.de9im.specs.Patterns.{IsPattern, IsWrongAt}
use Rattle.de9im.specs.declared.patterns.Want.{Want}
use Rattle.geo_facts.specs.PolygonFile as polygon_files
use Rattle.geo_facts.specs.PolygonFile.{NamedRing, names_of}
use Rattle.geo_facts.specs.Facts.{AreFactsOf, AreNodesTo, IsFactFaultOf}
use Rattle.geo_facts.specs.declared.fault.GeoFault.{GeoFault}
use Rattle.geo_facts.specs.declared.fault.FactFault.{FactFault}
use Rattle.qsr_outside.specs.Documents.{Documents, document}
use Rattle.qsr_inputs.specs.Stops.{Cause, refuses, is_long}
use Rattle.qsr_inputs.specs.Parts.{Then}
use Rattle.qsr_inputs.specs.Numbers.{load_refusal, class_refusal, file_refusal, cert_refusal, geo_refusal}
use Rattle.qsr_inputs.specs.Numbers.{fact_refusal, pattern_refusal, no_polygon_refusal}
use Rattle.qsr_lex.specs.declared.TheConstants.{MAX_TEXT}
use Rattle.geo_facts.specs.declared.TheConstants.{MAX_POLYGONS}
use Rattle.qsr_inputs.specs.declared.statuses.Place.{Place}

-- ---- documents

-- the bytes, within the limit
abbrev pub BytesWithin : List ℕ → Result (List ℕ) Cause → Type 0
BytesWithin bytes (Ok text) = (length bytes ≤ MAX_TEXT) × (text ≡ bytes)
BytesWithin bytes (Err is_long) = MAX_TEXT < length bytes
BytesWithin bytes (Err (refuses number place)) = ⊥

-- the bytes of the document of a name, within the limit; a name that no document has leads to no value and no cause
abbrev pub DocumentOf : Documents → List ℕ → Result (List ℕ) Cause → Type 0
DocumentOf documents name result = IsSomeAnd (document documents name) (λ bytes. BytesWithin bytes result)

-- ---- calculi

-- a table file is refused with this number and place
pub record RefusesTable (bytes : List ℕ) (number : ℕ) (place : Place) : Type 0 where
  pub fault : LoadFault
  pub refused : IsLoadFaultOf (table_of bytes) fault
  pub numbered : load_refusal fault ≡ Some (number, place)

-- the calculus of a table file
abbrev pub TableOf : List ℕ → Result NamedAlgebra Cause → Type 0
TableOf bytes (Ok c) = (table_of bytes ≡ Ok c) × IsNamedCalculus c
TableOf bytes (Err (refuses number place)) = RefusesTable bytes number place
TableOf bytes (Err is_long) = ⊥

-- the calculus that is built in under this word
abbrev pub builtin_of : List ℕ → Option NamedAlgebra
builtin_of word =
    if bytes_eq word (codes "rcc8") then Some rcc8_calculus
    else (if bytes_eq word (codes "allen") then Some allen_calculus
    else (if bytes_eq word (codes "point") then Some point_calculus else None))

-- the calculus of a word: one that is built in, or that of the document of this name
abbrev pub CalculusOf : Documents → List ℕ → Result NamedAlgebra Cause → Type 0
CalculusOf documents word result =
    MatchOption (builtin_of word) (Then (DocumentOf documents word) TableOf result) (λ c. result ≡ Ok c)

-- ---- classes

-- a class file over a calculus is refused with this number and place
pub record RefusesClass (c : NamedAlgebra) (bytes : List ℕ) (number : ℕ) (place : Place) : Type 0 where
  pub fault : ClassFault
  pub refused : IsClassFaultOf c.algebra (class_of c.names bytes) fault
  pub numbered : class_refusal fault ≡ Some (number, place)

-- the class of a class file over a calculus
abbrev pub ClassFileOf : NamedAlgebra → List ℕ → Result (List ℕ) Cause → Type 0
ClassFileOf c bytes (Ok class) = (class_of c.names bytes ≡ Ok class) × IsClosedClass c.algebra class
ClassFileOf c bytes (Err (refuses number place)) = RefusesClass c bytes number place
ClassFileOf c bytes (Err is_long) = ⊥

-- the class that is built in under this word, for each number of base relations
abbrev pub builtin_class : List ℕ → Option (ℕ → List ℕ)
builtin_class word =
    if bytes_eq word (codes "h8") then Some (λ _. h8)
    else (if bytes_eq word (codes "c8") then Some (λ _. c8)
    else (if bytes_eq word (codes "q8") then Some (λ _. q8)
    else (if bytes_eq word (codes "none") then Some singles else None)))

-- the class of a word over a calculus: one that is built in, or that of the document of this name
abbrev pub ClassOf : Documents → List ℕ → NamedAlgebra → Result (List ℕ) Cause → Type 0
ClassOf documents word c result =
    MatchOption (builtin_class word) (Then (DocumentOf documents word) (ClassFileOf c) result)
    (λ class. result ≡ Ok (class c.algebra.size))

-- a calculus, and a class that guides a search over it
pub record Guided : Type 0 where
  pub calculus : NamedAlgebra
  pub class : List ℕ

abbrev pub IsGuided : NamedAlgebra → List ℕ → Result Guided Cause → Type 0
IsGuided c class result = result ≡ Ok (record { calculus = c; class = class })

-- the class can guide a search over the calculus: each base relation is a member by itself
pub record CanGuide (g : Guided) : Type 0 where
  pub is_class : IsClass g.class
  pub bases : EachBase g.calculus.algebra (HasBase g.class)

-- the calculus of a word, and then the class of another over it
abbrev pub CalculusAndClass : Documents → List ℕ → List ℕ → Result Guided Cause → Type 0
CalculusAndClass documents calculus class =
    Then (CalculusOf documents calculus) (λ c. Then (ClassOf documents class c) (IsGuided c))

-- ---- certificates

-- bytes that are no certificate are refused with this number and place
pub record RefusesCertificate (bytes : List ℕ) (number : ℕ) (place : Place) : Type 0 where
  pub fault : CertFault
  pub refused : cert_files.IsFaultOf bytes fault
  pub numbered : cert_refusal fault ≡ Some (number, place)

-- the certificate that bytes are
abbrev pub CertificateIn : List ℕ → Result Certificate Cause → Type 0
CertificateIn bytes (Ok certificate) = cert_files.IsFileOf bytes certificate
CertificateIn bytes (Err (refuses number place)) = RefusesCertificate bytes number place
CertificateIn bytes (Err is_long) = ⊥

-- the certificate of the document of this name
abbrev pub CertificateOf : Documents → List ℕ → Result Certificate Cause → Type 0
CertificateOf documents name = Then (DocumentOf documents name) CertificateIn

-- ---- polygons

-- a polygon file is refused with this number and place
pub record RefusesPolygons (bytes : List ℕ) (number : ℕ) (place : Place) : Type 0 where
  pub fault : GeoFault
  pub refused : polygon_files.IsFileFault bytes fault
  pub numbered : geo_refusal fault ≡ Some (number, place)

-- the polygons of a polygon file
abbrev pub PolygonsIn : List ℕ → Result (List NamedRing) Cause → Type 0
PolygonsIn bytes (Ok polygons) = polygon_files.IsFileOf bytes polygons
PolygonsIn bytes (Err (refuses number place)) = RefusesPolygons bytes number place
PolygonsIn bytes (Err is_long) = ⊥

-- the polygons of the document of this name
abbrev pub PolygonsOf : Documents → List ℕ → Result (List NamedRing) Cause → Type 0
PolygonsOf documents name = Then (DocumentOf documents name) PolygonsIn

-- the same where words name a document, and no polygons where they name none
abbrev pub PolygonsAsked : Documents → Option (List ℕ) → Result (List NamedRing) Cause → Type 0
PolygonsAsked documents None result = result ≡ Ok []
PolygonsAsked documents (Some name) result = PolygonsOf documents name result

-- polygons of a file: their names differ, and they aren't too many
pub record AreOfFile (polygons : List NamedRing) : Type 0 where
  pub distinct : AreDistinct (names_of polygons)
  pub few : length polygons ≤ MAX_POLYGONS

-- a text that is no pattern is refused with this number and place
pub record RefusesPattern (text : List ℕ) (number : ℕ) (place : Place) : Type 0 where
  pub byte : ℕ
  pub wrong : IsWrongAt text byte
  pub numbered : pattern_refusal byte ≡ (number, place)

-- what a text asks of the nine entries of a matrix
pub record IsPatternOf (text : List ℕ) (wants : List Want) : Type 0 where
  pub is_pattern : IsPattern text wants
  pub nine : length wants ≡ 9

-- the pattern of a word, where there is one
abbrev pub PatternAsked : Option (List ℕ) → Result (Option (List Want)) Cause → Type 0
PatternAsked None result = result ≡ Ok None
PatternAsked (Some text) (Ok None) = ⊥
PatternAsked (Some text) (Ok (Some wants)) = IsPatternOf text wants
PatternAsked (Some text) (Err (refuses number place)) = RefusesPattern text number place
PatternAsked (Some text) (Err is_long) = ⊥

-- ---- networks

-- a network file over a calculus is refused with this number and place
pub record RefusesNetwork (c : NamedAlgebra) (bytes : List ℕ) (number : ℕ) (place : Place) : Type 0 where
  pub fault : FileFault
  pub refused : read_network c bytes ≡ Err fault
  pub numbered : file_refusal fault ≡ Some (number, place)

-- the network of a network file over a calculus
abbrev pub NetworkOf : NamedAlgebra → List ℕ → Result Network Cause → Type 0
NetworkOf c bytes (Ok net) = IsFileOf c bytes net
NetworkOf c bytes (Err (refuses number place)) = RefusesNetwork c bytes number place
NetworkOf c bytes (Err is_long) = ⊥

-- the network of the source, over a calculus
abbrev pub SourceNetwork : List ℕ → NamedAlgebra → Result Network Cause → Type 0
SourceNetwork bytes c = Then (BytesWithin bytes) (NetworkOf c)

-- ---- networks with polygons

-- each polygon's name is that of a node, and the network is narrowed by the facts of the polygons
pub record IsPlaced (c : NamedAlgebra) (polygons : List NamedRing) (net placed : Network) : Type 0 where
  pub facts : List Fact
  pub distinct : AreDistinct net.names
  pub nodes : AreNodesTo net.names (names_of polygons) (length polygons)
  pub are_facts : AreFactsOf net.names polygons facts
  pub narrowed : placed ≡ record net { words = narrowed_by c.algebra net.nodes net.words facts }

-- a polygon's name that is no node's is refused with this number and place
pub record RefusesPlaces (polygons : List NamedRing) (net : Network) (number : ℕ) (place : Place) : Type 0 where
  pub fault : FactFault
  pub refused : IsFactFaultOf net.names (names_of polygons) fault
  pub numbered : fact_refusal fault ≡ Some (number, place)

-- a network with polygons
abbrev pub PlacedOn : NamedAlgebra → List NamedRing → Network → Result Network Cause → Type 0
PlacedOn c polygons net (Ok placed) = IsPlaced c polygons net placed
PlacedOn c polygons net (Err (refuses number place)) = RefusesPlaces polygons net number place
PlacedOn c polygons net (Err is_long) = ⊥

-- the network of the source, over a calculus, with polygons
abbrev pub PlacedNetwork : List ℕ → NamedAlgebra → List NamedRing → Result Network Cause → Type 0
PlacedNetwork bytes c polygons = Then (SourceNetwork bytes c) (PlacedOn c polygons)

-- polygons go with RCC-8 alone
abbrev pub IsOnRcc8 : NamedAlgebra → List NamedRing → Type 0
IsOnRcc8 c polygons = (polygons ≡ []) ⊎ (c ≡ rcc8_calculus)

-- ---- what each command is given

-- of `solve`: a calculus with a class that guides, and polygons
pub record Searched : Type 0 where
  pub guided : Guided
  pub polygons : List NamedRing

abbrev pub IsSearched : Guided → List NamedRing → Result Searched Cause → Type 0
IsSearched g polygons result = result ≡ Ok (record { guided = g; polygons = polygons })

abbrev pub SearchedOf : Documents → List ℕ → List ℕ → Option (List ℕ) → Result Searched Cause → Type 0
SearchedOf documents calculus class polygons =
    Then (CalculusAndClass documents calculus class) (λ g. Then (PolygonsAsked documents polygons) (IsSearched g))

-- of `check` and `trace`: a calculus, a certificate, and polygons
pub record Claimed : Type 0 where
  pub calculus : NamedAlgebra
  pub certificate : Certificate
  pub polygons : List NamedRing

abbrev pub IsClaimed : NamedAlgebra → Certificate → List NamedRing → Result Claimed Cause → Type 0
IsClaimed c certificate polygons result = result ≡ Ok (record { calculus = c; certificate = certificate; polygons = polygons })

abbrev pub ClaimedOf : Documents → List ℕ → List ℕ → Option (List ℕ) → Result Claimed Cause → Type 0
ClaimedOf documents calculus certificate polygons =
    Then (CalculusOf documents calculus) (λ c. Then (CertificateOf documents certificate) (λ x.
    Then (PolygonsAsked documents polygons) (IsClaimed c x)))

-- of `scene`: polygons, one at least
abbrev pub SomePolygons : List NamedRing → Result (List NamedRing) Cause → Type 0
SomePolygons [] result = result ≡ Err (refuses no_polygon_refusal.0 no_polygon_refusal.1)
SomePolygons (p ∷ ps) result = result ≡ Ok (p ∷ ps)

abbrev pub DrawnOf : Documents → List ℕ → Result (List NamedRing) Cause → Type 0
DrawnOf documents polygons = Then (PolygonsOf documents polygons) SomePolygons

-- of `relate`: polygons, and the pattern that is asked for
pub record Related : Type 0 where
  pub polygons : List NamedRing
  pub pattern : Option (List Want)

abbrev pub IsRelated : List NamedRing → Option (List Want) → Result Related Cause → Type 0
IsRelated polygons pattern result = result ≡ Ok (record { polygons = polygons; pattern = pattern })

abbrev pub RelatedOf : Documents → List ℕ → Option (List ℕ) → Result Related Cause → Type 0
RelatedOf documents polygons pattern =
    Then (PolygonsOf documents polygons) (λ ps. Then (PatternAsked pattern) (IsRelated ps))
