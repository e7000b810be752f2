-- Each input has a value or a cause, where the documents that are named are there, and no polygons are asked for.
use Rattle.std.proofs.Common.{◌≡◌, ◌≢◌, ℕ, Bool, true, false, not, ◌||◌, cond, List, [], ◌∷◌, ◌++◌, length, Option, None, Some, Result, Ok, Err, inl, inr, refl, subst, sym, arith}
use Rattle.std.specs.Prelude.{⊤, All, IsSomeAnd, MatchOption, codes, is_some}
use Rattle.std.specs.Str.{bytes_eq}
use Rattle.std.proofs.lemmas.Bool.{cases_lt, false≢true}
use Rattle.std.proofs.lemmas.List.Elements.{All-head}
use Rattle.calculus_table.specs.Calculus.{NamedAlgebra, IsCalculus, IsNamedCalculus, EachBase, AreDistinct}
use Rattle.calculus_table.specs.declared.calculus.TableFault.TheVariants as table
use Rattle.calculus_builtin.specs.Rcc8.{rcc8_calculus}
use Rattle.calculus_builtin.specs.Allen.{allen_calculus}
use Rattle.calculus_builtin.specs.Point.{point_calculus}
use Rattle.calculus_builtin.proofs.Rcc8Laws.{rcc8_lawful}
use Rattle.calculus_builtin.proofs.AllenLaws.{allen_lawful}
use Rattle.calculus_builtin.proofs.PointLaws.{point_lawful}
use Rattle.calculus_load.specs.Laws as load_laws
use Rattle.calculus_load.specs.declared.fault.LoadFault.{LoadFault}
use Rattle.calculus_load.specs.declared.fault.LoadFault.TheVariants as load
use Rattle.calculus_load.proofs.Answered.{load-answered}
use Rattle.tract_classes.specs.Class.{IsClass, HasBase}
use Rattle.tract_classes.specs.BuiltIn.{h8, c8, q8, singles}
use Rattle.tract_classes.specs.Laws as class_laws
use Rattle.tract_classes.specs.declared.fault.ClassFault.{ClassFault}
use Rattle.tract_classes.specs.declared.fault.ClassFault.TheVariants as class
use Rattle.tract_classes.proofs.BuiltInClasses.{h8-class, c8-class, q8-class, have_bases, singles-class, singles_bases}
use Rattle.tract_classes.proofs.ClassAnswers.{class_file_answer, class_of_text}
use Rattle.network_words.specs.Network.{Network, IsNetwork}
use Rattle.network_words.proofs.NetsOfFacts.{IsNetwork-from_facts}
use Rattle.network_file.specs.NetworkFile.{IsFileOf}
use Rattle.network_file.specs.Laws as file_laws
use Rattle.network_file.specs.declared.fault.FileFault.{FileFault}
use Rattle.network_file.specs.declared.fault.FileFault.TheVariants as file
use Rattle.network_file.proofs.Answered.{file-answered}
use Rattle.network_file.proofs.DistinctNames.{file-names_distinct}
use Rattle.cert_file.specs.Certificate.{Certificate}
use Rattle.cert_file.specs.Laws as cert_laws
use Rattle.cert_file.specs.Written.{IsScenarioFor}
use Rattle.cert_file.specs.declared.fault.CertFault.{CertFault}
use Rattle.cert_file.specs.declared.fault.CertFault.TheVariants as cert
use Rattle.cert_file.proofs.Answered as cert_answers
use Rattle.cert_file.proofs.ReadForms.{IsWritable-read}
use Rattle.geo_facts.specs.PolygonFile as polygon_files
use Rattle.geo_facts.specs.PolygonFile.{NamedRing}
use Rattle.geo_facts.specs.declared.fault.GeoFault.{GeoFault}
use Rattle.geo_facts.specs.declared.fault.GeoFault.TheVariants as geo
use Rattle.geo_facts.proofs.SomeAnswer.{file-answer}
use Rattle.poly_exact.specs.declared.rings.RingFault.{RingFault}
use Rattle.poly_exact.specs.declared.rings.RingFault.TheVariants as ring
use Rattle.line_files.specs.FileText.{FileText, file_text}
use Rattle.line_files.specs.declared.lines.TextEnd.{TextEnd}
use Rattle.line_files.specs.declared.lines.TextEnd.TheVariants.{Whole, BadLine}
use Rattle.qsr_lex.specs.Lexemes.{Lexeme}
use Rattle.qsr_lex.specs.TokenLines.{TokenLine}
use Rattle.geo_facts.proofs.OneFacts.{AreFactsOf-none}
use Rattle.qsr_lex.specs.declared.TheConstants.{MAX_TEXT}
use Rattle.qsr_outside.specs.Documents.{Documents, document}
use Rattle.qsr_words.specs.Asked.{class_fits, is_rcc8_class}
use Rattle.qsr_inputs.specs.Stops.{Cause, refuses, is_long}
use Rattle.qsr_inputs.specs.Parts.{Then}
use Rattle.qsr_inputs.specs.Numbers.{load_refusal, class_refusal, file_refusal, cert_refusal, geo_refusal}
use Rattle.qsr_inputs.specs.Numbers.{ring_refusal, no_polygon_refusal}
use Rattle.qsr_inputs.specs.Inputs.{PolygonsIn, PolygonsOf, SomePolygons, DrawnOf}
use Rattle.qsr_inputs.specs.Inputs.{BytesWithin, DocumentOf, TableOf, CalculusOf, ClassFileOf, ClassOf, Guided, IsGuided, CanGuide, CalculusAndClass, CertificateIn, CertificateOf, PolygonsAsked, NetworkOf, SourceNetwork, PlacedOn, PlacedNetwork, Searched, IsSearched, SearchedOf, Claimed, IsClaimed, ClaimedOf}
use Rattle.qsr_inputs.specs.Told.{named_by_calculus, named_by_class, named_by_polygons}
use Rattle.qsr_inputs.specs.declared.statuses.Place.{Place}
use Rattle.qsr_inputs.proofs.Naming.{all_first, all_second}

-- a part has a value, of which something is known, or a cause
pub data There {A : Type 0} (P : Result A Cause → Type 0) (Known : A → Type 0) : Type 0 where
  value : (a : A) → P (Ok a) → Known a → There P Known
  stops : (c : Cause) → P (Err c) → There P Known

-- one part after another
second-there : {A B : Type 0} (P : Result A Cause → Type 0) (Q : A → Result B Cause → Type 0) (Known : B → Type 0) (a : A) → P (Ok a) → There (Q a) Known → There (Then P Q) Known
second-there P Q Known a p (value b q known) = value b (record { value = a; first = p; second = q }) known
second-there P Q Known a p (stops c q) = stops c (inr (record { value = a; first = p; second = q }))

pub Then-there : {A B : Type 0} (P : Result A Cause → Type 0) (Q : A → Result B Cause → Type 0) (First : A → Type 0) (Second : B → Type 0) →
    There P First → ((a : A) → First a → There (Q a) Second) → There (Then P Q) Second
Then-there P Q First Second (value a p known) more = second-there P Q Second a p (more a known)
Then-there P Q First Second (stops c p) more = stops c (inl p)

-- less is known of a value
known-weaker : {A : Type 0} (P : Result A Cause → Type 0) (First Second : A → Type 0) → ((a : A) → First a → Second a) → There P First → There P Second
known-weaker P First Second weaker (value a p known) = value a p (weaker a known)
known-weaker P First Second weaker (stops c p) = stops c p

-- ---- bytes and documents

BytesWithin-there : (bytes : List ℕ) → There (BytesWithin bytes) (λ _. ⊤)
BytesWithin-there bytes = elim (cases_lt MAX_TEXT (length bytes)) [ inl long ↦ stops is_long long | inr within ↦ value bytes (within, refl) tt ]

bytes-there : (o : Option (List ℕ)) → IsSomeAnd o (λ _. ⊤) → There (λ result. IsSomeAnd o (λ bytes. BytesWithin bytes result)) (λ _. ⊤)
bytes-there None h = absurd h
bytes-there (Some bytes) h = BytesWithin-there bytes

-- ---- calculi

-- a fault of a text has a number and a place
record HasNumber (refusal : Option (ℕ × Place)) : Type 0 where
  number : ℕ
  place : Place
  is : refusal ≡ Some (number, place)

numbered : (number : ℕ) (place : Place) → HasNumber (Some (number, place))
numbered number place = record { number = number; place = place; is = refl }

load-numbered : (f : LoadFault) → load_laws.IsOfText f → HasNumber (load_refusal f)
load-numbered load.Memory h = absurd h
load-numbered (load.Table table.Memory) h = absurd h
load-numbered (load.Table (table.NameTwice at)) h = numbered _ _
load-numbered (load.Table (table.NotInvolution r)) h = numbered _ _
load-numbered (load.Table (table.IdentityLaw r)) h = numbered _ _
load-numbered (load.Table (table.ConverseLaw r s t)) h = numbered _ _
load-numbered (load.Table (table.CycleLaw r s t)) h = numbered _ _
load-numbered (load.Syntax line) h = numbered _ _
load-numbered (load.Unknown line) h = numbered _ _
load-numbered (load.Missing r s) h = numbered _ _
load-numbered (load.Twice line) h = numbered _ _
load-numbered (load.TooMany line) h = numbered _ _

refused-table : (bytes : List ℕ) (f : load_laws.TextHasFault bytes) → HasNumber (load_refusal f.fault) → There (TableOf bytes) IsNamedCalculus
refused-table bytes f n = stops (refuses n.number n.place) (record { fault = f.fault; refused = f.is; numbered = n.is })

TableOf-there : (bytes : List ℕ) → There (TableOf bytes) IsNamedCalculus
TableOf-there bytes = elim (load-answered bytes) [
  | inl c ↦ value c.calculus (c.table, c.lawful) c.lawful
  | inr f ↦ refused-table bytes f (load-numbered f.fault f.of_text)
]

-- a lawful calculus, which is RCC-8 where its word is `rcc8`
pub record IsOfWord (word : List ℕ) (c : NamedAlgebra) : Type 0 where
  pub lawful : IsNamedCalculus c
  pub rcc8 : bytes_eq word (codes "rcc8") ≡ true → c ≡ rcc8_calculus

-- the documents of these names are there
abbrev pub HasDocumentIn : Documents → List ℕ → Type 0
HasDocumentIn documents name = IsSomeAnd (document documents name) (λ _. ⊤)

abbrev pub AreThereIn : Documents → List (List ℕ) → Type 0
AreThereIn documents names = All (HasDocumentIn documents) names

module _ (documents : Documents) (word : List ℕ) where
  -- the calculus that is chosen by these tests of its word
  abbrev chosen : (a b c : Bool) → Option NamedAlgebra
  chosen a b c = cond a (Some rcc8_calculus) (cond b (Some allen_calculus) (cond c (Some point_calculus) None))

  record IsChosen (a : Bool) (c : NamedAlgebra) : Type 0 where
    lawful : IsNamedCalculus c
    rcc8 : a ≡ true → c ≡ rcc8_calculus

  calculus-there : (a b c : Bool) → AreThereIn documents (cond (is_some (chosen a b c)) [] (word ∷ [])) →
      There (λ result. MatchOption (chosen a b c) (Then (DocumentOf documents word) TableOf result) (λ c. result ≡ Ok c)) (IsChosen a)
  calculus-there true b c there = value rcc8_calculus refl (record { lawful = rcc8_lawful; rcc8 = λ _. refl })
  calculus-there false true c there = value allen_calculus refl (record { lawful = allen_lawful; rcc8 = λ e. absurd (false≢true e) })
  calculus-there false false true there = value point_calculus refl (record { lawful = point_lawful; rcc8 = λ e. absurd (false≢true e) })
  calculus-there false false false there =
      Then-there (DocumentOf documents word) TableOf (λ _. ⊤) (IsChosen false) (bytes-there (document documents word) (All-head (HasDocumentIn documents) word [] there)) (λ bytes _.
      known-weaker (TableOf bytes) IsNamedCalculus (IsChosen false) (λ c lawful. record { lawful = lawful; rcc8 = λ e. absurd (false≢true e) }) (TableOf-there bytes))

  pub CalculusOf-there : AreThereIn documents (named_by_calculus word) → There (CalculusOf documents word) (IsOfWord word)
  CalculusOf-there there =
      known-weaker (CalculusOf documents word) (IsChosen (bytes_eq word (codes "rcc8"))) (IsOfWord word) (λ c k. record { lawful = k.lawful; rcc8 = k.rcc8 })
      (calculus-there (bytes_eq word (codes "rcc8")) (bytes_eq word (codes "allen")) (bytes_eq word (codes "point")) there)

-- ---- classes

class-numbered : (f : ClassFault) → f ≢ class.Memory → HasNumber (class_refusal f)
class-numbered class.Memory h = absurd (h refl)
class-numbered (class.Syntax line) h = numbered _ _
class-numbered (class.LacksBase r) h = numbered _ _
class-numbered (class.NotClosed a b op) h = numbered _ _
class-numbered (class.TooMany line) h = numbered _ _

module _ (c : NamedAlgebra) where
  abbrev pub IsGuideFor : List ℕ → Type 0
  IsGuideFor class = CanGuide (record { calculus = c; class = class })

  rcc8_guides : (class : List ℕ) → IsClass class → EachBase rcc8_calculus.algebra (HasBase class) → c ≡ rcc8_calculus → IsGuideFor class
  rcc8_guides class is bases e = record { is_class = is; bases = subst (λ k. EachBase k.algebra (HasBase class)) (sym e) bases }

  pub h8_guides : c ≡ rcc8_calculus → IsGuideFor h8
  h8_guides e = rcc8_guides h8 h8-class have_bases.h8_bases e

  pub c8_guides : c ≡ rcc8_calculus → IsGuideFor c8
  c8_guides e = rcc8_guides c8 c8-class have_bases.c8_bases e

  pub q8_guides : c ≡ rcc8_calculus → IsGuideFor q8
  q8_guides e = rcc8_guides q8 q8-class have_bases.q8_bases e

  pub none_guides : IsCalculus c.algebra → IsGuideFor (singles c.algebra.size)
  none_guides lawful = record { is_class = singles-class c.algebra.size lawful.table.bounded; bases = λ r h. singles_bases c.algebra.size r h }

module _ (c : NamedAlgebra) (lawful : IsNamedCalculus c) where
  refused-class : (bytes : List ℕ) (f : class_laws.TextHasFault c bytes) → HasNumber (class_refusal f.fault) → There (ClassFileOf c bytes) (IsGuideFor c)
  refused-class bytes f n = stops (refuses n.number n.place) (record { fault = f.fault; refused = f.is; numbered = n.is })

  ClassFileOf-there : (bytes : List ℕ) → There (ClassFileOf c bytes) (IsGuideFor c)
  ClassFileOf-there bytes = elim (class_file_answer c bytes lawful) [
    | inl k ↦ value k.class (k.is_of_text, k.closed) (record { is_class = class_of_text c.names bytes k.class k.is_of_text; bases = k.closed.bases })
    | inr f ↦ refused-class bytes f (class-numbered f.fault f.of_text)
  ]

  module _ (documents : Documents) (word : List ℕ) where
    -- the class that is chosen by these tests of its word
    abbrev class_chosen : (a b d e : Bool) → Option (ℕ → List ℕ)
    class_chosen a b d e = cond a (Some (λ _. h8)) (cond b (Some (λ _. c8)) (cond d (Some (λ _. q8)) (cond e (Some singles) None)))

    class-there : (a b d e : Bool) → ((a || b || d) ≡ true → c ≡ rcc8_calculus) → AreThereIn documents (cond (is_some (class_chosen a b d e)) [] (word ∷ [])) →
        There (λ result. MatchOption (class_chosen a b d e) (Then (DocumentOf documents word) (ClassFileOf c) result) (λ k. result ≡ Ok (k c.algebra.size))) (IsGuideFor c)
    class-there true b d e fits there = value h8 refl (h8_guides c (fits refl))
    class-there false true d e fits there = value c8 refl (c8_guides c (fits refl))
    class-there false false true e fits there = value q8 refl (q8_guides c (fits refl))
    class-there false false false true fits there = value (singles c.algebra.size) refl (none_guides c lawful.lawful)
    class-there false false false false fits there =
        Then-there (DocumentOf documents word) (ClassFileOf c) (λ _. ⊤) (IsGuideFor c) (bytes-there (document documents word) (All-head (HasDocumentIn documents) word [] there)) (λ bytes _. ClassFileOf-there bytes)

    ClassOf-there : (is_rcc8_class word ≡ true → c ≡ rcc8_calculus) → AreThereIn documents (named_by_class word) → There (ClassOf documents word c) (IsGuideFor c)
    ClassOf-there fits there = class-there (bytes_eq word (codes "h8")) (bytes_eq word (codes "c8")) (bytes_eq word (codes "q8")) (bytes_eq word (codes "none")) fits there

-- a class of RCC-8 that fits a calculus goes with RCC-8
pub fits_rcc8 : (x y : Bool) → (x || not y) ≡ true → y ≡ true → x ≡ true
fits_rcc8 true y h e = refl
fits_rcc8 false true h e = h
fits_rcc8 false false h e = absurd (false≢true e)

-- and none fits Allen's calculus
pub no_rcc8_class : (class : List ℕ) → class_fits (codes "allen") class ≡ true → is_rcc8_class class ≡ true → ⊥
no_rcc8_class class fits e = false≢true (fits_rcc8 false (is_rcc8_class class) fits e)

-- the class of a word over Allen's calculus
pub AllenClass-there : (documents : Documents) (word : List ℕ) → class_fits (codes "allen") word ≡ true →
    AreThereIn documents (named_by_class word) →
    There (ClassOf documents word allen_calculus) (IsGuideFor allen_calculus)
AllenClass-there documents word fits there =
    ClassOf-there allen_calculus allen_lawful documents word (λ e. absurd (no_rcc8_class word fits e)) there

-- a lawful calculus, and a class that can guide a search over it
pub record IsGuide (g : Guided) : Type 0 where
  pub lawful : IsNamedCalculus g.calculus
  pub guides : CanGuide g

pub CalculusAndClass-there : (documents : Documents) (calculus class : List ℕ) → class_fits calculus class ≡ true →
    AreThereIn documents (named_by_calculus calculus ++ named_by_class class) → There (CalculusAndClass documents calculus class) IsGuide
CalculusAndClass-there documents calculus class fits there =
    Then-there (CalculusOf documents calculus) (λ c. Then (ClassOf documents class c) (IsGuided c)) (IsOfWord calculus) IsGuide
    (CalculusOf-there documents calculus (all_first (HasDocumentIn documents) (named_by_calculus calculus) (named_by_class class) there)) (λ c known.
    Then-there (ClassOf documents class c) (IsGuided c) (IsGuideFor c) IsGuide
    (ClassOf-there c known.lawful documents class (λ e. known.rcc8 (fits_rcc8 (bytes_eq calculus (codes "rcc8")) (is_rcc8_class class) fits e))
    (all_second (HasDocumentIn documents) (named_by_calculus calculus) (named_by_class class) there)) (λ k guides.
    value (record { calculus = c; class = k }) refl (record { lawful = known.lawful; guides = guides })))

-- ---- polygons

ring-numbered : (line : ℕ) (f : RingFault) → f ≢ ring.Memory → HasNumber (ring_refusal line f)
ring-numbered line ring.Few h = numbered _ _
ring-numbered line (ring.Coordinate k) h = numbered _ _
ring-numbered line (ring.NotSimple e f) h = numbered _ _
ring-numbered line ring.ManyVertices h = numbered _ _
ring-numbered line ring.Memory h = absurd (h refl)

line-numbered : (before : List NamedRing) (line : ℕ) (tokens : List Lexeme) (f : GeoFault) →
    polygon_files.IsLineFault before line tokens f → HasNumber (geo_refusal f)
line-numbered before line tokens (geo.Ring at f) h = ring-numbered at f h.1.of_points
line-numbered before line tokens (geo.Syntax at) h = numbered _ _
line-numbered before line tokens (geo.Hole at) h = numbered _ _
line-numbered before line tokens (geo.ManyPolygons at) h = numbered _ _
line-numbered before line tokens (geo.NameTwice at) h = numbered _ _
line-numbered before line tokens (geo.Open at) h = numbered _ _
line-numbered before line tokens geo.Memory h = absurd h

end-numbered : (end : TextEnd) (f : GeoFault) → polygon_files.IsEndFault end f → HasNumber (geo_refusal f)
end-numbered (BadLine line) f h = subst (λ x. HasNumber (geo_refusal x)) (sym h) (numbered _ _)
end-numbered (Whole lines) f h = absurd h

lines-numbered : (end : TextEnd) (ls : List TokenLine) (f : GeoFault) (before : List NamedRing) →
    polygon_files.HaveFault end ls f before → HasNumber (geo_refusal f)
lines-numbered end [] f before h = end-numbered end f h
lines-numbered end (l ∷ ls) f before h = elim h [
  | inl own ↦ line-numbered before l.number l.tokens f own
  | inr more ↦ lines-numbered end ls f (before ++ more.polygon ∷ []) more.rest
]

-- polygons of a file
pub record AreOfSomeFile (polygons : List NamedRing) : Type 0 where
  pub bytes : List ℕ
  pub are : polygon_files.IsFileOf bytes polygons

PolygonsIn-there : (bytes : List ℕ) → There (PolygonsIn bytes) AreOfSomeFile
PolygonsIn-there bytes = elim (file-answer bytes) [
  | inl f ↦ value f.polygons f.is (record { bytes = bytes; are = f.is })
  | inr f ↦ (let text : FileText = file_text bytes in
      let n = lines-numbered text.end text.lines f.fault [] f.is in
      stops (refuses n.number n.place) (record { fault = f.fault; refused = f.is; numbered = n.is }))
]

some-there : (polygons : List NamedRing) → AreOfSomeFile polygons → There (SomePolygons polygons) AreOfSomeFile
some-there [] are = stops (refuses no_polygon_refusal.0 no_polygon_refusal.1) refl
some-there (p ∷ ps) are = value (p ∷ ps) refl are

pub DrawnOf-there : (documents : Documents) (name : List ℕ) → AreThereIn documents (name ∷ []) →
    There (DrawnOf documents name) AreOfSomeFile
DrawnOf-there documents name there =
    Then-there (PolygonsOf documents name) SomePolygons AreOfSomeFile AreOfSomeFile
    (Then-there (DocumentOf documents name) PolygonsIn (λ _. ⊤) AreOfSomeFile
    (bytes-there (document documents name) (All-head (HasDocumentIn documents) name [] there))
    (λ bytes _. PolygonsIn-there bytes)) some-there

-- ---- certificates

-- a scenario is there exactly where it is claimed
abbrev HasClaimed : Certificate → Type 0
HasClaimed certificate = IsScenarioFor certificate.claim certificate.scenario

cert-numbered : (f : CertFault) → cert_laws.IsOfBytes f → HasNumber (cert_refusal f)
cert-numbered cert.Memory h = absurd h
cert-numbered cert.NotJson h = numbered _ _
cert-numbered (cert.Field key index) h = numbered _ _

refused-certificate : (bytes : List ℕ) (f : cert_laws.HasFault bytes) → HasNumber (cert_refusal f.fault) → There (CertificateIn bytes) HasClaimed
refused-certificate bytes f n = stops (refuses n.number n.place) (record { fault = f.fault; refused = f.is; numbered = n.is })

CertificateIn-there : (bytes : List ℕ) → There (CertificateIn bytes) HasClaimed
CertificateIn-there bytes = elim (cert_answers.file-answered bytes) [
  | inl c ↦ value c.certificate c.file (IsWritable-read c.file.value c.certificate c.file.is_made).forms.scenario
  | inr f ↦ refused-certificate bytes f (cert-numbered f.fault f.of_bytes)
]

CertificateOf-there : (documents : Documents) (name : List ℕ) → HasDocumentIn documents name → There (CertificateOf documents name) HasClaimed
CertificateOf-there documents name there =
    Then-there (DocumentOf documents name) CertificateIn (λ _. ⊤) HasClaimed (bytes-there (document documents name) there) (λ bytes _. CertificateIn-there bytes)

-- ---- no polygons

abbrev AreNone : List NamedRing → Type 0
AreNone polygons = polygons ≡ []

PolygonsAsked-none : (documents : Documents) (asked : Option (List ℕ)) → asked ≡ None → There (PolygonsAsked documents asked) AreNone
PolygonsAsked-none documents asked none = value [] (subst (λ o. PolygonsAsked documents o (Ok [])) (sym none) refl) refl

-- ---- networks

file-numbered : (f : FileFault) → file_laws.IsOfText f → HasNumber (file_refusal f)
file-numbered file.Memory h = absurd h
file-numbered (file.Nodes line) h = numbered _ _
file-numbered (file.NoNode line) h = numbered _ _
file-numbered (file.SelfEdge line) h = numbered _ _
file-numbered (file.NameTwice line) h = numbered _ _
file-numbered (file.Syntax line) h = numbered _ _
file-numbered (file.Unknown line) h = numbered _ _
file-numbered (file.NoEnd lines) h = numbered _ _

-- a network over the calculus, whose names differ
pub record IsOver (c : NamedAlgebra) (net : Network) : Type 0 where
  pub network : IsNetwork c.algebra net.nodes net.words
  pub distinct : AreDistinct net.names

file-over : (c : NamedAlgebra) (bytes : List ℕ) (net : Network) → IsFileOf c bytes net → IsOver c net
file-over c bytes net file = record {
  network = subst (λ n. IsNetwork c.algebra n net.words) (sym file.network.nodes) (IsNetwork-from_facts c.algebra file.said.nodes file.said.facts net.words file.network.words);
  distinct = file-names_distinct c bytes net file;
}

refused-network : (c : NamedAlgebra) (bytes : List ℕ) (f : file_laws.TextHasFault c bytes) → HasNumber (file_refusal f.fault) → There (NetworkOf c bytes) (IsOver c)
refused-network c bytes f n = stops (refuses n.number n.place) (record { fault = f.fault; refused = f.is; numbered = n.is })

NetworkOf-there : (c : NamedAlgebra) (bytes : List ℕ) → There (NetworkOf c bytes) (IsOver c)
NetworkOf-there c bytes = elim (file-answered c bytes) [
  | inl net ↦ value net.network net.file (file-over c bytes net.network net.file)
  | inr f ↦ refused-network c bytes f (file-numbered f.fault f.of_text)
]

pub SourceNetwork-there : (bytes : List ℕ) (c : NamedAlgebra) → There (SourceNetwork bytes c) (IsOver c)
SourceNetwork-there bytes c =
    Then-there (BytesWithin bytes) (NetworkOf c) (λ _. ⊤) (IsOver c) (BytesWithin-there bytes) (λ text _. NetworkOf-there c text)

-- no polygons leave a network as it is
PlacedOn-there : (c : NamedAlgebra) (net : Network) → IsOver c net → There (PlacedOn c [] net) (IsOver c)
PlacedOn-there c net over = value net (record {
  facts = [];
  distinct = over.distinct;
  nodes = λ k name less there. absurd (omega (arith, less));
  are_facts = AreFactsOf-none net.names;
  narrowed = refl;
}) over

pub PlacedNetwork-there : (bytes : List ℕ) (c : NamedAlgebra) (polygons : List NamedRing) → polygons ≡ [] → There (PlacedNetwork bytes c polygons) (IsOver c)
PlacedNetwork-there bytes c polygons none =
    subst (λ ps. There (PlacedNetwork bytes c ps) (IsOver c)) (sym none)
    (Then-there (SourceNetwork bytes c) (PlacedOn c []) (IsOver c) (IsOver c) (SourceNetwork-there bytes c) (PlacedOn-there c))

-- ---- what the documents give

-- a lawful calculus, a class that can guide a search over it, and no polygons
pub record IsSoundSearch (s : Searched) : Type 0 where
  pub guide : IsGuide s.guided
  pub none : s.polygons ≡ []

pub SearchedOf-there : (documents : Documents) (calculus class : List ℕ) (polygons : Option (List ℕ)) → class_fits calculus class ≡ true → polygons ≡ None →
    AreThereIn documents ((named_by_calculus calculus ++ named_by_class class) ++ named_by_polygons polygons) → There (SearchedOf documents calculus class polygons) IsSoundSearch
SearchedOf-there documents calculus class polygons fits none there =
    Then-there (CalculusAndClass documents calculus class) (λ g. Then (PolygonsAsked documents polygons) (IsSearched g)) IsGuide IsSoundSearch
    (CalculusAndClass-there documents calculus class fits (all_first (HasDocumentIn documents) (named_by_calculus calculus ++ named_by_class class) (named_by_polygons polygons) there)) (λ g guide.
    Then-there (PolygonsAsked documents polygons) (IsSearched g) AreNone IsSoundSearch (PolygonsAsked-none documents polygons none) (λ ps none.
    value (record { guided = g; polygons = ps }) refl (record { guide = guide; none = none })))

-- a lawful calculus, a certificate with a scenario exactly where one is claimed, and no polygons
pub record IsSoundClaim (k : Claimed) : Type 0 where
  pub lawful : IsNamedCalculus k.calculus
  pub scenario : IsScenarioFor k.certificate.claim k.certificate.scenario
  pub none : k.polygons ≡ []

pub ClaimedOf-there : (documents : Documents) (calculus certificate : List ℕ) (polygons : Option (List ℕ)) → polygons ≡ None →
    AreThereIn documents (named_by_calculus calculus ++ (certificate ∷ []) ++ named_by_polygons polygons) → There (ClaimedOf documents calculus certificate polygons) IsSoundClaim
ClaimedOf-there documents calculus certificate polygons none there =
    let named = all_first (HasDocumentIn documents) (named_by_calculus calculus ++ (certificate ∷ [])) (named_by_polygons polygons) there in
    let file = all_second (HasDocumentIn documents) (named_by_calculus calculus) (certificate ∷ []) named in
    Then-there (CalculusOf documents calculus) (λ c. Then (CertificateOf documents certificate) (λ x. Then (PolygonsAsked documents polygons) (IsClaimed c x))) (IsOfWord calculus) IsSoundClaim
    (CalculusOf-there documents calculus (all_first (HasDocumentIn documents) (named_by_calculus calculus) (certificate ∷ []) named)) (λ c known.
    Then-there (CertificateOf documents certificate) (λ x. Then (PolygonsAsked documents polygons) (IsClaimed c x)) HasClaimed IsSoundClaim
    (CertificateOf-there documents certificate (All-head (HasDocumentIn documents) certificate [] file)) (λ x scenario.
    Then-there (PolygonsAsked documents polygons) (IsClaimed c x) AreNone IsSoundClaim (PolygonsAsked-none documents polygons none) (λ ps none.
    value (record { calculus = c; certificate = x; polygons = ps }) refl (record { lawful = known.lawful; scenario = scenario; none = none }))))
