-- Each input has one value or one cause.
use Rattle.std.proofs.Common.{◌≡◌, ◌≢◌, ℕ, ◌<◌, List, [], ◌∷◌, length, Option, None, Some, Result, Ok, Err, refl, sym}
use Rattle.std.proofs.Common.{◌∙◌, ap, subst, arith}
use Rattle.std.specs.Prelude.{IsSomeAnd, MatchOption, slice_index}
use Rattle.std.proofs.lemmas.List.{same_lists, get_or_default, length-map}
use Rattle.calculus_table.specs.Calculus.{NamedAlgebra}
use Rattle.calculus_builtin.specs.Allen.{allen_calculus}
use Rattle.calculus_load.specs.TableFile.{table_of}
use Rattle.calculus_load.proofs.Faults.{load-one, loaded-none}
use Rattle.calculus_load.specs.declared.fault.LoadFault.{LoadFault}
use Rattle.calculus_load.specs.declared.fault.LoadFault.TheVariants as load
use Rattle.tract_classes.specs.ClassFile.{class_of}
use Rattle.tract_classes.specs.declared.fault.ClassFault.{ClassFault}
use Rattle.tract_classes.specs.declared.fault.ClassFault.TheVariants as class
use Rattle.tract_classes.proofs.ClassAnswers.{class_fault_one, closed_class_none}
use Rattle.network_words.specs.Network.{Network}
use Rattle.network_words.specs.Facts.{narrowed_by}
use Rattle.network_file.specs.NetworkFile.{IsFileOf, read_network}
use Rattle.network_file.specs.declared.fault.FileFault.{FileFault}
use Rattle.network_file.proofs.ReadAgain.{file_is_of_one}
use Rattle.cert_file.specs.Certificate.{Certificate}
use Rattle.cert_file.specs.Fields.{certificate_of}
use Rattle.cert_file.specs.Files as cert_files
use Rattle.cert_file.specs.declared.fault.CertFault.{CertFault}
use Rattle.cert_file.specs.declared.fault.CertFault.TheVariants as cert
use Rattle.de9im.specs.Patterns.{want_of, want_at}
use Rattle.de9im.specs.declared.patterns.Want.{Want}
use Rattle.de9im.specs.declared.patterns.Want.TheVariants.{Anything}
use Rattle.de9im.proofs.PatternLaws.{wrong_place-one, pattern-not_wrong}
use Rattle.geo_facts.specs.PolygonFile.{NamedRing, names_of}
use Rattle.geo_facts.specs.Facts.{AreNodesTo, IsFactFaultOf}
use Rattle.geo_facts.specs.declared.fault.FactFault.{FactFault}
use Rattle.geo_facts.specs.declared.fault.FactFault.TheVariants as fact
use Rattle.geo_facts.proofs.OneAnswer.{file-one, file_fault-one, file-no_fault}
use Rattle.geo_facts.proofs.OneFacts.{facts-one, fact_fault-one, nodes-no_fault}
use Rattle.qsr_outside.specs.Documents.{Documents, document}
use Rattle.qsr_words.specs.Asked.{Asked, close, solve, intervals, minimal, check, trace, relate, scene, serve, demo}
use Rattle.qsr_inputs.specs.Stops.{Cause, refuses, is_long}
use Rattle.qsr_inputs.specs.Parts.{Then, IsOne}
use Rattle.qsr_inputs.specs.Numbers.{load_refusal, class_refusal, file_refusal, cert_refusal, geo_refusal, fact_refusal, pattern_refusal}
use Rattle.qsr_inputs.specs.Inputs.{BytesWithin, DocumentOf, TableOf, RefusesTable, CalculusOf, builtin_of}
use Rattle.qsr_inputs.specs.Inputs.{ClassFileOf, RefusesClass, ClassOf, builtin_class, IsGuided, CalculusAndClass}
use Rattle.qsr_inputs.specs.Inputs.{CertificateIn, RefusesCertificate, CertificateOf, PolygonsIn, RefusesPolygons}
use Rattle.qsr_inputs.specs.Inputs.{PolygonsOf, PolygonsAsked, PatternAsked, RefusesPattern, IsPatternOf, NetworkOf}
use Rattle.qsr_inputs.specs.Inputs.{RefusesNetwork, SourceNetwork, IsPlaced, RefusesPlaces, PlacedOn, PlacedNetwork}
use Rattle.qsr_inputs.specs.Inputs.{IsSearched, SearchedOf, IsClaimed, ClaimedOf, IsRelated, RelatedOf, SomePolygons}
use Rattle.qsr_inputs.specs.Inputs.{DrawnOf}
use Rattle.qsr_inputs.specs.Given.{GivenTo, DocumentsGive, SourceGives, InputOf, IsInput}
use Rattle.qsr_inputs.specs.declared.statuses.Place.{Place}
use Rattle.qsr_inputs.proofs.Parts.{Then-one}

pub BytesWithin-one : (bytes : List ℕ) → IsOne (BytesWithin bytes)
BytesWithin-one bytes (Ok t) (Ok u) p q = ap Ok (p.1 ∙ sym q.1)
BytesWithin-one bytes (Ok t) (Err is_long) p q = absurd (omega (arith, p.0))
BytesWithin-one bytes (Ok t) (Err (refuses number place)) p q = absurd q
BytesWithin-one bytes (Err is_long) (Ok u) p q = absurd (omega (arith, q.0))
BytesWithin-one bytes (Err is_long) (Err is_long) p q = refl
BytesWithin-one bytes (Err is_long) (Err (refuses number place)) p q = absurd q
BytesWithin-one bytes (Err (refuses number place)) y p q = absurd p

some_once : (o : Option (List ℕ)) (x y : Result (List ℕ) Cause) → IsSomeAnd o (λ bytes. BytesWithin bytes x) → IsSomeAnd o (λ bytes. BytesWithin bytes y) → x ≡ y
some_once None x y p q = absurd p
some_once (Some bytes) x y p q = BytesWithin-one bytes x y p q

pub DocumentOf-one : (documents : Documents) (name : List ℕ) → IsOne (DocumentOf documents name)
DocumentOf-one documents name x y p q = some_once (document documents name) x y p q

-- ---- table files

pub none_or_some : (n : ℕ) (p : Place) (o : Option (ℕ × Place)) → o ≡ None → o ≡ Some (n, p) → ⊥
none_or_some n p o a e = cc

-- a fault that has a number isn't out of memory
has_number : (f : LoadFault) (n : ℕ) (p : Place) → load_refusal f ≡ Some (n, p) → f ≡ load.Memory → ⊥
has_number f n p a e = none_or_some n p (load_refusal f) (ap load_refusal e) a

pub some_pair : (o : Option (ℕ × Place)) (m n : ℕ) (p q : Place) → o ≡ Some (m, p) → o ≡ Some (n, q) → (m ≡ n) × (p ≡ q)
some_pair o m n p q a b =
    let Pair : Type 0 = ℕ × Place in
    let same : (x y : Pair) → o ≡ Some x → o ≡ Some y → x ≡ y = λ x y h k. cc in
    let e = same (m, p) (n, q) a b in (ap (λ x. x.0) e, ap (λ x. x.1) e)

pair_of : (f g : Option (ℕ × Place)) (m n : ℕ) (p q : Place) → f ≡ g → f ≡ Some (m, p) → g ≡ Some (n, q) → refuses m p ≡ refuses n q
pair_of f g m n p q e a b =
    let same = some_pair g m n p q (sym e ∙ a) b in ap (λ k. refuses k p) same.0 ∙ ap (refuses n) same.1

tables_refused : (bytes : List ℕ) (m n : ℕ) (p q : Place) → RefusesTable bytes m p → RefusesTable bytes n q → refuses m p ≡ refuses n q
tables_refused bytes m n p q h k =
    pair_of (load_refusal h.fault) (load_refusal k.fault) m n p q (ap load_refusal (load-one bytes h.fault k.fault (has_number h.fault m p h.numbered) (has_number k.fault n q k.numbered) h.refused k.refused)) h.numbered k.numbered

-- a table that is a calculus isn't refused
table_or_refused : (bytes : List ℕ) (c : NamedAlgebra) (m : ℕ) (p : Place) → TableOf bytes (Ok c) → RefusesTable bytes m p → ⊥
table_or_refused bytes c m p h k = has_number k.fault m p k.numbered (loaded-none bytes c k.fault h.0 h.1 k.refused)

ok_alike : {A E : Type 0} (r : Result A E) (x y : A) → r ≡ Ok x → r ≡ Ok y → x ≡ y
ok_alike r x y p q = cc

err_alike : {A E : Type 0} (r : Result A E) (x y : E) → r ≡ Err x → r ≡ Err y → x ≡ y
err_alike r x y p q = cc

ok_or_err : {A E : Type 0} (r : Result A E) (x : A) (y : E) → r ≡ Ok x → r ≡ Err y → ⊥
ok_or_err r x y p q = cc

pub TableOf-one : (bytes : List ℕ) → IsOne (TableOf bytes)
TableOf-one bytes (Ok c) (Ok d) p q = ap Ok (ok_alike (table_of bytes) c d p.0 q.0)
TableOf-one bytes (Ok c) (Err (refuses number place)) p q = absurd (table_or_refused bytes c number place p q)
TableOf-one bytes (Ok c) (Err is_long) p q = absurd q
TableOf-one bytes (Err (refuses number place)) (Ok d) p q = absurd (table_or_refused bytes d number place q p)
TableOf-one bytes (Err (refuses m p)) (Err (refuses n q)) h k = ap Err (tables_refused bytes m n p q h k)
TableOf-one bytes (Err (refuses number place)) (Err is_long) p q = absurd q
TableOf-one bytes (Err is_long) y p q = absurd p

calculus_once : (documents : Documents) (word : List ℕ) (o : Option NamedAlgebra) (x y : Result NamedAlgebra Cause) →
    MatchOption o (Then (DocumentOf documents word) TableOf x) (λ c. x ≡ Ok c) → MatchOption o (Then (DocumentOf documents word) TableOf y) (λ c. y ≡ Ok c) → x ≡ y
calculus_once documents word None x y p q = Then-one (DocumentOf documents word) TableOf (DocumentOf-one documents word) TableOf-one x y p q
calculus_once documents word (Some c) x y p q = p ∙ sym q

pub CalculusOf-one : (documents : Documents) (word : List ℕ) → IsOne (CalculusOf documents word)
CalculusOf-one documents word x y p q = calculus_once documents word (builtin_of word) x y p q

-- ---- class files

-- a fault that has a number isn't out of memory
class_numbered : (f : ClassFault) (n : ℕ) (p : Place) → class_refusal f ≡ Some (n, p) → f ≡ class.Memory → ⊥
class_numbered f n p a e = none_or_some n p (class_refusal f) (ap class_refusal e) a

classes_refused : (c : NamedAlgebra) (bytes : List ℕ) (m n : ℕ) (p q : Place) → RefusesClass c bytes m p → RefusesClass c bytes n q → refuses m p ≡ refuses n q
classes_refused c bytes m n p q h k =
    let same = class_fault_one c bytes h.fault k.fault (class_numbered h.fault m p h.numbered) (class_numbered k.fault n q k.numbered) h.refused k.refused in
    pair_of (class_refusal h.fault) (class_refusal k.fault) m n p q (ap class_refusal same) h.numbered k.numbered

class_or_refused : (c : NamedAlgebra) (bytes class : List ℕ) (m : ℕ) (p : Place) → ClassFileOf c bytes (Ok class) → RefusesClass c bytes m p → ⊥
class_or_refused c bytes class m p h k = class_numbered k.fault m p k.numbered (closed_class_none c bytes class k.fault h.0 h.1 k.refused)

pub ClassFileOf-one : (c : NamedAlgebra) (bytes : List ℕ) → IsOne (ClassFileOf c bytes)
ClassFileOf-one c bytes (Ok x) (Ok y) p q = ap Ok (ok_alike (class_of c.names bytes) x y p.0 q.0)
ClassFileOf-one c bytes (Ok x) (Err (refuses number place)) p q = absurd (class_or_refused c bytes x number place p q)
ClassFileOf-one c bytes (Ok x) (Err is_long) p q = absurd q
ClassFileOf-one c bytes (Err (refuses number place)) (Ok y) p q = absurd (class_or_refused c bytes y number place q p)
ClassFileOf-one c bytes (Err (refuses m p)) (Err (refuses n q)) h k = ap Err (classes_refused c bytes m n p q h k)
ClassFileOf-one c bytes (Err (refuses number place)) (Err is_long) p q = absurd q
ClassFileOf-one c bytes (Err is_long) y p q = absurd p

class_once : (documents : Documents) (word : List ℕ) (c : NamedAlgebra) (o : Option (ℕ → List ℕ)) (x y : Result (List ℕ) Cause) →
    MatchOption o (Then (DocumentOf documents word) (ClassFileOf c) x) (λ class. x ≡ Ok (class c.algebra.size)) →
    MatchOption o (Then (DocumentOf documents word) (ClassFileOf c) y) (λ class. y ≡ Ok (class c.algebra.size)) → x ≡ y
class_once documents word c None x y p q = Then-one (DocumentOf documents word) (ClassFileOf c) (DocumentOf-one documents word) (ClassFileOf-one c) x y p q
class_once documents word c (Some class) x y p q = p ∙ sym q

pub ClassOf-one : (documents : Documents) (word : List ℕ) (c : NamedAlgebra) → IsOne (ClassOf documents word c)
ClassOf-one documents word c x y p q = class_once documents word c (builtin_class word) x y p q

guided_once : (c : NamedAlgebra) (class : List ℕ) → IsOne (IsGuided c class)
guided_once c class x y p q = p ∙ sym q

pub CalculusAndClass-one : (documents : Documents) (calculus class : List ℕ) → IsOne (CalculusAndClass documents calculus class)
CalculusAndClass-one documents calculus class = Then-one (CalculusOf documents calculus) _ (CalculusOf-one documents calculus)
    (λ c. Then-one (ClassOf documents class c) _ (ClassOf-one documents class c) (λ k. guided_once c k))

-- ---- certificates

pub some_alike : {A : Type 0} (o : Option A) (x y : A) → o ≡ Some x → o ≡ Some y → x ≡ y
some_alike o x y p q = cc

module _ (bytes : List ℕ) where
  -- bytes are a JSON text of one value, of which one thing is made
  made_once : (x y : Result Certificate CertFault) → cert_files.IsMadeOf bytes x → cert_files.IsMadeOf bytes y → x ≡ y
  made_once x y h k =
      sym h.is_made ∙ ap certificate_of (some_alike _ h.value k.value h.json.is_read k.json.is_read) ∙ k.is_made

  one_certificate : (x y : Certificate) → cert_files.IsFileOf bytes x → cert_files.IsFileOf bytes y → x ≡ y
  one_certificate x y h k = ok_alike (Ok x) x y refl (made_once (Ok x) (Ok y) h k)

  cert_fault-one : (f g : CertFault) → f ≢ cert.Memory → g ≢ cert.Memory → cert_files.IsFaultOf bytes f → cert_files.IsFaultOf bytes g → f ≡ g
  cert_fault-one cert.NotJson cert.NotJson m n h k = refl
  cert_fault-one cert.NotJson (cert.Field key index) m n h k = absurd (h k.value k.json)
  cert_fault-one (cert.Field key index) cert.NotJson m n h k = absurd (k h.value h.json)
  cert_fault-one (cert.Field a i) (cert.Field b j) m n h k = err_alike (Err (cert.Field a i)) (cert.Field a i) (cert.Field b j) refl (made_once (Err (cert.Field a i)) (Err (cert.Field b j)) h k)
  cert_fault-one cert.Memory g m n h k = absurd (m refl)
  cert_fault-one f cert.Memory m n h k = absurd (n refl)

  certificate-no_fault : (x : Certificate) (f : CertFault) → f ≢ cert.Memory → cert_files.IsFileOf bytes x → cert_files.IsFaultOf bytes f → ⊥
  certificate-no_fault x cert.NotJson m h k = k h.value h.json
  certificate-no_fault x (cert.Field key index) m h k = ok_or_err (Ok x) x (cert.Field key index) refl (made_once (Ok x) (Err (cert.Field key index)) h k)
  certificate-no_fault x cert.Memory m h k = m refl

  -- a fault that has a number isn't out of memory
  cert_numbered : (f : CertFault) (n : ℕ) (p : Place) → cert_refusal f ≡ Some (n, p) → f ≢ cert.Memory
  cert_numbered f n p a e = none_or_some n p (cert_refusal f) (ap cert_refusal e) a

  certificates_refused : (m n : ℕ) (p q : Place) → RefusesCertificate bytes m p → RefusesCertificate bytes n q → refuses m p ≡ refuses n q
  certificates_refused m n p q h k =
      let same = cert_fault-one h.fault k.fault (cert_numbered h.fault m p h.numbered) (cert_numbered k.fault n q k.numbered) h.refused k.refused in
      pair_of (cert_refusal h.fault) (cert_refusal k.fault) m n p q (ap cert_refusal same) h.numbered k.numbered

  certificate_or_refused : (x : Certificate) (m : ℕ) (p : Place) → cert_files.IsFileOf bytes x → RefusesCertificate bytes m p → ⊥
  certificate_or_refused x m p h k = certificate-no_fault x k.fault (cert_numbered k.fault m p k.numbered) h k.refused

  pub CertificateIn-one : IsOne (CertificateIn bytes)
  CertificateIn-one (Ok x) (Ok y) p q = ap Ok (one_certificate x y p q)
  CertificateIn-one (Ok x) (Err (refuses number place)) p q = absurd (certificate_or_refused x number place p q)
  CertificateIn-one (Ok x) (Err is_long) p q = absurd q
  CertificateIn-one (Err (refuses number place)) (Ok y) p q = absurd (certificate_or_refused y number place q p)
  CertificateIn-one (Err (refuses m p)) (Err (refuses n q)) h k = ap Err (certificates_refused m n p q h k)
  CertificateIn-one (Err (refuses number place)) (Err is_long) p q = absurd q
  CertificateIn-one (Err is_long) y p q = absurd p

pub CertificateOf-one : (documents : Documents) (name : List ℕ) → IsOne (CertificateOf documents name)
CertificateOf-one documents name = Then-one (DocumentOf documents name) CertificateIn (DocumentOf-one documents name) CertificateIn-one

-- ---- polygons

polygons_refused : (bytes : List ℕ) (m n : ℕ) (p q : Place) → RefusesPolygons bytes m p → RefusesPolygons bytes n q → refuses m p ≡ refuses n q
polygons_refused bytes m n p q h k =
    pair_of (geo_refusal h.fault) (geo_refusal k.fault) m n p q (ap geo_refusal (file_fault-one bytes h.fault k.fault h.refused k.refused)) h.numbered k.numbered

polygons_or_refused : (bytes : List ℕ) (polygons : List NamedRing) (m : ℕ) (p : Place) → PolygonsIn bytes (Ok polygons) → RefusesPolygons bytes m p → ⊥
polygons_or_refused bytes polygons m p h k = file-no_fault bytes polygons k.fault h k.refused

pub PolygonsIn-one : (bytes : List ℕ) → IsOne (PolygonsIn bytes)
PolygonsIn-one bytes (Ok x) (Ok y) p q = ap Ok (file-one bytes x y p q)
PolygonsIn-one bytes (Ok x) (Err (refuses number place)) p q = absurd (polygons_or_refused bytes x number place p q)
PolygonsIn-one bytes (Ok x) (Err is_long) p q = absurd q
PolygonsIn-one bytes (Err (refuses number place)) (Ok y) p q = absurd (polygons_or_refused bytes y number place q p)
PolygonsIn-one bytes (Err (refuses m p)) (Err (refuses n q)) h k = ap Err (polygons_refused bytes m n p q h k)
PolygonsIn-one bytes (Err (refuses number place)) (Err is_long) p q = absurd q
PolygonsIn-one bytes (Err is_long) y p q = absurd p

pub PolygonsOf-one : (documents : Documents) (name : List ℕ) → IsOne (PolygonsOf documents name)
PolygonsOf-one documents name = Then-one (DocumentOf documents name) PolygonsIn (DocumentOf-one documents name) PolygonsIn-one

pub PolygonsAsked-one : (documents : Documents) (asked : Option (List ℕ)) → IsOne (PolygonsAsked documents asked)
PolygonsAsked-one documents None x y p q = p ∙ sym q
PolygonsAsked-one documents (Some name) x y p q = PolygonsOf-one documents name x y p q

-- ---- patterns

module _ (text : List ℕ) where
  wanted : (k : ℕ) (ws vs : List Want) → want_of (slice_index text k) ≡ Some (want_at ws k) → want_of (slice_index text k) ≡ Some (want_at vs k) → want_at ws k ≡ want_at vs k
  wanted k ws vs p q =
      some_alike (want_of (slice_index text k)) (want_at ws k) (want_at vs k) p q

  wants_once : (ws vs : List Want) → IsPatternOf text ws → IsPatternOf text vs → ws ≡ vs
  wants_once ws vs h g = same_lists ws vs (h.nine ∙ sym g.nine) (λ k d below.
      let less : k < 9 = omega (arith, below, h.nine) in
      get_or_default ws k d Anything below
      ∙ wanted k ws vs (h.is_pattern.each k less) (g.is_pattern.each k less)
      ∙ sym (get_or_default vs k d Anything (omega (arith, less, g.nine))))

  patterns_refused : (m n : ℕ) (p q : Place) → RefusesPattern text m p → RefusesPattern text n q → refuses m p ≡ refuses n q
  patterns_refused m n p q h k =
      let same = wrong_place-one text h.byte k.byte h.wrong k.wrong in
      pair_of (Some (pattern_refusal h.byte)) (Some (pattern_refusal k.byte)) m n p q (ap (λ b. Some (pattern_refusal b)) same) (ap Some h.numbered) (ap Some k.numbered)

  pattern_or_refused : (ws : List Want) (m : ℕ) (p : Place) → IsPatternOf text ws → RefusesPattern text m p → ⊥
  pattern_or_refused ws m p h k = pattern-not_wrong text ws k.byte h.is_pattern k.wrong

  text_once : IsOne (PatternAsked (Some text))
  text_once (Ok None) y p q = absurd p
  text_once x (Ok None) p q = absurd q
  text_once (Ok (Some ws)) (Ok (Some vs)) p q = ap (λ wants. Ok (Some wants)) (wants_once ws vs p q)
  text_once (Ok (Some ws)) (Err (refuses number place)) p q = absurd (pattern_or_refused ws number place p q)
  text_once (Ok (Some ws)) (Err is_long) p q = absurd q
  text_once (Err (refuses number place)) (Ok (Some vs)) p q = absurd (pattern_or_refused vs number place q p)
  text_once (Err (refuses m p)) (Err (refuses n q)) h k = ap Err (patterns_refused m n p q h k)
  text_once (Err (refuses number place)) (Err is_long) p q = absurd q
  text_once (Err is_long) y p q = absurd p

pub PatternAsked-one : (asked : Option (List ℕ)) → IsOne (PatternAsked asked)
PatternAsked-one None x y p q = p ∙ sym q
PatternAsked-one (Some text) x y p q = text_once text x y p q

-- ---- what the documents give

pub SearchedOf-one : (documents : Documents) (calculus class : List ℕ) (polygons : Option (List ℕ)) → IsOne (SearchedOf documents calculus class polygons)
SearchedOf-one documents calculus class polygons = Then-one (CalculusAndClass documents calculus class) _ (CalculusAndClass-one documents calculus class)
    (λ g. Then-one (PolygonsAsked documents polygons) (IsSearched g) (PolygonsAsked-one documents polygons) (λ ps x y p q. p ∙ sym q))

pub ClaimedOf-one : (documents : Documents) (calculus certificate : List ℕ) (polygons : Option (List ℕ)) → IsOne (ClaimedOf documents calculus certificate polygons)
ClaimedOf-one documents calculus certificate polygons = Then-one (CalculusOf documents calculus) _ (CalculusOf-one documents calculus)
    (λ c. Then-one (CertificateOf documents certificate) _ (CertificateOf-one documents certificate)
    (λ k. Then-one (PolygonsAsked documents polygons) (IsClaimed c k) (PolygonsAsked-one documents polygons) (λ ps x y p q. p ∙ sym q)))

pub RelatedOf-one : (documents : Documents) (polygons : List ℕ) (pattern : Option (List ℕ)) → IsOne (RelatedOf documents polygons pattern)
RelatedOf-one documents polygons pattern = Then-one (PolygonsOf documents polygons) _ (PolygonsOf-one documents polygons)
    (λ ps. Then-one (PatternAsked pattern) (IsRelated ps) (PatternAsked-one pattern) (λ wants x y p q. p ∙ sym q))

SomePolygons-one : (polygons : List NamedRing) → IsOne (SomePolygons polygons)
SomePolygons-one [] x y p q = p ∙ sym q
SomePolygons-one (r ∷ rs) x y p q = p ∙ sym q

pub DrawnOf-one : (documents : Documents) (polygons : List ℕ) → IsOne (DrawnOf documents polygons)
DrawnOf-one documents polygons = Then-one (PolygonsOf documents polygons) SomePolygons
    (PolygonsOf-one documents polygons) SomePolygons-one

pub DocumentsGive-one : (asked : Asked) (documents : Documents) → IsOne (DocumentsGive asked documents)
DocumentsGive-one (close asked) documents = CalculusOf-one documents asked.calculus
DocumentsGive-one (solve asked) documents = SearchedOf-one documents asked.calculus asked.class asked.polygons
DocumentsGive-one (intervals asked) documents = ClassOf-one documents asked.class allen_calculus
DocumentsGive-one (minimal asked) documents = CalculusAndClass-one documents asked.calculus asked.class
DocumentsGive-one (check asked) documents = ClaimedOf-one documents asked.calculus asked.certificate asked.polygons
DocumentsGive-one (trace asked) documents = ClaimedOf-one documents asked.calculus asked.certificate asked.polygons
DocumentsGive-one (relate asked) documents = RelatedOf-one documents asked.polygons asked.pattern
DocumentsGive-one (scene asked) documents = DrawnOf-one documents asked.polygons
DocumentsGive-one (serve asked) documents = CalculusOf-one documents asked.calculus
DocumentsGive-one (demo asked) documents = λ x y p q. p ∙ sym q

-- ---- network files

networks_refused : (c : NamedAlgebra) (bytes : List ℕ) (m n : ℕ) (p q : Place) → RefusesNetwork c bytes m p → RefusesNetwork c bytes n q → refuses m p ≡ refuses n q
networks_refused c bytes m n p q h k =
    pair_of (file_refusal h.fault) (file_refusal k.fault) m n p q (ap file_refusal (fault_alike (read_network c bytes) h.fault k.fault h.refused k.refused)) h.numbered k.numbered
  where
    fault_alike : {A : Type 0} (r : Result A FileFault) (f g : FileFault) → r ≡ Err f → r ≡ Err g → f ≡ g
    fault_alike r f g a b = cc

network_or_refused : (c : NamedAlgebra) (bytes : List ℕ) (net : Network) (m : ℕ) (p : Place) → IsFileOf c bytes net → RefusesNetwork c bytes m p → ⊥
network_or_refused c bytes net m p h k = let a = h.reads in let b = k.refused in cc

pub NetworkOf-one : (c : NamedAlgebra) (bytes : List ℕ) → IsOne (NetworkOf c bytes)
NetworkOf-one c bytes (Ok x) (Ok y) p q = ap Ok (file_is_of_one c bytes x y p q)
NetworkOf-one c bytes (Ok x) (Err (refuses number place)) p q = absurd (network_or_refused c bytes x number place p q)
NetworkOf-one c bytes (Ok x) (Err is_long) p q = absurd q
NetworkOf-one c bytes (Err (refuses number place)) (Ok y) p q = absurd (network_or_refused c bytes y number place q p)
NetworkOf-one c bytes (Err (refuses m p)) (Err (refuses n q)) h k = ap Err (networks_refused c bytes m n p q h k)
NetworkOf-one c bytes (Err (refuses number place)) (Err is_long) p q = absurd q
NetworkOf-one c bytes (Err is_long) y p q = absurd p

pub SourceNetwork-one : (bytes : List ℕ) (c : NamedAlgebra) → IsOne (SourceNetwork bytes c)
SourceNetwork-one bytes c = Then-one (BytesWithin bytes) (NetworkOf c) (BytesWithin-one bytes) (NetworkOf-one c)

-- ---- networks with polygons

module _ (c : NamedAlgebra) (polygons : List NamedRing) (net : Network) where
  placed_once : (x y : Network) → IsPlaced c polygons net x → IsPlaced c polygons net y → x ≡ y
  placed_once x y h k =
      let same = facts-one net.names polygons h.facts k.facts h.distinct h.are_facts k.are_facts in
      h.narrowed ∙ ap (λ facts. record net { words = narrowed_by c.algebra net.nodes net.words facts }) same ∙ sym k.narrowed

  strangers_once : (f g : FactFault) (m n : ℕ) (p q : Place) → IsFactFaultOf net.names (names_of polygons) f → IsFactFaultOf net.names (names_of polygons) g →
      fact_refusal f ≡ Some (m, p) → fact_refusal g ≡ Some (n, q) → refuses m p ≡ refuses n q
  strangers_once (fact.NoNode at) (fact.NoNode other) m n p q h k a b =
      pair_of (fact_refusal (fact.NoNode at)) (fact_refusal (fact.NoNode other)) m n p q (ap (λ x. fact_refusal (fact.NoNode x)) (fact_fault-one net.names (names_of polygons) at other h k)) a b
  strangers_once fact.Memory g m n p q h k a b = absurd (none_or_some m p None refl a)
  strangers_once f fact.Memory m n p q h k a b = absurd (none_or_some n q None refl b)

  places_refused : (m n : ℕ) (p q : Place) → RefusesPlaces polygons net m p → RefusesPlaces polygons net n q → refuses m p ≡ refuses n q
  places_refused m n p q h k = strangers_once h.fault k.fault m n p q h.refused k.refused h.numbered k.numbered

  nodes_or_stranger : (f : FactFault) (m : ℕ) (p : Place) → AreNodesTo net.names (names_of polygons) (length polygons) → IsFactFaultOf net.names (names_of polygons) f → fact_refusal f ≡ Some (m, p) → ⊥
  nodes_or_stranger (fact.NoNode at) m p h k a =
      let all = subst (AreNodesTo net.names (names_of polygons)) (sym (length-map polygons (λ x. x.name))) h in
      nodes-no_fault net.names (names_of polygons) at all k
  nodes_or_stranger fact.Memory m p h k a = none_or_some m p None refl a

  placed_or_refused : (x : Network) (m : ℕ) (p : Place) → IsPlaced c polygons net x → RefusesPlaces polygons net m p → ⊥
  placed_or_refused x m p h k = nodes_or_stranger k.fault m p h.nodes k.refused k.numbered

  pub PlacedOn-one : IsOne (PlacedOn c polygons net)
  PlacedOn-one (Ok x) (Ok y) p q = ap Ok (placed_once x y p q)
  PlacedOn-one (Ok x) (Err (refuses number place)) p q = absurd (placed_or_refused x number place p q)
  PlacedOn-one (Ok x) (Err is_long) p q = absurd q
  PlacedOn-one (Err (refuses number place)) (Ok y) p q = absurd (placed_or_refused y number place q p)
  PlacedOn-one (Err (refuses m p)) (Err (refuses n q)) h k = ap Err (places_refused m n p q h k)
  PlacedOn-one (Err (refuses number place)) (Err is_long) p q = absurd q
  PlacedOn-one (Err is_long) y p q = absurd p

pub PlacedNetwork-one : (bytes : List ℕ) (c : NamedAlgebra) (polygons : List NamedRing) → IsOne (PlacedNetwork bytes c polygons)
PlacedNetwork-one bytes c polygons = Then-one (SourceNetwork bytes c) (PlacedOn c polygons) (SourceNetwork-one bytes c) (PlacedOn-one c polygons)

-- ---- what the source gives, and the whole input

pub SourceGives-one : (asked : Asked) (bytes : List ℕ) (given : GivenTo asked) → IsOne (SourceGives asked bytes given)
SourceGives-one (close asked) bytes c = SourceNetwork-one bytes c
SourceGives-one (solve asked) bytes given = PlacedNetwork-one bytes given.guided.calculus given.polygons
SourceGives-one (intervals asked) bytes class = SourceNetwork-one bytes allen_calculus
SourceGives-one (minimal asked) bytes guided = SourceNetwork-one bytes guided.calculus
SourceGives-one (check asked) bytes given = PlacedNetwork-one bytes given.calculus given.polygons
SourceGives-one (trace asked) bytes given = PlacedNetwork-one bytes given.calculus given.polygons
SourceGives-one (relate asked) bytes given = λ x y p q. p ∙ sym q
SourceGives-one (scene asked) bytes given = λ x y p q. p ∙ sym q
SourceGives-one (serve asked) bytes c = λ x y p q. p ∙ sym q
SourceGives-one (demo asked) bytes given = λ x y p q. p ∙ sym q

pub InputOf-one : (asked : Asked) (documents : Documents) (bytes : List ℕ) → IsOne (InputOf asked documents bytes)
InputOf-one asked documents bytes = Then-one (DocumentsGive asked documents) _ (DocumentsGive-one asked documents)
    (λ given. Then-one (SourceGives asked bytes given) (IsInput asked given) (SourceGives-one asked bytes given) (λ read x y p q. p ∙ sym q))
