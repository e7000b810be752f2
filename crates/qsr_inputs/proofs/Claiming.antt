-- The calculus, the certificate and the polygons that words name, read one after another.
use Rattle.std.proofs.Common.{ℕ, List, [], ◌∷◌, ◌++◌, Option, Result, Ok, Err, append_assoc, inl, refl}
use Rattle.calculus_table.specs.Calculus.{NamedAlgebra}
use Rattle.cert_file.specs.Certificate.{Certificate}
use Rattle.cert_file.specs.Files.{IsFileOf}
use Rattle.cert_file.specs.Written.{IsScenarioFor}
use Rattle.cert_file.proofs.ReadForms.{IsWritable-read}
use Rattle.geo_facts.specs.PolygonFile.{NamedRing}
use Rattle.qsr_outside.specs.Documents.{Documents}
use Rattle.qsr_inputs.specs.Stops.{Cause}
use Rattle.qsr_inputs.specs.Parts.{Then}
use Rattle.qsr_inputs.specs.Inputs.{CalculusOf, CertificateOf, PolygonsAsked, Claimed, IsClaimed, ClaimedOf}
use Rattle.qsr_inputs.specs.Told.{named_by_calculus, named_by_polygons}
use Rattle.qsr_inputs.specs.Readings.{Fetches}
use Rattle.qsr_inputs.specs.declared.stops.Stop.{Stop}
use Rattle.qsr_inputs.proofs.Fetching.{fetches_then, fetches_stopped, fetches_made, fetches_caused}

module _ {F : Type 0} (documents : F → Option Documents) (faults given absent : F → ℕ) (word name : List ℕ) (polygons : Option (List ℕ)) where
  abbrev FetchesFrom : {A : Type 0} → List (List ℕ) → (Documents → Result A Cause → Type 0) → F → F → Result A Stop → Type 0
  FetchesFrom names Part old new r = Fetches documents faults given absent names Part old new r

  abbrev after : List (List ℕ)
  after = (name ∷ []) ++ named_by_polygons polygons

  abbrev WithPolygons : NamedAlgebra → Certificate → Documents → Result Claimed Cause → Type 0
  WithPolygons c x d = Then (PolygonsAsked d polygons) (IsClaimed c x)

  abbrev WithCertificate : NamedAlgebra → Documents → Result Claimed Cause → Type 0
  WithCertificate c d = Then (CertificateOf d name) (λ x. WithPolygons c x d)

  abbrev ClaimsFrom : F → F → Result Claimed Stop → Type 0
  ClaimsFrom old new r = FetchesFrom (named_by_calculus word ++ (name ∷ []) ++ named_by_polygons polygons) (λ d. ClaimedOf d word name polygons) old new r

  of_two : (old new : F) (r : Result Claimed Stop) → FetchesFrom (named_by_calculus word ++ after) (λ d. ClaimedOf d word name polygons) old new r → ClaimsFrom old new r
  of_two old new r h = rw append_assoc h

  pub calculus_stops_claim : (old new : F) (s : Stop) → FetchesFrom (named_by_calculus word) (λ d. CalculusOf d word) old new (Err s) → ClaimsFrom old new (Err s)
  calculus_stops_claim old new s h = of_two old new (Err s)
      (fetches_stopped documents faults given absent (named_by_calculus word) after (λ d. CalculusOf d word) WithCertificate old new s h)

  module _ (old mid : F) (c : NamedAlgebra) (h : FetchesFrom (named_by_calculus word) (λ d. CalculusOf d word) old mid (Ok c)) where
    after_calculus : (new : F) (r : Result Claimed Stop) → FetchesFrom after (WithCertificate c) mid new r → ClaimsFrom old new r
    after_calculus new r k = of_two old new r
        (fetches_then documents faults given absent (named_by_calculus word) after (λ d. CalculusOf d word) WithCertificate old mid new c h r k)

    pub certificate_stops_claim : (new : F) (s : Stop) → FetchesFrom (name ∷ []) (λ d. CertificateOf d name) mid new (Err s) → ClaimsFrom old new (Err s)
    certificate_stops_claim new s k = after_calculus new (Err s)
        (fetches_stopped documents faults given absent (name ∷ []) (named_by_polygons polygons) (λ d. CertificateOf d name) (WithPolygons c) mid new s k)

    module _ (later : F) (x : Certificate) (k : FetchesFrom (name ∷ []) (λ d. CertificateOf d name) mid later (Ok x)) where
      after_certificate : (new : F) (r : Result Claimed Stop) → FetchesFrom (named_by_polygons polygons) (WithPolygons c x) later new r → ClaimsFrom old new r
      after_certificate new r p = after_calculus new r
          (fetches_then documents faults given absent (name ∷ []) (named_by_polygons polygons) (λ d. CertificateOf d name) (WithPolygons c) mid later new x k r p)

      pub polygons_stop_claim : (new : F) (s : Stop) → FetchesFrom (named_by_polygons polygons) (λ d. PolygonsAsked d polygons) later new (Err s) → ClaimsFrom old new (Err s)
      polygons_stop_claim new s p = after_certificate new (Err s)
          (fetches_caused documents faults given absent (named_by_polygons polygons) (λ d. PolygonsAsked d polygons) (WithPolygons c x) later new s (λ d i j. inl j) p)

      pub claim_is_read : (new : F) (ps : List NamedRing) → FetchesFrom (named_by_polygons polygons) (λ d. PolygonsAsked d polygons) later new (Ok ps) →
          ClaimsFrom old new (Ok (record { calculus = c; certificate = x; polygons = ps }))
      claim_is_read new ps p = after_certificate new (Ok (record { calculus = c; certificate = x; polygons = ps }))
          (fetches_made documents faults given absent (named_by_polygons polygons) (λ d. PolygonsAsked d polygons) (WithPolygons c x) later new ps
          (record { calculus = c; certificate = x; polygons = ps }) (λ d i. record { value = ps; first = i; second = refl }) p)

-- a certificate has a scenario exactly where it claims yes
pub file_scenario : (bytes : List ℕ) (c : Certificate) → IsFileOf bytes c → IsScenarioFor c.claim c.scenario
file_scenario bytes c file = (IsWritable-read file.value c file.is_made).forms.scenario
