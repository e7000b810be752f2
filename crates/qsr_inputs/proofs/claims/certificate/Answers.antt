use Rattle.std.proofs.Common.{[], ◌∷◌}
use Rattle.qsr_inputs.specs.Inputs.{DocumentOf, CertificateIn}
use Rattle.qsr_inputs.proofs.Fetching.{fetches_parsed}
use Rattle.qsr_inputs.proofs.claims.certificate.Goals as goal

pub returns-clause-certificate : goal.returns-clause-certificate
returns-clause-certificate g c =
    fetches_parsed g.F.Source.documents g.F.Source.faults g.F.Source.given g.F.Source.absent_openings (c.args.name.now ∷ [])
    (λ d. DocumentOf d c.args.name.now) CertificateIn c.args.shelf.now c.document.new.shelf c.in_ok-text.text c.in_ok-text.ensures c.certificate_in.result
    (rw (c.deref.ensures.value, c.text.view_is) at c.certificate_in.ensures.value) (rw (c.deref.ensures.value, c.text.view_is) at c.certificate_in.ensures.cause)
    c.certificate_in.ensures.refusal
