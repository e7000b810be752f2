use Rattle.std.proofs.Common.{option_map}
use Rattle.std.proofs.lemmas.Result.{err_from_is_err_and}
use Rattle.std.specs.String.{string_bytes}
use Rattle.qsr_inputs.proofs.Claiming.{calculus_stops_claim, certificate_stops_claim, polygons_stop_claim, claim_is_read}
use Rattle.qsr_inputs.proofs.OnRcc8.{on_rcc8}
use Rattle.qsr_inputs.proofs.claims.read_claimed.Goals as goal

pub returns-in_err-calculus-clause-given : goal.returns-in_err-calculus-clause-given
returns-in_err-calculus-clause-given g c =
    let p = err_from_is_err_and c.from_residual.result c.from_residual.ensures.1 in
    rw (p.1, p.2) (calculus_stops_claim g.F.Source.documents g.F.Source.faults g.F.Source.given g.F.Source.absent_openings
    (string_bytes c.args.request.now.calculus) (string_bytes c.args.request.now.certificate) (option_map string_bytes c.args.request.now.polygons)
    c.args.shelf.now c.calculus.new.shelf c.in_err-calculus.field-0.0 (rw c.as_str.ensures.value at c.in_err-calculus.ensures))

pub returns-in_err-certificate-clause-given : goal.returns-in_err-certificate-clause-given
returns-in_err-certificate-clause-given g c =
    let p = err_from_is_err_and c.from_residual-in_err-certificate.result c.from_residual-in_err-certificate.ensures.1 in
    rw (p.1, p.2) (certificate_stops_claim g.F.Source.documents g.F.Source.faults g.F.Source.given g.F.Source.absent_openings
    (string_bytes c.args.request.now.calculus) (string_bytes c.args.request.now.certificate) (option_map string_bytes c.args.request.now.polygons)
    c.args.shelf.now c.calculus.new.shelf c.in_ok-calculus.calculus (rw c.as_str.ensures.value at c.in_ok-calculus.ensures)
    c.certificate.new.shelf c.in_err-certificate.field-0.0 (rw c.as_str-2.ensures.value at c.in_err-certificate.ensures.certificate))

pub returns-in_err-polygons-clause-given : goal.returns-in_err-polygons-clause-given
returns-in_err-polygons-clause-given g c =
    let p = err_from_is_err_and c.from_residual-in_err-polygons.result c.from_residual-in_err-polygons.ensures.1 in
    rw (p.1, p.2) (polygons_stop_claim g.F.Source.documents g.F.Source.faults g.F.Source.given g.F.Source.absent_openings
    (string_bytes c.args.request.now.calculus) (string_bytes c.args.request.now.certificate) (option_map string_bytes c.args.request.now.polygons)
    c.args.shelf.now c.calculus.new.shelf c.in_ok-calculus.calculus (rw c.as_str.ensures.value at c.in_ok-calculus.ensures)
    c.certificate.new.shelf c.in_ok-certificate.certificate (rw c.as_str-2.ensures.value at c.in_ok-certificate.ensures.certificate)
    c.polygons_asked.new.shelf c.in_err-polygons.field-0.0 c.in_err-polygons.ensures)

pub returns-clause-given : goal.returns-clause-given
returns-clause-given g c =
    claim_is_read g.F.Source.documents g.F.Source.faults g.F.Source.given g.F.Source.absent_openings
    (string_bytes c.args.request.now.calculus) (string_bytes c.args.request.now.certificate) (option_map string_bytes c.args.request.now.polygons)
    c.args.shelf.now c.calculus.new.shelf c.in_ok-calculus.calculus (rw c.as_str.ensures.value at c.in_ok-calculus.ensures)
    c.certificate.new.shelf c.in_ok-certificate.certificate (rw c.as_str-2.ensures.value at c.in_ok-certificate.ensures.certificate)
    c.polygons_asked.new.shelf c.in_ok-polygons.polygons c.in_ok-polygons.ensures

pub returns-clause-rcc8 : goal.returns-clause-rcc8
returns-clause-rcc8 g c =
    on_rcc8 (string_bytes c.args.request.now.calculus) (g.F.Source.documents c.args.shelf.now) c.in_ok-calculus.calculus (option_map string_bytes c.args.request.now.polygons)
    c.in_ok-polygons.polygons (g.F.Source.documents c.certificate.new.shelf) c.requires.polygons (rw c.as_str.ensures.value at c.in_ok-calculus.ensures.value)
    c.in_ok-polygons.ensures.value
