use Rattle.std.proofs.Common.{◌≡◌, ◌∙◌}
use Rattle.std.specs.String.{string_bytes}
use Rattle.qsr_words.specs.Requests.{demo_of}
use Rattle.qsr_answers.proofs.SeedVerdicts.{pieces, pieces_text}
use Rattle.qsr_answers.proofs.demonstrating.summary.Goals as goal

pub returns : goal.returns
returns c =
    let asked = demo_of c.args.request.now in
    let line = string_bytes c.in_ok-verdict.verdict in
    let text : string_bytes c.in-Ok.text ≡ pieces asked c.args.kept c.args.members line = c.in-Ok.ensures.ok in
    text ∙ pieces_text asked c.args.kept c.args.members line c.args.verdict.now c.in_ok-verdict.ensures
