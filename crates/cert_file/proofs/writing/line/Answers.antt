use Rattle.std.proofs.Common.{◌++◌, ap, sym, subst, ◌∙◌, codes}
use Rattle.serde_json.specs.Written.{has_float, compact_text}
use Rattle.cert_file.specs.Files.{IsFileOf}
use Rattle.cert_file.specs.Written.{certificate_text}
use Rattle.cert_file.proofs.Plain.{no_floats}
use Rattle.cert_file.proofs.WrittenFiles.{IsFileOf-certificate_text}
use Rattle.cert_file.proofs.writing.line.Goals as goal

pub returns-clause-text : goal.returns-clause-text
unfolding certificate_text
returns-clause-text c =
    let whole = c.in_ok-text.ensures.text (ap has_float c.in_ok-value.ensures.value ∙ no_floats c.args.cert.now) ∙ ap compact_text c.in_ok-value.ensures.value in
    c.in_ok-push_str.ensures.bytes ∙ ap (λ s. s ++ codes "\n") whole

pub returns-clause-file : goal.returns-clause-file
returns-clause-file c = λ forms.
    subst (λ bytes. IsFileOf bytes c.args.cert.now) (sym (returns-clause-text c))
    (IsFileOf-certificate_text c.args.cert.now (record { forms = forms; numbers = c.in_ok-value.ensures.numbers }))
