use Rattle.std.proofs.Common.{◌≡◌, drop, take, None, Some, false, ap, sym, ◌∙◌, subst, rules}
use Rattle.std.specs.List.{prefix_len}
use Rattle.qsr_lex.specs.Bytes.{is_plain}
use Rattle.qsr_lex.specs.TextLines.{first_line, after_end, is_clean, IsFirstLine}
use Rattle.qsr_lex.proofs.FirstLines.{IsCut, cut}
use Rattle.qsr_lex.proofs.scan.first_line.Goals as goal

pub returns-in_err-after-clause-cut : goal.returns-in_err-after-clause-cut
returns-in_err-after-clause-cut c =
    let text = c.args.text.now in
    let k = prefix_len is_plain text in
    let here : after_end c.split_at.result.1.now ≡ None = search rules in
    let none : after_end (drop k text) ≡ None = ap after_end (sym (c.split_at.ensures.back ∙ ap (λ n. drop n text) c.plain_len.ensures.value)) ∙ here in
    let bad : is_clean (first_line text) ≡ false = subst (IsCut text k) none (cut text) in
    search rules

pub returns-clause-cut : goal.returns-clause-cut
returns-clause-cut c =
    let text = c.args.text.now in
    let k = prefix_len is_plain text in
    let here : after_end c.split_at.result.1.now ≡ Some c.in_ok-after.after.now = search rules in
    let some : after_end (drop k text) ≡ Some c.in_ok-after.after.now = ap after_end (sym (c.split_at.ensures.back ∙ ap (λ n. drop n text) c.plain_len.ensures.value)) ∙ here in
    let good : IsFirstLine text (take k text) c.in_ok-after.after.now = subst (IsCut text k) some (cut text) in
    subst (λ part. IsFirstLine text part c.in_ok-after.after.now) (sym (c.split_at.ensures.front ∙ ap (λ n. take n text) c.plain_len.ensures.value)) good
