use Rattle.std.proofs.Common.{◌≡◌, ◌<◌, length, false, ap, sym, ◌∙◌, arith, rules}
use Rattle.qsr_lex.specs.TextLines.{first_line, is_clean, IsFirstLine}
use Rattle.line_files.specs.FileText.{FileText}
use Rattle.line_files.proofs.FileTexts.{file_text-line, file_text-bad}
use Rattle.line_files.proofs.lines.FileLines.end.Goals as goal

pub returns-in_default-clause-value : goal.returns-in_default-clause-value
returns-in_default-clause-value c =
    let text = c.loop-text.text.now in
    let some : 0 < length text = grind (arith, c.is_empty.ensures, c.loop-text-test.true) in
    let bad : is_clean (first_line text) ≡ false = search rules in
    sym (ap (λ (f : FileText). f.end) (file_text-bad c.loop-text.count text some bad)) ∙ c.loop-text.invariant.same

pub loop-text-preserved : goal.loop-text-preserved
loop-text-preserved c =
    let text = c.loop-text.text.now in
    let part = c.in-Some.first.part.now in
    let after = c.in-Some.first.after.now in
    let some : 0 < length text = grind (arith, c.is_empty.ensures, c.loop-text-test.true) in
    let is : IsFirstLine text part after = search rules in
    record {
      same = sym (ap (λ (f : FileText). f.end) (file_text-line c.loop-text.count text part after some is)) ∙ c.loop-text.invariant.same;
      room = omega (arith, c.in-Some.ensures.shorter some);
    }
