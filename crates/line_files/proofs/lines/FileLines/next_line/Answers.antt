use Rattle.std.proofs.Common.{◌≡◌, ◌+◌, ◌<◌, [], ◌∷◌, length, false, IsTrue, ap, sym, ◌∙◌, arith, rules}
use Rattle.std.proofs.lemmas.Grind.{common_steps}
use Rattle.qsr_lex.specs.Lexemes.{lexemes}
use Rattle.qsr_lex.specs.TextLines.{text_lines, first_line, is_clean, IsFirstLine}
use Rattle.qsr_lex.specs.TokenLines.{token_line}
use Rattle.line_files.specs.FileText.{FileText, file_text_from}
use Rattle.line_files.proofs.FileTexts.{file_text-line, file_text-blank, file_text-bad, add_line-some}
use Rattle.line_files.proofs.lines.FileLines.next_line.Goals as goal

pub returns-in_err-first-clause-lines : goal.returns-in_err-first-clause-lines
returns-in_err-first-clause-lines c =
    let text = c.loop-self.self-inside.text.now in
    let n = c.loop-self.self-inside.count in
    let some : 0 < length text = grind (arith, c.is_empty.ensures, c.loop-self-test.true) in
    let bad : is_clean (first_line text) ≡ false = search rules in
    let none : c.args.self.now.lines ≡ [] = ap (λ (f : FileText). f.lines) (sym c.loop-self.invariant.same ∙ file_text-bad n text some bad) in
    let same = c.loop-self.invariant.same in
    search rules

pub returns-then-not-is_empty-clause-lines : goal.returns-then-not-is_empty-clause-lines
returns-then-not-is_empty-clause-lines c =
    let text = c.loop-self.self-inside.text.now in
    let n = c.loop-self.self-inside.count in
    let part = c.in_ok-first.first.part.now in
    let after = c.in_ok-first.first.after.now in
    let rest = file_text_from (n + 1) (text_lines after) in
    let some : 0 < length text = grind (arith, c.is_empty.ensures, c.loop-self-test.true) in
    let is : IsFirstLine text part after = search rules in
    let full : lexemes part ≡ [] → ⊥ = λ e. (let t : IsTrue c.is_empty-in-loop-self.result = c.is_empty-in-loop-self.ensures.1 (c.new-tokens.ensures ∙ e) in let no : ⊥ = grind (arith, common_steps, t, c.if-not-is_empty.true) in no) in
    ap (λ (f : FileText). f.lines) (sym c.loop-self.invariant.same ∙ file_text-line n text part after some is)
    ∙ add_line-some (n + 1) (lexemes part) rest.lines full
    ∙ ap (λ xs. token_line (n + 1) xs ∷ rest.lines) (sym c.new-tokens.ensures)

pub returns-then-not-is_empty-clause-end : goal.returns-then-not-is_empty-clause-end
returns-then-not-is_empty-clause-end c =
    let text = c.loop-self.self-inside.text.now in
    let n = c.loop-self.self-inside.count in
    let part = c.in_ok-first.first.part.now in
    let after = c.in_ok-first.first.after.now in
    let some : 0 < length text = grind (arith, c.is_empty.ensures, c.loop-self-test.true) in
    let is : IsFirstLine text part after = search rules in
    sym (ap (λ (f : FileText). f.end) (sym c.loop-self.invariant.same ∙ file_text-line n text part after some is))

pub loop-self-preserved : goal.loop-self-preserved
loop-self-preserved c =
    let text = c.loop-self.self-inside.text.now in
    let n = c.loop-self.self-inside.count in
    let part = c.in_ok-first.first.part.now in
    let after = c.in_ok-first.first.after.now in
    let some : 0 < length text = grind (arith, c.is_empty.ensures, c.loop-self-test.true) in
    let is : IsFirstLine text part after = search rules in
    let empty : c.new-tokens.result ≡ [] = search rules in
    record {
      same = sym (file_text-blank n text part after some is (sym c.new-tokens.ensures ∙ empty)) ∙ c.loop-self.invariant.same;
      room = omega (arith, c.in_ok-first.ensures.shorter some);
    }
