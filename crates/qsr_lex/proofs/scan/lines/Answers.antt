use Rattle.std.proofs.Common.{◌≡◌, ◌+◌, ◌-◌, ◌<◌, ◌++◌, [], false, length, sym, ◌∙◌, ap, subst, arith, rules}
use Rattle.std.proofs.lemmas.Grind.{common_steps}
use Rattle.std.proofs.lemmas.List.{append-nil, length-drop, length-take-le}
use Rattle.qsr_lex.specs.TextLines.{text_lines, first_line, first_line_len, is_clean, bad_line_from, IsFirstLine}
use Rattle.qsr_lex.specs.Tokens.{tokens_after, tokens_of_lines, AreApart, token_bytes}
use Rattle.qsr_lex.specs.TokenLines.{by_line}
use Rattle.qsr_lex.proofs.Scanning.{bad-here, bad-step, tokens-step, count-step, none_left, first_line_len-le}
use Rattle.qsr_lex.proofs.Spans.{AreApart-tokens_of, length-text_lines}
use Rattle.qsr_lex.proofs.NoByteLost.{token_bytes-tokens_of}
use Rattle.qsr_lex.proofs.Grouping.{by_line-tokens_of}
use Rattle.qsr_lex.proofs.scan.lines.Goals as goal

pub loop-rest-preserved : goal.loop-rest-preserved
loop-rest-preserved c =
    let rest = c.loop-rest.rest.now in
    let part = c.in-Some.first.part.now in
    let after = c.in-Some.first.after.now in
    let number = c.loop-rest.count + 1 in
    let at = length c.args.bytes.now - length rest in
    let some : 0 < length rest = grind (arith, c.is_empty.ensures, c.loop-rest-test.true) in
    let is : IsFirstLine rest part after = search rules in
    let pushed : c.add_tokens.new.tokens.items ≡ c.loop-rest.tokens.items ++ tokens_after number at 0 part = first_of (search rules, grind (arith, common_steps)) in
    let left = ap length is.is_after ∙ length-drop (first_line_len rest) rest in
    let whole = length-take-le (first_line_len rest) rest (first_line_len-le rest) in
    let next : length c.args.bytes.now - length after ≡ at + length (first_line rest) = omega (arith, first_line_len-le rest) in
    record {
      told = tokens-step c.loop-rest.tokens.items c.add_tokens.new.tokens.items _ number at _ rest part after c.loop-rest.invariant.told some is next pushed;
      counted = omega (arith, count-step rest part after some is);
      bad = sym (bad-step number rest part after some is) ∙ c.loop-rest.invariant.bad;
      room = omega (arith, c.in-Some.ensures.shorter some);
    }

pub returns-in_default-clause-stop : goal.returns-in_default-clause-stop
returns-in_default-clause-stop c =
    let rest = c.loop-rest.rest.now in
    let some : 0 < length rest = grind (arith, c.is_empty.ensures, c.loop-rest-test.true) in
    let bad : is_clean (first_line rest) ≡ false = search rules in
    sym c.loop-rest.invariant.bad ∙ bad-here (c.loop-rest.count + 1) rest some bad

pub returns-clause-allowed : goal.returns-clause-allowed
returns-clause-allowed c =
    let none = none_left c.loop-rest.rest.now (grind (arith, c.is_empty.ensures, c.loop-rest-test.false)) in
    sym c.loop-rest.invariant.bad ∙ ap (λ bs. bad_line_from (c.loop-rest.count + 1) (text_lines bs)) none

pub returns-clause-tokens : goal.returns-clause-tokens
returns-clause-tokens c =
    let none = none_left c.loop-rest.rest.now (grind (arith, c.is_empty.ensures, c.loop-rest-test.false)) in
    sym (append-nil c.loop-rest.tokens.items)
    ∙ ap (λ bs. c.loop-rest.tokens.items ++ tokens_of_lines (c.loop-rest.count + 1) (length c.args.bytes.now - length c.loop-rest.rest.now) (text_lines bs)) (sym none)
    ∙ c.loop-rest.invariant.told

pub returns-clause-apart : goal.returns-clause-apart
returns-clause-apart c = subst (λ ts. AreApart 0 ts (length c.args.bytes.now)) (sym (returns-clause-tokens c)) (AreApart-tokens_of c.args.bytes.now)

pub returns-clause-shown : goal.returns-clause-shown
returns-clause-shown c =
    let bs = c.args.bytes.now in
    ap (token_bytes bs) (returns-clause-tokens c) ∙ token_bytes-tokens_of bs bs [] (sym (append-nil bs))

pub returns-clause-lines : goal.returns-clause-lines
returns-clause-lines c =
    let bs = c.args.bytes.now in
    ap (by_line bs) (returns-clause-tokens c) ∙ by_line-tokens_of bs bs [] (sym (append-nil bs))

pub returns-clause-count : goal.returns-clause-count
returns-clause-count c =
    let none = none_left c.loop-rest.rest.now (grind (arith, c.is_empty.ensures, c.loop-rest-test.false)) in
    let left = ap (λ bs. length (text_lines bs)) none in
    omega (arith, left, length-text_lines c.args.bytes.now)
