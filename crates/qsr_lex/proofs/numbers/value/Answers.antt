use Rattle.std.proofs.Common.{◌^◌, ◌<◌, ◌≤◌, take, get_or, arith}
use Rattle.std.proofs.lemmas.Int.Digits.{digits_value_more}
use Rattle.std.proofs.Math.Nat.{pow-le-pow_right}
use Rattle.std.specs.Char.{digit_value}
use Rattle.std.specs.Str.Parse.{digits_value}
use Rattle.qsr_lex.proofs.Digits.{AreDigits, AreDigits-from_test, digit_at, value_below, value_more}
use Rattle.qsr_lex.proofs.numbers.value.Goals as goal

pub overflow_mul-value : goal.overflow_mul-value
overflow_mul-value c =
    let text = c.args.digits.now in
    let i = c.loop-digit.digit-index in
    let is : AreDigits text = AreDigits-from_test text c.requires in
    let small : digits_value 10 (take i text) < 10 ^ i = value_below i text is.digits (omega arith) in
    let worth = digit_at text i is.digits (omega arith) in
    let more = value_more i (digits_value 10 (take i text)) (digit_value (get_or text i 0)) small (omega arith) worth.2 in
    omega (arith, more)

pub overflow_add-value : goal.overflow_add-value
overflow_add-value c =
    let text = c.args.digits.now in
    let i = c.loop-digit.digit-index in
    let is : AreDigits text = AreDigits-from_test text c.requires in
    let small : digits_value 10 (take i text) < 10 ^ i = value_below i text is.digits (omega arith) in
    let worth = digit_at text i is.digits (omega arith) in
    let more = value_more i (digits_value 10 (take i text)) (digit_value (get_or text i 0)) small (omega arith) worth.2 in
    omega (arith, more, worth)

pub loop-digit-preserved : goal.loop-digit-preserved
loop-digit-preserved c =
    let text = c.args.digits.now in
    let i = c.loop-digit.digit-index in
    let is : AreDigits text = AreDigits-from_test text c.requires in
    let worth = digit_at text i is.digits (omega arith) in
    let next = digits_value_more 10 text i (omega arith) in
    omega (arith, worth, next)

pub returns-clause-bound : goal.returns-clause-bound
returns-clause-bound c =
    let text = c.args.digits.now in
    let i = c.loop-digit.digit-index in
    let is : AreDigits text = AreDigits-from_test text c.requires in
    let small : digits_value 10 (take i text) < 10 ^ i = value_below i text is.digits (omega arith) in
    let last : i ≤ 18 = omega arith in
    let most : 10 ^ i ≤ 10 ^ 18 = pow-le-pow_right (omega arith) last in
    omega arith
