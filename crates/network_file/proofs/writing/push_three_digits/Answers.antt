use Rattle.std.proofs.Common.{arith}
use Rattle.std.specs.String.{string_bytes}
use Rattle.network_file.proofs.Texts.{last_digit_written}
use Rattle.network_file.proofs.writing.push_three_digits.Goals as goal

pub returns : goal.returns
returns c = last_digit_written c.args.number (string_bytes c.args.text.now) (string_bytes c.push_two_digits-2.new.text) (string_bytes c.push_digit.new.text) (omega arith) (omega arith)
    c.in_ok-push_two_digits.ensures c.in_ok-push_digit.ensures
