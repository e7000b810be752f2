use Rattle.std.proofs.Common.{◌≡◌, false, slice_index_or, refl, ap, ◌∙◌, arith}
use Rattle.std.proofs.lemmas.Bool.{agree_below_at}
use Rattle.qsr_lex.specs.Bytes.{is_word_byte}
use Rattle.qsr_lex.specs.declared.bytes.TheConstants.{WORD_BYTES}
use Rattle.qsr_lex.proofs.bytes.is_word_byte.Goals as goal

pub returns : goal.returns
returns c =
    let same : c.from.result ≡ c.args.byte = omega arith in
    agree_below_at (λ b. slice_index_or WORD_BYTES b false) is_word_byte 256 c.from.result refl (omega arith) ∙ ap is_word_byte same
