use Rattle.std.proofs.Common.{ap, ◌∙◌, arith}
use Rattle.std.proofs.lemmas.List.Sums.{prefix_len-le-length}
use Rattle.std.proofs.Common.{drop}
use Rattle.qsr_lex.specs.Bytes.{is_blank}
use Rattle.qsr_lex.specs.Lexemes.{lexemes, starts_with_blank}
use Rattle.qsr_lex.proofs.FrontTokens.{lexemes-after_blanks, starts_with_blank-after_blanks}
use Rattle.qsr_lex.proofs.reading.from_token.Goals as goal

pub split_at-requires : goal.split_at-requires
split_at-requires c = omega (arith, prefix_len-le-length is_blank c.args.part.now)

pub returns-clause-tokens : goal.returns-clause-tokens
returns-clause-tokens c =
    ap lexemes (c.split_at.ensures.back ∙ ap (λ k. drop k c.args.part.now) c.blank_len.ensures) ∙ lexemes-after_blanks c.args.part.now

pub returns-clause-first : goal.returns-clause-first
returns-clause-first c =
    ap starts_with_blank (c.split_at.ensures.back ∙ ap (λ k. drop k c.args.part.now) c.blank_len.ensures) ∙ starts_with_blank-after_blanks c.args.part.now
