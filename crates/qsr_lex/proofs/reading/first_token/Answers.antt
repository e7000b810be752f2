use Rattle.std.proofs.Common.{◌≡◌, ◌+◌, ◌<◌, ◌∷◌, length, take, drop, ap, sym, ◌∙◌, arith}
use Rattle.qsr_lex.specs.Lexemes.{lexemes, lexeme_with, tail_len}
use Rattle.qsr_lex.proofs.FrontTokens.{lexemes-front}
use Rattle.qsr_lex.proofs.reading.first_token.Goals as goal

pub returns : goal.returns
returns c =
    let front = c.from_token-front.result.now in
    let some : 0 < length front = grind (arith, c.is_empty.ensures, c.if-is_empty.false) in
    let cut = lexemes-front front some c.from_token-front.ensures.first in
    let len : c.tail_len.result ≡ tail_len front = c.tail_len.ensures.value in
    let text : c.split_at.result.0.now ≡ take (1 + tail_len front) front = c.split_at.ensures.front ∙ ap (λ n. take (1 + n) front) len in
    let after : c.split_at.result.1.now ≡ drop (1 + tail_len front) front = c.split_at.ensures.back ∙ ap (λ n. drop (1 + n) front) len in
    sym c.from_token-front.ensures.tokens ∙ cut
    ∙ ap (λ k. lexeme_with k (take (1 + tail_len front) front) ∷ lexemes (drop (1 + tail_len front) front)) (sym c.kind_of-kind.ensures)
    ∙ ap (λ t. lexeme_with c.kind_of-kind.result t ∷ lexemes (drop (1 + tail_len front) front)) (sym text)
    ∙ ap (λ bs. lexeme_with c.kind_of-kind.result c.split_at.result.0.now ∷ lexemes bs) (sym after)
