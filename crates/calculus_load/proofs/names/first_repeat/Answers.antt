use Rattle.std.proofs.Common.{◌<◌, length, sym, ◌∙◌, arith}
use Rattle.calculus_load.proofs.NamesRead.{repeat_after-hit, repeat_after-miss}
use Rattle.calculus_load.proofs.names.first_repeat.Goals as goal

pub returns-then-is_among-clause-value : goal.returns-then-is_among-clause-value
returns-then-is_among-clause-value c =
    let names = c.args.names.now in
    let below : c.loop-at.at < length names = omega arith in
    sym (repeat_after-hit (λ name. name.now) names c.loop-at.at _ below (sym c.is_among.ensures ∙ c.if-is_among.true)) ∙ c.loop-at.invariant

pub loop-at-preserved : goal.loop-at-preserved
loop-at-preserved c =
    let names = c.args.names.now in
    let below : c.loop-at.at < length names = omega arith in
    sym (repeat_after-miss (λ name. name.now) names c.loop-at.at _ below (sym c.is_among.ensures ∙ c.if-is_among.false)) ∙ c.loop-at.invariant
