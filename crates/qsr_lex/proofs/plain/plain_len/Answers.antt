use Rattle.std.proofs.Common.{◌+◌, ◌≤◌, length, sym, ap, ◌∙◌, arith}
use lib.Count.{count_trailing_zeros}
use Rattle.qsr_lex.proofs.PlainRuns.{run-goes_on, run-ends, run-within}
use Rattle.qsr_lex.proofs.plain.plain_len.Goals as goal

pub loop-at-preserved : goal.loop-at-preserved
loop-at-preserved c =
    let h = c.loop-at.invariant in
    let run = run-goes_on c.args.text.now c.loop-at.at (omega arith) (omega (arith, c.stops-found.ensures)) in
    record { plain = omega (arith, run, h.plain); inside = omega arith }

pub returns-then-found-ne0-clause-value : goal.returns-then-found-ne0-clause-value
returns-then-found-ne0-clause-value c =
    let found = c.stops-found in
    let run = run-ends c.args.text.now c.loop-at.at (omega arith) (omega (arith, found.ensures)) ∙ ap (count_trailing_zeros 64) (sym found.ensures) in
    omega (arith, run, c.loop-at.invariant.plain)

pub returns-then-found-ne0-clause-bound : goal.returns-then-found-ne0-clause-bound
returns-then-found-ne0-clause-bound c =
    let found = c.stops-found in
    let run = run-ends c.args.text.now c.loop-at.at (omega arith) (omega (arith, found.ensures)) ∙ ap (count_trailing_zeros 64) (sym found.ensures) in
    omega (arith, run, run-within c.args.text.now c.loop-at.at c.loop-at.invariant.inside)
