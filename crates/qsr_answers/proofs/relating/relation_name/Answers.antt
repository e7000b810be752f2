use Rattle.std.proofs.Common.{◌≡◌, codes, slice_get, ap, arith}
use Rattle.calculus_builtin.specs.Rcc8.{rcc8_names}
use Rattle.qsr_answers.proofs.PairTexts.{member-below, relation_named}
use Rattle.qsr_answers.proofs.relating.relation_name.Goals as goal

pub returns-in_default : goal.returns-in_default
returns-in_default c =
    let m = c.args.matrix.now in
    let below = member-below m c.rcc8.result c.least.result c.rcc8.ensures c.least.ensures.member in
    let last : c.least.result ≡ 7 = omega (arith, below) in
    relation_named m c.rcc8.result c.least.result c.rcc8.ensures c.least.ensures.member (codes "EQ") (ap (slice_get rcc8_names) last)
