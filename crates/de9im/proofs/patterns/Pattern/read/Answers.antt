use Rattle.std.proofs.Common.{◌∙◌, sym, arith}
use Rattle.de9im.proofs.PatternTexts.{read_more}
use Rattle.de9im.proofs.patterns.Pattern.read.Goals as goal

pub loop-k-preserved : goal.loop-k-preserved
loop-k-preserved c = read_more c.args.text.now c.loop-k.wants c.loop-k.k c.in-Some.w (omega arith) (omega arith) (sym c.read_byte.ensures ∙ c.in-Some.is) c.loop-k.invariant
