use Rattle.poly_exact.proofs.Judged.{up_read, down_read}
use Rattle.poly_exact.proofs.locations.is_between.Goals as goal

pub returns-then-u-z : goal.returns-then-u-z
returns-then-u-z c = up_read c.args.u c.args.v c.args.z c.requires.first c.requires.second c.ranges.z c.if-u-v.true c.if-u-z.true

pub returns-then-v-z : goal.returns-then-v-z
returns-then-v-z c = down_read c.args.u c.args.v c.args.z c.requires.first c.requires.second c.ranges.z c.if-u-v.false c.if-v-z.true
