use Rattle.std.proofs.Common.{◌≡◌, ◌+◌, ◌*◌, ◌/◌, ◌^◌, ap, ◌∙◌, arith, bit_and}
use Rattle.std.proofs.lemmas.Nat.{and_mask}
use Rattle.compose_fast.specs.Nibbles.{byte}
use Rattle.compose_fast.proofs.Stores.{AreBytesBelow-step}
use Rattle.compose_fast.proofs.tables.put_set.Goals as goal

pub loop-p-preserved : goal.loop-p-preserved
loop-p-preserved g c =
    let p = c.loop-p.p in
    let one : bit_and (c.word.result / 2 ^ (8 * p)) 255 ≡ byte c.args.a p = and_mask (c.word.result / 2 ^ (8 * p)) 8 ∙ ap (λ x. byte x p) c.word.ensures in
    AreBytesBelow-step c.args.bytes.now c.loop-p.bytes (byte c.args.a) (λ q. 256 * q + c.args.at) p (bit_and (c.word.result / 2 ^ (8 * p)) 255) one (omega arith) (λ q l e. absurd (omega arith)) c.loop-p.invariant.here c.loop-p.invariant.elsewhere

pub returns-clause-elsewhere : goal.returns-clause-elsewhere
returns-clause-elsewhere g c = λ e apart. c.loop-p.invariant.elsewhere e (λ q l. apart q (omega arith))
