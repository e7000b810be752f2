use Rattle.std.proofs.Common.{◌≡◌, ◌*◌, ◌%◌, ◌^◌, ap, sym, ◌∙◌, arith}
use Rattle.std.proofs.Math.Nat.{mod-one}
use Rattle.std.specs.Prelude.{bit_or}
use Rattle.calculus_table.specs.Composition.{composition}
use Rattle.calculus_table.proofs.Compositions.{composition-within}
use Rattle.compose_fast.specs.Nibbles.{byte}
use Rattle.compose_fast.proofs.Parts.{bytes-more, bytes-whole, byte-word}
use Rattle.compose_fast.proofs.tables.Tables.compose.Goals as goal

pub loop-p-init : goal.loop-p-init
loop-p-init g c = sym (mod-one (composition (g.C.Compose.algebra c.args.c.now) c.args.a c.args.b))

pub loop-p-preserved : goal.loop-p-preserved
loop-p-preserved g c =
    let x = composition (g.C.Compose.algebra c.args.c.now) c.args.a c.args.b in
    let p = c.loop-p.p in
    let few = c.requires.few in
    let word : c.of.result ≡ byte x p * 2 ^ (8 * p) =
    c.of.ensures ∙ ap (λ y. y * 2 ^ (8 * p) % 2 ^ 64) (c.from-byte.ensures ∙ c.compose_byte.ensures) ∙ byte-word x p (omega (arith, c.loop-p-test.true)) in
    c.union-all.ensures ∙ ap (λ y. bit_or y c.of.result) c.loop-p.invariant ∙ ap (bit_or (x % 2 ^ (8 * p))) word ∙ bytes-more x p

pub returns : goal.returns
returns g c =
    let m = g.C.Compose.algebra c.args.c.now in
    let out = c.loop-p-test.false in
    let end = c.loop-p.auto in
    c.loop-p.invariant ∙ bytes-whole m (composition m c.args.a c.args.b) c.loop-p.p (composition-within m c.args.a c.args.b c.lawful.ensures.table) (omega (arith, c.requires.enough))
