use Rattle.std.proofs.Common.{◌≡◌, ◌+◌, ◌*◌, ◌%◌, ◌^◌, ap, sym, ◌∙◌, arith}
use Rattle.std.specs.Prelude.{slice_index, bit_or}
use Rattle.edge_propagation.specs.Worklist.{set_of_bytes}
use Rattle.edge_propagation.proofs.Planes.{shifted-byte, set_of_bytes-none, set_of_bytes-more}
use Rattle.edge_propagation.proofs.pairs.join_bytes.Goals as goal

pub loop-p-init : goal.loop-p-init
loop-p-init c = sym (set_of_bytes-none c.args.bytes.now c.args.at)

pub loop-p-preserved : goal.loop-p-preserved
loop-p-preserved c =
    let p = c.loop-p.p in
    let y = slice_index c.args.bytes.now (256 * p + c.args.at) in
    let few = c.requires.few in
    let word : c.of.result ≡ y * 2 ^ (8 * p) = c.of.ensures ∙ ap (λ b. b * 2 ^ (8 * p) % 2 ^ 64) c.from-byte.ensures ∙ shifted-byte y p (omega arith) (omega arith) in
    c.union-all.ensures ∙ ap (λ x. bit_or x c.of.result) c.loop-p.invariant ∙ ap (bit_or (set_of_bytes c.args.bytes.now p c.args.at)) word
    ∙ sym (set_of_bytes-more c.args.bytes.now p c.args.at)

pub returns : goal.returns
returns c = c.loop-p.invariant ∙ ap (λ p. set_of_bytes c.args.bytes.now p c.args.at) (omega arith)
