use Rattle.std.proofs.Common.{arith}
use Rattle.std.specs.Slots.{slots_items, slots_counts}
use Rattle.edge_table.proofs.Places.{IsWritten-none, IsWritten-more, IsWritten-all}
use Rattle.edge_table.proofs.words.write_words.Goals as goal

pub loop-edge-init : goal.loop-edge-init
loop-edge-init c = IsWritten-none c.args.into.now (slots_items c.args.closed.now.words) c.words-words.ensures.length_is

pub loop-edge-preserved : goal.loop-edge-preserved
loop-edge-preserved c =
    let put = rw c.of.ensures at c.set.ensures in
    IsWritten-more c.args.into.now c.loop-edge.into c.set.new.self (slots_items c.args.closed.now.words) c.loop-edge.edge c.word.result c.loop-edge.invariant put c.word.ensures
    (omega (arith, c.loop-edge-test.true, c.edges-edge-end.ensures))

pub returns : goal.returns
returns c =
    IsWritten-all c.args.into.now c.loop-edge.into (slots_items c.args.closed.now.words) c.loop-edge.edge c.loop-edge.invariant
    (omega (arith, c.loop-edge-test.false, c.edges-edge-end.ensures))
    (omega (arith, c.requires.enough, (slots_counts c.args.closed.now.words).0))
