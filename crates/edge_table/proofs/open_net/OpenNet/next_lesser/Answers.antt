use Rattle.std.proofs.Common.{◌≡◌, ◌+◌, ◌-◌, refl, ◌∙◌, subst, arith, false}
use Rattle.edge_table.proofs.Passes.{ReadsSome-same, IsReadAgain, IsReadAgain-none, IsReadAgain-more, IsReadAgain-same}
use Rattle.edge_table.proofs.open_net.OpenNet.next_lesser.Goals as goal

pub loop-edge-init : goal.loop-edge-init
loop-edge-init c =
    let none : 0 ≡ c.args.from - c.args.from = omega arith in
    record {
      pass = c.requires.pass;
      sofar = subst (λ n. IsReadAgain n c.args.pass.now c.args.pass.now c.args.snap.now false) none (IsReadAgain-none c.args.pass.now c.args.snap.now c.requires.snap);
      same = refl;
      after = omega arith;
      bounded = omega arith;
    }

pub loop-edge-preserved : goal.loop-edge-preserved
loop-edge-preserved c =
    let h = c.loop-edge.invariant in
    let count = c.loop-edge.edge - c.args.from in
    let more : count + 1 ≡ c.loop-edge.edge + 1 - c.args.from = omega (arith, h.after) in
    let again = IsReadAgain-same count c.args.pass.now c.loop-edge.pass c.load-word.new.pass c.loop-edge.snap c.take.new.self c.loop-edge.edge c.load-word.result c.take.result
    h.sofar c.load-word.ensures.sees c.load-word.ensures.shown c.take.ensures.words c.take.ensures.changed c.if-take.false in
    record {
      pass = c.load-word.ensures.pass;
      sofar = subst (λ n. IsReadAgain n c.args.pass.now c.load-word.new.pass c.take.new.self false) more again.0;
      same = again.1 ∙ h.same;
      after = omega (arith, h.after);
      bounded = omega (arith, h.after, c.loop-edge-test.true);
    }

pub returns-then-take-clause-reads : goal.returns-then-take-clause-reads
returns-then-take-clause-reads c =
    let h = c.loop-edge.invariant in
    let count = c.loop-edge.edge - c.args.from in
    let more : count + 1 ≡ c.loop-edge.edge + 1 - c.args.from = omega (arith, h.after) in
    let again = IsReadAgain-more count c.args.pass.now c.loop-edge.pass c.load-word.new.pass c.loop-edge.snap c.take.new.self c.loop-edge.edge c.load-word.result false c.take.result
    h.sofar c.load-word.ensures.sees c.load-word.ensures.shown c.take.ensures.words c.take.ensures.changed in
    ReadsSome-same (count + 1) (c.loop-edge.edge + 1 - c.args.from) c.args.pass.now c.load-word.new.pass more again.reads

pub returns-clause-reads : goal.returns-clause-reads
returns-clause-reads c =
    let h = c.loop-edge.invariant in
    let all : c.loop-edge.edge - c.args.from ≡ c.args.to - c.args.from = omega (arith, h.after, h.bounded, c.loop-edge-test.false) in
    ReadsSome-same (c.loop-edge.edge - c.args.from) (c.args.to - c.args.from) c.args.pass.now c.loop-edge.pass all h.sofar.reads
