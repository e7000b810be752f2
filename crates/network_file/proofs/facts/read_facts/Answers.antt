use Rattle.std.proofs.Common.{◌++◌, ◌∷◌, []}
use Rattle.network_file.proofs.FactLines.{at_false, facts-more}
use Rattle.network_file.proofs.facts.read_facts.Goals as goal

pub loop-line-preserved : goal.loop-line-preserved
loop-line-preserved c =
    let reads = at_false c.in_ok-read_line.field-0 _ _ c.if-branch.false c.in_ok-read_line.ensures.ok in (
      c.loop-line.invariant.0 ++ reads.fact ∷ [],
      facts-more c.args.c.now c.args.net.now c.loop-line.net c.read_line.new.net c.loop-line.invariant.0 c.args.lines.now c.loop-line.lines c.next_line.new.self c.in-Some.line.number c.in-Some.line.tokens c.loop-line.invariant.1 c.in-Some.ensures.lines c.next_line.ensures.end reads,
    )
