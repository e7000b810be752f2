use Rattle.std.proofs.Common.{◌≡◌, ◌∷◌, [], ◌++◌, arith, rules}
use Rattle.std.proofs.lemmas.List.FromFn.{map-range_with_len_more}
use Rattle.allen_real.specs.Classes.{ranked}
use Rattle.allen_real.specs.Realisation.{IsAllenScenario}
use Rattle.allen_real.proofs.Realised.{realise-by_ranks, ranks-bound}
use Rattle.allen_real.proofs.realising.realise.Goals as goal

pub loop-node-preserved : goal.loop-node-preserved
loop-node-preserved c =
    let pushed : c.push.new.self.items ≡ c.loop-node.intervals.items ++ c.ranked-interval.result ∷ [] = search rules in
    let interval = ranked c.args.nodes c.as_slice-bases.result.now c.in_ok-members.members.items in
    let more = map-range_with_len_more interval 0 c.loop-node.node c.loop-node.node (omega arith) in
    cc (pushed, more, c.deref.ensures.value, c.ranked-interval.ensures)

pub returns-clause-intervals : goal.returns-clause-intervals
returns-clause-intervals c =
    let n = c.args.nodes in
    let bases = c.as_slice-bases.result.now in
    let same : c.args.s.now ≡ bases = search rules in
    let all : c.loop-node.node ≡ n = omega arith in
    let scenario : IsAllenScenario n bases = rw same at c.requires.scenario in
    rw (c.loop-node.invariant, all, same)
    (realise-by_ranks n bases scenario c.in_ok-members.members.items c.in_ok-members.ensures)

pub returns-clause-bound : goal.returns-clause-bound
returns-clause-bound c =
    let n = c.args.nodes in
    let bases = c.as_slice-bases.result.now in
    let same : c.args.s.now ≡ bases = search rules in
    let all : c.loop-node.node ≡ n = omega arith in
    let scenario : IsAllenScenario n bases = rw same at c.requires.scenario in
    rw (c.loop-node.invariant, all)
    (ranks-bound n bases scenario c.in_ok-members.members.items c.in_ok-members.ensures)
