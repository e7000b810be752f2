use Rattle.std.proofs.Common.{◌≡◌, ◌<◌, length, sym, ap, ◌∙◌, below_more, arith}
use Rattle.std.specs.Prelude.{slice_index}
use Rattle.std.proofs.lemmas.List.{length-set}
use Rattle.std.proofs.lemmas.Grind.{same_number_lists}
use Rattle.network_words.specs.Network.{Network}
use Rattle.stepped_networks.proofs.Trails.{KeepsTrail-then, KeepsTrail-nodes, words-then, replaced-done}
use Rattle.stepped_networks.proofs.stepped.replace_all.Goals as goal
use Rattle.stepped_networks.proofs.stepped.replace_all.Goals.{then-set-words+in_ok-replace, else-set-words}

pub loop-edge-preserved : goal.loop-edge-preserved
loop-edge-preserved c =
    let old = c.args.net.now in
    let net = c.loop-edge.net in
    let e = c.loop-edge.edge in
    let inv = c.loop-edge.invariant in
    let other = c.args.other.now.words in
    let nodes : net.nodes ≡ old.nodes = ap (λ (y : Network). y.nodes) inv.rest in
    let set = slice_index c.words-sets.result.now e in
    let is_set : set ≡ slice_index other e = ap (λ xs. slice_index xs e) c.words-sets.ensures.value in
    elim c.if-set-words.branch [
      | then-set-words+in_ok-replace w ↦
          (let done = w.in_ok-replace.ensures in
          let words = ap (λ (y : Network). y.words) done.words in
          let below : e < length net.words = omega (arith, c.words.ensures.length_is, ap length c.words.ensures.value, inv.length_is, c.requires.sized, c.edges-edge-end.ensures) in
          rw (w.net-is, w.trail-is) (record {
            rest = words-then old net w.replace.new.net _ inv.rest done.words;
            length_is = ap length words ∙ length-set net.words e _ ∙ inv.length_is;
            done = rw words (replaced-done net.words other e _ below (w.of.ensures ∙ is_set) inv.done);
            trail = KeepsTrail-then old.nodes old.words net.words w.replace.new.net.words c.args.trail.now.items c.loop-edge.trail.items w.replace.new.trail.items
                inv.trail (KeepsTrail-nodes net.nodes old.nodes net.words w.replace.new.net.words c.loop-edge.trail.items w.replace.new.trail.items nodes done.trail);
          }))
      | else-set-words w ↦
          (let same : slice_index net.words e ≡ slice_index other e = ap (λ xs. slice_index xs e) (sym c.words.ensures.value) ∙ sym w.if-set-words.false ∙ is_set in
          rw (w.net-is, w.trail-is) (record {
            rest = inv.rest;
            length_is = inv.length_is;
            done = below_more (λ k. slice_index net.words k ≡ slice_index other k) e inv.done same;
            trail = inv.trail;
          }))
    ]

pub returns-clause-words : goal.returns-clause-words
returns-clause-words c =
    let net = c.loop-edge.net in
    let inv = c.loop-edge.invariant in
    let other = c.args.other.now.words in
    let same : net.words ≡ other = same_number_lists net.words other (omega (arith, inv.length_is, c.requires.lengths)) (λ k b. inv.done k (omega (arith, inv.length_is, c.requires.sized, c.edges-edge-end.ensures))) in
    inv.rest ∙ ap (λ ws. record c.args.net.now { words = ws }) same
