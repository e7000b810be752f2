use Rattle.std.proofs.Common.{◌≡◌, ◌<◌, [], ◌∷◌, sym, ap, ◌∙◌, subst, Vec, Global, false}
use Rattle.std.specs.Prelude.{All, bit_and, slice_set}
use Rattle.std.proofs.lemmas.List.Elements.{All-append, All-cons, All-nil}
use Rattle.network_words.specs.Edge.{edge_count}
use Rattle.network_words.specs.Network.{Network, IsNetwork}
use Rattle.stepped_networks.specs.declared.stepped.Replaced.{Replaced}
use Rattle.stepped_networks.specs.Networks.{NetworkStack, IsTrail}
use Rattle.split_trees.specs.Refutes.{met_at}
use Rattle.stepped_networks.specs.Passes.{AreStepsOf}
use Rattle.stepped_networks.proofs.Worked.{met_at-network}
use Rattle.stepped_networks.proofs.Trails.{IsTrail-none}
use Rattle.stepped_networks.proofs.Stacks.{under-pushed}
use Rattle.stepped_networks.proofs.stepped.Stepped.enter_ruled.Goals as goal
use Rattle.stepped_networks.proofs.stepped.Stepped.enter_ruled.Goals.{In-Ok}

pub rule-requires-clause-network : goal.rule-requires-clause-network
rule-requires-clause-network c =
    let a = c.self.inside in
    let net : IsNetwork a.calculus a.net.nodes a.net.words = rw (← c.self.view_is) at c.requires.network in
    let words = ap (λ (y : Network). y.words) c.in_ok-replace.ensures.words in
    rw (c.calculus.ensures, c.in_ok-replace.ensures.nodes, words, c.meet-set.ensures, c.word.ensures) (met_at-network a.calculus a.net.nodes a.net.words c.args.edge c.args.part net)

-- what leads back to the network under the new one
trail : (c : In-Ok) → IsTrail c.self.inside.net.nodes c.self.inside.net.words c.rule.new.net.words c.rule.new.trail.items
trail c =
    let a = c.self.inside in
    let none : IsTrail a.net.nodes a.net.words a.net.words c.new-trail.result.items = rw c.new-trail.ensures.items (IsTrail-none a.net.nodes a.net.words) in
    let met = c.in_ok-replace.ensures.trail a.net.words none in
    subst (λ n. IsTrail n a.net.words c.rule.new.net.words c.rule.new.trail.items) c.in_ok-replace.ensures.nodes
    (c.in_ok-steps.ensures.trail a.net.words (subst (λ n. IsTrail n a.net.words c.replace.new.net.words c.replace.new.trail.items) (sym c.in_ok-replace.ensures.nodes) met))

pub invariant_of-self-2 : goal.invariant_of-self-2
invariant_of-self-2 c =
    let n = c.self.inside.net.nodes in
    let t = trail c in
    rw (c.in-Ok.ensures.items, c.in_ok-steps.ensures.nodes, c.in_ok-replace.ensures.nodes) (
      c.self.invariant.0,
      All-append (λ (v : Vec Replaced Global). All (λ (r : Replaced). r.edge < edge_count n) v.items) c.self.inside.trails.items (c.rule.new.trail ∷ []) c.self.invariant.1
          (All-cons (λ (v : Vec Replaced Global). All (λ (r : Replaced). r.edge < edge_count n) v.items) c.rule.new.trail [] t.edges
          (All-nil (λ (v : Vec Replaced Global). All (λ (r : Replaced). r.edge < edge_count n) v.items))),
    )

pub returns-clause-stack : goal.returns-clause-stack
returns-clause-stack c =
    let a = c.self.inside in
    let t = trail c in
    let nodes : c.rule.new.net.nodes ≡ a.net.nodes = c.in_ok-steps.ensures.nodes ∙ c.in_ok-replace.ensures.nodes in
    let under = under-pushed a.net.words c.rule.new.net.words a.trails.items c.push.new.self.items c.rule.new.trail c.in-Ok.ensures.items t.restored_is in
    rw (← c.self.view_is) (λ i. let s : NetworkStack = record { algebra = a.calculus; nodes = nodes i; is_closed = false; top = c.rule.new.net.words; under = under i } in s)

pub returns-clause-steps : goal.returns-clause-steps
returns-clause-steps c =
    let a = c.self.inside in
    let words : c.replace.new.net.words ≡ met_at a.net.words c.args.edge c.args.part =
    ap (λ (y : Network). y.words) c.in_ok-replace.ensures.words ∙ ap (slice_set a.net.words c.args.edge) (c.meet-set.ensures ∙ ap (λ w. bit_and w c.args.part) c.word.ensures) in
    rw (← c.self.view_is) (subst (λ n. AreStepsOf c.args.cut a.calculus n (met_at a.net.words c.args.edge c.args.part) c.in_ok-steps.steps.items) c.in_ok-replace.ensures.nodes
    (subst (λ ws. AreStepsOf c.args.cut a.calculus c.replace.new.net.nodes ws c.in_ok-steps.steps.items) words (rw c.calculus.ensures at c.in_ok-steps.ensures.steps)))
