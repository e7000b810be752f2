use Rattle.std.proofs.Common.{◌≡◌, ◌<◌, true, false, length, sym, ap, ◌∙◌, subst, arith}
use Rattle.std.specs.Prelude.{slice_index}
use Rattle.network_words.specs.Edge.{edge_between, IsProperPair}
use Rattle.network_words.specs.Network.{Network, IsNetwork}
use Rattle.network_words.proofs.Pairs.{edge_between-lt}
use Rattle.stepped_networks.proofs.Worked.{after_step-network}
use Rattle.stepped_networks.proofs.Passes.{goes-left, goes-taken, ends-taken}
use Rattle.stepped_networks.proofs.ruling.look_at.Goals as goal

pub returns-then-not-branch-clause-going : goal.returns-then-not-branch-clause-going
returns-then-not-branch-clause-going c =
    let net = c.args.net.now in
    let words = ap (λ (y : Network). y.words) c.in_ok-narrow.ensures.words in
    λ _. goes-left c.args.c.now net.nodes c.args.cut c.args.made.now.items net.words c.narrow.new.net.words c.args.step.now words (sym c.in_ok-narrow.ensures.made ∙ c.if-not-branch.true)

pub returns-then-not-branch-clause-network : goal.returns-then-not-branch-clause-network
returns-then-not-branch-clause-network c =
    let net = c.args.net.now in
    subst (IsNetwork c.args.c.now net.nodes) (sym (ap (λ (y : Network). y.words) c.in_ok-narrow.ensures.words)) (after_step-network c.args.c.now net.nodes net.words c.args.step.now c.requires.network)

pub returns-then-cut-clause-network : goal.returns-then-cut-clause-network
returns-then-cut-clause-network c =
    let net = c.args.net.now in
    subst (IsNetwork c.args.c.now net.nodes) (sym (ap (λ (y : Network). y.words) c.in_ok-narrow.ensures.words)) (after_step-network c.args.c.now net.nodes net.words c.args.step.now c.requires.network)

pub returns-else-cut-clause-network : goal.returns-else-cut-clause-network
returns-else-cut-clause-network c =
    let net = c.args.net.now in
    subst (IsNetwork c.args.c.now net.nodes) (sym (ap (λ (y : Network). y.words) c.in_ok-narrow.ensures.words)) (after_step-network c.args.c.now net.nodes net.words c.args.step.now c.requires.network)

pub returns-else-cut-clause-going : goal.returns-else-cut-clause-going
returns-else-cut-clause-going c =
    let net = c.args.net.now in
    let words = ap (λ (y : Network). y.words) c.in_ok-narrow.ensures.words in
    λ no_cut. goes-taken c.args.c.now net.nodes c.args.cut c.args.made.now.items c.push.new.self.items net.words c.narrow.new.net.words c.args.step.now
    c.in-Ok.ensures.items words (sym c.in_ok-narrow.ensures.made ∙ c.if-not-branch.false) (λ cut. absurd (let bad : true ≡ false = sym cut ∙ no_cut in cc))

pub returns-then-cut-clause-going : goal.returns-then-cut-clause-going
returns-then-cut-clause-going c =
    let net = c.args.net.now in
    let step = c.args.step.now in
    let words = ap (λ (y : Network). y.words) c.in_ok-narrow.ensures.words in
    let edge : c.edge_between-edge.result ≡ edge_between net.nodes step.i step.k = c.edge_between-edge.ensures.value ∙ ap (λ n. edge_between n step.i step.k) (c.nodes.ensures.value ∙ c.in_ok-narrow.ensures.nodes) in
    let set : c.word.result ≡ slice_index c.narrow.new.net.words (edge_between net.nodes step.i step.k) = c.word.ensures ∙ ap (slice_index c.narrow.new.net.words) edge in
    λ some. goes-taken c.args.c.now net.nodes c.args.cut c.args.made.now.items c.push.new.self.items net.words c.narrow.new.net.words step
    c.in-Ok.ensures.items words (sym c.in_ok-narrow.ensures.made ∙ c.if-not-branch.false)
    (λ _ none. absurd (let bad : true ≡ false = sym (c.is_empty.ensures.1 (set ∙ none)) ∙ some in cc))

pub returns-then-cut-clause-ended : goal.returns-then-cut-clause-ended
returns-then-cut-clause-ended c =
    let net = c.args.net.now in
    let step = c.args.step.now in
    let words = ap (λ (y : Network). y.words) c.in_ok-narrow.ensures.words in
    let edge : c.edge_between-edge.result ≡ edge_between net.nodes step.i step.k = c.edge_between-edge.ensures.value ∙ ap (λ n. edge_between n step.i step.k) (c.nodes.ensures.value ∙ c.in_ok-narrow.ensures.nodes) in
    let set : c.word.result ≡ slice_index c.narrow.new.net.words (edge_between net.nodes step.i step.k) = c.word.ensures ∙ ap (slice_index c.narrow.new.net.words) edge in
    let pair : IsProperPair net.nodes step.i step.k = record { first_below = c.requires.proper.first_below; second_below = c.requires.proper.third_below; differ = c.requires.proper.first_third } in
    let below : edge_between net.nodes step.i step.k < length net.words = omega (arith, edge_between-lt net.nodes step.i step.k pair, c.requires.network.length_is) in
    λ empty. (
      c.if-cut.true,
      ends-taken c.args.c.now net.nodes c.args.cut c.args.made.now.items c.push.new.self.items net.words c.narrow.new.net.words step
          c.in-Ok.ensures.items words (sym c.in_ok-narrow.ensures.made ∙ c.if-not-branch.false) c.if-cut.true below (sym set ∙ c.is_empty.ensures.0 empty),
    )
