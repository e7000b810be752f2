use Rattle.std.proofs.Common.{◌≡◌, ◌++◌, sym, ap, subst, ◌∙◌}
use Rattle.std.specs.String.{string_bytes}
use Rattle.calculus_table.specs.Calculus.{EachBase}
use Rattle.calculus_builtin.specs.Rcc8.{rcc8_algebra}
use Rattle.network_words.specs.Network.{IsNetwork}
use Rattle.network_words.specs.Closure.{IsClosure}
use Rattle.tract_classes.specs.Class.{HasBase}
use Rattle.split_search.specs.Ruled.{IsVerdict}
use Rattle.split_search.specs.Verdicts.{nodes_of}
use Rattle.qsr_words.specs.Requests.{demo_of}
use Rattle.qsr_words.specs.declared.TheConstants.{MAX_BUDGET}
use Rattle.qsr_answers.specs.Texts.{verdict_line}
use Rattle.qsr_answers.specs.Verdicts.{verdict_word}
use Rattle.qsr_answers.specs.Demonstrations.{demo_head, members_in_all}
use Rattle.qsr_answers.proofs.SeedVerdicts.{h8_guides, seed-network, closed_seed-network, closed-demonstrates}
use Rattle.qsr_answers.proofs.demonstrating.demonstration.Goals as goal

pub close_parallel-requires-clause-network : goal.close_parallel-requires-clause-network
close_parallel-requires-clause-network g c κs within =
    let net = c.in_ok-net.net in
    let is : c.in_ok-fast.fast ≡ rcc8_algebra = c.in_ok-fast.ensures ∙ ap (λ k. k.algebra) c.in_ok-rcc8.ensures in
    subst (λ a. IsNetwork a net.nodes net.words) (sym is)
    (seed-network c.args.request.now.seed c.args.request.now.nodes net c.in_ok-net.kept c.in_ok-net.ensures)

pub solve_parallel-requires-clause-network : goal.solve_parallel-requires-clause-network
solve_parallel-requires-clause-network g c κs within =
    let net = c.in_ok-net.net in
    let closed = c.close_parallel.new.net in
    let is : c.in_ok-fast.fast ≡ rcc8_algebra = c.in_ok-fast.ensures ∙ ap (λ k. k.algebra) c.in_ok-rcc8.ensures in
    let closure = subst (λ a. IsClosure a net.nodes net.words closed.words) is c.in_ok-close_parallel.ensures.closure in
    subst (λ a. IsNetwork a closed.nodes closed.words) (sym is)
    (closed_seed-network c.args.request.now.seed c.args.request.now.nodes net c.in_ok-net.kept c.in_ok-net.ensures
    closed c.in_ok-close_parallel.ensures.rest closure)

pub solve_parallel-requires-clause-bases : goal.solve_parallel-requires-clause-bases
solve_parallel-requires-clause-bases g c κs within =
    let is : c.in_ok-fast.fast ≡ rcc8_algebra = c.in_ok-fast.ensures ∙ ap (λ k. k.algebra) c.in_ok-rcc8.ensures in
    subst (λ a. EachBase a (HasBase c.in_ok-class.class)) (sym is)
    (subst (λ class. EachBase rcc8_algebra (HasBase class)) (sym c.in_ok-class.ensures) h8_guides)

pub returns : goal.returns
returns g c =
    let asked = demo_of c.args.request.now in
    let net = c.in_ok-net.net in
    let closed = c.close_parallel.new.net in
    let v = c.in_ok-verdict.verdict in
    let is : c.in_ok-fast.fast ≡ rcc8_algebra = c.in_ok-fast.ensures ∙ ap (λ k. k.algebra) c.in_ok-rcc8.ensures in
    let closure = subst (λ a. IsClosure a net.nodes net.words closed.words) is c.in_ok-close_parallel.ensures.closure in
    let ruled = subst (λ class. IsVerdict rcc8_algebra closed.nodes class MAX_BUDGET closed.words v)
    c.in_ok-class.ensures
    (subst (λ a. IsVerdict a closed.nodes c.in_ok-class.class MAX_BUDGET closed.words v) is
    c.in_ok-verdict.ensures.ruled) in
    let members : c.members_in_all.result ≡ members_in_all closed.words = c.members_in_all.ensures
    ∙ ap members_in_all c.words.ensures.value in
    let line = verdict_line (verdict_word v) (nodes_of v) in
    closed-demonstrates asked net c.in_ok-net.kept c.in_ok-net.ensures closed c.in_ok-close_parallel.ensures.rest
    closure v (string_bytes c.in_ok-text.text) c.verdict_status.result ruled
    (c.in_ok-text.ensures ∙ ap (λ n. demo_head asked c.in_ok-net.kept n ++ line) members) c.verdict_status.ensures
