use Rattle.std.proofs.Common.{◌≡◌, ◌++◌, ℕ, List, ap, ◌∙◌}
use Rattle.network_words.specs.Network.{Network}
use Rattle.network_file.specs.NetworkText.{network_text}
use Rattle.minimal_net.specs.declared.edge_labels.EdgeLabels.{EdgeLabels}
use Rattle.minimal_net.specs.declared.outcome.Outcome.TheVariants.{Held, Refuted, Open}
use Rattle.minimal_net.specs.NetworkLabels.{count_of, left_of}
use Rattle.qsr_inputs.specs.Inputs.{Guided}
use Rattle.qsr_words.specs.Requests.{minimal_of}
use Rattle.qsr_answers.specs.Texts.{counts_line}
use Rattle.qsr_answers.proofs.MinimalAnswers.{closed_labels}
use Rattle.qsr_answers.proofs.Verdicts.{closed_network}
use Rattle.qsr_answers.proofs.labelling.labelled_answer.Goals as goal

pub label_network-requires-clause-network : goal.label_network-requires-clause-network
label_network-requires-clause-network g c κs within =
    let g0 : Guided = record { calculus = c.guided.inside.calculus; class = c.guided.inside.class } in
    let network = rw (← c.guided.view_is) at c.requires.network in
    let guides = rw (← c.guided.view_is) at c.requires.guides in
    let closure = rw c.in_ok-fast.ensures at c.in_ok-close_parallel.ensures.closure in
    rw c.in_ok-fast.ensures
    (closed_network g0 c.args.net c.close_parallel.new.net c.lawful.ensures network guides
    c.in_ok-close_parallel.ensures.rest closure)

pub label_network-requires-clause-bases : goal.label_network-requires-clause-bases
label_network-requires-clause-bases g c κs within =
    let guides = rw (← c.guided.view_is) at c.requires.guides in
    rw c.in_ok-fast.ensures guides.bases

pub returns : goal.returns
returns g c =
    let g0 : Guided = record { calculus = c.guided.inside.calculus; class = c.guided.inside.class } in
    let network = rw (← c.guided.view_is) at c.requires.network in
    let guides = rw (← c.guided.view_is) at c.requires.guides in
    let closure = rw c.in_ok-fast.ensures at c.in_ok-close_parallel.ensures.closure in
    let own = rw c.in_ok-fast.ensures at c.in_ok-labels.ensures in
    let labels : List EdgeLabels = c.in_ok-labels.labels.items in
    let closed : Network = c.close_parallel.new.net in
    let left : Network = c.leave.new.net in
    let rest : left ≡ record closed { words = left_of labels } =
    c.leave.ensures ∙ ap (λ ls. record closed { words = left_of ls }) c.deref.ensures.value in
    let counts = c.count_labels-counts.result in
    let told = c.count_labels-counts.ensures in
    let held : counts.held ≡ count_of Held labels = told.held ∙ ap (count_of Held) c.deref-2.ensures.value in
    let refuted : counts.refuted ≡ count_of Refuted labels =
    told.refuted ∙ ap (count_of Refuted) c.deref-2.ensures.value in
    let undecided : counts.undecided ≡ count_of Open labels =
    told.undecided ∙ ap (count_of Open) c.deref-2.ensures.value in
    let lines : List ℕ = network_text c.guided.inside.calculus left in
    rw (← c.guided.view_is)
    (closed_labels (minimal_of c.args.request.now) g0 c.args.net closed left c.lawful.ensures network guides
    c.in_ok-close_parallel.ensures.rest closure labels _ c.status-status.result own rest
    (c.in_ok-text.ensures
    ∙ ap (λ h. counts_line h counts.refuted counts.undecided ++ lines) held
    ∙ ap (λ r. counts_line (count_of Held labels) r counts.undecided ++ lines) refuted
    ∙ ap (λ u. counts_line (count_of Held labels) (count_of Refuted labels) u ++ lines) undecided)
    (c.status-status.ensures labels (ap (λ (n : Network). n.words) rest) undecided))
