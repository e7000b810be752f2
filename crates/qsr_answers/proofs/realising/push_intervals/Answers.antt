use Rattle.std.proofs.Common.{◌≡◌, ℕ, List, ◌++◌, ◌∙◌, ap, append_assoc, codes}
use Rattle.std.specs.Fmt.{decimal}
use Rattle.std.specs.String.{string_bytes}
use Rattle.qsr_lex.proofs.WrittenTexts.{none_written, more_written}
use Rattle.allen_real.specs.Realisation.{interval_at}
use Rattle.qsr_answers.specs.Intervals.{interval_line, node_text}
use Rattle.qsr_answers.proofs.realising.push_intervals.Goals as goal

-- a line that is appended in two steps
shape : (text name low high : List ℕ) →
    (text ++ name) ++ low ++ codes " " ++ high ++ codes "\n" ≡ text ++ (name ++ low ++ codes " " ++ high ++ codes "\n")
shape text name low high = simp append_assoc

pub loop-node-init : goal.loop-node-init
loop-node-init c = none_written (string_bytes c.args.text.now) (interval_line c.args.net.now.names c.args.intervals.now)

pub loop-node-preserved : goal.loop-node-preserved
loop-node-preserved c =
    let names = c.args.net.now.names in
    let xs = c.args.intervals.now in
    let node = c.loop-node.node in
    let text = string_bytes c.loop-node.text in
    let low = decimal (interval_at xs node).low in
    let high = decimal (interval_at xs node).high in
    more_written (string_bytes c.args.text.now) text (string_bytes c.push_interval.new.text) node
    (interval_line names xs) c.loop-node.invariant
    (c.in_ok-push_interval.ensures
    ∙ ap (λ t. t ++ low ++ codes " " ++ high ++ codes "\n") c.in_ok-push_node.ensures
    ∙ shape text (node_text names node) low high)
