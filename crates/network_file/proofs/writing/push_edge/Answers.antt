use Rattle.std.proofs.Common.{◌≡◌, ◌++◌, slice_index, decimal, ap, ◌∙◌}
use Rattle.std.specs.String.{string_bytes}
use Rattle.network_words.specs.Edge.{edge_at}
use Rattle.named_sets.specs.Written.{set_line}
use Rattle.network_file.proofs.Texts.{edge_written}
use Rattle.network_file.proofs.writing.push_edge.Goals as goal

pub returns-clause-text : goal.returns-clause-text
returns-clause-text c =
    let net = c.args.net.now in
    let a = slice_index net.words (edge_at net.nodes c.args.i c.args.j) in
    let set : c.word.result ≡ a = c.word.ensures ∙ ap (slice_index net.words) c.edge.ensures.value in
    c.in_ok-push_line.ensures.ok ∙ ap (λ w. string_bytes c.push_nodes.new.text ++ set_line c.args.sets.now w) set ∙ ap (λ x. x ++ set_line c.args.sets.now a) c.in-Ok.ensures
    ∙ edge_written (string_bytes c.args.text.now) (decimal c.args.i) (decimal c.args.j) (set_line c.args.sets.now a)
