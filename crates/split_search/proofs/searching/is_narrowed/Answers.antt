use Rattle.std.proofs.Common.{◌≡◌, ◌∙◌, length, sym, ap, arith}
use Rattle.std.specs.Prelude.{slice_set}
use Rattle.std.proofs.lemmas.List.{ext_get_or, length-set}
use Rattle.network_words.specs.Edge.{edge_count}
use Rattle.split_search.proofs.searching.is_narrowed.Goals as goal

pub returns : goal.returns
returns c = λ _.
    let words = c.args.net.now.words in
    let top = c.args.path.now.top in
    let other = slice_set top c.args.edge c.args.part in
    let long : length words ≡ edge_count c.args.path.now.nodes = c.nodes-nodes.ensures.shape.length_is
    ∙ ap edge_count c.requires.nodes in
    let same : length words ≡ length other = long ∙ sym c.requires.length_is
    ∙ sym (length-set top c.args.edge c.args.part) in
    let all : length words ≡ c.edges-other-end.result = long ∙ sym c.edges-other-end.ensures in
    ext_get_or 0 words other same (λ d below. c.loop-other.invariant d (let past = c.loop-other-test.false in
    omega (arith, below, past, all)))
