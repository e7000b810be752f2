use Rattle.std.proofs.Common.{◌≡◌, ◌≤◌, ◌*◌, length, sym, subst, ap, ◌∙◌, arith}
use Rattle.network_words.specs.Edge.{edge_count}
use Rattle.geo_sound.specs.Drawn.{rings_of}
use Rattle.geo_sound.proofs.Pieces.{pieces-bases}
use Rattle.geo_sound.proofs.Drawings.{length-rings_of}
use Rattle.geo_sound.proofs.drawing.compute.Goals as goal

pub returns-in-Ok : goal.returns-in-Ok
returns-in-Ok g c = λ bases joined.
    let polygons = c.args.polygons.now in
    let pieces = c.in-Ok.pieces.items in
    let edges = c.edges_of-edges.result in
    let size = c.piece_size-size.result in
    let count : length pieces ≡ c.piece_count-count.result = omega (arith, c.in-Ok.ensures.len, c.in-Ok.pieces.ok.0) in
    let enough : edges ≤ length pieces * size = subst (λ k. edges ≤ k * size)
    (sym count) c.piece_count-count.ensures.all in
    let all = pieces-bases (rings_of polygons) edges size pieces bases enough
    (λ i d less. (c.in-Ok.ensures.each i d (omega (arith, less, count))).1.met) joined in
    record {
      length_is = all.1 ∙ c.edges_of-edges.ensures.value ∙ ap edge_count (sym (length-rings_of polygons));
      bases_are = all.0;
    }
