use Rattle.std.proofs.Common.{ap, ◌∙◌}
use Rattle.poly_exact.specs.Kept.{same_point, without_closing}
use Rattle.std.proofs.lemmas.List.Filters.{dedup_is}
use Rattle.std.specs.List.{dedup}
use Rattle.poly_exact.proofs.rings.kept_vertices.Goals as goal

pub returns : goal.returns
returns c =
    let copied = c.in_ok-vertices.ensures.items_if_clones_equal (λ x y e. e) in
    let cut = dedup_is same_point c.in_ok-vertices.vertices.items c.dedup.new.self.items c.dedup.ensures.filtered in
    c.drop_closing.ensures ∙ ap without_closing (cut ∙ ap (dedup same_point) copied)
