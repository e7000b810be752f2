use Rattle.std.proofs.Common.{sym, ◌∙◌}
use Rattle.std.specs.Prelude.{◌&&◌}
use Rattle.poly_exact.specs.Located.{is_within}
use Rattle.poly_exact.proofs.Judged.{short_x, read_x, read_y, read_spot_x, read_spot_y}
use Rattle.poly_exact.proofs.locations.is_in_box.Goals as goal

pub is_between-requires-clause-first : goal.is_between-requires-clause-first
is_between-requires-clause-first c = short_x c.args.a c.requires.first

pub is_between-requires-clause-second : goal.is_between-requires-clause-second
is_between-requires-clause-second c = short_x c.args.b c.requires.second

pub returns-then-is_between : goal.returns-then-is_between
returns-then-is_between c =
    let a = c.args.a in let b = c.args.b in let p = c.args.p in
    let x = sym c.if-is_between.true ∙ c.is_between.ensures ∙ (λ i. is_within (read_x a c.requires.first i) (read_x b c.requires.second i) (read_spot_x p c.requires.point i)) in
    c.is_between-then-is_between.ensures ∙ (λ i. is_within (read_y a c.requires.first i) (read_y b c.requires.second i) (read_spot_y p c.requires.point i)) ∙ (λ i. x i && is_within a.y b.y p.y)
