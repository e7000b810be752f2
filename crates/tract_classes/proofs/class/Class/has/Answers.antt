use Rattle.std.proofs.Common.{◌≡◌, ◌∙◌, ◌<◌, subst, ap, get_or, length, ◌/◌, ◌%◌, arith}
use Rattle.std.specs.Prelude.{◌↔◌, Contains}
use Rattle.std.proofs.lemmas.List.{get_or_read}
use Rattle.calculus_table.specs.Rel.{Has}
use Rattle.tract_classes.proofs.ClassRows.{in_its_row}
use Rattle.tract_classes.proofs.class.Class.has.Goals as goal

pub returns-then-row-len : goal.returns-then-row-len
returns-then-row-len c =
    let rows = c.self.inside.rows.items in
    let a = c.args.rel in
    let k : c.row_of-row.result ≡ a / 64 = c.row_of-row.ensures ∙ ap (λ w. w / 64) c.word.ensures in
    let inside : c.row_of-row.result < length rows = omega (arith, c.if-row-len.true, c.len.ensures, c.self.inside.rows.ok.0) in
    let row : c.index.result.now ≡ get_or rows (a / 64) 0 =
    get_or_read rows c.row_of-row.result c.index.result.now inside c.index.ensures 0 ∙ ap (λ j. get_or rows j 0) k in
    let place : c.word-then-row-len.result % 64 ≡ a % 64 = ap (λ w. w % 64) c.word-then-row-len.ensures in
    let f : Has (get_or rows (a / 64) 0) (a % 64) ↔ Contains c.self.inside.members.items a =
    in_its_row c.self.inside.members.items rows a c.self.invariant.are_rows (subst (λ j. j < length rows) k inside) in
    let g : Has c.index.result.now (c.word-then-row-len.result % 64) ↔ Contains c.args.self.now a = rw (row, place, ← c.self.view_is) f in
    (λ h. g.0 (c.has.ensures.0 h), λ d. c.has.ensures.1 (g.1 d))
