use Rattle.std.proofs.Common.{◌≡◌, ◌∙◌, ◌++◌, ◌∷◌, [], ◌^◌, ◌%◌, subst, sym, ap, get_or, set, arith}
use Rattle.std.specs.Prelude.{bit_or}
use Rattle.std.proofs.lemmas.List.{get_or_read}
use Rattle.tract_classes.specs.Kept.{AreRowsOf}
use Rattle.tract_classes.proofs.ClassRows.{AreRowsOf-beyond, AreRowsOf-added}
use Rattle.tract_classes.proofs.rows.add.Goals as goal

pub returns-then-row-rows : goal.returns-then-row-rows
returns-then-row-rows c sets are =
    let rows = c.args.rows.now in
    let a = c.args.word in
    let e = c.row_of-row.ensures in
    let old : c.index-rows-row.result ≡ get_or rows c.row_of-row.result 0 = get_or_read rows c.row_of-row.result c.index-rows-row.result c.if-row-rows.true c.index-rows-row.is 0 in
    let new : c.union.result ≡ bit_or (get_or rows c.row_of-row.result 0) (2 ^ (a % 64)) =
    c.union.ensures ∙ ap (λ w. bit_or w c.single.result) old ∙ ap (λ w. bit_or (get_or rows c.row_of-row.result 0) w) c.single.ensures in
    subst (λ w. AreRowsOf (sets ++ a ∷ []) (set rows c.row_of-row.result w)) (sym new)
    (subst (λ k. AreRowsOf (sets ++ a ∷ []) (set rows k (bit_or (get_or rows k 0) (2 ^ (a % 64))))) (sym e)
    (AreRowsOf-added sets rows a are (omega (arith, e, c.if-row-rows.true))))

pub returns-else-row-rows : goal.returns-else-row-rows
returns-else-row-rows c sets are = AreRowsOf-beyond sets c.args.rows.now c.args.word are (omega (arith, c.row_of-row.ensures, c.if-row-rows.false))
