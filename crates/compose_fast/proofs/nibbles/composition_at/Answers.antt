use Rattle.std.proofs.Common.{◌≡◌, sym, ◌∙◌, ap}
use Rattle.std.specs.Prelude.{bit_and}
use Rattle.calculus_table.specs.Composition.{full_of, row_composition}
use Rattle.calculus_table.proofs.Sets.{IsWithin-meet_r}
use Rattle.compose_fast.specs.Nibbles.{set_of_place}
use Rattle.compose_fast.proofs.Rows.{composition-single_l, row_composition-empty}
use Rattle.compose_fast.proofs.nibbles.composition_at.Goals as goal

pub compose-requires-clause-second : goal.compose-requires-clause-second
compose-requires-clause-second g c = rw (c.meet-set.ensures, c.full.ensures) (IsWithin-meet_r _ _)

pub returns-then-is_empty : goal.returns-then-is_empty
returns-then-is_empty g c =
    let m = g.C.Compose.algebra c.args.c.now in
    let set : c.meet-set.result ≡ bit_and (set_of_place c.args.d) (full_of m) = rw (← c.set_of_place.ensures, ← c.full.ensures) c.meet-set.ensures in
    let empty : bit_and (set_of_place c.args.d) (full_of m) ≡ 0 = sym set ∙ c.is_empty.ensures.0 c.if-is_empty.true in
    sym (ap (row_composition m c.args.r) empty ∙ row_composition-empty m c.args.r c.requires.calculus.table c.requires.base)

pub returns : goal.returns
returns g c =
    rw (c.compose.ensures.value, c.single.ensures, c.meet-set.ensures, c.set_of_place.ensures, c.full.ensures)
    (composition-single_l (g.C.Compose.algebra c.args.c.now) c.args.r _ c.requires.calculus.table c.requires.base)
