use Rattle.std.proofs.Common.{◌/◌, ◌%◌, ◌<◌, ap, ◌∙◌}
use Rattle.std.proofs.lemmas.Nat.{div-add-mod'}
use Rattle.std.proofs.Math.Nat.{mod-lt, div-lt_iff_lt-mul}
use Rattle.std.specs.Prelude.{slice_index}
use Rattle.calculus_table.proofs.Compositions.{Has-full}
use Rattle.calculus_table.proofs.Singles.{single-within, composition-single}
use Rattle.scenario.proofs.entries.entry_at.Goals as goal

pub compose-requires-clause-first : goal.compose-requires-clause-first
compose-requires-clause-first g c =
    let m = (g.C.Compose.algebra c.args.c.now) in
    let below : c.args.e / m.size < m.size = (div-lt_iff_lt-mul c.lawful.ensures.table.some).1 c.requires in
    rw (c.single.ensures, c.size-size.ensures.value) (single-within _ _ (Has-full m (c.args.e / m.size) below))

pub compose-requires-clause-second : goal.compose-requires-clause-second
compose-requires-clause-second g c =
    let m = (g.C.Compose.algebra c.args.c.now) in
    rw (c.single-2.ensures, c.size-size.ensures.value) (single-within _ _ (Has-full m (c.args.e % m.size) (mod-lt c.args.e c.lawful.ensures.table.some)))

pub returns : goal.returns
returns g c =
    let m = (g.C.Compose.algebra c.args.c.now) in
    let below : c.args.e / m.size < m.size = (div-lt_iff_lt-mul c.lawful.ensures.table.some).1 c.requires in
    rw (c.compose.ensures.value, c.single.ensures, c.single-2.ensures, c.size-size.ensures.value)
    (composition-single m (c.args.e / m.size) (c.args.e % m.size) c.lawful.ensures.table below (mod-lt c.args.e c.lawful.ensures.table.some)
    ∙ ap (slice_index m.table) (div-add-mod' c.args.e m.size))
