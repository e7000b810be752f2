use Rattle.std.proofs.Common.{◌≡◌, ◌+◌, ◌*◌, ◌<◌, ap, ◌∙◌, arith}
use Rattle.std.specs.Prelude.{slice_index}
use Rattle.std.proofs.lemmas.List.{get_or_read}
use Rattle.calculus_table.specs.Composition.{composition}
use Rattle.calculus_table.proofs.Sets.{meet-within}
use Rattle.compose_fast.proofs.Parts.{full-lt}
use Rattle.stepped_networks.specs.Compositions.{set_at}
use Rattle.stepped_networks.proofs.compositions.Nibbles.compose_place.Goals as goal

pub overflow_add-d : goal.overflow_add-d
overflow_add-d c =
    let p = rw c.self.view_is at c.self.invariant in
    let byte : c.args.b < 256 = full-lt c.args.self.now c.args.b 8 c.requires.within p.few in
    rw c.word.ensures (omega (arith, c.requires.place, byte))

pub index-requires : goal.index-requires
index-requires c =
    let p = rw c.self.view_is at c.self.invariant in
    let byte : c.args.b < 256 = full-lt c.args.self.now c.args.b 8 c.requires.within p.few in
    rw c.word.ensures (omega (arith, c.requires.place, byte, p.pairs_length))

pub returns : goal.returns
returns c =
    let m = c.args.self.now in
    let d = c.args.d in
    let b = c.args.b in
    let p = rw c.self.view_is at c.self.invariant in
    let items = c.self.inside.pairs.items in
    let byte : b < 256 = full-lt m b 8 c.requires.within p.few in
    let read : c.index.result.now ≡ slice_index items (256 * d + c.word.result) =
    get_or_read items _ _ (rw c.word.ensures (omega (arith, c.requires.place, byte, p.pairs_length))) c.index.ensures 0 in
    c.of.ensures ∙ c.from.ensures ∙ read ∙ ap (λ y. slice_index items (256 * d + y)) c.word.ensures
    ∙ p.pairs_each d b c.requires.place byte ∙ ap (composition m (set_at m d)) (meet-within _ _ c.requires.within)
