use Rattle.std.proofs.Common.{◌≡◌, ◌<◌, ap, ◌∙◌, arith}
use Rattle.std.specs.Prelude.{slice_index}
use Rattle.std.proofs.lemmas.List.{get_or_read}
use Rattle.calculus_table.specs.Composition.{converse}
use Rattle.calculus_table.proofs.Sets.{meet-within}
use Rattle.compose_fast.proofs.Parts.{full-lt}
use Rattle.stepped_networks.proofs.compositions.Nibbles.converse_set.Goals as goal

pub index-requires : goal.index-requires
index-requires c =
    let p = rw c.self.view_is at c.self.invariant in
    let byte : c.args.a < 256 = full-lt c.args.self.now c.args.a 8 c.requires p.few in
    rw c.word.ensures (omega (arith, byte, p.converses_length))

pub returns-clause-value : goal.returns-clause-value
returns-clause-value c =
    let m = c.args.self.now in
    let a = c.args.a in
    let p = rw c.self.view_is at c.self.invariant in
    let items = c.self.inside.converses.items in
    let byte : a < 256 = full-lt m a 8 c.requires p.few in
    let read : c.index.result.now ≡ slice_index items c.word.result =
    get_or_read items _ _ (rw c.word.ensures (omega (arith, byte, p.converses_length))) c.index.ensures 0 in
    c.of.ensures ∙ c.from.ensures ∙ read ∙ ap (slice_index items) c.word.ensures
    ∙ p.converses_each a byte ∙ ap (converse m) (meet-within _ _ c.requires)
