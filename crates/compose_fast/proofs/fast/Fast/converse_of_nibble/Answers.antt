use Rattle.std.proofs.Common.{◌≡◌, ◌+◌, ◌*◌, ◌/◌, ◌%◌, ◌^◌, ◌<◌, ap, ◌∙◌, arith}
use Rattle.std.specs.Prelude.{slice_index}
use Rattle.std.proofs.lemmas.List.{get_or_read}
use Rattle.compose_fast.specs.Nibbles.{nibble}
use Rattle.compose_fast.proofs.Parts.{nibble-lt}
use Rattle.compose_fast.proofs.fast.Fast.converse_of_nibble.Goals as goal

pub returns : goal.returns
returns c =
    let p = rw c.self.view_is at c.self.invariant in
    let h = c.args.h in
    let d = 16 * h + nibble c.args.a h in
    let items = c.self.inside.places.items in
    let below : d < 256 = omega (arith, c.requires, nibble-lt c.args.a h) in
    let place : c.place_of.result ≡ d = c.place_of.ensures.value ∙ ap (λ y. 16 * h + y / 2 ^ (4 * h) % 16) c.word.ensures in
    get_or_read items _ _ (let long = p.converses_length in let b = c.place_of.ensures.below in omega arith) c.index.ensures 0 ∙ ap (slice_index items) place ∙ p.converses_each d below
