use Rattle.std.proofs.Common.{◌≡◌, ℕ, ◌+◌, ◌*◌, ◌/◌, ◌%◌, ◌^◌, ◌<◌, ap, sym, ◌∙◌, arith, length}
use Rattle.std.proofs.Math.Nat.{mod-one, div-one}
use Rattle.std.specs.Prelude.{bit_or, slice_index}
use Rattle.std.proofs.lemmas.List.{get_or_read}
use Rattle.std.proofs.lemmas.Nat.{shr-shr}
use Rattle.calculus_table.specs.Composition.{row_composition}
use Rattle.compose_fast.specs.Nibbles.{nibble}
use Rattle.compose_fast.proofs.Parts.{nibbles-whole, nibble-lt}
use Rattle.compose_fast.proofs.Rows.{row_composition-empty, row_composition-more}
use Rattle.compose_fast.proofs.fast.Fast.compose_base.Goals as goal

inside : (r d n l : ℕ) → l ≡ 256 * n → r < n → d < 256 → 256 * r + d < l
inside r d n l e a b = omega arith

pub loop-h-init : goal.loop-h-init
loop-h-init c =
    let p = rw c.self.view_is at c.self.invariant in
    record {
      all = sym (ap (row_composition c.args.self.now c.args.r) (mod-one c.args.b) ∙ row_composition-empty c.args.self.now c.args.r p.calculus.table c.requires.base);
      rest = c.word-rest.ensures ∙ sym (div-one c.args.b);
    }

pub loop-h-preserved : goal.loop-h-preserved
loop-h-preserved c =
    let m = c.args.self.now in
    let p = rw c.self.view_is at c.self.invariant in
    let h = c.loop-h.h in
    let d = 16 * h + nibble c.args.b h in
    let below : d < 256 = omega (arith, p.few, nibble-lt c.args.b h) in
    let items = c.self.inside.rows.items in
    let place : c.place_of.result ≡ d = c.place_of.ensures.value ∙ ap (λ y. 16 * h + y % 16) c.loop-h.invariant.rest in
    let read : c.index.result.now ≡ slice_index items (256 * c.args.r + d) = get_or_read items _ _ (inside c.args.r c.place_of.result m.size (length items) p.rows_length c.requires.base c.place_of.ensures.below) c.index.ensures 0 ∙ ap (slice_index items) (ap (λ x. 256 * c.args.r + x) place) in
    let more : 4 * h + 4 ≡ 4 * (h + 1) = omega arith in
    record {
      all = c.union-all.ensures ∙ ap (λ x. bit_or x c.index.result.now) c.loop-h.invariant.all
          ∙ ap (bit_or (row_composition c.args.self.now c.args.r (c.args.b % 2 ^ (4 * h)))) (read ∙ p.rows_each c.args.r d c.requires.base below)
          ∙ row_composition-more m c.args.r c.args.b h p.calculus.table c.requires.base c.requires.within;
      rest = ap (λ y. y / 2 ^ 4) c.loop-h.invariant.rest ∙ shr-shr c.args.b (4 * h) 4 ∙ ap (λ k. c.args.b / 2 ^ k) more;
    }

pub returns : goal.returns
returns c =
    let m = c.args.self.now in
    let p = rw c.self.view_is at c.self.invariant in
    let out = c.loop-h-test.false in
    c.loop-h.invariant.all ∙ ap (row_composition c.args.self.now c.args.r) (nibbles-whole m c.args.b c.loop-h.h c.requires.within (omega (arith, p.enough)))
