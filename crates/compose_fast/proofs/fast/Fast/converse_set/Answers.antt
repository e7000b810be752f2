use Rattle.std.proofs.Common.{◌≡◌, ℕ, refl, ◌+◌, ◌*◌, ◌/◌, ◌%◌, ◌^◌, ◌<◌, ◌≤◌, ap, sym, ◌∙◌, arith, inl, inr}
use Rattle.std.proofs.Math.Nat.{mod-one, div-eq_of_lt, pow-le-pow_right}
use Rattle.std.specs.Int.Bits.{or_zero_l}
use Rattle.std.specs.Prelude.{bit_or, slice_index}
use Rattle.std.proofs.lemmas.Bool.{cases_lt}
use Rattle.std.proofs.lemmas.List.{get_or_read}
use Rattle.std.proofs.lemmas.Nat.{shr-shr}
use Rattle.calculus_table.specs.Rel.{IsWithin}
use Rattle.calculus_table.specs.Algebra.{Algebra}
use Rattle.calculus_table.specs.Composition.{full_of, converse}
use Rattle.compose_fast.specs.Nibbles.{nibble, converse_of_place}
use Rattle.compose_fast.proofs.Rows.{converse-of_empty, converse-more}
use Rattle.compose_fast.proofs.fast.Fast.converse_set.Goals as goal

-- one nibble more, where its numbers are worked out
more-at : (m : Algebra) (x h k l d : ℕ) → IsWithin x (full_of m) → k ≡ 2 ^ (4 * h) → l ≡ 2 ^ (4 * (h + 1)) → d ≡ 16 * h + nibble x h →
    bit_or (converse m (x % k)) (converse_of_place m d) ≡ converse m (x % l)
more-at m x h k l d w ek el ed = rw (ek, el, ed) (converse-more m x h w)

-- the first nibble
converse-first : (m : Algebra) (x : ℕ) → IsWithin x (full_of m) → converse_of_place m (0 + nibble x 0) ≡ converse m (x % 16)
converse-first m x w =
    let none : converse m (x % 1) ≡ 0 = ap (converse m) (mod-one x) ∙ converse-of_empty m in
    sym (or_zero_l _) ∙ ap (λ y. bit_or y (converse_of_place m (0 + nibble x 0))) (sym none) ∙ more-at m x 0 1 16 (0 + nibble x 0) w refl refl (omega arith)

pub loop-rest-init : goal.loop-rest-init
loop-rest-init c =
    let m = c.args.self.now in
    let a = c.args.a in
    let low : c.converse_of_nibble-low.result ≡ converse m (a % 16) = c.converse_of_nibble-low.ensures ∙ converse-first m a c.requires in
    record {
      all = c.union-all.ensures ∙ ap (λ x. bit_or x c.converse_of_nibble.result) low
          ∙ ap (bit_or (converse m (a % 16))) c.converse_of_nibble.ensures ∙ more-at m a 1 16 256 (16 + nibble a 1) c.requires refl refl (omega arith);
      rest = ap (λ y. y / 256) c.word-rest.ensures;
    }

-- a word has 16 nibbles, so none is left after them
pub place_of-requires : goal.place_of-requires
place_of-requires c =
    let h = c.loop-rest.h in
    elim (cases_lt h 16) [
      | inl l ↦ l
      | inr g ↦
          (let wide : 64 ≤ 4 * h = omega arith in
          let most : 2 ^ 64 ≤ 2 ^ (4 * h) = pow-le-pow_right {n = 2} (omega arith) wide in
          let same = c.word-rest.ensures in
          let small : c.args.a < 2 ^ (4 * h) = omega (arith, c.word-rest.type_inv) in
          absurd (c.loop-rest-test.true (c.loop-rest.invariant.rest ∙ div-eq_of_lt small)))
    ]

pub loop-rest-preserved : goal.loop-rest-preserved
loop-rest-preserved c =
    let m = c.args.self.now in
    let p = rw c.self.view_is at c.self.invariant in
    let h = c.loop-rest.h in
    let d = 16 * h + nibble c.args.a h in
    let items = c.self.inside.places.items in
    let place : c.place_of.result ≡ d = c.place_of.ensures.value ∙ ap (λ y. 16 * h + y % 16) c.loop-rest.invariant.rest in
    let below : d < 256 = (let b = c.place_of.ensures.below in omega arith) in
    let read : c.index.result.now ≡ slice_index items d = get_or_read items _ _ (let long = p.converses_length in let b = c.place_of.ensures.below in omega arith) c.index.ensures 0 ∙ ap (slice_index items) place in
    let more : 4 * h + 4 ≡ 4 * (h + 1) = omega arith in
    record {
      all = c.union-all-in-loop-rest.ensures ∙ ap (λ x. bit_or x c.index.result.now) c.loop-rest.invariant.all
          ∙ ap (bit_or (converse m (c.args.a % 2 ^ (4 * h)))) (read ∙ p.converses_each d below)
          ∙ converse-more m c.args.a h c.requires;
      rest = ap (λ y. y / 2 ^ 4) c.loop-rest.invariant.rest ∙ shr-shr c.args.a (4 * h) 4 ∙ ap (λ k. c.args.a / 2 ^ k) more;
    }
