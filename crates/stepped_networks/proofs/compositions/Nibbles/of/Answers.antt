use Rattle.std.proofs.Common.{◌≡◌, ℕ, ◌+◌, ◌*◌, ◌/◌, ◌%◌, ◌<◌, ap, ◌∙◌, arith}
use Rattle.calculus_table.specs.Algebra.{Algebra}
use Rattle.calculus_table.specs.Composition.{composition}
use Rattle.stepped_networks.specs.Compositions.{set_at, set_of_byte, pair_entry}
use Rattle.stepped_networks.proofs.compositions.Nibbles.of.Goals as goal

pair_entry-at : (m : Algebra) (d b : ℕ) → b < 256 → pair_entry m (256 * d + b) ≡ composition m (set_at m d) (set_of_byte m b)
unfolding pair_entry
pair_entry-at m d b l =
    let q : (256 * d + b) / 256 ≡ d = omega arith in
    let r : (256 * d + b) % 256 ≡ b = omega arith in
    ap (λ x. composition m (set_at m x) (set_of_byte m ((256 * d + b) % 256))) q ∙ ap (λ y. composition m (set_at m d) (set_of_byte m y)) r

pub invariant_of-result : goal.invariant_of-result
invariant_of-result c = record {
  few = c.requires;
  pairs_length = c.in_ok-pairs.ensures.length_is;
  pairs_each = λ d b below byte. c.in_ok-pairs.ensures.each (256 * d + b) (omega arith) ∙ pair_entry-at c.args.calculus d b byte;
  converses_length = c.in_ok-converses.ensures.length_is;
  converses_each = c.in_ok-converses.ensures.each;
}
