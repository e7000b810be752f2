use Rattle.std.proofs.Common.{◌≡◌, ℕ, ◌+◌, ◌*◌, ◌/◌, ◌%◌, ◌<◌, ap, ◌∙◌, arith}
use Rattle.calculus_table.specs.Algebra.{Algebra}
use Rattle.compose_fast.specs.Nibbles.{row_entry, composition_at}
use Rattle.compose_fast.proofs.fast.Fast.of.Goals as goal

row_entry-at : (m : Algebra) (r d : ℕ) → d < 256 → row_entry m (256 * r + d) ≡ composition_at m r d
unfolding row_entry
row_entry-at m r d l =
    let q : (256 * r + d) / 256 ≡ r = omega arith in
    let s : (256 * r + d) % 256 ≡ d = omega arith in
    ap (λ x. composition_at m x ((256 * r + d) % 256)) q ∙ ap (composition_at m r) s

pub invariant_of-result : goal.invariant_of-result
invariant_of-result g c =
    let m = g.C.Compose.algebra c.args.c.now in
    let size = c.size-size.ensures.value in
    rw (size, c.identity.ensures, c.in_ok-converses.ensures, c.in_ok-entries.ensures)
    (record {
      calculus = c.lawful.ensures;
      full_is = c.full.ensures;
      enough = omega arith;
      few = omega (arith, c.lawful.ensures.table.bounded);
      rows_length = c.in_ok-rows.ensures.length_is;
      rows_each = λ r d rb db. c.in_ok-rows.ensures.each (256 * r + d) (omega arith) ∙ row_entry-at m r d db;
      converses_length = c.in_ok-places.ensures.length_is;
      converses_each = c.in_ok-places.ensures.each;
      of_sets = c.in_ok-sets.ensures;
    })
