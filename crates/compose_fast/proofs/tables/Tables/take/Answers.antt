use Rattle.std.proofs.Common.{◌≡◌, ℕ, ◌+◌, ◌*◌, ◌<◌, ◌++◌, ◌∙◌, ap, sym, subst, take, drop, length, arith}
use Rattle.std.proofs.lemmas.Grind.{common_steps}
use Rattle.std.specs.Prelude.{slice_index}
use Rattle.calculus_table.proofs.Unions.{IsUnionBut, IsUnionBut-step, IsUnionBut-end}
use Rattle.compose_fast.specs.Planes.{SetTables}
use Rattle.compose_fast.specs.Nibbles.{composition_at}
use Rattle.compose_fast.proofs.ByteUnions.{IsUnionBut-within, byte-union_over}
use Rattle.compose_fast.proofs.tables.Tables.take.Goals as goal

pub loop-bases-init : goal.loop-bases-init
loop-bases-init g c = λ p d pb db.
    IsUnionBut-within (g.C.Compose.algebra c.args.c.now) (λ r. slice_index c.as_slice-bases.result.now (2048 * r + 256 * p + d)) c.args.a _ c.requires.within (c.clear.ensures p d pb db)

pub loop-bases-preserved : goal.loop-bases-preserved
loop-bases-preserved g c = λ p d pb db.
    subst (IsUnionBut (g.C.Compose.algebra c.args.c.now).size (λ r. slice_index c.as_slice-bases.result.now (2048 * r + 256 * p + d)) c.args.a c.without-left.result)
    (sym (c.add_base.ensures p d pb db))
    (IsUnionBut-step _ (λ r. slice_index c.as_slice-bases.result.now (2048 * r + 256 * p + d)) c.args.a c.loop-bases.left _ c.least-r.result c.without-left.result (c.loop-bases.invariant p d pb db) c.without-left.ensures)

pub returns-clause-set : goal.returns-clause-set
returns-clause-set g c = record {
  each = λ p d pb db.
      let m = g.C.Compose.algebra c.args.c.now in
      let f = λ (r : ℕ). slice_index c.as_slice-bases.result.now (2048 * r + 256 * p + d) in
      let whole : take c.self.inside.set.len (c.loop-bases.set ++ drop (length c.loop-bases.set) c.self.inside.set.items) ≡ c.loop-bases.set = grind (arith, common_steps) in
      ap (λ xs. slice_index xs (256 * p + d)) whole
      ∙ IsUnionBut-end m.size f c.args.a c.loop-bases.left _ (c.is_empty.ensures.0 c.loop-bases-test.false) (c.loop-bases.invariant p d pb db)
      ∙ byte-union_over m.size p c.args.a f (λ r. composition_at m r d) (λ r l. ap (λ xs. slice_index xs (2048 * r + 256 * p + d)) (c.as_slice-bases.ensures.value ∙ ap (λ (t : SetTables). t.bases) c.self.view_is) ∙ c.requires.bases.each r p d l pb db);
}

pub returns-then-word-lt256-clause-set : goal.returns-then-word-lt256-clause-set
returns-then-word-lt256-clause-set g c = record {
  each = λ p d pb db.
      let set = c.copy_table.new.set in
      let one : g.row.P ≡ 1 = c.if-this-eq1.true in
      let few : c.args.a < 256 = (let w = c.word.ensures in let l = c.if-word-lt256.true in omega arith) in
      let first : p ≡ 0 = omega arith in
      let whole : take c.self.inside.set.len (set ++ drop (length set) c.self.inside.set.items) ≡ set = grind (arith, common_steps) in
      let at : 131072 + 32 * c.word-then-word-lt256.result + d ≡ 131072 + 32 * c.args.a + d = ap (λ y. 131072 + 32 * y + d) c.word-then-word-lt256.ensures in
      let bases = c.as_slice-bases.result.now in
      rw first
      (ap (λ xs. slice_index xs (256 * 0 + d)) whole ∙ ap (slice_index set) (omega arith) ∙ c.copy_table.ensures.here d (omega arith) ∙ ap (slice_index bases) at
      ∙ ap (λ xs. slice_index xs (131072 + 32 * c.args.a + d)) (c.as_slice-bases.ensures.value ∙ ap (λ (t : SetTables). t.bases) c.self.view_is)
      ∙ c.requires.bases.sets one c.args.a few c.requires.within d (omega arith));
}
