use Rattle.std.proofs.Common.{◌≡◌, ◌+◌, ◌*◌, ◌<◌, ◌++◌, length, refl, ap, ◌∙◌, arith}
use Rattle.std.specs.Prelude.{slice_index}
use Rattle.compose_fast.specs.Lanes.{HasLanes}
use Rattle.compose_fast.specs.Planes.{SetTables}
use Rattle.compose_fast.proofs.Parts.{full-lt}
use Rattle.compose_fast.proofs.PlaneLemmas.{table-read}
use Rattle.compose_fast.proofs.tables.Tables.table_of.Goals as goal

pub overflow_mul-at : goal.overflow_mul-at
overflow_mul-at g c = rw c.word.ensures (omega (arith, full-lt (g.C.Compose.algebra c.args.c.now) c.args.a 8 c.requires.within c.requires.enough))

pub overflow_add-at : goal.overflow_add-at
overflow_add-at g c = rw c.word.ensures (omega (arith, full-lt (g.C.Compose.algebra c.args.c.now) c.args.a 8 c.requires.within c.requires.enough))

pub overflow_add-at-2 : goal.overflow_add-at-2
overflow_add-at-2 g c = rw c.word.ensures (omega (arith, full-lt (g.C.Compose.algebra c.args.c.now) c.args.a 8 c.requires.within c.requires.enough))

pub load-requires : goal.load-requires
load-requires g c =
    let small : c.args.a < 256 = full-lt (g.C.Compose.algebra c.args.c.now) c.args.a 8 c.requires.within c.requires.enough in
    let long : length c.deref.result.now ≡ 139264 = ap length c.deref.ensures.value ∙ c.self.invariant.0 in
    omega (arith, c.word.ensures, long)

pub load-requires-2 : goal.load-requires-2
load-requires-2 g c =
    let small : c.args.a < 256 = full-lt (g.C.Compose.algebra c.args.c.now) c.args.a 8 c.requires.within c.requires.enough in
    let long : length c.deref-2.result.now ≡ 139264 = ap length c.deref-2.ensures.value ∙ c.self.invariant.0 in
    omega (arith, c.word.ensures, long)

pub returns : goal.returns
returns g c = record {
  each = λ p d pb db.
      let m = g.C.Compose.algebra c.args.c.now in
      let a = c.args.a in
      let small : a < 256 = full-lt m a 8 c.requires.within c.requires.enough in
      let first : p ≡ 0 = omega (arith, pb) in
      let bases = c.self.inside.bases.items in
      let word = c.word.ensures in
      let low : HasLanes 16 c.load.result (λ k. slice_index bases (131072 + 32 * a + k)) = record {
        long = c.load.ensures.long;
        each = λ k l. c.load.ensures.each k l ∙ ap (λ xs. slice_index xs (131072 + 32 * c.word.result + k)) c.deref.ensures.value ∙ ap (slice_index bases) (omega arith);
      } in
      let high : HasLanes 16 c.load-2.result (λ k. slice_index bases (131072 + 32 * a + (16 + k))) = record {
        long = c.load-2.ensures.long;
        each = λ k l. c.load-2.ensures.each k l ∙ ap (λ xs. slice_index xs (131072 + 32 * c.word.result + 16 + k)) c.deref-2.ensures.value ∙ ap (slice_index bases) (omega arith);
      } in
      rw first
      (ap (slice_index (c.load.result ++ c.load-2.result)) (omega arith) ∙ table-read c.load.result c.load-2.result (λ k. slice_index bases (131072 + 32 * a + k)) low high d (omega (arith, db))
      ∙ ap (λ (t : SetTables). slice_index t.bases (131072 + 32 * a + d)) c.self.view_is ∙ c.requires.bases.sets refl a small c.requires.within d (omega (arith, db)));
}
