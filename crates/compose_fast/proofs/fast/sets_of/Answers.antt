use Rattle.std.proofs.Common.{◌≡◌, ◌+◌, ◌*◌, ◌<◌, refl, ap, ◌∙◌, arith, length}
use Rattle.std.proofs.lemmas.Result.{IfOk-weaker}
use Rattle.std.specs.Prelude.{slice_index}
use Rattle.compose_fast.specs.FastTables.{AreSetTables}
use Rattle.compose_fast.proofs.Parts.{full-lt}
use Rattle.compose_fast.proofs.fast.sets_of.Goals as goal

pub returns : goal.returns
returns g c =
    let m = g.C.Compose.algebra c.args.c.now in
    let bases = c.fill.new.self.bases in
    IfOk-weaker c.copied.result (λ copy. copy.items ≡ c.sets.result.now) (λ sets. AreSetTables m sets.items)
    (λ copy same. record {
      length_is = λ few. ap length same ∙ c.sets.ensures.length_is;
      each = λ few a w d db.
          let small : a < 256 = full-lt m a 8 w few in
          ap (λ xs. slice_index xs (32 * a + d)) same ∙ c.sets.ensures.each (32 * a + d) (omega arith) ∙ ap (slice_index bases) (omega arith) ∙ c.fill.ensures.sets refl a small w d db;
    })
    c.copied.ensures
