use Rattle.std.proofs.Common.{◌+◌, refl, ap, ◌∙◌, arith}
use Rattle.std.specs.Prelude.{slice_index}
use Rattle.std.specs.Simd.Lanes.{put_chunk}
use Rattle.compose_fast.proofs.Stores.{stored-both}
use Rattle.compose_fast.proofs.tables.copy_table.Goals as goal

pub returns-clause-here : goal.returns-clause-here
returns-clause-here c = λ d l.
    let bases = c.args.bases.now in
    let at = c.args.at in
    rw (c.store-2.ensures, c.store.ensures)
    (ap (slice_index (put_chunk 16 (put_chunk 0 c.args.set.now c.load-low.result) c.load-high.result)) (omega arith) ∙ stored-both c.args.set.now c.load-low.result c.load-high.result (λ k. slice_index bases (at + k)) (λ k. slice_index bases (at + 16 + k)) (λ k. slice_index bases (at + k)) 0
    c.load-low.ensures c.load-high.ensures c.requires.room (λ k b. refl) (λ k b. ap (slice_index bases) (omega arith)) d l)
