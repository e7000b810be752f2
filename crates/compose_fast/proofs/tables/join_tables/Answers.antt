use Rattle.std.proofs.Common.{◌≡◌, ◌+◌, ap, ◌∙◌, arith}
use Rattle.std.specs.Prelude.{slice_index, bit_or}
use Rattle.compose_fast.proofs.Stores.{stored-both, stored-both-before}
use Rattle.compose_fast.proofs.tables.join_tables.Goals as goal

pub returns-clause-here : goal.returns-clause-here
returns-clause-here c = λ d l.
    let old = c.args.bases.now in
    let rest = c.args.rest in
    let base = c.args.base in
    rw (c.store-2.ensures, c.store.ensures)
    (stored-both old c.either-low.result c.either-high.result (λ k. bit_or (slice_index c.load.result k) (slice_index c.load-2.result k))
    (λ k. bit_or (slice_index c.load-3.result k) (slice_index c.load-4.result k)) (λ k. bit_or (slice_index old (rest + k)) (slice_index old (base + k))) c.args.at
    c.either-low.ensures c.either-high.ensures c.requires.inside
    (λ k b. ap (λ x. bit_or x (slice_index c.load-2.result k)) (c.load.ensures.each k b) ∙ ap (bit_or (slice_index old (rest + k))) (c.load-2.ensures.each k b))
    (λ k b.
    let first : slice_index c.load-3.result k ≡ slice_index old (rest + (16 + k)) = c.load-3.ensures.each k b ∙ ap (slice_index old) (omega arith) in
    let second : slice_index c.load-4.result k ≡ slice_index old (base + (16 + k)) = c.load-4.ensures.each k b ∙ ap (slice_index old) (omega arith) in
    ap (λ x. bit_or x (slice_index c.load-4.result k)) first ∙ ap (bit_or (slice_index old (rest + (16 + k)))) second) d l)

pub returns-clause-before : goal.returns-clause-before
returns-clause-before c = λ e l. rw (c.store-2.ensures, c.store.ensures) (stored-both-before c.args.bases.now c.either-low.result c.either-high.result _ _ c.args.at e c.either-low.ensures c.either-high.ensures l)
