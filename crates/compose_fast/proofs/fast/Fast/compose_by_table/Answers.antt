use Rattle.std.proofs.Common.{◌≡◌, ◌+◌, ◌*◌, ◌/◌, ◌%◌, ◌<◌, ap, ◌∙◌, arith}
use Rattle.std.proofs.lemmas.List.{get_or_read}
use Rattle.std.proofs.lemmas.Nat.{and_mask}
use Rattle.std.specs.Prelude.{bit_and, slice_index}
use Rattle.compose_fast.proofs.Parts.{full-lt}
use Rattle.compose_fast.proofs.SetTables.{composition-by_table}
use Rattle.compose_fast.proofs.fast.Fast.compose_by_table.Goals as goal

pub overflow_mul-table : goal.overflow_mul-table
overflow_mul-table c = rw c.word.ensures (omega (arith, full-lt c.args.self.now c.args.a 8 c.requires.first c.requires.few))

pub overflow_add-table : goal.overflow_add-table
overflow_add-table c =
    let first : c.word.result < 256 = rw c.word.ensures (full-lt c.args.self.now c.args.a 8 c.requires.first c.requires.few) in
    let low : bit_and c.word-2.result 15 ≡ c.word-2.result % 16 = and_mask c.word-2.result 4 in
    omega arith

pub index-low-requires : goal.index-low-requires
index-low-requires c =
    let p = rw c.self.view_is at c.self.invariant in
    let first : c.word.result < 256 = rw c.word.ensures (full-lt c.args.self.now c.args.a 8 c.requires.first c.requires.few) in
    let low : bit_and c.word-2.result 15 ≡ c.word-2.result % 16 = and_mask c.word-2.result 4 in
    omega (arith, p.of_sets.length_is c.requires.few)

pub overflow_add-table-2 : goal.overflow_add-table-2
overflow_add-table-2 c =
    let first : c.word.result < 256 = rw c.word.ensures (full-lt c.args.self.now c.args.a 8 c.requires.first c.requires.few) in
    omega arith

pub overflow_add-table-3 : goal.overflow_add-table-3
overflow_add-table-3 c =
    let first : c.word.result < 256 = rw c.word.ensures (full-lt c.args.self.now c.args.a 8 c.requires.first c.requires.few) in
    let second : c.word-3.result < 256 = rw c.word-3.ensures (full-lt c.args.self.now c.args.b 8 c.requires.second c.requires.few) in
    omega arith

pub index-high-requires : goal.index-high-requires
index-high-requires c =
    let p = rw c.self.view_is at c.self.invariant in
    let first : c.word.result < 256 = rw c.word.ensures (full-lt c.args.self.now c.args.a 8 c.requires.first c.requires.few) in
    let second : c.word-3.result < 256 = rw c.word-3.ensures (full-lt c.args.self.now c.args.b 8 c.requires.second c.requires.few) in
    omega (arith, p.of_sets.length_is c.requires.few)

pub returns : goal.returns
returns c =
    let m = c.args.self.now in
    let a = c.args.a in
    let b = c.args.b in
    let p = rw c.self.view_is at c.self.invariant in
    let sets = c.self.inside.sets.items in
    let long = p.of_sets.length_is c.requires.few in
    let small : a < 256 = full-lt m a 8 c.requires.first c.requires.few in
    let small_too : b < 256 = full-lt m b 8 c.requires.second c.requires.few in
    let first = c.word.ensures in
    let second = c.word-2.ensures in
    let third = c.word-3.ensures in
    let mask : bit_and c.word-2.result 15 ≡ c.word-2.result % 16 = and_mask c.word-2.result 4 in
    let at_low : 32 * c.word.result + bit_and c.word-2.result 15 ≡ 32 * a + b % 16 = omega arith in
    let at_high : 32 * c.word.result + 16 + c.word-3.result / 16 ≡ 32 * a + (16 + b / 16) = omega arith in
    let low : c.index-low.result.now ≡ slice_index sets (32 * a + b % 16) = get_or_read sets _ _ (omega arith) c.index-low.ensures 0 ∙ ap (slice_index sets) at_low in
    let high : c.index-high.result.now ≡ slice_index sets (32 * a + (16 + b / 16)) = get_or_read sets _ _ (omega arith) c.index-high.ensures 0 ∙ ap (slice_index sets) at_high in
    c.of.ensures ∙ c.from.ensures
    ∙ composition-by_table m a b p.calculus.table c.requires.few c.requires.second sets (32 * a) c.index-low.result.now c.index-high.result.now (p.of_sets.each c.requires.few a c.requires.first) low high
