use Rattle.std.proofs.Common.{◌≡◌, ◌+◌, ◌*◌, ◌<◌, refl, sym, ◌∙◌, ap, subst, arith, inl, inr}
use Rattle.std.specs.Prelude.{bit_and, bit_or, slice_index}
use Rattle.std.proofs.lemmas.Bool.{cases_eq}
use Rattle.calculus_table.specs.Rel.{Has, IsWithin, IsWithout}
use Rattle.calculus_table.specs.Composition.{full_of, row_composition, composition}
use Rattle.calculus_table.proofs.Sets.{IsWithin-trans}
use Rattle.calculus_table.proofs.Members.{full-member}
use Rattle.compose_fast.specs.Nibbles.{byte, set_of_place}
use Rattle.compose_fast.proofs.Parts.{byte-empty}
use Rattle.compose_fast.proofs.Rows.{composition-empty_l}
use Rattle.compose_fast.proofs.ByteUnions.{byte-composition-without}
use Rattle.compose_fast.proofs.tables.fill_sets.Goals as goal

pub loop-a-init : goal.loop-a-init
loop-a-init g c = record {
  length_is = refl;
  before = λ e l. refl;
  sets = λ b l w d db.
      let m = g.C.Compose.algebra c.args.c.now in
      let x = bit_and (set_of_place d) (full_of m) in
      let none : b ≡ 0 = omega arith in
      let empty : byte (composition m b x) 0 ≡ 0 = ap (λ y. byte (composition m y x) 0) none ∙ ap (λ y. byte y 0) (composition-empty_l m x c.requires.calculus.table) ∙ byte-empty 0 in
      ap (slice_index c.clear_table.new.bases) (omega arith) ∙ c.clear_table.ensures.here d db ∙ sym empty;
}

pub loop-a-preserved : goal.loop-a-preserved
loop-a-preserved g c =
    let m = g.C.Compose.algebra c.args.c.now in
    let a = c.loop-a.a in
    let r = c.least-r.result in
    let rest = c.without-rest.result in
    let bases = c.loop-a.bases in
    let some = c.least-r.ensures.below in
    let word = c.word.ensures in
    let p : IsWithout a r rest = subst (λ s. IsWithout s r rest) c.of-set.ensures c.without-rest.ensures in
    let less = p.less in
    record {
      length_is = c.join_tables.ensures.length_is ∙ c.loop-a.invariant.length_is;
      before = λ e l. c.join_tables.ensures.before e (omega arith) ∙ c.loop-a.invariant.before e l;
      sets = λ b l w d db.
          let x = bit_and (set_of_place d) (full_of m) in
          elim (cases_eq b a) [
            | inl same ↦
                (let member : Has b r = subst (λ s. Has s r) (sym same) p.member in
                let below : r < m.size = full-member m r (w.each r member) in
                let within = IsWithin-trans rest b (full_of m) (subst (λ s. IsWithin rest s) (sym same) p.within) w in
                let first : slice_index bases (131072 + 32 * c.word.result + d) ≡ byte (composition m rest x) 0 =
                ap (λ y. slice_index bases (131072 + 32 * y + d)) word ∙ c.loop-a.invariant.sets rest less within d db in
                let second : slice_index bases (2048 * r + d) ≡ byte (row_composition m r x) 0 =
                c.loop-a.invariant.before (2048 * r + d) (omega arith) ∙ c.clear_table.ensures.before (2048 * r + d) (omega arith) ∙ c.requires.bases r d below db in
                rw same
                (c.join_tables.ensures.here d db
                ∙ ap (λ y. bit_or y (slice_index bases (2048 * r + d))) first ∙ ap (bit_or (byte (composition m rest x) 0)) second
                ∙ byte-composition-without m a r rest x below p))
            | inr ne ↦ c.join_tables.ensures.before (131072 + 32 * b + d) (omega arith) ∙ c.loop-a.invariant.sets b (omega arith) w d db
          ];
    }
