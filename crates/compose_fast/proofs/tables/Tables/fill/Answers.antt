use Rattle.std.proofs.Common.{◌≡◌, ◌+◌, ◌*◌, ◌++◌, ap, ◌∙◌, take, drop, length, arith}
use Rattle.std.proofs.lemmas.Grind.{common_steps}
use Rattle.std.specs.Prelude.{slice_index}
use Rattle.compose_fast.specs.Nibbles.{byte, composition_at}
use Rattle.compose_fast.proofs.Stores.{AreBasesBelow-step}
use Rattle.compose_fast.proofs.tables.Tables.fill.Goals as goal
use Rattle.compose_fast.proofs.tables.Tables.fill.Goals.{then-d, else-d, then-this-eq1, else-this-eq1}

pub loop-e-preserved : goal.loop-e-preserved
loop-e-preserved g c =
    let m = g.C.Compose.algebra c.args.c.now in
    let e = c.loop-e.e in
    λ r p d rb pb db l. elim c.if-d.branch [
      | then-d w ↦ rw w.bases-is
          (AreBasesBelow-step c.loop-e.bases w.put_set.new.bytes (λ r p d. byte (composition_at m r d) p) g.row.P e c.requires.few w.if-d.true
          (λ q p d pb db l. c.loop-e.invariant q p d (let size = c.size-size.ensures.value in let inside = c.loop-e-test.true in omega arith) pb db l)
          (λ p b. w.put_set.ensures.here p b ∙ ap (λ x. byte x p) w.composition_at.ensures) w.put_set.ensures.elsewhere r p d pb db l)
      | else-d w ↦ rw w.bases-is (c.loop-e.invariant r p d rb pb db (let out = w.if-d.false in omega arith))
    ]

pub fill_sets-requires-clause-bases : goal.fill_sets-requires-clause-bases
fill_sets-requires-clause-bases g c = λ r d rb db.
    let one : g.row.P ≡ 1 = c.if-this-eq1.true in
    let out = c.loop-e-test.false in
    let size = c.size-size.ensures.value in
    ap (slice_index c.loop-e.bases) (omega arith) ∙ c.loop-e.invariant r 0 d rb (omega arith) (omega arith) (omega arith)

pub returns : goal.returns
returns g c =
    let out = c.loop-e-test.false in
    let size = c.size-size.ensures.value in
    elim c.if-this-eq1.branch [
      | then-this-eq1 w ↦
          (let made = w.fill_sets.new.bases in
          let whole : take c.self.inside.bases.len (made ++ drop (length made) c.self.inside.bases.items) ≡ made = grind (arith, common_steps) in
          rw (w.self-inside-is, whole) (record {
            each = λ r p d rb pb db. w.fill_sets.ensures.before (2048 * r + 256 * p + d) (omega arith) ∙ c.loop-e.invariant r p d rb pb db (omega arith);
            sets = λ one. w.fill_sets.ensures.sets;
          }))
      | else-this-eq1 w ↦
          (let made = c.loop-e.bases in
          let whole : take c.self.inside.bases.len (made ++ drop (length made) c.self.inside.bases.items) ≡ made = grind (arith, common_steps) in
          rw (w.self-inside-is, whole) (record {
            each = λ r p d rb pb db. c.loop-e.invariant r p d rb pb db (omega arith);
            sets = λ one. absurd (w.if-this-eq1.false one);
          }))
    ]
