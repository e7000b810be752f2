use Rattle.std.proofs.Common.{◌≡◌, ℕ, ◌+◌, ◌*◌, ◌/◌, ◌%◌, ◌^◌, ◌<◌, ◌≤◌, ap, sym, ◌∙◌, arith, length}
use Rattle.std.proofs.Math.Nat.{mod-one, div-one}
use Rattle.std.specs.Prelude.{bit_and, bit_or, slice_index}
use Rattle.std.proofs.lemmas.List.{get_or_read}
use Rattle.std.proofs.lemmas.Nat.{shr-shr}
use Rattle.calculus_table.specs.Composition.{full_of, composition}
use Rattle.compose_fast.specs.Nibbles.{nibble, byte, set_of_place}
use Rattle.compose_fast.specs.Planes.{SetTables}
use Rattle.compose_fast.proofs.Parts.{byte-union, byte-empty, nibbles-whole, nibble-lt}
use Rattle.compose_fast.proofs.Rows.{composition-empty_r, composition-more}
use Rattle.compose_fast.proofs.tables.Tables.compose_byte.Goals as goal

inside : (p d n l : ℕ) → l ≡ 2048 → p < n → n ≤ 8 → d < 256 → 256 * p + d < l
inside p d n l e a b f = omega arith

pub loop-h-init : goal.loop-h-init
loop-h-init g c =
    let m = g.C.Compose.algebra c.args.c.now in
    record {
      all = sym (ap (λ x. byte (composition m c.args.a x) c.args.p) (mod-one c.args.b) ∙ ap (λ x. byte x c.args.p) (composition-empty_r m c.args.a c.lawful.ensures.table) ∙ byte-empty c.args.p);
      rest = c.word-rest.ensures ∙ sym (div-one c.args.b);
    }

pub loop-h-preserved : goal.loop-h-preserved
loop-h-preserved g c =
    let m = g.C.Compose.algebra c.args.c.now in
    let h = c.loop-h.h in
    let p = c.args.p in
    let d = 16 * h + nibble c.args.b h in
    let items = c.self.inside.set.items in
    let low = nibble-lt c.args.b h in
    let inner : d < 32 * g.row.P = omega (arith, c.loop-h-test.true, low) in
    let place : c.place_of.result ≡ d = c.place_of.ensures.value ∙ ap (λ y. 16 * h + y % 16) c.loop-h.invariant.rest in
    let read : c.index.result.now ≡ slice_index items (256 * p + d) =
    get_or_read items _ _ (inside p c.place_of.result g.row.P (length items) c.self.invariant.1 c.requires.plane c.requires.few c.place_of.ensures.below) c.index.ensures 0
    ∙ ap (slice_index items) (ap (λ x. 256 * p + x) place) in
    let entry : slice_index items (256 * p + d) ≡ byte (composition m c.args.a (bit_and (set_of_place d) (full_of m))) p =
    ap (λ (t : SetTables). slice_index t.set (256 * p + d)) c.self.view_is ∙ c.requires.tables.each p d c.requires.plane inner in
    let more : 4 * h + 4 ≡ 4 * (h + 1) = omega arith in
    let before = composition m c.args.a (c.args.b % 2 ^ (4 * h)) in
    let here = composition m c.args.a (bit_and (set_of_place d) (full_of m)) in
    let union : bit_or (byte before p) (byte here p) ≡ byte (composition m c.args.a (c.args.b % 2 ^ (4 * (h + 1)))) p =
    sym (byte-union before here p) ∙ ap (λ x. byte x p) (composition-more m c.args.a c.args.b h c.lawful.ensures.table c.requires.within) in
    record {
      all = ap (λ x. bit_or x c.index.result.now) c.loop-h.invariant.all ∙ ap (bit_or (byte before p)) (read ∙ entry) ∙ union;
      rest = ap (λ y. y / 2 ^ 4) c.loop-h.invariant.rest ∙ shr-shr c.args.b (4 * h) 4 ∙ ap (λ k. c.args.b / 2 ^ k) more;
    }

pub returns : goal.returns
returns g c =
    let m = g.C.Compose.algebra c.args.c.now in
    let out = c.loop-h-test.false in
    c.loop-h.invariant.all ∙ ap (λ x. byte (composition m c.args.a x) c.args.p)
    (nibbles-whole m c.args.b c.loop-h.h c.requires.within (omega (arith, c.requires.enough)))
