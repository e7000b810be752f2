use Rattle.std.proofs.Common.{◌≡◌, ◌-◌, ◌^◌, ◌≤◌, ◌∙◌, ap, arith}
use Rattle.std.proofs.lemmas.Nat.Bits.{ones_shr}
use Rattle.calculus_table.proofs.table.Table.full.Goals as goal

pub returns : goal.returns
returns c =
    let n = c.self.inside.size in
    let low : n ≤ 64 = omega arith in
    let back : 64 - (64 - n) ≡ n = omega arith in
    c.of.ensures ∙ ones_shr 64 (64 - n) (omega arith) ∙ ap (λ k. 2 ^ k - 1) back ∙ ap (λ m. 2 ^ m.size - 1) c.self.view_is
