-- What one element adds to a count: 1 where it passes the test, else 0.
use Rattle.std.proofs.Common.{◌≡◌, ◌≤◌, Bool, true, false, cond, refl, sym, arith}
use Rattle.std.proofs.lemmas.Bool.{true≢false}

pub step-mono : (b c : Bool) → (b ≡ true → c ≡ true) → cond b 1 0 ≤ cond c 1 0
step-mono false c h = omega arith
step-mono true true h = omega arith
step-mono true false h = absurd (true≢false (sym (h refl)))

pub step-above : (b : Bool) → b ≡ true → 1 ≤ cond b 1 0
step-above b e = rw e (omega arith)

pub step-none : (b : Bool) → b ≡ false → cond b 1 0 ≤ 0
step-none b e = rw e (omega arith)

pub step-le : (b : Bool) → cond b 1 0 ≤ 1
step-le true = omega arith
step-le false = omega arith

pub step-passes : (b : Bool) → 1 ≤ cond b 1 0 → b ≡ true
step-passes true h = refl
step-passes false h = absurd (omega arith)
