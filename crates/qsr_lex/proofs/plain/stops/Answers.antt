use Rattle.std.proofs.Common.{ℕ, bit_and, bit_or, leb, cond, refl}
use Rattle.std.proofs.lemmas.Simd.{zip2_splat, zip2_splat_left}
use Rattle.qsr_lex.proofs.PlainRuns.{lanes, mask-stops}
use Rattle.qsr_lex.proofs.plain.stops.Goals as goal

pub returns : goal.returns
returns c =
    let v = c.args.bytes in
    let long = c.fits-bytes.0 in
    mask-stops _ v _ long c.fits-bytes.1
    (lanes bit_or _ _ v
    (lanes bit_and _ _ v (zip2_splat {Y = ℕ} _ v 16 32 long) (zip2_splat {Y = ℕ} _ v 16 9 long))
    (lanes bit_or _ _ v (zip2_splat {Y = ℕ} _ v 16 35 long) (zip2_splat_left (λ (a b : ℕ). cond (leb a b) 255 0) 127 16 v long)))
    refl
