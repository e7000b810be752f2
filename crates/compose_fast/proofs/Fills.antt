-- Lists of one value.
use Rattle.std.proofs.Common.{◌≡◌, ℕ, ◌+◌, ◌*◌, ◌++◌, List, replicate, ap, ◌∙◌, arith}
use Rattle.std.proofs.lemmas.List.{replicate-append-replicate}

-- blocks of one value, and one block more
pub replicate-block : {A : Type 0} (k : ℕ) (x : A) (all block : List A) → all ≡ replicate (256 * k) x → block ≡ replicate 256 x → all ++ block ≡ replicate (256 * (k + 1)) x
replicate-block k x all block a b =
    let sum : 256 * k + 256 ≡ 256 * (k + 1) = omega arith in
    ap (λ xs. xs ++ block) a ∙ ap (λ ys. replicate (256 * k) x ++ ys) b ∙ replicate-append-replicate (256 * k) 256 x ∙ ap (λ n. replicate n x) sum
