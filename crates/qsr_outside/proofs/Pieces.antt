-- Pieces that are copied from one list of bytes into another.
use Rattle.std.proofs.Common.{◌≡◌, ℕ, ◌≤◌, List, ◌++◌, length, take, drop, sym, ap, ◌∙◌, take-append-drop, length-take-le}
use lib.Seq.{take-append_seam}

-- the first n of the bytes left, copied to the front of a buffer, and what is left after them are all that was left
pub copied_front : (left copied rest after : List ℕ) (n : ℕ) → n ≤ length left → copied ≡ take n left → after ≡ drop n left → left ≡ take n (copied ++ rest) ++ after
copied_front left copied rest after n fits is others =
    let long : length copied ≡ n = ap length is ∙ length-take-le n left fits in
    let front : take n (copied ++ rest) ≡ copied = ap (λ k. take k (copied ++ rest)) (sym long) ∙ take-append_seam copied rest in
    sym (ap (λ l. l ++ after) (front ∙ is) ∙ ap (λ l. take n left ++ l) others ∙ take-append-drop n left)
