-- Copies of a network's lists.
use Rattle.std.proofs.Common.{◌≡◌, ℕ, List, [], ◌∷◌, map, refl, ap, ◌∙◌, String, Global}
use Rattle.std.specs.List.{AllZip}
use Rattle.std.specs.String.{string_bytes}
use Rattle.network_words.specs.Network.{Network}

-- names that are copies of others have the same bytes
pub names_copied : (R : String Global → String Global → Type 0) (xs ys : List (String Global)) → AllZip R xs ys → ((x y : String Global) → R x y → string_bytes y ≡ string_bytes x) → map string_bytes ys ≡ map string_bytes xs
names_copied R [] [] h same = refl
names_copied R [] (y ∷ ys) h same = absurd h
names_copied R (x ∷ xs) [] h same = absurd h
names_copied R (x ∷ xs) (y ∷ ys) h same = ap (λ b. b ∷ map string_bytes ys) (same x y h.0) ∙ ap (λ bs. string_bytes x ∷ bs) (names_copied R xs ys h.1 same)

pub network_copied : (nodes full : ℕ) (xs ys : List ℕ) (ns ms : List (List ℕ)) → ys ≡ xs → ms ≡ ns →
    record { nodes = nodes; full = full; words = ys; names = ms } ≡ (let net : Network = record { nodes = nodes; full = full; words = xs; names = ns } in net)
network_copied nodes full xs ys ns ms e h =
    let P : List ℕ → Network = λ ws. record { nodes = nodes; full = full; words = ws; names = ms } in
    let Q : List (List ℕ) → Network = λ ks. record { nodes = nodes; full = full; words = xs; names = ks } in
    ap P e ∙ ap Q h
