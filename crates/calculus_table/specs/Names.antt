-- Names: where one stands among others.
use Rattle.std.specs.Prelude.{ℕ, suc, List, [], ◌∷◌, Option, Some, None, option_map, bytes_eq, if◌then◌else◌}

-- the place of a name among others
abbrev pub place_of : List ℕ → List (List ℕ) → Option ℕ
place_of name [] = None
place_of name (x ∷ xs) = if bytes_eq x name then Some 0 else option_map suc (place_of name xs)
