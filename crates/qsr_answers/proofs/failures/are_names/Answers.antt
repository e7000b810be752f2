use Rattle.std.proofs.Common.{◌≡◌, ◌&&◌, List, [], ◌∷◌, String, Global, map, refl, ap, ◌∙◌}
use Rattle.std.specs.Cmp.Lexicographic.{pointwise}
use Rattle.std.specs.Str.{bytes_eq}
use Rattle.std.specs.String.{string_bytes, string_eq}
use Rattle.std.proofs.lemmas.Slice.Eq.{slice_eq-Decides, bytes_eq-Decides}
use Rattle.qsr_answers.proofs.failures.are_names.Goals as goal

-- names are compared by their bytes
by_bytes : (xs ys : List (String Global)) → pointwise string_eq xs ys ≡ pointwise bytes_eq (map string_bytes xs) (map string_bytes ys)
by_bytes [] [] = refl
by_bytes [] (y ∷ ys) = refl
by_bytes (x ∷ xs) [] = refl
by_bytes (x ∷ xs) (y ∷ ys) = ap (λ b. bytes_eq (string_bytes x) (string_bytes y) && b) (by_bytes xs ys)

pub returns : goal.returns
returns c =
    let names = map string_bytes c.args.names.now in
    let same = c.eq.ensures ∙ by_bytes c.args.names.now c.names.result.now ∙ ap (pointwise bytes_eq names) c.names.ensures.value in
    slice_eq-Decides bytes_eq-Decides names c.args.calculus.now.names c.eq.result same
