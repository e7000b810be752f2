use Rattle.std.proofs.Common.{◌≡◌, ◌+◌, ◌^◌, ◌++◌, ◌∷◌, [], map, sym, ap, ◌∙◌, arith}
use Rattle.std.specs.List.{range_with_len}
use Rattle.std.proofs.lemmas.List.FromFn.{map-range_with_len_more}
use Rattle.std.proofs.lemmas.Nat.{one_shl}
use Rattle.tract_classes.proofs.built_in.singles.Goals as goal

pub loop-r-preserved : goal.loop-r-preserved
loop-r-preserved c =
    let r = c.loop-r.r in
    let more : map (λ r. 2 ^ r) (range_with_len 0 (r + 1)) ≡ map (λ r. 2 ^ r) (range_with_len 0 r) ++ (2 ^ r) ∷ [] =
    map-range_with_len_more (λ r. 2 ^ r) 0 r r (omega arith) in
    c.in_ok-push-2.ensures.items ∙ ap (λ x. c.loop-r.sets.items ++ x ∷ []) (one_shl r 64 (omega (arith, c.requires, c.loop-r-test.true)))
    ∙ ap (λ xs. xs ++ (2 ^ r) ∷ []) c.loop-r.invariant ∙ ap (λ xs. 0 ∷ xs) (sym more)
