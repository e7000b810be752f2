-- Networks above one another: a network pushed, and whether the top has an empty set.
use Rattle.std.proofs.Common.{◌≡◌, ℕ, ◌<◌, List, [], ◌∷◌, ◌++◌, length, ◌∙◌, ap, map, reverse, rules, IsTrue, ◌↔◌, Option, Some, None, is_some, MatchOption, Contains, Vec, Global}
use Rattle.std.specs.Prelude.{slice_index, ◌≢◌}
use Rattle.std.proofs.lemmas.List.{reverse-append}
use Rattle.compose_fast.specs.Kernels.{IsFirstZero}
use Rattle.stepped_networks.specs.declared.stepped.Replaced.{Replaced}
use Rattle.stepped_networks.specs.Networks.{restored, networks_under}

pub first_zero-found : (o : Option ℕ) (xs : List ℕ) → MatchOption o ((k : ℕ) → k < length xs → slice_index xs k ≢ 0) (IsFirstZero xs) → IsTrue (is_some o) ↔ Contains xs 0
first_zero-found None xs h = (λ t. absurd (search rules), λ c. absurd (h c.0 c.1 c.2))
first_zero-found (Some at) xs f = (λ t. (at, f.below, f.here), λ c. search rules)

pub under-pushed : (before after : List ℕ) (trails items : List (Vec Replaced Global)) (v : Vec Replaced Global) → items ≡ trails ++ v ∷ [] → restored after v.items ≡ before →
    networks_under after (map (λ (t : Vec Replaced Global). t.items) (reverse items)) ≡ before ∷ networks_under before (map (λ (t : Vec Replaced Global). t.items) (reverse trails))
under-pushed before after trails items v e r =
    ap (λ ts. networks_under after (map (λ (t : Vec Replaced Global). t.items) (reverse ts))) e
    ∙ ap (λ ts. networks_under after (map (λ (t : Vec Replaced Global). t.items) ts)) (reverse-append trails (v ∷ []))
    ∙ ap (λ b. b ∷ networks_under b (map (λ (t : Vec Replaced Global). t.items) (reverse trails))) r
