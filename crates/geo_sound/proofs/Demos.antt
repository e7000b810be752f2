-- The rings of a demonstration have a scenario of its network: it can't be that no list is one.
use Rattle.std.proofs.Common.{ℕ, ◌^◌, Bool, true, false, List, sym, subst, ◌∙◌}
use Rattle.calculus_table.specs.Rel.{Has}
use Rattle.calculus_table.proofs.Sets.{Has-single}
use Rattle.calculus_table.proofs.Members.{Has-full}
use Rattle.calculus_builtin.specs.Rcc8.{rcc8_algebra}
use Rattle.std.specs.Prelude.{slice_index}
use Rattle.network_words.specs.Edge.{edge_at}
use Rattle.network_words.proofs.Edges.{edge_at-lt}
use Rattle.poly_exact.specs.declared.points.Point.{Point}
use Rattle.geo_facts.specs.Facts.{IsRcc8}
use Rattle.geo_facts.specs.Demo.{demo_ring, is_forgotten, IsDrawnWord}
use Rattle.geo_sound.specs.Bases.{IsRegion, IsBaseOf}
use Rattle.geo_sound.specs.Laws.{DemoCanHold}
use Rattle.geo_sound.proofs.Views.{base_of, rcc8-base, base_of-below}
use Rattle.geo_sound.proofs.There.{matrix-there, scenario-there}
use Rattle.geo_sound.proofs.Rectangles.{demo-region}

-- an edge has a base relation

base-there : (forgotten : Bool) (vs ws : List Point) (word : ℕ) → IsRegion vs → IsRegion ws →
    IsDrawnWord forgotten vs ws word →
    ((base : ℕ) → IsBaseOf vs ws base → Has word base → ⊥) → ⊥
base-there true vs ws word x y e none =
    matrix-there vs ws (λ m is. none (base_of m)
    (record { first = x; second = y; relation = record { matrix = m; is_matrix = is; relation = sym (rcc8-base m) } })
    (subst (λ z. Has z (base_of m)) (sym e) (Has-full rcc8_algebra (base_of m) (base_of-below m))))
base-there false vs ws word x y h none =
    let is : IsRcc8 vs ws (2 ^ base_of h.matrix) =
    record { matrix = h.matrix; is_matrix = h.is_matrix; relation = sym (rcc8-base h.matrix) } in
    none (base_of h.matrix) (record { first = x; second = y; relation = is })
    (subst (λ z. Has z (base_of h.matrix)) (sym (h.relation ∙ rcc8-base h.matrix)) (Has-single (base_of h.matrix)))

pub demo-can_hold : DemoCanHold
demo-can_hold seed n net count demo none =
    scenario-there (demo_ring seed) n net.words (λ i j o b no.
    base-there (is_forgotten seed n (edge_at n i j)) (demo_ring seed i) (demo_ring seed j)
    (slice_index net.words (edge_at n i j)) (demo-region seed i) (demo-region seed j)
    (demo.words i j o b (edge_at-lt n i j o b)) no) none
