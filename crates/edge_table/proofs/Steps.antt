-- Each step on the table is an event of its machine, so it keeps the rule.
use Rattle.std.proofs.Common.{◌≡◌, ℕ, ◌<◌, ◌≤◌, false, true, cond, List, [], ◌∷◌, ◌++◌, length, refl, sym, ◌∙◌, ap, subst, arith, Some}
use Rattle.std.specs.Prelude.{◌+◌, map, bit_and, slice_get, slice_index, slice_set, nat_lt, IsTrue}
use Rattle.std.proofs.lemmas.List.{length-set, get_or-set_same, set-get_or, map-set, map-append}
use mathlib.Core.Option.{some}
use lib.ListN.{get_elem?}
use Rattle.atomic_table.specs.Table.{State, Me, keeps, stepped, Allows, Splits, Joins}
use Rattle.atomic_table.proofs.Lists.{at_map, set_else, set_again}
use Rattle.std.proofs.lemmas.Option.{slice_get_within}
use Rattle.calculus_table.specs.Rel.{IsWithin}
use Rattle.calculus_table.specs.Algebra.{Algebra}
use Rattle.calculus_table.specs.Composition.{full_of, composition, converse}
use Rattle.calculus_table.proofs.Sets.{IsWithin-antisym, IsWithin-meet_r}
use Rattle.network_words.specs.declared.fact.Fact.{Fact}
use Rattle.network_words.specs.Edge.{edge_count, edge_at, edge_between, IsProperTriple}
use Rattle.network_words.specs.Network.{relation_between, narrowed_at, oriented}
use Rattle.network_words.proofs.Pairs.{pair-outer, edge_between-lt}
use Rattle.narrow_core.specs.declared.event.Event.TheVariants.{Assert, Read, Narrow}
use Rattle.narrow_core.specs.Actor.{ActorState, IsLiveAt, fresh, seeing, stating, giving, joining}
use Rattle.narrow_core.specs.Machine.{CoreState, IsProperFact}
use Rattle.narrow_core.specs.Bound.{Holds}
use Rattle.narrow_core.proofs.Places.{get-set_same}
use Rattle.narrow_core.proofs.Cores.{weights-one}
use Rattle.narrow_core.proofs.Runs.{Holds-step, Holds-split, Holds-join}
use Rattle.edge_table.specs.Opening.{algebra_of}
use Rattle.edge_table.specs.Rule.{core_of, IsKept, Loads, Meets, States, Weighs, keeping, beginning, uniting, no_view}
use Rattle.edge_table.specs.declared.rule.Opening.{Opening}
use Rattle.edge_table.specs.declared.sight.Sight.{Sight}
use Rattle.edge_table.proofs.Places.{get-found, take-set_below, take-index}

-- ---- one edge narrowed

-- narrowing a pair is one write of its edge's word
pub narrowed_at-oriented : (m : Algebra) (n : ℕ) (words : List ℕ) (i k x : ℕ) →
    narrowed_at m n words i k x ≡ slice_set words (edge_between n i k) (bit_and (slice_index words (edge_between n i k)) (oriented m i k x))
narrowed_at-oriented m n words i k x =
    elim (nat_lt i k) as (λ t.
    cond t (slice_set words (edge_at n i k) (bit_and (slice_index words (edge_at n i k)) x)) (slice_set words (edge_at n k i) (bit_and (slice_index words (edge_at n k i)) (converse m x)))
    ≡ slice_set words (cond t (edge_at n i k) (edge_at n k i)) (bit_and (slice_index words (cond t (edge_at n i k) (edge_at n k i))) (cond t x (converse m x)))) [
      | true ↦ refl
      | false ↦ refl
    ]

-- ---- the machine after a step

-- the actors of the views
abbrev actors_of : List Sight → List ActorState
actors_of vs = map (λ (v : Sight). v.actor) vs

-- the machine after the word e became n and the actor id became w
abbrev after_step : CoreState → ℕ → ℕ → ℕ → ActorState → CoreState
after_step c e n id w = record c { words = slice_set c.words e n; actors = slice_set c.actors id w }

-- the machine of a table after a step is the machine after that step, whatever the views count
core_of-stepped : (o : Opening) (s : State ℕ Sight) (e n id : ℕ) (w : Sight) → core_of o (stepped s e n id [] w keeps) ≡ after_step (core_of o s) e n id w.actor
core_of-stepped o s e n id w =
    ap (λ (ws : List ℕ). let c : CoreState = record (core_of o s) { words = ws; actors = actors_of (slice_set s.views id w) } in c) (take-set_below (edge_count o.nodes) s.words e n)
    ∙ ap (λ (xs : List ActorState). let c : CoreState = record (core_of o s) { words = slice_set (core_of o s).words e n; actors = xs } in c) (map-set (λ (v : Sight). v.actor) s.views id w)

IsKept-stepped : (o : Opening) (s : State ℕ Sight) (e n id : ℕ) (w : Sight) → IsKept o s → Holds (algebra_of o) (after_step (core_of o s) e n id w.actor) →
    IsKept o (stepped s e n id [] w keeps)
IsKept-stepped o s e n id w kept holds = record {
  bounded = kept.bounded;
  length_is = length-set s.words e n ∙ kept.length_is;
  holds = subst (Holds (algebra_of o)) (sym (core_of-stepped o s e n id w)) holds;
}

-- what a live actor has seen of an edge is the word, once it has seen the word
shown-after : (m : Algebra) (c : CoreState) (e n id : ℕ) (a : ActorState) → Holds m (after_step c e n id (seeing e n a)) → id < length c.actors → IsTrue a.is_live →
    e < length c.words → e < length a.seen → slice_index (seeing e n a).seen e ≡ n
shown-after m c e n id a holds there live below inside =
    let w = seeing e n a in
    let seen : slice_index w.seen e ≡ bit_and (slice_index a.seen e) n = get_or-set_same a.seen e (bit_and (slice_index a.seen e) n) 0 inside in
    let at : IsLiveAt (slice_set c.actors id w) id w = record { is_there = get-set_same c.actors id w there; is_live = live } in
    let word : slice_index (slice_set c.words e n) e ≡ n = get_or-set_same c.words e n 0 below in
    let within : IsWithin n (slice_index w.seen e) = subst (λ x. IsWithin x (slice_index w.seen e)) word ((holds.bound.words_within.actors id w at).seen.each e) in
    IsWithin-antisym (slice_index w.seen e) n (subst (λ x. IsWithin x n) (sym seen) (IsWithin-meet_r (slice_index a.seen e) n)) within

-- ---- the machine as a table keeps it

-- what is known where the rule holds and the actor of a live pass is a
record IsAt (o : Opening) (s : State ℕ Sight) (id : ℕ) (a : ActorState) : Type 0 where
  there : slice_get (core_of o s).actors id ≡ Some a
  live : IsLiveAt (core_of o s).actors id a
  below : id < length (core_of o s).actors
  words : length (core_of o s).words ≡ edge_count o.nodes
  seen : length a.seen ≡ edge_count o.nodes

is_at : (o : Opening) (s : State ℕ Sight) (id : ℕ) (v : Sight) → IsKept o s → IsTrue v.actor.is_live → get_elem? s.views id ≡ some v → IsAt o s id v.actor
is_at o s id v kept live found =
    let actors = (core_of o s).actors in
    let there = get-found actors id v.actor (at_map (λ (x : Sight). x.actor) s.views id v found) in
    let at : IsLiveAt actors id v.actor = record { is_there = there; is_live = live } in
    record {
      there = there;
      live = at;
      below = slice_get_within actors id v.actor there;
      words = kept.holds.core.words.length_is;
      seen = (kept.holds.core.actors id v.actor at).seen.length_is;
    }

-- ---- a load

pub loads : (o : Opening) (slots id e : ℕ) (v : Sight) → IsTrue v.actor.is_live → e < edge_count o.nodes →
    Allows (IsKept o) slots id (v, []) e (λ n. n) (λ n w. Loads e n (v, []) w)
loads o slots id e v live below s kept homes found fits =
    let m = algebra_of o in
    let a = v.actor in
    let c = core_of o s in
    let at : IsAt o s id a = is_at o s id v kept live found in
    let n = slice_index s.words e in
    let word : slice_index c.words e ≡ n = take-index (edge_count o.nodes) s.words e 0 below in
    let same : slice_set c.words e n ≡ c.words = subst (λ x. slice_set c.words e x ≡ c.words) word (set-get_or c.words e 0) in
    let w : Sight = record v { actor = seeing e n a; loads = v.loads + 1 } in
    let read : CoreState = record c { actors = slice_set c.actors id (seeing e (slice_index c.words e) a) } in
    let holds : Holds m read = Holds-step m (Read id e) c read kept.holds
    (record { live = record { actor = a; live = at.live }; below = below })
    (record { actor = a; is_there = at.there; after = refl }) in
    let next : Holds m (after_step c e n id w.actor) =
    subst (λ (ws : List ℕ). let t : CoreState = record c { words = ws; actors = slice_set c.actors id w.actor } in Holds m t) (sym same)
    (subst (λ x. let t : CoreState = record c { actors = slice_set c.actors id (seeing e x a) } in Holds m t) word holds) in (
      w,
      keeps,
      tt,
      IsKept-stepped o s e n id w kept next,
      record {
        after = refl;
        carries = refl;
        shown = shown-after m c e n id a next at.below live (omega (arith, at.words)) (omega (arith, at.seen));
      },
    )

-- ---- a set narrowed

-- the machine after a pair was narrowed, and the actor has seen its edge
narrowed : (o : Opening) (s : State ℕ Sight) (id i k x y : ℕ) (a b : ActorState) → (w : ActorState) →
    y ≡ oriented (algebra_of o) i k x → edge_between o.nodes i k < edge_count o.nodes → length (core_of o s).words ≡ edge_count o.nodes →
    let c = core_of o s in
    let e = edge_between o.nodes i k in
    let words = narrowed_at (algebra_of o) o.nodes c.words i k x in
    let n = bit_and (slice_index s.words e) y in
    w ≡ seeing e n b →
    Holds (algebra_of o) (record c { words = words; actors = slice_set c.actors id (seeing e (slice_index words e) b) }) → Holds (algebra_of o) (after_step c e n id w)
narrowed o s id i k x y a b w turned below size seen holds =
    let m = algebra_of o in
    let c = core_of o s in
    let e = edge_between o.nodes i k in
    let words = narrowed_at m o.nodes c.words i k x in
    let n = bit_and (slice_index s.words e) y in
    let word : slice_index c.words e ≡ slice_index s.words e = take-index (edge_count o.nodes) s.words e 0 below in
    let put : words ≡ slice_set c.words e n =
    narrowed_at-oriented m o.nodes c.words i k x ∙ ap (λ z. slice_set c.words e (bit_and (slice_index c.words e) z)) (sym turned) ∙ ap (λ z. slice_set c.words e (bit_and z y)) word in
    let there : slice_index words e ≡ n = ap (λ (ws : List ℕ). slice_index ws e) put ∙ get_or-set_same c.words e n 0 (omega (arith, size)) in
    subst (λ (v : ActorState). let t : CoreState = record c { words = slice_set c.words e n; actors = slice_set c.actors id v } in Holds m t) (sym seen)
    (subst (λ z. let t : CoreState = record c { words = slice_set c.words e n; actors = slice_set c.actors id (seeing e z b) } in Holds m t) there
    (subst (λ (ws : List ℕ). let t : CoreState = record c { words = ws; actors = slice_set c.actors id (seeing e (slice_index words e) b) } in Holds m t) put holds))

-- with the composition of what the pass has seen along a third node
pub narrows : (o : Opening) (slots id i j k y : ℕ) (v : Sight) → IsTrue v.actor.is_live → IsProperTriple o.nodes i j k →
    y ≡ oriented (algebra_of o) i k (composition (algebra_of o) (relation_between (algebra_of o) o.nodes v.actor.seen i j) (relation_between (algebra_of o) o.nodes v.actor.seen j k)) →
    let e = edge_between o.nodes i k in
    Allows (IsKept o) slots id (v, []) e (λ n. bit_and n y) (λ n w. Meets e (bit_and n y) (v, []) w)
narrows o slots id i j k y v live triple turned s kept homes found fits =
    let m = algebra_of o in
    let a = v.actor in
    let c = core_of o s in
    let e = edge_between o.nodes i k in
    let at : IsAt o s id a = is_at o s id v kept live found in
    let below : e < edge_count o.nodes = edge_between-lt o.nodes i k (pair-outer o.nodes i j k triple) in
    let x = composition m (relation_between m o.nodes a.seen i j) (relation_between m o.nodes a.seen j k) in
    let words = narrowed_at m o.nodes c.words i k x in
    let n = bit_and (slice_index s.words e) y in
    let w : Sight = record v { actor = seeing e n a; fetch_ands = v.fetch_ands + 1 } in
    let t : CoreState = record c { words = words; actors = slice_set c.actors id (seeing e (slice_index words e) a) } in
    let holds : Holds m t = Holds-step m (Narrow id i j k) c t kept.holds
    (record { live = record { actor = a; live = at.live }; proper = triple })
    (record { actor = a; is_there = at.there; words = words; words_is = refl; after = refl }) in
    let next : Holds m (after_step c e n id w.actor) = narrowed o s id i k x y a a w.actor turned below at.words refl holds in (
      w,
      keeps,
      tt,
      IsKept-stepped o s e n id w kept next,
      record {
        after = refl;
        carries = refl;
        shown = shown-after m c e n id a next at.below live (omega (arith, at.words)) (omega (arith, at.seen));
      },
    )

-- with the set of a fact, which the pass states
pub asserts : (o : Opening) (slots id y : ℕ) (fact : Fact) (v : Sight) → IsTrue v.actor.is_live → IsProperFact o.nodes (full_of (algebra_of o)) fact →
    y ≡ oriented (algebra_of o) fact.i fact.j fact.rel →
    let e = edge_between o.nodes fact.i fact.j in
    Allows (IsKept o) slots id (v, []) e (λ n. bit_and n y) (λ n w. States fact e (bit_and n y) (v, []) w)
asserts o slots id y fact v live proper turned s kept homes found fits =
    let m = algebra_of o in
    let a = v.actor in
    let c = core_of o s in
    let e = edge_between o.nodes fact.i fact.j in
    let at : IsAt o s id a = is_at o s id v kept live found in
    let below : e < edge_count o.nodes = edge_between-lt o.nodes fact.i fact.j proper.pair in
    let words = narrowed_at m o.nodes c.words fact.i fact.j fact.rel in
    let n = bit_and (slice_index s.words e) y in
    let b = stating fact a in
    let w : Sight = record v { actor = seeing e n b; fetch_ands = v.fetch_ands + 1 } in
    let t : CoreState = record c { words = words; actors = slice_set c.actors id (seeing e (slice_index words e) b) } in
    let holds : Holds m t = Holds-step m (Assert id fact) c t kept.holds
    (record { live = record { actor = a; live = at.live }; proper = proper })
    (record { actor = a; is_there = at.there; words = words; words_is = refl; after = refl }) in
    let next : Holds m (after_step c e n id w.actor) = narrowed o s id fact.i fact.j fact.rel y a b w.actor turned below at.words refl holds in (
      w,
      keeps,
      tt,
      IsKept-stepped o s e n id w kept next,
      record {
        after = refl;
        carries = refl;
        shown = shown-after m c e n id b next at.below live (omega (arith, at.words)) (omega (arith, at.seen));
      },
    )

-- ---- a load that tells the weight

pub weighs : (o : Opening) (slots id : ℕ) (v : Sight) → IsTrue v.actor.is_live → Allows (IsKept o) slots id (v, []) 0 (λ n. n) (λ n w. Weighs (v, []) w)
weighs o slots id v live s kept homes found fits =
    let at : IsAt o s id v.actor = is_at o s id v kept live found in
    let light : v.actor.weight ≤ o.weight = weights-one o.weight (core_of o s).actors id v.actor at.live kept.holds.bound.weights in
    let words : slice_set s.words 0 (slice_index s.words 0) ≡ s.words = set-get_or s.words 0 0 in
    let views : slice_set s.views id v ≡ s.views = set_again s.views id v found in (
      v,
      keeps,
      tt,
      subst (λ (vs : List Sight). let t : State ℕ Sight = record { words = slice_set s.words 0 (slice_index s.words 0); homes = s.homes; views = vs } in IsKept o t) (sym views)
          (subst (λ (ws : List ℕ). let t : State ℕ Sight = record { words = ws; homes = s.homes; views = s.views } in IsKept o t) (sym words) kept),
      record { same = refl; bounded = let b = kept.bounded in omega arith },
    )

-- ---- a split and a join

pub splits : (o : Opening) (id left : ℕ) (v : Sight) → IsTrue v.actor.is_live → 0 < left → left < v.actor.weight → Splits (IsKept o) id v (keeping left v) (beginning left v)
splits o id left v live gives less s kept found =
    let at : IsAt o s id v.actor = is_at o s id v kept live found in
    let actors : actors_of (slice_set s.views id (keeping left v) ++ beginning left v ∷ []) ≡ slice_set (core_of o s).actors id (giving left v.actor) ++ fresh left v.actor.seen ∷ [] =
    map-append (λ (x : Sight). x.actor) (slice_set s.views id (keeping left v)) (beginning left v ∷ [])
    ∙ ap (λ (xs : List ActorState). xs ++ fresh left v.actor.seen ∷ []) (map-set (λ (x : Sight). x.actor) s.views id (keeping left v)) in
    record {
      bounded = kept.bounded;
      length_is = kept.length_is;
      holds = subst (λ (xs : List ActorState). Holds (algebra_of o) (record (core_of o s) { actors = xs })) (sym actors)
          (Holds-split (algebra_of o) (core_of o s) id left v.actor kept.holds at.live gives less);
    }

pub joins : (o : Opening) (id other : ℕ) (v w : Sight) → IsTrue v.actor.is_live → IsTrue w.actor.is_live → Joins (IsKept o) id v other w (uniting v w) no_view
joins o id other v w live other_live s kept found differ there =
    let f : Sight → ActorState = λ x. x.actor in
    let at : IsAt o s id v.actor = is_at o s id v kept live found in
    let there' : get_elem? s.views other ≡ some w = sym (set_else s.views id other (uniting v w) differ) ∙ there in
    let at' : IsAt o s other w.actor = is_at o s other w kept other_live there' in
    let actors : actors_of (slice_set (slice_set s.views id (uniting v w)) other no_view) ≡ slice_set (slice_set (core_of o s).actors id (joining v.actor w.actor)) other no_view.actor =
    map-set f (slice_set s.views id (uniting v w)) other no_view ∙ ap (λ (xs : List ActorState). slice_set xs other no_view.actor) (map-set f s.views id (uniting v w)) in
    record {
      bounded = kept.bounded;
      length_is = kept.length_is;
      holds = subst (λ (xs : List ActorState). Holds (algebra_of o) (record (core_of o s) { actors = xs })) (sym actors)
          (Holds-join (algebra_of o) (core_of o s) id other v.actor w.actor no_view.actor kept.holds (λ e. differ (sym e)) at.live at'.live refl);
    }

-- ---- the same of a seat, which holds no slot

me_alone : (me : Me ℕ Sight) → me.1 ≡ [] → me ≡ (let alone : Me ℕ Sight = (me.0, []) in alone)
me_alone me e = ap (λ (xs : List (ℕ × ℕ)). let here : Me ℕ Sight = (me.0, xs) in here) e

pub seat_loads : (o : Opening) (slots id e : ℕ) (me : Me ℕ Sight) → me.1 ≡ [] → IsTrue me.0.actor.is_live → e < edge_count o.nodes →
    Allows (IsKept o) slots id me e (λ n. n) (λ n w. Loads e n me w)
seat_loads o slots id e me alone live below =
    subst (λ (v : Me ℕ Sight). Allows (IsKept o) slots id v e (λ n. n) (λ n w. Loads e n v w)) (sym (me_alone me alone)) (loads o slots id e me.0 live below)

pub seat_narrows : (o : Opening) (slots id e i j k y : ℕ) (me : Me ℕ Sight) → me.1 ≡ [] → IsTrue me.0.actor.is_live → IsProperTriple o.nodes i j k → e ≡ edge_between o.nodes i k →
    y ≡ oriented (algebra_of o) i k (composition (algebra_of o) (relation_between (algebra_of o) o.nodes me.0.actor.seen i j) (relation_between (algebra_of o) o.nodes me.0.actor.seen j k)) →
    Allows (IsKept o) slots id me e (λ n. bit_and n y) (λ n w. Meets e (bit_and n y) me w)
seat_narrows o slots id e i j k y me alone live triple edge turned =
    subst (λ d. Allows (IsKept o) slots id me d (λ n. bit_and n y) (λ n w. Meets d (bit_and n y) me w)) (sym edge)
    (subst (λ (v : Me ℕ Sight). Allows (IsKept o) slots id v (edge_between o.nodes i k) (λ n. bit_and n y) (λ n w. Meets (edge_between o.nodes i k) (bit_and n y) v w)) (sym (me_alone me alone))
    (narrows o slots id i j k y me.0 live triple turned))

pub seat_asserts : (o : Opening) (slots id e y : ℕ) (fact : Fact) (me : Me ℕ Sight) → me.1 ≡ [] → IsTrue me.0.actor.is_live → IsProperFact o.nodes (full_of (algebra_of o)) fact →
    e ≡ edge_between o.nodes fact.i fact.j → y ≡ oriented (algebra_of o) fact.i fact.j fact.rel →
    Allows (IsKept o) slots id me e (λ n. bit_and n y) (λ n w. States fact e (bit_and n y) me w)
seat_asserts o slots id e y fact me alone live proper edge turned =
    subst (λ d. Allows (IsKept o) slots id me d (λ n. bit_and n y) (λ n w. States fact d (bit_and n y) me w)) (sym edge)
    (subst (λ (v : Me ℕ Sight). Allows (IsKept o) slots id v (edge_between o.nodes fact.i fact.j) (λ n. bit_and n y) (λ n w. States fact (edge_between o.nodes fact.i fact.j) (bit_and n y) v w)) (sym (me_alone me alone))
    (asserts o slots id y fact me.0 live proper turned))

pub seat_weighs : (o : Opening) (slots id : ℕ) (me : Me ℕ Sight) → me.1 ≡ [] → IsTrue me.0.actor.is_live → Allows (IsKept o) slots id me 0 (λ n. n) (λ n w. Weighs me w)
seat_weighs o slots id me alone live =
    subst (λ (v : Me ℕ Sight). Allows (IsKept o) slots id v 0 (λ n. n) (λ n w. Weighs v w)) (sym (me_alone me alone)) (weighs o slots id me.0 live)
