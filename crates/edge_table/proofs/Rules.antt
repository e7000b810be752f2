-- The rule at the opening of a table.
use Rattle.std.proofs.Common.{◌≡◌, ℕ, ◌<◌, ◌≤◌, List, [], ◌∷◌, length, take, refl, sym, subst, arith, Some}
use Rattle.std.specs.Prelude.{slice_get, IsTrue}
use Rattle.std.specs.List.{All}
use mathlib.Core.Option.{some}
use lib.ListN.{get_elem?}
use Rattle.std.proofs.lemmas.List.{take_all}
use Rattle.atomic_table.specs.Table.{State, opening}
use Rattle.atomic_table.proofs.Lists.{at_map}
use Rattle.calculus_table.specs.Algebra.{Algebra}
use Rattle.calculus_table.specs.Calculus.{IsCalculus}
use Rattle.calculus_table.specs.Composition.{full_of}
use Rattle.network_words.specs.Edge.{edge_count}
use Rattle.network_words.specs.Network.{Network, IsNetwork}
use Rattle.narrow_core.specs.Actor.{ActorState, IsLiveAt}
use Rattle.narrow_core.specs.Machine.{opened}
use Rattle.narrow_core.specs.Bound.{IsWithinFact, Holds}
use Rattle.narrow_core.proofs.Sights.{AreSets-network}
use Rattle.narrow_core.proofs.Cores.{same_actor}
use Rattle.narrow_core.proofs.Runs.{Holds-opened, Holds-alone}
use Rattle.edge_table.specs.Passes.{AreClosedWords}
use Rattle.edge_table.proofs.Places.{get-found}
use Rattle.edge_table.specs.Opening.{padded, opening_over, algebra_of}
use Rattle.edge_table.specs.Rule.{core_of, IsKept, first_view}
use Rattle.edge_table.specs.declared.TheConstants.{MAX_WEIGHT}
use Rattle.edge_table.specs.declared.rule.Opening.{Opening}
use Rattle.edge_table.specs.declared.sight.Sight.{Sight}

take-padded : (words : List ℕ) (n : ℕ) → length words ≡ n → take n (padded words) ≡ words
take-padded [] n e = let xs : List ℕ = 0 ∷ [] in subst (λ (k : ℕ). take k xs ≡ []) e refl
take-padded (x ∷ xs) n e = take_all n (x ∷ xs) (omega arith)

-- the table over a network at its opening
pub IsKept-opened : (m : Algebra) (net : Network) (weight : ℕ) → IsCalculus m → IsNetwork m net.nodes net.words → 0 < weight → weight ≤ MAX_WEIGHT →
    let o = opening_over net weight m in IsKept o (opening (padded net.words) [] (first_view o))
IsKept-opened m net weight c k positive bounded =
    let o = opening_over net weight m in
    let full : Network = record net { full = full_of m } in
    let same : take (edge_count net.nodes) (padded net.words) ≡ net.words = take-padded net.words (edge_count net.nodes) k.length_is in
    record {
      bounded = bounded;
      length_is = refl;
      holds = subst (λ (ws : List ℕ). Holds m (record (opened full weight) { words = ws })) (sym same) (Holds-opened m full weight c refl k positive);
    }

pub length-padded : (words : List ℕ) → length words ≤ length (padded words)
length-padded [] = omega arith
length-padded (x ∷ xs) = omega arith

pub some-padded : (words : List ℕ) → 0 < length (padded words)
some-padded [] = omega arith
some-padded (x ∷ xs) = omega arith

-- ---- a table closed by its last pass

-- where a pass has the whole weight, the words are those that a table is closed with
pub AreClosedWords-kept : (o : Opening) (s : State ℕ Sight) (id : ℕ) (v : Sight) (words : List ℕ) → IsKept o s → get_elem? s.views id ≡ some v → IsTrue v.actor.is_live →
    v.actor.weight ≡ o.weight → words ≡ take (edge_count o.nodes) s.words → AreClosedWords o v.actor words
AreClosedWords-kept o s id v words kept found live whole are =
    let a = v.actor in
    let m = algebra_of o in
    let c = core_of o s in
    let there = get-found c.actors id a (at_map (λ (x : Sight). x.actor) s.views id v found) in
    let at : IsLiveAt c.actors id a = record { is_there = there; is_live = live } in
    let alone = Holds-alone m c id a kept.holds at whole in
    let bound = kept.holds.bound in
    subst (AreClosedWords o a) (sym are) (record {
      network = AreSets-network m o.nodes (full_of m) c.words refl kept.holds.core.words;
      opening = bound.words_within.opening;
      seen = (bound.words_within.actors id a at).seen;
      facts = (bound.words_within.actors id a at).facts;
      seen_opening = (bound.seen_within id a at).opening;
      seen_facts = (bound.seen_within id a at).facts;
      kept = λ xs net closed w facts. bound.nothing_lost xs (record {
        network = net;
        closed = closed;
        opening = w;
        facts = λ l b t.
            let same : a ≡ b = same_actor c.actors l a b (subst (λ (i : ℕ). slice_get c.actors i ≡ Some a) (sym (alone.only l b t)) there) t.is_there in
            subst (λ (x : ActorState). All (IsWithinFact m o.nodes xs) x.mine) same facts;
      });
    })
