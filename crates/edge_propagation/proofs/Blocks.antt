-- Lanes and blocks of nodes, one after another.
use Rattle.std.proofs.Common.{◌≡◌, ℕ, ◌+◌, ◌*◌, ◌-◌, ◌<◌, List, sym, ◌∙◌, ap, subst, arith, inl, inr}
use Rattle.std.specs.Prelude.{slice_index}
use Rattle.std.proofs.lemmas.Bool.{cases_lt, cases_eq}
use Rattle.calculus_table.specs.Rel.{Has, IsWithin, IsWithout}
use Rattle.calculus_table.specs.Algebra.{Algebra}
use Rattle.calculus_table.specs.Composition.{composition}
use Rattle.network_words.specs.Edge.{IsProperTriple}
use Rattle.network_words.proofs.Pairs.{pair-outer}
use Rattle.compose_fast.specs.Planes.{AreTablesOf, IsWithinAlong}
use Rattle.compose_fast.proofs.Clear.{within_along}
use Rattle.edge_propagation.specs.Worklist.{Worklist, IsQueued, AreBytesOf, set_of}
use Rattle.edge_propagation.specs.declared.span.Span.{Span}
use Rattle.edge_propagation.specs.Propagation.{IsReady, IsStep, EmptiesNone, IsAmong, IsSettledAt}
use Rattle.edge_propagation.proofs.Steps.{IsStep-trans, EmptiesNone-trans}
use Rattle.edge_propagation.proofs.Settled.{IsSettledAt-step}

-- a lane that is clear tells that its triple is closed, unless the set of (i, j) changed meanwhile
pub settled-clear : (m : Algebra) (planes : ℕ) (work : Worklist) (set bytes : List ℕ) (i j from here there l a : ℕ) → IsReady m planes work → AreBytesOf work bytes → AreTablesOf m planes a set →
    here ≡ 256 * (planes * i) + from → there ≡ 256 * (planes * j) + from → IsProperTriple work.nodes i j (from + l) → (¬ IsQueued work i j → a ≡ set_of work i j) →
    IsWithinAlong set bytes planes (here + l) (there + l) → IsSettledAt m work i j (from + l)
settled-clear m planes work set bytes i j from here there l a r b tables here-is there-is t set-is clear = λ quiet _.
    let n = work.nodes in
    let k = from + l in
    let x = set_of work i k in
    let y = set_of work j k in
    let at = λ (h place p : ℕ) (hb : h < n) (pb : p < planes) (place-is : place ≡ 256 * (planes * h) + from).
    let row : 256 * (planes * h) ≡ 256 * (work.planes * h) = ap (λ q. 256 * (q * h)) (sym r.planes_are) in
    let e : 256 * p + (place + l) ≡ 256 * (work.planes * h + p) + k = omega arith in
    let few : p < work.planes = omega (arith, r.planes_are) in
    ap (slice_index bytes) e ∙ b.each p h k few hb t.third_below in
    subst (λ z. IsWithin x (composition m z y)) (set-is quiet)
    (within_along m planes a x y (here + l) (there + l) set bytes r.calculus.table tables (λ q qb. at j there q t.second_below qb there-is)
    r.enough (r.sets.within i k (pair-outer n i j k t)) (λ p pb. at i here p t.first_below pb here-is) clear)

-- ---- lanes one after another

pub record AreLanesDone (m : Algebra) (span : Span) (old new : Worklist) (i j from left : ℕ) : Type 0 where
  pub step : IsStep m old new
  pub none : EmptiesNone old new
  pub settled : (l : ℕ) → l < 16 → ¬ Has left l → IsProperTriple old.nodes i j (from + l) → IsAmong span (from + l) → IsSettledAt m new i j (from + l)

pub AreLanesDone-step : (m : Algebra) (span : Span) (a b c : Worklist) (i j from left lane rest : ℕ) → AreLanesDone m span a b i j from left → IsWithout left lane rest → IsStep m b c → EmptiesNone b c →
    (IsProperTriple b.nodes i j (from + lane) → IsAmong span (from + lane) → IsSettledAt m c i j (from + lane)) → AreLanesDone m span a c i j from rest
AreLanesDone-step m span a b c i j from left lane rest p out q some h = record {
  step = IsStep-trans m a b c p.step q;
  none = EmptiesNone-trans m a b c p.step p.none some;
  settled = λ l small none t among.
      let t' : IsProperTriple b.nodes i j (from + l) = subst (λ n. IsProperTriple n i j (from + l)) (sym p.step.nodes) t in
      elim (cases_eq l lane) [
        | inl same ↦ rw (sym same) at (h (rw same at t') (rw same at among))
        | inr ne ↦ IsSettledAt-step m b c i j (from + l) q t' (p.settled l small (λ has. none (out.others l has ne)) t among)
      ];
}

-- ---- blocks one after another

-- the pairs (i, q) with q in the range and below k were narrowed along j
pub record IsPropagated (m : Algebra) (span : Span) (old new : Worklist) (i j k : ℕ) : Type 0 where
  pub step : IsStep m old new
  pub none : EmptiesNone old new
  pub settled : (q : ℕ) → q < k → IsProperTriple old.nodes i j q → IsAmong span q → IsSettledAt m new i j q

pub IsPropagated-block : (m : Algebra) (span : Span) (a b c : Worklist) (i j block : ℕ) → IsPropagated m span a b i j (16 * block) → IsStep m b c → EmptiesNone b c →
    ((l : ℕ) → l < 16 → IsProperTriple b.nodes i j (16 * block + l) → IsAmong span (16 * block + l) → IsSettledAt m c i j (16 * block + l)) → IsPropagated m span a c i j (16 * (block + 1))
IsPropagated-block m span a b c i j block p q some h = record {
  step = IsStep-trans m a b c p.step q;
  none = EmptiesNone-trans m a b c p.step p.none some;
  settled = λ d l t among.
      let t' : IsProperTriple b.nodes i j d = subst (λ n. IsProperTriple n i j d) (sym p.step.nodes) t in
      elim (cases_lt d (16 * block)) [
        | inl below ↦ IsSettledAt-step m b c i j d q t' (p.settled d below t among)
        | inr above ↦
            (let at : 16 * block + (d - 16 * block) ≡ d = omega arith in
            subst (IsSettledAt m c i j) at (h (d - 16 * block) (omega arith) (subst (IsProperTriple b.nodes i j) (sym at) t') (subst (IsAmong span) (sym at) among)))
      ];
}
