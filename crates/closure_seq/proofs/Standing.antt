-- A worklist that stands beside levels, with a level begun and taken back.
use Rattle.std.proofs.Common.{◌≡◌, ℕ, ◌<◌, List, [], ◌∷◌, ◌++◌, length, sym, ◌∙◌, ap, subst, arith, inl, inr}
use Rattle.std.specs.Prelude.{slice_index, slice_set, All, Result, Ok, Err, OnOk}
use Rattle.std.proofs.lemmas.List.{length-set}
use Rattle.std.proofs.lemmas.List.Elements.{All-append, All-nil}
use Rattle.calculus_table.specs.Rel.{IsWithin}
use Rattle.calculus_table.specs.Algebra.{Algebra}
use Rattle.calculus_table.specs.Composition.{full_of}
use Rattle.calculus_table.proofs.Sets.{IsWithin-trans}
use Rattle.network_words.specs.Edge.{edge_at, IsProperPair}
use Rattle.network_words.specs.Network.{IsNetwork}
use Rattle.network_words.specs.Closure.{IsClosure}
use Rattle.network_words.proofs.Networks.{relation_between-forward, set-cases}
use Rattle.network_words.proofs.Pairs.{pair-ordered}
use Rattle.network_words.proofs.Refinements.{IsNetwork-refines}
use Rattle.edge_propagation.specs.Worklist.{Worklist, IsSized, IsQuiet, set_of}
use Rattle.edge_propagation.specs.declared.span.Span.{Span}
use Rattle.edge_propagation.specs.Propagation.{AreConverses, IsReady, IsInStep, IsRefinement, HasEmpty, AreClosed, IsSettled}
use Rattle.closure_seq.specs.Levels.{LevelSets}
use Rattle.closure_seq.specs.Paths.{IsInStepBut, IsClosedNetwork, IsStanding, IsEmptyClosure}
use Rattle.edge_propagation.specs.Propagation.{IsPlanes}
use Rattle.edge_propagation.proofs.Steps.{refined}
use Rattle.edge_propagation.proofs.Loads.{AreConverses-in_step}
use Rattle.closure_seq.proofs.Closures.{IsClosure-stored, IsClosure-emptied}
use Rattle.closure_seq.proofs.Trails.{All-last, All-init, All-cons, snoc-same}
use Rattle.edge_propagation.proofs.Loads.{AreClosed-in_step}
use Rattle.edge_propagation.proofs.PlaneCounts.{planes-le}
use Rattle.closure_seq.proofs.InStep.{IsInStep-put, IsInStep-quiet, IsInStepBut-refined, IsSettled-refined}

-- ---- a level above another

pub IsStanding-pushed : (m : Algebra) (work : Worklist) (levels : LevelSets) (bases : List ℕ) → IsStanding m work levels bases →
    IsStanding m work (record levels { below = levels.below ++ levels.top ∷ []; changes = [] }) bases
IsStanding-pushed m work levels bases s = record {
  calculus = s.calculus;
  planes = s.planes;
  enough = s.enough;
  tables = s.tables;
  full_is = s.full_is;
  in_step = s.in_step;
  quiet = s.quiet;
  top = s.top;
  below = All-append (IsClosedNetwork m levels.nodes) levels.below (levels.top ∷ []) s.below (All-cons (IsClosedNetwork m levels.nodes) levels.top [] s.top (All-nil (IsClosedNetwork m levels.nodes)));
}

-- the same levels, taken back
pub IsStanding-restored : (m : Algebra) (work work' : Worklist) (levels levels' : LevelSets) (bases bases' : List ℕ) → IsStanding m work levels bases →
    levels'.nodes ≡ levels.nodes → levels'.full ≡ levels.full → levels'.top ≡ levels.top → levels'.below ≡ levels.below → work'.planes ≡ work.planes → bases' ≡ bases →
    IsInStep m levels'.nodes levels'.top work' → IsQuiet work' → IsStanding m work' levels' bases'
IsStanding-restored m work work' levels levels' bases bases' s n f t b p tables in_step quiet = record {
  calculus = s.calculus;
  planes = subst IsPlanes (sym p) s.planes;
  enough = omega (arith, s.enough, p);
  tables = rw (p, tables) s.tables;
  full_is = f ∙ s.full_is;
  in_step = in_step;
  quiet = quiet;
  top = rw (n, t) s.top;
  below = rw (n, b) s.below;
}

-- the level below, after the top was taken back
pub IsStanding-back : (m : Algebra) (work work' : Worklist) (levels levels' : LevelSets) (bases : List ℕ) → IsStanding m work levels bases →
    levels'.nodes ≡ levels.nodes → levels'.full ≡ levels.full → levels.below ≡ levels'.below ++ levels'.top ∷ [] → work'.planes ≡ work.planes →
    IsInStep m levels'.nodes levels'.top work' → IsQuiet work' → IsStanding m work' levels' bases
IsStanding-back m work work' levels levels' bases s n f b p in_step quiet =
    let each : All (IsClosedNetwork m levels'.nodes) (levels'.below ++ levels'.top ∷ []) = rw (n, ← b) s.below in
    record {
      calculus = s.calculus;
      planes = subst IsPlanes (sym p) s.planes;
      enough = omega (arith, s.enough, p);
      tables = rw p s.tables;
      full_is = f ∙ s.full_is;
      in_step = in_step;
      quiet = quiet;
      top = All-last (IsClosedNetwork m levels'.nodes) levels'.below levels'.top each;
      below = All-init (IsClosedNetwork m levels'.nodes) levels'.below levels'.top each;
    }

-- ---- one set of the top made smaller

module _ (m : Algebra) (work : Worklist) (levels : LevelSets) (bases : List ℕ) (i j x : ℕ) (s : IsStanding m work levels bases) (z : IsSized work) (o : i < j) (b : j < levels.nodes)
    (w : IsWithin x (slice_index levels.top (edge_at levels.nodes i j))) where
  abbrev pub narrowed : List ℕ
  narrowed = slice_set levels.top (edge_at levels.nodes i j) x

  converses : AreConverses m work
  converses = AreConverses-in_step m levels.nodes levels.top work s.calculus s.top.network s.in_step

  pair : IsProperPair work.nodes i j
  pair = subst (λ n. IsProperPair n i j) (sym s.in_step.nodes) (pair-ordered levels.nodes i j o b)

  within-full : IsWithin x (full_of m)
  within-full = IsWithin-trans x _ _ w (s.top.network.within (edge_at levels.nodes i j))

  within-set : IsWithin x (set_of work i j)
  within-set =
      let e : set_of work i j ≡ slice_index levels.top (edge_at levels.nodes i j) = s.in_step.sets i j (pair-ordered levels.nodes i j o b) ∙ relation_between-forward m levels.nodes levels.top i j o in
      subst (IsWithin x) (sym e) w

  pub IsWithin-narrowed : IsWithin x (full_of m)
  IsWithin-narrowed = within-full

  pub IsNetwork-narrowed : IsNetwork m levels.nodes (slice_set levels.top (edge_at levels.nodes i j) x)
  IsNetwork-narrowed = record {
    length_is = length-set levels.top (edge_at levels.nodes i j) x ∙ s.top.network.length_is;
    within = λ d. elim (set-cases levels.top (edge_at levels.nodes i j) x d) [
      | inl same ↦ subst (λ y. IsWithin y (full_of m)) (sym same) (s.top.network.within d)
      | inr here ↦ subst (λ y. IsWithin y (full_of m)) (sym here.1) within-full
    ];
  }

  pub IsInStep-narrowed : IsInStep m levels.nodes (slice_set levels.top (edge_at levels.nodes i j) x) (refined m work i j x)
  IsInStep-narrowed = IsInStep-put m levels.nodes levels.top work _ i j x z o b s.top.network.length_is s.in_step

  pub IsInStepBut-narrowed : IsInStepBut m levels.nodes levels.top (refined m work i j x)
  IsInStepBut-narrowed = IsInStepBut-refined m levels.nodes levels.top work i j x z (pair-ordered levels.nodes i j o b) s.in_step

  pub IsReady-narrowed : (planes : ℕ) → work.planes ≡ planes → IsReady m planes (refined m work i j x)
  IsReady-narrowed planes e = record {
    calculus = s.calculus;
    few = omega (arith, planes-le work.planes s.planes);
    enough = omega (arith, s.enough);
    planes_are = e;
    sets = AreConverses-in_step m levels.nodes (slice_set levels.top (edge_at levels.nodes i j) x) (refined m work i j x) s.calculus IsNetwork-narrowed IsInStep-narrowed;
  }

  pub IsSettled-narrowed : (rows : Span) → IsSettled m rows (refined m work i j x)
  IsSettled-narrowed = IsSettled-refined m work i j x converses z pair within-set (AreClosed-in_step m levels.nodes levels.top work s.in_step s.top.closed)

  module _ (work' : Worklist) (levels' : LevelSets) (r : IsRefinement m (refined m work i j x) work') (rest : levels' ≡ record levels { top = levels'.top; changes = levels'.changes })
      (long : length levels'.top ≡ length levels.top) where
    pub IsClosure-level : AreClosed m work' → IsQuiet work' → IsInStepBut m levels'.nodes levels'.top work' → IsClosure m levels.nodes (slice_set levels.top (edge_at levels.nodes i j) x) levels'.top
    IsClosure-level closed quiet in_step =
        let nodes : levels'.nodes ≡ levels.nodes = ap (λ (y : LevelSets). y.nodes) rest in
        let stored : IsInStep m levels.nodes levels'.top work' = subst (λ n. IsInStep m n levels'.top work') nodes (IsInStep-quiet m levels'.nodes levels'.top work' in_step quiet) in
        IsClosure-stored m levels.nodes (slice_set levels.top (edge_at levels.nodes i j) x) levels'.top (refined m work i j x) work' IsNetwork-narrowed IsInStep-narrowed r closed stored
        (long ∙ sym (length-set levels.top (edge_at levels.nodes i j) x))

    pub IsStanding-level : (bases' : List ℕ) → bases' ≡ bases → AreClosed m work' → IsQuiet work' → IsInStepBut m levels'.nodes levels'.top work' → IsStanding m work' levels' bases'
    IsStanding-level bases' same closed quiet in_step =
        let nodes : levels'.nodes ≡ levels.nodes = ap (λ (y : LevelSets). y.nodes) rest in
        let full : levels'.full ≡ levels.full = ap (λ (y : LevelSets). y.full) rest in
        let below : levels'.below ≡ levels.below = ap (λ (y : LevelSets). y.below) rest in
        let c = IsClosure-level closed quiet in_step in
        record {
          calculus = s.calculus;
          planes = subst IsPlanes (sym r.planes) s.planes;
          enough = omega (arith, s.enough, r.planes);
          tables = rw (r.planes, same) s.tables;
          full_is = full ∙ s.full_is;
          in_step = IsInStep-quiet m levels'.nodes levels'.top work' in_step quiet;
          quiet = quiet;
          top = rw nodes (record {
            network = IsNetwork-refines m levels.nodes levels'.top (slice_set levels.top (edge_at levels.nodes i j) x) IsNetwork-narrowed c.length_is c.within;
            closed = c.closed;
          });
          below = rw (nodes, below) s.below;
        }

    pub IsEmptyClosure-level : HasEmpty work' → IsEmptyClosure m levels.nodes (slice_set levels.top (edge_at levels.nodes i j) x)
    IsEmptyClosure-level empty = λ closure l none.
        IsClosure-emptied m levels.nodes (slice_set levels.top (edge_at levels.nodes i j) x) closure (refined m work i j x) work' IsNetwork-narrowed IsInStep-narrowed r s.calculus empty l none

-- ---- a level that isn't made

pub taken-back : (old pushed closed new : LevelSets) → pushed ≡ record old { below = old.below ++ old.top ∷ []; changes = [] } → closed ≡ record pushed { top = closed.top; changes = closed.changes } →
    closed.below ≡ new.below ++ new.top ∷ [] → new.nodes ≡ closed.nodes → new.full ≡ closed.full → new ≡ record old { changes = new.changes }
taken-back old pushed closed new p q below n f =
    let whole : new.below ++ new.top ∷ [] ≡ old.below ++ old.top ∷ [] = sym below ∙ ap (λ (y : LevelSets). y.below) q ∙ ap (λ (y : LevelSets). y.below) p in
    let same = snoc-same new.below old.below new.top old.top whole in
    let nodes : new.nodes ≡ old.nodes = n ∙ ap (λ (y : LevelSets). y.nodes) q ∙ ap (λ (y : LevelSets). y.nodes) p in
    let full : new.full ≡ old.full = f ∙ ap (λ (y : LevelSets). y.full) q ∙ ap (λ (y : LevelSets). y.full) p in
    λ i. let z : LevelSets = record { nodes = nodes i; full = full i; top = same.1 i; below = same.0 i; changes = new.changes } in z

-- facts of a success, together
pub on_ok_both : {T E P Q R : Type 0} (r : Result T E) → (P → Q → R) → OnOk r P → OnOk r Q → OnOk r R
on_ok_both (Ok x) f p q = f p q
on_ok_both (Err e) f p q = tt
