-- Copies of a network's sets: settled, met with words, and compared with them.
use Rattle.std.proofs.Common.{◌≡◌, ℕ, ◌+◌, ◌<◌, ◌≤◌, List, ap, sym, ◌∙◌, subst, arith, inl, inr}
use Rattle.std.proofs.lemmas.Bool.{cases_lt}
use Rattle.calculus_table.specs.Algebra.{Algebra}
use Rattle.calculus_table.specs.Composition.{full_of}
use Rattle.network_words.specs.Edge.{edge_at, IsProperTriple}
use Rattle.network_words.specs.Network.{IsNetwork}
use Rattle.network_words.specs.Closure.{IsClosed, IsRangeClosed}
use Rattle.network_words.proofs.Edges.{edge_at-order}
use Rattle.network_words.proofs.Pairs.{pair-first, pair-second, pair-outer}
use Rattle.compose_fast.specs.Planes.{AreBaseTables}
use Rattle.edge_propagation.specs.Worklist.{Worklist, IsQuiet, IsBegun}
use Rattle.edge_propagation.specs.Propagation.{AreConverses, IsInStep, IsRefinement, IsReady, IsStep, IsSettled, AreRowsSettled, IsStored, IsMet, IsPlanes}
use Rattle.slice_copy.specs.Copies.{Slice, CopyState, IsCopyOf, IsOpenCopy, IsSettledCopy, IsSweptCopy, AreRowsOf, TakesOver}
use Rattle.edge_propagation.proofs.Settled.{IsSettled-met, IsSettled-none, IsSettled-rows, AreRowsClosed-idle}
use Rattle.edge_propagation.proofs.Steps.{IsMet-refl, IsMet-step}
use Rattle.edge_propagation.proofs.Starts.{IsSettled-begun}
use Rattle.edge_propagation.proofs.Loads.{IsInStep-queue, IsInStep-stored, AreConverses-in_step, AreClosed-in_step}
use Rattle.edge_propagation.proofs.PlaneCounts.{planes-le}

-- the rows from that of the first edge of a slice to that of the last one
pub AreRowsOf-edges : (n from to i j k l : ℕ) → from < to → i < j → j < n → k < l → l < n → edge_at n i j ≡ from → edge_at n k l + 1 ≡ to → AreRowsOf n from to (record { first = i; end = k + 1 })
AreRowsOf-edges n from to i j k l some o b p q first last = record {
  each = λ x y xy yb ge lt. record {
    from = elim (cases_lt x i) as (λ _. i ≤ x) [
      | inl h ↦ (let less = (edge_at-order n x y i j xy yb o b).1 (inl h) in absurd (omega arith))
      | inr g ↦ g
    ];
    below = elim (cases_lt k x) as (λ _. x < k + 1) [
      | inl h ↦ (let less = (edge_at-order n k l x y p q xy yb).1 (inl h) in absurd (omega arith))
      | inr g ↦ omega arith
    ];
  };
  order = elim (cases_lt k i) as (λ _. i ≤ k + 1) [
    | inl h ↦ (let less = (edge_at-order n k l i j p q o b).1 (inl h) in absurd (omega arith))
    | inr g ↦ omega arith
  ];
  below = omega arith;
}

pub AreRowsOf-none : (n from to : ℕ) → to ≤ from → AreRowsOf n from to (record { first = 0; end = 0 })
AreRowsOf-none n from to le = record { each = λ x y xy yb ge lt. absurd (omega arith); order = omega arith; below = omega arith }

pub IsReady-copy : (m : Algebra) (copy : CopyState) → IsOpenCopy m copy → IsReady m copy.work.planes copy.work
IsReady-copy m copy s = record { calculus = s.calculus; few = planes-le copy.work.planes s.planes; enough = s.enough; planes_are = λ _. copy.work.planes; sets = s.sets }

-- a copy of a network is one of some network
pub IsOpenCopy-taken : (m : Algebra) (words : List ℕ) (copy : CopyState) → IsCopyOf m words copy → IsOpenCopy m copy
IsOpenCopy-taken m words copy p = record {
  calculus = p.calculus;
  planes = p.planes;
  enough = p.enough;
  tables = p.tables;
  sets = AreConverses-in_step m copy.slice.nodes words copy.work p.calculus p.network p.in_step;
  nodes = p.in_step.nodes;
  rows = p.rows;
}

-- other sets, or another queue
pub IsOpenCopy-work : (m : Algebra) (copy : CopyState) (work : Worklist) → work.nodes ≡ copy.work.nodes → work.planes ≡ copy.work.planes → AreConverses m work → IsOpenCopy m copy →
    IsOpenCopy m (record copy { slice = record copy.slice { nodes = work.nodes }; work = work })
IsOpenCopy-work m copy work same planes sets s = record {
  calculus = s.calculus;
  planes = subst IsPlanes (sym planes) s.planes;
  enough = omega (arith, s.enough, planes);
  tables = subst (λ n. AreBaseTables m n copy.bases) (sym planes) s.tables;
  sets = sets;
  nodes = λ _. work.nodes;
  rows = subst (λ n. AreRowsOf n copy.slice.from copy.slice.to copy.rows) (sym (same ∙ s.nodes)) s.rows;
}

-- a copy of a network, with some edges queued
module _ (m : Algebra) (words : List ℕ) (copy : CopyState) (work : Worklist) (p : IsCopyOf m words copy) (rest : work ≡ record copy.work { queued = work.queued }) where
  abbrev pub queued : CopyState
  queued = record copy { slice = record copy.slice { nodes = work.nodes }; work = work }

  in_step : IsInStep m copy.slice.nodes words work
  in_step = IsInStep-queue m copy.slice.nodes words copy.work work rest p.in_step

  sets : AreConverses m work
  sets = AreConverses-in_step m copy.slice.nodes words work p.calculus p.network in_step

  IsOpenCopy-queue : IsOpenCopy m queued
  IsOpenCopy-queue = IsOpenCopy-work m copy work (ap (λ (y : Worklist). y.nodes) rest) (ap (λ (y : Worklist). y.planes) rest) sets (IsOpenCopy-taken m words copy p)

  pub IsCopyOf-queue : IsCopyOf m words queued
  IsCopyOf-queue =
      let o = IsOpenCopy-queue in
      let nodes : copy.slice.nodes ≡ work.nodes = sym in_step.nodes in
      record {
        calculus = o.calculus;
        planes = o.planes;
        enough = o.enough;
        tables = o.tables;
        network = subst (λ n. IsNetwork m n words) nodes p.network;
        in_step = subst (λ n. IsInStep m n words work) nodes in_step;
        rows = o.rows;
      }

  -- those whose set isn't full
  pub IsSettledCopy-begun : IsBegun work (full_of m) work.nodes → IsSettledCopy m queued
  IsSettledCopy-begun begun = record { is_open = IsOpenCopy-queue; settled = IsSettled-begun m copy.rows work p.calculus sets begun }

  -- any, where the network is closed
  pub IsSettledCopy-closed : IsClosed m copy.slice.nodes words → IsSettledCopy m queued
  IsSettledCopy-closed closed = record { is_open = IsOpenCopy-queue; settled = λ i j k t _ _ _. AreClosed-in_step m copy.slice.nodes words work in_step closed i j k t }

-- sets made smaller
pub IsOpenCopy-met : (m : Algebra) (copy : CopyState) (work : Worklist) (bases : List ℕ) → IsMet m copy.work work → bases ≡ copy.bases → IsOpenCopy m copy →
    IsOpenCopy m (record copy { work = work; bases = bases })
IsOpenCopy-met m copy work bases p same s = record {
  calculus = s.calculus;
  planes = subst IsPlanes (sym p.planes) s.planes;
  enough = omega (arith, s.enough, p.planes);
  tables = rw (p.planes, same) s.tables;
  sets = p.sets;
  nodes = p.nodes ∙ s.nodes;
  rows = s.rows;
}

pub IsSettledCopy-met : (m : Algebra) (copy : CopyState) (work : Worklist) → IsMet m copy.work work → IsSettledCopy m copy → IsSettledCopy m (record copy { work = work })
IsSettledCopy-met m copy work p s = record {
  is_open = IsOpenCopy-met m copy work copy.bases p (λ _. copy.bases) s.is_open;
  settled = IsSettled-met m copy.rows copy.work work p s.settled;
}

-- sets taken over from other edges
pub TakesOver-met : (m : Algebra) (copy : CopyState) (work : Worklist) → IsMet m copy.work work → IsOpenCopy m copy →
    TakesOver m copy (record copy { slice = record copy.slice { nodes = work.nodes }; work = work })
TakesOver-met m copy work p s =
    let nodes : work.nodes ≡ copy.slice.nodes = p.nodes ∙ s.nodes in
    let F : ℕ → CopyState = λ n. record copy { slice = record copy.slice { nodes = n }; work = work } in
    let met : IsOpenCopy m (record copy { work = work }) = IsOpenCopy-met m copy work copy.bases p (λ _. copy.bases) s in
    record {
      is_open = subst (λ n. IsOpenCopy m (F n)) (sym nodes) met;
      settled = λ t. subst (λ n. IsSettledCopy m (F n)) (sym nodes) (IsSettledCopy-met m copy work p t);
      swept = λ k t. subst (λ n. IsSweptCopy m (F n) k) (sym nodes)
          (record { is_open = met; settled = IsSettled-met m (record { first = copy.rows.first; end = k }) copy.work work p t.settled });
      slice = ap (λ n. let y : Slice = record copy.slice { nodes = n } in y) nodes;
      rows = λ _. copy.rows;
    }

-- what can be noted plays no part
IsMet-room : (m : Algebra) (old new : Worklist) → new ≡ record old { room = new.room } → AreConverses m old → IsMet m old new
IsMet-room m old new rest s =
    let same = IsMet-refl m old s in
    rw rest (record {
      nodes = same.nodes;
      planes = same.planes;
      sets = record { within = same.sets.within; converse = same.sets.converse };
      within = same.within;
      stays = same.stays;
      same = same.same;
    })

pub TakesOver-room : (m : Algebra) (copy : CopyState) (work : Worklist) → work ≡ record copy.work { room = work.room } → IsOpenCopy m copy →
    TakesOver m copy (record copy { slice = record copy.slice { nodes = work.nodes }; work = work })
TakesOver-room m copy work rest s = TakesOver-met m copy work (IsMet-room m copy.work work rest s.sets) s

pub TakesOver-refl : (m : Algebra) (copy : CopyState) → IsOpenCopy m copy → TakesOver m copy copy
TakesOver-refl m copy s = record { is_open = s; settled = λ t. t; swept = λ k t. t; slice = λ _. copy.slice; rows = λ _. copy.rows }

pub TakesOver-trans : (m : Algebra) (a b c : CopyState) → TakesOver m a b → TakesOver m b c → TakesOver m a c
TakesOver-trans m a b c h k = record {
  is_open = k.is_open;
  settled = λ t. k.settled (h.settled t);
  swept = λ x t. k.swept x (h.swept x t);
  slice = k.slice ∙ h.slice;
  rows = k.rows ∙ h.rows;
}

-- another queue
pub IsSweptCopy-none : (m : Algebra) (copy : CopyState) (work : Worklist) → work ≡ record copy.work { queued = work.queued } → IsOpenCopy m copy →
    IsSweptCopy m (record copy { work = work }) copy.rows.first
IsSweptCopy-none m copy work rest s = record {
  is_open =
      let planes = ap (λ (y : Worklist). y.planes) rest in
      record {
        calculus = s.calculus;
        planes = subst IsPlanes (sym planes) s.planes;
        enough = omega (arith, s.enough, planes);
        tables = subst (λ n. AreBaseTables m n copy.bases) (sym planes) s.tables;
        sets = rw rest (record { within = s.sets.within; converse = s.sets.converse });
        nodes = ap (λ (y : Worklist). y.nodes) rest ∙ s.nodes;
        rows = s.rows;
      };
  settled = IsSettled-none m copy.rows.first work;
}

-- rows swept
pub IsSweptCopy-rows : (m : Algebra) (copy : CopyState) (work : Worklist) (bases : List ℕ) (i end : ℕ) → IsStep m copy.work work → bases ≡ copy.bases → AreRowsSettled m work (record { first = i; end = end }) →
    IsSweptCopy m copy i → IsSweptCopy m (record copy { work = work; bases = bases }) end
IsSweptCopy-rows m copy work bases i end p same rows s = record {
  is_open = IsOpenCopy-met m copy work bases (IsMet-step m copy.work work p) same s.is_open;
  settled = IsSettled-rows m copy.rows.first i end work s.is_open.calculus p.sets (IsSettled-met m (record { first = copy.rows.first; end = i }) copy.work work (IsMet-step m copy.work work p) s.settled) rows;
}

-- sets narrowed
pub IsSettledCopy-refined : (m : Algebra) (copy : CopyState) (work : Worklist) (bases : List ℕ) → IsRefinement m copy.work work → IsSettled m copy.rows work → bases ≡ copy.bases →
    IsSettledCopy m copy → IsSettledCopy m (record copy { work = work; bases = bases })
IsSettledCopy-refined m copy work bases p settled same s = record {
  is_open = record {
    calculus = s.is_open.calculus;
    planes = subst IsPlanes (sym p.planes) s.is_open.planes;
    enough = omega (arith, s.is_open.enough, p.planes);
    tables = rw (p.planes, same) s.is_open.tables;
    sets = p.sets;
    nodes = p.nodes ∙ s.is_open.nodes;
    rows = s.is_open.rows;
  };
  settled = settled;
}

-- a copy without queued edges that has the sets of words
pub IsRangeClosed-copy : (m : Algebra) (copy : CopyState) (words : List ℕ) → IsSettledCopy m copy →
    IsQuiet copy.work → IsStored copy.work.nodes words copy.work copy.work.nodes → IsRangeClosed m copy.slice.nodes words copy.slice.from copy.slice.to
IsRangeClosed-copy m copy words s idle stored =
    let n = copy.slice.nodes in
    let e : copy.work.nodes ≡ n = s.is_open.nodes in
    let in_step : IsInStep m n words copy.work = IsInStep-stored m n words copy.work e s.is_open.sets (subst (λ x. IsStored x words copy.work x) e stored) in
    let closed = AreRowsClosed-idle m copy.rows copy.work s.settled idle in
    record {
      each = λ i k o b from to j t.
          let row = s.is_open.rows.each i k o b from to in
          let at = row.from in
          rw (← in_step.sets i k (pair-outer n i j k t), ← in_step.sets i j (pair-first n i j k t), ← in_step.sets j k (pair-second n i j k t))
          (closed i j k (subst (λ x. IsProperTriple x i j k) (sym e) t) (record { first_from = at; second_from = omega arith; lesser_below = inl row.below }));
    }
