-- Workers who go on, step after step.
use Rattle.std.proofs.Common.{◌≡◌, length, refl, sym, ◌∙◌, ap, subst}
use Rattle.edge_table.specs.Opening.{OpenState, PassState, algebra_of}
use Rattle.edge_table.specs.Passes.{GoesOn}
use Rattle.edge_table.proofs.Passes.{GoesOn-refl, GoesOn-trans}
use Rattle.slice_copy.specs.Copies.{Slice, IsOpenCopy}
use Rattle.closure_workers.specs.declared.worker.Desk.{Desk}
use Rattle.closure_workers.specs.declared.worker.Worker.{Worker}
use Rattle.closure_workers.specs.declared.slices.Slice.{Slice as Edges}
use Rattle.network_words.specs.Edge.{edge_count}
use Rattle.closure_workers.specs.Slices.{IsLooking, LooksOn}
use Rattle.closure_workers.specs.Workers.{IsCopyOfSlice, IsAtWork, GoesOnAs, WorksOn}

pub GoesOnAs-refl : (w : Worker) → GoesOnAs w w
GoesOnAs-refl w = record { goes_on = GoesOn-refl w.pass; number = refl; slice = refl }

pub GoesOnAs-trans : (a b c : Worker) → GoesOnAs a b → GoesOnAs b c → GoesOnAs a c
GoesOnAs-trans a b c h k = record {
  goes_on = GoesOn-trans a.pass b.pass c.pass h.goes_on k.goes_on;
  number = k.number ∙ h.number;
  slice = k.slice ∙ h.slice;
}

pub WorksOn-refl : (t : OpenState) (w : Worker) → IsAtWork t w → WorksOn t w w
WorksOn-refl t w h = record { at_work = h; as_before = GoesOnAs-refl w }

pub WorksOn-trans : (t : OpenState) (a b c : Worker) → WorksOn t a b → WorksOn t b c → WorksOn t a c
WorksOn-trans t a b c h k = record { at_work = k.at_work; as_before = GoesOnAs-trans a b c h.as_before k.as_before }

-- by calls that go on with the pass, and leave the copy one of the same slice
pub WorksOn-next : (t : OpenState) (old new : Worker) → IsAtWork t old → LooksOn t old.pass new.pass new.desk.snap → IsOpenCopy (algebra_of t.opening) new.desk.copy →
    new.desk.copy.slice ≡ old.desk.copy.slice → new.desk.slice ≡ old.desk.slice → new.desk.number ≡ old.desk.number → WorksOn t old new
WorksOn-next t old new h looks copy same slice number = record {
  at_work = record {
    looking = looks.looking;
    size = ap length looks.looking.snap ∙ looks.goes_on.length_is ∙ sym (ap length h.looking.snap) ∙ h.size;
    copy = copy;
    of_slice = record {
      nodes = ap (λ (s : Slice). s.nodes) same ∙ h.of_slice.nodes;
      from = ap (λ (s : Slice). s.from) same ∙ h.of_slice.from ∙ sym (ap (λ (s : Edges). s.from) slice);
      to = ap (λ (s : Slice). s.to) same ∙ h.of_slice.to ∙ sym (ap (λ (s : Edges). s.to) slice);
    };
  };
  as_before = record { goes_on = looks.goes_on; number = number; slice = slice };
}

-- from a worker with the same pass, number and slice
pub WorksOn-from : (t : OpenState) (old mid new : Worker) → WorksOn t mid new → mid.pass ≡ old.pass → mid.desk.number ≡ old.desk.number → mid.desk.slice ≡ old.desk.slice →
    WorksOn t old new
WorksOn-from t old mid new h pass number slice = record {
  at_work = h.at_work;
  as_before = record {
    goes_on = subst (λ (p : PassState). GoesOn p new.pass) pass h.as_before.goes_on;
    number = h.as_before.number ∙ number;
    slice = h.as_before.slice ∙ slice;
  };
}

-- to a worker with the same pass and desk
pub WorksOn-to : (t : OpenState) (old mid new : Worker) → WorksOn t old mid → new.pass ≡ mid.pass → new.desk ≡ mid.desk → WorksOn t old new
WorksOn-to t old mid new h pass desk = record {
  at_work = record {
    looking = subst (λ (p : PassState). IsLooking t p new.desk.snap) (sym pass) (subst (λ (d : Desk). IsLooking t mid.pass d.snap) (sym desk) h.at_work.looking);
    size = subst (λ (d : Desk). length d.snap ≡ edge_count t.opening.nodes) (sym desk) h.at_work.size;
    copy = subst (λ (d : Desk). IsOpenCopy (algebra_of t.opening) d.copy) (sym desk) h.at_work.copy;
    of_slice = subst (λ (d : Desk). IsCopyOfSlice t.opening.nodes d.slice d.copy) (sym desk) h.at_work.of_slice;
  };
  as_before = record {
    goes_on = subst (λ (p : PassState). GoesOn old.pass p) (sym pass) h.as_before.goes_on;
    number = ap (λ (d : Desk). d.number) desk ∙ h.as_before.number;
    slice = ap (λ (d : Desk). d.slice) desk ∙ h.as_before.slice;
  };
}
