use Rattle.std.proofs.Common.{subst, sym}
use Rattle.named_sets.specs.Kept.{IsKept}
use Rattle.named_sets.proofs.KeptLines.{AreKept-set, start-boundary, end-boundary}
use Rattle.named_sets.proofs.writing.SetWriter.push_new_line.Goals as goal

pub range-requires-clause-start_boundary : goal.range-requires-clause-start_boundary
range-requires-clause-start_boundary c =
    let s = c.self.inside in
    λ _. start-boundary s.c.now c.deref.result.now c.in_ok-kept.kept c.deref.utf8 (subst (λ xs. IsKept s.c.now xs c.in_ok-kept.kept) (sym c.deref.ensures) c.in_ok-kept.ensures.line)

pub range-requires-clause-end_boundary : goal.range-requires-clause-end_boundary
range-requires-clause-end_boundary c =
    let s = c.self.inside in
    end-boundary s.c.now c.deref.result.now c.in_ok-kept.kept c.deref.utf8 (subst (λ xs. IsKept s.c.now xs c.in_ok-kept.kept) (sym c.deref.ensures) c.in_ok-kept.ensures.line)

pub invariant_of-self-2 : goal.invariant_of-self-2
invariant_of-self-2 c =
    let kept = c.in_ok-kept.kept in
    let s = c.self.inside in
    AreKept-set s.c.now _ c.keep_line.new.places.items c.place_of-place.result (record kept { set = c.args.set }) c.keep_line.ensures.kept
    (rw (sym c.in_ok-kept.ensures.set) c.in_ok-kept.ensures.line)
