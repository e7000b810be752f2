use Rattle.std.proofs.Common.{subst, sym}
use Rattle.named_sets.specs.Kept.{IsKept}
use Rattle.named_sets.proofs.KeptLines.{AreKept-at, start-boundary, end-boundary}
use Rattle.named_sets.proofs.writing.SetWriter.push_line.Goals as goal

pub range-requires-clause-start_boundary : goal.range-requires-clause-start_boundary
range-requires-clause-start_boundary c =
    let s = c.self.inside in
    let is = AreKept-at s.c.now _ s.places.items c.place_of-place.result c.index.result.now c.in-Some.kept c.self.invariant c.place_of-place.ensures c.index.ensures c.in-Some.is in
    λ _. start-boundary s.c.now c.deref.result.now c.in-Some.kept c.deref.utf8 (subst (λ xs. IsKept s.c.now xs c.in-Some.kept) (sym c.deref.ensures) is)

pub range-requires-clause-end_boundary : goal.range-requires-clause-end_boundary
range-requires-clause-end_boundary c =
    let s = c.self.inside in
    let is = AreKept-at s.c.now _ s.places.items c.place_of-place.result c.index.result.now c.in-Some.kept c.self.invariant c.place_of-place.ensures c.index.ensures c.in-Some.is in
    end-boundary s.c.now c.deref.result.now c.in-Some.kept c.deref.utf8 (subst (λ xs. IsKept s.c.now xs c.in-Some.kept) (sym c.deref.ensures) is)
