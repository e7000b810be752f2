use Rattle.std.proofs.Common.{◌≡◌, ◌<◌, ◌+◌, ◌-◌, ◌*◌, ◌++◌, take, drop, List, ℕ, length, ap, ◌∙◌, arith}
use Rattle.std.proofs.lemmas.Grind.{common_steps}
use Rattle.std.specs.Prelude.{slice_set}
use Rattle.edge_propagation.specs.Worklist.{sets_in, worklist_in}
use Rattle.edge_propagation.proofs.Planes.{AreBytesOf-put, IsSized-put, sets_in-put}
use Rattle.edge_propagation.proofs.pairs.PairSets.put.Goals as goal

pub invariant_of-self : goal.invariant_of-self
invariant_of-self g c =
    let z = c.self.invariant.0 in
    let inside = c.self.inside in
    let bytes = inside.bytes.items in
    let new = c.put_set.new.bytes in
    let was = c.deref_mut.result.now in
    let p = c.put_set.ensures in
    let work = worklist_in inside.nodes inside.planes bytes inside.queued.items 0 0 in
    let ib : c.args.i < inside.nodes = rw (← c.self.view_is) at c.requires.first in
    let jb : c.args.j < inside.nodes = rw (← c.self.view_is) at c.requires.second in
    let known : inside.planes ≡ g.row.P = rw (← c.self.view_is) at c.requires.planes in
    let sets : sets_in new inside.planes inside.nodes ≡ slice_set (sets_in bytes inside.planes inside.nodes) (256 * c.args.i + c.args.j) c.args.rel =
    sets_in-put work bytes was new g.row.P c.args.i c.args.j c.args.rel c.byte_place.result z ib jb known c.deref_mut.ensures.value c.byte_place.ensures p.here p.elsewhere c.requires.fits in
    let whole : take inside.bytes.len (new ++ drop (length new) bytes) ≡ new = grind (arith, common_steps) in (
      rw (whole, sets) (IsSized-put work (256 * c.args.i + c.args.j) c.args.rel z),
      rw (whole, sets)
          (AreBytesOf-put work bytes was new g.row.P c.args.i c.args.j c.args.rel c.byte_place.result z ib jb known c.deref_mut.ensures.value c.byte_place.ensures p.here p.elsewhere c.put_set.auto.bytes c.self.invariant.1),
      c.self.invariant.2,
      c.self.invariant.3,
      c.self.invariant.4,
    )

pub returns-clause-value : goal.returns-clause-value
returns-clause-value g c =
    let inside = c.self.inside in
    let bytes = inside.bytes.items in
    let new = c.put_set.new.bytes in
    let p = c.put_set.ensures in
    let notes = length inside.notes.items in
    let work = worklist_in inside.nodes inside.planes bytes inside.queued.items (notes - inside.noted) notes in
    let whole : take inside.bytes.len (new ++ drop (length new) bytes) ≡ new = grind (arith, common_steps) in
    let sets = sets_in-put (worklist_in inside.nodes inside.planes bytes inside.queued.items 0 0) bytes
    c.deref_mut.result.now new g.row.P c.args.i c.args.j c.args.rel c.byte_place.result c.self.invariant.0
    (rw (← c.self.view_is) at c.requires.first) (rw (← c.self.view_is) at c.requires.second)
    (rw (← c.self.view_is) at c.requires.planes) c.deref_mut.ensures.value c.byte_place.ensures p.here p.elsewhere
    c.requires.fits in
    rw (← c.self.view_is) (ap (λ (s : List ℕ). record work { sets = s }) (ap (λ xs. sets_in xs inside.planes inside.nodes) whole ∙ sets))
