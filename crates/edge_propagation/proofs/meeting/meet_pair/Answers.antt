use Rattle.std.proofs.Common.{◌≡◌, sym, ◌∙◌}
use Rattle.std.specs.Prelude.{bit_and}
use Rattle.std.proofs.lemmas.Bool.{eqb-true}
use Rattle.calculus_table.specs.Rel.{IsWithin}
use Rattle.calculus_table.proofs.Sets.{IsWithin-trans, IsWithin-meet_l}
use Rattle.edge_propagation.specs.Worklist.{set_of}
use Rattle.edge_propagation.proofs.Steps.{IsMet-refl, IsMet-refined}
use Rattle.edge_propagation.proofs.Meets.{IsPairMet-same, IsPairMet-refined}
use Rattle.edge_propagation.proofs.meeting.meet_pair.Goals as goal

pub refine-requires-clause-within : goal.refine-requires-clause-within
refine-requires-clause-within g c = rw (c.meet-met.ensures, c.get-set.ensures) (IsWithin-trans _ _ _ (IsWithin-meet_l _ _) (c.requires.sets.within _ _ c.requires.proper))

pub returns-then-eq : goal.returns-then-eq
returns-then-eq g c =
    let same : c.meet-met.result ≡ c.get-set.result = eqb-true c.meet-met.result c.get-set.result (cc) in
    record {
      met = IsMet-refl _ _ c.requires.sets;
      set = IsPairMet-same _ _ _ _ (rw (← c.get-set.ensures) (sym c.meet-met.ensures ∙ same));
    }

pub returns : goal.returns
returns g c =
    let m = g.C.Compose.algebra c.args.c.now in
    let r = c.requires in
    let x = c.meet-met.result in
    let sized = c.nodes-nodes.ensures.sized in
    let within : IsWithin x (set_of c.args.work.now c.args.i c.args.j) = rw (c.meet-met.ensures, c.get-set.ensures) (IsWithin-meet_l _ _) in
    let part : x ≡ bit_and (set_of c.args.work.now c.args.i c.args.j) c.args.rel = rw (← c.get-set.ensures) c.meet-met.ensures in
    rw c.refine.ensures.value (record {
      met = IsMet-refined m c.args.work.now c.args.i c.args.j x c.lawful.ensures r.sets sized r.proper within;
      set = IsPairMet-refined m c.args.work.now c.args.i c.args.j x c.args.rel c.lawful.ensures r.sets sized r.proper within part;
    })
