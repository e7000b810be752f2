use Rattle.std.proofs.Common.{◌≡◌, ap, ◌∙◌, subst, arith}
use Rattle.std.specs.Prelude.{slice_index}
use Rattle.network_words.specs.Edge.{edge_at}
use Rattle.network_words.proofs.Edges.{edge_between-forward}
use Rattle.edge_propagation.specs.Propagation.{IsPairMet}
use Rattle.edge_propagation.proofs.Steps.{IsMet-refl, IsMet-trans}
use Rattle.edge_propagation.proofs.Meets.{IsRowMet-none, IsRowMet-more}
use Rattle.edge_propagation.proofs.meeting.meet_row.Goals as goal

pub loop-j-init : goal.loop-j-init
loop-j-init g c = record { met = IsMet-refl _ _ c.requires.sets; row = IsRowMet-none _ _ _ }

pub loop-j-preserved : goal.loop-j-preserved
loop-j-preserved g c =
    let h = c.loop-j.invariant in
    let e = c.meet_pair.ensures in
    let words = c.args.words.now in
    let work = c.args.work.now in
    let at : c.edge_between.result ≡ edge_at work.nodes c.args.i c.loop-j.j =
    c.edge_between.ensures.value ∙ edge_between-forward c.nodes-nodes.result c.args.i c.loop-j.j (omega arith) ∙ ap (λ n. edge_at n c.args.i c.loop-j.j) c.nodes-nodes.ensures.value in
    record {
      met = IsMet-trans _ _ _ _ h.met e.met;
      row = IsRowMet-more words work _ _ c.args.i c.loop-j.j h.met.nodes (omega arith) (omega (arith, c.nodes-nodes.ensures.value)) h.row
          (subst (λ r. IsPairMet c.loop-j.work c.meet_pair.new.work c.args.i c.loop-j.j r) (c.of.ensures ∙ ap (slice_index words) at) e.set);
    }
