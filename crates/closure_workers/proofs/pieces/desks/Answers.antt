use Rattle.std.proofs.Common.{◌≡◌, ◌<◌, ◌++◌, ◌∷◌, [], List, length, length-append, ap, sym, subst, ◌∙◌, arith, false}
use Rattle.std.specs.List.{All}
use Rattle.std.proofs.lemmas.Bool.{true≢false}
use Rattle.std.proofs.lemmas.List.Elements.{All-push}
use Rattle.closure_workers.specs.declared.worker.Desk.{Desk}
use Rattle.closure_workers.specs.Workers.{IsDesk, AreDealt, slices_of}
use Rattle.closure_workers.proofs.DealtSlices.{AreDealt-more}
use Rattle.closure_workers.proofs.pieces.desks.Goals as goal

pub loop-number-preserved : goal.loop-number-preserved
loop-number-preserved c =
    let h = c.loop-number.invariant in
    let nodes = c.args.nodes in
    let old = c.loop-number.desks.items in
    let from = c.loop-number.from in
    let to = c.slice_end-to.result in
    let desk : Desk = record {
      number = c.loop-number.number;
      slice = record { from = from; to = to };
      snap = c.in_ok-new.field-0;
      copy = c.in_ok-new-2.field-0;
      is_settled = false;
    } in
    let pushed : c.push.new.self.items ≡ old ++ desk ∷ [] = c.in-Ok.ensures.items in
    let t = c.loop-number-test.true in
    let few = c.requires.few in
    let ends = c.slice_end-to.ensures in
    record {
      below = ends.below;
      last = λ e. ends.last (omega arith);
      share = λ e. (let s = h.share e in let b = ends.share (omega arith) in omega arith);
      desks = λ m. subst (λ (ds : List Desk). All (IsDesk m nodes) ds) (sym pushed) (All-push (IsDesk m nodes) old desk (h.desks m) (record {
        few = omega arith;
        order = ends.order;
        below = ends.below;
        size = c.in_ok-new.ensures;
        nodes = c.in_ok-new-2.ensures.nodes;
        settled = λ e. absurd (true≢false (sym e));
      }));
      dealt = subst (λ (ds : List Desk). AreDealt (slices_of ds) to) (sym pushed) (AreDealt-more old desk h.dealt);
      some = λ e. subst (λ (ds : List Desk). All (λ (d : Desk). d.slice.from < d.slice.to) ds) (sym pushed)
          (All-push (λ (d : Desk). d.slice.from < d.slice.to) old desk (h.some e) (ends.share (let s = h.share e in omega arith)).0);
      count = ap length pushed ∙ (let l = length-append old (desk ∷ []) in let k = h.count in omega arith);
    }
