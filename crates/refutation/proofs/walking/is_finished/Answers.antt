use Rattle.std.proofs.Common.{◌≡◌, ◌-◌, ◌<◌, ◌≤◌, ◌∙◌, length, get_or, sym, ap, arith, rules}
use Rattle.std.proofs.lemmas.Option.{slice_get_within}
use Rattle.refutation.specs.declared.walking.Entered.{Entered}
use Rattle.split_trees.specs.Tree.{split_parts}
use Rattle.refutation.proofs.Ways.{last-read, last-node}
use Rattle.refutation.proofs.walking.is_finished.Goals as goal

abbrev unset : Entered
unset = record { node = 0; next = 0 }

pub bounds-nodes-last : goal.bounds-nodes-last
bounds-nodes-last c =
    let r = c.requires in
    let last = last-read c.args.way.now r.before r.at r.way_is unset in
    rw last (slice_get_within c.args.nodes.now r.at.node r.node r.is_there)

pub returns-clause-next : goal.returns-clause-next
returns-clause-next c =
    let r = c.requires in
    let last : (get_or c.args.way.now (length c.args.way.now - 1) unset).next ≡ r.at.next = ap (λ (y : Entered). y.next) (last-read c.args.way.now r.before r.at r.way_is unset) in
    let parts : c.parts_count.result ≡ length (split_parts r.node) = c.parts_count.ensures ∙ ap (λ y. length (split_parts y)) (sym (last-node c.args.nodes.now c.args.way.now r.before r.at r.way_is r.node r.is_there c.index-nodes-last.result unset c.index-nodes-last.is)) in
    λ no_more. record {
      at = r.at;
      before = r.before;
      way_is = r.way_is;
      node = r.node;
      is_there = r.is_there;
      left = (let h : (get_or c.args.way.now (length c.args.way.now - 1) unset).next < c.parts_count.result = search rules in omega arith);
    }

pub returns-clause-finished : goal.returns-clause-finished
returns-clause-finished c =
    let r = c.requires in
    let last : (get_or c.args.way.now (length c.args.way.now - 1) unset).next ≡ r.at.next = ap (λ (y : Entered). y.next) (last-read c.args.way.now r.before r.at r.way_is unset) in
    let parts : c.parts_count.result ≡ length (split_parts r.node) = c.parts_count.ensures ∙ ap (λ y. length (split_parts y)) (sym (last-node c.args.nodes.now c.args.way.now r.before r.at r.way_is r.node r.is_there c.index-nodes-last.result unset c.index-nodes-last.is)) in
    λ all. record {
      at = r.at;
      before = r.before;
      way_is = r.way_is;
      node = r.node;
      is_there = r.is_there;
      none_left = (let h : c.parts_count.result ≤ (get_or c.args.way.now (length c.args.way.now - 1) unset).next = search rules in omega arith);
    }
