use Rattle.std.proofs.Common.{◌∷◌, ◌++◌, [], map, take, ap, sym, subst, ◌∙◌, arith}
use Rattle.std.proofs.lemmas.List.{map_push, take_more, take_all}
use Rattle.std.proofs.lemmas.List.Elements.{All-push}
use Rattle.serde_json.specs.Data.{array}
use Rattle.serde_json.specs.View.{view, items_of}
use Rattle.serde_json.proofs.Views.{view-Array}
use Rattle.split_trees.specs.Tree.{TreeNode}
use Rattle.cert_file.specs.Written.{node_json, IsNodeOfNumbers, IsTreeOfNumbers}
use Rattle.cert_file.proofs.writing.tree_value.Goals as goal

pub returns-clause-value : goal.returns-clause-value
returns-clause-value c =
    view-Array c.loop-node.values
    ∙ ap (λ ds. array (items_of ds)) (c.loop-node.invariant.values ∙ ap (map (node_json c.args.version)) (take_all c.loop-node.node-index c.args.nodes.now c.loop-node-test.false))

pub returns-clause-numbers : goal.returns-clause-numbers
returns-clause-numbers c =
    subst (IsTreeOfNumbers c.args.version) (take_all c.loop-node.node-index c.args.nodes.now c.loop-node-test.false) c.loop-node.invariant.numbers

pub loop-node-preserved : goal.loop-node-preserved
loop-node-preserved c =
    let json = node_json c.args.version in
    let list = c.args.nodes.now in
    let i = c.loop-node.node-index in
    let node = c.node-item.result in
    record {
      values = ap (map view) c.in_ok-push.ensures.items ∙ map_push view c.loop-node.values.items c.in_ok-value.value
          ∙ ap (λ ds. ds ++ view c.in_ok-value.value ∷ []) c.loop-node.invariant.values
          ∙ ap (λ d. map json (take i list) ++ d ∷ []) (c.in_ok-value.ensures.value ∙ ap json c.node-item.is)
          ∙ sym (ap (map json) (take_more list i node (omega arith)) ∙ map_push json (take i list) _);
      numbers = subst (IsTreeOfNumbers c.args.version) (sym (take_more list i node (omega arith)))
          (All-push (λ (y : TreeNode). IsNodeOfNumbers c.args.version y.kind y) (take i list) _ c.loop-node.invariant.numbers
          (subst (λ (y : TreeNode). IsNodeOfNumbers c.args.version y.kind y) c.node-item.is c.in_ok-value.ensures.numbers));
    }
