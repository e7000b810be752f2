use Rattle.std.proofs.Common.{◌∷◌, ◌++◌, [], map, take, All, ap, sym, subst, ◌∙◌, arith}
use Rattle.std.proofs.lemmas.List.{map_push, take_more, take_all}
use Rattle.std.proofs.lemmas.List.Elements.{All-push}
use Rattle.serde_json.specs.Data.{array}
use Rattle.serde_json.specs.View.{view, items_of}
use Rattle.serde_json.proofs.Views.{view-Array}
use Rattle.cert_file.proofs.json_values.list_value.Goals as goal

pub returns-clause-value : goal.returns-clause-value
returns-clause-value g c =
    view-Array c.loop-item.values
    ∙ ap (λ ds. array (items_of ds)) (c.loop-item.invariant.values ∙ ap (map g.T.ToJson.json) (take_all c.loop-item.item-index c.args.list.now c.loop-item-test.false))

pub returns-clause-numbers : goal.returns-clause-numbers
returns-clause-numbers g c =
    subst (All g.T.ToJson.fits) (take_all c.loop-item.item-index c.args.list.now c.loop-item-test.false) c.loop-item.invariant.numbers

pub loop-item-preserved : goal.loop-item-preserved
loop-item-preserved g c =
    let list = c.args.list.now in
    let i = c.loop-item.item-index in
    record {
      values = ap (map view) c.in_ok-push.ensures.items ∙ map_push view c.loop-item.values.items c.in_ok-value.value
          ∙ ap (λ ds. ds ++ view c.in_ok-value.value ∷ []) c.loop-item.invariant.values
          ∙ ap (λ d. map g.T.ToJson.json (take i list) ++ d ∷ []) (c.in_ok-value.ensures.value ∙ ap g.T.ToJson.json c.item-item.is)
          ∙ sym (ap (map g.T.ToJson.json) (take_more list i c.item-item.result (omega arith)) ∙ map_push g.T.ToJson.json (take i list) _);
      numbers = subst (All g.T.ToJson.fits) (sym (take_more list i c.item-item.result (omega arith)))
          (All-push g.T.ToJson.fits (take i list) _ c.loop-item.invariant.numbers (subst g.T.ToJson.fits c.item-item.is c.in_ok-value.ensures.numbers));
    }
