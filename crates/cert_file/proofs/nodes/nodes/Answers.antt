use Rattle.std.proofs.Common.{◌≡◌, ◌+◌, ◌∷◌, ◌++◌, [], length, Ok, ap, sym, ◌∙◌, arith, rules}
use Rattle.std.proofs.lemmas.List.{length_push}
use Rattle.std.proofs.lemmas.Grind.{common_steps}
use Rattle.cert_file.specs.Nodes.{node_of}
use Rattle.cert_file.proofs.Lists.{values-more, values-stop, values-all, list_of-entries}
use Rattle.cert_file.proofs.nodes.nodes.Goals as goal

pub returns-in-Err-At-clause-fault : goal.returns-in-Err-At-clause-fault
returns-in-Err-At-clause-fault c = λ _.
    list_of-entries (node_of c.args.version) _ _ c.in_ok-entries.ensures.ok
    ∙ values-stop (node_of c.args.version) c.in_ok-entries.entries.now c.loop-index.index c.index-entries-index.result c.loop-index.list.items c.in-Err-At.field-0
    (omega arith) c.index-entries-index.is c.loop-index.invariant.values (c.in-Err-At.ensures.fault (λ e. cc (c.in-Err-At.field-0-is, e)))

pub loop-index-preserved : goal.loop-index-preserved
loop-index-preserved c =
    let pushed : c.push.new.self.items ≡ c.loop-index.list.items ++ c.in-Ok.node ∷ [] = search rules in
    record {
      values = values-more (node_of c.args.version) c.in_ok-entries.entries.now c.loop-index.index c.index-entries-index.result c.loop-index.list.items c.in-Ok.node
          (omega arith) c.index-entries-index.is c.loop-index.invariant.values c.in-Ok.ensures.ok ∙ ap Ok (sym pushed);
      steps = let few = c.in-Ok.ensures.few in let before = c.loop-index.invariant.steps in grind (arith, common_steps, pushed, few, before);
      count = ap length pushed ∙ length_push c.loop-index.list.items c.in-Ok.node ∙ ap (λ n. n + 1) c.loop-index.invariant.count;
    }

pub returns-clause-ok : goal.returns-clause-ok
returns-clause-ok c =
    list_of-entries (node_of c.args.version) _ _ c.in_ok-entries.ensures.ok
    ∙ values-all (node_of c.args.version) c.in_ok-entries.entries.now c.loop-index.index c.loop-index.list.items c.loop-index-test.false c.loop-index.invariant.values

pub returns-clause-few : goal.returns-clause-few
returns-clause-few c = omega (arith, c.loop-index.invariant.count, c.in_ok-entries.ensures.few)
