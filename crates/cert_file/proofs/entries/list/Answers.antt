use Rattle.std.proofs.Common.{◌≡◌, ◌+◌, ◌∷◌, ◌++◌, [], length, Ok, ap, sym, ◌∙◌, arith, rules}
use Rattle.std.proofs.lemmas.List.{length_push}
use Rattle.cert_file.proofs.Lists.{values-more, values-stop, values-all, list_of-entries}
use Rattle.cert_file.proofs.entries.list.Goals as goal

pub returns-in_default-clause-fault : goal.returns-in_default-clause-fault
returns-in_default-clause-fault g c = λ _.
    list_of-entries g.T.FromJson.of _ _ c.in_ok-entries.ensures.ok
    ∙ values-stop g.T.FromJson.of c.in_ok-entries.entries.now c.loop-index.index c.index-entries-index.result c.loop-index.list.items c.in_default.field-0
    (omega arith) c.index-entries-index.is c.loop-index.invariant.values (sym c.read.ensures ∙ c.in_default.is)

pub loop-index-preserved : goal.loop-index-preserved
loop-index-preserved g c =
    let pushed : c.push.new.self.items ≡ c.loop-index.list.items ++ c.in-Ok.entry ∷ [] = search rules in
    record {
      values = values-more g.T.FromJson.of c.in_ok-entries.entries.now c.loop-index.index c.index-entries-index.result c.loop-index.list.items c.in-Ok.entry
          (omega arith) c.index-entries-index.is c.loop-index.invariant.values (sym c.read.ensures ∙ c.in-Ok.is) ∙ ap Ok (sym pushed);
      count = ap length pushed ∙ length_push c.loop-index.list.items c.in-Ok.entry ∙ ap (λ n. n + 1) c.loop-index.invariant.count;
    }

pub returns-clause-ok : goal.returns-clause-ok
returns-clause-ok g c =
    list_of-entries g.T.FromJson.of _ _ c.in_ok-entries.ensures.ok
    ∙ values-all g.T.FromJson.of c.in_ok-entries.entries.now c.loop-index.index c.loop-index.list.items c.loop-index-test.false c.loop-index.invariant.values

pub returns-clause-few : goal.returns-clause-few
returns-clause-few g c = omega (arith, c.loop-index.invariant.count, c.in_ok-entries.ensures.few)
