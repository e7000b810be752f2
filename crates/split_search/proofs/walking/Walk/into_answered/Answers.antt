use Rattle.std.proofs.Common.{sym, ap, subst, ◌∙◌}
use Rattle.network_words.specs.Network.{Network}
use Rattle.split_search.specs.Ruled.{IsVerdict}
use Rattle.split_search.specs.Searches.{task_of}
use Rattle.split_search.proofs.walking.Walk.into_answered.Goals as goal

pub returns : goal.returns
returns g c =
    let t = task_of c.args.self.search in
    record {
      nodes_are = ap (λ (x : Network). x.nodes) c.in_ok-net.ensures ∙ c.requires.walk.task.nodes_are;
      budget = t.budget;
      ruled = subst (λ ws. IsVerdict t.algebra t.nodes t.class t.budget ws c.in_ok-verdict.verdict)
          (sym (ap (λ (x : Network). x.words) c.in_ok-net.ensures))
          c.in_ok-verdict.ensures.ruled;
    }
