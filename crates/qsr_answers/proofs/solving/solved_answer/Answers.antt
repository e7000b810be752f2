use Rattle.std.proofs.Common.{◌∙◌}
use Rattle.qsr_answers.proofs.Verdicts.{same_answer}
use Rattle.qsr_answers.proofs.solving.solved_answer.Goals as goal

pub returns : goal.returns
returns g c = record {
  verdict = c.in_ok-verdict.verdict;
  on_network = c.in_ok-verdict.ensures.verdict;
  text_is = rw (← c.guided.view_is) (c.in_ok-text.ensures
      ∙ same_answer c.guided.inside.calculus c.args.net c.verdict.new.net c.in_ok-verdict.ensures.rest
      c.args.request.now.cert c.in_ok-verdict.verdict);
  status_is = c.verdict_status-status.ensures;
}
