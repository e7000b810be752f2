use Rattle.std.proofs.Common.{◌∙◌, ap, arith, drop}
use Rattle.std.proofs.lemmas.Grind.{common_steps}
use Rattle.qsr_outside.proofs.Pieces.{copied_front}
use Rattle.qsr_outside.proofs.map_shelf.MapShelfSource.read.Goals as goal

pub returns-clause-gives : goal.returns-clause-gives
returns-clause-gives c =
    copied_front c.args.self.now.left c.copy_from_slice.new.self _ _ c.min-n.result
    (grind (arith, common_steps)) (grind (arith, common_steps)) (ap (λ s. s.left) c.advance.ensures ∙ ap (λ s. drop c.min-n.result s.left) c.self.view_is)
