use Rattle.std.proofs.Common.{◌∙◌, ap, arith, drop, drop-drop, sym}
use Rattle.std.proofs.lemmas.Grind.{common_steps}
use Rattle.qsr_outside.proofs.Pieces.{copied_front}
use Rattle.qsr_outside.proofs.bytes_source.BytesSourceSource.read.Goals as goal

pub returns-clause-gives : goal.returns-clause-gives
returns-clause-gives c =
    copied_front c.args.self.now.left c.copy_from_slice.new.self _ _ c.min-n.result
    (grind (arith, common_steps)) (grind (arith, common_steps))
    (sym (drop-drop c.min-n.result c.self.inside.at c.self.inside.bytes.items) ∙ ap (λ s. drop c.min-n.result s.left) c.self.view_is)
