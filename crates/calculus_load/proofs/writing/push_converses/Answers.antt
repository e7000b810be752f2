use Rattle.std.specs.String.{string_bytes}
use Rattle.calculus_load.specs.TableText.{converse_text}
use Rattle.qsr_lex.proofs.WrittenTexts.{none_written, more_written}
use Rattle.calculus_load.proofs.writing.push_converses.Goals as goal

pub loop-r-init : goal.loop-r-init
loop-r-init c = none_written (string_bytes c.args.text.now) (converse_text c.args.c.now)

pub loop-r-preserved : goal.loop-r-preserved
loop-r-preserved c = more_written (string_bytes c.args.text.now) (string_bytes c.loop-r.text) (string_bytes c.push_converse.new.text) c.loop-r.r (converse_text c.args.c.now) c.loop-r.invariant c.in_ok-push_converse.ensures
