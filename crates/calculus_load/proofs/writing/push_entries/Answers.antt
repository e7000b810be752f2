use Rattle.std.proofs.Common.{◌∙◌}
use Rattle.std.specs.String.{string_bytes}
use Rattle.calculus_load.specs.TableText.{row_text}
use Rattle.qsr_lex.proofs.WrittenTexts.{none_written, more_written}
use Rattle.calculus_load.proofs.writing.push_entries.Goals as goal

pub loop-r-init : goal.loop-r-init
loop-r-init c = record { text = none_written (string_bytes c.args.text.now) (row_text c.args.c.now); sets = c.requires }

pub loop-r-preserved : goal.loop-r-preserved
loop-r-preserved c = record {
  text = more_written (string_bytes c.args.text.now) (string_bytes c.loop-r.text) (string_bytes c.push_row.new.text) c.loop-r.r (row_text c.args.c.now) c.loop-r.invariant.text c.in_ok-push_row.ensures.text;
  sets = c.push_row.ensures.sets ∙ c.loop-r.invariant.sets;
}
