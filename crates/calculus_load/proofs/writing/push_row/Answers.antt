use Rattle.std.proofs.Common.{◌∙◌, sym}
use Rattle.std.specs.String.{string_bytes}
use Rattle.calculus_load.specs.TableText.{entry_text}
use Rattle.qsr_lex.proofs.WrittenTexts.{none_written, more_written}
use Rattle.calculus_load.proofs.writing.push_row.Goals as goal

pub loop-s-init : goal.loop-s-init
loop-s-init c = record { text = none_written (string_bytes c.args.text.now) (entry_text c.args.c.now c.args.r); sets = c.requires.sets }

pub returns-in_err-push_entry-clause-sets : goal.returns-in_err-push_entry-clause-sets
returns-in_err-push_entry-clause-sets c = c.push_entry.ensures.sets ∙ c.loop-s.invariant.sets ∙ sym c.requires.sets

pub loop-s-preserved : goal.loop-s-preserved
loop-s-preserved c = record {
  text = more_written (string_bytes c.args.text.now) (string_bytes c.loop-s.text) (string_bytes c.push_entry.new.text) c.loop-s.s (entry_text c.args.c.now c.args.r) c.loop-s.invariant.text c.in_ok-push_entry.ensures.text;
  sets = c.push_entry.ensures.sets ∙ c.loop-s.invariant.sets;
}

pub returns-clause-sets : goal.returns-clause-sets
returns-clause-sets c = c.loop-s.invariant.sets ∙ sym c.requires.sets
