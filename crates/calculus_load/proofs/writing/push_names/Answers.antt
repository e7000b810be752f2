use Rattle.std.proofs.Common.{◌++◌, ◌∙◌, ap, codes}
use Rattle.std.specs.String.{string_bytes}
use Rattle.qsr_lex.specs.Printed.{word_text}
use Rattle.qsr_lex.proofs.WrittenTexts.{none_written, more_written}
use Rattle.calculus_load.proofs.Texts.{base_name-read}
use Rattle.calculus_load.proofs.writing.push_names.Goals as goal

pub loop-r-init : goal.loop-r-init
loop-r-init c = c.in_ok-push_str.ensures.bytes ∙ none_written (string_bytes c.args.text.now ++ codes "names ( ") (word_text c.args.c.now.names)

pub loop-r-preserved : goal.loop-r-preserved
loop-r-preserved c = more_written (string_bytes c.args.text.now ++ codes "names ( ") (string_bytes c.loop-r.text) (string_bytes c.write.new.self) c.loop-r.r (word_text c.args.c.now.names) c.loop-r.invariant
    (c.in_ok-write.ensures.bytes ∙ ap (λ x. string_bytes c.loop-r.text ++ (x ++ codes " ")) (base_name-read c.args.c.now c.loop-r.r c.name.result.now c.name.ensures))
