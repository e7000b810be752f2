use Rattle.std.proofs.Common.{◌++◌, ◌∙◌, codes}
use Rattle.std.specs.String.{string_bytes}
use Rattle.qsr_lex.specs.Printed.{word_text}
use Rattle.qsr_lex.proofs.WrittenTexts.{none_written, more_written}
use Rattle.network_file.proofs.writing.push_names.Goals as goal

pub loop-node-init : goal.loop-node-init
loop-node-init c = c.in_ok-push_str.ensures.bytes ∙ none_written (string_bytes c.args.text.now ++ codes "names ( ") (word_text c.args.net.now.names)

pub loop-node-preserved : goal.loop-node-preserved
loop-node-preserved c = more_written (string_bytes c.args.text.now ++ codes "names ( ") (string_bytes c.loop-node.text) (string_bytes c.push_name.new.text) c.loop-node.node (word_text c.args.net.now.names) c.loop-node.invariant c.in_ok-push_name.ensures
