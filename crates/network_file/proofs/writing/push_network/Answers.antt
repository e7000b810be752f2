use Rattle.std.proofs.Common.{◌≡◌, ◌++◌, ◌∙◌, refl, ap, codes, rules}
use Rattle.std.specs.Fmt.{decimal}
use Rattle.std.specs.String.{string_bytes}
use Rattle.network_file.specs.NetworkText.{row_text, names_text}
use Rattle.qsr_lex.proofs.WrittenTexts.{none_written, more_written}
use Rattle.network_file.proofs.writing.push_network.Goals as goal

pub loop-i-init : goal.loop-i-init
loop-i-init c =
    let front = string_bytes c.args.text.now ++ codes "nodes " ++ decimal c.args.net.now.nodes ++ codes "\n" ++ names_text c.args.net.now in
    let head : string_bytes c.push_header.new.text ≡ front = search rules in
    record { text = head ∙ none_written front (row_text c.args.sets.now c.args.net.now); sets = refl }

pub loop-i-preserved : goal.loop-i-preserved
loop-i-preserved c =
    let front = string_bytes c.args.text.now ++ codes "nodes " ++ decimal c.args.net.now.nodes ++ codes "\n" ++ names_text c.args.net.now in
    record {
      text = more_written front (string_bytes c.loop-i.text) (string_bytes c.push_row.new.text) c.loop-i.i (row_text c.args.sets.now c.args.net.now) c.loop-i.invariant.text
          (c.in_ok-push_row.ensures.text ∙ ap (λ s. string_bytes c.loop-i.text ++ row_text s c.args.net.now c.loop-i.i) c.loop-i.invariant.sets);
      sets = c.push_row.ensures.sets ∙ c.loop-i.invariant.sets;
    }
