use Rattle.std.proofs.Common.{◌≡◌, ◌++◌, ◌∙◌, ap, codes}
use Rattle.std.specs.Fmt.{decimal}
use Rattle.std.specs.String.{string_bytes}
use Rattle.network_file.specs.NetworkText.{names_text}
use Rattle.network_file.proofs.Texts.{header_written}
use Rattle.network_file.proofs.writing.push_header.Goals as goal

pub returns : goal.returns
returns c =
    let number : decimal c.nodes.result ≡ decimal c.args.net.now.nodes = ap decimal c.nodes.ensures.value in
    let head : string_bytes c.writeln.new.self ≡ string_bytes c.args.text.now ++ (codes "nodes " ++ (decimal c.args.net.now.nodes ++ codes "\n")) =
    c.in_ok-writeln.ensures.bytes ∙ ap (λ d. string_bytes c.args.text.now ++ (codes "nodes " ++ (d ++ codes "\n"))) number in
    header_written (string_bytes c.args.text.now) (codes "nodes ") (decimal c.args.net.now.nodes) (codes "\n") (names_text c.args.net.now) (string_bytes c.writeln.new.self) (string_bytes c.push_names.new.text) head c.in_ok-push_names.ensures
