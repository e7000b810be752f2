use Rattle.std.proofs.Common.{◌≡◌, ap, ap₂, ◌∙◌, codes, map, rules}
use Rattle.std.specs.String.{string_bytes}
use Rattle.serde_json.specs.Data.{string, put}
use Rattle.serde_json.specs.View.{view, members_view}
use Rattle.cert_file.specs.Written.{number_json, list_json}
use Rattle.cert_file.proofs.Members.{list_json-strings}
use Rattle.cert_file.proofs.writing.put_network.Goals as goal

pub returns : goal.returns
returns c =
    let names : view c.in_ok-relations.relations ≡ list_json string (map string_bytes c.cert.inside.relations.items) =
    c.in_ok-relations.ensures.value ∙ ap (list_json (λ text. string (string_bytes text))) c.deref.ensures.value ∙ list_json-strings c.cert.inside.relations.items in
    let names_now : view c.in_ok-relations.relations ≡ list_json string c.args.cert.now.relations = search rules in
    let count : view c.from.result ≡ number_json c.args.cert.now.nodes = search rules in
    c.in_ok-put-2.ensures.ok ∙ ap₂ (put (codes "relations")) names_now (c.in_ok-put.ensures.ok ∙ ap (λ d. put (codes "nodes") d (members_view c.args.members.now.entries)) count)
