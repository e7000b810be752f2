use Rattle.std.proofs.Common.{◌≡◌, ap, subst, ◌∙◌, codes, rules}
use Rattle.serde_json.specs.Data.{string, put, object, no_members}
use Rattle.serde_json.specs.View.{view, members_view}
use Rattle.serde_json.proofs.Views.{view-Object}
use Rattle.cert_file.specs.Fields.{claim_name}
use Rattle.cert_file.specs.Written.{number_json, list_json, node_json, version_for, version_number, put_scenario, AreBaseNumbers, IsTreeOfNumbers}
use Rattle.cert_file.proofs.Members.{members-put}
use Rattle.cert_file.proofs.writing.certificate_value.Goals as goal

pub returns-clause-value : goal.returns-clause-value
returns-clause-value c =
    let cert = c.args.cert.now in
    let version = c.version_for-version.result in
    let is : version ≡ version_for cert.tree = search rules in
    let none : members_view c.new-members.result.entries ≡ no_members = ap members_view c.new-members.ensures.empty in
    let scenario : members_view c.put_scenario.new.members.entries ≡ put_scenario cert.scenario (members_view c.put_network.new.members.entries) = search rules in
    let nodes : view c.in_ok-tree.tree ≡ list_json (node_json version) cert.tree = search rules in
    let claim : members_view c.put_claim.new.members.entries
    ≡ put (codes "version") (number_json (version_number version)) (put (codes "verdict") (string (claim_name cert.claim)) (members_view c.put.new.map.entries)) = search rules in
    view-Object c.put_claim.new.members
    ∙ ap object (members-put cert version _ _ _ _ _ _ is none c.in_ok-put_network.ensures scenario nodes c.in_ok-put.ensures.ok claim)

pub returns-clause-numbers : goal.returns-clause-numbers
returns-clause-numbers c =
    let cert = c.args.cert.now in
    let version = c.version_for-version.result in
    let is : version ≡ version_for cert.tree = search rules in
    let scenario : AreBaseNumbers cert.scenario = search rules in
    let tree : IsTreeOfNumbers version cert.tree = search rules in
    record { scenario = scenario; tree = subst (λ v. IsTreeOfNumbers v cert.tree) is tree }
