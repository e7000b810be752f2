-- The members of a certificate's JSON value, put one after another.
use Rattle.std.proofs.Common.{◌≡◌, ℕ, List, [], ◌∷◌, map, Option, Some, None, String, Global, codes, refl, ap, ap₂, ◌∙◌}
use Rattle.std.specs.String.{string_bytes}
use Rattle.serde_json.specs.Data.{Data, string, array, Members, no_members, member, put}
use Rattle.serde_json.specs.View.{items_of}
use Rattle.cert_file.specs.Certificate.{Certificate}
use Rattle.cert_file.specs.Fields.{claim_name}
use Rattle.cert_file.specs.Written.{number_json, list_json, node_json, version_for, version_number, put_scenario, with_scenario, certificate_members}
use Rattle.cert_file.specs.declared.claim.Version.{Version}

map-strings : (xs : List (String Global)) → map (λ text. string (string_bytes text)) xs ≡ map string (map string_bytes xs)
map-strings [] = refl
map-strings (x ∷ xs) = ap (λ ds. string (string_bytes x) ∷ ds) (map-strings xs)

pub list_json-strings : (xs : List (String Global)) → list_json (λ text. string (string_bytes text)) xs ≡ list_json string (map string_bytes xs)
list_json-strings xs = ap (λ ds. array (items_of ds)) (map-strings xs)

in_order : (scenario : Option (List ℕ)) (nodes relations tree claim version : Data) →
    put (codes "version") version (put (codes "verdict") claim (put (codes "tree") tree
    (put_scenario scenario (put (codes "relations") relations (put (codes "nodes") nodes no_members)))))
    ≡ member (codes "nodes") nodes (member (codes "relations") relations
    (with_scenario scenario (member (codes "tree") tree (member (codes "verdict") claim (member (codes "version") version no_members)))))
in_order None nodes relations tree claim version = refl
in_order (Some bases) nodes relations tree claim version = refl

-- the members that are put in this order are those of the certificate
pub members-put : (c : Certificate) (version : Version) (m₀ m₁ m₂ m₃ m₄ : Members) (tree : Data) → version ≡ version_for c.tree → m₀ ≡ no_members →
    m₁ ≡ put (codes "relations") (list_json string c.relations) (put (codes "nodes") (number_json c.nodes) m₀) → m₂ ≡ put_scenario c.scenario m₁ →
    tree ≡ list_json (node_json version) c.tree → m₃ ≡ put (codes "tree") tree m₂ →
    m₄ ≡ put (codes "version") (number_json (version_number version)) (put (codes "verdict") (string (claim_name c.claim)) m₃) →
    m₄ ≡ certificate_members (version_for c.tree) c
members-put c version m₀ m₁ m₂ m₃ m₄ tree is none network scenario nodes third fourth =
    let first = network ∙ ap (λ m. put (codes "relations") (list_json string c.relations) (put (codes "nodes") (number_json c.nodes) m)) none in
    let second = scenario ∙ ap (put_scenario c.scenario) first in
    let put_tree = third ∙ ap₂ (put (codes "tree")) nodes second in
    fourth ∙ ap (λ m. put (codes "version") (number_json (version_number version)) (put (codes "verdict") (string (claim_name c.claim)) m)) put_tree
    ∙ in_order c.scenario _ _ _ _ _ ∙ ap (λ v. certificate_members v c) is
