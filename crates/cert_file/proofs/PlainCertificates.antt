-- The JSON value of a certificate that can be written is plain, and nests little.
use Rattle.std.proofs.Common.{◌≡◌, ℕ, ◌^◌, ◌<◌, ◌≤◌, List, [], ◌∷◌, map, All, Option, Some, None, true, refl, arith}
use Rattle.std.proofs.lemmas.List.Elements.{All-head, All-tail}
use Rattle.std.proofs.lemmas.List.Sums.{AllPass-from_list_all}
use Rattle.std.proofs.lemmas.Str.{IsUtf8-from_ascii}
use Rattle.std.specs.Prelude.{IsUtf8}
use Rattle.json.proofs.Printed.Utf8.{IsUtf8-are_ascii}
use Rattle.qsr_lex.specs.Names.{is_name}
use Rattle.qsr_lex.proofs.PrintedNames.{IsAscii-name}
use Rattle.serde_json.specs.Data.{Data, string, object, depth, items_depth, members_depth}
use Rattle.serde_json.specs.Read.{max_depth}
use Rattle.serde_json.specs.View.{items_of}
use Rattle.split_trees.specs.Tree.{NodeSteps, sweep, listed, TreeNode}
use Rattle.split_trees.specs.declared.tree.Kind.{Kind}
use Rattle.split_trees.specs.declared.tree.Kind.TheVariants.{Empty, Found, Open, Later, Split}
use Rattle.split_trees.specs.declared.tree.Step.{Step}
use Rattle.cert_file.specs.Certificate.{Certificate}
use Rattle.cert_file.specs.Nodes.{kind_name}
use Rattle.cert_file.specs.Fields.{claim_name, certificate_with}
use Rattle.cert_file.specs.Written.{number_json, list_json, step_json, steps_json, steps_entries, node_entries, node_json, version_for, version_number, certificate_members, certificate_json, AreBelow, IsStepOfNumbers, AreStepsOfNumbers, IsNodeOfNumbers, IsWritable}
use Rattle.cert_file.specs.declared.claim.Claim.{Claim}
use Rattle.cert_file.specs.declared.claim.Claim.TheVariants.{Yes, No, Budget}
use Rattle.cert_file.specs.declared.claim.Version.{Version}
use Rattle.cert_file.specs.declared.claim.Version.TheVariants.{One, Two}
use Rattle.cert_file.proofs.Texts.{IsPlain, ArePlain, of_json-outline}

-- ---- plain parts

plain_list : {A : Type 0} (json : A → Data) (P : A → Type 0) → ((x : A) → P x → IsPlain (json x)) → (xs : List A) → All P xs → ArePlain (items_of (map json xs))
plain_list json P h [] all = tt
plain_list json P h (x ∷ xs) all = (h x (All-head P x xs all), plain_list json P h xs (All-tail P x xs all))

plain_numbers : (limit : ℕ) → limit ≤ 2 ^ 64 → (ns : List ℕ) → AreBelow limit ns → ArePlain (items_of (map number_json ns))
plain_numbers limit fits ns below = plain_list number_json (λ n. n < limit) (λ n h. omega arith) ns below

plain_step : (step : Step) → IsStepOfNumbers step → IsPlain (step_json step)
plain_step step h = (omega (arith, h.i), (omega (arith, h.j), (omega (arith, h.k), tt)))

plain_steps : (steps : NodeSteps) → AreStepsOfNumbers Two steps → IsPlain (steps_json steps)
plain_steps sweep h = IsUtf8-are_ascii _ refl
plain_steps (listed steps) h = plain_list step_json IsStepOfNumbers plain_step steps h

plain_entries : (version : Version) (steps : NodeSteps) → AreStepsOfNumbers version steps → ArePlain (items_of (steps_entries version steps))
plain_entries One steps h = tt
plain_entries Two steps h = (plain_steps steps h, tt)

plain_kind : (kind : Kind) → IsUtf8 (kind_name kind)
plain_kind Empty = IsUtf8-are_ascii _ refl
plain_kind Found = IsUtf8-are_ascii _ refl
plain_kind Open = IsUtf8-are_ascii _ refl
plain_kind Later = IsUtf8-are_ascii _ refl
plain_kind Split = IsUtf8-are_ascii _ refl

plain_node_entries : (version : Version) (kind : Kind) (node : TreeNode) → IsNodeOfNumbers version kind node → ArePlain (items_of (node_entries version kind node))
plain_node_entries version Empty node h = plain_entries version node.steps h
plain_node_entries version Found node h = tt
plain_node_entries version Open node h = tt
plain_node_entries version Later node h = tt
plain_node_entries version Split node h = (
  omega (arith, h.i),
  (
    omega (arith, h.j),
    (
      plain_numbers (2 ^ 64) (omega arith) node.parts h.parts,
      (
        plain_numbers (2 ^ 32) (omega arith) node.children h.children,
        plain_entries version node.steps h.steps,
      ),
    ),
  ),
)

plain_node : (version : Version) (node : TreeNode) → IsNodeOfNumbers version node.kind node → IsPlain (node_json version node)
plain_node version node h = (plain_kind node.kind, plain_node_entries version node.kind node h)

plain_name : (name : List ℕ) → is_name name ≡ true → IsUtf8 name
plain_name name h = IsUtf8-from_ascii name (IsAscii-name name h)

plain_claim : (claim : Claim) → IsUtf8 (claim_name claim)
plain_claim Yes = IsUtf8-are_ascii _ refl
plain_claim No = IsUtf8-are_ascii _ refl
plain_claim Budget = IsUtf8-are_ascii _ refl

plain_version : (version : Version) → version_number version < 2 ^ 64
plain_version One = omega arith
plain_version Two = omega arith

-- ---- the whole value

module _ (nodes : ℕ) (relations : List (List ℕ)) (claim : Claim) (tree : List TreeNode) where
  abbrev with_bases : Option (List ℕ) → Certificate
  with_bases scenario = certificate_with nodes relations claim scenario tree

  plain_nodes : (c : Certificate) → IsWritable c → c.nodes < 2 ^ 64
  plain_nodes c h = omega (arith, h.forms.few_nodes)

  plain_relations : (c : Certificate) → IsWritable c → IsPlain (list_json string c.relations)
  plain_relations c h = plain_list string (λ name. is_name name ≡ true) plain_name c.relations (AllPass-from_list_all is_name c.relations h.forms.names)

  plain_tree : (c : Certificate) → IsWritable c → IsPlain (list_json (node_json (version_for c.tree)) c.tree)
  plain_tree c h =
      plain_list (node_json (version_for c.tree)) (λ node. IsNodeOfNumbers (version_for c.tree) node.kind node) (plain_node (version_for c.tree)) c.tree h.numbers.tree

  abbrev version : Version
  version = version_for tree

  pub plain_members : (scenario : Option (List ℕ)) → IsWritable (with_bases scenario) → IsPlain (object (certificate_members version (with_bases scenario)))
  plain_members None h =
      let p₁ = plain_nodes (with_bases None) h in
      let p₂ = plain_relations (with_bases None) h in
      let p₃ = plain_tree (with_bases None) h in
      let p₄ = plain_version version in (
        (IsUtf8-are_ascii _ refl, p₁, (IsUtf8-are_ascii _ refl, p₂, (IsUtf8-are_ascii _ refl, p₃, (IsUtf8-are_ascii _ refl, plain_claim claim, (IsUtf8-are_ascii _ refl, p₄, tt))))),
        rw (of_json-outline (number_json nodes) p₁, of_json-outline (list_json string relations) p₂, of_json-outline (list_json (node_json version) tree) p₃, of_json-outline (number_json (version_number version)) p₄) refl,
      )
  plain_members (Some bases) h =
      let p₁ = plain_nodes (with_bases (Some bases)) h in
      let p₂ = plain_relations (with_bases (Some bases)) h in
      let p₃ = plain_tree (with_bases (Some bases)) h in
      let p₄ = plain_version version in
      let p₅ = plain_numbers (2 ^ 8) (omega arith) bases h.numbers.scenario in (
        (IsUtf8-are_ascii _ refl, p₁, (IsUtf8-are_ascii _ refl, p₂, (IsUtf8-are_ascii _ refl, p₅, (IsUtf8-are_ascii _ refl, p₃, (IsUtf8-are_ascii _ refl, plain_claim claim, (IsUtf8-are_ascii _ refl, p₄, tt)))))),
        rw (of_json-outline (number_json nodes) p₁, of_json-outline (list_json string relations) p₂, of_json-outline (list_json number_json bases) p₅, of_json-outline (list_json (node_json version) tree) p₃, of_json-outline (number_json (version_number version)) p₄) refl,
      )

pub IsPlain-certificate : (c : Certificate) → IsWritable c → IsPlain (certificate_json c)
IsPlain-certificate c h = plain_members c.nodes c.relations c.claim c.tree c.scenario h

-- ---- nesting

shallow_list : {A : Type 0} (json : A → Data) (k : ℕ) → ((x : A) → depth (json x) ≤ k) → (xs : List A) → items_depth (items_of (map json xs)) ≤ k
shallow_list json k h [] = omega arith
shallow_list json k h (x ∷ xs) = omega (arith, h x, shallow_list json k h xs)

shallow_numbers : (ns : List ℕ) → items_depth (items_of (map number_json ns)) ≤ 0
shallow_numbers = shallow_list number_json 0 (λ n. omega arith)

shallow_steps : (steps : NodeSteps) → depth (steps_json steps) ≤ 2
shallow_steps sweep = omega arith
shallow_steps (listed steps) = omega (arith, shallow_list step_json 1 (λ s. omega arith) steps)

shallow_entries : (version : Version) (steps : NodeSteps) → items_depth (items_of (steps_entries version steps)) ≤ 2
shallow_entries One steps = omega arith
shallow_entries Two steps = omega (arith, shallow_steps steps)

shallow_node : (version : Version) (kind : Kind) (node : TreeNode) → items_depth (items_of (node_entries version kind node)) ≤ 2
shallow_node version Empty node = shallow_entries version node.steps
shallow_node version Found node = omega arith
shallow_node version Open node = omega arith
shallow_node version Later node = omega arith
shallow_node version Split node = omega (arith, shallow_numbers node.parts, shallow_numbers node.children, shallow_entries version node.steps)

shallow_tree : (version : Version) (tree : List TreeNode) → items_depth (items_of (map (node_json version) tree)) ≤ 3
shallow_tree version = shallow_list (node_json version) 3 (λ node. omega (arith, shallow_node version node.kind node))

shallow_members : (version : Version) (nodes : ℕ) (relations : List (List ℕ)) (claim : Claim) (scenario : Option (List ℕ)) (tree : List TreeNode) →
    members_depth (certificate_members version (certificate_with nodes relations claim scenario tree)) ≤ 4
shallow_members version nodes relations claim None tree =
    omega (arith, shallow_list string 0 (λ s. omega arith) relations, shallow_tree version tree)
shallow_members version nodes relations claim (Some bases) tree =
    omega (arith, shallow_list string 0 (λ s. omega arith) relations, shallow_numbers bases, shallow_tree version tree)

pub depth-certificate : (c : Certificate) → depth (certificate_json c) ≤ max_depth
depth-certificate c = omega (arith, shallow_members (version_for c.tree) c.nodes c.relations c.claim c.scenario c.tree)
