-- The certificate that the JSON value of a certificate stands for.
use Rattle.std.proofs.Common.{◌≡◌, ℕ, ◌+◌, ◌^◌, ◌<◌, ◌≤◌, List, [], ◌∷◌, length, map, All, Bool, true, false, Option, Some, None, Result, Ok, codes, refl, sym, ap, ◌∙◌, arith}
use Rattle.std.specs.List.{list_all}
use Rattle.std.specs.Prelude.{if◌then◌else◌}
use Rattle.std.proofs.lemmas.Bool.{lt-ltb, le-leb}
use Rattle.std.proofs.lemmas.List.Elements.{All-head, All-tail}
use Rattle.std.proofs.lemmas.List.Sums.{AllPass-from_list_all}
use Rattle.calculus_table.specs.declared.TheConstants.{MAX_BASES}
use Rattle.network_words.specs.declared.TheConstants.{MAX_NODES}
use Rattle.qsr_lex.specs.Names.{is_name}
use Rattle.serde_json.specs.Data.{Data, string, object}
use Rattle.serde_json.specs.Find.{get}
use Rattle.split_trees.specs.Tree.{NodeSteps, sweep, listed, TreeNode, leaf_node, IsBareLeaf, HasBareLeaves}
use Rattle.split_trees.specs.declared.tree.Kind.{Kind}
use Rattle.split_trees.specs.declared.tree.Kind.TheVariants.{Empty, Found, Open, Later, Split}
use Rattle.split_trees.specs.declared.tree.Step.{Step}
use Rattle.cert_file.specs.Certificate.{Certificate}
use Rattle.cert_file.specs.Parts.{number_below, name_of, values, list_of, step_of}
use Rattle.cert_file.specs.Nodes.{steps_of, node_of}
use Rattle.cert_file.specs.Fields.{version_of, nodes_of, relations_of, claim_name, claim_of, scenario_of, tree_of, keys_of, certificate_of, certificate_with}
use Rattle.cert_file.specs.Written.{number_json, list_json, step_json, steps_json, node_json, is_swept, is_swept_node, version_for, version_number, certificate_members, certificate_json, AreBelow, IsStepOfNumbers, AreStepsOfNumbers, IsNodeOfNumbers, IsTreeOfNumbers, AreBaseNumbers, IsScenarioFor, IsWritable}
use Rattle.cert_file.specs.declared.claim.Claim.{Claim}
use Rattle.cert_file.specs.declared.claim.Claim.TheVariants.{Yes, No, Budget}
use Rattle.cert_file.specs.declared.claim.Version.{Version}
use Rattle.cert_file.specs.declared.claim.Version.TheVariants.{One, Two}
use Rattle.cert_file.specs.declared.fault.Wrong.{Wrong}
use Rattle.cert_file.proofs.Lists.{entry_list-items_of, list_of-entries}

-- ---- lists

values-json : {A : Type 0} (f : Data → Result A Wrong) (json : A → Data) (xs : List A) → All (λ x. f (json x) ≡ Ok x) xs → values f (map json xs) ≡ Ok xs
values-json f json [] all = refl
values-json f json (x ∷ xs) all =
    rw (All-head (λ y. f (json y) ≡ Ok y) x xs all, values-json f json xs (All-tail (λ y. f (json y) ≡ Ok y) x xs all)) refl

list_of-json : {A : Type 0} (f : Data → Result A Wrong) (json : A → Data) (xs : List A) → All (λ x. f (json x) ≡ Ok x) xs → list_of f (list_json json xs) ≡ Ok xs
list_of-json f json xs all =
    list_of-entries f (list_json json xs) (map json xs) (ap Ok (entry_list-items_of (map json xs))) ∙ values-json f json xs all

-- ---- numbers, names and steps

below-json : (limit n : ℕ) → n < limit → number_below limit (number_json n) ≡ Ok n
below-json limit n h = rw (lt-ltb n limit h) refl

numbers-json : (limit : ℕ) (ns : List ℕ) → AreBelow limit ns → list_of (number_below limit) (list_json number_json ns) ≡ Ok ns
numbers-json limit ns below = list_of-json (number_below limit) number_json ns (λ k d h. below-json limit _ (below k d h))

name-json : (name : List ℕ) → is_name name ≡ true → name_of (string name) ≡ Ok name
name-json name h = rw h refl

step-json : (step : Step) → IsStepOfNumbers step → step_of (step_json step) ≡ Ok step
step-json step h = rw (below-json (2 ^ 32) step.i h.i, below-json (2 ^ 32) step.j h.j, below-json (2 ^ 32) step.k h.k) refl

steps-json : (steps : NodeSteps) → AreStepsOfNumbers Two steps → steps_of (steps_json steps) ≡ Ok steps
steps-json sweep h = refl
steps-json (listed steps) h = rw (list_of-json step_of step_json steps (λ k d inside. step-json _ (h k d inside))) refl

-- ---- nodes

-- the version has these steps
abbrev Allows : Version → NodeSteps → Type 0
Allows One steps = steps ≡ sweep
Allows Two steps = Unit {0}

abbrev node_with : Kind → ℕ → ℕ → List ℕ → List ℕ → NodeSteps → TreeNode
node_with kind i j parts children steps = record { kind = kind; i = i; j = j; parts = parts; children = children; steps = steps }

node-json : (version : Version) (kind : Kind) (i j : ℕ) (parts children : List ℕ) (steps : NodeSteps) →
    IsBareLeaf kind (node_with kind i j parts children steps) → IsNodeOfNumbers version kind (node_with kind i j parts children steps) → Allows version steps →
    node_of version (node_json version (node_with kind i j parts children steps)) ≡ Ok (node_with kind i j parts children steps)
node-json One Empty i j parts children steps bare h swept = sym (ap Ok (bare ∙ ap (leaf_node Empty) swept))
node-json Two Empty i j parts children steps bare h _ = rw (steps-json steps h) (sym (ap Ok bare))
node-json One Found i j parts children steps bare h _ = sym (ap Ok bare)
node-json Two Found i j parts children steps bare h _ = sym (ap Ok bare)
node-json One Open i j parts children steps bare h _ = sym (ap Ok bare)
node-json Two Open i j parts children steps bare h _ = sym (ap Ok bare)
node-json One Later i j parts children steps bare h _ = sym (ap Ok bare)
node-json Two Later i j parts children steps bare h _ = sym (ap Ok bare)
node-json One Split i j parts children steps bare h swept =
    rw (below-json (2 ^ 32) i h.i, below-json (2 ^ 32) j h.j, numbers-json (2 ^ 64) parts h.parts, numbers-json (2 ^ 32) children h.children, swept) refl
node-json Two Split i j parts children steps bare h _ =
    rw (below-json (2 ^ 32) i h.i, below-json (2 ^ 32) j h.j, numbers-json (2 ^ 64) parts h.parts, numbers-json (2 ^ 32) children h.children, steps-json steps h.steps) refl

swept_steps : (steps : NodeSteps) → is_swept steps ≡ true → steps ≡ sweep
swept_steps sweep h = refl
swept_steps (listed steps) h = absurd (cc)

allowed : (swept : Bool) (tree : List TreeNode) → list_all is_swept_node tree ≡ swept → All (λ node. Allows (if swept then One else Two) node.steps) tree
allowed true tree h = λ k d inside. swept_steps _ (AllPass-from_list_all is_swept_node tree h k d inside)
allowed false tree h = λ k d inside. tt

tree-json : (tree : List TreeNode) → HasBareLeaves tree → IsTreeOfNumbers (version_for tree) tree →
    list_of (node_of (version_for tree)) (list_json (node_json (version_for tree)) tree) ≡ Ok tree
tree-json tree bare h =
    list_of-json (node_of (version_for tree)) (node_json (version_for tree)) tree
    (λ k d inside. node-json (version_for tree) _ _ _ _ _ _ (bare k d inside) (h k d inside) (allowed (list_all is_swept_node tree) tree refl k d inside))

-- ---- keys

version-read : (d : Data) (version : Version) → get (codes "version") d ≡ Some (number_json (version_number version)) → version_of d ≡ Ok version
version-read d One e = rw e refl
version-read d Two e = rw e refl

nodes-read : (d : Data) (n : ℕ) → get (codes "nodes") d ≡ Some (number_json n) → 0 < n → n ≤ MAX_NODES → nodes_of d ≡ Ok n
nodes-read d n e some few = let below : n < MAX_NODES + 1 = omega arith in rw (e, below-json (MAX_NODES + 1) n below, lt-ltb 0 n some) refl

relations-read : (d : Data) (names : List (List ℕ)) → get (codes "relations") d ≡ Some (list_json string names) → 0 < length names → length names ≤ MAX_BASES →
    list_all is_name names ≡ true → relations_of d ≡ Ok names
relations-read d names e some few named =
    let one : 1 ≤ length names = omega arith in
    rw (e, list_of-json name_of string names (λ k x inside. name-json _ (AllPass-from_list_all is_name names named k x inside)), le-leb 1 (length names) one, le-leb (length names) MAX_BASES few) refl

claim-read : (d : Data) (claim : Claim) → get (codes "verdict") d ≡ Some (string (claim_name claim)) → claim_of d ≡ Ok claim
claim-read d Yes e = rw e refl
claim-read d No e = rw e refl
claim-read d Budget e = rw e refl

tree-read : (d : Data) (tree : List TreeNode) → get (codes "tree") d ≡ Some (list_json (node_json (version_for tree)) tree) → HasBareLeaves tree →
    IsTreeOfNumbers (version_for tree) tree → tree_of (version_for tree) d ≡ Ok tree
tree-read d tree e bare h = rw (e, tree-json tree bare h) refl

scenario-read : (nodes : ℕ) (relations : List (List ℕ)) (claim : Claim) (scenario : Option (List ℕ)) (tree : List TreeNode) (version : Version) → IsScenarioFor claim scenario →
    AreBaseNumbers scenario → scenario_of claim (object (certificate_members version (certificate_with nodes relations claim scenario tree))) ≡ Ok scenario
scenario-read nodes relations Yes None tree version there h = absurd there
scenario-read nodes relations Yes (Some bases) tree version there h = rw (numbers-json (2 ^ 8) bases h) refl
scenario-read nodes relations No scenario tree version there h = sym (ap Ok there)
scenario-read nodes relations Budget scenario tree version there h = sym (ap Ok there)

-- ---- the certificate

abbrev value_of : ℕ → List (List ℕ) → Claim → Option (List ℕ) → List TreeNode → Data
value_of nodes relations claim scenario tree = certificate_json (certificate_with nodes relations claim scenario tree)

keys-read : (nodes : ℕ) (relations : List (List ℕ)) (claim : Claim) (scenario : Option (List ℕ)) (tree : List TreeNode) →
    IsWritable (certificate_with nodes relations claim scenario tree) →
    get (codes "version") (value_of nodes relations claim scenario tree) ≡ Some (number_json (version_number (version_for tree))) →
    get (codes "nodes") (value_of nodes relations claim scenario tree) ≡ Some (number_json nodes) →
    get (codes "relations") (value_of nodes relations claim scenario tree) ≡ Some (list_json string relations) →
    get (codes "verdict") (value_of nodes relations claim scenario tree) ≡ Some (string (claim_name claim)) →
    get (codes "tree") (value_of nodes relations claim scenario tree) ≡ Some (list_json (node_json (version_for tree)) tree) →
    keys_of (value_of nodes relations claim scenario tree) ≡ Ok (certificate_with nodes relations claim scenario tree)
keys-read nodes relations claim scenario tree h e₁ e₂ e₃ e₄ e₅ =
    let d = value_of nodes relations claim scenario tree in
    rw (
      version-read d (version_for tree) e₁,
      nodes-read d nodes e₂ h.forms.some_nodes h.forms.few_nodes,
      relations-read d relations e₃ h.forms.some_relations h.forms.few_relations h.forms.names,
      claim-read d claim e₄,
      scenario-read nodes relations claim scenario tree (version_for tree) h.forms.scenario h.numbers.scenario,
      tree-read d tree e₅ h.forms.leaves h.numbers.tree,
    ) refl

fields-read : (nodes : ℕ) (relations : List (List ℕ)) (claim : Claim) (scenario : Option (List ℕ)) (tree : List TreeNode) →
    IsWritable (certificate_with nodes relations claim scenario tree) →
    certificate_of (value_of nodes relations claim scenario tree) ≡ Ok (certificate_with nodes relations claim scenario tree)
fields-read nodes relations claim None tree h = keys-read nodes relations claim None tree h refl refl refl refl refl
fields-read nodes relations claim (Some bases) tree h = keys-read nodes relations claim (Some bases) tree h refl refl refl refl refl

pub certificate_of-certificate_json : (c : Certificate) → IsWritable c → certificate_of (certificate_json c) ≡ Ok c
certificate_of-certificate_json c h = fields-read c.nodes c.relations c.claim c.scenario c.tree h
