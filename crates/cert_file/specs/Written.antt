-- The JSON value of a certificate, and its text.
use Rattle.std.specs.Prelude.{◌≡◌, ℕ, ◌^◌, ◌<◌, ◌≤◌, Bool, true, false, if◌then◌else◌, List, [], ◌∷◌, ◌++◌, length, map, All, Option, Some, None, codes}
use Rattle.std.specs.List.{list_all}
use Rattle.calculus_table.specs.declared.TheConstants.{MAX_BASES}
use Rattle.network_words.specs.declared.TheConstants.{MAX_NODES}
use Rattle.serde_json.specs.Data.{Data, number, unsigned, string, array, object, Members, no_members, member, put}
use Rattle.serde_json.specs.View.{items_of}
use Rattle.serde_json.specs.Written.{compact_text}
use Rattle.qsr_lex.specs.Names.{is_name}
use Rattle.split_trees.specs.Tree.{NodeSteps, sweep, listed, TreeNode, HasBareLeaves}
use Rattle.split_trees.specs.declared.tree.Kind.{Kind}
use Rattle.split_trees.specs.declared.tree.Kind.TheVariants.{Empty, Found, Open, Later, Split}
use Rattle.split_trees.specs.declared.tree.Step.{Step}
use Rattle.cert_file.specs.Certificate.{Certificate}
use Rattle.cert_file.specs.Nodes.{kind_name}
use Rattle.cert_file.specs.Fields.{claim_name}
use Rattle.cert_file.specs.declared.claim.Claim.{Claim}
use Rattle.cert_file.specs.declared.claim.Claim.TheVariants.{Yes, No, Budget}
use Rattle.cert_file.specs.declared.claim.Version.{Version}
use Rattle.cert_file.specs.declared.claim.Version.TheVariants.{One, Two}

-- ---- values

abbrev pub number_json : ℕ → Data
number_json n = number (unsigned n)

abbrev pub list_json : {A : Type 0} → (A → Data) → List A → Data
list_json json xs = array (items_of (map json xs))

abbrev pub step_json : Step → Data
step_json step = list_json number_json (step.i ∷ step.j ∷ step.k ∷ [])

abbrev pub steps_json : NodeSteps → Data
steps_json sweep = string (codes "sweep")
steps_json (listed steps) = list_json step_json steps

-- the steps as an entry, where the version has any
abbrev pub steps_entries : Version → NodeSteps → List Data
steps_entries One steps = []
steps_entries Two steps = steps_json steps ∷ []

-- the entries of a node after its kind
abbrev pub node_entries : Version → Kind → TreeNode → List Data
node_entries version Empty node = steps_entries version node.steps
node_entries version Found node = []
node_entries version Open node = []
node_entries version Later node = []
node_entries version Split node =
    number_json node.i ∷ number_json node.j ∷ list_json number_json node.parts ∷ list_json number_json node.children
    ∷ steps_entries version node.steps

abbrev pub node_json : Version → TreeNode → Data
node_json version node = array (items_of (string (kind_name node.kind) ∷ node_entries version node.kind node))

-- version 1, where every node is swept
abbrev pub is_swept : NodeSteps → Bool
is_swept sweep = true
is_swept (listed steps) = false

abbrev pub is_swept_node : TreeNode → Bool
is_swept_node node = is_swept node.steps

abbrev pub version_for : List TreeNode → Version
version_for nodes = if list_all is_swept_node nodes then One else Two

abbrev pub version_number : Version → ℕ
version_number One = 1
version_number Two = 2

-- the scenario before the other members, where there is one
abbrev pub with_scenario : Option (List ℕ) → Members → Members
with_scenario None rest = rest
with_scenario (Some bases) rest = member (codes "scenario") (list_json number_json bases) rest

-- the scenario among other members, where there is one
abbrev pub put_scenario : Option (List ℕ) → Members → Members
put_scenario None members = members
put_scenario (Some bases) members = put (codes "scenario") (list_json number_json bases) members

-- the keys stand in the order of their bytes
abbrev pub certificate_members : Version → Certificate → Members
certificate_members version c =
    member (codes "nodes") (number_json c.nodes) (member (codes "relations") (list_json string c.relations)
    (with_scenario c.scenario (member (codes "tree") (list_json (node_json version) c.tree)
    (member (codes "verdict") (string (claim_name c.claim))
    (member (codes "version") (number_json (version_number version)) no_members)))))

abbrev pub certificate_json : Certificate → Data
certificate_json c = object (certificate_members (version_for c.tree) c)

-- ---- the text

-- without spaces, on a line
unfoldable pub certificate_text : Certificate → List ℕ
certificate_text c = compact_text (certificate_json c) ++ codes "\n"

-- ---- what can be written

-- the scenario is there exactly where the claim is Yes
abbrev pub IsScenarioFor : Claim → Option (List ℕ) → Type 0
IsScenarioFor Yes (Some bases) = Unit {0}
IsScenarioFor Yes None = ⊥
IsScenarioFor No scenario = scenario ≡ None
IsScenarioFor Budget scenario = scenario ≡ None

-- a certificate has the forms that reading asks for, whatever its numbers are
pub record HasForms (c : Certificate) : Type 0 where
  pub some_nodes : 0 < c.nodes
  pub few_nodes : c.nodes ≤ MAX_NODES
  pub some_relations : 0 < length c.relations
  pub few_relations : length c.relations ≤ MAX_BASES
  pub names : list_all is_name c.relations ≡ true
  pub scenario : IsScenarioFor c.claim c.scenario
  pub leaves : HasBareLeaves c.tree

abbrev pub AreBelow : ℕ → List ℕ → Type 0
AreBelow limit ns = All (λ n. n < limit) ns

-- the numbers of a step fit 32 bits
pub record IsStepOfNumbers (step : Step) : Type 0 where
  pub i : step.i < 2 ^ 32
  pub j : step.j < 2 ^ 32
  pub k : step.k < 2 ^ 32

-- so do those of the steps that a version writes
abbrev pub AreStepsOfNumbers : Version → NodeSteps → Type 0
AreStepsOfNumbers One steps = Unit {0}
AreStepsOfNumbers Two sweep = Unit {0}
AreStepsOfNumbers Two (listed steps) = All IsStepOfNumbers steps

-- the numbers of a split fit 32 bits, and its parts 64
pub record IsSplitOfNumbers (version : Version) (node : TreeNode) : Type 0 where
  pub i : node.i < 2 ^ 32
  pub j : node.j < 2 ^ 32
  pub parts : AreBelow (2 ^ 64) node.parts
  pub children : AreBelow (2 ^ 32) node.children
  pub steps : AreStepsOfNumbers version node.steps

-- so do the numbers that a version writes of a node
abbrev pub IsNodeOfNumbers : Version → Kind → TreeNode → Type 0
IsNodeOfNumbers version Empty node = AreStepsOfNumbers version node.steps
IsNodeOfNumbers version Found node = Unit {0}
IsNodeOfNumbers version Open node = Unit {0}
IsNodeOfNumbers version Later node = Unit {0}
IsNodeOfNumbers version Split node = IsSplitOfNumbers version node

abbrev pub IsTreeOfNumbers : Version → List TreeNode → Type 0
IsTreeOfNumbers version tree = All (λ node. IsNodeOfNumbers version node.kind node) tree

-- base numbers fit 8 bits
abbrev pub AreBaseNumbers : Option (List ℕ) → Type 0
AreBaseNumbers None = Unit {0}
AreBaseNumbers (Some bases) = AreBelow (2 ^ 8) bases

-- the numbers that are written of a certificate fit the types of the code
pub record HasNumbers (c : Certificate) : Type 0 where
  pub scenario : AreBaseNumbers c.scenario
  pub tree : IsTreeOfNumbers (version_for c.tree) c.tree

-- a certificate that has a text
pub record IsWritable (c : Certificate) : Type 0 where
  pub forms : HasForms c
  pub numbers : HasNumbers c
