-- The JSON value of a certificate has no floats.
use Rattle.std.proofs.Common.{◌≡◌, ℕ, List, [], ◌∷◌, Option, Some, None, false, refl}
use Rattle.serde_json.specs.Data.{Data, string}
use Rattle.serde_json.specs.View.{items_of}
use Rattle.serde_json.specs.Written.{has_float, items_have_float, members_have_float}
use Rattle.split_trees.specs.Tree.{NodeSteps, sweep, listed, TreeNode}
use Rattle.split_trees.specs.declared.tree.Kind.{Kind}
use Rattle.split_trees.specs.declared.tree.Kind.TheVariants.{Empty, Found, Open, Later, Split}
use Rattle.cert_file.specs.Certificate.{Certificate}
use Rattle.cert_file.specs.Written.{number_json, list_json, step_json, steps_json, steps_entries, node_entries, node_json, version_for, certificate_json, certificate_members}
use Rattle.cert_file.specs.declared.claim.Version.{Version}
use Rattle.cert_file.specs.declared.claim.Version.TheVariants.{One, Two}

no_floats_in : {A : Type 0} (json : A → Data) → ((x : A) → has_float (json x) ≡ false) → (xs : List A) → has_float (list_json json xs) ≡ false
no_floats_in json h [] = refl
no_floats_in json h (x ∷ xs) = rw (h x) (no_floats_in json h xs)

numbers : (ns : List ℕ) → has_float (list_json number_json ns) ≡ false
numbers = no_floats_in number_json (λ n. refl)

steps_floats : (steps : NodeSteps) → has_float (steps_json steps) ≡ false
steps_floats sweep = refl
steps_floats (listed steps) = no_floats_in step_json (λ s. refl) steps

entries_floats : (version : Version) (steps : NodeSteps) → items_have_float (items_of (steps_entries version steps)) ≡ false
entries_floats One steps = refl
entries_floats Two steps = rw (steps_floats steps)

node_floats : (version : Version) (kind : Kind) (node : TreeNode) → items_have_float (items_of (node_entries version kind node)) ≡ false
node_floats version Empty node = entries_floats version node.steps
node_floats version Found node = refl
node_floats version Open node = refl
node_floats version Later node = refl
node_floats version Split node = rw (numbers node.parts, numbers node.children) (entries_floats version node.steps)

members_floats : (version : Version) (c : Certificate) (scenario : Option (List ℕ)) → c.scenario ≡ scenario → members_have_float (certificate_members version c) ≡ false
members_floats version c None e =
    rw (e, no_floats_in string (λ s. refl) c.relations, no_floats_in (node_json version) (λ node. node_floats version node.kind node) c.tree)
members_floats version c (Some bases) e =
    rw (e, no_floats_in string (λ s. refl) c.relations, numbers bases, no_floats_in (node_json version) (λ node. node_floats version node.kind node) c.tree)

pub no_floats : (c : Certificate) → has_float (certificate_json c) ≡ false
no_floats c = members_floats (version_for c.tree) c c.scenario refl
