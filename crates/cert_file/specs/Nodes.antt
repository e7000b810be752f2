-- What an array stands for as a node of a tree: `["empty"]`, `["found"]`, `["open"]`, `["later"]` or
-- `["split",I,J,[PARTS],[CHILDREN]]`. In version 2 the steps come last in `empty` and `split`: `"sweep"`, or a list of `[I,J,K]`.
use Rattle.std.specs.Prelude.{ℕ, ◌+◌, if◌then◌else◌, List, Option, Some, None, Result, Ok, Err, codes}
use Rattle.std.specs.Str.{bytes_eq}
use Rattle.serde_json.specs.Data.{Data}
use Rattle.serde_json.specs.Find.{as_str}
use Rattle.line_files.specs.Steps.{◌>>=◌}
use Rattle.split_trees.specs.Tree.{NodeSteps, sweep, listed, TreeNode, leaf_node}
use Rattle.split_trees.specs.declared.tree.Kind.{Kind}
use Rattle.split_trees.specs.declared.tree.Kind.TheVariants.{Empty, Found, Open, Later, Split}
use Rattle.split_trees.specs.declared.tree.Step.{Step}
use Rattle.cert_file.specs.Parts.{or_wrong, entry, has_count, list_of, number_at, node_number, set_of, step_of}
use Rattle.cert_file.specs.declared.claim.Version.{Version}
use Rattle.cert_file.specs.declared.claim.Version.TheVariants.{One, Two}
use Rattle.cert_file.specs.declared.fault.Wrong.{Wrong}
use Rattle.cert_file.specs.declared.fault.Wrong.TheVariants.{At}

-- the name of each kind
abbrev pub kind_name : Kind → List ℕ
kind_name Empty = codes "empty"
kind_name Found = codes "found"
kind_name Open = codes "open"
kind_name Later = codes "later"
kind_name Split = codes "split"

-- the kind of a name
abbrev pub kind_named : List ℕ → Result Kind Wrong
kind_named text =
    if bytes_eq text (kind_name Empty) then Ok Empty
    else (if bytes_eq text (kind_name Found) then Ok Found
    else (if bytes_eq text (kind_name Open) then Ok Open
    else (if bytes_eq text (kind_name Later) then Ok Later
    else (if bytes_eq text (kind_name Split) then Ok Split else Err (At 0)))))

abbrev pub kind_of : Data → Result Kind Wrong
kind_of d = or_wrong (as_str d) >>= kind_named

-- how many entries the steps of a node are
abbrev pub steps_count : Version → ℕ
steps_count One = 0
steps_count Two = 1

-- the steps: `"sweep"`, or a list
abbrev pub steps_named : List ℕ → Result NodeSteps Wrong
steps_named text = if bytes_eq text (codes "sweep") then Ok sweep else Err (At 0)

abbrev pub steps_listed : List Step → Result NodeSteps Wrong
steps_listed steps = Ok (listed steps)

abbrev pub steps_or_list : Option (List ℕ) → Data → Result NodeSteps Wrong
steps_or_list (Some text) d = steps_named text
steps_or_list None d = list_of step_of d >>= steps_listed

abbrev pub steps_of : Data → Result NodeSteps Wrong
steps_of d = steps_or_list (as_str d) d

-- the steps at a place, where the version has any
abbrev pub steps_at : Version → ℕ → Data → Result NodeSteps Wrong
steps_at One place d = Ok sweep
steps_at Two place d = entry place d >>= steps_of

-- ---- the three forms of nodes

-- a leaf that isn't worked
abbrev pub plain_leaf : Kind → Data → Result TreeNode Wrong
plain_leaf kind d = if has_count 1 d then Ok (leaf_node kind sweep) else Err (At 0)

-- a leaf with steps
abbrev pub leaf_with : NodeSteps → Result TreeNode Wrong
leaf_with steps = Ok (leaf_node Empty steps)

abbrev pub worked_leaf : Version → Data → Result TreeNode Wrong
worked_leaf version d = if has_count (1 + steps_count version) d then steps_at version 1 d >>= leaf_with else Err (At 0)

-- a split
abbrev pub split_node : ℕ → ℕ → List ℕ → List ℕ → NodeSteps → TreeNode
split_node i j parts children steps =
    record { kind = Split; i = i; j = j; parts = parts; children = children; steps = steps }

abbrev pub list_at : {A : Type 0} → (Data → Result A Wrong) → ℕ → Data → Result (List A) Wrong
list_at value place d = entry place d >>= list_of value

abbrev pub split_entries : Version → Data → Result TreeNode Wrong
split_entries version d = do
  i ← number_at 1 d
  j ← number_at 2 d
  parts ← list_at set_of 3 d
  children ← list_at node_number 4 d
  steps ← steps_at version 5 d
  Ok (split_node i j parts children steps)

abbrev pub split_of : Version → Data → Result TreeNode Wrong
split_of version d = if has_count (5 + steps_count version) d then split_entries version d else Err (At 0)

-- ---- nodes

abbrev pub node_of_kind : Version → Data → Kind → Result TreeNode Wrong
node_of_kind version d Empty = worked_leaf version d
node_of_kind version d Found = plain_leaf Found d
node_of_kind version d Open = plain_leaf Open d
node_of_kind version d Later = plain_leaf Later d
node_of_kind version d Split = split_of version d

-- the node of the kind that the first entry names
abbrev pub node_of : Version → Data → Result TreeNode Wrong
node_of version d = entry 0 d >>= kind_of >>= node_of_kind version d
