-- What a JSON value stands for as a certificate, key by key. The first key of a wrong form decides, in this order: the version, the
-- nodes, the relations, the verdict, the scenario where the verdict is yes, the tree. Other keys are passed over.
use Rattle.std.specs.Prelude.{ℕ, ◌+◌, ◌==◌, ◌&&◌, nat_lt, nat_le, if◌then◌else◌, List, length, Option, Some, None, is_some, Result, Ok, Err, codes}
use Rattle.std.specs.Str.{bytes_eq}
use Rattle.calculus_table.specs.declared.TheConstants.{MAX_BASES}
use Rattle.network_words.specs.declared.TheConstants.{MAX_NODES}
use Rattle.serde_json.specs.Data.{Data}
use Rattle.serde_json.specs.Find.{as_str, as_object}
use Rattle.line_files.specs.Steps.{◌>>=◌}
use Rattle.split_trees.specs.Tree.{TreeNode}
use Rattle.cert_file.specs.Certificate.{Certificate}
use Rattle.cert_file.specs.Parts.{or_wrong, number_below, name_of, member_of, list_of, base_of}
use Rattle.cert_file.specs.Nodes.{node_of}
use Rattle.cert_file.specs.declared.claim.Claim.{Claim}
use Rattle.cert_file.specs.declared.claim.Claim.TheVariants.{Yes, No, Budget}
use Rattle.cert_file.specs.declared.claim.Version.{Version}
use Rattle.cert_file.specs.declared.claim.Version.TheVariants.{One, Two}
use Rattle.cert_file.specs.declared.fault.Wrong.{Wrong}
use Rattle.cert_file.specs.declared.fault.Wrong.TheVariants as wrong
use Rattle.cert_file.specs.declared.fault.CertFault.{CertFault}
use Rattle.cert_file.specs.declared.fault.CertFault.TheVariants as fault

-- the fault of a key's value, by the key's number
abbrev pub fault_of : ℕ → Wrong → CertFault
fault_of key (wrong.At index) = fault.Field key index
fault_of key wrong.Memory = fault.Memory

abbrev pub at_key : {A : Type 0} → ℕ → Result A Wrong → Result A CertFault
at_key key (Ok value) = Ok value
at_key key (Err wrong) = Err (fault_of key wrong)

-- ---- the keys

-- 1 or 2
abbrev pub version_numbered : ℕ → Result Version Wrong
version_numbered n = if n == 1 then Ok One else (if n == 2 then Ok Two else Err (wrong.At 0))

abbrev pub version_of : Data → Result Version Wrong
version_of d = member_of (codes "version") d >>= number_below 3 >>= version_numbered

-- from 1 to MAX_NODES
abbrev pub if_some : ℕ → Result ℕ Wrong
if_some n = if nat_lt 0 n then Ok n else Err (wrong.At 0)

abbrev pub nodes_of : Data → Result ℕ Wrong
nodes_of d = member_of (codes "nodes") d >>= number_below (MAX_NODES + 1) >>= if_some

-- from 1 to MAX_BASES names
abbrev pub if_few : List (List ℕ) → Result (List (List ℕ)) Wrong
if_few names = if nat_le 1 (length names) && nat_le (length names) MAX_BASES then Ok names else Err (wrong.At 0)

abbrev pub relations_of : Data → Result (List (List ℕ)) Wrong
relations_of d = member_of (codes "relations") d >>= list_of name_of >>= if_few

-- `"yes"`, `"no"` or `"budget"`
abbrev pub claim_name : Claim → List ℕ
claim_name Yes = codes "yes"
claim_name No = codes "no"
claim_name Budget = codes "budget"

abbrev pub claim_named : List ℕ → Result Claim Wrong
claim_named text =
    if bytes_eq text (claim_name Yes) then Ok Yes
    else (if bytes_eq text (claim_name No) then Ok No
    else (if bytes_eq text (claim_name Budget) then Ok Budget else Err (wrong.At 0)))

abbrev pub claim_text : Data → Result Claim Wrong
claim_text d = or_wrong (as_str d) >>= claim_named

abbrev pub claim_of : Data → Result Claim Wrong
claim_of d = member_of (codes "verdict") d >>= claim_text

-- a base number for each edge, where the verdict is yes
abbrev pub some_bases : List ℕ → Result (Option (List ℕ)) Wrong
some_bases bases = Ok (Some bases)

abbrev pub scenario_of : Claim → Data → Result (Option (List ℕ)) Wrong
scenario_of Yes d = member_of (codes "scenario") d >>= list_of base_of >>= some_bases
scenario_of No d = Ok None
scenario_of Budget d = Ok None

abbrev pub tree_of : Version → Data → Result (List TreeNode) Wrong
tree_of version d = member_of (codes "tree") d >>= list_of (node_of version)

-- ---- the certificate

abbrev pub certificate_with : ℕ → List (List ℕ) → Claim → Option (List ℕ) → List TreeNode → Certificate
certificate_with nodes relations claim scenario tree =
    record { nodes = nodes; relations = relations; claim = claim; scenario = scenario; tree = tree }

abbrev pub keys_of : Data → Result Certificate CertFault
keys_of d = do
  version ← at_key 6 (version_of d)
  nodes ← at_key 1 (nodes_of d)
  relations ← at_key 2 (relations_of d)
  claim ← at_key 5 (claim_of d)
  scenario ← at_key 3 (scenario_of claim d)
  tree ← at_key 4 (tree_of version d)
  Ok (certificate_with nodes relations claim scenario tree)

-- an object with these keys
abbrev pub certificate_of : Data → Result Certificate CertFault
certificate_of d = if is_some (as_object d) then keys_of d else Err (fault.Field 0 0)
