-- What a JSON value (RFC 8259) stands for as a part of a certificate. What has another form is wrong, and a list is wrong at its
-- first wrong entry.
use Rattle.std.specs.Prelude.{ℕ, ◌+◌, ◌^◌, ◌==◌, nat_lt, if◌then◌else◌, List, [], ◌∷◌, Bool, false, Option, Some, None, option_map, option_and_then, Result, Ok, Err}
use Rattle.std.specs.Option.{ok_or}
use Rattle.serde_json.specs.Data.{Data, Items, no_items, item}
use Rattle.serde_json.specs.Find.{as_number, as_u64, as_str, as_array, get, at}
use Rattle.serde_json.specs.Events.{items_len}
use Rattle.qsr_lex.specs.Names.{is_name}
use Rattle.line_files.specs.Steps.{◌>>=◌}
use Rattle.split_trees.specs.declared.tree.Step.{Step}
use Rattle.cert_file.specs.declared.fault.Wrong.{Wrong}
use Rattle.cert_file.specs.declared.fault.Wrong.TheVariants.{At, Memory}

-- what is there, else wrong
abbrev pub or_wrong : {A : Type 0} → Option A → Result A Wrong
or_wrong found = ok_or found (At 0)

-- ---- numbers and names

-- a number that is less than the limit
abbrev pub if_below : ℕ → ℕ → Result ℕ Wrong
if_below limit n = if nat_lt n limit then Ok n else Err (At 0)

-- a whole number less than the limit, written with digits alone
abbrev pub number_below : ℕ → Data → Result ℕ Wrong
number_below limit d = or_wrong (option_and_then as_u64 (as_number d)) >>= if_below limit

-- a text that may name a base relation
abbrev pub if_name : List ℕ → Result (List ℕ) Wrong
if_name text = if is_name text then Ok text else Err (At 0)

abbrev pub name_of : Data → Result (List ℕ) Wrong
name_of d = or_wrong (as_str d) >>= if_name

-- ---- arrays

-- the value of a member of an object, and an entry of an array
abbrev pub member_of : List ℕ → Data → Result Data Wrong
member_of key d = or_wrong (get key d)

abbrev pub entry : ℕ → Data → Result Data Wrong
entry place d = or_wrong (at place d)

-- an array of so many entries
abbrev pub are_count : ℕ → Option Items → Bool
are_count n None = false
are_count n (Some ds) = items_len ds == n

abbrev pub has_count : ℕ → Data → Bool
has_count n d = are_count n (as_array d)

-- the entries of an array
abbrev pub entry_list : Items → List Data
entry_list no_items = []
entry_list (item d ds) = d ∷ entry_list ds

abbrev pub entries : Data → Result (List Data) Wrong
entries d = or_wrong (option_map entry_list (as_array d))

-- the value of a first entry before those of the others; of wrong entries the first decides
abbrev pub with_first : {A : Type 0} → Result A Wrong → Result (List A) Wrong → Result (List A) Wrong
with_first (Err wrong) rest = Err (At 0)
with_first (Ok x) (Ok xs) = Ok (x ∷ xs)
with_first (Ok x) (Err (At index)) = Err (At (index + 1))
with_first (Ok x) (Err Memory) = Err Memory

-- the values of entries
abbrev pub values : {A : Type 0} → (Data → Result A Wrong) → List Data → Result (List A) Wrong
values value [] = Ok []
values value (d ∷ ds) = with_first (value d) (values value ds)

-- the values of an array's entries
abbrev pub list_of : {A : Type 0} → (Data → Result A Wrong) → Data → Result (List A) Wrong
list_of value d = entries d >>= values value

-- ---- steps of narrowing

-- the base number of a relation, the number of a node, and a set of base relations, bit r for base number r
abbrev pub base_of : Data → Result ℕ Wrong
base_of = number_below (2 ^ 8)

abbrev pub node_number : Data → Result ℕ Wrong
node_number = number_below (2 ^ 32)

abbrev pub set_of : Data → Result ℕ Wrong
set_of = number_below (2 ^ 64)

-- the number of a node, as an entry
abbrev pub number_at : ℕ → Data → Result ℕ Wrong
number_at place d = entry place d >>= node_number

abbrev pub step_along : ℕ → ℕ → ℕ → Step
step_along i j k = record { i = i; j = j; k = k }

-- a step of narrowing, as its three nodes
abbrev pub numbers_of_step : Data → Result Step Wrong
numbers_of_step d = do
  i ← number_at 0 d
  j ← number_at 1 d
  k ← number_at 2 d
  Ok (step_along i j k)

abbrev pub step_of : Data → Result Step Wrong
step_of d = if has_count 3 d then numbers_of_step d else Err (At 0)
