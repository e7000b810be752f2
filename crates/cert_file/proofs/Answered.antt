-- Bytes are a file of a certificate, or have a fault.
use Rattle.std.proofs.Common.{◌≡◌, ◌⊎◌, inl, inr, ℕ, ◌==◌, nat_lt, List, [], ◌∷◌, Bool, true, false, cond, Option, Some, None, Result, Ok, Err, codes, refl, sym, ◌∙◌}
use Rattle.std.specs.Prelude.{⊤, is_some, MatchResult}
use Rattle.std.specs.Str.{bytes_eq, is_utf8, IsUtf8}
use Rattle.std.proofs.lemmas.Bool.{false≢true}
use Rattle.std.proofs.lemmas.Str.{IsUtf8-from_is_utf8, is_utf8-from_IsUtf8}
use Rattle.serde_json.specs.Data.{Data}
use Rattle.serde_json.specs.Find.{as_str, as_object}
use Rattle.serde_json.specs.Read.{read}
use Rattle.line_files.specs.Steps.{◌>>=◌}
use Rattle.line_files.proofs.Steps.{MatchResult-then}
use Rattle.cert_file.specs.Certificate.{Certificate}
use Rattle.cert_file.specs.Parts.{or_wrong, number_below, if_below, name_of, if_name, with_first, values, entries, entry, member_of, list_of, number_at, node_number, set_of, base_of, numbers_of_step, step_of, has_count}
use Rattle.cert_file.specs.Nodes.{steps_listed, steps_or_list, steps_of, steps_at, kind_of, kind_name, kind_named, leaf_with, list_at, split_entries, node_of_kind, node_of}
use Rattle.cert_file.specs.Fields.{at_key, version_of, version_numbered, nodes_of, if_some, relations_of, if_few, claim_of, claim_name, claim_text, claim_named, some_bases, scenario_of, tree_of, keys_of, certificate_of}
use Rattle.cert_file.specs.Files.{IsJsonOf, IsNotJson}
use Rattle.cert_file.specs.Laws.{IsCertificate, HasFault, FileHasAnswer}
use Rattle.cert_file.specs.declared.claim.Claim.{Claim}
use Rattle.cert_file.specs.declared.claim.Claim.TheVariants.{Yes, No, Budget}
use Rattle.cert_file.specs.declared.claim.Version.{Version}
use Rattle.cert_file.specs.declared.claim.Version.TheVariants.{One, Two}
use Rattle.cert_file.specs.declared.fault.Wrong.{Wrong}
use Rattle.cert_file.specs.declared.fault.Wrong.TheVariants.{At, Memory}
use Rattle.cert_file.specs.declared.fault.CertFault.{CertFault}
use Rattle.cert_file.specs.declared.fault.CertFault.TheVariants as fault
use Rattle.split_trees.specs.Tree.{sweep, leaf_node}
use Rattle.split_trees.specs.declared.tree.Kind.{Kind}
use Rattle.split_trees.specs.declared.tree.Kind.TheVariants.{Empty, Found, Open, Later, Split}

-- ---- what is wrong is wrong at an entry

abbrev IsEntry : Wrong → Type 0
IsEntry (At index) = Unit {0}
IsEntry Memory = ⊥

-- a value, or what is wrong at an entry
abbrev Answers : {A : Type 0} → Result A Wrong → Type 0
Answers r = MatchResult r (λ _. ⊤) IsEntry

found : {A : Type 0} (o : Option A) → Answers (or_wrong o)
found (Some a) = tt
found None = tt

after : {A B : Type 0} (r : Result A Wrong) (f : A → Result B Wrong) → Answers r → ((a : A) → Answers (f a)) → Answers (r >>= f)
after r f h k = MatchResult-then IsEntry (λ _. ⊤) (λ _. ⊤) r f h (λ a _. k a)

chosen : {A : Type 0} (b : Bool) (r s : Result A Wrong) → Answers r → Answers s → Answers (cond b r s)
chosen true r s h k = h
chosen false r s h k = k

-- ---- numbers, names, lists

below : (limit : ℕ) (d : Data) → Answers (number_below limit d)
below limit d = after (or_wrong _) (if_below limit) (found _) (λ n. chosen (nat_lt n limit) (Ok n) (Err (At 0)) tt tt)

name : (d : Data) → Answers (name_of d)
name d = after (or_wrong (as_str d)) if_name (found (as_str d)) (λ text. chosen _ (Ok text) (Err (At 0)) tt tt)

module _ {A : Type 0} (f : Data → Result A Wrong) (h : (d : Data) → Answers (f d)) where
  first : (r : Result A Wrong) (rest : Result (List A) Wrong) → Answers rest → Answers (with_first r rest)
  first (Err e) rest k = tt
  first (Ok x) (Ok xs) k = tt
  first (Ok x) (Err (At index)) k = tt
  first (Ok x) (Err Memory) k = k

  each : (ds : List Data) → Answers (values f ds)
  each [] = tt
  each (d ∷ ds) = first (f d) (values f ds) (each ds)

  list : (d : Data) → Answers (list_of f d)
  list d = after (entries d) (values f) (found _) each

numbers : (limit : ℕ) (d : Data) → Answers (list_of (number_below limit) d)
numbers limit d = list (number_below limit) (below limit) d

node_at : (place : ℕ) (d : Data) → Answers (number_at place d)
node_at place d = after (entry place d) node_number (found _) (below _)

step : (d : Data) → Answers (step_of d)
step d = chosen _ (numbers_of_step d) (Err (At 0))
    (after (number_at 0 d) _ (node_at 0 d) (λ i. after (number_at 1 d) _ (node_at 1 d) (λ j. after (number_at 2 d) _ (node_at 2 d) (λ k. tt)))) tt

-- ---- nodes

steps_either : (text : Option (List ℕ)) (d : Data) → Answers (steps_or_list text d)
steps_either (Some text) d = chosen (bytes_eq text (codes "sweep")) (Ok sweep) (Err (At 0)) tt tt
steps_either None d = after (list_of step_of d) steps_listed (list step_of step d) (λ steps. tt)

steps : (version : Version) (place : ℕ) (d : Data) → Answers (steps_at version place d)
steps One place d = tt
steps Two place d = after (entry place d) steps_of (found _) (λ e. steps_either (as_str e) e)

split : (version : Version) (d : Data) → Answers (split_entries version d)
split version d =
    after (number_at 1 d) _ (node_at 1 d) (λ i.
    after (number_at 2 d) _ (node_at 2 d) (λ j.
    after (list_at set_of 3 d) _ (after (entry 3 d) (list_of set_of) (found _) (numbers _)) (λ parts.
    after (list_at node_number 4 d) _ (after (entry 4 d) (list_of node_number) (found _) (numbers _)) (λ children.
    after (steps_at version 5 d) _ (steps version 5 d) (λ work. tt)))))

node_by_kind : (version : Version) (d : Data) (kind : Kind) → Answers (node_of_kind version d kind)
node_by_kind version d Empty = chosen _ (steps_at version 1 d >>= leaf_with) (Err (At 0)) (after (steps_at version 1 d) leaf_with (steps version 1 d) (λ work. tt)) tt
node_by_kind version d Found = chosen (has_count 1 d) (Ok (leaf_node Found sweep)) (Err (At 0)) tt tt
node_by_kind version d Open = chosen (has_count 1 d) (Ok (leaf_node Open sweep)) (Err (At 0)) tt tt
node_by_kind version d Later = chosen (has_count 1 d) (Ok (leaf_node Later sweep)) (Err (At 0)) tt tt
node_by_kind version d Split = chosen _ (split_entries version d) (Err (At 0)) (split version d) tt

kind_answers : (d : Data) → Answers (kind_of d)
kind_answers d = after (or_wrong (as_str d)) kind_named (found (as_str d)) (λ text.
    of_kind (bytes_eq text (kind_name Empty)) (bytes_eq text (kind_name Found)) (bytes_eq text (kind_name Open)) (bytes_eq text (kind_name Later)) (bytes_eq text (kind_name Split)))
  where
    of_kind : (a b c e f : Bool) → Answers (cond a (Ok Empty) (cond b (Ok Found) (cond c (Ok Open) (cond e (Ok Later) (cond f (Ok Split) (Err (At 0)))))))
    of_kind true b c e f = tt
    of_kind false true c e f = tt
    of_kind false false true e f = tt
    of_kind false false false true f = tt
    of_kind false false false false true = tt
    of_kind false false false false false = tt

node : (version : Version) (d : Data) → Answers (node_of version d)
node version d = after (entry 0 d >>= kind_of) (node_of_kind version d) (after (entry 0 d) kind_of (found _) kind_answers) (node_by_kind version d)

-- ---- keys

version_answers : (d : Data) → Answers (version_of d)
version_answers d = after (member_of (codes "version") d >>= number_below 3) version_numbered (after (member_of (codes "version") d) (number_below 3) (found _) (below 3)) (λ n.
    chosen (n == 1) (Ok One) (cond (n == 2) (Ok Two) (Err (At 0))) tt (chosen (n == 2) (Ok Two) (Err (At 0)) tt tt))

node_count : (d : Data) → Answers (nodes_of d)
node_count d = after (member_of (codes "nodes") d >>= number_below _) if_some (after (member_of (codes "nodes") d) (number_below _) (found _) (below _)) (λ n. chosen (nat_lt 0 n) (Ok n) (Err (At 0)) tt tt)

relations : (d : Data) → Answers (relations_of d)
relations d = after (member_of (codes "relations") d >>= list_of name_of) if_few (after (member_of (codes "relations") d) (list_of name_of) (found _) (list name_of name)) (λ names. chosen _ (Ok names) (Err (At 0)) tt tt)

claim : (d : Data) → Answers (claim_of d)
claim d = after (member_of (codes "verdict") d) claim_text (found _) (λ e. after (or_wrong (as_str e)) claim_named (found (as_str e)) (λ text.
    of_claim (bytes_eq text (claim_name Yes)) (bytes_eq text (claim_name No)) (bytes_eq text (claim_name Budget))))
  where
    of_claim : (a b c : Bool) → Answers (cond a (Ok Yes) (cond b (Ok No) (cond c (Ok Budget) (Err (At 0)))))
    of_claim true b c = tt
    of_claim false true c = tt
    of_claim false false true = tt
    of_claim false false false = tt

scenario : (c : Claim) (d : Data) → Answers (scenario_of c d)
scenario Yes d = after (member_of (codes "scenario") d >>= list_of base_of) some_bases (after (member_of (codes "scenario") d) (list_of base_of) (found _) (numbers _)) (λ bases. tt)
scenario No d = tt
scenario Budget d = tt

tree : (version : Version) (d : Data) → Answers (tree_of version d)
tree version d = after (member_of (codes "tree") d) (list_of (node_of version)) (found _) (list (node_of version) (node version))

-- ---- the certificate

-- the fault is that of a key
abbrev IsKey : CertFault → Type 0
IsKey fault.NotJson = ⊥
IsKey (fault.Field key index) = Unit {0}
IsKey fault.Memory = ⊥

abbrev Keyed : {A : Type 0} → Result A CertFault → Type 0
Keyed r = MatchResult r (λ _. ⊤) IsKey

keyed : {A : Type 0} (key : ℕ) (r : Result A Wrong) → Answers r → Keyed (at_key key r)
keyed key (Ok a) h = tt
keyed key (Err (At index)) h = tt
keyed key (Err Memory) h = h

next : {A B : Type 0} (r : Result A CertFault) (f : A → Result B CertFault) → Keyed r → ((a : A) → Keyed (f a)) → Keyed (r >>= f)
next r f h k = MatchResult-then IsKey (λ _. ⊤) (λ _. ⊤) r f h (λ a _. k a)

keys : (d : Data) → Keyed (keys_of d)
keys d =
    next (at_key 6 (version_of d)) _ (keyed 6 (version_of d) (version_answers d)) (λ version.
    next (at_key 1 (nodes_of d)) _ (keyed 1 (nodes_of d) (node_count d)) (λ nodes.
    next (at_key 2 (relations_of d)) _ (keyed 2 (relations_of d) (relations d)) (λ names.
    next (at_key 5 (claim_of d)) _ (keyed 5 (claim_of d) (claim d)) (λ c.
    next (at_key 3 (scenario_of c d)) _ (keyed 3 (scenario_of c d) (scenario c d)) (λ bases.
    next (at_key 4 (tree_of version d)) _ (keyed 4 (tree_of version d) (tree version d)) (λ nodes. tt))))))

object_or_not : (b : Bool) (r : Result Certificate CertFault) → Keyed r → Keyed (cond b r (Err (fault.Field 0 0)))
object_or_not true r h = h
object_or_not false r h = tt

certificate : (d : Data) → Keyed (certificate_of d)
certificate d = object_or_not (is_some (as_object d)) (keys_of d) (keys d)

-- ---- the bytes

module _ (bytes : List ℕ) where
  made : (d : Data) (r : Result Certificate CertFault) → IsJsonOf bytes d → certificate_of d ≡ r → Keyed r → IsCertificate bytes ⊎ HasFault bytes
  made d (Ok c) json is h = inl (record { certificate = c; file = record { value = d; json = json; is_made = is } })
  made d (Err (fault.Field key index)) json is h = inr (record { fault = fault.Field key index; of_bytes = tt; is = record { value = d; json = json; is_made = is } })
  made d (Err fault.NotJson) json is h = absurd h
  made d (Err fault.Memory) json is h = absurd h

  no_json : IsNotJson bytes → IsCertificate bytes ⊎ HasFault bytes
  no_json none = inr (record { fault = fault.NotJson; of_bytes = tt; is = none })

  some_or_none : (o : Option Data) → read bytes ≡ o → IsUtf8 bytes → IsCertificate bytes ⊎ HasFault bytes
  some_or_none (Some d) is utf8 = made d (certificate_of d) (record { utf8 = utf8; is_read = is }) refl (certificate d)
  some_or_none None is utf8 = no_json (λ d json. let again = json.is_read in cc)

  by_utf8 : (b : Bool) → is_utf8 bytes ≡ b → IsCertificate bytes ⊎ HasFault bytes
  by_utf8 true is = some_or_none (read bytes) refl (IsUtf8-from_is_utf8 bytes is)
  by_utf8 false is = no_json (λ d json. false≢true (sym is ∙ is_utf8-from_IsUtf8 bytes json.utf8))

pub file-answered : FileHasAnswer
file-answered bytes = by_utf8 bytes (is_utf8 bytes) refl
