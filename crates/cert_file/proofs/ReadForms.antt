-- What is read has the forms that are written.
use Rattle.std.proofs.Common.{◌≡◌, ℕ, ◌+◌, ◌^◌, ◌<◌, ◌≤◌, List, [], ◌∷◌, length, All, Bool, true, false, cond, Option, Some, None, option_and_then, codes, Result, Ok, Err, refl, subst, arith}
use Rattle.std.specs.Prelude.{⊤, nat_le}
use Rattle.std.specs.List.{list_all}
use Rattle.std.specs.Result.{MatchResult}
use Rattle.std.proofs.lemmas.Bool.{ltb-true, leb-true, and_parts}
use Rattle.std.proofs.lemmas.List.Elements.{All-nil, All-cons}
use Rattle.std.proofs.lemmas.List.Sums.{list_all-from_AllPass}
use Rattle.calculus_table.specs.declared.TheConstants.{MAX_BASES}
use Rattle.network_words.specs.declared.TheConstants.{MAX_NODES}
use Rattle.qsr_lex.specs.Names.{is_name}
use Rattle.serde_json.specs.Data.{Data}
use Rattle.serde_json.specs.Find.{as_str, as_number, as_u64}
use Rattle.line_files.specs.Steps.{◌>>=◌}
use Rattle.line_files.proofs.Steps.{MatchResult-then}
use Rattle.split_trees.specs.Tree.{NodeSteps, TreeNode, IsBareLeaf}
use Rattle.split_trees.specs.declared.tree.Kind.{Kind}
use Rattle.split_trees.specs.declared.tree.Kind.TheVariants.{Empty, Found, Open, Later, Split}
use Rattle.cert_file.specs.Certificate.{Certificate}
use Rattle.cert_file.specs.Parts.{or_wrong, member_of, if_below, number_below, if_name, name_of, with_first, values, entries, entry, list_of, base_of, node_number, set_of, number_at, numbers_of_step, step_of}
use Rattle.cert_file.specs.Nodes.{steps_listed, steps_or_list, steps_of, steps_at, kind_of, leaf_with, list_at, split_entries, node_of_kind, node_of}
use Rattle.cert_file.specs.Fields.{at_key, version_of, if_some, nodes_of, if_few, relations_of, claim_of, some_bases, scenario_of, tree_of, keys_of, certificate_of}
use Rattle.cert_file.specs.Written.{AreBelow, IsStepOfNumbers, AreStepsOfNumbers, IsNodeOfNumbers, AreBaseNumbers, version_for, IsScenarioFor, IsWritable}
use Rattle.cert_file.specs.declared.claim.Claim.{Claim}
use Rattle.cert_file.specs.declared.claim.Claim.TheVariants.{Yes, No, Budget}
use Rattle.cert_file.specs.declared.claim.Version.{Version}
use Rattle.cert_file.specs.declared.claim.Version.TheVariants.{One, Two}
use Rattle.cert_file.specs.declared.fault.Wrong.{Wrong}
use Rattle.cert_file.specs.declared.fault.Wrong.TheVariants.{At, Memory}

-- what is read, where anything is
abbrev pub Gives : {A E : Type 0} → Result A E → (A → Type 0) → Type 0
Gives r P = MatchResult r P (λ _. ⊤)

any : {A E : Type 0} (r : Result A E) → Gives r (λ _. ⊤)
any (Ok a) = tt
any (Err e) = tt

after : {A B E : Type 0} (P : A → Type 0) (R : B → Type 0) (r : Result A E) (f : A → Result B E) → Gives r P → ((a : A) → P a → Gives (f a) R) → Gives (r >>= f) R
after P R r f = MatchResult-then (λ _. ⊤) P R r f

always : {A B E : Type 0} (R : B → Type 0) (r : Result A E) (f : A → Result B E) → ((a : A) → Gives (f a) R) → Gives (r >>= f) R
always R r f h = after (λ _. ⊤) R r f (any r) (λ a _. h a)

if_holds : {A E : Type 0} (P : A → Type 0) (b : Bool) (a : A) (e : E) → (b ≡ true → P a) → Gives (cond b (Ok a) (Err e)) P
if_holds P true a e h = h refl
if_holds P false a e h = tt

if_read : {A E : Type 0} (P : A → Type 0) (b : Bool) (r : Result A E) (e : E) → Gives r P → Gives (cond b r (Err e)) P
if_read P true r e h = h
if_read P false r e h = tt

-- ---- numbers, names, lists

below : (limit : ℕ) (d : Data) → Gives (number_below limit d) (λ n. n < limit)
below limit d =
    always (λ n. n < limit) (or_wrong (option_and_then as_u64 (as_number d))) (if_below limit) (λ n. if_holds (λ m. m < limit) _ n (At 0) (λ h. ltb-true n limit h))

name : (d : Data) → Gives (name_of d) (λ s. is_name s ≡ true)
name d = always (λ s. is_name s ≡ true) (or_wrong (as_str d)) if_name (λ s. if_holds (λ t. is_name t ≡ true) (is_name s) s (At 0) (λ h. h))

module _ {A : Type 0} (f : Data → Result A Wrong) (P : A → Type 0) (h : (d : Data) → Gives (f d) P) where
  first : (r : Result A Wrong) (rest : Result (List A) Wrong) → Gives r P → Gives rest (All P) → Gives (with_first r rest) (All P)
  first (Err e) rest p q = tt
  first (Ok x) (Ok xs) p q = All-cons P x xs p q
  first (Ok x) (Err (At i)) p q = tt
  first (Ok x) (Err Memory) p q = tt

  each : (ds : List Data) → Gives (values f ds) (All P)
  each [] = All-nil P
  each (d ∷ ds) = first (f d) (values f ds) (h d) (each ds)

  list : (d : Data) → Gives (list_of f d) (All P)
  list d = always (All P) (entries d) (values f) each

numbers : (limit : ℕ) (d : Data) → Gives (list_of (number_below limit) d) (AreBelow limit)
numbers limit d = list (number_below limit) (λ n. n < limit) (below limit) d

node_at : (place : ℕ) (d : Data) → Gives (number_at place d) (λ n. n < 2 ^ 32)
node_at place d = always (λ n. n < 2 ^ 32) (entry place d) node_number (below (2 ^ 32))

step : (d : Data) → Gives (step_of d) IsStepOfNumbers
step d =
    if_read IsStepOfNumbers _ (numbers_of_step d) (At 0)
    (after (λ n. n < 2 ^ 32) IsStepOfNumbers (number_at 0 d) _ (node_at 0 d) (λ i p.
    after (λ n. n < 2 ^ 32) IsStepOfNumbers (number_at 1 d) _ (node_at 1 d) (λ j q.
    after (λ n. n < 2 ^ 32) IsStepOfNumbers (number_at 2 d) _ (node_at 2 d) (λ k r. record { i = p; j = q; k = r }))))

-- ---- nodes

abbrev AreNumbered : NodeSteps → Type 0
AreNumbered steps = AreStepsOfNumbers Two steps

steps_either : (text : Option (List ℕ)) (d : Data) → Gives (steps_or_list text d) AreNumbered
steps_either (Some text) d = if_holds AreNumbered _ _ (At 0) (λ _. tt)
steps_either None d = after (All IsStepOfNumbers) AreNumbered (list_of step_of d) steps_listed (list step_of IsStepOfNumbers step d) (λ steps h. h)

steps : (version : Version) (place : ℕ) (d : Data) → Gives (steps_at version place d) AreNumbered
steps One place d = tt
steps Two place d = always AreNumbered (entry place d) steps_of (λ e. steps_either (as_str e) e)

abbrev IsForm : TreeNode → Type 0
IsForm node = IsBareLeaf node.kind node × IsNodeOfNumbers Two node.kind node

split : (version : Version) (d : Data) → Gives (split_entries version d) IsForm
split version d =
    after (λ n. n < 2 ^ 32) IsForm (number_at 1 d) _ (node_at 1 d) (λ i p.
    after (λ n. n < 2 ^ 32) IsForm (number_at 2 d) _ (node_at 2 d) (λ j q.
    after (AreBelow (2 ^ 64)) IsForm (list_at set_of 3 d) _ (always (AreBelow (2 ^ 64)) (entry 3 d) (list_of set_of) (numbers (2 ^ 64))) (λ parts r.
    after (AreBelow (2 ^ 32)) IsForm (list_at node_number 4 d) _ (always (AreBelow (2 ^ 32)) (entry 4 d) (list_of node_number) (numbers (2 ^ 32))) (λ children s.
    after AreNumbered IsForm (steps_at version 5 d) _ (steps version 5 d) (λ work t.
    (tt, record { i = p; j = q; parts = r; children = s; steps = t }))))))

node_by_kind : (version : Version) (d : Data) (kind : Kind) → Gives (node_of_kind version d kind) IsForm
node_by_kind version d Empty =
    if_read IsForm _ (steps_at version 1 d >>= leaf_with) (At 0) (after AreNumbered IsForm (steps_at version 1 d) leaf_with (steps version 1 d) (λ work h. (refl, h)))
node_by_kind version d Found = if_holds IsForm _ _ (At 0) (λ _. (refl, tt))
node_by_kind version d Open = if_holds IsForm _ _ (At 0) (λ _. (refl, tt))
node_by_kind version d Later = if_holds IsForm _ _ (At 0) (λ _. (refl, tt))
node_by_kind version d Split = if_read IsForm _ (split_entries version d) (At 0) (split version d)

node : (version : Version) (d : Data) → Gives (node_of version d) IsForm
node version d = always IsForm (entry 0 d >>= kind_of) (node_of_kind version d) (node_by_kind version d)

-- what fits where steps are written fits where they aren't
steps_fit : (version : Version) (steps : NodeSteps) → AreStepsOfNumbers Two steps → AreStepsOfNumbers version steps
steps_fit One steps h = tt
steps_fit Two steps h = h

node_fits : (version : Version) (kind : Kind) (node : TreeNode) → IsNodeOfNumbers Two kind node → IsNodeOfNumbers version kind node
node_fits version Empty node h = steps_fit version node.steps h
node_fits version Found node h = tt
node_fits version Open node h = tt
node_fits version Later node h = tt
node_fits version Split node h = record { i = h.i; j = h.j; parts = h.parts; children = h.children; steps = steps_fit version node.steps h.steps }

-- ---- keys

keyed : {A : Type 0} (key : ℕ) (P : A → Type 0) (r : Result A Wrong) → Gives r P → Gives (at_key key r) P
keyed key P (Ok a) h = h
keyed key P (Err w) h = tt

abbrev AreNodes : ℕ → Type 0
AreNodes n = (0 < n) × (n < MAX_NODES + 1)

node_count : (d : Data) → Gives (nodes_of d) AreNodes
node_count d =
    after (λ n. n < MAX_NODES + 1) AreNodes (member_of (codes "nodes") d >>= number_below (MAX_NODES + 1)) if_some
    (always (λ n. n < MAX_NODES + 1) (member_of (codes "nodes") d) (number_below (MAX_NODES + 1)) (below (MAX_NODES + 1)))
    (λ n few. if_holds AreNodes _ n (At 0) (λ h. (ltb-true 0 n h, few)))

pub record AreNames (names : List (List ℕ)) : Type 0 where
  pub some : 1 ≤ length names
  pub few : length names ≤ MAX_BASES
  pub named : list_all is_name names ≡ true

relations : (d : Data) → Gives (relations_of d) AreNames
relations d =
    after (All (λ s. is_name s ≡ true)) AreNames (member_of (codes "relations") d >>= list_of name_of) if_few
    (always (All (λ s. is_name s ≡ true)) (member_of (codes "relations") d) (list_of name_of) (list name_of (λ s. is_name s ≡ true) name))
    (λ names h. if_holds AreNames _ names (At 0) (λ b.
    let parts = and_parts (nat_le 1 (length names)) (nat_le (length names) MAX_BASES) b in
    record { some = leb-true 1 (length names) parts.0; few = leb-true (length names) MAX_BASES parts.1; named = list_all-from_AllPass is_name names h }))

abbrev IsGiven : Claim → Option (List ℕ) → Type 0
IsGiven claim scenario = IsScenarioFor claim scenario × AreBaseNumbers scenario

scenario : (claim : Claim) (d : Data) → Gives (scenario_of claim d) (IsGiven claim)
scenario Yes d =
    after (AreBelow (2 ^ 8)) (IsGiven Yes) (member_of (codes "scenario") d >>= list_of base_of) some_bases
    (always (AreBelow (2 ^ 8)) (member_of (codes "scenario") d) (list_of base_of) (numbers (2 ^ 8))) (λ bases h. (tt, h))
scenario No d = (refl, tt)
scenario Budget d = (refl, tt)

tree : (version : Version) (d : Data) → Gives (tree_of version d) (All IsForm)
tree version d = always (All IsForm) (member_of (codes "tree") d) (list_of (node_of version)) (list (node_of version) IsForm (node version))

keys : (d : Data) → Gives (keys_of d) IsWritable
keys d =
    after (λ _. ⊤) IsWritable (at_key 6 (version_of d)) _ (any _) (λ version _.
    after AreNodes IsWritable (at_key 1 (nodes_of d)) _ (keyed 1 AreNodes (nodes_of d) (node_count d)) (λ n p.
    after AreNames IsWritable (at_key 2 (relations_of d)) _ (keyed 2 AreNames (relations_of d) (relations d)) (λ names q.
    after (λ _. ⊤) IsWritable (at_key 5 (claim_of d)) _ (any _) (λ claim _.
    after (IsGiven claim) IsWritable (at_key 3 (scenario_of claim d)) _ (keyed 3 (IsGiven claim) (scenario_of claim d) (scenario claim d)) (λ bases r.
    after (All IsForm) IsWritable (at_key 4 (tree_of version d)) _ (keyed 4 (All IsForm) (tree_of version d) (tree version d)) (λ nodes s.
    record {
      forms = record {
        some_nodes = p.0;
        few_nodes = omega (arith, p.1);
        some_relations = omega (arith, q.some);
        few_relations = q.few;
        names = q.named;
        scenario = r.0;
        leaves = λ k d inside. (s k d inside).0;
      };
      numbers = record {
        scenario = r.1;
        tree = λ k d inside. node_fits (version_for nodes) _ _ (s k d inside).1;
      };
    }))))))

pub IsWritable-read : (d : Data) (c : Certificate) → certificate_of d ≡ Ok c → IsWritable c
IsWritable-read d c e = subst (λ r. Gives r IsWritable) e (if_read IsWritable _ (keys_of d) _ (keys d))
