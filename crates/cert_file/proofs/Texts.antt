-- A line of JSON is read again: the text of a value whose numbers are whole and fit 64 bits.
use Rattle.std.proofs.Common.{◌≡◌, ℕ, ◌^◌, ◌<◌, ◌≤◌, List, [], ◌∷◌, ◌++◌, Bool, true, false, max, Some, IsUtf8, option_map, option_and_then, refl, sym, ap, ap₂, ◌∙◌, append-nil, arith}
use Rattle.std.proofs.lemmas.Str.{IsUtf8-append, IsUtf8-from_ascii}
use Rattle.std.proofs.lemmas.Fmt.{IsAscii-decimal}
use Rattle.json.specs.Lex.{tokens}
use Rattle.json.specs.Json as json
use Rattle.json.specs.Tree as tree
use Rattle.json.specs.Tree.{json_tokens, HasNumbers, ItemsHaveNumbers, MembersHaveNumbers}
use Rattle.json.proofs.Printed.Decimals.{IsNumber-decimal}
use Rattle.json.proofs.Printed.Trees.{value-json_tokens, ArePrintable-json_tokens}
use Rattle.json.proofs.Printed.Utf8.{IsUtf8-quoted, IsUtf8-boolean, IsUtf8-are_ascii}
use Rattle.serde_json.specs.Data.{Num, unsigned, negative, float, Data, null, boolean, number, string, array, object, Items, no_items, item, Members, no_members, member, depth, items_depth, members_depth}
use Rattle.serde_json.specs.Read.{of_json, of_items, of_members, read, max_depth}
use Rattle.serde_json.specs.Written.{outline, items_outline, members_outline, comma_if, compact_text, items_text, members_text}
use Rattle.serde_json.proofs.Numbers.{number_of-decimal}
use Rattle.serde_json.proofs.Texts.{print-outline}
use Rattle.cert_file.proofs.Lines.{tokens-line}

abbrev pub IsPlainNumber : Num → Type 0
IsPlainNumber (unsigned n) = n < 2 ^ 64
IsPlainNumber (negative z) = ⊥
IsPlainNumber (float x) = ⊥

-- numbers are whole and fit, texts are UTF-8, and the members of an object are read as they stand
abbrev mutual
  pub IsPlain : Data → Type 0
  IsPlain null = Unit {0}
  IsPlain (boolean b) = Unit {0}
  IsPlain (number n) = IsPlainNumber n
  IsPlain (string s) = IsUtf8 s
  IsPlain (array ds) = ArePlain ds
  IsPlain (object ms) = MembersArePlain ms × (of_members (members_outline ms) no_members ≡ Some ms)

  pub ArePlain : Items → Type 0
  ArePlain no_items = Unit {0}
  ArePlain (item d ds) = IsPlain d × ArePlain ds

  pub MembersArePlain : Members → Type 0
  MembersArePlain no_members = Unit {0}
  MembersArePlain (member k d ms) = IsUtf8 k × IsPlain d × MembersArePlain ms

mutual
  has_numbers : (d : Data) → IsPlain d → HasNumbers (outline d)
  has_numbers null h = tt
  has_numbers (boolean b) h = tt
  has_numbers (number (unsigned n)) h = IsNumber-decimal n h
  has_numbers (number (negative z)) h = absurd h
  has_numbers (number (float x)) h = absurd h
  has_numbers (string s) h = tt
  has_numbers (array ds) h = items_have_numbers ds h
  has_numbers (object ms) h = members_have_numbers ms h.0

  items_have_numbers : (ds : Items) → ArePlain ds → ItemsHaveNumbers (items_outline ds)
  items_have_numbers no_items h = tt
  items_have_numbers (item d ds) h = (has_numbers d h.0, items_have_numbers ds h.1)

  members_have_numbers : (ms : Members) → MembersArePlain ms → MembersHaveNumbers (members_outline ms)
  members_have_numbers no_members h = tt
  members_have_numbers (member k d ms) h = (has_numbers d h.1, members_have_numbers ms h.2)

mutual
  pub of_json-outline : (d : Data) → IsPlain d → of_json (outline d) ≡ Some d
  of_json-outline null h = refl
  of_json-outline (boolean b) h = refl
  of_json-outline (number (unsigned n)) h = ap (option_map number) (number_of-decimal n h)
  of_json-outline (number (negative z)) h = absurd h
  of_json-outline (number (float x)) h = absurd h
  of_json-outline (string s) h = refl
  of_json-outline (array ds) h = ap (option_map array) (of_items-outline ds h)
  of_json-outline (object ms) h = ap (option_map object) h.1

  of_items-outline : (ds : Items) → ArePlain ds → of_items (items_outline ds) ≡ Some ds
  of_items-outline no_items h = refl
  of_items-outline (item d ds) h = rw (of_json-outline d h.0, of_items-outline ds h.1)

mutual
  depth-outline : (d : Data) → tree.depth (outline d) ≡ depth d
  depth-outline null = refl
  depth-outline (boolean b) = refl
  depth-outline (number n) = refl
  depth-outline (string s) = refl
  depth-outline (array ds) = rw (items_depth-outline ds)
  depth-outline (object ms) = rw (members_depth-outline ms)

  items_depth-outline : (ds : Items) → tree.items_depth (items_outline ds) ≡ items_depth ds
  items_depth-outline no_items = refl
  items_depth-outline (item d ds) = ap₂ max (depth-outline d) (items_depth-outline ds)

  members_depth-outline : (ms : Members) → tree.members_depth (members_outline ms) ≡ members_depth ms
  members_depth-outline no_members = refl
  members_depth-outline (member k d ms) = ap₂ max (depth-outline d) (members_depth-outline ms)

-- ---- UTF-8

utf8-comma : (later : Bool) (s : List ℕ) → IsUtf8 s → IsUtf8 (comma_if later ++ s)
utf8-comma true s h = IsUtf8-append (44 ∷ []) s (IsUtf8-are_ascii (44 ∷ []) refl) h
utf8-comma false s h = h

mutual
  utf8 : (d : Data) → IsPlain d → IsUtf8 (compact_text d)
  utf8 null h = IsUtf8-are_ascii _ refl
  utf8 (boolean b) h = IsUtf8-boolean b
  utf8 (number (unsigned n)) h = IsUtf8-from_ascii _ (IsAscii-decimal n h)
  utf8 (number (negative z)) h = absurd h
  utf8 (number (float x)) h = absurd h
  utf8 (string s) h = IsUtf8-quoted s h
  utf8 (array ds) h = IsUtf8-append (91 ∷ []) _ (IsUtf8-are_ascii (91 ∷ []) refl) (utf8-items false ds h)
  utf8 (object ms) h = IsUtf8-append (123 ∷ []) _ (IsUtf8-are_ascii (123 ∷ []) refl) (utf8-members false ms h.0)

  utf8-items : (later : Bool) (ds : Items) → ArePlain ds → IsUtf8 (items_text later ds)
  utf8-items later no_items h = IsUtf8-are_ascii (93 ∷ []) refl
  utf8-items later (item d ds) h = utf8-comma later _ (IsUtf8-append (compact_text d) (items_text true ds) (utf8 d h.0) (utf8-items true ds h.1))

  utf8-members : (later : Bool) (ms : Members) → MembersArePlain ms → IsUtf8 (members_text later ms)
  utf8-members later no_members h = IsUtf8-are_ascii (125 ∷ []) refl
  utf8-members later (member k d ms) h =
      utf8-comma later _ (IsUtf8-append _ _ (IsUtf8-quoted k h.0)
      (IsUtf8-append (58 ∷ []) _ (IsUtf8-are_ascii (58 ∷ []) refl) (IsUtf8-append (compact_text d) (members_text true ms) (utf8 d h.1) (utf8-members true ms h.2))))

pub IsUtf8-line : (d : Data) → IsPlain d → IsUtf8 (compact_text d ++ 10 ∷ [])
IsUtf8-line d h = IsUtf8-append (compact_text d) (10 ∷ []) (utf8 d h) (IsUtf8-are_ascii (10 ∷ []) refl)

-- ---- reading

tokens-text : (d : Data) → IsPlain d → tokens (compact_text d ++ 10 ∷ []) ≡ json_tokens (outline d)
tokens-text d h =
    ap (λ s. tokens (s ++ 10 ∷ [])) (sym (print-outline d)) ∙ tokens-line (json_tokens (outline d)) (ArePrintable-json_tokens (outline d) (has_numbers d h))

pub read-line : (d : Data) → IsPlain d → depth d ≤ max_depth → read (compact_text d ++ 10 ∷ []) ≡ Some d
read-line d h shallow =
    ap (λ o. option_and_then of_json (option_and_then (λ p. json.if_last p.0 p.1) o))
    (ap (json.value max_depth) (tokens-text d h ∙ sym (append-nil _)) ∙ value-json_tokens (outline d) max_depth [] (omega (arith, depth-outline d)))
    ∙ of_json-outline d h
