-- How the names in brackets come off the front of a line.
use Rattle.std.proofs.Common.{◌≡◌, ℕ, Bool, true, false, cond, List, [], ◌∷◌, ◌++◌, Option, Some, None, option_map, refl, sym, ap, ◌∙◌, append_assoc, length, length-append, arith}
use Rattle.qsr_lex.specs.Lexemes.{Lexeme}
use Rattle.qsr_lex.specs.LineTokens.{after_kind, name_at, names_at, names_until_close, is_same_kind, is_name_token}
use Rattle.qsr_lex.specs.ManyNames.{AreClosedNames, AreMoreNames}
use Rattle.qsr_lex.specs.declared.tokens.TokenKind.TheVariants.{Close}

-- these names in front of those that are found
abbrev pub after_names : List (List ℕ) → Option (List (List ℕ) × List Lexeme) → Option (List (List ℕ) × List Lexeme)
after_names front found = option_map (λ r. (front ++ r.0, r.1)) found

-- a word, and what stands after it
abbrev pub read_word : List ℕ → List Lexeme → Option (List ℕ × List Lexeme)
read_word text xs = Some (text, xs)

some_parts : (p q : List ℕ × List Lexeme) → Some p ≡ Some q → (p.0 ≡ q.0) × (p.1 ≡ q.1)
some_parts p q h = let same : p ≡ q = cc in (ap (λ (r : List ℕ × List Lexeme). r.0) same, ap (λ (r : List ℕ × List Lexeme). r.1) same)

-- one name more
at_name : (c d : Bool) (text name : List ℕ) (xs new : List Lexeme) (closed : Option (List (List ℕ) × List Lexeme))
    → cond c (Some xs) None ≡ None → cond d (read_word text xs) None ≡ Some (name, new)
    → cond c closed (cond d (option_map (λ found. (text ∷ found.0, found.1)) (names_until_close xs)) None) ≡ option_map (λ found. (name ∷ found.0, found.1)) (names_until_close new)
at_name true d text name xs new closed h k = cc
at_name false true text name xs new closed h k =
    let same = some_parts (text, xs) (name, new) k in
    ap (λ t. option_map (λ found. (t ∷ found.0, found.1)) (names_until_close xs)) same.0 ∙ ap (λ ys. option_map (λ found. (name ∷ found.0, found.1)) (names_until_close ys)) same.1
at_name false false text name xs new closed h k = cc

pub names_until_close-name : (xs new : List Lexeme) (name : List ℕ) → after_kind Close xs ≡ None → name_at xs ≡ Some (name, new)
    → names_until_close xs ≡ option_map (λ found. (name ∷ found.0, found.1)) (names_until_close new)
names_until_close-name [] new name h k = cc
names_until_close-name (x ∷ xs) new name h k = at_name (is_same_kind x.kind Close) (is_name_token x) x.text name xs new (Some ([], xs)) h k

-- the names so far and the next one, and those after it
push_name : (front : List (List ℕ)) (name : List ℕ) (found : Option (List (List ℕ) × List Lexeme))
    → after_names front (option_map (λ r. (name ∷ r.0, r.1)) found) ≡ after_names (front ++ name ∷ []) found
push_name front name None = refl
push_name front name (Some r) = ap (λ names. Some (names, r.1)) (sym (append_assoc front (name ∷ []) r.0))

pub names-step : (front now : List (List ℕ)) (name : List ℕ) (xs new : List Lexeme) (all : Option (List (List ℕ) × List Lexeme))
    → after_names front (names_until_close xs) ≡ all → after_kind Close xs ≡ None → name_at xs ≡ Some (name, new)
    → now ≡ front ++ name ∷ [] → after_names now (names_until_close new) ≡ all
names-step front now name xs new all told open_set named pushed =
    ap (λ names. after_names names (names_until_close new)) pushed
    ∙ sym (push_name front name (names_until_close new))
    ∙ ap (after_names front) (sym (names_until_close-name xs new name open_set named))
    ∙ told

-- so many names, one more, and those after it
pub names-many : (most : ℕ) (front : List (List ℕ)) (name : List ℕ) (old new after : List Lexeme) → length front ≡ most → after_names (front ++ name ∷ []) (names_until_close new) ≡ names_at old
    → AreClosedNames new after → AreMoreNames most old after
names-many most front name old new after full told rest = record {
  names = (front ++ name ∷ []) ++ rest.names;
  read = sym told ∙ ap (after_names (front ++ name ∷ [])) rest.read;
  more = omega (arith, length-append (front ++ name ∷ []) rest.names, length-append front (name ∷ []));
}
