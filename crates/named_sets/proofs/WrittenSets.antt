-- The text of a set as its tokens with one space between.
use Rattle.std.proofs.Common.{◌≡◌, ℕ, zero, suc, ◌<◌, ◌≤◌, ◌==◌, ◌&&◌, Bool, true, false, cond, List, [], ◌∷◌, ◌++◌, length, refl, sym, ◌∙◌, ap, arith, append-nil, codes}
use Rattle.std.specs.Int.{bit_at}
use Rattle.std.specs.List.{list_all}
use Rattle.std.proofs.lemmas.Bool.{and_parts}
use Rattle.std.proofs.lemmas.List.Folds.{list_all-append}
use Rattle.qsr_lex.specs.Names.{is_name}
use Rattle.qsr_lex.specs.Printed.{is_token_text, spaced, text_below}
use Rattle.qsr_lex.proofs.WrittenTexts.{spaces, spaces-append, spaced-more, spaced-close}
use Rattle.qsr_lex.proofs.PrintedNames.{IsPrintedName-from_test}
use Rattle.calculus_table.specs.Calculus.{NamedAlgebra}
use Rattle.named_sets.specs.Named.{name_of, members_below}
use Rattle.named_sets.specs.Written.{member_text, members, set_text, set_tokens, WrittenSetIsRead}
use Rattle.named_sets.proofs.ReadSets.{set_of-members}

-- ---- the text of a set

if_member : (b : Bool) (w : List ℕ) → cond b (w ++ codes " ") [] ≡ spaces (cond b (w ∷ []) [])
if_member true w = sym (append-nil (w ++ codes " "))
if_member false w = refl

text_below-members : (names : List (List ℕ)) (a k : ℕ) → text_below k (member_text names a) ≡ spaces (members_below names a k)
unfolding text_below members_below
text_below-members names a zero = refl
text_below-members names a (suc r) =
    ap (λ x. x ++ member_text names a r) (text_below-members names a r)
    ∙ ap (λ x. spaces (members_below names a r) ++ x) (if_member (bit_at a r == 1) (name_of names r))
    ∙ sym (spaces-append (members_below names a r) (cond (bit_at a r == 1) (name_of names r ∷ []) []))

pub set_text-spaced : (c : NamedAlgebra) (a : ℕ) → set_text c a ≡ spaced (set_tokens c a)
set_text-spaced c a =
    ap (λ x. codes "( " ++ x ++ codes ")") (text_below-members c.names a c.algebra.size) ∙ ap (λ x. codes "( " ++ x) (sym (spaced-close (members c a)))
    ∙ sym (spaced-more (codes "(") (members c a) (codes ")"))

-- ---- the names of the members are names

pub members-names : (names : List (List ℕ)) (a k : ℕ) → list_all is_name names ≡ true → k ≤ length names → list_all is_name (members_below names a k) ≡ true
unfolding members_below
members-names names a zero h below = refl
members-names names a (suc r) h below =
    list_all-append is_name (members_below names a r) (cond (bit_at a r == 1) (name_of names r ∷ []) [])
    ∙ both (list_all is_name (members_below names a r)) (list_all is_name (cond (bit_at a r == 1) (name_of names r ∷ []) [])) (members-names names a r h (omega arith)) (if_name (bit_at a r == 1) (name_of names r) (name_of-name names r h (omega arith)))
  where
    both : (a b : Bool) → a ≡ true → b ≡ true → (a && b) ≡ true
    both a b p q = ap (λ x. x && b) p ∙ q

    if_name : (b : Bool) (w : List ℕ) → is_name w ≡ true → list_all is_name (cond b (w ∷ []) []) ≡ true
    if_name true w h = ap (λ x. x && true) h
    if_name false w h = refl

    name_of-name : (names : List (List ℕ)) (k : ℕ) → list_all is_name names ≡ true → k < length names → is_name (name_of names k) ≡ true
    name_of-name [] k h below = absurd (omega arith)
    name_of-name (x ∷ xs) zero h below = (and_parts (is_name x) (list_all is_name xs) h).0
    name_of-name (x ∷ xs) (suc k) h below = name_of-name xs k (and_parts (is_name x) (list_all is_name xs) h).1 (omega arith)

-- names in front of a closing bracket are tokens
pub closed-tokens : (names : List (List ℕ)) → list_all is_name names ≡ true → list_all is_token_text (names ++ (41 ∷ []) ∷ []) ≡ true
closed-tokens [] h = refl
closed-tokens (w ∷ ws) h =
    let parts = and_parts (is_name w) (list_all is_name ws) h in
    ap (λ b. b && list_all is_token_text (ws ++ (41 ∷ []) ∷ [])) (IsPrintedName-from_test w parts.0).token ∙ closed-tokens ws parts.1

-- ---- the law

pub set-written : WrittenSetIsRead
set-written c a h within = record {
  text = set_text-spaced c a;
  set = set_of-members c.names c.algebra a h.distinct h.one_each within;
}
