-- Sets that are read by the names of their members, and the names of a set's members.
use Rattle.std.proofs.Common.{◌≡◌, ℕ, zero, suc, ◌+◌, ◌-◌, ◌^◌, ◌<◌, ◌≤◌, ◌==◌, Bool, true, false, cond, bit_or, List, [], ◌∷◌, ◌++◌, length, slice_get, Option, Some, None, option_map, option_and_then, is_some, IfSome, ◌⊎◌, inl, inr, bytes_eq, refl, sym, ◌∙◌, ap, subst, arith, add-one, ne_eqb}
use lib.Bits.{or_zero_r}
use Rattle.std.specs.Int.{bit_at}
use Rattle.std.specs.List.{list_all}
use Rattle.std.proofs.lemmas.Bool.{and_parts, eqb-true, eq-eqb, true≢false}
use Rattle.std.proofs.lemmas.Slice.Eq.{bytes_eq-Decides}
use Rattle.calculus_table.specs.Rel.{Has, IsWithin}
use Rattle.calculus_table.specs.Algebra.{Algebra}
use Rattle.calculus_table.specs.Composition.{full_of, union_below, if_has}
use Rattle.calculus_table.specs.Names.{place_of}
use Rattle.calculus_table.specs.Calculus.{AreDistinct}
use Rattle.calculus_table.proofs.Sets.{IsWithin-antisym, IsWithin-union, IsWithin-empty, Has-single}
use Rattle.calculus_table.proofs.Compositions.{InUnion, union_below-member, Has-union_below, if_has-member, Has-if_has, single-member, full-member, Has-full}
use Rattle.calculus_table.proofs.Singles.{single-within}
use Rattle.calculus_table.proofs.PlacesOfNames.{place_of-found, place_of-below}
use Rattle.qsr_lex.specs.Names.{is_name}
use Rattle.qsr_lex.proofs.Found.{IfSome-and_then}
use Rattle.qsr_lex.specs.Lexemes.{Lexeme, lexeme_with}
use Rattle.qsr_lex.specs.LineTokens.{names_until_close, names_at}
use Rattle.qsr_lex.specs.declared.tokens.TokenKind.TheVariants.{Word}
use Rattle.named_sets.specs.Named.{set_from, set_of, set_at, name_of, members_below}

-- ---- one name after another

-- a set and one member more, where both are known
abbrev pub with_member : Option ℕ → Option ℕ → Option ℕ
with_member set base = option_and_then (λ a. option_map (λ r. bit_or a (2 ^ r)) base) set

-- the names up to a closing bracket as further members of a set
abbrev pub with_members : List (List ℕ) → Option ℕ → Option (List (List ℕ) × List Lexeme) → Option (Option ℕ × List Lexeme)
with_members bases set found = option_map (λ f. (option_and_then (λ a. set_from bases a f.0) set, f.1)) found

set_from-member : (bases names : List (List ℕ)) (set base : Option ℕ) →
    option_and_then (λ a. option_and_then (λ r. set_from bases (bit_or a (2 ^ r)) names) base) set ≡ option_and_then (λ a. set_from bases a names) (with_member set base)
set_from-member bases names None base = refl
set_from-member bases names (Some a) None = refl
set_from-member bases names (Some a) (Some r) = refl

with_members-name : (bases : List (List ℕ)) (set : Option ℕ) (name : List ℕ) (found : Option (List (List ℕ) × List Lexeme)) →
    with_members bases set (option_map (λ f. (name ∷ f.0, f.1)) found) ≡ with_members bases (with_member set (place_of name bases)) found
with_members-name bases set name None = refl
with_members-name bases set name (Some f) = ap (λ s. Some (s, f.1)) (set_from-member bases f.0 set (place_of name bases))

pub with_members-word : (bases : List (List ℕ)) (set base now : Option ℕ) (word : List ℕ) (old new : List Lexeme) → old ≡ lexeme_with Word word ∷ new → is_name word ≡ true → base ≡ place_of word bases → now ≡ with_member set base →
    with_members bases now (names_until_close new) ≡ with_members bases set (names_until_close old)
with_members-word bases set base now word old new cut name place is =
    ap (λ s. with_members bases s (names_until_close new)) (is ∙ ap (with_member set) place)
    ∙ sym (ap (λ xs. with_members bases set (names_until_close xs)) cut
    ∙ ap (λ b. with_members bases set (cond b (option_map (λ f. (word ∷ f.0, f.1)) (names_until_close new)) None)) name
    ∙ with_members-name bases set word (names_until_close new))

pub set-within : (n set r : ℕ) → IsWithin set (2 ^ n - 1) → r < n → IsWithin (bit_or set (2 ^ r)) (2 ^ n - 1)
set-within n set r h below =
    let m : Algebra = record { size = n; identity = 0; converses = []; table = [] } in
    IsWithin-union set (2 ^ r) (2 ^ n - 1) h (single-within r (2 ^ n - 1) (Has-full m r below))

-- ---- words that are names

-- what a word's test says
pub named-parts : (b : Bool) (base found : Option ℕ) → Some base ≡ cond b (Some found) None → (b ≡ true) × (base ≡ found)
named-parts true base found h = let same : base ≡ found = cc in (refl, same)
named-parts false base found h = cc

there-parts : (b : Bool) (o : Option ℕ) → is_some (cond b (Some 0) (option_map suc o)) ≡ true → (b ≡ true) ⊎ (is_some o ≡ true)
there-parts true o h = inl refl
there-parts false (Some r) h = inr refl
there-parts false None h = cc

-- a word that stands among names is a name
pub is_name-among : (names : List (List ℕ)) (word : List ℕ) → list_all is_name names ≡ true → is_some (place_of word names) ≡ true → is_name word ≡ true
is_name-among [] word h k = cc
is_name-among (x ∷ xs) word h k =
    let parts = and_parts (is_name x) (list_all is_name xs) h in
    elim (there-parts (bytes_eq x word) (place_of word xs) k) [
      | inl here ↦ ap is_name (sym ((bytes_eq-Decides x word).0 here)) ∙ parts.0
      | inr later ↦ is_name-among xs word parts.1 later
    ]

-- ---- the names of a set's members

set_from-by : (bases : List (List ℕ)) (set : ℕ) (xs ys : List (List ℕ)) → ((s : ℕ) → set_from bases s (xs ++ ys) ≡ option_and_then (λ t. set_from bases t ys) (set_from bases s xs)) → (o : Option ℕ) →
    option_and_then (λ r. set_from bases (bit_or set (2 ^ r)) (xs ++ ys)) o ≡ option_and_then (λ t. set_from bases t ys) (option_and_then (λ r. set_from bases (bit_or set (2 ^ r)) xs) o)
set_from-by bases set xs ys h None = refl
set_from-by bases set xs ys h (Some r) = h (bit_or set (2 ^ r))

set_from-append : (bases : List (List ℕ)) (set : ℕ) (xs ys : List (List ℕ)) → set_from bases set (xs ++ ys) ≡ option_and_then (λ t. set_from bases t ys) (set_from bases set xs)
set_from-append bases set [] ys = refl
set_from-append bases set (x ∷ xs) ys = set_from-by bases set xs ys (λ s. set_from-append bases s xs ys) (place_of x bases)

union_below-has : (a n all : ℕ) (f : ℕ → ℕ) → all ≡ union_below n (λ r. if_has a r (f r)) → Has a n → bit_or all (f n) ≡ union_below (n + 1) (λ r. if_has a r (f r))
unfolding union_below
union_below-has a n all f e h = rw (add-one, e, eq-eqb (bit_at a n) 1 h) refl

union_below-has_not : (a n all : ℕ) (f : ℕ → ℕ) → all ≡ union_below n (λ r. if_has a r (f r)) → ¬ Has a n → all ≡ union_below (n + 1) (λ r. if_has a r (f r))
unfolding union_below
union_below-has_not a n all f e h = rw (add-one, e, ne_eqb (bit_at a n) 1 h) (sym (or_zero_r _))

-- the members of a below k, as a set
abbrev low : ℕ → ℕ → ℕ
low a k = union_below k (λ r. if_has a r (2 ^ r))

low-step : (bases : List (List ℕ)) (a r : ℕ) (w : List ℕ) (b : Bool) → (bit_at a r == 1) ≡ b → place_of w bases ≡ Some r → set_from bases (low a r) (cond b (w ∷ []) []) ≡ Some (low a (r + 1))
low-step bases a r w true is place = ap (option_and_then (λ q. Some (bit_or (low a r) (2 ^ q)))) place ∙ ap Some (union_below-has a r (low a r) (λ q. 2 ^ q) refl (eqb-true (bit_at a r) 1 is))
low-step bases a r w false is place = ap Some (union_below-has_not a r (low a r) (λ q. 2 ^ q) refl (λ h. true≢false (sym (eq-eqb (bit_at a r) 1 h) ∙ is)))

name_there : (names : List (List ℕ)) (k : ℕ) → k < length names → slice_get names k ≡ Some (name_of names k)
name_there [] k h = absurd (omega arith)
name_there (x ∷ xs) zero h = refl
name_there (x ∷ xs) (suc k) h = name_there xs k (omega arith)

set_from-members : (names : List (List ℕ)) (a k : ℕ) → AreDistinct names → k ≤ length names → set_from names 0 (members_below names a k) ≡ Some (low a k)
unfolding members_below union_below
set_from-members names a zero d h = refl
set_from-members names a (suc r) d h =
    let w = name_of names r in
    set_from-append names 0 (members_below names a r) (cond (bit_at a r == 1) (w ∷ []) [])
    ∙ ap (option_and_then (λ t. set_from names t (cond (bit_at a r == 1) (w ∷ []) []))) (set_from-members names a r d (omega arith))
    ∙ low-step names a r w (bit_at a r == 1) refl (place_of-found names w r d (name_there names r (omega arith)))
    ∙ ap (λ k. Some (low a k)) (let e : r + 1 ≡ suc r = omega arith in e)

low-all : (m : Algebra) (a : ℕ) → IsWithin a (full_of m) → low a m.size ≡ a
low-all m a w = IsWithin-antisym (low a m.size) a
    (record {
      each = λ t h.
          let u : InUnion m.size (λ r. if_has a r (2 ^ r)) t = union_below-member m.size (λ r. if_has a r (2 ^ r)) t h in
          let k = if_has-member a u.at (2 ^ u.at) t u.member in
          subst (Has a) (sym (single-member u.at t k.1)) k.0;
    })
    (record { each = λ t h. Has-union_below m.size (λ r. if_has a r (2 ^ r)) t t (full-member m t (w.each t h)) (Has-if_has a t (2 ^ t) t h (Has-single t)) })

-- the set of the names of its members
pub set_of-members : (names : List (List ℕ)) (m : Algebra) (a : ℕ) → AreDistinct names → length names ≡ m.size → IsWithin a (full_of m) → set_of names (members_below names a m.size) ≡ Some a
set_of-members names m a d each w = set_from-members names a m.size d (omega arith) ∙ ap Some (low-all m a w)

-- ---- a set that is read is one of the base relations that have names

pub set_from-within : (bases : List (List ℕ)) (set : ℕ) (names : List (List ℕ)) → IsWithin set (2 ^ length bases - 1) →
    IfSome (set_from bases set names) (λ a. IsWithin a (2 ^ length bases - 1))
set_from-within bases set [] h = h
set_from-within bases set (name ∷ names) h =
    IfSome-and_then (λ r. r < length bases) (λ a. IsWithin a (2 ^ length bases - 1)) (λ r. set_from bases (bit_or set (2 ^ r)) names) (place_of name bases) (place_of-below bases name)
    (λ r below. set_from-within bases (bit_or set (2 ^ r)) names (set-within (length bases) set r h below))

IfSome-set_at : (bases : List (List ℕ)) (found : Option (List (List ℕ) × List Lexeme)) →
    IfSome {T = Option ℕ × List Lexeme} (option_map (λ f. (set_of bases f.0, f.1)) found) (λ s. IfSome s.0 (λ a. IsWithin a (2 ^ length bases - 1)))
IfSome-set_at bases None = tt
IfSome-set_at bases (Some f) = set_from-within bases 0 f.0 (IsWithin-empty (2 ^ length bases - 1))

pub set_at-within : (bases : List (List ℕ)) (tokens : List Lexeme) → IfSome (set_at bases tokens) (λ s. IfSome s.0 (λ a. IsWithin a (2 ^ length bases - 1)))
set_at-within bases tokens = IfSome-set_at bases (names_at tokens)
