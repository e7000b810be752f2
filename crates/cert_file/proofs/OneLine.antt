-- The text of a certificate has no line end but the last byte.
use Rattle.std.proofs.Common.{◌≡◌, ℕ, ◌+◌, ◌/◌, ◌%◌, ◌^◌, ◌<◌, ◌≤◌, ◌==◌, List, [], ◌∷◌, ◌++◌, Bool, true, false, cond, nat_lt, decimal, ◌⊎◌, refl, ◌∙◌, inl, inr, arith}
use Rattle.std.specs.Char.{digit_char}
use Rattle.std.specs.Str.Parse.{AllDigits}
use Rattle.std.proofs.lemmas.Bool.{eqb-true, ne_eqb, or_cases, ltb-false}
use Rattle.std.proofs.lemmas.List.Folds.{list_all-append}
use Rattle.std.proofs.lemmas.Fmt.{decimal_is_IsNumeral}
use Rattle.std.proofs.lemmas.Str.Parse.{digit_from_value}
use Rattle.json.specs.Print.{escape_letter, escape_byte, escape, quoted}
use Rattle.serde_json.specs.Data.{unsigned, negative, float, Data, null, boolean, number, string, array, object, Items, no_items, item, Members, no_members, member}
use Rattle.serde_json.specs.Written.{comma_if, compact_text, items_text, members_text}
use Rattle.cert_file.specs.Laws.{is_no_line_end, HasNoLineEnd}
use Rattle.cert_file.proofs.Texts.{IsPlain, ArePlain, MembersArePlain}

append : (xs ys : List ℕ) → HasNoLineEnd xs → HasNoLineEnd ys → HasNoLineEnd (xs ++ ys)
append xs ys h k = list_all-append is_no_line_end xs ys ∙ rw (h, k) refl

above : (n : ℕ) → 11 ≤ n → is_no_line_end n ≡ true
above n h = rw (ne_eqb n 10 (λ e. omega arith)) refl

-- ---- texts in quotes

letter_of : (q a b c d e : Bool) (x : ℕ) → (q ≡ true → is_no_line_end x ≡ true) →
    is_no_line_end (cond q x (cond a 98 (cond b 102 (cond c 110 (cond d 114 (cond e 116 0)))))) ≡ true
letter_of true a b c d e x h = h refl
letter_of false true b c d e x h = refl
letter_of false false true c d e x h = refl
letter_of false false false true d e x h = refl
letter_of false false false false true e x h = refl
letter_of false false false false false true x h = refl
letter_of false false false false false false x h = refl

quote_or_backslash : (x : ℕ) → ((x == 34) ≡ true) ⊎ ((x == 92) ≡ true) → is_no_line_end x ≡ true
quote_or_backslash x (inl h) = rw (eqb-true x 34 h) refl
quote_or_backslash x (inr h) = rw (eqb-true x 92 h) refl

letter : (x : ℕ) → is_no_line_end (escape_letter x) ≡ true
letter x = letter_of _ _ _ _ _ _ x (λ h. quote_or_backslash x (or_cases (x == 34) (x == 92) h))

either : (b : Bool) (m n : ℕ) → is_no_line_end m ≡ true → is_no_line_end n ≡ true → is_no_line_end (cond b m n) ≡ true
either true m n h k = h
either false m n h k = k

digit : (d : ℕ) → is_no_line_end (digit_char d) ≡ true
digit d = either (nat_lt d 10) (48 + d) (87 + d) (above (48 + d) (omega arith)) (above (87 + d) (omega arith))

byte_of : (p q : Bool) (x : ℕ) → nat_lt x 32 ≡ q →
    HasNoLineEnd (cond p (92 ∷ escape_letter x ∷ []) (cond q (92 ∷ 117 ∷ 48 ∷ 48 ∷ digit_char (x / 16) ∷ digit_char (x % 16) ∷ []) (x ∷ [])))
byte_of true q x e = rw (letter x) refl
byte_of false true x e = rw (digit (x / 16), digit (x % 16)) refl
byte_of false false x e = rw (above x (omega (arith, ltb-false x 32 e))) refl

byte : (x : ℕ) → HasNoLineEnd (escape_byte x)
unfolding escape_byte
byte x = byte_of (nat_lt 0 (escape_letter x)) (nat_lt x 32) x refl

escaped : (s : List ℕ) → HasNoLineEnd (escape s)
escaped [] = refl
escaped (x ∷ xs) = append (escape_byte x) (escape xs) (byte x) (escaped xs)

in_quotes : (s : List ℕ) → HasNoLineEnd (quoted s)
in_quotes s = append (escape s) (34 ∷ []) (escaped s) refl

-- ---- numbers

digits : (ds : List ℕ) → AllDigits 10 ds → HasNoLineEnd ds
digits [] h = refl
digits (b ∷ bs) h = rw (above b (omega (arith, digit_from_value b h.0))) (digits bs h.1)

in_decimal : (n : ℕ) → n < 2 ^ 64 → HasNoLineEnd (decimal n)
in_decimal n h = digits (decimal n) (decimal_is_IsNumeral n (omega arith)).0.1

-- ---- values

after_comma : (later : Bool) (s : List ℕ) → HasNoLineEnd s → HasNoLineEnd (comma_if later ++ s)
after_comma true s h = h
after_comma false s h = h

mutual
  pub HasNoLineEnd-compact_text : (d : Data) → IsPlain d → HasNoLineEnd (compact_text d)
  HasNoLineEnd-compact_text null h = refl
  HasNoLineEnd-compact_text (boolean true) h = refl
  HasNoLineEnd-compact_text (boolean false) h = refl
  HasNoLineEnd-compact_text (number (unsigned n)) h = in_decimal n h
  HasNoLineEnd-compact_text (number (negative z)) h = absurd h
  HasNoLineEnd-compact_text (number (float x)) h = absurd h
  HasNoLineEnd-compact_text (string s) h = in_quotes s
  HasNoLineEnd-compact_text (array ds) h = in_items false ds h
  HasNoLineEnd-compact_text (object ms) h = in_members false ms h.0

  in_items : (later : Bool) (ds : Items) → ArePlain ds → HasNoLineEnd (items_text later ds)
  in_items later no_items h = refl
  in_items later (item d ds) h =
      after_comma later _ (append (compact_text d) (items_text true ds) (HasNoLineEnd-compact_text d h.0) (in_items true ds h.1))

  in_members : (later : Bool) (ms : Members) → MembersArePlain ms → HasNoLineEnd (members_text later ms)
  in_members later no_members h = refl
  in_members later (member k d ms) h =
      after_comma later _ (append (quoted k) (58 ∷ (compact_text d ++ members_text true ms)) (in_quotes k)
      (append (compact_text d) (members_text true ms) (HasNoLineEnd-compact_text d h.1) (in_members true ms h.2)))
