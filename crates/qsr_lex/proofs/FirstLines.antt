-- The first line of a text, from the bytes in front of its end or its comment.
use Rattle.std.proofs.Common.{◌≡◌, ℕ, suc, ◌+◌, Bool, true, false, ◌&&◌, ◌||◌, cond, List, [], ◌∷◌, take, drop, Option, Some, None, refl, sym, ap, ◌∙◌, subst, arith}
use Rattle.std.specs.List.{list_all, prefix_len}
use Rattle.std.proofs.lemmas.Bool.Decides.{nat_tests}
use Rattle.qsr_lex.specs.Bytes.{is_lf, is_cr, is_hash, is_allowed, is_plain}
use Rattle.qsr_lex.specs.TextLines.{first_line_len, first_line, after_first_line, starts_with_lf, starts_with_end, after_end, outside, is_clean, IsFirstLine}

pub plain_byte : (b : ℕ) → is_plain b ≡ true → (is_lf b ≡ false) × (is_hash b ≡ false) × (is_cr b ≡ false) × (is_allowed b ≡ true)
plain_byte b h = (grind (arith, nat_tests), grind (arith, nat_tests), grind (arith, nat_tests), grind (arith, nat_tests))

-- ---- one byte more in front of a line

further : (n : ℕ) → 1 + n ≡ suc n
further n = omega arith

first_line-lf : (b : ℕ) (bs : List ℕ) → is_lf b ≡ true → first_line (b ∷ bs) ≡ b ∷ []
first_line-lf b bs h = ap (λ c. take (cond c 1 (1 + first_line_len bs)) (b ∷ bs)) h

first_line-on : (b : ℕ) (bs : List ℕ) → is_lf b ≡ false → first_line (b ∷ bs) ≡ b ∷ first_line bs
first_line-on b bs h = ap (λ c. take (cond c 1 (1 + first_line_len bs)) (b ∷ bs)) h ∙ ap (λ k. take k (b ∷ bs)) (further (first_line_len bs))

after_first_line-lf : (b : ℕ) (bs : List ℕ) → is_lf b ≡ true → after_first_line (b ∷ bs) ≡ bs
after_first_line-lf b bs h = ap (λ c. drop (cond c 1 (1 + first_line_len bs)) (b ∷ bs)) h

after_first_line-on : (b : ℕ) (bs : List ℕ) → is_lf b ≡ false → after_first_line (b ∷ bs) ≡ after_first_line bs
after_first_line-on b bs h = ap (λ c. drop (cond c 1 (1 + first_line_len bs)) (b ∷ bs)) h ∙ ap (λ k. drop k (b ∷ bs)) (further (first_line_len bs))

pub outside-end : (b : ℕ) (bs : List ℕ) → starts_with_end (b ∷ bs) ≡ true → outside (b ∷ bs) ≡ []
outside-end b bs h = ap (λ c. cond c [] (b ∷ outside bs)) h

pub outside-on : (b : ℕ) (bs : List ℕ) → starts_with_end (b ∷ bs) ≡ false → outside (b ∷ bs) ≡ b ∷ outside bs
outside-on b bs h = ap (λ c. cond c [] (b ∷ outside bs)) h

pub no_end : (b : ℕ) (bs : List ℕ) → is_plain b ≡ true → starts_with_end (b ∷ bs) ≡ false
no_end b bs h =
    let facts = plain_byte b h in
    ap (λ c. c || is_hash b || (is_cr b && starts_with_lf bs)) facts.0
    ∙ ap (λ c. c || (is_cr b && starts_with_lf bs)) facts.1
    ∙ ap (λ c. c && starts_with_lf bs) facts.2

-- ---- the line of a text of which k bytes are plain, and after which these follow, if any may

abbrev pub IsCut : List ℕ → ℕ → Option (List ℕ) → Type 0
IsCut text k None = is_clean (first_line text) ≡ false
IsCut text k (Some after) = IsFirstLine text (take k text) after

is_clean-plain : (b : ℕ) (bs : List ℕ) (c : Bool) → is_plain b ≡ true → is_clean (first_line bs) ≡ c → is_clean (first_line (b ∷ bs)) ≡ c
is_clean-plain b bs c h is =
    let facts = plain_byte b h in
    ap is_clean (first_line-on b bs facts.0)
    ∙ ap (list_all is_allowed) (outside-on b (first_line bs) (no_end b (first_line bs) h))
    ∙ ap (λ a. a && is_clean (first_line bs)) facts.3 ∙ is

cut-plain : (b : ℕ) (bs : List ℕ) (k : ℕ) (o : Option (List ℕ)) → is_plain b ≡ true → IsCut bs k o → IsCut (b ∷ bs) (suc k) o
cut-plain b bs k None h is = is_clean-plain b bs false h is
cut-plain b bs k (Some after) h is =
    let facts = plain_byte b h in
    record {
      clean = is_clean-plain b bs true h is.clean;
      is_part = ap (λ xs. b ∷ xs) is.is_part ∙ sym (outside-on b (first_line bs) (no_end b (first_line bs) h)) ∙ ap outside (sym (first_line-on b bs facts.0));
      is_after = is.is_after ∙ sym (after_first_line-on b bs facts.0);
    }

-- a line that ends or has its comment here
cut-end : (b : ℕ) (bs after xs : List ℕ) → first_line (b ∷ bs) ≡ b ∷ xs → starts_with_end (b ∷ xs) ≡ true → after ≡ after_first_line (b ∷ bs) → IsFirstLine (b ∷ bs) [] after
cut-end b bs after xs line ends is = record {
  clean = ap is_clean line ∙ ap (list_all is_allowed) (outside-end b xs ends);
  is_part = sym (ap outside line ∙ outside-end b xs ends);
  is_after = is;
}

or_l : (x y : Bool) → x ≡ true → (x || y) ≡ true
or_l x y h = ap (λ c. c || y) h

hash_end : (b : ℕ) (bs : List ℕ) → is_hash b ≡ true → starts_with_end (b ∷ bs) ≡ true
hash_end b bs h = grind (arith, nat_tests)

cr_after : (b : ℕ) (bs : List ℕ) → is_lf b ≡ false → is_cr b ≡ true → starts_with_lf bs ≡ true → IsFirstLine (b ∷ bs) [] (drop 1 bs)
cr_after b [] no_lf cr lf = cc
cr_after b (c ∷ cs) no_lf cr lf =
    cut-end b (c ∷ cs) cs (c ∷ []) (first_line-on b (c ∷ cs) no_lf ∙ ap (λ xs. b ∷ xs) (first_line-lf c cs lf))
    (ap (λ x. is_lf b || is_hash b || (x && is_lf c)) cr ∙ ap (λ x. is_lf b || is_hash b || x) lf ∙ last (is_lf b) (is_hash b))
    (sym (after_first_line-on b (c ∷ cs) no_lf ∙ after_first_line-lf c cs lf))
  where
    last : (x y : Bool) → (x || y || true) ≡ true
    last true y = refl
    last false true = refl
    last false false = refl

same_lf : (bs : List ℕ) → starts_with_lf (first_line bs) ≡ starts_with_lf bs
same_lf [] = refl
same_lf (b ∷ bs) = by (is_lf b) refl
  where
    by : (c : Bool) → is_lf b ≡ c → starts_with_lf (first_line (b ∷ bs)) ≡ is_lf b
    by true h = ap starts_with_lf (first_line-lf b bs h)
    by false h = ap starts_with_lf (first_line-on b bs h)

not_allowed : (b : ℕ) → is_plain b ≡ false → is_hash b ≡ false → is_allowed b ≡ false
not_allowed b h k = grind (arith, nat_tests)

cut-bad : (b : ℕ) (bs : List ℕ) → is_plain b ≡ false → is_lf b ≡ false → is_hash b ≡ false → (is_cr b && starts_with_lf bs) ≡ false → is_clean (first_line (b ∷ bs)) ≡ false
cut-bad b bs plain lf hash cr =
    let ends : starts_with_end (b ∷ first_line bs) ≡ false =
    ap (λ c. c || is_hash b || (is_cr b && starts_with_lf (first_line bs))) lf ∙ ap (λ c. c || (is_cr b && starts_with_lf (first_line bs))) hash ∙ ap (λ c. is_cr b && c) (same_lf bs) ∙ cr in
    ap is_clean (first_line-on b bs lf)
    ∙ ap (list_all is_allowed) (outside-on b (first_line bs) ends)
    ∙ ap (λ a. a && is_clean (first_line bs)) (not_allowed b plain hash)

cut-here : (b : ℕ) (bs : List ℕ) (l h c : Bool) → is_plain b ≡ false → is_lf b ≡ l → is_hash b ≡ h → (is_cr b && starts_with_lf bs) ≡ c
    → IsCut (b ∷ bs) 0 (cond l (Some bs) (cond h (Some (after_first_line (b ∷ bs))) (cond c (Some (drop 1 bs)) None)))
cut-here b bs true h c plain lf hash cr =
    cut-end b bs bs [] (first_line-lf b bs lf) (or_l (is_lf b || is_hash b) (is_cr b && false) (or_l (is_lf b) (is_hash b) lf)) (sym (after_first_line-lf b bs lf))
cut-here b bs false true c plain lf hash cr =
    cut-end b bs (after_first_line (b ∷ bs)) (first_line bs) (first_line-on b bs lf) (hash_end b (first_line bs) hash) refl
cut-here b bs false false true plain lf hash cr = cr_after b bs lf (both (is_cr b) (starts_with_lf bs) cr).0 (both (is_cr b) (starts_with_lf bs) cr).1
  where
    both : (x y : Bool) → (x && y) ≡ true → (x ≡ true) × (y ≡ true)
    both true y e = (refl, e)
    both false y e = cc
cut-here b bs false false false plain lf hash cr = cut-bad b bs plain lf hash cr

cut-byte : (b : ℕ) (bs : List ℕ) (p : Bool) → is_plain b ≡ p → IsCut bs (prefix_len is_plain bs) (after_end (drop (prefix_len is_plain bs) bs))
    → IsCut (b ∷ bs) (cond p (1 + prefix_len is_plain bs) 0) (after_end (drop (cond p (1 + prefix_len is_plain bs) 0) (b ∷ bs)))
cut-byte b bs true plain is =
    let k = prefix_len is_plain bs in
    subst (λ n. IsCut (b ∷ bs) n (after_end (drop n (b ∷ bs)))) (sym (further k)) (cut-plain b bs k (after_end (drop k bs)) plain is)
cut-byte b bs false plain is = cut-here b bs (is_lf b) (is_hash b) (is_cr b && starts_with_lf bs) plain refl refl refl

pub cut : (text : List ℕ) → IsCut text (prefix_len is_plain text) (after_end (drop (prefix_len is_plain text) text))
cut [] = record { clean = refl; is_part = refl; is_after = refl }
cut (b ∷ bs) = cut-byte b bs (is_plain b) refl (cut bs)
