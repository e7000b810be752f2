-- The lines of a polygon file, one after another.
use Rattle.std.proofs.Common.{◌≡◌, ℕ, zero, suc, ◌+◌, ◌<◌, ◌≤◌, Bool, true, false, cond, ◌||◌, nat_le, List, [], ◌∷◌, ◌++◌, length, map, take, slice_get, Option, Some, None, Ok, Err, refl, sym, ap, subst, ◌∙◌, arith, inl, inr, true≢false}
use Rattle.std.specs.Prelude.{bytes_eq}
use Rattle.std.specs.Option.{ok_or}
use Rattle.std.proofs.lemmas.Bool.{cases_lt}
use Rattle.std.proofs.lemmas.Bool.Decides.{nat_tests}
use Rattle.std.proofs.lemmas.List.{length_push, length-map, map-append, length-append}
use Rattle.std.proofs.lemmas.Option.{same_Some}
use Rattle.std.proofs.lemmas.Slice.Eq.{bytes_eq-Decides}
use Rattle.calculus_table.specs.Calculus.{AreDistinct}
use Rattle.qsr_lex.specs.Bytes.{is_lf, is_blank}
use Rattle.qsr_lex.specs.Lexemes.{Lexeme, lexeme_here, lexemes_after, lexemes, tail_len, kind_of}
use Rattle.qsr_lex.specs.TextLines.{add_byte, text_lines, outside, starts_with_end, is_clean}
use Rattle.qsr_lex.specs.TokenLines.{TokenLine, token_line, add_line}
use Rattle.line_files.specs.FileText.{file_text, file_text_from, file_with, add_file_line}
use Rattle.line_files.specs.Steps.{◌>>=◌}
use Rattle.line_files.specs.declared.lines.TextEnd.{TextEnd}
use Rattle.line_files.specs.declared.lines.TextEnd.TheVariants.{BadLine}
use Rattle.geo_facts.specs.LineForm.{PolygonForm, polygon_form}
use Rattle.geo_facts.specs.PolygonFile.{NamedRing, named_ring, names_of, has_name, is_closed, said_by_form, said_by_line, IsLineOf, IsLineFault, HavePolygons, HaveFault}
use Rattle.geo_facts.specs.declared.TheConstants.{MAX_POLYGONS}
use Rattle.geo_facts.specs.declared.polygon.Polygon.{Polygon}
use Rattle.geo_facts.specs.declared.fault.GeoFault.{GeoFault}
use Rattle.geo_facts.specs.declared.fault.GeoFault.TheVariants.{Syntax, Hole, ManyPolygons, NameTwice, Open}

-- ---- no line has more tokens than the text has bytes

abbrev pub AreWithin : ℕ → List TokenLine → Type 0
AreWithin n [] = Unit {0}
AreWithin n (l ∷ ls) = (length l.tokens ≤ n) × AreWithin n ls

abbrev AreShort : ℕ → List (List ℕ) → Type 0
AreShort n [] = Unit {0}
AreShort n (l ∷ ls) = (length l ≤ n) × AreShort n ls

AreShort-more : (n : ℕ) (ls : List (List ℕ)) → AreShort n ls → AreShort (suc n) ls
AreShort-more n [] h = tt
AreShort-more n (l ∷ ls) h = (omega (arith, h.0), AreShort-more n ls h.1)

add_byte-short : (b n : ℕ) (ls : List (List ℕ)) → AreShort n ls → AreShort (suc n) (add_byte b ls)
add_byte-short b n [] h = (omega arith, tt)
add_byte-short b n (l ∷ ls) h = by (is_lf b)
  where
    by : (c : Bool) → AreShort (suc n) (cond c ((b ∷ []) ∷ l ∷ ls) ((b ∷ l) ∷ ls))
    by true = (omega arith, (omega (arith, h.0), AreShort-more n ls h.1))
    by false = (omega (arith, h.0), AreShort-more n ls h.1)

text_lines-short : (bytes : List ℕ) → AreShort (length bytes) (text_lines bytes)
text_lines-short [] = tt
text_lines-short (b ∷ bs) = add_byte-short b (length bs) (text_lines bs) (text_lines-short bs)

outside-short : (l : List ℕ) → length (outside l) ≤ length l
outside-short [] = omega arith
outside-short (b ∷ bs) = by (starts_with_end (b ∷ bs)) (outside-short bs)
  where
    by : (c : Bool) → length (outside bs) ≤ length bs → length (cond c [] (b ∷ outside bs)) ≤ length (b ∷ bs)
    by true h = omega arith
    by false h = omega (arith, h)

lexeme_here-one : (b : ℕ) (bs : List ℕ) → length (lexeme_here (b ∷ bs)) ≤ 1
lexeme_here-one b bs = by (is_blank b)
  where
    here : Lexeme
    here = record { kind = kind_of (b ∷ bs); text = b ∷ take (tail_len (b ∷ bs)) bs }

    by : (c : Bool) → length (cond c [] (here ∷ [])) ≤ 1
    by true = omega arith
    by false = omega arith

lexemes_after-short : (skip : ℕ) (bs : List ℕ) → length (lexemes_after skip bs) ≤ length bs
lexemes_after-short skip [] = omega arith
lexemes_after-short zero (b ∷ bs) =
    omega (
      arith,
      length-append (lexeme_here (b ∷ bs)) (lexemes_after (tail_len (b ∷ bs)) bs),
      lexeme_here-one b bs,
      lexemes_after-short (tail_len (b ∷ bs)) bs,
    )
lexemes_after-short (suc skip) (b ∷ bs) = omega (arith, lexemes_after-short skip bs)

add_line-within : (n number : ℕ) (tokens : List Lexeme) (ls : List TokenLine) → length tokens ≤ n → AreWithin n ls → AreWithin n (add_line number tokens ls)
add_line-within n number [] ls h k = k
add_line-within n number (x ∷ xs) ls h k = (h, k)

file_text_from-within : (n number : ℕ) (ls : List (List ℕ)) → AreShort n ls → AreWithin n (file_text_from number ls).lines
file_text_from-within n number [] h = tt
file_text_from-within n number (l ∷ ls) h = by (is_clean l) (file_text_from-within n (number + 1) ls h.1)
  where
    by : (c : Bool) → AreWithin n (file_text_from (number + 1) ls).lines →
        AreWithin n (cond c (add_file_line (number + 1) (lexemes (outside l)) (file_text_from (number + 1) ls)) (file_with [] (BadLine (number + 1)))).lines
    by true k =
        add_line-within n (number + 1) (lexemes (outside l)) (file_text_from (number + 1) ls).lines
        (omega (arith, lexemes_after-short 0 (outside l), outside-short l, h.0)) k
    by false k = tt

AreWithin-more : (m n : ℕ) (ls : List TokenLine) → m ≤ n → AreWithin m ls → AreWithin n ls
AreWithin-more m n [] h k = tt
AreWithin-more m n (l ∷ ls) h k = (omega (arith, k.0), AreWithin-more m n ls h k.1)

pub file_text-within : (n : ℕ) (bytes : List ℕ) → length bytes ≤ n → AreWithin n (file_text bytes).lines
file_text-within n bytes h =
    AreWithin-more (length bytes) n (file_text bytes).lines h (file_text_from-within (length bytes) 0 (text_lines bytes) (text_lines-short bytes))

-- ---- names that differ

name_at-front : (xs ys : List (List ℕ)) (i : ℕ) → i < length xs → slice_get (xs ++ ys) i ≡ slice_get xs i
name_at-front [] ys i h = absurd (omega arith)
name_at-front (x ∷ xs) ys zero h = refl
name_at-front (x ∷ xs) ys (suc i) h = name_at-front xs ys i (omega arith)

name_at-last : (xs : List (List ℕ)) (y : List ℕ) → slice_get (xs ++ y ∷ []) (length xs) ≡ Some y
name_at-last [] y = refl
name_at-last (x ∷ xs) y = name_at-last xs y

stands-has_name : (name : List ℕ) (names : List (List ℕ)) (k : ℕ) → slice_get names k ≡ Some name → has_name name names ≡ true
stands-has_name name [] k h = cc
stands-has_name name (x ∷ xs) zero h = ap (λ b. b || has_name name xs) ((bytes_eq-Decides x name).1 (same_Some x name h))
stands-has_name name (x ∷ xs) (suc k) h = by (bytes_eq x name) (stands-has_name name xs k h)
  where
    by : (b : Bool) → has_name name xs ≡ true → (b || has_name name xs) ≡ true
    by true e = refl
    by false e = e

distinct-more : (names : List (List ℕ)) (name : List ℕ) → AreDistinct names → has_name name names ≡ false → AreDistinct (names ++ name ∷ [])
distinct-more names name d new = λ j k less below same.
    let at_j = name_at-front names (name ∷ []) j in
    elim (cases_lt k (length names)) [
      | inl here ↦ d j k less here (sym (at_j (omega arith)) ∙ same ∙ name_at-front names (name ∷ []) k here)
      | inr last ↦
          (let end : k ≡ length names = omega (arith, below, length_push names name) in
          let found : slice_get names j ≡ Some name = sym (at_j (omega (arith, less, end))) ∙ same ∙ ap (slice_get (names ++ name ∷ [])) end ∙ name_at-last names name in
          absurd (true≢false (sym (stands-has_name name names j found) ∙ new)))
    ]

-- ---- one line more

-- what a line that says something was tested for
record IsTested (names : List (List ℕ)) (form said : PolygonForm) : Type 0 where
  same : form ≡ said
  few : nat_le MAX_POLYGONS (length names) ≡ false
  new : has_name form.name names ≡ false

said-tested : (names : List (List ℕ)) (line : ℕ) (form said : PolygonForm) → said_by_form names line form ≡ Ok said → IsTested names form said
said-tested names line form said h = by form.hole (nat_le MAX_POLYGONS (length names)) (has_name form.name names) (is_closed form.points) refl refl h
  where
    by : (a b c d : Bool) → nat_le MAX_POLYGONS (length names) ≡ b → has_name form.name names ≡ c →
        cond a (Err (Hole line)) (cond b (Err (ManyPolygons line)) (cond c (Err (NameTwice line)) (cond d (Ok form) (Err (Open line))))) ≡ Ok said → IsTested names form said
    by true b c d e f g = cc
    by false true c d e f g = cc
    by false false true d e f g = cc
    by false false false false e f g = cc
    by false false false true e f g = let same : form ≡ said = cc in record { same = same; few = e; new = f }

line-tested : (names : List (List ℕ)) (line : ℕ) (tokens : List Lexeme) (said : PolygonForm) → said_by_line names line tokens ≡ Ok said → IsTested names said said
line-tested names line tokens said h = by (polygon_form tokens) h
  where
    by : (o : Option PolygonForm) → (ok_or o (Syntax line) >>= said_by_form names line) ≡ Ok said → IsTested names said said
    by None e = cc
    by (Some form) e = let t = said-tested names line form said e in subst (λ f. IsTested names f said) t.same t

names_of-more : (before : List NamedRing) (p : NamedRing) → names_of (before ++ p ∷ []) ≡ names_of before ++ p.name ∷ []
names_of-more before p = map-append (λ q. q.name) before (p ∷ [])

pub rings-more : (before : List Polygon) (p : Polygon) → map named_ring (before ++ p ∷ []) ≡ map named_ring before ++ named_ring p ∷ []
rings-more before p = map-append named_ring before (p ∷ [])

pub distinct-line : (before : List NamedRing) (line : ℕ) (tokens : List Lexeme) (p : NamedRing) → AreDistinct (names_of before) → IsLineOf before line tokens p →
    AreDistinct (names_of (before ++ p ∷ []))
distinct-line before line tokens p d is =
    let t = line-tested (names_of before) line tokens is.form is.says in
    subst AreDistinct (sym (names_of-more before p)) (distinct-more (names_of before) p.name d (ap (λ n. has_name n (names_of before)) is.name ∙ t.new))

pub few-line : (before : List NamedRing) (line : ℕ) (tokens : List Lexeme) (p : NamedRing) → IsLineOf before line tokens p → length before < MAX_POLYGONS
few-line before line tokens p is =
    let t = line-tested (names_of before) line tokens is.form is.says in
    let few = t.few in
    let size : length (names_of before) ≡ length before = length-map before (λ q. q.name) in
    grind (arith, nat_tests)

-- the rest of the lines after one more
module _ (end after_end : TextEnd) (same_end : after_end ≡ end) (old new : List TokenLine) (number : ℕ) (tokens : List Lexeme) (cut : old ≡ token_line number tokens ∷ new) (before now : List NamedRing) (p : NamedRing) (more : now ≡ before ++ p ∷ []) where
  pub HavePolygons-line : (all : List NamedRing) → IsLineOf before number tokens p → HavePolygons after_end new all now → HavePolygons end old all before
  HavePolygons-line all is h =
      subst (λ ls. HavePolygons end ls all before) (sym cut)
      (record { polygon = p; is_line = is; rest = subst (HavePolygons end new all) more (subst (λ e. HavePolygons e new all now) same_end h) })

  pub HaveFault-line : (f : GeoFault) → IsLineOf before number tokens p → HaveFault after_end new f now → HaveFault end old f before
  HaveFault-line f is h =
      subst (λ ls. HaveFault end ls f before) (sym cut)
      (inr (record { polygon = p; is_line = is; rest = subst (HaveFault end new f) more (subst (λ e. HaveFault e new f now) same_end h) }))

pub HaveFault-here : (end : TextEnd) (old new : List TokenLine) (number : ℕ) (tokens : List Lexeme) → old ≡ token_line number tokens ∷ new → (before : List NamedRing) (f : GeoFault) →
    IsLineFault before number tokens f → HaveFault end old f before
HaveFault-here end old new number tokens cut before f is = subst (λ ls. HaveFault end ls f before) (sym cut) (inl is)

pub within-first : (n : ℕ) (old new : List TokenLine) (number : ℕ) (tokens : List Lexeme) → old ≡ token_line number tokens ∷ new → AreWithin n old → (length tokens ≤ n) × AreWithin n new
within-first n old new number tokens cut h = subst (AreWithin n) cut h
