-- Each text is a polygon file, or has a fault.
use Rattle.std.proofs.Common.{◌≡◌, ℕ, ◌⊎◌, inl, inr, Bool, true, false, cond, nat_le, List, [], ◌∷◌, ◌++◌, length, Option, Some, None, Result, Ok, Err, refl, sym, subst}
use Rattle.std.specs.Option.{ok_or}
use Rattle.qsr_lex.specs.Lexemes.{Lexeme}
use Rattle.qsr_lex.specs.TokenLines.{TokenLine}
use Rattle.line_files.specs.FileText.{FileText, file_text}
use Rattle.line_files.specs.Steps.{◌>>=◌}
use Rattle.line_files.specs.declared.lines.TextEnd.{TextEnd}
use Rattle.line_files.specs.declared.lines.TextEnd.TheVariants.{Whole, BadLine}
use Rattle.poly_exact.specs.Kept.{kept}
use Rattle.poly_exact.specs.Built.{IsAccepted}
use Rattle.geo_facts.specs.LineForm.{PolygonForm, polygon_form}
use Rattle.geo_facts.specs.PolygonFile.{NamedRing, names_of, has_name, is_closed, said_by_form, said_by_line, IsLineOf, IsLineFault, HavePolygons, HaveFault}
use Rattle.geo_facts.specs.Laws.{IsFile, HasFault, FileHasAnswer}
use Rattle.geo_facts.specs.declared.TheConstants.{MAX_POLYGONS}
use Rattle.geo_facts.specs.declared.fault.GeoFault.{GeoFault}
use Rattle.geo_facts.specs.declared.fault.GeoFault.TheVariants.{Syntax, Hole, ManyPolygons, NameTwice, Open, Ring, Memory}
use Rattle.geo_facts.proofs.Meetings.{RingFaultOf, points-answer}

-- ---- one line

-- a fault that the words of a line have
abbrev IsOfWords : GeoFault → Type 0
IsOfWords (Syntax at) = Unit {0}
IsOfWords (Hole at) = Unit {0}
IsOfWords (ManyPolygons at) = Unit {0}
IsOfWords (NameTwice at) = Unit {0}
IsOfWords (Open at) = Unit {0}
IsOfWords (Ring at fault) = ⊥
IsOfWords Memory = ⊥

form-of_words : (names : List (List ℕ)) (line : ℕ) (form : PolygonForm) (f : GeoFault) → said_by_form names line form ≡ Err f → IsOfWords f
form-of_words names line form f = by form.hole (nat_le MAX_POLYGONS (length names)) (has_name form.name names) (is_closed form.points)
  where
    same : (g : GeoFault) → IsOfWords g → g ≡ f → IsOfWords f
    same g h e = subst IsOfWords e h

    by : (a b c d : Bool) → cond a (Err (Hole line)) (cond b (Err (ManyPolygons line)) (cond c (Err (NameTwice line)) (cond d (Ok form) (Err (Open line))))) ≡ Err f → IsOfWords f
    by true b c d e = same (Hole line) tt (cc)
    by false true c d e = same (ManyPolygons line) tt (cc)
    by false false true d e = same (NameTwice line) tt (cc)
    by false false false true e = cc
    by false false false false e = same (Open line) tt (cc)

line-of_words : (names : List (List ℕ)) (line : ℕ) (tokens : List Lexeme) (f : GeoFault) → said_by_line names line tokens ≡ Err f → IsOfWords f
line-of_words names line tokens f = by (polygon_form tokens)
  where
    by : (o : Option PolygonForm) → (ok_or o (Syntax line) >>= said_by_form names line) ≡ Err f → IsOfWords f
    by None e = let k : Syntax line ≡ f = cc in subst IsOfWords k tt
    by (Some form) e = form-of_words names line form f e

fault-of_words : (before : List NamedRing) (line : ℕ) (tokens : List Lexeme) (f : GeoFault) → IsOfWords f → said_by_line (names_of before) line tokens ≡ Err f → IsLineFault before line tokens f
fault-of_words before line tokens (Syntax at) w h = h
fault-of_words before line tokens (Hole at) w h = h
fault-of_words before line tokens (ManyPolygons at) w h = h
fault-of_words before line tokens (NameTwice at) w h = h
fault-of_words before line tokens (Open at) w h = h
fault-of_words before line tokens (Ring at fault) w h = absurd w
fault-of_words before line tokens Memory w h = absurd w

record LineOf (before : List NamedRing) (line : ℕ) (tokens : List Lexeme) : Type 0 where
  polygon : NamedRing
  is : IsLineOf before line tokens polygon

record LineFault (before : List NamedRing) (line : ℕ) (tokens : List Lexeme) : Type 0 where
  fault : GeoFault
  is : IsLineFault before line tokens fault

line-answer : (before : List NamedRing) (line : ℕ) (tokens : List Lexeme) → LineOf before line tokens ⊎ LineFault before line tokens
line-answer before line tokens = by (said_by_line (names_of before) line tokens) refl
  where
    points : (form : PolygonForm) → said_by_line (names_of before) line tokens ≡ Ok form → IsAccepted form.points ⊎ RingFaultOf form.points → LineOf before line tokens ⊎ LineFault before line tokens
    points form e (inl a) = inl (record {
      polygon = record { name = form.name; vertices = kept form.points };
      is = record { form = form; says = e; name = refl; accepted = a; vertices = refl };
    })
    points form e (inr r) = inr (record { fault = Ring line r.fault; is = (refl, record { form = form; says = e; of_points = r.of_points; is = r.is }) })

    by : (r : Result PolygonForm GeoFault) → said_by_line (names_of before) line tokens ≡ r → LineOf before line tokens ⊎ LineFault before line tokens
    by (Ok form) e = points form e (points-answer form.points)
    by (Err f) e = inr (record { fault = f; is = fault-of_words before line tokens f (line-of_words (names_of before) line tokens f e) e })

-- ---- all lines

module _ (end : TextEnd) where
  record Polygons (ls : List TokenLine) (before : List NamedRing) : Type 0 where
    polygons : List NamedRing
    is : HavePolygons end ls polygons before

  record Fault (ls : List TokenLine) (before : List NamedRing) : Type 0 where
    fault : GeoFault
    is : HaveFault end ls fault before

  lines-answer : (ls : List TokenLine) (before : List NamedRing) → Polygons ls before ⊎ Fault ls before
  lines-answer [] before = by end refl
    where
      by : (e : TextEnd) → end ≡ e → Polygons [] before ⊎ Fault [] before
      by (Whole lines) e = inl (record { polygons = before; is = subst (λ x. HavePolygons x [] before before) (sym e) (tt, refl) })
      by (BadLine line) e = inr (record { fault = Syntax line; is = subst (λ x. HaveFault x [] (Syntax line) before) (sym e) refl })
  lines-answer (l ∷ ls) before = by (line-answer before l.number l.tokens) (λ p. lines-answer ls (before ++ p ∷ []))
    where
      rest : (p : NamedRing) → IsLineOf before l.number l.tokens p → Polygons ls (before ++ p ∷ []) ⊎ Fault ls (before ++ p ∷ []) → Polygons (l ∷ ls) before ⊎ Fault (l ∷ ls) before
      rest p is (inl h) = inl (record { polygons = h.polygons; is = record { polygon = p; is_line = is; rest = h.is } })
      rest p is (inr h) = inr (record { fault = h.fault; is = inr (record { polygon = p; is_line = is; rest = h.is }) })

      by : LineOf before l.number l.tokens ⊎ LineFault before l.number l.tokens → ((p : NamedRing) → Polygons ls (before ++ p ∷ []) ⊎ Fault ls (before ++ p ∷ [])) → Polygons (l ∷ ls) before ⊎ Fault (l ∷ ls) before
      by (inl h) more = rest h.polygon h.is (more h.polygon)
      by (inr h) more = inr (record { fault = h.fault; is = inl h.is })

file-answered : (bytes : List ℕ) → let text : FileText = file_text bytes in Polygons text.end text.lines [] ⊎ Fault text.end text.lines [] → IsFile bytes ⊎ HasFault bytes
file-answered bytes (inl h) = inl (record { polygons = h.polygons; is = h.is })
file-answered bytes (inr h) = inr (record { fault = h.fault; is = h.is })

pub file-answer : FileHasAnswer
file-answer bytes = let text : FileText = file_text bytes in file-answered bytes (lines-answer text.end text.lines [])
