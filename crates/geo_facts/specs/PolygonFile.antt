-- Polygon files: what each says, and the one fault with which any other text is refused. The lines are read in order, and the
-- first faulty one decides; of a line the form is tested first, and its ring last.
use Rattle.std.specs.Prelude.{◌≡◌, ◌≢◌, ◌⊎◌, ℕ, ◌-◌, List, [], ◌∷◌, ◌++◌, length, map, Bool, false, ◌||◌, nat_le, bytes_eq, Result, Ok, Err, if◌then◌else◌}
use Rattle.std.specs.Option.{ok_or}
use Rattle.std.specs.String.{string_bytes}
use Rattle.qsr_lex.specs.Lexemes.{Lexeme}
use Rattle.qsr_lex.specs.TokenLines.{TokenLine}
use Rattle.line_files.specs.FileText.{FileText, file_text}
use Rattle.line_files.specs.Steps.{◌>>=◌}
use Rattle.line_files.specs.declared.lines.TextEnd.{TextEnd}
use Rattle.line_files.specs.declared.lines.TextEnd.TheVariants.{Whole, BadLine}
use Rattle.poly_exact.specs.declared.points.Point.{Point}
use Rattle.poly_exact.specs.declared.rings.RingFault.{RingFault}
use Rattle.poly_exact.specs.declared.rings.RingFault.TheVariants as ring_fault
use Rattle.poly_exact.specs.Rings.{vertex}
use Rattle.poly_exact.specs.Kept.{same_point, kept}
use Rattle.poly_exact.specs.Built.{IsAccepted, IsFaultOf}
use Rattle.geo_facts.specs.LineForm.{PolygonForm, polygon_form}
use Rattle.geo_facts.specs.declared.TheConstants.{MAX_POLYGONS}
use Rattle.geo_facts.specs.declared.polygon.Polygon.{Polygon}
use Rattle.geo_facts.specs.declared.fault.GeoFault.{GeoFault}
use Rattle.geo_facts.specs.declared.fault.GeoFault.TheVariants.{Syntax, Hole, ManyPolygons, NameTwice, Open, Ring, Memory}

-- a polygon without holes, as a name and the vertices of its ring
pub record NamedRing : Type 0 where
  pub name : List ℕ
  pub vertices : List Point

abbrev pub named_ring : Polygon → NamedRing
named_ring p = record { name = string_bytes p.name; vertices = p.ring }

abbrev pub names_of : List NamedRing → List (List ℕ)
names_of polygons = map (λ p. p.name) polygons

-- ---- one line

-- the name is among the names
abbrev pub has_name : List ℕ → List (List ℕ) → Bool
has_name name [] = false
has_name name (x ∷ xs) = bytes_eq x name || has_name name xs

-- the last point is the first
abbrev pub is_closed : List Point → Bool
is_closed points = same_point (vertex points 0) (vertex points (length points - 1))

-- what a line of this form says after the polygons of these names
abbrev pub said_by_form : List (List ℕ) → ℕ → PolygonForm → Result PolygonForm GeoFault
said_by_form names line form =
    if form.hole then Err (Hole line)
    else (if nat_le MAX_POLYGONS (length names) then Err (ManyPolygons line)
    else (if has_name form.name names then Err (NameTwice line)
    else (if is_closed form.points then Ok form else Err (Open line))))

-- what a line says, before its ring is tested
abbrev pub said_by_line : List (List ℕ) → ℕ → List Lexeme → Result PolygonForm GeoFault
said_by_line names line tokens = do
  form ← ok_or (polygon_form tokens) (Syntax line)
  said_by_form names line form

-- the line after some polygons is that of the polygon: its points are those of a simple ring, without the repeated ones
pub record IsLineOf (before : List NamedRing) (line : ℕ) (tokens : List Lexeme) (p : NamedRing) : Type 0 where
  pub form : PolygonForm
  pub says : said_by_line (names_of before) line tokens ≡ Ok form
  pub name : p.name ≡ form.name
  pub accepted : IsAccepted form.points
  pub vertices : p.vertices ≡ kept form.points

-- the points of the line are no simple ring, for this cause
pub record IsRingFaultOf (before : List NamedRing) (line : ℕ) (tokens : List Lexeme) (fault : RingFault) : Type 0 where
  pub form : PolygonForm
  pub says : said_by_line (names_of before) line tokens ≡ Ok form
  pub of_points : fault ≢ ring_fault.Memory
  pub is : IsFaultOf fault form.points

-- the line after some polygons has this fault
abbrev pub IsLineFault : List NamedRing → ℕ → List Lexeme → GeoFault → Type 0
IsLineFault before line tokens (Ring at fault) = (at ≡ line) × IsRingFaultOf before line tokens fault
IsLineFault before line tokens (Syntax at) = said_by_line (names_of before) line tokens ≡ Err (Syntax at)
IsLineFault before line tokens (Hole at) = said_by_line (names_of before) line tokens ≡ Err (Hole at)
IsLineFault before line tokens (ManyPolygons at) = said_by_line (names_of before) line tokens ≡ Err (ManyPolygons at)
IsLineFault before line tokens (NameTwice at) = said_by_line (names_of before) line tokens ≡ Err (NameTwice at)
IsLineFault before line tokens (Open at) = said_by_line (names_of before) line tokens ≡ Err (Open at)
IsLineFault before line tokens Memory = ⊥

-- the fault of a line whose points are no simple ring
abbrev pub IsRingFaultAt : ℕ → List Point → GeoFault → Type 0
IsRingFaultAt line points (Ring at fault) = (at ≡ line) × (fault ≢ ring_fault.Memory) × IsFaultOf fault points
IsRingFaultAt line points fault = ⊥

-- ---- the whole text

-- the text has no line that can't be read
abbrev pub IsWholeText : TextEnd → Type 0
IsWholeText (Whole lines) = Unit {0}
IsWholeText (BadLine line) = ⊥

-- the line that can't be read has this fault
abbrev pub IsEndFault : TextEnd → GeoFault → Type 0
IsEndFault (BadLine line) fault = fault ≡ Syntax line
IsEndFault (Whole lines) fault = ⊥

-- a polygon of the next line, after which the rest holds
pub record NextPolygon (before : List NamedRing) (l : TokenLine) (Rest : List NamedRing → Type 0) : Type 0 where
  pub polygon : NamedRing
  pub is_line : IsLineOf before l.number l.tokens polygon
  pub rest : Rest (before ++ polygon ∷ [])

-- with the lines after some polygons these are the polygons of the text
abbrev pub HavePolygons : TextEnd → List TokenLine → List NamedRing → List NamedRing → Type 0
HavePolygons end [] polygons before = IsWholeText end × (polygons ≡ before)
HavePolygons end (l ∷ ls) polygons before = NextPolygon before l (HavePolygons end ls polygons)

-- the first fault of the lines after some polygons
abbrev pub HaveFault : TextEnd → List TokenLine → GeoFault → List NamedRing → Type 0
HaveFault end [] fault before = IsEndFault end fault
HaveFault end (l ∷ ls) fault before =
    IsLineFault before l.number l.tokens fault ⊎ NextPolygon before l (HaveFault end ls fault)

-- the text is a file of these polygons
abbrev pub IsFileOf : List ℕ → List NamedRing → Type 0
IsFileOf bytes polygons = let text : FileText = file_text bytes in HavePolygons text.end text.lines polygons []

-- the text is no file, and this is its fault
abbrev pub IsFileFault : List ℕ → GeoFault → Type 0
IsFileFault bytes fault = let text : FileText = file_text bytes in HaveFault text.end text.lines fault []

-- out of memory says nothing of the text
abbrev pub IsGeoFaultOf : List ℕ → GeoFault → Type 0
IsGeoFaultOf bytes fault = fault ≢ Memory → IsFileFault bytes fault
