-- The form of a line of a polygon file: a name, the word POLYGON, and rings of points in brackets, as in the well-known text of
-- OGC 06-103r4.
use Rattle.std.specs.Prelude.{ℕ, zero, suc, ℤ, List, [], ◌∷◌, length, map, codes, Bool, is_some, Option, Some, None, option_map, unwrap_or, bytes_eq, if◌then◌else◌}
use Rattle.std.specs.Char.{to_ascii_lowercase}
use Rattle.qsr_lex.specs.Lexemes.{Lexeme}
use Rattle.qsr_lex.specs.Numbers.{signed_of}
use Rattle.qsr_lex.specs.LineTokens.{◌>>=◌, is_same_kind, word_at, name_at, after_kind, at_end}
use Rattle.qsr_lex.specs.declared.tokens.TokenKind.TheVariants.{Word, Open, Close, Comma}
use Rattle.poly_exact.specs.declared.points.Point.{Point}

-- what the line of a polygon says: its name, the points of its ring, and whether further rings follow
pub record PolygonForm : Type 0 where
  pub name : List ℕ
  pub points : List Point
  pub hole : Bool

abbrev pub form_with : List ℕ → List Point → Bool → PolygonForm
form_with name points hole = record { name = name; points = points; hole = hole }

-- ---- points

abbrev pub point_from : ℤ → ℤ → Point
point_from x y = record { x = x; y = y }

-- a coordinate: a whole number, with or without a sign
abbrev pub coordinate_at : List Lexeme → Option (ℤ × List Lexeme)
coordinate_at tokens = do
  word ← word_at tokens
  option_map (λ n. (n, word.1)) (signed_of word.0)

-- a point at the front: two coordinates
abbrev pub point_at : List Lexeme → Option (Point × List Lexeme)
point_at tokens = do
  x ← coordinate_at tokens
  option_map (λ y. (point_from x.0 y.0, y.1)) (coordinate_at x.1)

abbrev pub coordinate_of : Lexeme → Option ℤ
coordinate_of x = if is_same_kind x.kind Word then signed_of x.text else None

abbrev pub point_of : Lexeme → Lexeme → Option Point
point_of x y = coordinate_of x >>= λ a. option_map (point_from a) (coordinate_of y)

-- points with a comma between, in front of a closing bracket, and what stands after it
abbrev pub points_until_close : List Lexeme → Option (List Point × List Lexeme)
points_until_close (x ∷ y ∷ mark ∷ rest) =
    point_of x y >>= λ point.
    (if is_same_kind mark.kind Close then Some (point ∷ [], rest)
    else (if is_same_kind mark.kind Comma then option_map (λ found. (point ∷ found.0, found.1)) (points_until_close rest) else None))
points_until_close (x ∷ y ∷ []) = None
points_until_close (x ∷ []) = None
points_until_close [] = None

-- ---- rings

-- a ring at the front: points in brackets
abbrev pub ring_at : List Lexeme → Option (List Point × List Lexeme)
ring_at tokens = after_kind Open tokens >>= points_until_close

-- what stands after the further rings at the front, each after a comma, of which n at most are looked at
unfoldable pub after_rings : ℕ → List Lexeme → Option (List Lexeme)
after_rings zero tokens = Some tokens
after_rings (suc n) tokens =
    unwrap_or (option_map (λ more. ring_at more >>= λ ring. after_rings n ring.1) (after_kind Comma tokens)) (Some tokens)

-- what stands after all further rings: each has a token at least
abbrev pub after_all_rings : List Lexeme → Option (List Lexeme)
after_all_rings tokens = after_rings (length tokens) tokens

-- a comma is next
abbrev pub starts_with_comma : List Lexeme → Bool
starts_with_comma tokens = is_some (after_kind Comma tokens)

-- ---- the line

-- the word POLYGON in any case
abbrev pub is_polygon_word : List ℕ → Bool
is_polygon_word word = bytes_eq (map to_ascii_lowercase word) (codes "polygon")

-- what stands after the word POLYGON
abbrev pub after_polygon : List Lexeme → Option (List Lexeme)
after_polygon tokens = do
  word ← word_at tokens
  if is_polygon_word word.0 then Some word.1 else None

-- the ring, further rings, and the closing bracket of the line
abbrev pub rings_form : List ℕ → List Lexeme → Option PolygonForm
rings_form name tokens = do
  ring ← ring_at tokens
  rest ← after_all_rings ring.1
  close ← after_kind Close rest
  at_end (form_with name ring.0 (starts_with_comma ring.1)) close

-- what a line with the form of a polygon says
abbrev pub polygon_form : List Lexeme → Option PolygonForm
polygon_form tokens = do
  name ← name_at tokens
  word ← after_polygon name.1
  open_bracket ← after_kind Open word
  rings_form name.0 open_bracket
