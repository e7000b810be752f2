-- A text is no two files, and has no two faults.
use Rattle.std.proofs.Common.{◌≡◌, ◌≢◌, ℕ, ◌<◌, ◌⊎◌, inl, inr, List, [], ◌∷◌, ◌++◌, length, Result, Ok, Err, refl, sym, ap, subst, ◌∙◌, arith}
use Rattle.std.proofs.lemmas.Bool.{cases_lt}
use Rattle.qsr_lex.specs.Lexemes.{Lexeme}
use Rattle.qsr_lex.specs.TokenLines.{TokenLine}
use Rattle.line_files.specs.FileText.{FileText, file_text}
use Rattle.line_files.specs.declared.lines.TextEnd.{TextEnd}
use Rattle.line_files.specs.declared.lines.TextEnd.TheVariants.{Whole, BadLine}
use Rattle.poly_exact.specs.declared.points.Point.{Point}
use Rattle.poly_exact.specs.declared.rings.RingFault.{RingFault}
use Rattle.poly_exact.specs.declared.rings.RingFault.TheVariants as ring_fault
use Rattle.poly_exact.specs.Located.{AreSmall}
use Rattle.poly_exact.specs.Kept.{kept}
use Rattle.poly_exact.specs.Rings.{IsSimple}
use Rattle.poly_exact.specs.Checks.{IsGoodPair, IsFirstBad}
use Rattle.poly_exact.specs.Built.{IsFirstLarge, IsAccepted, IsFaultOf}
use Rattle.geo_facts.specs.LineForm.{PolygonForm}
use Rattle.geo_facts.specs.PolygonFile.{NamedRing, names_of, said_by_line, IsLineOf, IsRingFaultOf, IsLineFault, HavePolygons, HaveFault, IsWholeText, IsEndFault}
use Rattle.geo_facts.specs.Laws.{FileIsOne, FaultIsOne, FileHasNoFault}
use Rattle.geo_facts.specs.declared.fault.GeoFault.{GeoFault}
use Rattle.geo_facts.specs.declared.fault.GeoFault.TheVariants.{Syntax, Hole, ManyPolygons, NameTwice, Open, Ring, Memory}

-- ---- the faults of points

large_not-small : (ps : List Point) (k : ℕ) → IsFirstLarge ps k → AreSmall ps → ⊥
large_not-small ps k h s = h.large (s.each k h.below)

large-one : (ps : List Point) (k l : ℕ) → IsFirstLarge ps k → IsFirstLarge ps l → k ≡ l
large-one ps k l h g = elim (cases_lt k l) [
  | inl less ↦ absurd (h.large (g.before.each k less))
  | inr more ↦ elim (cases_lt l k) [ inl less ↦ absurd (g.large (h.before.each l less)) | inr same ↦ omega arith ]
]

good-simple : (vs : List Point) (e f : ℕ) → IsSimple vs → e < f → f < length vs → IsGoodPair vs e f
good-simple vs e f s order below = record { meets = s.apart e f order below }

bad_first : (vs : List Point) (e f g h : ℕ) → IsFirstBad vs e f → IsFirstBad vs g h → (e < g) ⊎ ((e ≡ g) × (f < h)) → ⊥
bad_first vs e f g h x y (inl less) = x.bad ((y.earlier.each e less).each f x.order x.below)
bad_first vs e f g h x y (inr same) = x.bad (subst (λ k. IsGoodPair vs k f) (sym same.0) (y.before.each f (let o = x.order in omega (arith, same.0)) same.1))

bad-one : (vs : List Point) (e f g h : ℕ) → IsFirstBad vs e f → IsFirstBad vs g h → (e ≡ g) × (f ≡ h)
bad-one vs e f g h x y = elim (cases_lt e g) [
  | inl less ↦ absurd (bad_first vs e f g h x y (inl less))
  | inr more ↦ elim (cases_lt g e) [
    | inl less ↦ absurd (bad_first vs g h e f y x (inl less))
    | inr least ↦
        (let first : e ≡ g = omega arith in
        elim (cases_lt f h) [
          | inl less ↦ absurd (bad_first vs e f g h x y (inr (first, less)))
          | inr high ↦ elim (cases_lt h f) [
            | inl less ↦ absurd (bad_first vs g h e f y x (inr (sym first, less)))
            | inr low ↦ (first, omega arith)
          ]
        ])
  ]
]

-- points that are accepted have no fault
pub accepted-no_fault : (ps : List Point) (fault : RingFault) → IsAccepted ps → fault ≢ ring_fault.Memory → IsFaultOf fault ps → ⊥
accepted-no_fault ps (ring_fault.Coordinate k) a m h = large_not-small ps k h a.small
accepted-no_fault ps ring_fault.Few a m h = omega (arith, a.few, h.1)
accepted-no_fault ps ring_fault.ManyVertices a m h = omega (arith, a.many, h.1)
accepted-no_fault ps (ring_fault.NotSimple e f) a m h = h.first.bad (good-simple (kept ps) e f a.simple h.first.order h.first.below)
accepted-no_fault ps ring_fault.Memory a m h = m refl

-- and others one
pub ring_fault-one : (ps : List Point) (x y : RingFault) → x ≢ ring_fault.Memory → y ≢ ring_fault.Memory → IsFaultOf x ps → IsFaultOf y ps → x ≡ y
ring_fault-one ps ring_fault.Memory y m n h g = absurd (m refl)
ring_fault-one ps (ring_fault.Coordinate k) (ring_fault.Coordinate l) m n h g = ap ring_fault.Coordinate (large-one ps k l h g)
ring_fault-one ps (ring_fault.Coordinate k) ring_fault.Few m n h g = absurd (large_not-small ps k h g.0)
ring_fault-one ps (ring_fault.Coordinate k) ring_fault.ManyVertices m n h g = absurd (large_not-small ps k h g.0)
ring_fault-one ps (ring_fault.Coordinate k) (ring_fault.NotSimple e f) m n h g = absurd (large_not-small ps k h g.small)
ring_fault-one ps (ring_fault.Coordinate k) ring_fault.Memory m n h g = absurd (n refl)
ring_fault-one ps ring_fault.Few (ring_fault.Coordinate l) m n h g = absurd (large_not-small ps l g h.0)
ring_fault-one ps ring_fault.Few ring_fault.Few m n h g = refl
ring_fault-one ps ring_fault.Few ring_fault.ManyVertices m n h g = absurd (omega (arith, h.1, g.1))
ring_fault-one ps ring_fault.Few (ring_fault.NotSimple e f) m n h g = absurd (omega (arith, h.1, g.few))
ring_fault-one ps ring_fault.Few ring_fault.Memory m n h g = absurd (n refl)
ring_fault-one ps ring_fault.ManyVertices (ring_fault.Coordinate l) m n h g = absurd (large_not-small ps l g h.0)
ring_fault-one ps ring_fault.ManyVertices ring_fault.Few m n h g = absurd (omega (arith, h.1, g.1))
ring_fault-one ps ring_fault.ManyVertices ring_fault.ManyVertices m n h g = refl
ring_fault-one ps ring_fault.ManyVertices (ring_fault.NotSimple e f) m n h g = absurd (omega (arith, h.1, g.many))
ring_fault-one ps ring_fault.ManyVertices ring_fault.Memory m n h g = absurd (n refl)
ring_fault-one ps (ring_fault.NotSimple e f) (ring_fault.Coordinate l) m n h g = absurd (large_not-small ps l g h.small)
ring_fault-one ps (ring_fault.NotSimple e f) ring_fault.Few m n h g = absurd (omega (arith, g.1, h.few))
ring_fault-one ps (ring_fault.NotSimple e f) ring_fault.ManyVertices m n h g = absurd (omega (arith, g.1, h.many))
ring_fault-one ps (ring_fault.NotSimple e f) (ring_fault.NotSimple i j) m n h g =
    let same = bad-one (kept ps) e f i j h.first g.first in
    ap (λ a. ring_fault.NotSimple a f) same.0 ∙ ap (λ b. ring_fault.NotSimple i b) same.1
ring_fault-one ps (ring_fault.NotSimple e f) ring_fault.Memory m n h g = absurd (n refl)

-- ---- one line

module _ (before : List NamedRing) (line : ℕ) (tokens : List Lexeme) where
  abbrev says : Result PolygonForm GeoFault
  says = said_by_line (names_of before) line tokens

  same_form : (form other : PolygonForm) → says ≡ Ok form → says ≡ Ok other → form ≡ other
  same_form form other h g = cc

  line-one : (p q : NamedRing) → IsLineOf before line tokens p → IsLineOf before line tokens q → p ≡ q
  line-one p q h g =
      let same = same_form h.form g.form h.says g.says in
      let name : p.name ≡ q.name = h.name ∙ ap (λ f. f.name) same ∙ sym g.name in
      let vertices : p.vertices ≡ q.vertices = h.vertices ∙ ap (λ f. kept f.points) same ∙ sym g.vertices in
      λ i. record { name = name i; vertices = vertices i }

  -- a fault of the words of a line, or of its points
  record IsOfRing (f : GeoFault) : Type 0 where
    fault : RingFault
    same : f ≡ Ring line fault
    is : IsRingFaultOf before line tokens fault

  fault-kind : (f : GeoFault) → IsLineFault before line tokens f → (says ≡ Err f) ⊎ IsOfRing f
  fault-kind (Syntax at) h = inl h
  fault-kind (Hole at) h = inl h
  fault-kind (ManyPolygons at) h = inl h
  fault-kind (NameTwice at) h = inl h
  fault-kind (Open at) h = inl h
  fault-kind (Ring at fault) h = inr (record { fault = fault; same = ap (λ k. Ring k fault) h.0; is = h.1 })
  fault-kind Memory h = absurd h

  not_both : (form : PolygonForm) (f : GeoFault) → says ≡ Ok form → says ≡ Err f → ⊥
  not_both form f h g = cc

  line-no_fault : (p : NamedRing) (f : GeoFault) → IsLineOf before line tokens p → IsLineFault before line tokens f → ⊥
  line-no_fault p f h g = elim (fault-kind f g) [
    | inl e ↦ not_both h.form f h.says e
    | inr r ↦
        accepted-no_fault h.form.points r.fault h.accepted r.is.of_points
        (subst (λ form. IsFaultOf r.fault form.points) (same_form r.is.form h.form r.is.says h.says) r.is.is)
  ]

  same_error : (f g : GeoFault) → says ≡ Err f → says ≡ Err g → f ≡ g
  same_error f g h k = cc

  line_fault-one : (f g : GeoFault) → IsLineFault before line tokens f → IsLineFault before line tokens g → f ≡ g
  line_fault-one f g h k = elim (fault-kind f h) [
    | inl e ↦ elim (fault-kind g k) [ inl d ↦ same_error f g e d | inr r ↦ absurd (not_both r.is.form f r.is.says e) ]
    | inr r ↦ elim (fault-kind g k) [
      | inl d ↦ absurd (not_both r.is.form g r.is.says d)
      | inr s ↦
          r.same
          ∙ ap (Ring line) (ring_fault-one s.is.form.points r.fault s.fault r.is.of_points s.is.of_points (subst (λ form. IsFaultOf r.fault form.points) (same_form r.is.form s.is.form r.is.says s.is.says) r.is.is) s.is.is)
          ∙ sym s.same
    ]
  ]

-- ---- all lines

module _ (end : TextEnd) where
  polygons-one : (ls : List TokenLine) (ps qs before : List NamedRing) → HavePolygons end ls ps before → HavePolygons end ls qs before → ps ≡ qs
  polygons-one [] ps qs before h g = h.1 ∙ sym g.1
  polygons-one (l ∷ ls) ps qs before h g =
      let same = line-one before l.number l.tokens g.polygon h.polygon g.is_line h.is_line in
      polygons-one ls ps qs (before ++ h.polygon ∷ []) h.rest (subst (λ p. HavePolygons end ls qs (before ++ p ∷ [])) same g.rest)

  end-no_fault : (f : GeoFault) (e : TextEnd) → IsWholeText e → IsEndFault e f → ⊥
  end-no_fault f (Whole lines) h g = g
  end-no_fault f (BadLine line) h g = h

  polygons-no_fault : (ls : List TokenLine) (ps before : List NamedRing) (f : GeoFault) → HavePolygons end ls ps before → HaveFault end ls f before → ⊥
  polygons-no_fault [] ps before f h g = end-no_fault f end h.0 g
  polygons-no_fault (l ∷ ls) ps before f h (inl g) = line-no_fault before l.number l.tokens h.polygon f h.is_line g
  polygons-no_fault (l ∷ ls) ps before f h (inr g) =
      let same = line-one before l.number l.tokens g.polygon h.polygon g.is_line h.is_line in
      polygons-no_fault ls ps (before ++ h.polygon ∷ []) f h.rest (subst (λ p. HaveFault end ls f (before ++ p ∷ [])) same g.rest)

  end_fault-one : (f g : GeoFault) (e : TextEnd) → IsEndFault e f → IsEndFault e g → f ≡ g
  end_fault-one f g (Whole lines) h k = absurd h
  end_fault-one f g (BadLine line) h k = h ∙ sym k

  fault-one : (ls : List TokenLine) (before : List NamedRing) (f g : GeoFault) → HaveFault end ls f before → HaveFault end ls g before → f ≡ g
  fault-one [] before f g h k = end_fault-one f g end h k
  fault-one (l ∷ ls) before f g (inl h) (inl k) = line_fault-one before l.number l.tokens f g h k
  fault-one (l ∷ ls) before f g (inl h) (inr k) = absurd (line-no_fault before l.number l.tokens k.polygon f k.is_line h)
  fault-one (l ∷ ls) before f g (inr h) (inl k) = absurd (line-no_fault before l.number l.tokens h.polygon g h.is_line k)
  fault-one (l ∷ ls) before f g (inr h) (inr k) =
      let same = line-one before l.number l.tokens k.polygon h.polygon k.is_line h.is_line in
      fault-one ls (before ++ h.polygon ∷ []) f g h.rest (subst (λ p. HaveFault end ls g (before ++ p ∷ [])) same k.rest)

pub file-one : FileIsOne
file-one bytes ps qs h g = let text : FileText = file_text bytes in polygons-one text.end text.lines ps qs [] h g

pub file_fault-one : FaultIsOne
file_fault-one bytes f g h k = let text : FileText = file_text bytes in fault-one text.end text.lines [] f g h k

pub file-no_fault : FileHasNoFault
file-no_fault bytes ps f h g = let text : FileText = file_text bytes in polygons-no_fault text.end text.lines ps [] f h g
