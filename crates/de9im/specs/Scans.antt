-- What a scan of all pairs of edges of two rings finds.
use Rattle.std.specs.Prelude.{◌≡◌, ◌≢◌, ◌⊎◌, ℕ, ◌<◌, ◌%◌, pos, ◌<ℤ◌, List, length, Bool, true, not, ◌&&◌, ◌||◌, IsTrue}
use Rattle.poly_exact.specs.declared.points.Point.{Point}
use Rattle.poly_exact.specs.declared.edges.Meeting.{Meeting}
use Rattle.poly_exact.specs.declared.edges.Meeting.TheVariants as meeting
use Rattle.de9im.specs.declared.scans.Contacts.{Contacts}
use Rattle.poly_exact.specs.Places.{Place, turn, IsOnEdge, IsInside}
use Rattle.poly_exact.specs.Rings.{vertex, next, crossings, IsOnRing}
use Rattle.de9im.specs.Matrix.{Common}
use Rattle.poly_exact.specs.Small.{place_at}
use Rattle.poly_exact.specs.Met.{AreParted, Shares, DoCross}

-- two edges with a place strictly inside both, and the parities of the counts there
pub record Stretch (vs ws : List Point) (x y : ℕ) : Type 0 where
  pub e : ℕ
  pub f : ℕ
  pub below_e : e < length vs
  pub below_f : f < length ws
  pub level_e : (vertex vs e).y ≢ (vertex vs (next vs e)).y
  pub level_f : (vertex ws f).y ≢ (vertex ws (next ws f)).y
  pub m : Place
  pub weight : pos 0 <ℤ m.w
  pub inside_e : IsInside (vertex vs e) (vertex vs (next vs e)) m
  pub inside_f : IsInside (vertex ws f) (vertex ws (next ws f)) m
  pub count_e : crossings vs m (length vs) % 2 ≡ x
  pub count_f : crossings ws m (length ws) % 2 ≡ y

-- an edge of each, of which r holds
pub record EdgePair (vs ws : List Point) (r : Point → Point → Point → Point → Type 0) : Type 0 where
  pub e : ℕ
  pub f : ℕ
  pub below_e : e < length vs
  pub below_f : f < length ws
  pub holds : r (vertex vs e) (vertex vs (next vs e)) (vertex ws f) (vertex ws (next ws f))

-- one of the two edges is level
abbrev pub IsLevel : Point → Point → Point → Point → Type 0
IsLevel a b c d = (a.y ≡ b.y) ⊎ (c.y ≡ d.y)

-- what is found after one more pair
abbrev pub noted : Contacts → Meeting → Bool → Bool → Bool → Contacts
noted found meeting.Apart level west other = found
noted found meeting.Touch level west other = record { meets = true; stretch = found.stretch; proper = found.proper; ii = found.ii; ie = found.ie; ei = found.ei }
noted found meeting.Proper level west other = record { meets = true; stretch = found.stretch; proper = true; ii = found.ii; ie = found.ie; ei = found.ei }
noted found meeting.Stretch level west other = record {
  meets = true;
  stretch = true;
  proper = found.proper;
  ii = found.ii || (not level && (west && other));
  ie = found.ie || (not level && (west && not other));
  ei = found.ei || (not level && (not west && other));
}

-- what is found is there
pub record IsSound (found : Contacts) (vs ws : List Point) : Type 0 where
  pub meets : IsTrue found.meets → Common (IsOnRing vs) (IsOnRing ws)
  pub stretch : IsTrue found.stretch → EdgePair vs ws Shares
  pub proper : IsTrue found.proper → EdgePair vs ws DoCross
  pub ii : IsTrue found.ii → Stretch vs ws 0 0
  pub ie : IsTrue found.ie → Stretch vs ws 0 1
  pub ei : IsTrue found.ei → Stretch vs ws 1 0

-- what is there at one pair is found
pub record IsFull (found : Contacts) (vs ws : List Point) (e f : ℕ) : Type 0 where
  pub meets : (z : Place) → pos 0 <ℤ z.w → IsOnEdge (vertex vs e) (vertex vs (next vs e)) z → IsOnEdge (vertex ws f) (vertex ws (next ws f)) z → IsTrue found.meets
  pub stretch : Shares (vertex vs e) (vertex vs (next vs e)) (vertex ws f) (vertex ws (next ws f)) → IsTrue found.stretch
  pub proper : AreParted (turn (vertex ws f) (vertex ws (next ws f)) (place_at (vertex vs e))) (turn (vertex ws f) (vertex ws (next ws f)) (place_at (vertex vs (next vs e))))
      → AreParted (turn (vertex vs e) (vertex vs (next vs e)) (place_at (vertex ws f))) (turn (vertex vs e) (vertex vs (next vs e)) (place_at (vertex ws (next ws f)))) → IsTrue found.proper
  pub ii : (h : Stretch vs ws 0 0) → h.e ≡ e → h.f ≡ f → IsTrue found.proper ⊎ IsTrue found.ii
  pub ie : (h : Stretch vs ws 0 1) → h.e ≡ e → h.f ≡ f → IsTrue found.proper ⊎ IsTrue found.ie
  pub ei : (h : Stretch vs ws 1 0) → h.e ≡ e → h.f ≡ f → IsTrue found.proper ⊎ IsTrue found.ei

-- the second has all that the first has
pub record IsMore (one two : Contacts) : Type 0 where
  pub meets : IsTrue one.meets → IsTrue two.meets
  pub stretch : IsTrue one.stretch → IsTrue two.stretch
  pub proper : IsTrue one.proper → IsTrue two.proper
  pub ii : IsTrue one.ii → IsTrue two.ii
  pub ie : IsTrue one.ie → IsTrue two.ie
  pub ei : IsTrue one.ei → IsTrue two.ei

-- edge number e is done with the first k edges of the other
pub record IsEdgeDone (found : Contacts) (vs ws : List Point) (e k : ℕ) : Type 0 where
  pub full : (f : ℕ) → f < k → IsFull found vs ws e f

-- the first k edges are done with all
pub record IsDone (found : Contacts) (vs ws : List Point) (k : ℕ) : Type 0 where
  pub full : (e f : ℕ) → e < k → f < length ws → IsFull found vs ws e f

-- what the loops over the edges keep
pub record IsEdgeUnderWay (start found : Contacts) (vs ws : List Point) (e k : ℕ) : Type 0 where
  pub sound : IsSound found vs ws
  pub more : IsMore start found
  pub done : IsEdgeDone found vs ws e k

pub record IsUnderWay (found : Contacts) (vs ws : List Point) (k : ℕ) : Type 0 where
  pub sound : IsSound found vs ws
  pub done : IsDone found vs ws k
