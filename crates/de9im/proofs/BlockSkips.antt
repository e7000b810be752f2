-- An edge that lies off the rectangle round a block meets none of its edges, and has none of its vertices.
use Rattle.std.proofs.Common.{◌≡◌, ◌≢◌, refl, arith, ℕ, ◌+◌, ◌<◌, List, length, Bool}
use lib.IntN.{pos}
use lib.Signed.{◌<ℤ◌, ◌≤ℤ◌}
use borrow.Author.Differences.{ints}
use Rattle.poly_exact.specs.declared.points.Point.{Point}
use Rattle.poly_exact.specs.declared.rects.Rect.{Rect}
use Rattle.poly_exact.specs.Places.{turn, reach, IsOnEdge}
use Rattle.poly_exact.specs.Rings.{vertex, next}
use Rattle.poly_exact.specs.West.{IsRing}
use Rattle.poly_exact.specs.Rects.{Covers, AreBlocks, IsOff, rect_at, block_start}
use Rattle.de9im.specs.declared.scans.Contacts.{Contacts}
use Rattle.de9im.specs.declared.cuts.Sight.{Sight}
use Rattle.de9im.specs.Scans.{IsEdgeUnderWay, IsEdgeDone, IsSound, IsMore}
use Rattle.de9im.specs.Cuts.{IsCut, IsNearer, IsNextTo, IsSightTo}
use Rattle.poly_exact.proofs.VertexPlaces.{at, first_on, second_on}
use Rattle.poly_exact.proofs.Pieces.{long_edge, on_between}
use Rattle.poly_exact.proofs.Pairs.{reach_first}
use Rattle.poly_exact.proofs.Covering.{off_apart}
use Rattle.poly_exact.proofs.Blocks.{skip_block}
use Rattle.de9im.proofs.Notes.{edge_skip, more_same, more_then}
use Rattle.de9im.proofs.Sights.{next_skip, sight_skip}

-- ---- the scan

pub block_first : (start : Contacts) (vs ws : List Point) (e k : ℕ) → IsSound start vs ws → IsEdgeDone start vs ws e k → IsEdgeUnderWay start start vs ws e k
block_first start vs ws e k s d = record { sound = s; more = more_same start; done = d }

pub block_joined : (start g r : Contacts) (vs ws : List Point) (e k : ℕ) → IsMore start g → IsEdgeUnderWay g r vs ws e k → IsEdgeUnderWay start r vs ws e k
block_joined start g r vs ws e k m h = record { sound = h.sound; more = more_then start g r m h.more; done = h.done }

pub block_skip : (vs ws : List Point) (west other : List Bool) (rs : List Rect) → IsRing vs west → IsRing ws other → AreBlocks rs ws → (e n b : ℕ) → e < length vs → n ≡ next vs e → b < length rs
    → IsOff (vertex vs e) (vertex vs n) (rect_at rs b) → (start g : Contacts) → IsEdgeUnderWay start g vs ws e (block_start ws b) → IsEdgeUnderWay start g vs ws e (block_start ws (b + 1))
block_skip vs ws west other rs rv rw' blocks e n b be en bb off start g h =
    let f = blocks.fitting in
    let c = blocks.each b bb in
    skip_block ws (λ k. IsEdgeUnderWay start g vs ws e k) b (omega arith)
    (λ k x y i. edge_skip vs ws west other rv rw' e k n (next ws k) be (omega arith) en refl start g (off_apart (vertex vs e) (vertex vs n) (vertex ws k) (vertex ws (next ws k)) (rect_at rs b) (c.first k x y) (c.second k x y) off) i) h

-- ---- the cuts

module _ (a b : Point) (d : a ≢ b) where
  -- a vertex on the line, between the ends
  vertex_on : (v : Point) → turn a b (at v) ≡ pos 0 → pos 0 ≤ℤ reach a b (at v) → reach a b (at v) ≤ℤ reach a b (at b) → IsOnEdge a b (at v)
  vertex_on v t x y =
      let one : pos 0 <ℤ pos 1 = omega (arith, ints) in
      let z = reach_first a b in
      on_between a b a b (long_edge a b d) (first_on a b).line (second_on a b).line (at v) one t (omega (arith, ints)) (omega (arith, ints))

  off_vertex : (v : Point) (r : Rect) → Covers r v → IsOff a b r → IsOnEdge a b (at v) → ⊥
  off_vertex v r c o h = let one : pos 0 <ℤ pos 1 = omega (arith, ints) in (off_apart a b v v r c c o).none (at v) one h (first_on v v)

  no_cut : (v : Point) (r : Rect) → Covers r v → IsOff a b r → IsCut a b v → ⊥
  no_cut v r c o h = let x = h.high in off_vertex v r c o (vertex_on v h.line h.low (omega (arith, ints)))

  no_nearer : (from best v : Point) (ws : List Point) (k : ℕ) (r : Rect) → Covers r v → IsOff a b r → IsCut a b from → IsNextTo best a b from ws k → IsNearer a b from best v → ⊥
  no_nearer from best v ws k r c o cut nx h =
      let x = cut.low in let y = h.beyond in let z = h.before in let w = nx.high in
      off_vertex v r c o (vertex_on v h.line (omega (arith, ints)) (omega (arith, ints)))

  pub next_skip_block : (from best : Point) (ws : List Point) (rs : List Rect) (g : ℕ) → AreBlocks rs ws → g < length rs → IsCut a b from → IsOff a b (rect_at rs g)
      → IsNextTo best a b from ws (block_start ws g) → IsNextTo best a b from ws (block_start ws (g + 1))
  next_skip_block from best ws rs g blocks below cut o h =
      let f = blocks.fitting in
      let c = blocks.each g below in
      skip_block ws (λ k. IsNextTo best a b from ws k) g (omega arith) (λ k x y i. next_skip a b from ws best k (no_nearer from best (vertex ws k) ws k (rect_at rs g) (c.first k x y) o cut i) i) h

  pub sight_skip_block : (s : Sight) (ws : List Point) (rs : List Rect) (g : ℕ) → AreBlocks rs ws → g < length rs → IsOff a b (rect_at rs g)
      → IsSightTo s a b ws (block_start ws g) → IsSightTo s a b ws (block_start ws (g + 1))
  sight_skip_block s ws rs g blocks below o h =
      let f = blocks.fitting in
      let c = blocks.each g below in
      skip_block ws (λ k. IsSightTo s a b ws k) g (omega arith) (λ k x y i. sight_skip a b ws s k (no_cut (vertex ws k) (rect_at rs g) (c.first k x y) o) i) h
