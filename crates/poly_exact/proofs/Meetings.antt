-- Where an edge a b that rises and a segment p q lie on opposite sides at two heights, they meet. All by signs alone:
-- l_p, l_q are the turns from the edge to the two places; a_p .. b_q how far each place is above each end;
-- m_a, m_b the turns from the segment to the two ends; dy the edge's rise.
use Rattle.std.proofs.Common.{◌≡◌, sym, ◌∙◌, arith}
use lib.IntN.{ℤ, pos, ◌+ℤ◌, ◌-ℤ◌, ◌*ℤ◌, neg_ℤ, *ℤ_comm}
use lib.Signed.{◌<ℤ◌, ◌≤ℤ◌}
use borrow.Author.Differences.{ints}
use Rattle.std.proofs.lemmas.Int.{by_lt_z}
use Rattle.poly_exact.proofs.Whole.{weak, expand, polys, neg-mul, mul-nonneg, mul-pos, mul-np, mul-pn, mul-nn, mul-pos-neg, mul-neg-neg, pos-of-mul, neg-of-mul}

-- s times p and t times q come to a place of the edge
pub record IsMeeting (lp lq ap aq bp bq : ℤ) : Type 0 where
  pub s : ℤ
  pub t : ℤ
  pub first : pos 0 ≤ℤ s
  pub second : pos 0 ≤ℤ t
  pub some : pos 0 <ℤ (s +ℤ t)
  pub line : s *ℤ lp +ℤ t *ℤ lq ≡ pos 0
  pub over : pos 0 ≤ℤ (s *ℤ ap +ℤ t *ℤ aq)
  pub under : (s *ℤ bp +ℤ t *ℤ bq) ≤ℤ pos 0

module _ (lp lq ap aq bp bq ma mb dy : ℤ) (rise : pos 0 <ℤ dy) (ea : lq *ℤ ap -ℤ lp *ℤ aq ≡ dy *ℤ ma) (eb : lq *ℤ bp -ℤ lp *ℤ bq ≡ dy *ℤ mb) where
  -- both heights from those of the places: p left of the edge, q not
  left_first : pos 0 <ℤ lp → lq ≤ℤ pos 0 → pos 0 ≤ℤ (lp *ℤ aq -ℤ lq *ℤ ap) → (lp *ℤ bq -ℤ lq *ℤ bp) ≤ℤ pos 0 → IsMeeting lp lq ap aq bp bq
  left_first h k o u = record {
    s = neg_ℤ lq;
    t = lp;
    first = omega (arith, ints);
    second = omega (arith, ints);
    some = omega (arith, ints);
    line = omega (arith, ints, neg-mul lq lp, *ℤ_comm lq lp);
    over = omega (arith, ints, neg-mul lq ap);
    under = omega (arith, ints, neg-mul lq bp);
  }

  left_second : lp ≤ℤ pos 0 → pos 0 <ℤ lq → pos 0 ≤ℤ (lq *ℤ ap -ℤ lp *ℤ aq) → (lq *ℤ bp -ℤ lp *ℤ bq) ≤ℤ pos 0 → IsMeeting lp lq ap aq bp bq
  left_second h k o u = record {
    s = lq;
    t = neg_ℤ lp;
    first = omega (arith, ints);
    second = omega (arith, ints);
    some = omega (arith, ints);
    line = omega (arith, ints, neg-mul lp lq, *ℤ_comm lp lq);
    over = omega (arith, ints, neg-mul lp aq);
    under = omega (arith, ints, neg-mul lp bq);
  }

  -- from p's height to q's
  pub across_left : pos 0 ≤ℤ ap → pos 0 ≤ℤ aq → bp ≤ℤ pos 0 → bq ≤ℤ pos 0 → pos 0 <ℤ lp → lq ≤ℤ pos 0 → IsMeeting lp lq ap aq bp bq
  across_left x y z w h k =
      left_first h k (omega (arith, ints, mul-nonneg lp aq (weak h) y, mul-np lq ap k x)) (omega (arith, ints, mul-pn lp bq (weak h) w, mul-nn lq bp k z))

  pub across_right : pos 0 ≤ℤ ap → pos 0 ≤ℤ aq → bp ≤ℤ pos 0 → bq ≤ℤ pos 0 → lp ≤ℤ pos 0 → pos 0 <ℤ lq → IsMeeting lp lq ap aq bp bq
  across_right x y z w h k =
      left_second h k (omega (arith, ints, mul-nonneg lq ap (weak k) x, mul-np lp aq h y)) (omega (arith, ints, mul-pn lq bp (weak k) z, mul-nn lp bq h w))

  -- from p's height to b's
  pub end_left : pos 0 ≤ℤ ap → pos 0 ≤ℤ aq → bp <ℤ pos 0 → pos 0 ≤ℤ bq → pos 0 <ℤ lp → pos 0 ≤ℤ mb → IsMeeting lp lq ap aq bp bq
  end_left x y z w h k =
      let d = mul-nonneg dy mb (weak rise) k in
      let e = mul-nonneg lp bq (weak h) w in
      let q : lq ≤ℤ pos 0 = by_lt_z (pos 0) lq (λ n. absurd (omega (arith, ints, eb, d, e, mul-pos-neg lq bp n z))) (λ n. n) in
      left_first h q (omega (arith, ints, mul-nonneg lp aq (weak h) y, mul-np lq ap q x)) (omega (arith, ints, eb, d))

  pub end_right : pos 0 ≤ℤ ap → pos 0 ≤ℤ aq → bp <ℤ pos 0 → pos 0 ≤ℤ bq → lp ≤ℤ pos 0 → mb <ℤ pos 0 → IsMeeting lp lq ap aq bp bq
  end_right x y z w h k =
      let d = mul-pos-neg dy mb rise k in
      let e = mul-np lp bq h w in
      let q : pos 0 <ℤ lq = by_lt_z (pos 0) lq (λ n. n) (λ n. absurd (omega (arith, ints, eb, d, e, mul-nn lq bp n (weak z)))) in
      left_second h q (omega (arith, ints, mul-nonneg lq ap (weak q) x, mul-np lp aq h y)) (omega (arith, ints, eb, d))

  -- from a's height to q's
  pub start_left : ap <ℤ pos 0 → pos 0 ≤ℤ aq → bp ≤ℤ pos 0 → bq ≤ℤ pos 0 → ma <ℤ pos 0 → lq ≤ℤ pos 0 → IsMeeting lp lq ap aq bp bq
  start_left x y z w k h =
      let d = mul-pos-neg dy ma rise k in
      let e = mul-nn lq ap h (weak x) in
      let p : pos 0 <ℤ lp = by_lt_z (pos 0) lp (λ n. n) (λ n. absurd (omega (arith, ints, ea, d, e, mul-np lp aq n y))) in
      left_first p h (omega (arith, ints, ea, d)) (omega (arith, ints, mul-pn lp bq (weak p) w, mul-nn lq bp h z))

  pub start_right : ap <ℤ pos 0 → pos 0 ≤ℤ aq → bp ≤ℤ pos 0 → bq ≤ℤ pos 0 → pos 0 ≤ℤ ma → pos 0 <ℤ lq → IsMeeting lp lq ap aq bp bq
  start_right x y z w k h =
      let d = mul-nonneg dy ma (weak rise) k in
      let e = mul-pos-neg lq ap h x in
      let p : lp ≤ℤ pos 0 = by_lt_z (pos 0) lp (λ n. absurd (omega (arith, ints, ea, d, e, mul-nonneg lp aq (weak n) y))) (λ n. n) in
      left_second p h (omega (arith, ints, ea, d)) (omega (arith, ints, mul-pn lq bp (weak h) z, mul-nn lp bq p w))

  -- from a's height to b's: here the weights of the places tell their order too
  module _ (wp wq : ℤ) (posp : pos 0 <ℤ wp) (posq : pos 0 <ℤ wq) (hp : ap -ℤ bp ≡ wp *ℤ dy) (hq : aq -ℤ bq ≡ wq *ℤ dy) where
    slope : dy *ℤ (lq *ℤ wp -ℤ lp *ℤ wq) ≡ dy *ℤ (ma -ℤ mb)
    slope =
        let l : dy *ℤ (lq *ℤ wp -ℤ lp *ℤ wq) ≡ lq *ℤ (wp *ℤ dy) -ℤ lp *ℤ (wq *ℤ dy) = simp expand (omega (arith, polys)) in
        let m : lq *ℤ (ap -ℤ bp) -ℤ lp *ℤ (aq -ℤ bq) ≡ (lq *ℤ ap -ℤ lp *ℤ aq) -ℤ (lq *ℤ bp -ℤ lp *ℤ bq) = simp expand (omega (arith, polys)) in
        let n : dy *ℤ (ma -ℤ mb) ≡ dy *ℤ ma -ℤ dy *ℤ mb = simp expand (omega (arith, polys)) in
        let o : lq *ℤ (wp *ℤ dy) -ℤ lp *ℤ (wq *ℤ dy) ≡ dy *ℤ ma -ℤ dy *ℤ mb = rw (← hp, ← hq) (rw (← ea, ← eb) m) in
        l ∙ o ∙ sym n

    pub whole_left : ap <ℤ pos 0 → pos 0 ≤ℤ aq → bp <ℤ pos 0 → pos 0 ≤ℤ bq → ma <ℤ pos 0 → pos 0 ≤ℤ mb → IsMeeting lp lq ap aq bp bq
    whole_left x y z w k h =
        let d = mul-pos-neg dy ma rise k in
        let f = mul-nonneg dy mb (weak rise) h in
        let m : (ma -ℤ mb) <ℤ pos 0 = omega (arith, ints) in
        let o : (lq *ℤ wp -ℤ lp *ℤ wq) <ℤ pos 0 = neg-of-mul dy _ (weak rise) (rw slope (mul-pos-neg dy _ rise m)) in
        let p : pos 0 <ℤ lp = by_lt_z (pos 0) lp (λ n. n) (λ n. by_lt_z lq (pos 0)
        (λ q. absurd (omega (arith, ints, ea, d, mul-neg-neg lq ap q x, mul-np lp aq n y)))
        (λ q. absurd (omega (arith, ints, o, mul-nonneg lq wp q (weak posp), mul-np lp wq n (weak posq))))) in
        let q : lq ≤ℤ pos 0 = by_lt_z (pos 0) lq (λ n. absurd (omega (arith, ints, eb, f, mul-pos-neg lq bp n z, mul-nonneg lp bq (weak p) w))) (λ n. n) in
        left_first p q (omega (arith, ints, ea, d)) (omega (arith, ints, eb, f))

    pub whole_right : ap <ℤ pos 0 → pos 0 ≤ℤ aq → bp <ℤ pos 0 → pos 0 ≤ℤ bq → pos 0 ≤ℤ ma → mb <ℤ pos 0 → IsMeeting lp lq ap aq bp bq
    whole_right x y z w k h =
        let d = mul-nonneg dy ma (weak rise) k in
        let f = mul-pos-neg dy mb rise h in
        let m : pos 0 <ℤ (ma -ℤ mb) = omega (arith, ints) in
        let o : pos 0 <ℤ (lq *ℤ wp -ℤ lp *ℤ wq) = pos-of-mul dy _ (weak rise) (rw slope (mul-pos dy _ rise m)) in
        let q : pos 0 <ℤ lq = by_lt_z (pos 0) lq (λ n. n) (λ n. by_lt_z (pos 0) lp
        (λ p. absurd (omega (arith, ints, o, mul-np lq wp n (weak posp), mul-pos lp wq p posq)))
        (λ p. absurd (omega (arith, ints, eb, f, mul-nn lq bp n (weak z), mul-np lp bq p w)))) in
        let p : lp ≤ℤ pos 0 = by_lt_z (pos 0) lp (λ n. absurd (omega (arith, ints, ea, d, mul-pos-neg lq ap q x, mul-nonneg lp aq (weak n) y))) (λ n. n) in
        left_second p q (omega (arith, ints, ea, d)) (omega (arith, ints, eb, f))
