-- One more pair of edges: what was found stays sound, and that pair is found.
use Rattle.std.proofs.Common.{◌≡◌, refl, sym, ◌∙◌, subst, arith, ◌⊎◌, inl, inr, ℕ, ◌+◌, ◌<◌, ◌%◌, ◌≤◌, List, length, Bool, true, false}
use Rattle.std.specs.Prelude.{not, ◌&&◌, ◌||◌, IsTrue, ◌↔◌}
use lib.IntN.{pos}
use lib.Signed.{◌<ℤ◌}
use borrow.Author.Differences.{ints}
use Rattle.std.proofs.lemmas.Bool.{false≢true, cases_lt}
use Rattle.poly_exact.specs.declared.points.Point.{Point}
use Rattle.poly_exact.specs.declared.edges.Meeting.{Meeting}
use Rattle.poly_exact.specs.declared.edges.Meeting.TheVariants as meeting
use Rattle.de9im.specs.declared.scans.Contacts.{Contacts}
use Rattle.poly_exact.specs.Places.{Place, IsOnEdge, IsInside, bit}
use Rattle.poly_exact.specs.Rings.{vertex, next, crossings, IsOnRing, IsSimple}
use Rattle.de9im.specs.Matrix.{Common}
use Rattle.poly_exact.specs.Met.{AreApart, IsMet, Crossing}
use Rattle.poly_exact.specs.West.{IsWest, IsRing, flag}
use Rattle.de9im.specs.Scans.{IsLevel, Stretch, noted, IsSound, IsFull, IsMore, IsEdgeDone, IsDone, IsEdgeUnderWay, IsUnderWay}
use Rattle.poly_exact.specs.declared.rects.Rect.{Rect}
use Rattle.poly_exact.specs.Rects.{CoversAll, IsOff}
use Rattle.poly_exact.proofs.Pieces.{next-below}
use Rattle.poly_exact.proofs.Meets.{parted_crossing}
use Rattle.poly_exact.proofs.Covering.{off_apart}

-- ---- tests

or_first : (x y : Bool) → x ≡ true → (x || y) ≡ true
or_first true y e = refl
or_first false y e = absurd (false≢true e)

or_second : (x y : Bool) → y ≡ true → (x || y) ≡ true
or_second true y e = refl
or_second false y e = e

or_cases : (x y : Bool) → (x || y) ≡ true → (x ≡ true) ⊎ (y ≡ true)
or_cases true y e = inl refl
or_cases false y e = inr e

three : (x y z : Bool) → (x && (y && z)) ≡ true → (x ≡ true) × ((y ≡ true) × (z ≡ true))
three true true true e = (refl, (refl, refl))
three true true false e = absurd (false≢true e)
three true false z e = absurd (false≢true e)
three false y z e = absurd (false≢true e)

three_back : (x y z : Bool) → x ≡ true → y ≡ true → z ≡ true → (x && (y && z)) ≡ true
three_back x y z e f g = rw (e, f, g) refl

not_true : (x : Bool) → not x ≡ true → x ≡ true → ⊥
not_true true e f = false≢true e
not_true false e f = false≢true f

true_not : (x : Bool) → (x ≡ true → ⊥) → not x ≡ true
true_not true f = absurd (f refl)
true_not false f = refl

-- the parity that a flag stands for
even_of : (t : Bool) → t ≡ true → bit (not t) ≡ 0
even_of t e = rw e refl

odd_of : (t : Bool) → not t ≡ true → bit (not t) ≡ 1
odd_of t e = rw e refl

of_even : (t : Bool) (n : ℕ) → n ≡ bit (not t) → n ≡ 0 → t ≡ true
of_even true n e f = refl
of_even false n e f = absurd (omega arith)

of_odd : (t : Bool) (n : ℕ) → n ≡ bit (not t) → n ≡ 1 → not t ≡ true
of_odd true n e f = absurd (omega arith)
of_odd false n e f = refl

-- ---- the order of what is found

pub more_same : (f : Contacts) → IsMore f f
more_same f = record { meets = λ t. t; stretch = λ t. t; proper = λ t. t; ii = λ t. t; ie = λ t. t; ei = λ t. t }

pub more_then : (f g h : Contacts) → IsMore f g → IsMore g h → IsMore f h
more_then f g h a b = record {
  meets = λ t. b.meets (a.meets t);
  stretch = λ t. b.stretch (a.stretch t);
  proper = λ t. b.proper (a.proper t);
  ii = λ t. b.ii (a.ii t);
  ie = λ t. b.ie (a.ie t);
  ei = λ t. b.ei (a.ei t);
}

or_more : (x y u v : Bool) → (IsTrue x → IsTrue u) → (IsTrue y → IsTrue v) → IsTrue x ⊎ IsTrue y → IsTrue u ⊎ IsTrue v
or_more x y u v f g o = elim o [ inl t ↦ inl (f t) | inr t ↦ inr (g t) ]

pub full_more : (f g : Contacts) (vs ws : List Point) (i j : ℕ) → IsMore f g → IsFull f vs ws i j → IsFull g vs ws i j
full_more f g vs ws i j m h = record {
  meets = λ z w a b. m.meets (h.meets z w a b);
  stretch = λ s. m.stretch (h.stretch s);
  proper = λ a b. m.proper (h.proper a b);
  ii = λ s a b. or_more _ _ _ _ m.proper m.ii (h.ii s a b);
  ie = λ s a b. or_more _ _ _ _ m.proper m.ie (h.ie s a b);
  ei = λ s a b. or_more _ _ _ _ m.proper m.ei (h.ei s a b);
}

pub noted_more : (f : Contacts) (m : Meeting) (l t u : Bool) → IsMore f (noted f m l t u)
noted_more f meeting.Apart l t u = more_same f
noted_more f meeting.Touch l t u = record { meets = λ x. refl; stretch = λ x. x; proper = λ x. x; ii = λ x. x; ie = λ x. x; ei = λ x. x }
noted_more f meeting.Proper l t u = record { meets = λ x. refl; stretch = λ x. x; proper = λ x. refl; ii = λ x. x; ie = λ x. x; ei = λ x. x }
noted_more f meeting.Stretch l t u = record {
  meets = λ x. refl;
  stretch = λ x. refl;
  proper = λ x. x;
  ii = λ x. or_first f.ii _ x;
  ie = λ x. or_first f.ie _ x;
  ei = λ x. or_first f.ei _ x;
}

-- ---- one pair

module _ (vs ws : List Point) (e f : ℕ) (be : e < length vs) (bf : f < length ws) (sv : IsSimple vs) (sw : IsSimple ws) where
  abbrev pub a : Point
  a = vertex vs e

  abbrev pub b : Point
  b = vertex vs (next vs e)

  abbrev pub c : Point
  c = vertex ws f

  abbrev pub d : Point
  d = vertex ws (next ws f)

  common : (m : Place) → pos 0 <ℤ m.w → IsOnEdge a b m → IsOnEdge c d m → Common (IsOnRing vs) (IsOnRing ws)
  common m w i j = record { place = m; weight = w; first = record { edge = e; below = be; on = i }; second = record { edge = f; below = bf; on = j } }

  make : (x y : ℕ) → Crossing a b c d → (IsLevel a b c d → ⊥)
      → ((m : Place) → pos 0 <ℤ m.w → IsInside a b m → crossings vs m (length vs) % 2 ≡ x) → ((m : Place) → pos 0 <ℤ m.w → IsInside c d m → crossings ws m (length ws) % 2 ≡ y) → Stretch vs ws x y
  make x y k n p q = record {
    e = e;
    f = f;
    below_e = be;
    below_f = bf;
    level_e = λ z. n (inl z);
    level_f = λ z. n (inr z);
    m = k.m;
    weight = k.weight;
    inside_e = k.first;
    inside_f = k.second;
    count_e = p k.m k.weight k.first;
    count_f = q k.m k.weight k.second;
  }

  -- a stretch at these edges
  at_first : (x y : ℕ) (h : Stretch vs ws x y) → h.e ≡ e → IsInside a b h.m
  at_first x y h p = subst (λ k. IsInside (vertex vs k) (vertex vs (next vs k)) h.m) p h.inside_e

  at_second : (x y : ℕ) (h : Stretch vs ws x y) → h.f ≡ f → IsInside c d h.m
  at_second x y h q = subst (λ k. IsInside (vertex ws k) (vertex ws (next ws k)) h.m) q h.inside_f

  at_both : (x y : ℕ) (h : Stretch vs ws x y) → h.e ≡ e → h.f ≡ f → Crossing a b c d
  at_both x y h p q = record { m = h.m; weight = h.weight; first = at_first x y h p; second = at_second x y h q }

  -- edges that have no place in common
  pub full_apart : (g : Contacts) → AreApart a b c d → IsFull g vs ws e f
  full_apart g h = record {
    meets = λ z w i j. absurd (h.none z w i j);
    stretch = λ s. absurd (h.none s.p s.weight_p s.first_p s.second_p);
    proper = λ o r. (let k = parted_crossing a b c d (sv.proper e be) (sw.proper f bf) o r in absurd (h.none k.m k.weight k.first.on k.second.on));
    ii = λ s p q. (let k = at_both 0 0 s p q in absurd (h.none k.m k.weight k.first.on k.second.on));
    ie = λ s p q. (let k = at_both 0 1 s p q in absurd (h.none k.m k.weight k.first.on k.second.on));
    ei = λ s p q. (let k = at_both 1 0 s p q in absurd (h.none k.m k.weight k.first.on k.second.on));
  }

  module _ (l t u : Bool) (level : IsTrue l ↔ IsLevel a b c d) (wt : IsWest vs e t) (wu : IsWest ws f u) where
    not_level : not l ≡ true → IsLevel a b c d → ⊥
    not_level n o = not_true l n (level.1 o)

    stretch_ii : Crossing a b c d → (not l && (t && u)) ≡ true → Stretch vs ws 0 0
    stretch_ii k o = let r = three _ _ _ o in make 0 0 k (not_level r.0) (λ m w i. wt.counts m w i ∙ even_of t r.1.0) (λ m w i. wu.counts m w i ∙ even_of u r.1.1)

    stretch_ie : Crossing a b c d → (not l && (t && not u)) ≡ true → Stretch vs ws 0 1
    stretch_ie k o = let r = three _ _ _ o in make 0 1 k (not_level r.0) (λ m w i. wt.counts m w i ∙ even_of t r.1.0) (λ m w i. wu.counts m w i ∙ odd_of u r.1.1)

    stretch_ei : Crossing a b c d → (not l && (not t && u)) ≡ true → Stretch vs ws 1 0
    stretch_ei k o = let r = three _ _ _ o in make 1 0 k (not_level r.0) (λ m w i. wt.counts m w i ∙ odd_of t r.1.0) (λ m w i. wu.counts m w i ∙ even_of u r.1.1)

    pub noted_sound : (g : Contacts) (m : Meeting) → IsMet m a b c d → IsSound g vs ws → IsSound (noted g m l t u) vs ws
    noted_sound g meeting.Apart h s = s
    noted_sound g meeting.Touch h s = record { meets = λ x. common h.m h.weight h.first h.second; stretch = s.stretch; proper = s.proper; ii = s.ii; ie = s.ie; ei = s.ei }
    noted_sound g meeting.Proper h s =
        let k = h.crossing in
        record { meets = λ x. common k.m k.weight k.first.on k.second.on; stretch = s.stretch; proper = λ x. record { e = e; f = f; below_e = be; below_f = bf; holds = h }; ii = s.ii; ie = s.ie; ei = s.ei }
    noted_sound g meeting.Stretch h s =
        let k = h.crossing in
        record {
          meets = λ x. common k.m k.weight k.first.on k.second.on;
          stretch = λ x. record { e = e; f = f; below_e = be; below_f = bf; holds = h.shares };
          proper = s.proper;
          ii = λ x. elim (or_cases g.ii _ x) [ inl y ↦ s.ii y | inr y ↦ stretch_ii k y ];
          ie = λ x. elim (or_cases g.ie _ x) [ inl y ↦ s.ie y | inr y ↦ stretch_ie k y ];
          ei = λ x. elim (or_cases g.ei _ x) [ inl y ↦ s.ei y | inr y ↦ stretch_ei k y ];
        }

    slant : (x y : ℕ) (h : Stretch vs ws x y) → h.e ≡ e → h.f ≡ f → not l ≡ true
    slant x y h p q = true_not l (λ z. elim (level.0 z) [
      | inl o ↦ h.level_e (subst (λ k. (vertex vs k).y ≡ (vertex vs (next vs k)).y) (sym p) o)
      | inr o ↦ h.level_f (subst (λ k. (vertex ws k).y ≡ (vertex ws (next ws k)).y) (sym q) o)
    ])

    pub noted_full : (g : Contacts) (m : Meeting) → IsMet m a b c d → IsFull (noted g m l t u) vs ws e f
    noted_full g meeting.Apart h = full_apart g h
    noted_full g meeting.Touch h = record {
      meets = λ z w i j. refl;
      stretch = λ s. absurd (s.differ (h.lone.same s.p s.q s.weight_p s.weight_q s.first_p s.second_p s.first_q s.second_q));
      proper = λ o r. absurd (h.outer (parted_crossing a b c d (sv.proper e be) (sw.proper f bf) o r));
      ii = λ s p q. absurd (h.outer (at_both 0 0 s p q));
      ie = λ s p q. absurd (h.outer (at_both 0 1 s p q));
      ei = λ s p q. absurd (h.outer (at_both 1 0 s p q));
    }
    noted_full g meeting.Proper h = record {
      meets = λ z w i j. refl;
      stretch = λ s. absurd (s.differ (h.lone.same s.p s.q s.weight_p s.weight_q s.first_p s.second_p s.first_q s.second_q));
      proper = λ o r. refl;
      ii = λ s p q. inl refl;
      ie = λ s p q. inl refl;
      ei = λ s p q. inl refl;
    }
    noted_full g meeting.Stretch h = record {
      meets = λ z w i j. refl;
      stretch = λ s. refl;
      proper = λ o r. (let x = h.flat_c in absurd (elim r [ inl k ↦ (let y = k.0 in omega (arith, ints)) | inr k ↦ (let y = k.0 in omega (arith, ints)) ]));
      ii = λ s p q. inr (or_second g.ii _ (three_back _ _ _ (slant 0 0 s p q) (of_even t _ (wt.counts s.m s.weight (at_first 0 0 s p)) s.count_e) (of_even u _ (wu.counts s.m s.weight (at_second 0 0 s q)) s.count_f)));
      ie = λ s p q. inr (or_second g.ie _ (three_back _ _ _ (slant 0 1 s p q) (of_even t _ (wt.counts s.m s.weight (at_first 0 1 s p)) s.count_e) (of_odd u _ (wu.counts s.m s.weight (at_second 0 1 s q)) s.count_f)));
      ei = λ s p q. inr (or_second g.ei _ (three_back _ _ _ (slant 1 0 s p q) (of_odd t _ (wt.counts s.m s.weight (at_first 1 0 s p)) s.count_e) (of_even u _ (wu.counts s.m s.weight (at_second 1 0 s q)) s.count_f)));
    }

-- ---- for the loops

pub edge_done_none : (g : Contacts) (vs ws : List Point) (e : ℕ) → IsEdgeDone g vs ws e 0
edge_done_none g vs ws e = record { full = λ f h. absurd (omega arith) }

pub edge_done_more : (g h : Contacts) (vs ws : List Point) (e k : ℕ) → IsMore g h → IsEdgeDone g vs ws e k → IsFull h vs ws e k → IsEdgeDone h vs ws e (k + 1)
edge_done_more g h vs ws e k m d x = record {
  full = λ f b. elim (cases_lt f k) [ inl y ↦ full_more g h vs ws e f m (d.full f y) | inr y ↦ (let i : f ≡ k = omega arith in subst (λ j. IsFull h vs ws e j) (sym i) x) ];
}

pub done_none : (g : Contacts) (vs ws : List Point) → IsDone g vs ws 0
done_none g vs ws = record { full = λ e f h b. absurd (omega arith) }

pub done_more : (g h : Contacts) (vs ws : List Point) (k : ℕ) → IsMore g h → IsDone g vs ws k → IsEdgeDone h vs ws k (length ws) → IsDone h vs ws (k + 1)
done_more g h vs ws k m d x = record {
  full = λ e f b c. elim (cases_lt e k) [ inl y ↦ full_more g h vs ws e f m (d.full e f y c) | inr y ↦ (let i : e ≡ k = omega arith in subst (λ j. IsFull h vs ws j f) (sym i) (x.full f c)) ];
}

pub edge_start : (g : Contacts) (vs ws : List Point) (e : ℕ) → IsSound g vs ws → IsEdgeUnderWay g g vs ws e 0
edge_start g vs ws e s = record { sound = s; more = more_same g; done = edge_done_none g vs ws e }

pub edge_step : (vs ws : List Point) (west other : List Bool) → IsRing vs west → IsRing ws other → (e f ne nf : ℕ) → e < length vs → f < length ws → ne ≡ next vs e → nf ≡ next ws f
    → (start g r : Contacts) (m : Meeting) (l : Bool) → IsMet m (vertex vs e) (vertex vs ne) (vertex ws f) (vertex ws nf) → (IsTrue l ↔ IsLevel (vertex vs e) (vertex vs ne) (vertex ws f) (vertex ws nf))
    → r ≡ noted g m l (flag west e) (flag other f) → IsEdgeUnderWay start g vs ws e f → IsEdgeUnderWay start r vs ws e (f + 1)
edge_step vs ws west other rv rw' e f ne nf be bf p q start g r m l met lev same h =
    let met' = subst (λ j. IsMet m (vertex vs e) (vertex vs (next vs e)) (vertex ws f) (vertex ws j)) q (subst (λ i. IsMet m (vertex vs e) (vertex vs i) (vertex ws f) (vertex ws nf)) p met) in
    let lev' = subst (λ j. IsTrue l ↔ IsLevel (vertex vs e) (vertex vs (next vs e)) (vertex ws f) (vertex ws j)) q (subst (λ i. IsTrue l ↔ IsLevel (vertex vs e) (vertex vs i) (vertex ws f) (vertex ws nf)) p lev) in
    let t = flag west e in let u = flag other f in
    let wt = rv.sides e be in let wu = rw'.sides f bf in
    let n = noted_more g m l t u in
    subst (λ x. IsEdgeUnderWay start x vs ws e (f + 1)) (sym same) (record {
      sound = noted_sound vs ws e f be bf rv.simple rw'.simple l t u lev' wt wu g m met' h.sound;
      more = more_then start g (noted g m l t u) h.more n;
      done = edge_done_more g (noted g m l t u) vs ws e f n h.done (noted_full vs ws e f be bf rv.simple rw'.simple l t u lev' wt wu g m met');
    })

pub edge_skip : (vs ws : List Point) (west other : List Bool) → IsRing vs west → IsRing ws other → (e f ne nf : ℕ) → e < length vs → f < length ws → ne ≡ next vs e → nf ≡ next ws f
    → (start g : Contacts) → AreApart (vertex vs e) (vertex vs ne) (vertex ws f) (vertex ws nf) → IsEdgeUnderWay start g vs ws e f → IsEdgeUnderWay start g vs ws e (f + 1)
edge_skip vs ws west other rv rw' e f ne nf be bf p q start g x h =
    let x' = subst (λ j. AreApart (vertex vs e) (vertex vs (next vs e)) (vertex ws f) (vertex ws j)) q (subst (λ i. AreApart (vertex vs e) (vertex vs i) (vertex ws f) (vertex ws nf)) p x) in
    record {
      sound = h.sound;
      more = h.more;
      done = edge_done_more g g vs ws e f (more_same g) h.done (full_apart vs ws e f be bf rv.simple rw'.simple g x');
    }

-- ---- the loop over the edges

pub scan_skip : (vs ws : List Point) (e n : ℕ) → IsSimple vs → IsSimple ws → e < length vs → n ≡ next vs e → (g : Contacts) (f : Rect) → CoversAll f ws → IsOff (vertex vs e) (vertex vs n) f → IsUnderWay g vs ws e → IsUnderWay g vs ws (e + 1)
scan_skip vs ws e n sv sw be en g f fr o h =
    let o' = subst (λ i. IsOff (vertex vs e) (vertex vs i) f) en o in
    record {
      sound = h.sound;
      done = done_more g g vs ws e (more_same g) h.done (record { full = λ k b. full_apart vs ws e k be b sv sw g (off_apart _ _ _ _ f (fr.each k b) (fr.each (next ws k) (next-below ws k b)) o') });
    }

pub scan_start : (vs ws : List Point) → IsUnderWay (record { meets = false; stretch = false; proper = false; ii = false; ie = false; ei = false }) vs ws 0
scan_start vs ws = record {
  sound = record { meets = λ t. absurd (false≢true t); stretch = λ t. absurd (false≢true t); proper = λ t. absurd (false≢true t); ii = λ t. absurd (false≢true t); ie = λ t. absurd (false≢true t); ei = λ t. absurd (false≢true t) };
  done = done_none _ vs ws;
}

pub scan_step : (g r : Contacts) (vs ws : List Point) (k : ℕ) → IsUnderWay g vs ws k → IsSound r vs ws → IsMore g r → IsEdgeDone r vs ws k (length ws) → IsUnderWay r vs ws (k + 1)
scan_step g r vs ws k h s m d = record { sound = s; done = done_more g r vs ws k m h.done d }

pub edge_end : (g r : Contacts) (vs ws : List Point) (e k : ℕ) → length ws ≤ k → k ≤ length ws → IsEdgeUnderWay g r vs ws e k → IsEdgeDone r vs ws e (length ws)
edge_end g r vs ws e k a b h = let i : k ≡ length ws = omega arith in subst (λ j. IsEdgeDone r vs ws e j) i h.done

pub scan_end : (r : Contacts) (vs ws : List Point) (k : ℕ) → length vs ≤ k → k ≤ length vs → IsUnderWay r vs ws k → IsDone r vs ws (length vs)
scan_end r vs ws k a b h = let i : k ≡ length vs = omega arith in subst (λ j. IsDone r vs ws j) i h.done
