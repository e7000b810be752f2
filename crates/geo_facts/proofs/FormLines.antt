-- The points and rings of a line, token by token.
use Rattle.std.proofs.Common.{◌≡◌, ℕ, zero, suc, ◌<◌, ◌≤◌, ◌⊎◌, inl, inr, ℤ, Bool, true, false, cond, List, [], ◌∷◌, ◌++◌, length, Option, Some, None, option_map, option_and_then, is_some, IfSome, refl, sym, ap, ◌∙◌, arith, append_assoc}
use Rattle.std.specs.Prelude.{unwrap_or}
use Rattle.std.proofs.lemmas.Option.{same_Some}
use Rattle.qsr_lex.specs.Lexemes.{Lexeme}
use Rattle.qsr_lex.specs.Numbers.{signed_of}
use Rattle.qsr_lex.specs.LineTokens.{is_same_kind, after_kind, is_name_token, name_at}
use Rattle.qsr_lex.specs.declared.tokens.TokenKind.{TokenKind}
use Rattle.qsr_lex.specs.declared.tokens.TokenKind.TheVariants.{Word, Open, Close, Comma}
use Rattle.poly_exact.specs.declared.points.Point.{Point}
use Rattle.geo_facts.specs.LineForm.{point_from, coordinate_at, point_at, coordinate_of, point_of, points_until_close, ring_at, after_rings, after_all_rings, starts_with_comma}

-- what was found, with what stands after it
abbrev found_number : List Lexeme → ℤ → ℤ × List Lexeme
found_number rest n = (n, rest)

abbrev found_name : List Lexeme → List ℕ → List ℕ × List Lexeme
found_name rest name = (name, rest)

abbrev found_point : List Lexeme → Point → Point × List Lexeme
found_point rest p = (p, rest)

abbrev found_points : List Lexeme → List Point → List Point × List Lexeme
found_points rest points = (points, rest)

-- a point in front of the others that were found
abbrev pub put_first : Point → List Point × List Lexeme → List Point × List Lexeme
put_first p found = (p ∷ found.0, found.1)

-- ---- one point

abbrev number_of_word : List ℕ × List Lexeme → Option (ℤ × List Lexeme)
number_of_word word = option_map (found_number word.1) (signed_of word.0)

coordinate_at-cons : (x : Lexeme) (xs : List Lexeme) → coordinate_at (x ∷ xs) ≡ option_map (found_number xs) (coordinate_of x)
coordinate_at-cons x xs = by (is_same_kind x.kind Word)
  where
    by : (a : Bool) → option_and_then number_of_word (cond a (Some (x.text, xs)) None)
        ≡ option_map (found_number xs) (cond a (signed_of x.text) None)
    by true = refl
    by false = refl

-- the second coordinate of a point
abbrev second_of : ℤ → ℤ × List Lexeme → Point × List Lexeme
second_of x y = (point_from x y.0, y.1)

abbrev second : ℤ × List Lexeme → Option (Point × List Lexeme)
second x = option_map (second_of x.0) (coordinate_at x.1)

point_at-cons : (x y : Lexeme) (rest : List Lexeme) → point_at (x ∷ y ∷ rest) ≡ option_map (found_point rest) (point_of x y)
point_at-cons x y rest = ap (option_and_then second) (coordinate_at-cons x (y ∷ rest)) ∙ by (coordinate_of x)
  where
    by : (o : Option ℤ) → option_and_then second (option_map (found_number (y ∷ rest)) o)
        ≡ option_map (found_point rest) (option_and_then (λ a. option_map (point_from a) (coordinate_of y)) o)
    by None = refl
    by (Some a) = ap (option_map (second_of a)) (coordinate_at-cons y rest) ∙ then (coordinate_of y)
      where
        then : (o : Option ℤ) → option_map (second_of a) (option_map (found_number rest) o)
            ≡ option_map (found_point rest) (option_map (point_from a) o)
        then None = refl
        then (Some b) = refl

point_at-one : (x : Lexeme) → point_at (x ∷ []) ≡ None
point_at-one x = ap (option_and_then second) (coordinate_at-cons x []) ∙ by (coordinate_of x)
  where
    by : (o : Option ℤ) → option_and_then second (option_map (found_number []) o) ≡ None
    by None = refl
    by (Some a) = refl

-- a point that was found, and what stands after it
record IsFound (o : Option Point) (after : List Lexeme) (p : Point) (rest : List Lexeme) : Type 0 where
  point : o ≡ Some p
  after_it : after ≡ rest

found : (o : Option Point) (after rest : List Lexeme) (p : Point) → option_map (found_point after) o ≡ Some (p, rest) → IsFound o after p rest
found None after rest p h = cc
found (Some q) after rest p h =
    let e = same_Some (q, after) (p, rest) h in
    record { point = ap (λ t. Some t.0) e; after_it = ap (λ t. t.1) e }

-- the points that go on with this one, in front of these tokens
abbrev pub after_point : Point → List Lexeme → Option (List Point × List Lexeme)
after_point p [] = None
after_point p (mark ∷ rest) =
    cond (is_same_kind mark.kind Close) (Some (found_points rest (p ∷ [])))
    (cond (is_same_kind mark.kind Comma) (option_map (put_first p) (points_until_close rest)) None)

pub points-step : (tokens rest : List Lexeme) (p : Point) → point_at tokens ≡ Some (p, rest) → points_until_close tokens ≡ after_point p rest
points-step [] rest p h = cc
points-step (x ∷ []) rest p h = let e = point_at-one x in cc
points-step (x ∷ y ∷ []) rest p h =
    let f = found (point_of x y) [] rest p (sym (point_at-cons x y []) ∙ h) in
    ap (after_point p) f.after_it
points-step (x ∷ y ∷ mark ∷ after) rest p h =
    let f = found (point_of x y) (mark ∷ after) rest p (sym (point_at-cons x y (mark ∷ after)) ∙ h) in
    ap (option_and_then (λ q. after_point q (mark ∷ after))) f.point ∙ ap (after_point p) f.after_it

pub point-less : (tokens rest : List Lexeme) (p : Point) → point_at tokens ≡ Some (p, rest) → length rest < length tokens
point-less [] rest p h = cc
point-less (x ∷ []) rest p h = let e = point_at-one x in cc
point-less (x ∷ y ∷ after) rest p h =
    let f = found (point_of x y) after rest p (sym (point_at-cons x y after) ∙ h) in
    omega (arith, ap length f.after_it)

pub points-none : (tokens : List Lexeme) → point_at tokens ≡ None → points_until_close tokens ≡ None
points-none [] h = refl
points-none (x ∷ []) h = refl
points-none (x ∷ y ∷ []) h = refl
points-none (x ∷ y ∷ mark ∷ after) h = by (point_of x y) (sym (point_at-cons x y (mark ∷ after)) ∙ h)
  where
    by : (o : Option Point) → option_map (found_point (mark ∷ after)) o ≡ None → option_and_then (λ q. after_point q (mark ∷ after)) o ≡ None
    by None e = refl
    by (Some q) e = cc

-- ---- the token after a point

pub after_kind-less : (kind : TokenKind) (tokens rest : List Lexeme) → after_kind kind tokens ≡ Some rest → length rest < length tokens
after_kind-less kind [] rest h = cc
after_kind-less kind (x ∷ xs) rest h = by (is_same_kind x.kind kind) h
  where
    by : (b : Bool) → cond b (Some xs) None ≡ Some rest → length rest < length (x ∷ xs)
    by true e = omega (arith, ap length (same_Some xs rest e))
    by false e = cc

pub close-step : (p : Point) (tokens rest : List Lexeme) → after_kind Close tokens ≡ Some rest → after_point p tokens ≡ Some (found_points rest (p ∷ []))
close-step p [] rest h = cc
close-step p (x ∷ xs) rest h = by (is_same_kind x.kind Close) h
  where
    by : (b : Bool) → cond b (Some xs) None ≡ Some rest →
        cond b (Some (found_points xs (p ∷ []))) (cond (is_same_kind x.kind Comma) (option_map (put_first p) (points_until_close xs)) None) ≡ Some (found_points rest (p ∷ []))
    by true e = ap (λ ts. Some (found_points ts (p ∷ []))) (same_Some xs rest e)
    by false e = cc

not_closed : (b : Bool) (xs : List Lexeme) → cond b (Some xs) None ≡ None → b ≡ false
not_closed true xs e = cc
not_closed false xs e = refl

pub comma-step : (p : Point) (tokens rest : List Lexeme) → after_kind Close tokens ≡ None → after_kind Comma tokens ≡ Some rest →
    after_point p tokens ≡ option_map (put_first p) (points_until_close rest)
comma-step p [] rest h k = cc
comma-step p (x ∷ xs) rest h k =
    ap (λ b. cond b (Some (found_points xs (p ∷ []))) (cond (is_same_kind x.kind Comma) (option_map (put_first p) (points_until_close xs)) None)) (not_closed (is_same_kind x.kind Close) xs h)
    ∙ by (is_same_kind x.kind Comma) k
  where
    by : (b : Bool) → cond b (Some xs) None ≡ Some rest →
        cond b (option_map (put_first p) (points_until_close xs)) None ≡ option_map (put_first p) (points_until_close rest)
    by true e = ap (λ ts. option_map (put_first p) (points_until_close ts)) (same_Some xs rest e)
    by false e = cc

pub no-step : (p : Point) (tokens : List Lexeme) → after_kind Close tokens ≡ None → after_kind Comma tokens ≡ None → after_point p tokens ≡ None
no-step p [] h k = refl
no-step p (x ∷ xs) h k =
    ap (λ b. cond b (Some (found_points xs (p ∷ []))) (cond (is_same_kind x.kind Comma) (option_map (put_first p) (points_until_close xs)) None)) (not_closed (is_same_kind x.kind Close) xs h)
    ∙ ap (λ b. cond b (option_map (put_first p) (points_until_close xs)) None) (not_closed (is_same_kind x.kind Comma) xs k)

-- ---- points after others

abbrev pub with_points : List Point → Option (List Point × List Lexeme) → Option (List Point × List Lexeme)
with_points before found = option_map (λ f. (before ++ f.0, f.1)) found

pub with_points-none : (found : Option (List Point × List Lexeme)) → with_points [] found ≡ found
with_points-none None = refl
with_points-none (Some f) = refl

pub with_points-more : (before : List Point) (p : Point) (found : Option (List Point × List Lexeme)) →
    with_points (before ++ p ∷ []) found ≡ with_points before (option_map (put_first p) found)
with_points-more before p None = refl
with_points-more before p (Some f) = ap (λ ps. Some (ps, f.1)) (append_assoc before (p ∷ []) f.0)

-- ---- rings

points-shorter : (tokens : List Lexeme) → IfSome (points_until_close tokens) (λ f. length f.1 ≤ length tokens)
points-shorter [] = tt
points-shorter (x ∷ []) = tt
points-shorter (x ∷ y ∷ []) = tt
points-shorter (x ∷ y ∷ mark ∷ rest) = by (point_of x y) (is_same_kind mark.kind Close) (is_same_kind mark.kind Comma) (points_until_close rest) (points-shorter rest)
  where
    by : (o : Option Point) (a b : Bool) (more : Option (List Point × List Lexeme)) → IfSome more (λ f. length f.1 ≤ length rest) →
        IfSome {T = List Point × List Lexeme} (option_and_then (λ p. cond a (Some (found_points rest (p ∷ []))) (cond b (option_map (put_first p) more) None)) o) (λ f. length f.1 ≤ length (x ∷ y ∷ mark ∷ rest))
    by None a b more h = tt
    by (Some p) true b more h = omega arith
    by (Some p) false false more h = tt
    by (Some p) false true None h = tt
    by (Some p) false true (Some f) h = omega (arith, h)

ring-shorter : (tokens : List Lexeme) → IfSome (ring_at tokens) (λ f. length f.1 ≤ length tokens)
ring-shorter tokens = by (after_kind Open tokens) refl
  where
    by : (o : Option (List Lexeme)) → after_kind Open tokens ≡ o → IfSome (option_and_then points_until_close o) (λ f. length f.1 ≤ length tokens)
    by None e = tt
    by (Some rest) e = then (points_until_close rest) (points-shorter rest) (after_kind-less Open tokens rest e)
      where
        then : (found : Option (List Point × List Lexeme)) → IfSome found (λ f. length f.1 ≤ length rest) → length rest < length tokens → IfSome found (λ f. length f.1 ≤ length tokens)
        then None h k = tt
        then (Some f) h k = omega (arith, h, k)

-- what follows a comma
abbrev further : ℕ → List Lexeme → Option (List Lexeme)
further n more = option_and_then (λ ring. after_rings n ring.1) (ring_at more)

-- as many looks as there are tokens are enough
rings-enough : (n m : ℕ) (tokens : List Lexeme) → length tokens ≤ n → length tokens ≤ m → after_rings n tokens ≡ after_rings m tokens
unfolding after_rings
rings-enough zero zero tokens h k = refl
rings-enough zero (suc m) [] h k = refl
rings-enough zero (suc m) (x ∷ xs) h k = absurd (omega arith)
rings-enough (suc n) zero [] h k = refl
rings-enough (suc n) zero (x ∷ xs) h k = absurd (omega arith)
rings-enough (suc n) (suc m) tokens h k = by (rings-enough n m) (after_kind Comma tokens) refl
  where
    by : ((ts : List Lexeme) → length ts ≤ n → length ts ≤ m → after_rings n ts ≡ after_rings m ts) → (o : Option (List Lexeme)) → after_kind Comma tokens ≡ o → unwrap_or (option_map (further n) o) (Some tokens) ≡ unwrap_or (option_map (further m) o) (Some tokens)
    by same None e = refl
    by same (Some more) e = then (ring_at more) (ring-shorter more) (after_kind-less Comma tokens more e)
      where
        then : (found : Option (List Point × List Lexeme)) → IfSome found (λ f. length f.1 ≤ length more) → length more < length tokens →
            option_and_then (λ ring. after_rings n ring.1) found ≡ option_and_then (λ ring. after_rings m ring.1) found
        then None a b = refl
        then (Some f) a b = same f.1 (omega (arith, a, b)) (omega (arith, a, b))

pub rings-step : (tokens more rest : List Lexeme) (points : List Point) → after_kind Comma tokens ≡ Some more → ring_at more ≡ Some (points, rest) →
    length rest ≤ length more → after_all_rings tokens ≡ after_all_rings rest
unfolding after_rings
rings-step [] more rest points h k less = cc
rings-step (x ∷ xs) more rest points h k less =
    ap (λ o. unwrap_or (option_map (further (length xs)) o) (Some (x ∷ xs))) h
    ∙ ap (option_and_then (λ ring. after_rings (length xs) ring.1)) k
    ∙ (let l = after_kind-less Comma (x ∷ xs) more h in rings-enough (length xs) (length rest) rest (omega arith) (omega arith))

pub rings-bad : (tokens more : List Lexeme) → after_kind Comma tokens ≡ Some more → ring_at more ≡ None → after_all_rings tokens ≡ None
unfolding after_rings
rings-bad [] more h k = cc
rings-bad (x ∷ xs) more h k =
    ap (λ o. unwrap_or (option_map (further (length xs)) o) (Some (x ∷ xs))) h ∙ ap (option_and_then (λ ring. after_rings (length xs) ring.1)) k

pub rings-end : (tokens : List Lexeme) → after_kind Comma tokens ≡ None → after_all_rings tokens ≡ Some tokens
unfolding after_rings
rings-end [] h = refl
rings-end (x ∷ xs) h = ap (λ o. unwrap_or (option_map (further (length xs)) o) (Some (x ∷ xs))) h

-- whether a further ring was passed
abbrev pub IsHole : Bool → List Lexeme → List Lexeme → Type 0
IsHole hole old new = ((hole ≡ false) × (new ≡ old)) ⊎ ((hole ≡ true) × (starts_with_comma old ≡ true))

pub IsHole-more : (hole : Bool) (old tokens more new : List Lexeme) → after_kind Comma tokens ≡ Some more → IsHole hole old tokens → IsHole true old new
IsHole-more hole old tokens more new h (inl e) = inr (refl, ap is_some (ap (after_kind Comma) (sym e.1) ∙ h))
IsHole-more hole old tokens more new h (inr e) = inr (refl, e.1)

pub IsHole-end : (hole : Bool) (old tokens : List Lexeme) → after_kind Comma tokens ≡ None → IsHole hole old tokens → hole ≡ starts_with_comma old
IsHole-end hole old tokens h (inl e) = e.0 ∙ sym (ap is_some (ap (after_kind Comma) (sym e.1) ∙ h))
IsHole-end hole old tokens h (inr e) = e.0 ∙ sym e.1

-- ---- a loop over points

module _ (points : List Point) (p : Point) (tokens mid : List Lexeme) (told : Option (List Point × List Lexeme)) (before : with_points points (points_until_close tokens) ≡ told) (here : point_at tokens ≡ Some (p, mid)) where
  pub points_told-more : (now : List Point) (new : List Lexeme) → after_kind Close mid ≡ None → after_kind Comma mid ≡ Some new → now ≡ points ++ p ∷ [] →
      with_points now (points_until_close new) ≡ told
  points_told-more now new h k e =
      ap (λ ps. with_points ps (points_until_close new)) e
      ∙ with_points-more points p (points_until_close new)
      ∙ ap (with_points points) (sym (points-step tokens mid p here ∙ comma-step p mid new h k))
      ∙ before

  pub points_told-end : (now : List Point) (new : List Lexeme) → after_kind Close mid ≡ Some new → now ≡ points ++ p ∷ [] → told ≡ Some (now, new)
  points_told-end now new h e =
      sym before ∙ ap (with_points points) (points-step tokens mid p here ∙ close-step p mid new h) ∙ ap (λ ps. Some (found_points new ps)) (sym e)

  pub points_told-neither : after_kind Close mid ≡ None → after_kind Comma mid ≡ None → told ≡ None
  points_told-neither h k = sym before ∙ ap (with_points points) (points-step tokens mid p here ∙ no-step p mid h k)

pub points_told-none : (points : List Point) (tokens : List Lexeme) (told : Option (List Point × List Lexeme)) → with_points points (points_until_close tokens) ≡ told →
    point_at tokens ≡ None → told ≡ None
points_told-none points tokens told before h = sym before ∙ ap (with_points points) (points-none tokens h)

-- ---- how many tokens are left

pub name_at-less : (tokens rest : List Lexeme) (name : List ℕ) → name_at tokens ≡ Some (name, rest) → length rest < length tokens
name_at-less [] rest name h = cc
name_at-less (x ∷ xs) rest name h = by (is_name_token x) h
  where
    by : (b : Bool) → cond b (Some (found_name xs x.text)) None ≡ Some (found_name rest name) → length rest < length (x ∷ xs)
    by true e = omega (arith, ap (λ t. length t.1) (same_Some (found_name xs x.text) (found_name rest name) e))
    by false e = cc
