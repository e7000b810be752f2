-- The table of RCC-8 is that of the rules, by a test that computes.
use Rattle.std.proofs.Common.{◌≡◌, ℕ, ◌<◌, Bool, true, false, not, ◌&&◌, ◌||◌, eqb, refl, sym, ap, ◌∙◌, inl, inr, arith}
use Rattle.std.specs.Int.{bit_at}
use Rattle.std.proofs.lemmas.Bool.{and_parts, and_from, or_left, or_right, or_cases, not-true, not_from_false}
use Rattle.std.proofs.lemmas.Bool.{both_ways, eqb-true, eq-eqb, cases_Bool}
use Rattle.calculus_table.specs.Rel.{Has}
use Rattle.calculus_table.specs.Algebra.{converse_at, entry_at}
use Rattle.calculus_table.specs.Checked.{each_triple}
use Rattle.calculus_table.proofs.Computed.{each_triple-at}
use Rattle.calculus_builtin.specs.Rcc8.{rcc8_table, rcc8_algebra}
use Rattle.geo_sound.specs.Rules.{parts, inner_parts, apart, far_apart, Follow, FollowRules}
use Rattle.geo_sound.specs.Laws.{TableIsOfRules}

-- ---- the rules as tests

abbrev pub has : ℕ → ℕ → Bool
has a r = eqb (bit_at a r) 1

abbrev keeps : ℕ → ℕ → ℕ → ℕ → ℕ → ℕ → Bool
keeps a b c r s t = not (has a r && has b s) || has c t

keeps-from : (a b c r s t : ℕ) → (Has a r → Has b s → Has c t) → keeps a b c r s t ≡ true
keeps-from a b c r s t f = elim (cases_Bool (has a r && has b s)) [
  | inl e ↦ (let p = and_parts (has a r) (has b s) e in
      or_right (not (has a r && has b s)) (has c t) (eq-eqb (bit_at c t) 1
      (f (eqb-true (bit_at a r) 1 p.0) (eqb-true (bit_at b s) 1 p.1))))
  | inr e ↦ or_left (not (has a r && has b s)) (has c t) (not_from_false (has a r && has b s) e)
]

keeps-then : (a b c r s t : ℕ) → keeps a b c r s t ≡ true → Has a r → Has b s → Has c t
keeps-then a b c r s t e h g = elim (or_cases (not (has a r && has b s)) (has c t) e) [
  | inl n ↦ absurd (both_ways (has a r && has b s) (not-true (has a r && has b s) n)
      (and_from (has a r) (has b s) (eq-eqb (bit_at a r) 1 h) (eq-eqb (bit_at b s) 1 g)))
  | inr y ↦ eqb-true (bit_at c t) 1 y
]

-- six tests
abbrev all_six : Bool → Bool → Bool → Bool → Bool → Bool → Bool
all_six a b c d e f = a && (b && (c && (d && (e && f))))

all_six-from : (a b c d e f : Bool) → a ≡ true → b ≡ true → c ≡ true → d ≡ true → e ≡ true → f ≡ true →
    all_six a b c d e f ≡ true
all_six-from a b c d e f ha hb hc hd he hf =
    and_from a _ ha (and_from b _ hb (and_from c _ hc (and_from d _ hd (and_from e f he hf))))

record AllSix (a b c d e f : Bool) : Type 0 where
  one : a ≡ true
  two : b ≡ true
  three : c ≡ true
  four : d ≡ true
  five : e ≡ true
  six : f ≡ true

all_six-parts : (a b c d e f : Bool) → all_six a b c d e f ≡ true → AllSix a b c d e f
all_six-parts a b c d e f h =
    let p = and_parts a (b && (c && (d && (e && f)))) h in
    let q = and_parts b (c && (d && (e && f))) p.1 in
    let r = and_parts c (d && (e && f)) q.1 in
    let s = and_parts d (e && f) r.1 in
    let t = and_parts e f s.1 in
    record { one = p.0; two = q.0; three = r.0; four = s.0; five = t.0; six = t.1 }

abbrev follow : ℕ → ℕ → ℕ → Bool
follow r s t =
    all_six (keeps parts parts parts r s t) (keeps parts apart apart r s t) (keeps parts inner_parts inner_parts r s t)
    (keeps inner_parts parts inner_parts r s t) (keeps parts far_apart far_apart r s t)
    (keeps inner_parts apart far_apart r s t)

follow-from : (r s t : ℕ) → Follow r s t → follow r s t ≡ true
follow-from r s t f =
    all_six-from _ _ _ _ _ _ (keeps-from parts parts parts r s t f.part)
    (keeps-from parts apart apart r s t f.apart_part)
    (keeps-from parts inner_parts inner_parts r s t f.inner_second)
    (keeps-from inner_parts parts inner_parts r s t f.inner_first)
    (keeps-from parts far_apart far_apart r s t f.far_second) (keeps-from inner_parts apart far_apart r s t f.far_first)

follow-then : (r s t : ℕ) → follow r s t ≡ true → Follow r s t
follow-then r s t e =
    let p = all_six-parts (keeps parts parts parts r s t) (keeps parts apart apart r s t)
    (keeps parts inner_parts inner_parts r s t)
    (keeps inner_parts parts inner_parts r s t) (keeps parts far_apart far_apart r s t)
    (keeps inner_parts apart far_apart r s t) e in
    record {
      part = keeps-then parts parts parts r s t p.one;
      apart_part = keeps-then parts apart apart r s t p.two;
      inner_second = keeps-then parts inner_parts inner_parts r s t p.three;
      inner_first = keeps-then inner_parts parts inner_parts r s t p.four;
      far_second = keeps-then parts far_apart far_apart r s t p.five;
      far_first = keeps-then inner_parts apart far_apart r s t p.six;
    }

abbrev turned : ℕ → ℕ
turned r = converse_at rcc8_algebra r

abbrev follow_rules : ℕ → ℕ → ℕ → Bool
follow_rules r s t =
    all_six (follow r s t) (follow t (turned s) r) (follow (turned r) t s) (follow s (turned t) (turned r))
    (follow (turned t) r (turned s))
    (follow (turned s) (turned r) (turned t))

follow_rules-from : (r s t : ℕ) → FollowRules r s t → follow_rules r s t ≡ true
follow_rules-from r s t f =
    all_six-from _ _ _ _ _ _ (follow-from r s t f.xyz) (follow-from t (turned s) r f.xzy)
    (follow-from (turned r) t s f.yxz)
    (follow-from s (turned t) (turned r) f.yzx) (follow-from (turned t) r (turned s) f.zxy)
    (follow-from (turned s) (turned r) (turned t) f.zyx)

follow_rules-then : (r s t : ℕ) → follow_rules r s t ≡ true → FollowRules r s t
follow_rules-then r s t e =
    let p = all_six-parts (follow r s t) (follow t (turned s) r) (follow (turned r) t s)
    (follow s (turned t) (turned r)) (follow (turned t) r (turned s))
    (follow (turned s) (turned r) (turned t)) e in
    record {
      xyz = follow-then r s t p.one;
      xzy = follow-then t (turned s) r p.two;
      yxz = follow-then (turned r) t s p.three;
      yzx = follow-then s (turned t) (turned r) p.four;
      zxy = follow-then (turned t) r (turned s) p.five;
      zyx = follow-then (turned s) (turned r) (turned t) p.six;
    }

-- ---- the table

abbrev bit : Bool → ℕ
bit true = 1
bit false = 0

-- t is in r;s as much as the three follow the rules
abbrev is_ruled : ℕ → ℕ → ℕ → Bool
is_ruled r s t = eqb (bit (follow_rules r s t)) (bit_at (entry_at rcc8_algebra r s) t)

all_ruled : each_triple rcc8_algebra is_ruled ≡ true
unfolding rcc8_table
all_ruled = refl

ruled : (r s t : ℕ) → r < 8 → s < 8 → t < 8 → bit (follow_rules r s t) ≡ bit_at (entry_at rcc8_algebra r s) t
ruled r s t hr hs ht = eqb-true _ _ (each_triple-at rcc8_algebra is_ruled all_ruled r s t hr hs ht)

one-true : (b : Bool) → bit b ≡ 1 → b ≡ true
one-true true e = refl
one-true false e = absurd (omega arith)

pub table_of_rules : TableIsOfRules
table_of_rules r s t hr hs ht = (
  λ h. follow_rules-then r s t (one-true (follow_rules r s t) (ruled r s t hr hs ht ∙ h)),
  λ f. sym (ruled r s t hr hs ht) ∙ ap bit (follow_rules-from r s t f),
)
