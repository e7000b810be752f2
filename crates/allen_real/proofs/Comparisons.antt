-- The end points of a scenario are ordered, but for equal ones.
use Rattle.std.proofs.Common.{◌≡◌, ℕ, ◌<◌, ◌≤◌, Bool, true, false, ltb, List, refl, sym, ◌∙◌, ap, arith, ◌⊎◌, inl, inr}
use Rattle.std.proofs.lemmas.Bool.{cases_lt, lt-ltb, le-ltb, ltb-true, ltb-false}
use Rattle.calculus_builtin.specs.Allen.{Interval, IsInterval, holds}
use Rattle.allen_real.specs.declared.end_points.EndPoint.{EndPoint}
use Rattle.allen_real.specs.EndPoints.{end_of, below_in_example, base_between, is_below}
use Rattle.allen_real.specs.Realisation.{IsAllenScenario}
use Rattle.allen_real.proofs.Orders.{end-below, holds-order}
use Rattle.allen_real.proofs.Composed.{base_between-same, lie-as_nodes}
use Rattle.allen_real.proofs.Ranked.{IsOrder}

-- an end point of one of the n nodes
abbrev pub IsOf : ℕ → EndPoint → Type 0
IsOf n p = p.node < n

-- in the example of eq no end point lies below the same one
same_point : (p : Bool) → below_in_example 6 p p ≡ false
same_point false = refl
same_point true = refl

pub not_below-itself : (n : ℕ) (relations : List ℕ) (p : EndPoint) → is_below n relations p p ≡ false
not_below-itself n relations p =
    ap (λ r. below_in_example r p.is_end p.is_end) (base_between-same n relations p.node) ∙ same_point p.is_end

-- three numbers that compare as three end points
record Numbers (n : ℕ) (relations : List ℕ) (p q u : EndPoint) : Type 0 where
  at_p : ℕ
  at_q : ℕ
  at_u : ℕ
  pq : ltb at_p at_q ≡ is_below n relations p q
  qu : ltb at_q at_u ≡ is_below n relations q u
  pu : ltb at_p at_u ≡ is_below n relations p u

module _ (n : ℕ) (relations : List ℕ) (s : IsAllenScenario n relations) where
  order-by : (p q : EndPoint) (x y : Interval) → IsInterval x → IsInterval y →
      holds (base_between n relations p.node q.node) x y ≡ true →
      ltb (end_of x p.is_end) (end_of y q.is_end) ≡ is_below n relations p q
  order-by p q x y hx hy h =
      let r = base_between n relations p.node q.node in
      end-below r x y p.is_end q.is_end (holds-order r x y hx hy h)

  numbers : (p q u : EndPoint) → IsOf n p → IsOf n q → IsOf n u → Numbers n relations p q u
  numbers p q u hp hq hu =
      let c = lie-as_nodes n relations s p.node q.node u.node hp hq hu in
      let lie = c.lie in
      record {
        at_p = end_of c.x p.is_end;
        at_q = end_of c.y q.is_end;
        at_u = end_of c.z u.is_end;
        pq = order-by p q c.x c.y lie.x_proper lie.y_proper lie.first;
        qu = order-by q u c.y c.z lie.y_proper lie.z_proper lie.second;
        pu = order-by p u c.x c.z lie.x_proper lie.z_proper lie.third;
      }

  asymmetric : (p q : EndPoint) → IsOf n p → IsOf n q → is_below n relations p q ≡ true →
      is_below n relations q p ≡ false
  asymmetric p q hp hq h =
      let v = numbers p q p hp hq hp in
      let less : v.at_p < v.at_q = ltb-true _ _ (v.pq ∙ h) in
      let same : v.at_u ≤ v.at_p = ltb-false _ _ (v.pu ∙ not_below-itself n relations p) in
      sym v.qu ∙ le-ltb v.at_q v.at_u (omega arith)

  divides : (p q u : EndPoint) → IsOf n p → IsOf n q → IsOf n u → is_below n relations p q ≡ true →
      (is_below n relations p u ≡ true) ⊎ (is_below n relations u q ≡ true)
  divides p q u hp hq hu h =
      let v = numbers p u q hp hu hq in
      let less : v.at_p < v.at_u = ltb-true _ _ (v.pu ∙ h) in
      elim (cases_lt v.at_p v.at_q) [
        | inl l ↦ inl (sym v.pq ∙ lt-ltb v.at_p v.at_q l)
        | inr g ↦ inr (sym v.qu ∙ lt-ltb v.at_q v.at_u (omega arith))
      ]

  pub end_points-order : IsOrder EndPoint (IsOf n) (is_below n relations)
  end_points-order = record { asymmetric = asymmetric; divides = divides }
