-- The nodes of an edge, by the last edges of the rows.
use Rattle.std.proofs.Common.{◌≡◌, ℕ, ◌+◌, ◌-◌, ◌<◌, ◌≤◌, sym, subst, arith, inl, inr}
use Rattle.std.proofs.lemmas.Bool.{cases_lt}
use Rattle.network_words.specs.Edge.{edge_at, EdgeOf}
use Rattle.network_words.proofs.Edges.{edge_at-row, edge_at-order}

module _ (n e i : ℕ) (d : EdgeOf n e) (le : i ≤ d.first) where
  pub row-order : i < n - 1
  row-order = omega (arith, d.order, d.below, le)

  -- an edge after the last one of a row begins at a later node
  pub row-later : edge_at n i (n - 1) < e → i + 1 ≤ d.first
  row-later lt =
      elim ((edge_at-order n i (n - 1) d.first d.second row-order (omega (arith, row-order)) d.order d.below).0 (subst (λ x. edge_at n i (n - 1) < x) (sym d.number) lt)) [
        | inl h ↦ omega arith
        | inr h ↦ absurd (omega (arith, h.1, d.below))
      ]

  -- else it is in the row
  pub row-first : e ≤ edge_at n i (n - 1) → d.first ≤ i
  row-first ge = elim (cases_lt i d.first) as (λ _. d.first ≤ i) [
    | inl h ↦
        (let lt : edge_at n i (n - 1) < edge_at n d.first d.second = (edge_at-order n i (n - 1) d.first d.second row-order (omega (arith, row-order)) d.order d.below).1 (inl h) in
        absurd (omega (arith, lt, ge, d.number)))
    | inr g ↦ g
  ]

  pub row-second : e ≤ edge_at n i (n - 1) → n - 1 - (edge_at n i (n - 1) - e) ≡ d.second
  row-second ge =
      let same : d.first ≡ i = omega (arith, row-first ge) in
      let last = edge_at-row n i (n - 1) (omega (arith, row-order)) in
      let here = edge_at-row n d.first d.second (omega (arith, d.order, d.below)) in
      let here' = rw (d.number, same) at here in
      omega (arith, last, here', d.order, d.below, same, row-order)
