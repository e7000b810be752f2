-- Slices that are dealt out: none of them is lost on the way from desks to workers and back.
use Rattle.std.proofs.Common.{◌≡◌, ℕ, zero, suc, ◌<◌, ◌⊎◌, List, [], ◌∷◌, ◌++◌, length, get_or, set, refl, sym, ap, ◌∙◌, subst, arith, inl, inr}
use Rattle.std.specs.List.{Contains}
use Rattle.std.proofs.lemmas.Bool.{cases_lt}
use Rattle.std.proofs.lemmas.List.{map_push}
use Rattle.std.proofs.lemmas.List.Elements.{Contains-append_left, Contains-append_right, Contains-append_cases}
use Rattle.closure_workers.specs.declared.slices.Slice.{Slice}
use Rattle.closure_workers.specs.declared.worker.Desk.{Desk}
use Rattle.closure_workers.specs.declared.worker.Worker.{Worker}
use Rattle.closure_workers.specs.Workers.{AreDealt, slices_of, slices_at}

-- ---- one slice more

contains-last : (slices : List Slice) (s : Slice) → Contains (slices ++ s ∷ []) s
contains-last slices s = Contains-append_right slices (s ∷ []) s (0, omega arith, refl)

AreDealt-push : (slices : List Slice) (s : Slice) → AreDealt slices s.from → AreDealt (slices ++ s ∷ []) s.to
AreDealt-push slices s h = λ e b. elim (cases_lt e s.from) [
  | inl l ↦ (let d = h e l in record { slice = d.slice; among = Contains-append_left slices (s ∷ []) d.slice d.among; from = d.from; to = d.to })
  | inr l ↦ record { slice = s; among = contains-last slices s; from = l; to = b }
]

pub slices_of-push : (desks : List Desk) (desk : Desk) → slices_of (desks ++ desk ∷ []) ≡ slices_of desks ++ desk.slice ∷ []
slices_of-push desks desk = map_push (λ (d : Desk). d.slice) desks desk

pub slices_at-push : (workers : List Worker) (worker : Worker) → slices_at (workers ++ worker ∷ []) ≡ slices_at workers ++ worker.desk.slice ∷ []
slices_at-push workers worker = map_push (λ (w : Worker). w.desk.slice) workers worker

-- a desk for the next edges
pub AreDealt-more : (desks : List Desk) (desk : Desk) → AreDealt (slices_of desks) desk.slice.from → AreDealt (slices_of (desks ++ desk ∷ [])) desk.slice.to
AreDealt-more desks desk h = subst (λ (ss : List Slice). AreDealt ss desk.slice.to) (sym (slices_of-push desks desk)) (AreDealt-push (slices_of desks) desk.slice h)

-- a desk with the same slice in the place of one
pub slices_of-set : (desks : List Desk) (k : ℕ) (desk d : Desk) → k < length desks → desk.slice ≡ (get_or desks k d).slice → slices_of (set desks k desk) ≡ slices_of desks
slices_of-set [] k desk d b e = absurd (omega arith)
slices_of-set (x ∷ xs) zero desk d b e = ap (λ (s : Slice). s ∷ slices_of xs) e
slices_of-set (x ∷ xs) (suc k) desk d b e = ap (λ (ss : List Slice). x.slice ∷ ss) (slices_of-set xs k desk d (omega arith) e)

-- ---- slices handed on

-- each of the slices is among one of two lists
abbrev pub AreAmong : List Slice → List Slice → List Slice → Type 0
AreAmong slices left taken = (s : Slice) → Contains slices s → Contains left s ⊎ Contains taken s

pub AreAmong-first : (slices : List Slice) → AreAmong slices slices []
AreAmong-first slices = λ s b. inl b

-- the last one is handed on
pub AreAmong-next : (slices old left taken more : List Slice) (s : Slice) → old ≡ left ++ s ∷ [] → more ≡ taken ++ s ∷ [] → AreAmong slices old taken → AreAmong slices left more
AreAmong-next slices old left taken more s items pushed h = λ x b. elim (h x b) [
  | inl o ↦ elim (Contains-append_cases left (s ∷ []) x (subst (λ (ss : List Slice). Contains ss x) items o)) [
    | inl l ↦ inl l
    | inr r ↦ inr (subst (λ (ss : List Slice). Contains ss x) (sym pushed) (Contains-append_right taken (s ∷ []) x r))
  ]
  | inr t ↦ inr (subst (λ (ss : List Slice). Contains ss x) (sym pushed) (Contains-append_left taken (s ∷ []) x t))
]

-- where none is left, those handed on have all edges
pub AreDealt-handed : (slices left taken : List Slice) (edges : ℕ) → length left ≡ 0 → AreAmong slices left taken → AreDealt slices edges → AreDealt taken edges
AreDealt-handed slices left taken edges none h dealt = λ e b.
    let d = dealt e b in
    elim (h d.slice d.among) [
      | inl l ↦ absurd (let below = l.1 in omega arith)
      | inr t ↦ record { slice = d.slice; among = t; from = d.from; to = d.to }
    ]

-- ---- workers that keep their slices

pub slices_at-each : (xs ys : List Worker) → length ys ≡ length xs → ((k : ℕ) (w : Worker) → k < length xs → (get_or ys k w).desk.slice ≡ (get_or xs k w).desk.slice) →
    slices_at ys ≡ slices_at xs
slices_at-each [] [] l e = refl
slices_at-each [] (y ∷ ys) l e = absurd (omega arith)
slices_at-each (x ∷ xs) [] l e = absurd (omega arith)
slices_at-each (x ∷ xs) (y ∷ ys) l e =
    let rest : slices_at ys ≡ slices_at xs = slices_at-each xs ys (omega arith) (λ k w b. e (suc k) w (omega arith)) in
    let first : y.desk.slice ≡ x.desk.slice = e zero x (omega arith) in
    ap (λ (s : Slice). s ∷ slices_at ys) first ∙ ap (λ (ss : List Slice). x.desk.slice ∷ ss) rest
