-- What passes have seen after looking at some edges.
use Rattle.std.proofs.Common.{◌≡◌, ◌≢◌, ◌↔◌, ℕ, ◌+◌, ◌<◌, Bool, false, ◌||◌, List, refl, sym, ◌∙◌, ap, subst, arith, inl, inr}
use Rattle.std.specs.Prelude.{IsTrue, slice_index, slice_set, bit_and}
use Rattle.std.proofs.lemmas.Bool.{cases_eq, or_cases, or_parts, false≢true}
use Rattle.std.proofs.lemmas.List.{length-set}
use Rattle.std.proofs.lemmas.Grind.{same_number_lists}
use Rattle.calculus_table.specs.Algebra.{Algebra}
use Rattle.calculus_table.specs.Composition.{composition}
use Rattle.network_words.specs.Edge.{edge_at, edge_between}
use Rattle.network_words.specs.Network.{oriented}
use Rattle.network_words.proofs.Edges.{edge_between-forward}
use Rattle.network_words.proofs.Networks.{relation_between-forward, set-cases}
use Rattle.network_words.proofs.Refinements.{sum-refines, sum-smaller}
use Rattle.edge_table.specs.Opening.{OpenState, PassState, IsPassOf}
use Rattle.edge_table.specs.Passes.{GoesOn, Narrows, seen_between}
use Rattle.edge_table.proofs.Passes.{GoesOn-refl, GoesOn-trans, GoesOn-narrows}
use Rattle.closure_workers.specs.Slices.{IsLooking, LooksOn, Looks}

-- ---- looking on

pub LooksOn-refl : {t : OpenState} {p : PassState} {xs : List ℕ} → IsLooking t p xs → LooksOn t p p xs
LooksOn-refl {t} {p} h = record { looking = h; goes_on = GoesOn-refl p }

pub LooksOn-trans : {t : OpenState} {a b c : PassState} {xs ys : List ℕ} → LooksOn t a b xs → LooksOn t b c ys → LooksOn t a c ys
LooksOn-trans {t} {a} {b} {c} h k = record { looking = k.looking; goes_on = GoesOn-trans a b c h.goes_on k.goes_on }

-- by a call after which the snapshot is what the pass has seen
pub LooksOn-next : {t : OpenState} {a b c : PassState} {xs ys : List ℕ} → LooksOn t a b xs → IsPassOf t c → GoesOn b c → ys ≡ c.actor.seen → LooksOn t a c ys
LooksOn-next {t} {a} {b} {c} h pass goes_on snap = record { looking = record { pass = pass; snap = snap }; goes_on = GoesOn-trans a b c h.goes_on goes_on }

pub Looks-none : {t : OpenState} {P : List ℕ → Type 0} {p : PassState} {xs : List ℕ} → IsLooking t p xs → P p.actor.seen → Looks t P p p xs false
Looks-none looking h = record {
  looks_on = LooksOn-refl looking;
  smaller = λ none. absurd (false≢true none);
  done = λ _. (refl, h);
}

pub Looks-then : {t : OpenState} {P Q R : List ℕ → Type 0} {a b c : PassState} {xs ys : List ℕ} {x y : Bool} → Looks t P a b xs x → Looks t Q b c ys y →
    ((words : List ℕ) → P words → Q words → R words) → Looks t R a c ys (x || y)
Looks-then {t} {P} {Q} {R} {a} {b} {c} {xs} {ys} {x} {y} h k both =
    let early = h.looks_on.goes_on in
    let late = k.looks_on.goes_on in
    record {
      looks_on = LooksOn-trans h.looks_on k.looks_on;
      smaller = λ some. elim (or_cases x y some) [
        | inl u ↦ (let first = h.smaller u in let second = sum-refines c.actor.seen b.actor.seen late.length_is late.within in omega arith)
        | inr u ↦ (let first = sum-refines b.actor.seen a.actor.seen early.length_is early.within in let second = k.smaller u in omega arith)
      ];
      done = λ f.
          let first = h.done (or_parts x y f).0 in
          let second = k.done (or_parts x y f).1 in
          (second.0 ∙ first.0, both c.actor.seen (subst (λ (ws : List ℕ). P ws) (sym second.0) first.1) second.1);
    }

pub Looks-weaken : {t : OpenState} {P Q : List ℕ → Type 0} {a b : PassState} {xs : List ℕ} {x : Bool} → Looks t P a b xs x →
    ((words : List ℕ) → P words → Q words) → Looks t Q a b xs x
Looks-weaken {t} {P} {Q} {a} {b} h f = record { looks_on = h.looks_on; smaller = h.smaller; done = λ e. ((h.done e).0, f b.actor.seen (h.done e).1) }

-- ---- one narrowing

same-set : (xs : List ℕ) (e v : ℕ) → slice_index (slice_set xs e v) e ≡ slice_index xs e → slice_set xs e v ≡ xs
same-set xs e v h = same_number_lists (slice_set xs e v) xs (length-set xs e v) (λ k _. elim (set-cases xs e v k) [
  | inl s ↦ s
  | inr t ↦ rw t.0 h
])

pub Looks-narrow : {t : OpenState} {P : List ℕ → Type 0} (m : Algebra) (i j k : ℕ) (old new : PassState) {xs : List ℕ} (less : Bool) → IsLooking t new xs → i < k →
    Narrows m i j k old new → IsTrue less ↔ (seen_between m new i k ≢ seen_between m old i k) → P new.actor.seen → Looks t P old new xs less
Looks-narrow m i j k old new less looking o r changed p =
    let e = edge_between old.nodes i k in
    let v = bit_and (slice_index old.actor.seen e) (bit_and r.word (oriented m i k (composition m (seen_between m old i j) (seen_between m old j k)))) in
    let seen : new.actor.seen ≡ slice_set old.actor.seen e v = ap (λ (q : PassState). q.actor.seen) r.after in
    let nodes : new.nodes ≡ old.nodes = ap (λ (q : PassState). q.nodes) r.after in
    let goes = GoesOn-narrows m i j k old new r in
    let was : seen_between m old i k ≡ slice_index old.actor.seen (edge_at old.nodes i k) = relation_between-forward m old.nodes old.actor.seen i k o in
    let now : seen_between m new i k ≡ slice_index new.actor.seen (edge_at old.nodes i k) =
    relation_between-forward m new.nodes new.actor.seen i k o ∙ ap (λ n. slice_index new.actor.seen (edge_at n i k)) nodes in
    let edge : e ≡ edge_at old.nodes i k = edge_between-forward old.nodes i k o in
    record {
      looks_on = record { looking = looking; goes_on = goes };
      smaller = λ t. sum-smaller new.actor.seen old.actor.seen goes.length_is goes.within
          (λ same. changed.0 t (now ∙ ap (λ (ws : List ℕ). slice_index ws (edge_at old.nodes i k)) same ∙ sym was));
      done = λ f. elim (cases_eq (seen_between m new i k) (seen_between m old i k)) [
        | inl same ↦
            (let here : slice_index (slice_set old.actor.seen e v) e ≡ slice_index old.actor.seen e =
            rw edge (ap (λ (ws : List ℕ). slice_index ws (edge_at old.nodes i k)) (sym (rw edge at seen)) ∙ sym now ∙ same ∙ was) in
            (seen ∙ same-set old.actor.seen e v here, p))
        | inr differ ↦ absurd (false≢true (sym f ∙ changed.1 differ))
      ];
    }

-- ---- each of some numbers in turn

pub below-more : (P : ℕ → Type 0) (j : ℕ) → ((k : ℕ) → k < j → P k) → P j → (k : ℕ) → k < j + 1 → P k
below-more P j h p k b = elim (cases_eq k j) [
  | inl e ↦ subst P (sym e) p
  | inr d ↦ h k (omega arith)
]

pub between-more : (P : ℕ → Type 0) (i j : ℕ) → ((k : ℕ) → i < k → k < j → P k) → P j → (k : ℕ) → i < k → k < j + 1 → P k
between-more P i j h p k a b = elim (cases_eq k j) [
  | inl e ↦ subst P (sym e) p
  | inr d ↦ h k a (omega arith)
]
