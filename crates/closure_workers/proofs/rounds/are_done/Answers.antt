use Rattle.std.proofs.Common.{◌≡◌, ℕ, Bool, false, sym, ◌∙◌, arith, inl, inr}
use Rattle.std.specs.Prelude.{Option, Some, None, MatchOption, is_some}
use Rattle.std.proofs.lemmas.Bool.{cases_eq, true≢false}
use Rattle.std.proofs.lemmas.List.Elements.{at_read}
use Rattle.closure_workers.specs.declared.worker.Desk.{Desk}
use Rattle.closure_workers.proofs.rounds.are_done.Goals as goal

none-of : (P : Type 0) (Q : ℕ → Type 0) (o : Option ℕ) (t : Bool) → MatchOption o P Q → t ≡ is_some o → t ≡ false → P
none-of P Q None t h s e = h
none-of P Q (Some x) t h s e = absurd (true≢false (sym s ∙ e))

pub loop-desk-preserved : goal.loop-desk-preserved
loop-desk-preserved c =
    let i = c.loop-desk.desk-index in
    let same : c.desk-item.result.snap ≡ c.args.words.now = sym c.words.ensures ∙ none-of _ _ _ _ c.first_difference.ensures c.is_some.ensures c.if-is_some.false in
    λ k d b. elim (cases_eq k i) [
      | inl e ↦ rw e (at_read c.args.desks.now (λ (s : Desk). s.snap ≡ c.args.words.now) i c.desk-item.result c.loop-desk-test.true c.desk-item.is same d)
      | inr n ↦ c.loop-desk.invariant k d (omega arith)
    ]
