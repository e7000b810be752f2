-- Drafts: the facts of a version that is being made.
use Rattle.std.specs.Prelude.{ℕ, ◌+◌, List, [], ◌∷◌, ◌++◌, filter, not, ◌==◌, bytes_eq, Option, Some, None, if◌then◌else◌}
use Rattle.network_words.specs.declared.fact.Fact.{Fact}
use Rattle.session_versions.specs.HeldFacts.{HeldFact}
use Rattle.session_versions.specs.declared.draft.WithdrawFault.{WithdrawFault}
use Rattle.session_versions.specs.declared.draft.WithdrawFault.TheVariants.{NoFact, NotYours}

-- what contracts see of a draft: its facts, and the number of the next one
pub record DraftState : Type 0 where
  pub facts : List HeldFact
  pub next : ℕ

-- why a session may not withdraw this fact, if it is there
abbrev pub withdraw_fault : List ℕ → Option HeldFact → Option WithdrawFault
withdraw_fault session None = Some NoFact
withdraw_fault session (Some held) = if bytes_eq held.session session then None else Some NotYours

-- the draft without the fact with this number
abbrev pub withdrawing : ℕ → DraftState → DraftState
withdrawing number draft = record draft { facts = filter (λ held. not (held.number == number)) draft.facts }

-- the draft with one more fact, which has the next number
abbrev pub adding : List ℕ → Fact → DraftState → DraftState
adding session fact draft = record {
  facts = draft.facts ++ record { number = draft.next; session = session; fact = fact } ∷ [];
  next = draft.next + 1;
}
