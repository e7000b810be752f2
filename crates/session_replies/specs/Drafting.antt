-- What a batch does to a draft, which loses facts and then gains some, and what a store may commit.
use Rattle.std.specs.Prelude.{◌≡◌, ℕ, ◌+◌, ◌^◌, ◌<◌, ◌≤◌, List, ◌++◌, length, All}
use Rattle.calculus_table.specs.Algebra.{Algebra}
use Rattle.calculus_table.specs.Composition.{full_of}
use Rattle.network_words.specs.Network.{Network, IsNetwork}
use Rattle.session_versions.specs.HeldFacts.{facts_of}
use Rattle.session_versions.specs.Drafts.{DraftState}
use Rattle.session_versions.specs.Versions.{AreProper}
use Rattle.session_versions.specs.Stores.{StoreState}
use Rattle.session_scripts.specs.declared.batch.Line.{Line}
use Rattle.session_scripts.specs.Batches.{IsLineFor}
use Rattle.session_replies.specs.Replies.{facts_of_lines}

-- some facts are gone, or none is, and then the draft is as before
pub record LosesFacts (old new : DraftState) : Type 0 where
  pub next : new.next ≡ old.next
  pub fewer : length new.facts ≤ length old.facts
  pub same : length new.facts ≡ length old.facts → new ≡ old
  pub proper : (m : Algebra) (n : ℕ) → AreProper m n old.facts → AreProper m n new.facts

-- the facts that the lines state are there after the others
pub record GainsFacts (lines : List Line) (old new : DraftState) : Type 0 where
  pub facts : facts_of new.facts ≡ facts_of old.facts ++ facts_of_lines lines
  pub next : new.next ≡ old.next + length (facts_of_lines lines)
  pub few : length (facts_of_lines lines) ≤ length lines
  pub proper : (m : Algebra) (n sessions : ℕ) → All (IsLineFor (full_of m) n sessions) lines →
      AreProper m n old.facts → AreProper m n new.facts

-- the store may make a version with this network
pub record CanCommit (store : StoreState) (net : Network) : Type 0 where
  pub nodes : net.nodes ≡ store.nodes
  pub network : IsNetwork store.calculus store.nodes net.words
  pub versions : store.newest.number < 2 ^ 62
