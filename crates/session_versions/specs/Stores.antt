-- The store: the newest versions of the facts of sessions.
use Rattle.std.specs.Prelude.{◌≡◌, ℕ, ◌+◌, ◌-◌, ◌<◌, ◌≤◌, min, List, [], ◌∷◌, ◌++◌, length, drop, find, ◌==◌, All, Option, slice_index_or}
use Rattle.calculus_table.specs.Algebra.{Algebra}
use Rattle.calculus_table.specs.Calculus.{IsCalculus}
use Rattle.network_words.specs.Network.{Network}
use Rattle.network_words.specs.declared.TheConstants.{MAX_NODES}
use Rattle.session_versions.specs.HeldFacts.{AreNumbered}
use Rattle.session_versions.specs.Drafts.{DraftState}
use Rattle.session_versions.specs.Versions.{VersionState, IsVersion}
use Rattle.session_versions.specs.declared.TheConstants.{KEPT_VERSIONS}

-- what contracts see of a store: the nodes, what its calculus means, the newest version, the older ones that are kept, the
-- oldest first, and the number that the next fact gets
pub record StoreState : Type 0 where
  pub nodes : ℕ
  pub calculus : Algebra
  pub newest : VersionState
  pub older : List VersionState
  pub next_fact : ℕ

-- the versions that are kept, the oldest first
abbrev pub kept_versions : StoreState → List VersionState
kept_versions store = store.older ++ store.newest ∷ []

-- the kept version with this number
abbrev pub version_with : StoreState → ℕ → Option VersionState
version_with store number = find (λ version. version.number == number) (kept_versions store)

-- the numbers of versions follow one another, and the next one is `next`
pub record AreInRow (versions : List VersionState) (next : ℕ) : Type 0 where
  pub each : (k : ℕ) (v : VersionState) → k < length versions →
      (slice_index_or versions k v).number + length versions ≡ next + k

-- what every store keeps: each version is one of its calculus and its nodes, their numbers follow one another, as many are
-- kept as there may be, and the facts of the newest one are numbered
pub record IsStore (store : StoreState) : Type 0 where
  pub calculus : IsCalculus store.calculus
  pub some : 0 < store.nodes
  pub bounded : store.nodes ≤ MAX_NODES
  pub newest : IsVersion store.calculus store.nodes store.newest
  pub older : All (IsVersion store.calculus store.nodes) store.older
  pub numbers : AreInRow store.older store.newest.number
  pub kept : length store.older ≡ min (KEPT_VERSIONS - 1) store.newest.number
  pub facts : AreNumbered store.newest.facts store.next_fact

-- the last of the versions before the newest one, as many as are kept
abbrev pub last_kept : List VersionState → List VersionState
last_kept versions = drop (length versions - (KEPT_VERSIONS - 1)) versions

-- the store with one more version, of the facts of the draft and this network; the oldest one goes where there are too many
abbrev pub committing : DraftState → Network → StoreState → StoreState
committing draft net store = record store {
  newest = record { number = store.newest.number + 1; facts = draft.facts; net = net };
  older = last_kept (kept_versions store);
  next_fact = draft.next;
}
