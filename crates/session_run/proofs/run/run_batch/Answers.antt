-- The finished network is the closure of the facts of the draft, and the replies are those of the version.
use Rattle.std.proofs.Common.{ℕ, List, length, ap, sym, subst, ◌∙◌, arith}
use Rattle.std.specs.List.{zip}
use Rattle.std.specs.String.{string_bytes}
use Rattle.calculus_table.specs.Algebra.{Algebra}
use Rattle.calculus_table.specs.Composition.{full_of}
use Rattle.network_words.specs.Network.{Network, IsNetwork}
use Rattle.session_versions.specs.HeldFacts.{facts_of}
use Rattle.session_versions.specs.Drafts.{DraftState}
use Rattle.session_versions.specs.Versions.{AreProper, IsClosureOfFacts}
use Rattle.session_versions.specs.Stores.{StoreState, committing}
use Rattle.session_scripts.specs.Batches.{IsBatchFor}
use Rattle.closure_workers.specs.Rounds.{IsClosureWithin}
use Rattle.session_replies.specs.Replies.{facts_of_lines, draft_of, drafted, ArePeeks, IsAnswered, replies}
use Rattle.session_run.proofs.Made.{IsClosureOfFacts-made, IsNetwork-opening}
use Rattle.session_run.proofs.run.run_batch.Goals as goal

pub narrowed-requires-clause-network : goal.narrowed-requires-clause-network
narrowed-requires-clause-network g c κs within =
    let store = c.args.store.now in
    let net = c.in_ok-draft.field-0.net in
    subst (λ (m : Algebra). IsNetwork m net.nodes net.words) (sym c.requires.calculus)
    (subst (λ (n : ℕ). IsNetwork store.calculus n net.words) (sym c.in_ok-draft.ensures.nodes)
    (IsNetwork-opening store c.args.batch.now net.words c.newest-newest.ensures.store c.in_ok-draft.ensures.opening))

pub narrowed-requires-clause-batch : goal.narrowed-requires-clause-batch
narrowed-requires-clause-batch g c κs within =
    let store = c.args.store.now in
    let batch = c.args.batch.now in
    subst (λ (m : Algebra). IsBatchFor (full_of m) c.in_ok-draft.field-0.net.nodes batch) (sym c.requires.calculus)
    (subst (λ (n : ℕ). IsBatchFor (full_of store.calculus) n batch) (sym c.in_ok-draft.ensures.nodes) c.requires.batch)

pub replies-requires-clause-commits : goal.replies-requires-clause-commits
replies-requires-clause-commits g c =
    let store = c.args.store.now in
    let words = c.narrowed.new.net.words in
    record {
      nodes = ap (λ (net : Network). net.nodes) c.in_ok-shown.ensures.rest ∙ c.in_ok-draft.ensures.nodes;
      network = subst (λ (n : ℕ). IsNetwork store.calculus n words) c.in_ok-draft.ensures.nodes
          (subst (λ (m : Algebra). IsNetwork m c.in_ok-draft.field-0.net.nodes words) c.requires.calculus c.in_ok-shown.ensures.closure.network);
      versions = c.requires.versions;
    }

pub commit-requires-clause-proper : goal.commit-requires-clause-proper
commit-requires-clause-proper g c =
    let store = c.args.store.now in
    let batch = c.args.batch.now in
    subst (λ (d : DraftState). AreProper store.calculus store.nodes d.facts) (sym c.in_ok-draft.ensures.draft)
    (c.in_ok-draft.ensures.gains.proper store.calculus store.nodes (length batch.sessions) c.requires.batch
    (c.in_ok-draft.ensures.loses.proper store.calculus store.nodes c.newest-newest.ensures.store.newest.proper))

pub commit-requires-clause-nodes : goal.commit-requires-clause-nodes
commit-requires-clause-nodes g c = ap (λ (net : Network). net.nodes) c.in_ok-shown.ensures.rest ∙ c.in_ok-draft.ensures.nodes

pub commit-requires-clause-closure : goal.commit-requires-clause-closure
commit-requires-clause-closure g c =
    let store = c.args.store.now in
    let batch = c.args.batch.now in
    let facts = facts_of_lines batch.lines in
    let opening = c.in_ok-draft.field-0.net.words in
    let words = c.narrowed.new.net.words in
    let within : IsClosureWithin store.calculus store.nodes opening facts words =
    subst (λ (n : ℕ). IsClosureWithin store.calculus n opening facts words) c.in_ok-draft.ensures.nodes
    (subst (λ (m : Algebra). IsClosureWithin m c.in_ok-draft.field-0.net.nodes opening facts words) c.requires.calculus c.in_ok-shown.ensures.closure) in
    subst (λ (d : DraftState). IsClosureOfFacts store.calculus store.nodes (facts_of d.facts) words) (sym c.in_ok-draft.ensures.draft)
    (IsClosureOfFacts-made store batch opening words (drafted batch store) c.newest-newest.ensures.store c.requires.batch c.in_ok-draft.ensures.loses c.in_ok-draft.ensures.gains
    c.in_ok-draft.ensures.opening within)

pub commit-requires-clause-next : goal.commit-requires-clause-next
commit-requires-clause-next g c =
    omega (arith, ap (λ (d : DraftState). d.next) c.in_ok-draft.ensures.draft, c.in_ok-draft.ensures.gains.next, c.in_ok-draft.ensures.loses.next)

pub returns-clause-answered : goal.returns-clause-answered
returns-clause-answered g c =
    let store = c.args.store.now in
    let batch = c.args.batch.now in
    let names = c.args.names.now in
    let draft = c.in_ok-draft.field-0.draft in
    let opening = c.in_ok-draft.field-0.net.words in
    let net = c.narrowed.new.net in
    let shown = c.in_ok-shown.shown.items in
    let text = string_bytes c.in_ok-text.text in
    let lines = zip batch.lines shown in
    let facts = facts_of_lines batch.lines in
    let within : IsClosureWithin store.calculus store.nodes opening facts net.words =
    subst (λ (n : ℕ). IsClosureWithin store.calculus n opening facts net.words) c.in_ok-draft.ensures.nodes
    (subst (λ (m : Algebra). IsClosureWithin m c.in_ok-draft.field-0.net.nodes opening facts net.words) c.requires.calculus c.in_ok-shown.ensures.closure) in
    let made : IsAnswered names store batch text (committing draft net store) = record {
      facts = ap (λ (d : DraftState). d.facts) c.in_ok-draft.ensures.draft;
      commits = ap (λ (d : DraftState). committing d net store) c.in_ok-draft.ensures.draft;
      version = record {
        nodes = ap (λ (net : Network). net.nodes) c.in_ok-shown.ensures.rest ∙ c.in_ok-draft.ensures.nodes;
        proper = subst (λ (d : DraftState). AreProper store.calculus store.nodes d.facts) (sym c.in_ok-draft.ensures.draft)
            (c.in_ok-draft.ensures.gains.proper store.calculus store.nodes (length batch.sessions) c.requires.batch
            (c.in_ok-draft.ensures.loses.proper store.calculus store.nodes c.newest-newest.ensures.store.newest.proper));
        closure = subst (λ (d : DraftState). IsClosureOfFacts store.calculus store.nodes (facts_of d.facts) net.words) (sym c.in_ok-draft.ensures.draft)
            (IsClosureOfFacts-made store batch opening net.words (drafted batch store) c.newest-newest.ensures.store c.requires.batch c.in_ok-draft.ensures.loses
            c.in_ok-draft.ensures.gains c.in_ok-draft.ensures.opening within);
      };
      opening = opening;
      is_opening = c.in_ok-draft.ensures.opening;
      shown = shown;
      each_line = c.in_ok-shown.ensures.each_line;
      peeks = subst (λ (n : ℕ). ArePeeks store.calculus n net.words opening lines) c.in_ok-draft.ensures.nodes
          (subst (λ (m : Algebra). ArePeeks m c.in_ok-draft.field-0.net.nodes net.words opening lines) c.requires.calculus c.in_ok-shown.ensures.peeks);
      text_is = c.in_ok-text.ensures draft
          ∙ ap (λ (xs : List ℕ). replies names batch.sessions (committing draft net store) (draft_of store) store.next_fact (zip batch.lines xs)) c.deref-2.ensures.value;
    } in
    subst (λ (after : StoreState). IsAnswered names store batch text after) (sym c.commit.ensures.store) made

pub returns-clause-few_facts : goal.returns-clause-few_facts
returns-clause-few_facts g c =
    omega (
      arith,
      ap (λ (s : StoreState). s.next_fact) c.commit.ensures.store,
      ap (λ (d : DraftState). d.next) c.in_ok-draft.ensures.draft,
      c.in_ok-draft.ensures.gains.next,
      c.in_ok-draft.ensures.gains.few,
      c.in_ok-draft.ensures.loses.next,
    )
