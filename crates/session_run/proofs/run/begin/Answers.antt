-- The facts of the draft, and how many there may be.
use Rattle.std.proofs.Common.{◌≡◌, ◌≤◌, length, ap, sym, subst, ◌∙◌, arith}
use Rattle.session_versions.specs.Drafts.{DraftState}
use Rattle.session_versions.specs.Versions.{AreProper}
use Rattle.session_run.proofs.run.begin.Goals as goal

pub opening-requires-clause-proper : goal.opening-requires-clause-proper
opening-requires-clause-proper g c =
    let store = c.args.store.now in
    c.in_ok-faults.ensures.loses.proper store.calculus store.nodes
    (subst (λ (d : DraftState). AreProper store.calculus store.nodes d.facts) (sym c.in_ok-draft.ensures) c.requires.store.newest.proper)

pub add_all-requires : goal.add_all-requires
add_all-requires g c =
    let next : c.withdraw_all.new.draft.next ≡ c.args.store.now.next_fact =
    c.in_ok-faults.ensures.loses.next ∙ ap (λ (d : DraftState). d.next) c.in_ok-draft.ensures in
    let lines : length c.args.batch.now.lines ≤ 4097 = c.limited.ensures.lines in
    omega (arith, next, lines, c.requires.facts)
