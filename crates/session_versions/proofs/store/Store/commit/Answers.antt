use Rattle.std.proofs.Common.{arith}
use Rattle.session_versions.specs.Drafts.{DraftState}
use Rattle.session_versions.proofs.Stores.{IsStore-committing, IsStore-nodes}
use Rattle.session_versions.proofs.store.Store.commit.Goals as goal

pub invariant_of-self : goal.invariant_of-self
invariant_of-self c =
    let old = c.self.invariant in
    let proper = rw (← c.self.view_is, ← c.draft.view_is) at c.requires.proper in
    let nodes = rw (← c.self.view_is) at c.requires.nodes in
    let closure = rw (← c.self.view_is, ← c.draft.view_is) at c.requires.closure in
    let draft : DraftState = record { facts = c.draft.inside.facts.items; next = c.draft.inside.next } in
    let number = rw (← c.self.view_is) at c.newest-number.ensures.value in
    record {
      store = rw (c.keep.ensures.items, c.replace-before.ensures.value, c.replace-before.ensures.after, number)
          (IsStore-nodes _ c.args.net.nodes nodes (IsStore-committing _ draft c.args.net old.store proper nodes closure c.draft.invariant));
      room = omega (arith, c.keep.ensures.room, old.room);
    }
