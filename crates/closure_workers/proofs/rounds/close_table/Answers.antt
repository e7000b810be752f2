use Rattle.std.proofs.Common.{sym, subst, rules}
use Rattle.calculus_table.specs.Algebra.{Algebra}
use Rattle.calculus_table.specs.Calculus.{IsCalculus}
use Rattle.network_words.specs.Network.{Network}
use Rattle.closure_workers.specs.Rounds.{IsClosureWithin}
use Rattle.closure_workers.proofs.OneRound.{IsEnd, EndsWith, EndsWith-closed, EndsWith-empty}
use Rattle.closure_workers.proofs.rounds.close_table.Goals as goal
use Rattle.closure_workers.proofs.rounds.close_table.Goals.{then-is_clash, else-is_clash}

pub returns : goal.returns
returns g c =
    let table = c.args.table in
    let first = c.args.workers in
    let last = c.in_ok-workers.workers in
    let snap = c.rounds.new.snap in
    let words = c.close-closed.new.into.words in
    let closed = c.close-closed.result in
    let e : IsEnd table first last snap words closed = record {
      calculus = subst IsCalculus c.requires.calculus c.lawful.ensures;
      rounds = c.in_ok-workers.ensures;
      words_are = c.close-closed.ensures.words;
      opening_is = c.close-closed.ensures.opening;
      pass_is = c.close-closed.ensures.last;
      closed_with = c.close-closed.ensures.closed;
    } in
    let ends : EndsWith table.opening first closed c.if-is_clash.net.words = elim c.if-is_clash.branch [
      | then-is_clash w ↦ subst (λ (net : Network). EndsWith table.opening first closed net.words) (sym w.net-is)
          (EndsWith-empty table first last snap words closed w.empty_all.new.net.words e (rw (c.nodes.ensures.value, c.words.ensures) at (c.is_clash-is_clash.ensures.yes w.if-is_clash.true))
          w.empty_all.ensures.length_is w.empty_all.ensures.empty)
      | else-is_clash w ↦ subst (λ (net : Network). EndsWith table.opening first closed net.words) (sym w.net-is)
          (EndsWith-closed table first last snap words closed e (rw (c.nodes.ensures.value, c.words.ensures) at (c.is_clash-is_clash.ensures.no w.if-is_clash.false)))
    ] in
    record {
      closure = subst (λ (m : Algebra). IsClosureWithin m table.opening.nodes table.opening.words first.home.actor.mine c.if-is_clash.net.words) (sym c.requires.calculus) ends.closure;
      seen = ends.seen;
      rest = search rules;
      table = ends.closing;
      memory = tt;
    }
