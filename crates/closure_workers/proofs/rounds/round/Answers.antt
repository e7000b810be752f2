use Rattle.closure_workers.specs.declared.rounds.Workers.{Workers}
use Rattle.closure_workers.proofs.OneRound.{HaveWorkedOn-round}
use Rattle.closure_workers.proofs.rounds.round.Goals as goal

pub returns : goal.returns
returns g c =
    let new : Workers = record { home = c.in_ok-home-2.home; desks = c.in_ok-home-2.desks } in
    let dealt = c.in_ok-home.ensures in
    let h = c.in_ok-home-2.ensures in
    HaveWorkedOn-round c.args.table.now c.args.workers new c.in_ok-home.home c.in_ok-home.workers.items c.work-workers.result.items c.requires.workers dealt.rest dealt.count dealt.dealt
    c.work-workers.ensures h.pass h.weight h.facts h.loads h.within h.desks h.dealt h.count
