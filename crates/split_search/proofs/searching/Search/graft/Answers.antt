use Rattle.std.proofs.Common.{subst}
use Rattle.split_search.specs.declared.verdict.Verdict.{Verdict}
use Rattle.split_search.specs.declared.verdict.Verdict.TheVariants.{Yes, No, Budget}
use Rattle.split_search.specs.Searches.{task_of}
use Rattle.split_search.specs.Grafts.{IsGraft}
use Rattle.split_search.proofs.Moved.{verdict-numbers}
use Rattle.split_search.proofs.Placed.{IsPlaced, placed-no, placed-yes, placed-spent}
use Rattle.split_search.proofs.searching.Search.graft.Goals as goal

pub place-requires-clause-numbers : goal.place-requires-clause-numbers
place-requires-clause-numbers c =
    let t = task_of c.args.self.now in
    let tree = c.in-No.tree in
    let g : IsGraft t c.args.self.now.path.top c.args.split c.args.self.now.count (No tree) =
    subst (λ (v : Verdict). IsGraft t c.args.self.now.path.top c.args.split c.args.self.now.count v) c.in-No.is
    c.requires.graft in
    verdict-numbers t.algebra t.nodes t.class g.budget _ (No tree) g.ruled

pub place-requires-in-Yes-clause-numbers : goal.place-requires-in-Yes-clause-numbers
place-requires-in-Yes-clause-numbers c =
    let t = task_of c.args.self.now in
    let tree = c.in-Yes.tree in
    let g : IsGraft t c.args.self.now.path.top c.args.split c.args.self.now.count (Yes c.in-Yes.scenario tree) =
    subst (λ (v : Verdict). IsGraft t c.args.self.now.path.top c.args.split c.args.self.now.count v) c.in-Yes.is
    c.requires.graft in
    verdict-numbers t.algebra t.nodes t.class g.budget _ (Yes c.in-Yes.scenario tree) g.ruled

pub place-requires-in-Budget-clause-numbers : goal.place-requires-in-Budget-clause-numbers
place-requires-in-Budget-clause-numbers c =
    let t = task_of c.args.self.now in
    let tree = c.in-Budget.tree in
    let g : IsGraft t c.args.self.now.path.top c.args.split c.args.self.now.count (Budget tree) =
    subst (λ (v : Verdict). IsGraft t c.args.self.now.path.top c.args.split c.args.self.now.count v) c.in-Budget.is
    c.requires.graft in
    verdict-numbers t.algebra t.nodes t.class g.budget _ (Budget tree) g.ruled

pub returns-in_ok-place-in-No-clause-stop : goal.returns-in_ok-place-in-No-clause-stop
returns-in_ok-place-in-No-clause-stop c =
    let s = c.args.self.now in
    let h = c.in_ok-place-in-No.ensures in
    let p : IsPlaced s c.place.new.self c.args.split c.in-No.tree =
    record { opened = h.splits; nodes_are = h.nodes; count_is = h.count; path_is = h.path } in
    placed-no s c.place.new.self c.args.split c.requires.task c.requires.going c.requires.left c.in-No.tree p
    (subst (λ (v : Verdict). IsGraft (task_of s) s.path.top c.args.split s.count v) c.in-No.is c.requires.graft)

pub returns-in_ok-place-in-Yes-clause-stop : goal.returns-in_ok-place-in-Yes-clause-stop
returns-in_ok-place-in-Yes-clause-stop c =
    let s = c.args.self.now in
    let h = c.in_ok-place-in-Yes.ensures in
    let p : IsPlaced s c.place-in-Yes.new.self c.args.split c.in-Yes.tree =
    record { opened = h.splits; nodes_are = h.nodes; count_is = h.count; path_is = h.path } in
    placed-yes s c.place-in-Yes.new.self c.args.split c.requires.task c.requires.going c.requires.left c.in-Yes.tree p
    c.in-Yes.scenario
    (subst (λ (v : Verdict). IsGraft (task_of s) s.path.top c.args.split s.count v) c.in-Yes.is c.requires.graft)

pub returns-in_ok-place-in-Budget-clause-stop : goal.returns-in_ok-place-in-Budget-clause-stop
returns-in_ok-place-in-Budget-clause-stop c =
    let s = c.args.self.now in
    let h = c.in_ok-place-in-Budget.ensures in
    let p : IsPlaced s c.place-in-Budget.new.self c.args.split c.in-Budget.tree =
    record { opened = h.splits; nodes_are = h.nodes; count_is = h.count; path_is = h.path } in
    placed-spent s c.place-in-Budget.new.self c.args.split c.requires.task c.requires.going c.requires.left
    c.in-Budget.tree p
    (subst (λ (v : Verdict). IsGraft (task_of s) s.path.top c.args.split s.count v) c.in-Budget.is c.requires.graft)
