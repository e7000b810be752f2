use Rattle.std.proofs.Common.{◌≡◌, ◌++◌, ◌∙◌, List, length, take, drop, ap, sym, subst, rules, arith}
use Rattle.std.proofs.lemmas.List.{append-nil, drop_all, take_all}
use Rattle.session_phase.specs.declared.sessions.Session.{Session}
use Rattle.session_phase.specs.Phase.{HaveRun}
use Rattle.session_phase.proofs.SessionLists.{asked_of_sessions-each}
use Rattle.session_phase.proofs.sessions.run_sessions.Goals as goal

pub returns-then-not-is_empty : goal.returns-then-not-is_empty
returns-then-not-is_empty g c =
    let m = g.C.Compose.algebra c.args.c.now in
    let table = c.args.table.now in
    let old = c.args.sessions.items in
    let given = c.as_mut_slice.result.now in
    let new = c.run_each.new.sessions in
    let value : given ≡ old = c.as_mut_slice.ensures.value in
    let size : length new ≡ length given = search rules in
    let ran : HaveRun m table given new = record {
      run = λ k d l. (c.run_each.ensures k d (let s = size in omega arith)).0;
      asked = asked_of_sessions-each given new size (λ k d l. (c.run_each.ensures k d l).1);
    } in
    let len = c.args.sessions.len in
    let count : len ≡ length old = search rules in
    let same : length new ≡ length old = size ∙ ap length value in
    let whole : List Session = new ++ drop (length new) old in
    let kept : whole ≡ new =
    ap (λ (xs : List Session). new ++ xs) (drop_all (length new) old (omega (arith, same))) ∙ append-nil new in
    let all : take len whole ≡ new =
    ap (λ (xs : List Session). take len xs) kept ∙ take_all len new (omega (arith, same, count)) in
    subst (λ (xs : List Session). HaveRun m table xs (take len whole)) value
    (subst (HaveRun m table given) (sym all) ran)
