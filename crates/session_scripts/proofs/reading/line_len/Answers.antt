use Rattle.std.proofs.Common.{take, arith, refl}
use Rattle.std.proofs.lemmas.List.{take_more}
use Rattle.session_scripts.proofs.Lines.{IsWholeLine-found}
use Rattle.session_scripts.proofs.reading.line_len.Goals as goal

pub returns-then-text-index-eq10 : goal.returns-then-text-index-eq10
returns-then-text-index-eq10 c =
    let text = c.args.text.now in
    let index = c.loop-index.index in
    (omega arith, omega arith, rw (take_more text index 0 (omega arith), c.if-text-index-eq10.true) (IsWholeLine-found (take index text) 10 c.loop-index.invariant refl))
