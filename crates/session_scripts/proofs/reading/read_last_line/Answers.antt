use Rattle.std.proofs.Common.{◌≡◌, ◌==◌, ◌<◌, ℕ, Bool, true, false, List, [], ◌∷◌, length, sym, ◌∙◌, ap, arith}
use Rattle.session_scripts.specs.Commands.{script_line}
use Rattle.session_scripts.specs.Scripts.{is_commit_line, last_batch}
use Rattle.session_scripts.proofs.Lines.{first_line-open}
use Rattle.session_scripts.proofs.Readings.{batches-last_line, batches-last_commit}
use Rattle.session_scripts.proofs.reading.read_last_line.Goals as goal

pub read_line-requires-clause-line : goal.read_line-requires-clause-line
read_line-requires-clause-line c = first_line-open c.args.line.now c.requires.line

some_line : (line : List ℕ) (empty : Bool) → empty ≡ (length line == 0) → empty ≡ false → 0 < length line
some_line [] empty e f = cc
some_line (b ∷ bs) empty e f = omega arith

pub returns-clause-last : goal.returns-clause-last
returns-clause-last c e =
    let some = some_line c.args.line.now c.is_empty.result c.is_empty.ensures c.if-is_empty.false in
    let commit : false ≡ is_commit_line (script_line c.args.bases.now c.args.line.now) = rw e at c.read_line.ensures.is_commit in
    batches-last_line c.args.bases.now c.args.nodes c.args.reading.now.at c.args.reading.now.batch c.args.line.now some c.requires.line (sym commit)
    ∙ ap last_batch (sym (c.read_line.ensures.batch e))

pub returns-clause-committed : goal.returns-clause-committed
returns-clause-committed c e =
    let some = some_line c.args.line.now c.is_empty.result c.is_empty.ensures c.if-is_empty.false in
    let commit : true ≡ is_commit_line (script_line c.args.bases.now c.args.line.now) = rw e at c.read_line.ensures.is_commit in
    batches-last_commit c.args.bases.now c.args.nodes c.args.reading.now.at c.args.reading.now.batch c.args.line.now some c.requires.line (sym commit)
    ∙ ap (λ batch. batch ∷ []) (sym (c.read_line.ensures.commit e))

pub returns-clause-some : goal.returns-clause-some
returns-clause-some c e = some_line c.args.line.now c.is_empty.result c.is_empty.ensures c.if-is_empty.false
