use Rattle.std.proofs.Common.{◌≡◌, ◌≤◌, Ok, length, take, drop, ap, sym, ◌∙◌, arith}
use Rattle.session_scripts.specs.Scripts.{IsWholeLine}
use Rattle.session_scripts.proofs.Lines.{first_line-whole}
use Rattle.session_scripts.proofs.Readings.{IsRead-line, IsCommitted-line}
use Rattle.session_scripts.proofs.reading.read_lines.Goals as goal

pub returns-then-branch-clause-committed : goal.returns-then-branch-clause-committed
returns-then-branch-clause-committed c e =
    let text = c.args.text.now in
    let rest = drop c.loop-len.reading.from text in
    let line = c.split_at-in-loop-len.result.0.now in
    let back : c.split_at.result.1.now ≡ rest = c.split_at.ensures.back in
    let is_front : line ≡ take c.in-Some.len rest = c.split_at-in-loop-len.ensures.front ∙ ap (take c.in-Some.len) back in
    let whole : IsWholeLine line = rw is_front (rw back at c.in-Some.ensures.2) in
    let long : length line ≡ c.in-Some.len = c.split_at-in-loop-len.ensures.front_len in
    let fits : length line ≤ length rest = omega (arith, long, rw back at c.in-Some.ensures.0) in
    IsCommitted-line c.args.bases.now c.args.nodes text line c.loop-len.reading c.read_line.new.reading c.loop-len.invariant.read whole (is_front ∙ ap (λ k. take k rest) (sym long)) fits
    (sym c.in_ok-read_line.ensures.is_commit ∙ c.if-branch.true) c.in_ok-read_line.ensures.from (c.in_ok-read_line.ensures.commit (ap Ok c.if-branch.true))

pub loop-len-preserved : goal.loop-len-preserved
loop-len-preserved c =
    let text = c.args.text.now in
    let rest = drop c.loop-len.reading.from text in
    let line = c.split_at-in-loop-len.result.0.now in
    let back : c.split_at.result.1.now ≡ rest = c.split_at.ensures.back in
    let is_front : line ≡ take c.in-Some.len rest = c.split_at-in-loop-len.ensures.front ∙ ap (take c.in-Some.len) back in
    let whole : IsWholeLine line = rw is_front (rw back at c.in-Some.ensures.2) in
    let long : length line ≡ c.in-Some.len = c.split_at-in-loop-len.ensures.front_len in
    let fits : length line ≤ length rest = omega (arith, long, rw back at c.in-Some.ensures.0) in
    record {
      read = IsRead-line c.args.bases.now c.args.nodes text line c.loop-len.reading c.read_line.new.reading c.loop-len.invariant.read whole (is_front ∙ ap (λ k. take k rest) (sym long)) fits
          (sym c.in_ok-read_line.ensures.is_commit ∙ c.if-branch.false) c.in_ok-read_line.ensures.from c.in_ok-read_line.ensures.searched (c.in_ok-read_line.ensures.at (ap Ok c.if-branch.false))
          (c.in_ok-read_line.ensures.batch (ap Ok c.if-branch.false)) (c.in_ok-read_line.ensures.fits c.loop-len.invariant.read.fits);
      onward = omega (arith, c.loop-len.invariant.onward, c.in_ok-read_line.ensures.from, c.in_ok-read_line.ensures.searched, c.in-Some.ensures.1, long);
    }

pub read_line-requires-clause-line : goal.read_line-requires-clause-line
read_line-requires-clause-line c =
    let back : c.split_at.result.1.now ≡ drop c.loop-len.reading.from c.args.text.now = c.split_at.ensures.back in
    first_line-whole c.split_at-in-loop-len.result.0.now (rw c.split_at-in-loop-len.ensures.front c.in-Some.ensures.2)
