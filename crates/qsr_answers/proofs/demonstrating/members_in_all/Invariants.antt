use Rattle.std.proofs.Common.{◌≡◌, ◌*◌, ◌≤◌, take, count_ones}
use Rattle.std.specs.List.{sum_by}
use Rattle.qsr_answers.proofs.demonstrating.members_in_all.Given as goal

abbrev pub invariant-loop-word : goal.invariant-loop-word
invariant-loop-word l = record {
  sum : l.members ≡ sum_by count_ones (take l.word-index l.words);
  few : l.members ≤ 4294967295 * l.word-index;
}
