use Rattle.tract_classes.proofs.LargestMembers.{IsLargestBefore}
use Rattle.tract_classes.proofs.partition.largest_among.Given as goal

abbrev pub invariant-loop-word : goal.invariant-loop-word
invariant-loop-word l = IsLargestBefore l.class l.rel l.word-index l.largest
