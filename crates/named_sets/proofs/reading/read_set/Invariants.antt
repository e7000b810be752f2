use Rattle.std.proofs.Common.{◌≡◌, ◌-◌, ◌^◌, Some, length}
use Rattle.calculus_table.specs.Rel.{IsWithin}
use Rattle.qsr_lex.specs.LineTokens.{names_until_close}
use Rattle.named_sets.specs.Named.{set_at}
use Rattle.named_sets.proofs.ReadSets.{with_members}
use Rattle.named_sets.proofs.reading.read_set.Given as goal

abbrev pub invariant-loop-token : goal.invariant-loop-token
invariant-loop-token l = record {
  told : with_members l.bases (Some l.set) (names_until_close l.tokens) ≡ set_at l.bases l.fn.tokens;
  within : IsWithin l.set (2 ^ length l.bases - 1);
}

abbrev pub decreases-loop-token : goal.decreases-loop-token
decreases-loop-token l = length l.tokens
