use Rattle.calculus_table.proofs.Compositions.{composition-mono, converse-mono, composition-union_l, composition-union_r, converse-union, converse-composition, converse-converse, composition-identity_l, composition-identity_r}
use Rattle.calculus_table.proofs.laws.laws_of_sets.Goals as goal

pub returns : goal.returns
returns c = record {
  composition_is_monotone = composition-mono;
  converse_is_monotone = converse-mono;
  composition_distributes_left = composition-union_l;
  composition_distributes_right = composition-union_r;
  converse_distributes = converse-union;
  converse_turns_composition = converse-composition;
  converse_is_involution = converse-converse;
  identity_is_neutral = λ m a k w. (composition-identity_l m a k w, composition-identity_r m a k w);
}
