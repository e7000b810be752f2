use Rattle.calculus_table.proofs.table.Table.check_laws.Goals as goal

pub returns : goal.returns
returns c = record {
  table = c.first_broken.ensures.table;
  involution = c.in_default.ensures;
  identity = c.in_default-first_not_identity.ensures;
  converse = c.in_default-first_broken.ensures.answer;
  cycle = c.in_default-first_broken-2.ensures.answer;
}
