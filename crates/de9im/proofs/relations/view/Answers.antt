use Rattle.de9im.proofs.relations.view.Goals as goal

pub returns-then-found : goal.returns-then-found
returns-then-found c = c.requires.told.proper c.if-found.true
