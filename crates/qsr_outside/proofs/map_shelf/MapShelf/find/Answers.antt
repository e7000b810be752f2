use Rattle.std.proofs.Common.{rules, tests}
use Rattle.std.proofs.lemmas.Iterator.{YieldsList-from_slice}
use Rattle.std.proofs.lemmas.Iterator.Search.{position_from_yields_List}
use Rattle.qsr_outside.specs.StoredDocuments.{is_named}
use Rattle.qsr_outside.proofs.StoredLemmas.{find_none, find_some}
use Rattle.qsr_outside.proofs.map_shelf.MapShelf.find.Goals as goal

pub returns-clause-found : goal.returns-clause-found
returns-clause-found c =
    find_some _ _ _ (position_from_yields_List (is_named c.args.name.now) _ _ c.position.result c.position.ensures.ran (YieldsList-from_slice c.args.documents.now cc) (λ x b q k. search (rules, tests)))

pub returns-clause-absent : goal.returns-clause-absent
returns-clause-absent c =
    find_none _ _ _ (position_from_yields_List (is_named c.args.name.now) _ _ c.position.result c.position.ensures.ran (YieldsList-from_slice c.args.documents.now cc) (λ x b q k. search (rules, tests)))
