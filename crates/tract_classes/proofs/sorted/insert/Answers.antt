use Rattle.std.proofs.Common.{Ok, Err, sym, ◌∙◌}
use Rattle.std.specs.Ordering.{nat_cmp}
use Rattle.std.specs.List.Sorted.{IsBinarySearchResult}
use Rattle.tract_classes.proofs.Ascending.{place_found, gap_found, with_member-there, with_member-insert}
use Rattle.tract_classes.proofs.sorted.insert.Goals as goal

pub returns-in_default-clause-ok : goal.returns-in_default-clause-ok
returns-in_default-clause-ok c =
    let xs = c.args.sets.now.items in
    let a = c.args.word in
    let found : IsBinarySearchResult (λ y. nat_cmp y a) xs (Ok c.in_default.field-0) = rw (c.deref.ensures.value, c.in_default.is) at c.binary_search.ensures.position in
    let place = place_found xs a c.in_default.field-0 c.requires found in
    sym (with_member-there a xs c.requires c.in_default.field-0 place.0 place.1)

pub returns-in-Ok-clause-ok : goal.returns-in-Ok-clause-ok
returns-in-Ok-clause-ok c =
    let xs = c.args.sets.now.items in
    let a = c.args.word in
    let found : IsBinarySearchResult (λ y. nat_cmp y a) xs (Err c.in-Err.at) = rw (c.deref.ensures.value, c.in-Err.is) at c.binary_search.ensures.position in
    c.in-Ok.ensures.items ∙ sym (with_member-insert a xs c.in-Err.at (gap_found xs a c.in-Err.at c.requires found))
