use Rattle.std.proofs.Common.{◌≡◌, [], None, map, rules}
use Rattle.calculus_load.specs.Names.{repeat_after}
use Rattle.calculus_load.proofs.NamesRead.{repeat_after-distinct}
use Rattle.calculus_load.proofs.reading.names_of_line.Goals as goal

pub returns-clause-distinct : goal.returns-clause-distinct
returns-clause-distinct c =
    let names = map (λ name. name.now) c.in-Ok.names.items in
    let none : repeat_after [] names ≡ None = search rules in
    repeat_after-distinct names none
