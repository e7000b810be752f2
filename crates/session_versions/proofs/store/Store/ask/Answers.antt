use Rattle.std.proofs.Common.{arith, rules}
use Rattle.session_versions.proofs.Closures.{IsNetwork-closure_of_facts}
use Rattle.session_versions.proofs.store.Store.ask.Goals as goal

pub get-requires-clause-within : goal.get-requires-clause-within
get-requires-clause-within g c =
    let version = rw (← c.behind-self.view_is) at c.version_back.ensures.version in
    rw (c.requires.calculus, version.nodes) (IsNetwork-closure_of_facts _ _ _ _ version.closure)

pub returns-clause-ok : goal.returns-clause-ok
returns-clause-ok g c =
    let version = rw (← c.behind-self.view_is) at c.version_back.ensures.version in
    let found = c.version_back.ensures.value c.args.version (omega (arith, c.if-version-newest.false, c.newest-newest.ensures.value)) in
    rw (found, c.get.ensures.value, c.requires.calculus, ← c.behind-self.view_is, version.nodes) (search rules)
