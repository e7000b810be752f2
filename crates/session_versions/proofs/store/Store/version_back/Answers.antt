use Rattle.std.proofs.Common.{◌≤◌, length, arith}
use Rattle.session_versions.proofs.Stores.{IsBack-newest, IsBack-older}
use Rattle.session_versions.proofs.store.Store.version_back.Goals as goal

pub returns-then-back-eq0 : goal.returns-then-back-eq0
returns-then-back-eq0 c =
    let back = IsBack-newest _ c.args.back c.self.invariant.store c.if-back-eq0.true in
    rw (← c.self.view_is) (record { value = back.value; version = back.version })

pub returns : goal.returns
returns c =
    let older = c.self.inside.older.items in
    let there : c.args.back ≤ c.self.inside.newest.number = rw (← c.self.view_is) at c.requires.there in
    let few : c.args.back ≤ length older = omega (arith, c.self.invariant.store.kept, c.requires.kept, there) in
    let back = IsBack-older _ c.args.back _ c.index.result.now c.self.invariant.store c.if-back-eq0.false few (omega (arith, c.len.ensures)) c.index.ensures in
    rw (← c.self.view_is) (record { value = back.value; version = back.version })
