use Rattle.std.proofs.Common.{◌≡◌, ◌+◌, ◌*◌, ◌<◌, length, map, sym, subst, arith}
use Rattle.std.specs.String.{string_bytes}
use Rattle.std.proofs.lemmas.Nat.{mul-add-lt}
use Rattle.std.proofs.lemmas.List.{length-map}
use Rattle.calculus_load.proofs.Shapes.{HasShape-entry}
use Rattle.calculus_load.proofs.draft.Draft.give_entry.Goals as goal

pub invariant_of-self : goal.invariant_of-self
invariant_of-self c =
    let i = c.self.inside in
    let n = length (map string_bytes i.names.items) in
    let all : n ≡ length i.names.items = length-map i.names.items string_bytes in
    let size : c.len.result ≡ n = omega (arith, i.names.ok.0) in
    let first = rw (← c.self.view_is) at c.requires.first in
    let second = rw (← c.self.view_is) at c.requires.second in
    let within = rw (← c.self.view_is) at c.requires.within in
    HasShape-entry (record { names = map string_bytes i.names.items; identity = i.identity; converses = i.converses.items; entries = i.entries.items })
    (c.args.first * c.len.result + c.args.second) c.args.set c.self.invariant
    (subst (λ m. c.args.first * m + c.args.second < n * n) (sym size) (mul-add-lt c.args.first n c.args.second n first second)) within
