use Rattle.std.proofs.Common.{◌≡◌, [], take, drop, map}
use Rattle.calculus_load.specs.Names.{repeat_after}
use Rattle.calculus_load.proofs.names.first_repeat.Given as goal

abbrev pub invariant-loop-at : goal.invariant-loop-at
invariant-loop-at l =
    repeat_after (map (λ name. name.now) (take l.at l.names)) (map (λ name. name.now) (drop l.at l.names)) ≡ repeat_after [] (map (λ name. name.now) l.names)
