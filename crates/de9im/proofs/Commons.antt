-- Two sets of places that have a place in common.
use Rattle.poly_exact.specs.Places.{Place}
use Rattle.de9im.specs.Matrix.{Common}

pub Common-swap : {p q : Place → Type 0} → Common p q → Common q p
Common-swap c = record { place = c.place; weight = c.weight; first = c.second; second = c.first }
