-- What places two rings have in common.
use Rattle.std.specs.Prelude.{pos, ◌<ℤ◌}
use Rattle.poly_exact.specs.Places.{Place}

-- a place is both
pub record Common (f g : Place → Type 0) : Type 0 where
  pub place : Place
  pub weight : pos 0 <ℤ place.w
  pub first : f place
  pub second : g place
