-- The six rules of parts and of areas apart, from which the table of RCC-8 follows. The sets are P, NTPP, DR and
-- DC of Randell, Cui and Cohn (1992).
use Rattle.std.specs.Prelude.{ℕ}
use Rattle.calculus_table.specs.Rel.{Has}
use Rattle.calculus_table.specs.Algebra.{converse_at}
use Rattle.calculus_builtin.specs.Sets.{◌∪◌}
use Rattle.calculus_builtin.specs.Rcc8.{dc, ec, tpp, ntpp, eq, rcc8_algebra}

-- the relations of a part to its whole, of an inner part, of areas without a common inner point, and of areas
-- without a common point
abbrev pub parts : ℕ
parts = tpp ∪ ntpp ∪ eq

abbrev pub inner_parts : ℕ
inner_parts = ntpp

abbrev pub apart : ℕ
apart = dc ∪ ec

abbrev pub far_apart : ℕ
far_apart = dc

-- where x has r to y, y has s to z and x has t to z: a part of a part is a part, and what a whole is apart
-- from, its parts are apart from; a part of an inner part is an inner part, and so is an inner part of a
-- part; what is far apart from a whole is so from its parts, and what is apart from a whole is far apart from
-- its inner parts
pub record Follow (r s t : ℕ) : Type 0 where
  pub part : Has parts r → Has parts s → Has parts t
  pub apart_part : Has parts r → Has apart s → Has apart t
  pub inner_second : Has parts r → Has inner_parts s → Has inner_parts t
  pub inner_first : Has inner_parts r → Has parts s → Has inner_parts t
  pub far_second : Has parts r → Has far_apart s → Has far_apart t
  pub far_first : Has inner_parts r → Has apart s → Has far_apart t

-- the same of the three in every order
pub record FollowRules (r s t : ℕ) : Type 0 where
  pub xyz : Follow r s t
  pub xzy : Follow t (converse_at rcc8_algebra s) r
  pub yxz : Follow (converse_at rcc8_algebra r) t s
  pub yzx : Follow s (converse_at rcc8_algebra t) (converse_at rcc8_algebra r)
  pub zxy : Follow (converse_at rcc8_algebra t) r (converse_at rcc8_algebra s)
  pub zyx : Follow (converse_at rcc8_algebra s) (converse_at rcc8_algebra r) (converse_at rcc8_algebra t)
