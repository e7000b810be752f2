-- Three classes of RCC-8, named H8, C8 and Q8 after Renz and Nebel (1999), by rules that say which sets are no members.
use Rattle.std.specs.Prelude.{◌≡◌, ℕ, ◌^◌, ◌==◌, ◌&&◌, ◌||◌, ◌<◌, not, Bool, List, ◌∷◌, map, filter, bit_and, length}
use Rattle.std.specs.List.{range_with_len}
use Rattle.calculus_builtin.specs.Sets.{◌∪◌}
use Rattle.calculus_builtin.specs.Rcc8.{dc, ec, po, tpp, ntpp, tppi, ntppi, eq, pp, ppi, rcc8_calculus}
use Rattle.calculus_table.specs.Calculus.{EachBase}
use Rattle.tract_classes.specs.Class.{HasBase}
use Rattle.tract_classes.specs.declared.built_in.Rcc8Class.{Rcc8Class}
use Rattle.tract_classes.specs.declared.built_in.Rcc8Class.TheVariants.{H8, C8, Q8}

-- the two sets have a base relation in common
abbrev pub meets : ℕ → ℕ → Bool
meets a b = not (bit_and a b == 0)

-- a part and a part the other way round, without an overlap; and four sets more
abbrev pub is_np8 : ℕ → Bool
is_np8 a =
    (not (meets a po) && meets a pp && meets a ppi) || a == ec ∪ ntpp ∪ eq || a == dc ∪ ec ∪ ntpp ∪ eq || a == ec ∪ ntppi ∪ eq
    || a == dc ∪ ec ∪ ntppi ∪ eq

-- equal or an inner part, but no touching part; and the same the other way round
abbrev pub is_not_h8 : ℕ → Bool
is_not_h8 a = (meets a eq && meets a ntpp && not (meets a tpp)) || (meets a eq && meets a ntppi && not (meets a tppi))

-- touching, or a part or equal, without an overlap
abbrev pub is_not_c8 : ℕ → Bool
is_not_c8 a = meets a ec && not (meets a po) && meets a (pp ∪ ppi ∪ eq)

-- equal, or a part, without an overlap
abbrev pub is_not_q8 : ℕ → Bool
is_not_q8 a = meets a eq && not (meets a po) && meets a (pp ∪ ppi)

-- the sets that the rule of the class leaves out
abbrev pub is_left_out : Rcc8Class → ℕ → Bool
is_left_out H8 a = is_not_h8 a
is_left_out C8 a = is_not_c8 a
is_left_out Q8 a = is_not_q8 a

-- the sets in none of which these rules leave out, of all 256
abbrev pub is_in : Rcc8Class → ℕ → Bool
is_in class a = not (is_np8 a) && not (is_left_out class a)

abbrev pub members : Rcc8Class → List ℕ
members class = filter (is_in class) (range_with_len 0 256)

abbrev pub h8 : List ℕ
h8 = members H8

abbrev pub c8 : List ℕ
c8 = members C8

abbrev pub q8 : List ℕ
q8 = members Q8

-- the empty relation and the single base relations
abbrev pub singles : ℕ → List ℕ
singles n = 0 ∷ map (λ r. 2 ^ r) (range_with_len 0 n)

-- how many members the classes have
pub record HaveSizes : Type 0 where
  pub np8 : length (filter is_np8 (range_with_len 0 256)) ≡ 76
  pub h8_members : length h8 ≡ 148
  pub c8_members : length c8 ≡ 158
  pub q8_members : length q8 ≡ 160

-- each base relation is a member by itself
pub record HaveBases : Type 0 where
  pub h8_bases : EachBase rcc8_calculus.algebra (HasBase h8)
  pub c8_bases : EachBase rcc8_calculus.algebra (HasBase c8)
  pub q8_bases : EachBase rcc8_calculus.algebra (HasBase q8)

abbrev pub SinglesHaveBases : Type 0
SinglesHaveBases = (n r : ℕ) → r < n → HasBase (singles n) r
