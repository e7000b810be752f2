-- RCC-8: eight relations of regions, with their composition table (Randell, Cui and Cohn 1992).
use Rattle.std.specs.Prelude.{ℕ, ◌^◌, List, [], ◌∷◌, ◌++◌, codes}
use Rattle.calculus_table.specs.Algebra.{Algebra}
use Rattle.calculus_table.specs.Calculus.{NamedAlgebra}
use Rattle.calculus_builtin.specs.Sets.{◌∪◌}

-- the base relations in order: apart, touching, overlapping, a touching part, an inner part, their converses, the same
abbrev pub rcc8_names : List (List ℕ)
rcc8_names =
    codes "DC" ∷ codes "EC" ∷ codes "PO" ∷ codes "TPP" ∷ codes "NTPP" ∷ codes "TPPi" ∷ codes "NTPPi" ∷ codes "EQ" ∷ []

-- the sets of one base relation
abbrev pub dc : ℕ
dc = 2 ^ 0

abbrev pub ec : ℕ
ec = 2 ^ 1

abbrev pub po : ℕ
po = 2 ^ 2

abbrev pub tpp : ℕ
tpp = 2 ^ 3

abbrev pub ntpp : ℕ
ntpp = 2 ^ 4

abbrev pub tppi : ℕ
tppi = 2 ^ 5

abbrev pub ntppi : ℕ
ntppi = 2 ^ 6

abbrev pub eq : ℕ
eq = 2 ^ 7

-- a proper part, its converse, and all eight
abbrev pub pp : ℕ
pp = tpp ∪ ntpp

abbrev pub ppi : ℕ
ppi = tppi ∪ ntppi

abbrev pub all : ℕ
all = dc ∪ ec ∪ po ∪ pp ∪ ppi ∪ eq

-- the compositions of each base relation with DC, EC, PO, TPP, NTPP, TPPi, NTPPi and EQ
abbrev pub dc_row : List ℕ
dc_row =
    all ∷ (dc ∪ ec ∪ po ∪ pp) ∷ (dc ∪ ec ∪ po ∪ pp) ∷ (dc ∪ ec ∪ po ∪ pp) ∷ (dc ∪ ec ∪ po ∪ pp) ∷ dc ∷ dc ∷ dc ∷ []

abbrev pub ec_row : List ℕ
ec_row =
    (dc ∪ ec ∪ po ∪ ppi) ∷ (dc ∪ ec ∪ po ∪ tpp ∪ tppi ∪ eq) ∷ (dc ∪ ec ∪ po ∪ pp) ∷ (ec ∪ po ∪ pp) ∷ (po ∪ pp) ∷ (dc ∪ ec) ∷ dc ∷ ec ∷ []

abbrev pub po_row : List ℕ
po_row =
    (dc ∪ ec ∪ po ∪ ppi) ∷ (dc ∪ ec ∪ po ∪ ppi) ∷ all ∷ (po ∪ pp) ∷ (po ∪ pp) ∷ (dc ∪ ec ∪ po ∪ ppi) ∷ (dc ∪ ec ∪ po ∪ ppi) ∷ po ∷ []

abbrev pub tpp_row : List ℕ
tpp_row =
    dc ∷ (dc ∪ ec) ∷ (dc ∪ ec ∪ po ∪ pp) ∷ pp ∷ ntpp ∷ (dc ∪ ec ∪ po ∪ tpp ∪ tppi ∪ eq) ∷ (dc ∪ ec ∪ po ∪ ppi) ∷ tpp ∷ []

abbrev pub ntpp_row : List ℕ
ntpp_row = dc ∷ dc ∷ (dc ∪ ec ∪ po ∪ pp) ∷ ntpp ∷ ntpp ∷ (dc ∪ ec ∪ po ∪ pp) ∷ all ∷ ntpp ∷ []

abbrev pub tppi_row : List ℕ
tppi_row =
    (dc ∪ ec ∪ po ∪ ppi) ∷ (ec ∪ po ∪ ppi) ∷ (po ∪ ppi) ∷ (po ∪ tpp ∪ tppi ∪ eq) ∷ (po ∪ pp) ∷ ppi ∷ ntppi ∷ tppi ∷ []

abbrev pub ntppi_row : List ℕ
ntppi_row =
    (dc ∪ ec ∪ po ∪ ppi) ∷ (po ∪ ppi) ∷ (po ∪ ppi) ∷ (po ∪ ppi) ∷ (po ∪ pp ∪ ppi ∪ eq) ∷ ntppi ∷ ntppi ∷ ntppi ∷ []

abbrev pub eq_row : List ℕ
eq_row = dc ∷ ec ∷ po ∷ tpp ∷ ntpp ∷ tppi ∷ ntppi ∷ eq ∷ []

unfoldable pub rcc8_table : List ℕ
rcc8_table = dc_row ++ ec_row ++ po_row ++ tpp_row ++ ntpp_row ++ tppi_row ++ ntppi_row ++ eq_row

-- the identity is EQ; TPP and TPPi, NTPP and NTPPi are each other's converses, and the others their own
abbrev pub rcc8_algebra : Algebra
rcc8_algebra = record {
  size = 8;
  identity = 7;
  converses = 0 ∷ 1 ∷ 2 ∷ 5 ∷ 6 ∷ 3 ∷ 4 ∷ 7 ∷ [];
  table = rcc8_table;
}

-- RCC-8 with its names
abbrev pub rcc8_calculus : NamedAlgebra
rcc8_calculus = record { names = rcc8_names; algebra = rcc8_algebra }
