-- What contracts see of a calculus of few base relations or of many.
use Rattle.calculus_table.specs.Algebra.{Algebra}
use Rattle.stepped_networks.specs.declared.compositions.Composer.{Composer}
use Rattle.stepped_networks.specs.declared.compositions.Composer.TheVariants.{Few, Many}

abbrev pub algebra_of : Composer → Algebra
algebra_of (Few nibbles) = nibbles
algebra_of (Many fast) = fast
