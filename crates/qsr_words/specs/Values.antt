-- The values of a command's words as the definitions see them.
use Rattle.std.specs.Prelude.{option_map}
use Rattle.qsr_words.specs.Asked.{SolveAsked}
use Rattle.qsr_words.specs.declared.solve.Values.{Values}

abbrev pub search_of : Values → SolveAsked
search_of v = record {
  calculus = v.calculus.now;
  class = v.class.now;
  polygons = option_map (λ text. text.now) v.polygons;
  budget = v.budget;
  workers = v.workers;
  is_cert = v.cert;
}
