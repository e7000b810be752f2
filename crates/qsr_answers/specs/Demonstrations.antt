-- What `demo` writes: of the network that a seed states how many edges keep their relations, how many base relations its closure leaves
-- possible in all, and the verdict of a search that h8 guides.
use Rattle.std.specs.Prelude.{◌≡◌, ℕ, List, ◌++◌, codes, count_ones}
use Rattle.std.specs.List.{sum_by}
use Rattle.std.specs.Fmt.{decimal}
use Rattle.calculus_builtin.specs.Rcc8.{rcc8_algebra}
use Rattle.network_words.specs.Network.{Network}
use Rattle.network_words.specs.Closure.{IsClosure}
use Rattle.tract_classes.specs.BuiltIn.{h8}
use Rattle.split_search.specs.Ruled.{IsVerdict}
use Rattle.split_search.specs.Verdicts.{IsTrueOf, nodes_of}
use Rattle.split_search.specs.declared.verdict.Verdict.{Verdict}
use Rattle.geo_facts.specs.Demo.{IsDemo}
use Rattle.qsr_words.specs.Asked.{DemoAsked}
use Rattle.qsr_words.specs.declared.TheConstants.{MAX_BUDGET}
use Rattle.qsr_inputs.specs.declared.statuses.Status.{Status}
use Rattle.qsr_answers.specs.Texts.{verdict_line}
use Rattle.qsr_answers.specs.Verdicts.{verdict_word, verdict_status}

-- the sum of the numbers of members
abbrev pub members_in_all : List ℕ → ℕ
members_in_all words = sum_by count_ones words

-- the lines before the verdict
abbrev pub demo_head : DemoAsked → ℕ → ℕ → List ℕ
demo_head asked kept members =
    codes "demo " ++ decimal asked.seed ++ codes " " ++ decimal asked.nodes ++ codes "\n"
    ++ codes "kept " ++ decimal kept ++ codes "\n" ++ codes "bits " ++ decimal members ++ codes "\n"

-- the text and the status of a demonstration
pub record Demonstrates (asked : DemoAsked) (text : List ℕ) (status : Status) : Type 0 where
  pub network : Network
  pub kept : ℕ
  pub is_demo : IsDemo asked.seed asked.nodes network kept
  pub closure : List ℕ
  pub is_closure : IsClosure rcc8_algebra network.nodes network.words closure
  pub verdict : Verdict
  pub ruled : IsVerdict rcc8_algebra network.nodes h8 MAX_BUDGET network.words verdict
  pub is_true : IsTrueOf rcc8_algebra network.nodes network.words MAX_BUDGET verdict
  pub text_is : text ≡ demo_head asked kept (members_in_all closure) ++ verdict_line (verdict_word verdict) (nodes_of verdict)
  pub status_is : status ≡ verdict_status verdict
