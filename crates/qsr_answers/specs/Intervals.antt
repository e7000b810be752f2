-- What `intervals` writes of a verdict: its line, and after a yes intervals that realise the scenario, by the ranks of
-- their end points (Allen 1983).
use Rattle.std.specs.Prelude.{◌≡◌, ℕ, List, ◌++◌, length, ◌==◌, if◌then◌else◌, codes}
use Rattle.std.specs.Fmt.{decimal}
use Rattle.qsr_lex.specs.Printed.{text_below, word_text}
use Rattle.network_words.specs.Network.{Network}
use Rattle.allen_real.specs.declared.intervals.Interval.{Interval}
use Rattle.allen_real.specs.Realisation.{interval_at, RealiseByRanks}
use Rattle.split_trees.specs.Tree.{TreeNode}
use Rattle.split_search.specs.declared.verdict.Verdict.{Verdict}
use Rattle.split_search.specs.declared.verdict.Verdict.TheVariants as verdict
use Rattle.qsr_answers.specs.Texts.{verdict_line}

-- the name of node i, or its number where the nodes have no names, and a space
abbrev pub node_text : List (List ℕ) → ℕ → List ℕ
node_text names i = if length names == 0 then decimal i ++ codes " " else word_text names i

-- the line of node i: its name, and where its interval begins and ends
abbrev pub interval_line : List (List ℕ) → List Interval → ℕ → List ℕ
interval_line names xs i =
    node_text names i ++ decimal (interval_at xs i).low ++ codes " " ++ decimal (interval_at xs i).high ++ codes "\n"

-- the line of a yes, and a line for each of n nodes with its interval
pub record TellsIntervals (n : ℕ) (names : List (List ℕ)) (relations : List ℕ) (nodes : List TreeNode)
    (text : List ℕ) : Type 0 where
  pub intervals : List Interval
  pub realised : RealiseByRanks n relations intervals
  pub text_is : text ≡ verdict_line (codes "yes") nodes ++ text_below n (interval_line names intervals)

-- the text of a verdict on a network
abbrev pub IsIntervalsText : Network → Verdict → List ℕ → Type 0
IsIntervalsText net (verdict.Yes relations nodes) text = TellsIntervals net.nodes net.names relations nodes text
IsIntervalsText net (verdict.No nodes) text = text ≡ verdict_line (codes "no") nodes
IsIntervalsText net (verdict.Budget nodes) text = text ≡ verdict_line (codes "budget") nodes
