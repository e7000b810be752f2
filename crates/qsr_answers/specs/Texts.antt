-- The lines that the commands write.
use Rattle.std.specs.Prelude.{ℕ, List, [], ◌++◌, codes, if◌then◌else◌, nat_lt, count_by}
use Rattle.std.specs.Fmt.{decimal}
use Rattle.split_trees.specs.Tree.{TreeNode, is_split}
use Rattle.minimal_net.specs.declared.edge_labels.EdgeLabels.{EdgeLabels}
use Rattle.minimal_net.specs.declared.outcome.Outcome.TheVariants.{Held, Refuted, Open}
use Rattle.minimal_net.specs.NetworkLabels.{count_of}
use Rattle.qsr_inputs.specs.declared.statuses.Place.{Place}

-- the line for words that ask for nothing
abbrev pub usage_text : List ℕ
usage_text = codes "usage\n"

-- the numbers of a place, each after one space
abbrev pub place_text : Place → List ℕ
place_text place =
    (if nat_lt 0 place.count then codes " " ++ decimal place.a else [])
    ++ (if nat_lt 1 place.count then codes " " ++ decimal place.b else [])
    ++ (if nat_lt 2 place.count then codes " " ++ decimal place.c else [])

-- the line of a refusal
abbrev pub refusal_text : ℕ → Place → List ℕ
refusal_text number place = codes "refused " ++ decimal number ++ place_text place ++ codes "\n"

-- the lines of a certificate that is accepted, and of one that isn't
abbrev pub accepted_text : List ℕ
accepted_text = codes "accepted\n"

abbrev pub not_accepted_text : ℕ → Place → List ℕ
not_accepted_text number place = codes "not accepted " ++ decimal number ++ place_text place ++ codes "\n"

-- the line of a verdict: its word, and the number of splits of its tree
abbrev pub verdict_line : List ℕ → List TreeNode → List ℕ
verdict_line word nodes = word ++ codes " " ++ decimal (count_by is_split nodes) ++ codes "\n"

-- the line of so many labels that are held, refuted and open; and that of the labels of a network
abbrev pub counts_line : ℕ → ℕ → ℕ → List ℕ
counts_line held refuted undecided =
    codes "labels " ++ decimal held ++ codes " " ++ decimal refuted ++ codes " " ++ decimal undecided ++ codes "\n"

abbrev pub labels_line : List EdgeLabels → List ℕ
labels_line labels = counts_line (count_of Held labels) (count_of Refuted labels) (count_of Open labels)
