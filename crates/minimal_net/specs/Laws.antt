-- What holds of labels, and over straight classes.
use Rattle.std.specs.Prelude.{◌≡◌, ℕ, ◌+◌, ◌<◌, ◌≤◌, ◌↔◌, List, All, Contains}
use Rattle.calculus_table.specs.Algebra.{Algebra}
use Rattle.calculus_table.specs.Calculus.{IsCalculus, EachBase}
use Rattle.network_words.specs.Edge.{edge_count}
use Rattle.network_words.specs.Network.{IsNetwork}
use Rattle.network_words.specs.Closure.{IsClosure}
use Rattle.network_words.specs.Scenario.{IsScenario}
use Rattle.tract_classes.specs.Class.{IsClass, HasBase, IsClosedClass}
use Rattle.split_search.specs.declared.verdict.Verdict.{Verdict}
use Rattle.split_search.specs.Ruled.{IsVerdict, product}
use Rattle.minimal_net.specs.declared.label.Label.{Label}
use Rattle.minimal_net.specs.declared.label.Label.TheVariants.{Held}
use Rattle.minimal_net.specs.Labels.{set_to, IsLabel, HasAt, IsTrueOf}
use Rattle.minimal_net.specs.declared.edge_labels.EdgeLabels.{EdgeLabels}
use Rattle.minimal_net.specs.declared.outcome.Outcome.TheVariants.{Open}
use Rattle.minimal_net.specs.NetworkLabels.{AreLabels, count_of, left_of}
use Rattle.minimal_net.specs.Minimal.{IsLabelled, HasNoOpen, IsMinimal}
use Rattle.tract_classes.specs.Straight.{IsStraight}
use Rattle.split_search.specs.Straight.{AreLeast, several_count}

-- ---- labels

-- a base relation has one label at an edge at most
abbrev pub LabelIsOne : Type 0
LabelIsOne =
    (m : Algebra) (n : ℕ) (class : List ℕ) (budget : ℕ) (words : List ℕ) (e base : ℕ) (k l : Label) →
    IsLabel m n class budget words e base k → IsLabel m n class budget words e base l → k ≡ l

-- and has one
abbrev pub LabelExists : Type 0
LabelExists =
    (m : Algebra) (n : ℕ) (class : List ℕ) (budget : ℕ) (words : List ℕ) (e base : ℕ) → IsCalculus m →
    IsNetwork m n words → IsClass class → EachBase m (HasBase class) → e < edge_count n →
    (label : Label) × IsLabel m n class budget words e base label

-- and what it says is so
abbrev pub LabelIsTrue : Type 0
LabelIsTrue =
    (m : Algebra) (n : ℕ) (class : List ℕ) (budget : ℕ) (words : List ℕ) (e base : ℕ) (label : Label) → IsCalculus m →
    IsNetwork m n words → EachBase m (HasBase class) → e < edge_count n →
    IsLabel m n class budget words e base label → IsTrueOf m n words e base budget label

-- networks with one closure have one verdict
abbrev pub SameClosureSameVerdict : Type 0
SameClosureSameVerdict =
    (m : Algebra) (n : ℕ) (class : List ℕ) (budget : ℕ) (words others closure : List ℕ) (v : Verdict) →
    IsClosure m n words closure → IsClosure m n others closure → IsVerdict m n class budget words v →
    IsVerdict m n class budget others v

-- the closure of a network with an edge set to a base relation is that of its closure with the edge set so
abbrev pub ClosureSetTo : Type 0
ClosureSetTo =
    (m : Algebra) (n : ℕ) (words closure : List ℕ) (e base : ℕ) (met : List ℕ) → IsClosure m n words closure →
    e < edge_count n → IsNetwork m n words →
    IsClosure m n (set_to closure e base) met ↔ IsClosure m n (set_to words e base) met

-- so a network has the labels of its closure
abbrev pub LabelOfClosure : Type 0
LabelOfClosure =
    (m : Algebra) (n : ℕ) (class : List ℕ) (budget : ℕ) (words closure : List ℕ) (e base : ℕ) (label : Label) →
    IsCalculus m → IsNetwork m n words → IsClosure m n words closure → e < edge_count n →
    IsLabel m n class budget words e base label ↔ IsLabel m n class budget closure e base label

-- where the product of the sizes of the closed sets is one more than the budget at most, a base relation that some
-- scenario has at the edge is held
abbrev pub SeenIsHeld : Type 0
SeenIsHeld =
    (m : Algebra) (n : ℕ) (class : List ℕ) (budget : ℕ) (words : List ℕ) (e base : ℕ) (relations closure : List ℕ)
    (label : Label) → IsCalculus m → IsNetwork m n words → EachBase m (HasBase class) → e < edge_count n →
    HasAt m n words e base relations → IsClosure m n (set_to words e base) closure → product closure ≤ budget + 1 →
    IsLabel m n class budget words e base label → (held : List ℕ) × (label ≡ Held held)

-- each scenario of the network is one of the closure without the refuted base relations, and the other way round
abbrev pub LabelledKeepsScenarios : Type 0
LabelledKeepsScenarios =
    (m : Algebra) (n : ℕ) (class : List ℕ) (budget : ℕ) (words written : List ℕ) (relations : List ℕ) → IsCalculus m →
    IsNetwork m n words → EachBase m (HasBase class) → IsLabelled m n class budget words written →
    IsScenario m n words relations ↔ IsScenario m n written relations

-- and with no open label that is the minimal network
abbrev pub LabelledIsMinimal : Type 0
LabelledIsMinimal =
    (m : Algebra) (n : ℕ) (class : List ℕ) (budget : ℕ) (words written : List ℕ)
    (l : IsLabelled m n class budget words written) → IsCalculus m → IsNetwork m n words → IsClass class →
    EachBase m (HasBase class) → HasNoOpen m n class budget words l.closure → IsMinimal m n words written

-- ---- the labels of a network

-- a network has one list of labels at most
abbrev pub LabelsAreOne : Type 0
LabelsAreOne =
    (m : Algebra) (n : ℕ) (class : List ℕ) (budget : ℕ) (words closure : List ℕ) (ks ls : List EdgeLabels) →
    AreLabels m n class budget words closure ks → AreLabels m n class budget words closure ls → ks ≡ ls

-- and has one
abbrev pub LabelsExist : Type 0
LabelsExist =
    (m : Algebra) (n : ℕ) (class : List ℕ) (budget : ℕ) (words closure : List ℕ) → IsCalculus m → IsNetwork m n words →
    IsClass class → EachBase m (HasBase class) → IsClosure m n words closure →
    (labels : List EdgeLabels) × AreLabels m n class budget words closure labels

-- they are those of its closure
abbrev pub LabelsOfClosure : Type 0
LabelsOfClosure =
    (m : Algebra) (n : ℕ) (class : List ℕ) (budget : ℕ) (words closure : List ℕ) (labels : List EdgeLabels) →
    IsCalculus m → IsNetwork m n words → IsClosure m n words closure →
    AreLabels m n class budget closure closure labels → AreLabels m n class budget words closure labels

-- without the refuted base relations they leave the closure without these
abbrev pub LabelsLeave : Type 0
LabelsLeave =
    (m : Algebra) (n : ℕ) (class : List ℕ) (budget : ℕ) (words closure : List ℕ) (labels : List EdgeLabels) →
    IsCalculus m → IsNetwork m n words → IsClass class → EachBase m (HasBase class) → IsClosure m n words closure →
    AreLabels m n class budget words closure labels → IsLabelled m n class budget words (left_of labels)

-- where none of them is open they leave the minimal network
abbrev pub LabelsAreMinimal : Type 0
LabelsAreMinimal =
    (m : Algebra) (n : ℕ) (class : List ℕ) (budget : ℕ) (words closure : List ℕ) (labels : List EdgeLabels) →
    IsCalculus m → IsNetwork m n words → IsClass class → EachBase m (HasBase class) → IsClosure m n words closure →
    AreLabels m n class budget words closure labels → count_of Open labels ≡ 0 → IsMinimal m n words (left_of labels)

-- ---- straight classes

-- the least base relations of the closure of a network with an edge set to a base relation are a scenario of the network that has it
-- there, over a straight class
abbrev pub StraightHasAt : Type 0
StraightHasAt =
    (m : Algebra) (n : ℕ) (class words : List ℕ) (e base : ℕ) (closure relations : List ℕ) → IsStraight m class →
    IsNetwork m n words → e < edge_count n → IsClosure m n (set_to words e base) closure →
    All (Contains class) closure → AreLeast n closure relations → HasAt m n words e base relations

-- and where the class is closed as well, and the budget has a split for each edge that has several base relations, a label is held
-- with these
abbrev pub StraightIsHeld : Type 0
StraightIsHeld =
    (m : Algebra) (n : ℕ) (class : List ℕ) (budget : ℕ) (words : List ℕ) (e base : ℕ) (closure relations : List ℕ)
    (label : Label) → IsCalculus m → IsClosedClass m class → IsStraight m class → IsNetwork m n words →
    e < edge_count n → IsClosure m n (set_to words e base) closure → All (Contains class) closure →
    AreLeast n closure relations → several_count closure ≤ budget → IsLabel m n class budget words e base label →
    label ≡ Held relations
