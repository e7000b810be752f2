-- The way as a list whose last element is the last node entered.
use Rattle.std.proofs.Common.{◌≡◌, ℕ, ◌+◌, ◌-◌, ◌<◌, Bool, true, false, List, [], ◌∷◌, ◌++◌, length, reverse, get_or, set, take, refl, sym, ◌∙◌, ap, subst, arith, if◌then◌else◌, slice_get, Some}
use Rattle.std.proofs.Math.Seq.{get_or-append_seam, take-append_seam, set-append_seam}
use Rattle.std.proofs.lemmas.List.{reverse-append, reverse-reverse, length-append}
use Rattle.std.proofs.lemmas.Option.{slice_get_read, slice_get_within, same_Some}
use Rattle.calculus_table.specs.Algebra.{Algebra}
use Rattle.network_words.specs.Network.{IsNetwork}
use Rattle.split_trees.specs.declared.tree.Kind.{Kind}
use Rattle.split_trees.specs.declared.tree.Kind.TheVariants.{Empty, Found, Open, Later, Split}
use Rattle.refutation.specs.declared.walking.Entered.{Entered}
use Rattle.split_trees.specs.Tree.{TreeNode, is_split_kind, split_parts}
use Rattle.refutation.specs.TreeFault.{AreFormed, IsSplitAt}
use Rattle.stepped_networks.specs.Networks.{NetworkStack}
use Rattle.refutation.specs.Ways.{IsStanding, HasLast, IsFinished}
use Rattle.refutation.proofs.Pendings.{standing-left, standing-finished}

-- ---- lists by their ends

module _ {A : Type 0} (xs before : List A) (at : A) (e : reverse xs ≡ at ∷ before) where
  list-end : xs ≡ reverse before ++ at ∷ []
  list-end = sym (reverse-reverse xs) ∙ ap reverse e ∙ reverse-append (at ∷ []) before

  length-end : length xs ≡ length (reverse before) + 1
  length-end = ap length list-end ∙ length-append (reverse before) (at ∷ [])

  pub last-lt : length xs - 1 < length xs
  last-lt = omega (arith, length-end)

  last-is : length xs - 1 ≡ length (reverse before)
  last-is = omega (arith, length-end)

  pub last-read : (d : A) → get_or xs (length xs - 1) d ≡ at
  last-read d = ap (λ k. get_or xs k d) last-is ∙ ap (λ ys. get_or ys (length (reverse before)) d) list-end ∙ get_or-append_seam (reverse before) at [] d

  pub reverse-set : (a : A) → reverse (set xs (length xs - 1) a) ≡ a ∷ before
  reverse-set a =
      ap (λ k. reverse (set xs k a)) last-is ∙ ap (λ ys. reverse (set ys (length (reverse before)) a)) list-end
      ∙ ap reverse (set-append_seam (reverse before) at [] a) ∙ reverse-append (reverse before) (a ∷ []) ∙ ap (λ ys. a ∷ ys) (reverse-reverse before)

  pub reverse-front : (k : ℕ) → k ≡ length xs → reverse (take (k - 1) xs) ≡ before
  reverse-front k is =
      let same : k - 1 ≡ length (reverse before) = omega (arith, is, length-end) in
      ap (λ q. reverse (take q xs)) same ∙ ap (λ ys. reverse (take (length (reverse before)) ys)) list-end
      ∙ ap reverse (take-append_seam (reverse before) (at ∷ [])) ∙ reverse-reverse before

  pub reverse-init : (ys : List A) (b : A) → xs ≡ ys ++ b ∷ [] → reverse ys ≡ before
  reverse-init ys b h =
      let turned : at ∷ before ≡ b ∷ reverse ys = sym e ∙ ap reverse h ∙ reverse-append ys (b ∷ []) in
      cc

-- the node that is read at the last place of the way
pub last-node : (nodes : List TreeNode) (way before : List Entered) (at : Entered) → reverse way ≡ at ∷ before → (node : TreeNode) → slice_get nodes at.node ≡ Some node →
    (read : TreeNode) (d : Entered) → read ≡ get_or nodes (get_or way (length way - 1) d).node read → node ≡ read
last-node nodes way before at e node there read d is =
    let below = slice_get_within nodes at.node node there in
    let here : read ≡ get_or nodes at.node read = is ∙ ap (λ (y : Entered). get_or nodes y.node read) (last-read way before at e d) in
    same_Some node read (sym there ∙ slice_get_read nodes _ at.node read refl below here)

pub same-node : (nodes : List TreeNode) (x : ℕ) (node read : TreeNode) → slice_get nodes x ≡ Some node → read ≡ get_or nodes x read → node ≡ read
same-node nodes x node read there is =
    let below = slice_get_within nodes x node there in
    same_Some node read (sym there ∙ slice_get_read nodes _ x read refl below is)

pub reverse-push : {A : Type 0} (xs : List A) (a : A) → reverse (xs ++ a ∷ []) ≡ a ∷ reverse xs
reverse-push xs a = reverse-append xs (a ∷ [])

-- ---- networks left again

pub stack-left : (old s new : NetworkStack) → s ≡ record old { top = s.top; under = s.under } → s ≡ record new { top = s.top; under = new.top ∷ new.under } →
    new ≡ record old { top = new.top; under = new.under }
stack-left old s new rest left = ap (λ (y : NetworkStack). record y { top = new.top; under = new.under }) (sym left ∙ rest)

-- ---- splits

-- a node with parts is a split, and the parts are its own
module _ (node : TreeNode) (some : 0 < length (split_parts node)) where
  by_kind : (b : Bool) → is_split_kind node.kind ≡ b → 0 < length (if b then node.parts else []) → is_split_kind node.kind ≡ true
  by_kind true e h = e
  by_kind false e h = absurd (omega arith)

  is_split : is_split_kind node.kind ≡ true
  is_split = by_kind (is_split_kind node.kind) refl some

  split-kind : (kind : Kind) → is_split_kind kind ≡ true → kind ≡ Split
  split-kind Empty e = cc
  split-kind Found e = cc
  split-kind Open e = cc
  split-kind Later e = cc
  split-kind Split e = refl

  pub kind-split : node.kind ≡ Split
  kind-split = split-kind node.kind is_split

  pub parts-split : split_parts node ≡ node.parts
  parts-split = ap (λ b. if b then node.parts else []) is_split

-- ---- the last node on the way

module _ (m : Algebra) (n : ℕ) (words : List ℕ) (nodes : List TreeNode) (x : ℕ) (more : x < length nodes) where
  -- there is one
  pub standing-last : (way : List Entered) (networks : List (List ℕ)) → IsStanding m n words nodes x way networks → HasLast nodes way
  standing-last [] networks s = absurd (standing-left m n words nodes x networks more s)
  standing-last (at ∷ way) [] s = absurd s.is_way
  standing-last (at ∷ way) (w ∷ networks) s = record { at = at; before = way; way_is = refl; node = s.is_way.1.node; is_there = s.is_way.1.is_there }

  -- its network is one
  pub standing-network : (way : List Entered) (w : List ℕ) (networks : List (List ℕ)) → IsStanding m n words nodes x way (w ∷ networks) → IsNetwork m n w
  standing-network [] w networks s = absurd s.is_way
  standing-network (at ∷ way) w networks s = s.is_way.1.network

  -- where its children were all entered, there is a node before it, and that one is the last then
  module _ (way : List Entered) (w : List ℕ) (networks : List (List ℕ)) (s : IsStanding m n words nodes x way (w ∷ networks)) (f : IsFinished nodes way) where
    pub standing-before : IsStanding m n words nodes x f.before networks
    standing-before =
        standing-finished m n words nodes x f.at f.before w networks f.node f.is_there f.none_left (subst (λ y. IsStanding m n words nodes x y (w ∷ networks)) f.way_is s)

    some-under : (before : List Entered) (ws : List (List ℕ)) → IsStanding m n words nodes x before ws → 0 < length ws
    some-under [] [] t = absurd (standing-left m n words nodes x [] more t)
    some-under [] (v ∷ ws) t = omega arith
    some-under (at ∷ before) [] t = absurd t.is_way
    some-under (at ∷ before) (v ∷ ws) t = omega arith

    pub under-some : 0 < length networks
    under-some = some-under f.before networks standing-before

-- ---- the next child

-- the split whose child is next is one of an edge, and the part is one of its parts
module _ (n : ℕ) (nodes : List TreeNode) (formed : AreFormed n nodes) (node : TreeNode) (k : ℕ) (there : slice_get nodes k ≡ Some node) (next : ℕ) (left : next < length (split_parts node)) where
  next-split : IsSplitAt n nodes k node
  next-split = (formed k node there).form.is_split (kind-split node (omega arith))

  pub next-order : node.i < node.j
  next-order = next-split.order

  pub next-below : node.j < n
  next-below = next-split.below

  pub next-parts : next < length node.parts
  next-parts = subst (λ ps. next < length ps) (parts-split node (omega arith)) left
