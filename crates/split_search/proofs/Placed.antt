-- A search after a tree was put below its last open split.
use Rattle.std.proofs.Common.{◌≡◌, ℕ, ◌+◌, ◌<◌, List, [], ◌∷◌, ◌++◌, length, map, refl, sym}
use Rattle.std.proofs.Common.{subst}
use Rattle.std.specs.Prelude.{slice_index, slice_set, count_by}
use Rattle.split_trees.specs.Tree.{TreeNode, is_split}
use Rattle.split_search.specs.declared.searching.Search.{Search}
use Rattle.split_search.specs.declared.answered.Answered.{Answered}
use Rattle.split_search.specs.declared.verdict.Verdict.TheVariants.{Yes, No, Budget}
use Rattle.split_search.specs.Ruled.{at_scenario, at_budget, IsVerdict}
use Rattle.split_search.specs.Way.{SplitState}
use Rattle.split_search.specs.Candidates.{GuidedLevels}
use Rattle.split_search.specs.Searches.{Task, IsTask, task_of, held_of, held_with, IsGoing, HasStopped}
use Rattle.split_search.specs.Grafts.{moved, IsAnswered, HasRoomFor, IsGraft}
use Rattle.split_search.proofs.Grafts.{graft-no, graft-yes, graft-spent}

-- what a search holds after a tree was placed: the rest is as it was
pub record IsPlaced (s new : Search) (split : SplitState) (nodes : List TreeNode) : Type 0 where
  pub opened : new.open_splits.items ≡ s.open_splits.items ++ (record split {
    children = split.children ++ length s.nodes.items ∷ [];
  }) ∷ []
  pub nodes_are : new.nodes.items ≡ s.nodes.items ++ map (moved (length s.nodes.items)) nodes
  pub count_is : new.count ≡ s.count + count_by is_split nodes
  pub path_is : new.path ≡ s.path

module _ (s new : Search) (split : SplitState) (task : IsTask (task_of s))
    (going : IsGoing (task_of s) (held_with s split) s.path.top)
    (left : length split.children < length split.parts) (nodes : List TreeNode) (p : IsPlaced s new split nodes) where
  pub placed-no : IsGraft (task_of s) s.path.top split s.count (No nodes) →
      IsGoing (task_of s) (held_of new) new.path.top
  placed-no g =
      let t = task_of s in
      subst (λ (path : GuidedLevels). IsGoing t (record {
        open_splits = new.open_splits.items;
        below = path.below;
        nodes = new.nodes.items;
        count = new.count;
      }) path.top) (sym p.path_is)
      (subst (λ xs. IsGoing t (record {
        open_splits = xs;
        below = s.path.below;
        nodes = new.nodes.items;
        count = new.count;
      }) s.path.top) (sym p.opened)
      (graft-no t task (held_with s split) s.path.top s.open_splits.items split going refl left nodes g new.nodes.items
      p.nodes_are new.count p.count_is))

  pub placed-yes : (relations : List ℕ) → IsGraft (task_of s) s.path.top split s.count (Yes relations nodes) →
      HasStopped (task_of s) (at_scenario relations) (held_of new)
  placed-yes relations g =
      let t = task_of s in
      let end = at_scenario relations in
      subst (λ (path : GuidedLevels). HasStopped t end (record {
        open_splits = new.open_splits.items;
        below = path.below;
        nodes = new.nodes.items;
        count = new.count;
      })) (sym p.path_is)
      (subst (λ xs. HasStopped t end (record {
        open_splits = xs;
        below = s.path.below;
        nodes = new.nodes.items;
        count = new.count;
      })) (sym p.opened)
      (graft-yes t task (held_with s split) s.path.top s.open_splits.items split going refl left relations nodes g
      new.nodes.items p.nodes_are new.count p.count_is))

  pub placed-spent : IsGraft (task_of s) s.path.top split s.count (Budget nodes) →
      HasStopped (task_of s) at_budget (held_of new)
  placed-spent g =
      let t = task_of s in
      subst (λ (path : GuidedLevels). HasStopped t at_budget
      (record { open_splits = new.open_splits.items; below = path.below; nodes = new.nodes.items; count = new.count }))
      (sym p.path_is)
      (subst (λ xs. HasStopped t at_budget (record {
        open_splits = xs;
        below = s.path.below;
        nodes = new.nodes.items;
        count = new.count;
      })) (sym p.opened)
      (graft-spent t task (held_with s split) s.path.top s.open_splits.items split going refl left nodes g
      new.nodes.items p.nodes_are new.count p.count_is))

-- the verdict that is known of the next child is a graft
pub graft-of : (t : Task) (top : List ℕ) (split : SplitState) (count : ℕ) (a : Answered) → IsAnswered t a →
    a.net.words ≡ slice_set top split.edge (slice_index split.parts (length split.children)) →
    HasRoomFor t.budget count a.verdict →
    IsGraft t top split count a.verdict
graft-of t top split count a known words_are room = record {
  budget = known.budget;
  ruled = subst (λ ws. IsVerdict t.algebra t.nodes t.class known.budget ws a.verdict) words_are known.ruled;
  room = room;
}
