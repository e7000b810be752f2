-- The machine after each event, from what its parts are afterwards.
use Rattle.std.proofs.Common.{◌≡◌, ◌≢◌, ℕ, ◌<◌, List, [], ◌∷◌, ◌++◌, length, get_or, set, refl, sym, ◌∙◌, ap, subst, Some}
use Rattle.std.specs.Prelude.{slice_get, slice_index}
use Rattle.std.proofs.lemmas.List.{set-append_left}
use Rattle.std.proofs.lemmas.Option.{slice_get_read, slice_get_within}
use Rattle.calculus_table.specs.Algebra.{Algebra}
use Rattle.calculus_table.specs.Composition.{composition}
use Rattle.network_words.specs.declared.fact.Fact.{Fact}
use Rattle.network_words.specs.Edge.{edge_between}
use Rattle.network_words.specs.Network.{Network, narrowed_at, relation_between}
use Rattle.narrow_core.specs.Actor.{ActorState, fresh, seeing, stating, giving, joining, spent}
use Rattle.narrow_core.specs.Machine.{CoreState}
use Rattle.narrow_core.specs.Event.{Asserts, Reads, Narrows, Splits, Joins}
use Rattle.narrow_core.proofs.Places.{get-set_other, get-more}

-- the machine of these parts
abbrev pub state_of : Network → List ℕ → ℕ → List ActorState → CoreState
state_of net opening weight actors = record {
  nodes = net.nodes;
  full = net.full;
  opening = opening;
  opening_weight = weight;
  words = net.words;
  actors = actors;
}

-- what an index reads
pub there : (actors : List ActorState) (k : ℕ) (a : ActorState) → k < length actors → a ≡ get_or actors k a → slice_get actors k ≡ Some a
there actors k a h e = slice_get_read actors (length actors) k a refl h e

-- what an index reads is what stands there
pub read-there : (actors : List ActorState) (k : ℕ) (a b : ActorState) → slice_get actors k ≡ Some a → b ≡ get_or actors k b → b ≡ a
read-there actors k a b h e = let t : slice_get actors k ≡ Some b = there actors k b (slice_get_within actors k a h) e in let both : Some b ≡ Some a = sym t ∙ h in cc

pub reads : (net : Network) (opening : List ℕ) (weight : ℕ) (actors : List ActorState) (k e x : ℕ) (a b : ActorState) →
    k < length actors → a ≡ get_or actors k a → x ≡ slice_index net.words e → b ≡ seeing e x a →
    Reads k e (state_of net opening weight actors) (state_of net opening weight (set actors k b))
reads net opening weight actors k e x a b h r p q = record {
  actor = a;
  is_there = there actors k a h r;
  after = let all : b ≡ seeing e (slice_index net.words e) a = q ∙ ap (λ (y : ℕ). seeing e y a) p in
      ap (λ (y : ActorState). state_of net opening weight (set actors k y)) all;
}

-- after the words were met, and the actor has seen the edge
met-after : (m : Algebra) (net after : Network) (opening : List ℕ) (weight : ℕ) (actors : List ActorState) (k i j e f x w : ℕ) (a b : ActorState) →
    after ≡ record net { words = narrowed_at m net.nodes net.words i j x } → e ≡ f → w ≡ slice_index after.words e → b ≡ seeing e w a →
    state_of after opening weight (set actors k b) ≡
    record (state_of net opening weight actors) { words = after.words; actors = set actors k (seeing f (slice_index after.words f) a) }
met-after m net after opening weight actors k i j e f x w a b p q r s =
    let all : b ≡ seeing f (slice_index after.words f) a = s ∙ ap (λ (y : ℕ). seeing e y a) r ∙ ap (λ (y : ℕ). seeing y (slice_index after.words y) a) q in
    let nodes : after.nodes ≡ net.nodes = ap (λ (y : Network). y.nodes) p in
    let full : after.full ≡ net.full = ap (λ (y : Network). y.full) p in
    cc

pub narrows : (m : Algebra) (net after : Network) (opening : List ℕ) (weight : ℕ) (actors : List ActorState) (k h i j e first second x w : ℕ) (a b : ActorState) →
    k < length actors → a ≡ get_or actors k a →
    first ≡ relation_between m net.nodes a.seen h i → second ≡ relation_between m net.nodes a.seen i j → x ≡ composition m first second →
    after ≡ record net { words = narrowed_at m net.nodes net.words h j x } → e ≡ edge_between net.nodes h j → w ≡ slice_index after.words e → b ≡ seeing e w a →
    Narrows m k h i j (state_of net opening weight actors) (state_of after opening weight (set actors k b))
narrows m net after opening weight actors k h i j e first second x w a b below r p q o n f g s = record {
  actor = a;
  is_there = there actors k a below r;
  words = after.words;
  words_is =
      let all : x ≡ composition m (relation_between m net.nodes a.seen h i) (relation_between m net.nodes a.seen i j) = o ∙ ap (λ (y : ℕ). composition m y second) p ∙ ap (composition m (relation_between m net.nodes a.seen h i)) q in
      ap (λ (y : Network). y.words) n ∙ ap (narrowed_at m net.nodes net.words h j) all;
  after = met-after m net after opening weight actors k h j e (edge_between net.nodes h j) x w a b n f g s;
}

pub asserts : (m : Algebra) (net after : Network) (opening : List ℕ) (weight : ℕ) (actors : List ActorState) (k e w : ℕ) (fact : Fact) (a b c : ActorState) →
    k < length actors → a ≡ get_or actors k a → b ≡ stating fact a →
    after ≡ record net { words = narrowed_at m net.nodes net.words fact.i fact.j fact.rel } → e ≡ edge_between net.nodes fact.i fact.j → w ≡ slice_index after.words e →
    c ≡ seeing e w b →
    Asserts m k fact (state_of net opening weight actors) (state_of after opening weight (set actors k c))
asserts m net after opening weight actors k e w fact a b c below r o n f g s = record {
  actor = a;
  is_there = there actors k a below r;
  words = after.words;
  words_is = ap (λ (y : Network). y.words) n;
  after = met-after m net after opening weight actors k fact.i fact.j e (edge_between net.nodes fact.i fact.j) fact.rel w (stating fact a) c n f g
      (s ∙ ap (seeing e w) o);
}

pub splits : (net : Network) (opening : List ℕ) (weight : ℕ) (actors more : List ActorState) (k left : ℕ) (a b c d : ActorState) →
    k < length actors → a ≡ get_or actors k a → b ≡ fresh left a.seen → more ≡ actors ++ b ∷ [] → c ≡ get_or more k c → d ≡ giving left c →
    Splits k left (state_of net opening weight actors) (state_of net opening weight (set more k d))
splits net opening weight actors more k left a b c d h r p q o s =
    let here : slice_get actors k ≡ Some a = there actors k a h r in
    let same : c ≡ a = read-there (actors ++ b ∷ []) k a c (get-more actors (b ∷ []) k a here) (subst (λ (xs : List ActorState). c ≡ get_or xs k c) q o) in
    record {
      actor = a;
      is_there = here;
      after =
          let one : d ≡ giving left a = s ∙ ap (giving left) same in
          let two : set more k d ≡ set actors k d ++ b ∷ [] = ap (λ (xs : List ActorState). set xs k d) q ∙ set-append_left actors (b ∷ []) k d h in
          let all : set more k d ≡ set actors k (giving left a) ++ fresh left a.seen ∷ [] = cc in
          ap (state_of net opening weight) all;
    }

pub joins : (net : Network) (opening : List ℕ) (weight : ℕ) (actors : List ActorState) (k l : ℕ) (a b c d e : ActorState) → k ≢ l →
    k < length actors → l < length actors → a ≡ get_or actors k a → b ≡ get_or actors l b → c ≡ joining a b → d ≡ get_or (set actors k c) l d → e ≡ spent d →
    Joins k l (state_of net opening weight actors) (state_of net opening weight (set (set actors k c) l e))
joins net opening weight actors k l a b c d e differ h i r s p q o =
    let other : slice_get actors l ≡ Some b = there actors l b i s in
    let same : d ≡ b = read-there (set actors k c) l b d (get-set_other actors k l c (λ z. differ (sym z)) ∙ other) q in
    record {
      actor = a;
      is_there = there actors k a h r;
      other = b;
      other_there = other;
      after =
          let one : e ≡ spent b = o ∙ ap spent same in
          let all : set (set actors k c) l e ≡ set (set actors k (joining a b)) l (spent b) = cc in
          ap (state_of net opening weight) all;
    }
