-- What a round does: workers that have worked, and what becomes of the words.
use Rattle.std.proofs.Common.{◌≡◌, ℕ, zero, suc, ◌+◌, ◌-◌, ◌*◌, ◌<◌, ◌≤◌, ◌⊎◌, List, [], ◌∷◌, length, get_or, refl, sym, ◌∙◌, ap, subst, arith, inl, inr}
use Rattle.std.specs.Prelude.{slice_index, sum}
use Rattle.std.specs.List.{All, Contains}
use Rattle.std.proofs.Math.Nat.{add-mul, one-mul}
use Rattle.std.proofs.lemmas.Bool.{cases_lt}
use Rattle.std.proofs.lemmas.List.Elements.{All-nil, All-weaker, All-contains}
use Rattle.atomic_table.specs.Seated.{TableId}
use Rattle.calculus_table.specs.Algebra.{Algebra}
use Rattle.calculus_table.specs.Calculus.{IsCalculus}
use Rattle.calculus_table.specs.Rel.{IsWithin}
use Rattle.calculus_table.specs.Composition.{composition, converse, full_of}
use Rattle.calculus_table.proofs.Sets.{IsWithin-empty, empty-within}
use Rattle.network_words.specs.Edge.{edge_count, edge_at}
use Rattle.network_words.specs.Network.{IsNetwork, Refines, relation_between}
use Rattle.network_words.specs.Closure.{IsClosed, IsClosure}
use Rattle.network_words.proofs.Edges.{edge_at-lt}
use Rattle.network_words.proofs.Networks.{Refines-refl, Refines-antisym, Refines-trans, relation_between-forward, relation_between-backward}
use Rattle.network_words.proofs.Refinements.{sum-smaller, IsClosed-range, IsNetwork-refines}
use Rattle.network_words.proofs.Scenarios.{converse-empty, closed-empty}
use Rattle.narrow_core.specs.Actor.{ActorState, giving}
use Rattle.narrow_core.specs.Bound.{IsWithinFact}
use Rattle.narrow_core.proofs.Sights.{facts-mono}
use Rattle.network_words.specs.declared.fact.Fact.{Fact}
use Rattle.edge_table.specs.Opening.{OpenState, PassState, ClosedState, IsPassOf, algebra_of}
use Rattle.edge_table.specs.Passes.{AreClosedWords, ReadsAll}
use Rattle.edge_table.specs.declared.rule.Opening.{Opening}
use Rattle.closure_workers.specs.declared.slices.Slice.{Slice}
use Rattle.closure_workers.specs.declared.worker.Desk.{Desk}
use Rattle.closure_workers.specs.declared.worker.Worker.{Worker}
use Rattle.closure_workers.specs.Slices.{HasClash, IsSliceClosed}
use Rattle.closure_workers.specs.Workers.{IsDesk, IsWorker, IsFreshWorker, HasWorked, HaveWorked, HasEnded, IsSeenDesk, AreDealt, slices_of, slices_at}
use Rattle.closure_workers.specs.declared.rounds.Workers.{Workers}
use Rattle.closure_workers.specs.Rounds.{HasClosed, AreWorkersOf, HaveAllWorked, HaveWorkedOn, HaveClosed, IsClosureWithin, IsClosing}
use Rattle.closure_workers.proofs.DealtSlices.{slices_at-each}

-- ---- workers

pub HasEnded-worked : (table : OpenState) (seen : List ℕ) (old new : Worker) → IsFreshWorker table seen old → HasWorked table old new → HasEnded table seen new
HasEnded-worked table seen old new f h =
    let goes = h.as_before.goes_on in
    let began : old.pass.actor.seen ≡ seen = ap (λ (a : ActorState). a.seen) f.actor in
    record {
      pass = h.worker.pass;
      weight = goes.weight ∙ ap (λ (a : ActorState). a.weight) f.actor;
      facts = goes.facts ∙ ap (λ (a : ActorState). a.mine) f.actor;
      loads = (let l = h.loads in omega arith);
      snap = h.snap;
      desk = h.worker.desk;
      closed = h.closed;
      within = subst (λ (ws : List ℕ). Refines ws seen) (sym h.snap) (subst (Refines new.pass.actor.seen) began goes.within);
    }

pub AllEnded : (table : OpenState) (seen : List ℕ) (xs ys : List Worker) → All (IsFreshWorker table seen) xs → HaveWorked table xs ys → All (HasEnded table seen) ys
AllEnded table seen xs ys f h = λ k w b.
    let below : k < length xs = (let c = h.count in omega arith) in
    HasEnded-worked table seen (get_or xs k w) (get_or ys k w) (f k w below) (h.each k w below)

pub slices_at-worked : (table : OpenState) (xs ys : List Worker) → HaveWorked table xs ys → slices_at ys ≡ slices_at xs
slices_at-worked table xs ys h = slices_at-each xs ys h.count (λ k w b. (h.each k w b).as_before.slice)

pub AllWorkers-fresh : (table : OpenState) (seen : List ℕ) (workers : List Worker) → All (IsFreshWorker table seen) workers → All (IsWorker table) workers
AllWorkers-fresh table seen workers all = All-weaker (IsFreshWorker table seen) (IsWorker table) (λ w h. h.worker) workers all

-- ---- desks

-- what the desks have seen lies between lesser and greater words, too
pub AllSeen-between : (table : OpenState) (low less high more : List ℕ) (desks : List Desk) → Refines less low → Refines high more → All (IsSeenDesk table low high) desks →
    All (IsSeenDesk table less more) desks
AllSeen-between table low less high more desks below above all = All-weaker (IsSeenDesk table low high) (IsSeenDesk table less more) (λ d h. record {
  is_desk = h.is_desk;
  closed = h.closed;
  within = Refines-trans d.snap high more h.within above;
  contains = Refines-trans less low d.snap below h.contains;
}) desks all

-- a desk with the slice is among them
record HasDesk (desks : List Desk) (slice : Slice) : Type 0 where
  desk : Desk
  among : Contains desks desk
  has : desk.slice ≡ slice

desk_with : (desks : List Desk) (slice : Slice) → Contains (slices_of desks) slice → HasDesk desks slice
desk_with [] slice h = absurd (let b = h.1 in omega arith)
desk_with (d ∷ ds) slice (zero, b, e) = record { desk = d; among = (zero, omega arith, refl); has = e }
desk_with (d ∷ ds) slice (suc k, b, e) =
    let rest = desk_with ds slice (k, omega arith, e) in
    record { desk = rest.desk; among = (suc rest.among.0, (let l = rest.among.1 in omega arith), rest.among.2); has = rest.has }

-- the desk of a worker at the end of a round
pub IsSeenDesk-ended : (table : OpenState) (low high : List ℕ) (w : Worker) → Refines low w.pass.actor.seen → HasEnded table high w → IsSeenDesk table low high w.desk
IsSeenDesk-ended table low high w below h = record {
  is_desk = h.desk;
  closed = h.closed;
  within = h.within;
  contains = subst (Refines low) (sym h.snap) below;
}

-- each worker has loaded every word
pub one_more_loads : (home count more edges all own sum : ℕ) → more ≡ count + 1 → home + count * edges ≤ all → edges ≤ own → sum ≡ all + own → home + more * edges ≤ sum
one_more_loads home count more edges all own sum m h o s =
    let e : more * edges ≡ count * edges + edges = ap (λ k. k * edges) m ∙ add-mul count 1 edges ∙ ap (λ x. count * edges + x) (one-mul edges) in
    omega arith

-- a pass that has given away one part more
pub giving-more : (table : OpenState) (pass rest next : PassState) (given more : ℕ) → IsPassOf table pass → IsPassOf table next → more ≡ given + 1 →
    rest ≡ record pass { actor = giving given pass.actor } → next.actor ≡ giving 1 rest.actor → next.loads ≡ rest.loads → next.fetch_ands ≡ rest.fetch_ands →
    next ≡ record pass { actor = giving more pass.actor }
giving-more table pass rest next given more p q m r a l f =
    let id : next.id ≡ pass.id = q.id ∙ sym p.id in
    let nodes : next.nodes ≡ pass.nodes = q.nodes ∙ sym p.nodes in
    let full : next.full ≡ pass.full = q.full ∙ sym p.full in
    let weight : pass.actor.weight - given - 1 ≡ pass.actor.weight - more = omega arith in
    let actor : next.actor ≡ giving more pass.actor = a ∙ ap (λ (s : PassState). giving 1 s.actor) r ∙ ap (λ (w : ℕ). let x : ActorState = record pass.actor { weight = w } in x) weight in
    let loads : next.loads ≡ pass.loads = l ∙ ap (λ (s : PassState). s.loads) r in
    let ands : next.fetch_ands ≡ pass.fetch_ands = f ∙ ap (λ (s : PassState). s.fetch_ands) r in
    ap (λ (x : TableId). let s : PassState = record next { id = x } in s) id ∙ ap (λ (x : ℕ). let s : PassState = record next { id = pass.id; nodes = x } in s) nodes
    ∙ ap (λ (x : ℕ). let s : PassState = record next { id = pass.id; nodes = pass.nodes; full = x } in s) full
    ∙ ap (λ (x : ActorState). let s : PassState = record pass { actor = x; loads = next.loads; fetch_ands = next.fetch_ands } in s) actor
    ∙ ap (λ (x : ℕ). let s : PassState = record pass { actor = giving more pass.actor; loads = x; fetch_ands = next.fetch_ands } in s) loads
    ∙ ap (λ (x : ℕ). let s : PassState = record pass { actor = giving more pass.actor; fetch_ands = x } in s) ands

-- where all desks have seen just these words, they are closed
pub IsClosed-seen : (table : OpenState) (desks : List Desk) (words : List ℕ) → IsCalculus (algebra_of table.opening) → IsNetwork (algebra_of table.opening) table.opening.nodes words →
    AreDealt (slices_of desks) (edge_count table.opening.nodes) → All (HasClosed table) desks → ¬ HasClash table.opening.nodes words → All (λ (d : Desk). d.snap ≡ words) desks →
    IsClosed (algebra_of table.opening) table.opening.nodes words
IsClosed-seen table desks words c net dealt done none all =
    let m = algebra_of table.opening in
    let n = table.opening.nodes in
    IsClosed-range m n words c net (record {
      each = λ i k o b f t j triple.
          let d = dealt (edge_at n i k) (edge_at-lt n i k o b) in
          let found = desk_with desks d.slice d.among in
          let desk = found.desk in
          let h : HasClosed table desk = All-contains (HasClosed table) desks desk done found.among in
          let same : desk.snap ≡ words = All-contains (λ (x : Desk). x.snap ≡ words) desks desk all found.among in
          let closed : IsSliceClosed m n words d.slice = subst (λ (ws : List ℕ). IsSliceClosed m n ws d.slice) same (subst (IsSliceClosed m n desk.snap) found.has h) in
          elim closed [
            | inl r ↦ r.each i k o b d.from d.to j triple
            | inr clash ↦ absurd (none clash)
          ];
    })

pub AllClosed-seen : (table : OpenState) (low high : List ℕ) (desks : List Desk) → All (IsSeenDesk table low high) desks → All (HasClosed table) desks
AllClosed-seen table low high desks all = All-weaker (IsSeenDesk table low high) (HasClosed table) (λ d h. h.closed) desks all

-- where some desk has seen other words, the sum of the words is less
pub sum-round : (table : OpenState) (old new : List ℕ) (desks : List Desk) → length old ≡ edge_count table.opening.nodes → length new ≡ edge_count table.opening.nodes → Refines new old →
    All (IsSeenDesk table new old) desks → ¬ All (λ (d : Desk). d.snap ≡ new) desks → sum new < sum old
sum-round table old new desks l k w seen none = sum-smaller new old (k ∙ sym l) w (λ same. none
    (All-weaker (IsSeenDesk table new old) (λ (d : Desk). d.snap ≡ new)
    (λ d h. Refines-antisym d.snap new (h.is_desk.size ∙ sym k) (subst (Refines d.snap) (sym same) h.within) h.contains) desks seen))

-- ---- an empty set

none-between : (m : Algebra) (n : ℕ) (words : List ℕ) (i k : ℕ) → ((e : ℕ) → slice_index words e ≡ 0) → relation_between m n words i k ≡ 0
none-between m n words i k z = elim (cases_lt i k) [
  | inl h ↦ relation_between-forward m n words i k h ∙ z (edge_at n i k)
  | inr h ↦ relation_between-backward m n words i k h ∙ ap (converse m) (z (edge_at n k i)) ∙ converse-empty m
]

pub IsClosed-empty : (m : Algebra) (n : ℕ) (words : List ℕ) → ((e : ℕ) → slice_index words e ≡ 0) → IsClosed m n words
IsClosed-empty m n words z = record {
  each = λ i j k t. subst (λ y. IsWithin y (composition m (relation_between m n words i j) (relation_between m n words j k))) (sym (none-between m n words i k z)) (IsWithin-empty _);
}

-- ---- rounds

-- the pass is dealt out, all work, and their passes are gathered
pub HaveWorkedOn-round : (table : OpenState) (old new : Workers) (home : PassState) (began done : List Worker) → AreWorkersOf table old →
    home ≡ record old.home { actor = giving (length old.desks.items) old.home.actor } → length began ≡ length old.desks.items →
    ((edges : ℕ) → AreDealt (slices_of old.desks.items) edges → AreDealt (slices_at began) edges) → HaveWorked table began done → IsPassOf table new.home →
    new.home.actor.weight ≡ home.actor.weight + length done → new.home.actor.mine ≡ home.actor.mine →
    home.loads + length done * edge_count table.opening.nodes ≤ new.home.loads → Refines new.home.actor.seen home.actor.seen →
    All (IsSeenDesk table new.home.actor.seen home.actor.seen) new.desks.items →
    ((edges : ℕ) → AreDealt (slices_at done) edges → AreDealt (slices_of new.desks.items) edges) → length new.desks.items ≡ length done →
    HaveWorkedOn table old new
HaveWorkedOn-round table old new home began done a rest count dealt worked pass weight facts loads within seen gathered length_is =
    let size : length done ≡ length old.desks.items = worked.count ∙ count in
    let same : length new.desks.items ≡ length old.desks.items = length_is ∙ size in
    let left : home.actor.weight ≡ old.home.actor.weight - length old.desks.items = ap (λ (p : PassState). p.actor.weight) rest in
    let began_with : home.actor.seen ≡ old.home.actor.seen = ap (λ (p : PassState). p.actor.seen) rest in
    let counted : home.loads ≡ old.home.loads = ap (λ (p : PassState). p.loads) rest in
    record {
      workers = record {
        pass = pass;
        whole = (let w = a.whole in let e = a.enough in omega arith);
        some = (let s = a.some in omega arith);
        enough = (let e = a.enough in omega arith);
        few = (let f = a.few in omega arith);
        desks = All-weaker (IsSeenDesk table new.home.actor.seen home.actor.seen) (IsDesk (algebra_of table.opening) table.opening.nodes) (λ d h. h.is_desk) new.desks.items seen;
        dealt = gathered (edge_count table.opening.nodes)
            (subst (λ (ss : List Slice). AreDealt ss (edge_count table.opening.nodes)) (sym (slices_at-worked table began done worked)) (dealt (edge_count table.opening.nodes) a.dealt));
      };
      count = same;
      facts = facts ∙ ap (λ (p : PassState). p.actor.mine) rest;
      loads = rw (← counted, ← size) loads;
      within = subst (Refines new.home.actor.seen) began_with within;
      seen = subst (λ (ws : List ℕ). All (IsSeenDesk table new.home.actor.seen ws) new.desks.items) began_with seen;
    }

-- all words are read once more, and the pass has seen less
record HasReadMore (table : OpenState) (old new : PassState) : Type 0 where
  pass : IsPassOf table new
  weight : new.actor.weight ≡ old.actor.weight
  facts : new.actor.mine ≡ old.actor.mine
  loads : old.loads ≤ new.loads
  within : Refines new.actor.seen old.actor.seen

read_more : (table : OpenState) (old new : PassState) → IsPassOf table new → ReadsAll old new → HasReadMore table old new
read_more table old new p r = record {
  pass = p;
  weight = ap (λ (s : PassState). s.actor.weight) r.rest;
  facts = ap (λ (s : PassState). s.actor.mine) r.rest;
  loads = (let l : new.loads ≡ old.loads + edge_count old.nodes = ap (λ (s : PassState). s.loads) r.rest in omega arith);
  within = r.within;
}

AreWorkersOf-read : (table : OpenState) (w : Workers) (pass : PassState) → AreWorkersOf table w → HasReadMore table w.home pass → AreWorkersOf table (record w { home = pass })
AreWorkersOf-read table w pass a r = record {
  pass = r.pass;
  whole = r.weight ∙ a.whole;
  some = a.some;
  enough = a.enough;
  few = a.few;
  desks = a.desks;
  dealt = a.dealt;
}

-- the workers are those of the table, and each slice is closed in what its worker has seen; their pass has stated what it had, and
-- has seen what the snapshot has
pub record HaveGoneOn (table : OpenState) (old : Workers) (words : List ℕ) (new : Workers) : Type 0 where
  pub workers : AreWorkersOf table new
  pub closed : All (HasClosed table) new.desks.items
  pub facts : new.home.actor.mine ≡ old.home.actor.mine
  pub loads : old.home.loads ≤ new.home.loads
  pub within : Refines new.home.actor.seen old.home.actor.seen
  pub words_are : words ≡ new.home.actor.seen
  pub network : IsNetwork (algebra_of table.opening) table.opening.nodes words

-- all words are read before the first round
pub HaveGoneOn-first : (table : OpenState) (w : Workers) (pass : PassState) (words : List ℕ) → HaveAllWorked table w → IsPassOf table pass → ReadsAll w.home pass → words ≡ pass.actor.seen →
    IsNetwork (algebra_of table.opening) table.opening.nodes words → HaveGoneOn table w words (record w { home = pass })
HaveGoneOn-first table w pass words h p reads same net =
    let r = read_more table w.home pass p reads in
    record { workers = AreWorkersOf-read table w pass h.workers r; closed = h.closed; facts = r.facts; loads = r.loads; within = r.within; words_are = same; network = net }

-- and after each
pub HaveGoneOn-next : (table : OpenState) (first old new : Workers) (pass : PassState) (before words : List ℕ) → HaveGoneOn table first before old → HaveWorkedOn table old new →
    IsPassOf table pass → ReadsAll new.home pass → words ≡ pass.actor.seen → IsNetwork (algebra_of table.opening) table.opening.nodes words →
    HaveGoneOn table first words (record new { home = pass })
HaveGoneOn-next table first old new pass before words g h p reads same net =
    let r = read_more table new.home pass p reads in
    record {
      workers = AreWorkersOf-read table new pass h.workers r;
      closed = AllClosed-seen table new.home.actor.seen old.home.actor.seen new.desks.items h.seen;
      facts = r.facts ∙ h.facts ∙ g.facts;
      loads = (let k = r.loads in let l = h.loads in let j = g.loads in omega arith);
      within = Refines-trans pass.actor.seen new.home.actor.seen first.home.actor.seen r.within (Refines-trans new.home.actor.seen old.home.actor.seen first.home.actor.seen h.within g.within);
      words_are = same;
      network = net;
    }

-- where some worker has seen other words, the pass has seen less than before the round
pub sum-next : (table : OpenState) (first old new : Workers) (pass : PassState) (before words : List ℕ) → HaveGoneOn table first before old → HaveWorkedOn table old new →
    ReadsAll new.home pass → words ≡ pass.actor.seen → IsNetwork (algebra_of table.opening) table.opening.nodes words → ¬ All (λ (d : Desk). d.snap ≡ words) new.desks.items →
    sum pass.actor.seen < sum old.home.actor.seen
sum-next table first old new pass before words g h reads same net none =
    let began = old.home.actor.seen in
    let seen = pass.actor.seen in
    sum-round table began seen new.desks.items (ap length (sym g.words_are) ∙ g.network.length_is) (ap length (sym same) ∙ net.length_is)
    (Refines-trans seen new.home.actor.seen began reads.within h.within)
    (AllSeen-between table new.home.actor.seen seen began began new.desks.items reads.within (Refines-refl began) h.seen)
    (λ all. none (subst (λ (ws : List ℕ). All (λ (d : Desk). d.snap ≡ ws) new.desks.items) (sym same) all))

-- where all have seen just the words as they are, or some set is empty, that is the end
pub HaveClosed-gone : (table : OpenState) (first new : Workers) (words : List ℕ) → IsCalculus (algebra_of table.opening) → HaveGoneOn table first words new →
    (¬ HasClash table.opening.nodes words → All (λ (d : Desk). d.snap ≡ words) new.desks.items) → HaveClosed table first words new
HaveClosed-gone table first new words c g done = record {
  workers = g.workers;
  facts = g.facts;
  loads = g.loads;
  within = g.within;
  words_are = g.words_are;
  network = g.network;
  closed = λ none. IsClosed-seen table new.desks.items words c g.network g.workers.dealt g.closed none (done none);
}

-- ---- the end

-- a table is closed with what its last pass has seen, where that is closed
pub AreClosedWords-seen : (o : Opening) (a : ActorState) (words : List ℕ) → AreClosedWords o a words → IsNetwork (algebra_of o) o.nodes a.seen → IsClosed (algebra_of o) o.nodes a.seen →
    words ≡ a.seen
AreClosedWords-seen o a words c net closed =
    Refines-antisym words a.seen (c.network.length_is ∙ sym net.length_is) c.seen (c.kept a.seen net closed c.seen_opening c.seen_facts)

pub IsClosureWithin-closed : (o : Opening) (a : ActorState) (words : List ℕ) → AreClosedWords o a words → IsClosed (algebra_of o) o.nodes words →
    IsClosureWithin (algebra_of o) o.nodes o.words a.mine words
IsClosureWithin-closed o a words c closed = record {
  network = c.network;
  closed = closed;
  within = c.opening;
  within_facts = c.facts;
  greatest = λ other net k w f. c.kept other net k w f;
}

-- what a table was closed with may be closed further
pub IsClosureWithin-closure : (o : Opening) (a : ActorState) (words closure : List ℕ) → AreClosedWords o a words →
    IsClosure (algebra_of o) o.nodes words closure → IsClosureWithin (algebra_of o) o.nodes o.words a.mine closure
IsClosureWithin-closure o a words closure c h =
    let m = algebra_of o in
    let n = o.nodes in
    record {
      network = IsNetwork-refines m n closure words c.network h.length_is h.within;
      closed = h.closed;
      within = Refines-trans closure words o.words h.within c.opening;
      within_facts = facts-mono m n closure words a.mine h.within c.facts;
      greatest = λ other net k w f.
          h.greatest other (net.length_is ∙ sym c.network.length_is) k (c.kept other net k w f);
    }

-- where a set is empty, all sets may be made empty
pub IsClosureWithin-empty : (o : Opening) (a : ActorState) (words empty : List ℕ) → IsCalculus (algebra_of o) → AreClosedWords o a words → HasClash o.nodes words →
    length empty ≡ length words → ((e : ℕ) → slice_index empty e ≡ 0) → IsClosureWithin (algebra_of o) o.nodes o.words a.mine empty
IsClosureWithin-empty o a words empty calculus c clash l z =
    let m = algebra_of o in
    let n = o.nodes in
    let less : (ys : List ℕ) → Refines empty ys = λ ys. record { each = λ e. subst (λ y. IsWithin y (slice_index ys e)) (sym (z e)) (IsWithin-empty _) } in
    record {
      network = record {
        length_is = l ∙ c.network.length_is;
        within = λ e. subst (λ y. IsWithin y (full_of m)) (sym (z e)) (IsWithin-empty _);
      };
      closed = IsClosed-empty m n empty z;
      within = less o.words;
      within_facts = facts-mono m n empty words a.mine (less words) c.facts;
      greatest = λ other net closed w f.
          let inside = c.kept other net closed w f in
          let at : slice_index other clash.edge ≡ 0 = empty-within _ (subst (IsWithin (slice_index other clash.edge)) clash.empty (inside.each clash.edge)) in
          let below : clash.edge < edge_count n = (let b = clash.below in let s = c.network.length_is in omega arith) in
          record { each = λ e. subst (λ y. IsWithin y (slice_index empty e)) (sym (closed-empty m n clash.edge other calculus net closed below at e)) (IsWithin-empty _) };
    }

-- a clash in greater words is one in lesser ones
pub HasClash-less : (n : ℕ) (xs ys : List ℕ) → length ys ≡ length xs → Refines ys xs → HasClash n xs → HasClash n ys
HasClash-less n xs ys l w h = record {
  many = h.many;
  edge = h.edge;
  below = (let b = h.below in omega arith);
  empty = empty-within _ (subst (IsWithin (slice_index ys h.edge)) h.empty (w.each h.edge));
}

-- what comes of a table that was closed with its last pass, where its words are then `final`: those that it was closed with, or none
-- where some set is empty
pub record EndsWith (opening : Opening) (w : Workers) (closed : ClosedState) (final : List ℕ) : Type 0 where
  pub closure : IsClosureWithin (algebra_of opening) opening.nodes opening.words w.home.actor.mine final
  pub seen : Refines final w.home.actor.seen
  pub closing : IsClosing opening w.home.loads final closed

-- a table that was closed after the last round
pub record IsEnd (table : OpenState) (first last : Workers) (snap words : List ℕ) (closed : ClosedState) : Type 0 where
  pub calculus : IsCalculus (algebra_of table.opening)
  pub rounds : HaveClosed table first snap last
  pub words_are : AreClosedWords table.opening last.home.actor words
  pub opening_is : closed.opening ≡ table.opening
  pub pass_is : closed.pass ≡ last.home
  pub closed_with : closed.words ≡ words

IsClosing-end : (table : OpenState) (first last : Workers) (snap words : List ℕ) (closed : ClosedState) (final : List ℕ) → IsEnd table first last snap words closed →
    (closed.words ≡ final) ⊎ HasClash table.opening.nodes closed.words → IsClosing table.opening first.home.loads final closed
IsClosing-end table first last snap words closed final e are = record {
  opening_is = e.opening_is;
  whole = ap (λ (p : PassState). p.actor.weight) e.pass_is ∙ e.rounds.workers.whole;
  loads_are = (let l = e.rounds.loads in let k = ap (λ (p : PassState). p.loads) e.pass_is in omega arith);
  words_are = are;
}

-- where no set is empty
pub EndsWith-closed : (table : OpenState) (first last : Workers) (snap words : List ℕ) (closed : ClosedState) → IsEnd table first last snap words closed → ¬ HasClash table.opening.nodes snap →
    EndsWith table.opening first closed words
EndsWith-closed table first last snap words closed e none =
    let o = table.opening in
    let m = algebra_of o in
    let a = last.home.actor in
    let r = e.rounds in
    let net : IsNetwork m o.nodes a.seen = subst (IsNetwork m o.nodes) r.words_are r.network in
    let are : words ≡ a.seen = AreClosedWords-seen o a words e.words_are net (subst (IsClosed m o.nodes) r.words_are (r.closed none)) in
    let shut : IsClosed m o.nodes words = subst (IsClosed m o.nodes) (r.words_are ∙ sym are) (r.closed none) in
    record {
      closure = subst (λ (fs : List Fact). IsClosureWithin m o.nodes o.words fs words) r.facts (IsClosureWithin-closed o a words e.words_are shut);
      seen = Refines-trans words a.seen first.home.actor.seen e.words_are.seen r.within;
      closing = IsClosing-end table first last snap words closed words e (inl e.closed_with);
    }

-- where one is, and all are made empty
pub EndsWith-empty : (table : OpenState) (first last : Workers) (snap words : List ℕ) (closed : ClosedState) (empty : List ℕ) → IsEnd table first last snap words closed →
    HasClash table.opening.nodes snap → length empty ≡ length words → ((d : ℕ) → slice_index empty d ≡ 0) → EndsWith table.opening first closed empty
EndsWith-empty table first last snap words closed empty e clash l z =
    let o = table.opening in
    let m = algebra_of o in
    let a = last.home.actor in
    let r = e.rounds in
    let has : HasClash o.nodes words = HasClash-less o.nodes snap words (e.words_are.network.length_is ∙ sym r.network.length_is) (subst (Refines words) (sym r.words_are) e.words_are.seen) clash in
    record {
      closure = subst (λ (fs : List Fact). IsClosureWithin m o.nodes o.words fs empty) r.facts (IsClosureWithin-empty o a words empty e.calculus e.words_are has l z);
      seen = record { each = λ d. subst (λ y. IsWithin y (slice_index first.home.actor.seen d)) (sym (z d)) (IsWithin-empty _) };
      closing = IsClosing-end table first last snap words closed empty e (inr (subst (HasClash o.nodes) (sym e.closed_with) has));
    }

-- ---- workers dealt out, at work and gathered

pub HaveAllWorked-gathered : (table : OpenState) (before : List Desk) (began done : List Worker) (w : Workers) (low high : List ℕ) → IsPassOf table w.home →
    w.home.actor.weight ≡ table.opening.weight → 0 < length before → length before < table.opening.weight → length before ≤ 64 →
    AreDealt (slices_of before) (edge_count table.opening.nodes) → length began ≡ length before →
    ((edges : ℕ) → AreDealt (slices_of before) edges → AreDealt (slices_at began) edges) → HaveWorked table began done → All (IsSeenDesk table low high) w.desks.items →
    ((edges : ℕ) → AreDealt (slices_at done) edges → AreDealt (slices_of w.desks.items) edges) → length w.desks.items ≡ length done → HaveAllWorked table w
HaveAllWorked-gathered table before began done w low high pass whole some enough few dealt count handed worked seen gathered length_is =
    let same : length w.desks.items ≡ length before = length_is ∙ worked.count ∙ count in
    record {
      workers = record {
        pass = pass;
        whole = whole;
        some = omega arith;
        enough = omega arith;
        few = omega arith;
        desks = All-weaker (IsSeenDesk table low high) (IsDesk (algebra_of table.opening) table.opening.nodes) (λ d h. h.is_desk) w.desks.items seen;
        dealt = gathered (edge_count table.opening.nodes)
            (subst (λ (ss : List Slice). AreDealt ss (edge_count table.opening.nodes)) (sym (slices_at-worked table began done worked)) (handed (edge_count table.opening.nodes) dealt));
      };
      closed = AllClosed-seen table low high w.desks.items seen;
    }

-- ---- a network closed on a table of its own

pub HaveAllWorked-round : (table : OpenState) (old new : Workers) → HaveWorkedOn table old new → HaveAllWorked table new
HaveAllWorked-round table old new h = record {
  workers = h.workers;
  closed = AllClosed-seen table new.home.actor.seen old.home.actor.seen new.desks.items h.seen;
}

pub IsClosure-within_none : (m : Algebra) (n : ℕ) (words closure : List ℕ) (facts : List Fact) → IsNetwork m n words → facts ≡ [] → IsClosureWithin m n words facts closure →
    IsClosure m n words closure
IsClosure-within_none m n words closure facts net none h = record {
  length_is = h.network.length_is ∙ sym net.length_is;
  closed = h.closed;
  within = h.within;
  greatest = λ other l closed w. h.greatest other (IsNetwork-refines m n other words net l w) closed w (subst (All (IsWithinFact m n other)) (sym none) (All-nil (IsWithinFact m n other)));
}

pub IsClosing-less : (opening : Opening) (loads less : ℕ) (words : List ℕ) (closed : ClosedState) → less ≤ loads → IsClosing opening loads words closed → IsClosing opening less words closed
IsClosing-less opening loads less words closed l h = record {
  opening_is = h.opening_is;
  whole = h.whole;
  loads_are = (let k = h.loads_are in omega arith);
  words_are = h.words_are;
}
