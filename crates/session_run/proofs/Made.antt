-- The version that a batch makes, and what its peeks show.
use Rattle.std.proofs.Common.{◌≡◌, ℕ, ◌+◌, ◌<◌, ◌≤◌, Bool, true, false, List, [], ◌∷◌, ◌++◌, length, take, get_or, refl, sym, subst, ◌∙◌, ap, arith, inl, inr, MatchBool}
use Rattle.std.specs.Prelude.{Vec, nat_lt, IfOk, Ok, Err, Result}
use Rattle.std.specs.Global.{Global}
use Rattle.std.specs.List.{All, zip}
use Rattle.std.proofs.lemmas.Bool.{cases_eq, cases_lt, eq-eqb, ne_eqb, ltb-false}
use Rattle.std.proofs.lemmas.List.{map_more, length-map}
use Rattle.std.proofs.lemmas.List.Elements.{All-head, All-tail, All-weaker, All-get_or}
use Rattle.calculus_table.specs.Algebra.{Algebra}
use Rattle.calculus_table.specs.Composition.{full_of}
use Rattle.network_words.specs.declared.fact.Fact.{Fact}
use Rattle.network_words.specs.Edge.{IsProperPair}
use Rattle.network_words.specs.Network.{Network, IsNetwork, narrowed_at}
use Rattle.network_words.specs.Facts.{IsNetworkOfFacts, narrowed_by}
use Rattle.network_words.specs.Closure.{IsClosure}
use Rattle.network_words.proofs.NetsOfFacts.{IsNetwork-from_facts, IsNetworkOfFacts-push, appended_facts_narrow}
use Rattle.narrow_core.specs.Machine.{IsProperFact}
use Rattle.narrow_core.specs.Bound.{IsWithinFact}
use Rattle.session_versions.specs.HeldFacts.{HeldFact, facts_of}
use Rattle.session_versions.specs.Drafts.{DraftState}
use Rattle.session_versions.specs.Versions.{AreProper, IsClosureOfFacts}
use Rattle.session_versions.specs.Stores.{StoreState, IsStore}
use Rattle.session_versions.proofs.Closures.{closure_goes_on, IsNetwork-closure_of_facts}
use Rattle.session_scripts.specs.declared.batch.What.{What}
use Rattle.session_scripts.specs.declared.batch.What.TheVariants.{Assert, Peek, Withdraw, Ask, Refused}
use Rattle.session_scripts.specs.declared.batch.Line.{Line}
use Rattle.session_scripts.specs.Batches.{BatchState, HasSession, IsLineFor, IsBatchFor}
use Rattle.session_phase.specs.declared.steps.Step.{Step}
use Rattle.session_replies.specs.Replies.{AreShown, ArePeeks, said_by, IsOpening, staying, draft_of, facts_of_lines}
use Rattle.session_replies.specs.Drafting.{LosesFacts, GainsFacts}
use Rattle.session_phase.specs.Phase.{steps_of, asked_of, shown_by, facts_asked}
use Rattle.closure_workers.specs.Rounds.{IsClosureWithin}
use Rattle.session_run.specs.Steps.{AreDealt}
use Rattle.session_run.proofs.Dealt.{length-asked_of}
use Rattle.session_phase.proofs.Narrowings.{IsClosure-within}
use Rattle.session_run.proofs.StatedFacts.{asked-from_lines, asked-to_lines, proper_lines}

-- ---- the network of facts

network_more : (m : Algebra) (n : ℕ) (helds : List HeldFact) (i : ℕ) (held : HeldFact) (words : List ℕ) → i < length helds → held ≡ get_or helds i held → AreProper m n helds →
    IsNetworkOfFacts m n (facts_of (take i helds)) words →
    IsNetworkOfFacts m n (facts_of (take (i + 1) helds)) (narrowed_at m n words held.fact.i held.fact.j held.fact.rel)
network_more m n helds i held words h e proper w =
    let facts : facts_of (take (i + 1) helds) ≡ facts_of (take i helds) ++ held.fact ∷ [] =
    map_more (λ (x : HeldFact). x.fact) helds i held h ∙ ap (λ (x : HeldFact). facts_of (take i helds) ++ x.fact ∷ []) (sym e) in
    let pair : IsProperPair n held.fact.i held.fact.j = subst (λ (x : HeldFact). IsProperPair n x.fact.i x.fact.j) (sym e) (proper.pairs i held h) in
    subst (λ (fs : List Fact). IsNetworkOfFacts m n fs (narrowed_at m n words held.fact.i held.fact.j held.fact.rel)) (sym facts)
    (IsNetworkOfFacts-push m n words (facts_of (take i helds)) held.fact pair w)

-- one fact more
pub network_step : (m : Algebra) (n : ℕ) (helds : List HeldFact) (i : ℕ) (held : HeldFact) (fact : Fact) (old new : Network) → i < length helds → held ≡ get_or helds i held →
    fact ≡ held.fact → AreProper m n helds → old.nodes ≡ n → IsNetworkOfFacts m n (facts_of (take i helds)) old.words →
    new ≡ record old { words = narrowed_at m old.nodes old.words fact.i fact.j fact.rel } →
    (new.nodes ≡ n) × IsNetworkOfFacts m n (facts_of (take (i + 1) helds)) new.words
network_step m n helds i held fact old new h e f proper o w s =
    let words : new.words ≡ narrowed_at m n old.words held.fact.i held.fact.j held.fact.rel =
    ap (λ (x : Network). x.words) s ∙ ap (λ (k : ℕ). narrowed_at m k old.words fact.i fact.j fact.rel) o
    ∙ ap (λ (x : Fact). narrowed_at m n old.words x.i x.j x.rel) f in
    (ap (λ (x : Network). x.nodes) s ∙ o, subst (λ (ws : List ℕ). IsNetworkOfFacts m n (facts_of (take (i + 1) helds)) ws) (sym words) (network_more m n helds i held old.words h e proper w))

pub proper_pair : (m : Algebra) (n k : ℕ) (helds : List HeldFact) (i : ℕ) (held : HeldFact) (fact : Fact) → i < length helds → held ≡ get_or helds i held → fact ≡ held.fact →
    AreProper m n helds → k ≡ n → IsProperPair k fact.i fact.j
proper_pair m n k helds i held fact h e f proper o =
    rw (o, f) (subst (λ (x : HeldFact). IsProperPair n x.fact.i x.fact.j) (sym e) (proper.pairs i held h))

-- ---- the opening and what lies above it

-- what holds of a value holds of its copy
pub if_ok-same : {X E : Type 0} (P : X → Type 0) → (result : Result X E) (x : X) → IfOk result (λ y. y ≡ x) → P x → IfOk result P
if_ok-same P (Ok y) x e p = subst P (sym e) p
if_ok-same P (Err e) x h p = h

-- ---- the closure

-- the order of the facts plays no part
pub IsClosureWithin-lines : (m : Algebra) (n : ℕ) (batch : BatchState) (asked : List (List (ℕ × What))) (words closure : List ℕ) → IsBatchFor (full_of m) n batch → AreDealt batch asked →
    IsClosureWithin m n words (facts_asked asked) closure → IsClosureWithin m n words (facts_of_lines batch.lines) closure
IsClosureWithin-lines m n batch asked words closure p d w = record {
  network = w.network;
  closed = w.closed;
  within = w.within;
  within_facts = asked-to_lines (IsWithinFact m n closure) (full_of m) n batch asked p d w.within_facts;
  greatest = λ other net closed inside facts. w.greatest other net closed inside (asked-from_lines (IsWithinFact m n other) batch asked d facts);
}

closure_by : (m : Algebra) (n : ℕ) (before stay more : List Fact) (newest opening closure : List ℕ) (fewer : Bool) → All (λ fact. IsProperPair n fact.i fact.j) more →
    IsClosureOfFacts m n before newest → MatchBool fewer (IsNetworkOfFacts m n stay opening) (opening ≡ newest) → (fewer ≡ false → stay ≡ before) →
    IsClosure m n (narrowed_by m n opening more) closure → IsClosureOfFacts m n (stay ++ more) closure
closure_by m n before stay more newest opening closure true pairs v o same w =
    record { words = narrowed_by m n opening more; network = appended_facts_narrow m n opening stay more pairs o; closed = w }
closure_by m n before stay more newest opening closure false pairs v o same w =
    rw (same refl) (closure_goes_on m n before more newest closure pairs v (subst (λ (ws : List ℕ). IsClosure m n (narrowed_by m n ws more) closure) o w))

network_by : (m : Algebra) (n : ℕ) (before stay : List Fact) (newest opening : List ℕ) (fewer : Bool) → IsClosureOfFacts m n before newest →
    MatchBool fewer (IsNetworkOfFacts m n stay opening) (opening ≡ newest) → IsNetwork m n opening
network_by m n before stay newest opening true v o = IsNetwork-from_facts m n stay opening o
network_by m n before stay newest opening false v o = rw o (IsNetwork-closure_of_facts m n before newest v)

-- the sessions begin with a network
pub IsNetwork-opening : (store : StoreState) (batch : BatchState) (opening : List ℕ) → IsStore store → IsOpening store batch opening → IsNetwork store.calculus store.nodes opening
IsNetwork-opening store batch opening s o =
    network_by store.calculus store.nodes (facts_of store.newest.facts) (facts_of (staying batch store).facts) store.newest.net.words opening
    (nat_lt (length (staying batch store).facts) (length store.newest.facts)) s.newest.closure o

-- the finished network is the closure of the facts that stand
pub IsClosureOfFacts-made : (store : StoreState) (batch : BatchState) (opening closure : List ℕ) (after : DraftState) → IsStore store →
    IsBatchFor (full_of store.calculus) store.nodes batch → LosesFacts (draft_of store) (staying batch store) →
    GainsFacts batch.lines (staying batch store) after → IsOpening store batch opening →
    IsClosureWithin store.calculus store.nodes opening (facts_of_lines batch.lines) closure →
    IsClosureOfFacts store.calculus store.nodes (facts_of after.facts) closure
IsClosureOfFacts-made store batch opening closure after s p loses gains o w =
    let m = store.calculus in
    let n = store.nodes in
    let stay = staying batch store in
    let more = facts_of_lines batch.lines in
    let fewer = nat_lt (length stay.facts) (length store.newest.facts) in
    let proper = proper_lines (full_of m) n (length batch.sessions) batch.lines p in
    let pairs : All (λ fact. IsProperPair n fact.i fact.j) more =
    All-weaker (IsProperFact n (full_of m)) (λ fact. IsProperPair n fact.i fact.j) (λ fact h. h.pair) more proper in
    let same : fewer ≡ false → facts_of stay.facts ≡ facts_of store.newest.facts = λ e.
    (let least : length store.newest.facts ≤ length stay.facts = ltb-false (length stay.facts) (length store.newest.facts) e in
    let equal : length stay.facts ≡ length store.newest.facts = omega (arith, loses.fewer, least) in
    ap (λ (x : DraftState). facts_of x.facts) (loses.same equal)) in
    rw gains.facts
    (closure_by m n (facts_of store.newest.facts) (facts_of stay.facts) more store.newest.net.words opening closure fewer pairs s.newest.closure o same
    (IsClosure-within m n opening closure more s.calculus (IsNetwork-opening store batch opening s o) proper w))

-- ---- what peeks show

refused_only : (m : Algebra) (n : ℕ) (closed told : List ℕ) (sessions session : ℕ) (what : What) (x : ℕ) (rest : List (What × ℕ)) → HasSession sessions session what → sessions ≤ session →
    AreShown m n closed told rest → AreShown m n closed told ((what, x) ∷ rest)
refused_only m n closed told sessions session (Refused number) x rest s past h = (tt, h)
refused_only m n closed told sessions session (Assert fact) x rest s past h = absurd (omega arith)
refused_only m n closed told sessions session (Peek i j) x rest s past h = absurd (omega arith)
refused_only m n closed told sessions session (Withdraw fact) x rest s past h = absurd (omega arith)
refused_only m n closed told sessions session (Ask version i j) x rest s past h = absurd (omega arith)

said_by-cons_own : (k : ℕ) (l : Line) (x : ℕ) (ps : List (Line × ℕ)) → l.session ≡ k → said_by k ((l, x) ∷ ps) ≡ (l.what, x) ∷ said_by k ps
said_by-cons_own k l x ps e = rw (eq-eqb l.session k e) refl

said_by-cons_other : (k : ℕ) (l : Line) (x : ℕ) (ps : List (Line × ℕ)) → (l.session ≡ k → ⊥) → said_by k ((l, x) ∷ ps) ≡ said_by k ps
said_by-cons_other k l x ps e = rw (ne_eqb l.session k e) refl

-- lines without a session show nothing
pub AreShown-no_session : (m : Algebra) (n full nodes : ℕ) (closed told : List ℕ) (sessions k : ℕ) (lines : List Line) (shown : List ℕ) → All (IsLineFor full nodes sessions) lines →
    sessions ≤ k → AreShown m n closed told (said_by k (zip lines shown))
AreShown-no_session m n full nodes closed told sessions k [] shown p past = tt
AreShown-no_session m n full nodes closed told sessions k (l ∷ ls) [] p past = tt
AreShown-no_session m n full nodes closed told sessions k (l ∷ ls) (x ∷ xs) p past =
    let one : IsLineFor full nodes sessions l = All-head (IsLineFor full nodes sessions) l ls p in
    let rest = AreShown-no_session m n full nodes closed told sessions k ls xs (All-tail (IsLineFor full nodes sessions) l ls p) past in
    elim (cases_eq l.session k) [
      | inl same ↦
          (let beyond : sessions ≤ l.session = omega arith in
          rw (said_by-cons_own k l x (zip ls xs) same) (refused_only m n closed told sessions l.session l.what x (said_by k (zip ls xs)) one.session beyond rest))
      | inr other ↦ rw (said_by-cons_other k l x (zip ls xs) other) rest
    ]

-- what the peeks of each session show, where each session's steps show it
pub ArePeeks-dealt : (m : Algebra) (n full nodes : ℕ) (closed told : List ℕ) (batch : BatchState) (shown : List ℕ) (lists : List (Vec Step Global)) → IsBatchFor full nodes batch →
    AreDealt batch (asked_of (steps_of lists)) → All (λ (steps : List Step). AreShown m n closed told (shown_by steps)) (steps_of lists) →
    ((k : ℕ) → k < length lists → said_by k (zip batch.lines shown) ≡ shown_by (get_or (steps_of lists) k [])) → ArePeeks m n closed told (zip batch.lines shown)
ArePeeks-dealt m n full nodes closed told batch shown lists p d s e = λ k. elim (cases_lt k (length lists)) [
  | inl below ↦
      (let there : k < length (steps_of lists) = omega (arith, length-map lists (λ (steps : Vec Step Global). steps.items)) in
      rw (e k below) (All-get_or (λ (steps : List Step). AreShown m n closed told (shown_by steps)) (steps_of lists) k [] there s))
  | inr past ↦
      (let beyond : length batch.sessions ≤ k = omega (arith, length-asked_of lists, d.count) in
      AreShown-no_session m n full nodes closed told (length batch.sessions) k batch.lines shown p beyond)
]
