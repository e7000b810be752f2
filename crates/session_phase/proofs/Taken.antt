-- The steps of a session: what it was told and shown, with one step more.
use Rattle.std.proofs.Common.{◌≡◌, ℕ, ◌+◌, ◌<◌, ◌≤◌, List, [], ◌∷◌, ◌++◌, length, take, drop, get_or, set, refl, sym, ap, ◌∙◌, subst, arith, add-one, drop-cons, append_assoc}
use Rattle.std.specs.Prelude.{bit_and, slice_index, slice_set}
use Rattle.std.proofs.lemmas.List.{append-nil, map_push, take_more, take_more_set, take_all}
use Rattle.calculus_table.specs.Rel.{IsWithin}
use Rattle.calculus_table.specs.Algebra.{Algebra}
use Rattle.calculus_table.specs.Calculus.{IsCalculus}
use Rattle.calculus_table.proofs.Sets.{IsWithin-refl, IsWithin-trans}
use Rattle.network_words.specs.declared.fact.Fact.{Fact}
use Rattle.network_words.specs.Edge.{edge_between}
use Rattle.network_words.specs.Network.{IsNetwork, Refines, relation_between, oriented}
use Rattle.network_words.proofs.Networks.{Refines-refl, Refines-trans, relation_between-mono, narrowed_at-keeps}
use Rattle.network_words.proofs.Refinements.{IsNetwork-refines}
use Rattle.narrow_core.specs.Actor.{ActorState}
use Rattle.narrow_core.proofs.Sights.{length-seen, seen-within}
use Rattle.edge_table.specs.Opening.{PassState}
use Rattle.edge_table.specs.Passes.{seen_between, Reads, Asserts}
use Rattle.session_scripts.specs.declared.batch.What.{What}
use Rattle.session_scripts.specs.declared.batch.What.TheVariants.{Assert, Peek, Withdraw, Ask, Refused}
use Rattle.session_phase.specs.declared.steps.Step.{Step}
use Rattle.session_replies.specs.Replies.{IsShown, told_after, AreShown}
use Rattle.session_phase.specs.Phase.{asked_by, shown_by, fact_of, facts_of_session, told_by, IsTaken, AreTaken}

-- ---- one line more

-- what is shown above words is shown above lesser ones
pub IsShown-less : (m : Algebra) (n : ℕ) (xs ys told : List ℕ) (what : What) (set : ℕ) → Refines xs ys → IsShown m n ys told what set → IsShown m n xs told what set
IsShown-less m n xs ys told (Assert fact) set w h = tt
IsShown-less m n xs ys told (Peek i j) set w h = (IsWithin-trans _ _ _ (relation_between-mono m n xs ys i j w) h.0, h.1)
IsShown-less m n xs ys told (Withdraw fact) set w h = tt
IsShown-less m n xs ys told (Ask version i j) set w h = tt
IsShown-less m n xs ys told (Refused number) set w h = tt

told_by-push : (m : Algebra) (n : ℕ) (told : List ℕ) (ps : List (What × ℕ)) (p : What × ℕ) → told_by m n told (ps ++ p ∷ []) ≡ told_after m n (told_by m n told ps) p.0 p.1
told_by-push m n told [] p = refl
told_by-push m n told (q ∷ ps) p = told_by-push m n (told_after m n told q.0 q.1) ps p

AreShown-push : (m : Algebra) (n : ℕ) (words told : List ℕ) (ps : List (What × ℕ)) (p : What × ℕ) → AreShown m n words told ps → IsShown m n words (told_by m n told ps) p.0 p.1 →
    AreShown m n words told (ps ++ p ∷ [])
AreShown-push m n words told [] p h s = (s, tt)
AreShown-push m n words told (q ∷ ps) p h s = (h.0, AreShown-push m n words (told_after m n told q.0 q.1) ps p h.1 s)

facts_of_session-push : (ps : List (ℕ × What)) (p : ℕ × What) → facts_of_session (ps ++ p ∷ []) ≡ facts_of_session ps ++ fact_of p.1
facts_of_session-push [] p = append-nil (fact_of p.1)
facts_of_session-push (q ∷ ps) p =
    ap (λ (fs : List Fact). fact_of q.1 ++ fs) (facts_of_session-push ps p) ∙ sym (append_assoc (fact_of q.1) (facts_of_session ps) (fact_of p.1))

-- ---- steps one after another

pub AreTaken-none : (m : Algebra) (n : ℕ) (a : ActorState) → AreTaken m n [] a a []
AreTaken-none m n a = record {
  asked_is = refl;
  weight = refl;
  facts = sym (append-nil a.mine);
  length_is = refl;
  within = Refines-refl a.seen;
  told = Refines-refl a.seen;
  shown = λ words w. tt;
}

pub AreTaken-push : (m : Algebra) (n : ℕ) (asked : List (ℕ × What)) (old mid new : ActorState) (done : List Step) (step taken : Step) → AreTaken m n asked old mid done → IsTaken m n step mid new taken →
    AreTaken m n (asked ++ (step.place, step.what) ∷ []) old new (done ++ taken ∷ [])
AreTaken-push m n asked old mid new done step taken h t =
    let q : ℕ × What = (step.place, step.what) in
    let p : What × ℕ = (taken.what, taken.set) in
    let same : asked_by done ++ (taken.place, taken.what) ∷ [] ≡ asked ++ q ∷ [] = cc (h.asked_is, t.place, t.what) in
    let pushed : shown_by (done ++ taken ∷ []) ≡ shown_by done ++ p ∷ [] = map_push (λ (s : Step). (s.what, s.set)) done taken in
    let told : List ℕ = told_by m n old.seen (shown_by done) in
    record {
      asked_is = map_push (λ (s : Step). (s.place, s.what)) done taken ∙ same;
      weight = t.weight ∙ h.weight;
      facts = t.facts ∙ ap (λ (fs : List Fact). fs ++ fact_of step.what) h.facts ∙ append_assoc old.mine (facts_of_session asked) (fact_of step.what)
          ∙ ap (λ (fs : List Fact). old.mine ++ fs) (sym (facts_of_session-push asked q));
      length_is = t.length_is ∙ h.length_is;
      within = Refines-trans new.seen mid.seen old.seen t.within h.within;
      told = subst (λ (ps : List (What × ℕ)). Refines new.seen (told_by m n old.seen ps)) (sym pushed)
          (subst (Refines new.seen) (sym (told_by-push m n old.seen (shown_by done) p)) (t.told told h.told));
      shown = λ words w. subst (λ (ps : List (What × ℕ)). AreShown m n words old.seen ps) (sym pushed)
          (AreShown-push m n words old.seen (shown_by done) p (h.shown words (Refines-trans words new.seen mid.seen w t.within))
          (IsShown-less m n words new.seen told taken.what taken.set w (t.shown told h.told)));
    }

-- what was told stays a network
pub AreTaken-network : (m : Algebra) (n : ℕ) (asked : List (ℕ × What)) (old new : ActorState) (done : List Step) → IsNetwork m n old.seen → AreTaken m n asked old new done → IsNetwork m n new.seen
AreTaken-network m n asked old new done net h = IsNetwork-refines m n new.seen old.seen net h.length_is h.within

-- ---- one step

pub IsTaken-asserts : (m : Algebra) (n : ℕ) (fact : Fact) (step : Step) (old new : PassState) → IsCalculus m → IsNetwork m n old.actor.seen → new.nodes ≡ n → step.what ≡ Assert fact → Asserts m fact old new →
    IsWithin (seen_between m new fact.i fact.j) fact.rel → IsTaken m n step old.actor new.actor step
IsTaken-asserts m n fact step old new calculus net nodes is a within_fact =
    let e = edge_between old.nodes fact.i fact.j in
    let x = bit_and a.word (oriented m fact.i fact.j fact.rel) in
    let before = old.actor.seen in
    let after = new.actor.seen in
    let seen : after ≡ slice_set before e (bit_and (slice_index before e) x) = ap (λ (p : PassState). p.actor.seen) a.after in
    let size : length after ≡ length before = ap length seen ∙ length-seen before e x in
    let less : Refines after before = subst (λ (ws : List ℕ). Refines ws before) (sym seen) (seen-within before e x) in
    record {
      place = refl;
      what = refl;
      weight = ap (λ (p : PassState). p.actor.weight) a.after;
      facts = ap (λ (p : PassState). p.actor.mine) a.after ∙ ap (λ (w : What). old.actor.mine ++ fact_of w) (sym is);
      length_is = size;
      within = less;
      shown = λ told w. subst (λ (k : What). IsShown m n after told k step.set) (sym is) tt;
      told = λ told w. subst (λ (k : What). Refines after (told_after m n told k step.set)) (sym is)
          (narrowed_at-keeps m n after told fact.i fact.j fact.rel calculus (IsNetwork-refines m n after before net size less) (Refines-trans after before told less w)
          (subst (λ k. IsWithin (relation_between m k after fact.i fact.j) fact.rel) nodes within_fact));
    }

pub IsTaken-peeks : (m : Algebra) (n e i j set : ℕ) (step : Step) (old new : PassState) → IsCalculus m → IsNetwork m n old.actor.seen → old.nodes ≡ n → new.nodes ≡ n → step.what ≡ Peek i j → Reads e old new →
    set ≡ seen_between m new i j → IsWithin set (seen_between m old i j) → IsTaken m n step old.actor new.actor (record step { set = set })
IsTaken-peeks m n e i j set step old new calculus net nodes nodes' is r value fresh =
    let before = old.actor.seen in
    let after = new.actor.seen in
    let seen : after ≡ slice_set before e (bit_and (slice_index before e) r.word) = ap (λ (p : PassState). p.actor.seen) r.after in
    let size : length after ≡ length before = ap length seen ∙ length-seen before e r.word in
    let less : Refines after before = subst (λ (ws : List ℕ). Refines ws before) (sym seen) (seen-within before e r.word) in
    let same : set ≡ relation_between m n after i j = value ∙ ap (λ k. relation_between m k after i j) nodes' in
    let here : IsWithin (relation_between m n after i j) set = subst (IsWithin (relation_between m n after i j)) (sym same) (IsWithin-refl (relation_between m n after i j)) in
    let known : IsWithin set (relation_between m n before i j) = subst (λ k. IsWithin set (relation_between m k before i j)) nodes fresh in
    record {
      place = refl;
      what = refl;
      weight = ap (λ (p : PassState). p.actor.weight) r.after;
      facts = ap (λ (p : PassState). p.actor.mine) r.after ∙ sym (append-nil old.actor.mine) ∙ ap (λ (w : What). old.actor.mine ++ fact_of w) (sym is);
      length_is = size;
      within = less;
      shown = λ told w. subst (λ (k : What). IsShown m n after told k set) (sym is) (here, IsWithin-trans _ _ _ known (relation_between-mono m n before told i j w));
      told = λ told w. subst (λ (k : What). Refines after (told_after m n told k set)) (sym is)
          (narrowed_at-keeps m n after told i j set calculus (IsNetwork-refines m n after before net size less) (Refines-trans after before told less w) here);
    }

-- ---- the step at a place of a list, of which the steps before it are taken

-- what isn't taken yet is as it was
pub untaken : (old now : List Step) (k : ℕ) (d : Step) → k < length now → length now ≡ length old → drop k now ≡ drop k old → (get_or now k d ≡ get_or old k d) × (drop (k + 1) now ≡ drop (k + 1) old)
untaken old now k d b l rest =
    let here : drop k now ≡ get_or now k d ∷ drop (k + 1) now = rw add-one (drop-cons now k d b) in
    let there : drop k old ≡ get_or old k d ∷ drop (k + 1) old = rw add-one (drop-cons old k d (omega arith)) in
    (cc, cc)

pub AreTaken-more : (m : Algebra) (n : ℕ) (old now : List Step) (k : ℕ) (d taken : Step) (a mid new : ActorState) → k < length now → length now ≡ length old → drop k now ≡ drop k old →
    AreTaken m n (asked_by (take k old)) a mid (take k now) → IsTaken m n (get_or now k d) mid new taken → AreTaken m n (asked_by (take (k + 1) old)) a new (take (k + 1) (set now k taken))
AreTaken-more m n old now k d taken a mid new b l rest h t =
    let step : Step = get_or now k d in
    let before : List (ℕ × What) = asked_by (take k old) in
    let asked : asked_by (take (k + 1) old) ≡ before ++ (step.place, step.what) ∷ [] =
    ap asked_by (take_more old k d (omega arith)) ∙ map_push (λ (s : Step). (s.place, s.what)) (take k old) (get_or old k d)
    ∙ ap (λ (s : Step). before ++ (s.place, s.what) ∷ []) (sym (untaken old now k d b l rest).0) in
    subst (λ (ps : List (ℕ × What)). AreTaken m n ps a new (take (k + 1) (set now k taken))) (sym asked)
    (subst (AreTaken m n (before ++ (step.place, step.what) ∷ []) a new) (sym (take_more_set now k taken b)) (AreTaken-push m n before a mid new (take k now) step taken h t))

pub AreTaken-all : (m : Algebra) (n : ℕ) (old now : List Step) (k : ℕ) (a new : ActorState) → length old ≤ k → length now ≡ length old → AreTaken m n (asked_by (take k old)) a new (take k now) →
    AreTaken m n (asked_by old) a new now
AreTaken-all m n old now k a new b l h =
    subst (λ (ss : List Step). AreTaken m n (asked_by ss) a new now) (take_all k old b) (subst (AreTaken m n (asked_by (take k old)) a new) (take_all k now (omega arith)) h)
