-- Passes over all steps.
use Rattle.std.proofs.Common.{◌≡◌, ◌≢◌, ℕ, suc, ◌<◌, Bool, true, false, List, [], ◌∷◌, ◌++◌, length, sum, refl, sym, ◌∙◌, ap, subst, arith, inl, inr, append_assoc, Contains, if◌then◌else◌}
use Rattle.std.specs.Prelude.{slice_index}
use Rattle.std.proofs.lemmas.List.{length-append}
use Rattle.calculus_table.specs.Algebra.{Algebra}
use Rattle.network_words.specs.Edge.{edge_between}
use Rattle.split_trees.specs.declared.tree.Step.{Step}
use Rattle.split_trees.specs.Refutes.{after_step, after_steps}
use Rattle.stepped_networks.specs.RuledSteps.{all_steps, narrows, made_among, passes_of, AreRuledSteps, NoneEmptyBefore, AreCutSteps}
use Rattle.stepped_networks.specs.Passes.{AreMade, AreGoing, AreEnded, GoesThrough, EndsAmong, AreStepsOf}
use Rattle.stepped_networks.proofs.ListEnds.{append-nil}
use Rattle.stepped_networks.proofs.RuledSteps.{after_step-same, after-append, made-append, ruled-begins, sum-made, ruled_steps, made_then, after_step-none, after_step-empty}

module _ (m : Algebra) (n : ℕ) where
  -- ---- one step

  made-one : (words : List ℕ) (step : Step) → narrows m n words step ≡ true → made_among m n words (step ∷ []) ≡ step ∷ []
  made-one words step e = ap (λ b. if b then step ∷ [] else []) e

  made-not : (words : List ℕ) (step : Step) → narrows m n words step ≡ false → made_among m n words (step ∷ []) ≡ []
  made-not words step e = ap (λ b. if b then step ∷ [] else []) e

  none_before-append : (words : List ℕ) (steps : List Step) (step : Step) → NoneEmptyBefore m n words steps → ¬ Contains (after_steps m n words steps) 0 → NoneEmptyBefore m n words (steps ++ step ∷ [])
  none_before-append words [] step h g = (g, tt)
  none_before-append words (s ∷ steps) step h g = (h.0, none_before-append (after_step m n words s) steps step h.1 g)

  module _ (start : List ℕ) (gone made : List Step) (words : List ℕ) (step : Step) (are : AreMade m n start gone made words) where
    made-taken : narrows m n words step ≡ true → AreMade m n start (gone ++ step ∷ []) (made ++ step ∷ []) (after_step m n words step)
    made-taken e = record {
      made_are =
          sym (made-append m n start gone (step ∷ []) ∙ ap (made_then m n (step ∷ []) start) (sym are.made_are)
          ∙ ap (λ ws. made ++ made_among m n ws (step ∷ [])) (sym are.words_are) ∙ ap (λ ss. made ++ ss) (made-one words step e));
      words_are = ap (λ ws. after_step m n ws step) are.words_are ∙ sym (after-append m n start made (step ∷ []));
    }

    made-left : narrows m n words step ≡ false → AreMade m n start (gone ++ step ∷ []) made (after_step m n words step)
    made-left e = record {
      made_are =
          sym (made-append m n start gone (step ∷ []) ∙ ap (made_then m n (step ∷ []) start) (sym are.made_are)
          ∙ ap (λ ws. made ++ made_among m n ws (step ∷ [])) (sym are.words_are) ∙ ap (λ ss. made ++ ss) (made-not words step e) ∙ append-nil made);
      words_are = after_step-same m n words step e ∙ are.words_are;
    }

  module _ (cut : Bool) (start : List ℕ) (gone made : List Step) (words : List ℕ) (step : Step) (going : AreGoing m n cut start gone made words) where
    before-taken : cut ≡ true → NoneEmptyBefore m n start (made ++ step ∷ [])
    before-taken c = none_before-append start made step (going.before c) (subst (λ ws. ¬ Contains ws 0) going.are_made.words_are (going.none c))

    pub going-taken : narrows m n words step ≡ true → (cut ≡ true → ¬ Contains (after_step m n words step) 0) →
        AreGoing m n cut start (gone ++ step ∷ []) (made ++ step ∷ []) (after_step m n words step)
    going-taken e none = record { are_made = made-taken start gone made words step going.are_made e; before = before-taken; none = none }

    pub going-left : narrows m n words step ≡ false → AreGoing m n cut start (gone ++ step ∷ []) made (after_step m n words step)
    going-left e = record {
      are_made = made-left start gone made words step going.are_made e;
      before = going.before;
      none = λ c. subst (λ ws. ¬ Contains ws 0) (sym (after_step-same m n words step e)) (going.none c);
    }

    pub ended-taken : narrows m n words step ≡ true → cut ≡ true → Contains (after_step m n words step) 0 →
        AreEnded m n start (gone ++ step ∷ []) (made ++ step ∷ []) (after_step m n words step)
    ended-taken e c empty = record { are_made = made-taken start gone made words step going.are_made e; before = before-taken c; empty = empty }

  -- ---- passes

  -- some whole passes were made
  pub record AreAtPass (cut : Bool) (start : List ℕ) (made : List Step) (words : List ℕ) : Type 0 where
    pub passes : ℕ
    pub going : AreGoing m n cut start (passes_of n passes) made words

  pub at_pass-first : (cut : Bool) (start : List ℕ) → (cut ≡ true → ¬ Contains start 0) → AreAtPass cut start [] start
  at_pass-first cut start none =
      record { passes = 0; going = record { are_made = record { made_are = refl; words_are = refl }; before = λ _. tt; none = none } }

  pub cut-first : (start : List ℕ) → Contains start 0 → AreCutSteps m n start []
  cut-first start empty = let whole = ruled_steps m n start in record { whole = whole.0; rest = whole.0; ruled = whole.1; whole_is = refl; before = tt; ended = inl empty }

  module _ (cut : Bool) (start : List ℕ) (made made' : List Step) (words words' : List ℕ) (at : AreAtPass cut start made words) where
    pub at_pass-next : GoesThrough m n cut (all_steps n) made words made' words' → AreAtPass cut start made' words'
    at_pass-next goes = record { passes = suc at.passes; going = goes start (passes_of n at.passes) at.going }

    abbrev new : List Step
    new = made_among m n words (all_steps n)

    made-new : GoesThrough m n cut (all_steps n) made words made' words' → made' ≡ made ++ new
    made-new goes =
        (goes start (passes_of n at.passes) at.going).are_made.made_are ∙ made-append m n start (passes_of n at.passes) (all_steps n)
        ∙ ap (made_then m n (all_steps n) start) (sym at.going.are_made.made_are) ∙ ap (λ ws. made ++ made_among m n ws (all_steps n)) (sym at.going.are_made.words_are)

    words-new : GoesThrough m n cut (all_steps n) made words made' words' → words' ≡ after_steps m n words new
    words-new goes =
        (goes start (passes_of n at.passes) at.going).are_made.words_are ∙ ap (after_steps m n start) (made-new goes) ∙ after-append m n start made new
        ∙ ap (λ ws. after_steps m n ws new) (sym at.going.are_made.words_are)

    none-new : GoesThrough m n cut (all_steps n) made words made' words' → length made' ≡ length made → new ≡ []
    none-new goes e = by_length new (omega (arith, ap length (made-new goes) ∙ length-append made new, e))
      where
        by_length : (xs : List Step) → length xs ≡ 0 → xs ≡ []
        by_length [] h = refl
        by_length (x ∷ xs) h = absurd (omega arith)

    -- a pass that makes a step leaves less
    pub pass-less : GoesThrough m n cut (all_steps n) made words made' words' → length made' ≢ length made → sum words' < sum words
    pass-less goes ne =
        subst (λ ws. sum ws < sum words) (sym (words-new goes))
        (sum-made m n words (all_steps n) (λ none. ne (ap length (made-new goes ∙ ap (λ ss. made ++ ss) none ∙ append-nil made))))

    ruled-done : GoesThrough m n cut (all_steps n) made words made' words' → length made' ≡ length made → AreRuledSteps m n start made'
    ruled-done goes e =
        let none = none-new goes e in
        let same : words' ≡ words = words-new goes ∙ ap (after_steps m n words) none in
        let going = goes start (passes_of n at.passes) at.going in
        record {
          passes = suc at.passes;
          steps_are = going.are_made.made_are;
          ended = ap (λ ws. made_among m n ws (all_steps n)) (sym going.are_made.words_are ∙ same) ∙ none;
        }

    -- after a pass that makes none
    pub steps-done : GoesThrough m n cut (all_steps n) made words made' words' → length made' ≡ length made → AreStepsOf cut m n start made'
    steps-done goes e = by_cut cut refl
      where
        by_cut : (b : Bool) → cut ≡ b → AreStepsOf b m n start made'
        by_cut true is = record {
          whole = made';
          rest = [];
          ruled = ruled-done goes e;
          whole_is = sym (append-nil made');
          before = (goes start (passes_of n at.passes) at.going).before is;
          ended = inr refl;
        }
        by_cut false is = ruled-done goes e

    pub words-done : GoesThrough m n cut (all_steps n) made words made' words' → words' ≡ after_steps m n start made'
    words-done goes = (goes start (passes_of n at.passes) at.going).are_made.words_are

    -- after a part of a pass that leaves an empty set
    pub steps-ended : cut ≡ true → EndsAmong m n cut (all_steps n) made words made' words' → AreStepsOf cut m n start made'
    steps-ended is ends =
        let among = ends start (passes_of n at.passes) at.going in
        let whole = ruled_steps m n start in
        let begins = ruled-begins m n start whole.0 among.first among.left at.passes whole.1 among.steps_are in
        subst (λ b. AreStepsOf b m n start made') (sym is) (record {
          whole = whole.0;
          rest = begins.0;
          ruled = whole.1;
          whole_is = begins.1 ∙ ap (λ ss. ss ++ begins.0) (sym among.ended.are_made.made_are);
          before = among.ended.before;
          ended = inl (subst (λ ws. Contains ws 0) among.ended.are_made.words_are among.ended.empty);
        })

    pub words-ended : EndsAmong m n cut (all_steps n) made words made' words' → words' ≡ after_steps m n start made'
    words-ended ends = (ends start (passes_of n at.passes) at.going).ended.are_made.words_are

  -- ---- one step after others

  pub goes-more : (cut : Bool) (xs : List Step) (x : Step) (a b c : List Step) (us vs ws : List ℕ) → GoesThrough m n cut xs a us b vs → GoesThrough m n cut (x ∷ []) b vs c ws →
      GoesThrough m n cut (xs ++ x ∷ []) a us c ws
  goes-more cut xs x a b c us vs ws f g = λ start gone going.
      subst (λ ss. AreGoing m n cut start ss c ws) (append_assoc gone xs (x ∷ [])) (g start (gone ++ xs) (f start gone going))

  pub goes-none : (cut : Bool) (made : List Step) (words : List ℕ) → GoesThrough m n cut [] made words made words
  goes-none cut made words = λ start gone going. subst (λ ss. AreGoing m n cut start ss made words) (sym (append-nil gone)) going

  pub ends-more : (cut : Bool) (xs ys : List Step) (x : Step) (a b c : List Step) (us vs ws : List ℕ) → GoesThrough m n cut xs a us b vs → EndsAmong m n cut (x ∷ []) b vs c ws →
      EndsAmong m n cut (xs ++ x ∷ ys) a us c ws
  ends-more cut xs ys x a b c us vs ws f g = λ start gone going.
      let among = g start (gone ++ xs) (f start gone going) in
      record {
        first = xs ++ among.first;
        left = among.left ++ ys;
        steps_are = ap (λ ss. xs ++ (ss ++ ys)) among.steps_are ∙ ap (λ ss. xs ++ ss) (append_assoc among.first among.left ys) ∙ sym (append_assoc xs among.first (among.left ++ ys));
        ended = subst (λ ss. AreEnded m n start ss c ws) (append_assoc gone xs among.first) among.ended;
      }

  -- ---- the step that is looked at

  pub goes-taken : (cut : Bool) (made made' : List Step) (words words' : List ℕ) (step : Step) → made' ≡ made ++ step ∷ [] → words' ≡ after_step m n words step → narrows m n words step ≡ true →
      (cut ≡ true → slice_index words' (edge_between n step.i step.k) ≢ 0) → GoesThrough m n cut (step ∷ []) made words made' words'
  goes-taken cut made made' words words' step e f less some = λ start gone going.
      subst (λ ss. AreGoing m n cut start (gone ++ step ∷ []) ss words') (sym e) (subst (AreGoing m n cut start (gone ++ step ∷ []) (made ++ step ∷ [])) (sym f)
      (going-taken cut start gone made words step going less (λ c. after_step-none m n words step (going.none c) (subst (λ ws. slice_index ws (edge_between n step.i step.k) ≢ 0) f (some c)))))

  pub goes-left : (cut : Bool) (made : List Step) (words words' : List ℕ) (step : Step) → words' ≡ after_step m n words step → narrows m n words step ≡ false →
      GoesThrough m n cut (step ∷ []) made words made words'
  goes-left cut made words words' step f less = λ start gone going.
      subst (AreGoing m n cut start (gone ++ step ∷ []) made) (sym f) (going-left cut start gone made words step going less)

  pub ends-taken : (cut : Bool) (made made' : List Step) (words words' : List ℕ) (step : Step) → made' ≡ made ++ step ∷ [] → words' ≡ after_step m n words step → narrows m n words step ≡ true →
      cut ≡ true → edge_between n step.i step.k < length words → slice_index words' (edge_between n step.i step.k) ≡ 0 → EndsAmong m n cut (step ∷ []) made words made' words'
  ends-taken cut made made' words words' step e f less c below empty = λ start gone going.
      record {
        first = step ∷ [];
        left = [];
        steps_are = refl;
        ended = subst (λ ss. AreEnded m n start (gone ++ step ∷ []) ss words') (sym e) (subst (AreEnded m n start (gone ++ step ∷ []) (made ++ step ∷ [])) (sym f)
            (ended-taken cut start gone made words step going less c (after_step-empty m n words step below (subst (λ ws. slice_index ws (edge_between n step.i step.k) ≡ 0) f empty))));
      }
