-- Parts that are read from documents one after another.
use Rattle.std.proofs.Common.{◌≡◌, ℕ, ◌≤◌, List, [], ◌++◌, Option, Result, Ok, Err, ◌⊎◌, inl, inr, refl, sym, ◌∙◌, subst, arith}
use Rattle.std.specs.Prelude.{⊤, IfOk, IfErr}
use Rattle.qsr_lex.specs.declared.TheConstants.{MAX_TEXT}
use Rattle.qsr_outside.specs.Counts.{Rose, RoseAbove}
use Rattle.qsr_outside.specs.Documents.{Documents, HasDocument}
use Rattle.qsr_inputs.specs.Stops.{Cause, HasCause, IsRefusalOrMemory, IsTooLongStop}
use Rattle.qsr_inputs.specs.Parts.{Then}
use Rattle.qsr_inputs.specs.Told.{AreThere}
use Rattle.qsr_inputs.specs.Readings.{OfNamed, Fetches}
use Rattle.qsr_inputs.specs.declared.stops.Stop.{Stop}
use Rattle.qsr_inputs.specs.declared.stops.Stop.TheVariants as stop
use Rattle.qsr_inputs.proofs.Naming.{all_first, all_second, none_first, none_second, named-weaker, named-both, named-first, named-always}

pub HasCause-weaker : {A B : Type 0} (P : Result A Cause → Type 0) (Q : Result B Cause → Type 0) (s : Stop) → ((c : Cause) → P (Err c) → Q (Err c)) →
    HasCause P s → HasCause Q s
HasCause-weaker P Q (stop.Refused number place) f h = f _ h
HasCause-weaker P Q stop.TooLong f h = f _ h
HasCause-weaker P Q stop.ReadFault f h = tt
HasCause-weaker P Q stop.Memory f h = tt

-- a part that gave a value didn't fail
pub not_failed : {A : Type 0} (v : A) (P : Type 0) → (Ok v ≡ Err stop.ReadFault) ⊎ P → P
not_failed v P h = elim h [ inl e ↦ absurd cc | inr same ↦ same ]

-- a refusal, or out of memory, is no fault of reading
pub no_fault : {B : Type 0} (r : Result B Stop) → r ≡ Err stop.ReadFault → IfErr r IsRefusalOrMemory → ⊥
no_fault r e s = subst (λ x. IfErr x IsRefusalOrMemory) e s

pub not_long : {B : Type 0} (r : Result B Stop) → r ≡ Err stop.TooLong → IfErr r IsRefusalOrMemory → ⊥
not_long r e s = subst (λ x. IfErr x IsRefusalOrMemory) e s

-- a stop that is too long, or out of memory, is so whatever the value would be
pub stop_long : (A B : Type 0) (k : Stop) → IsTooLongStop {A = A} (Err k) → IsTooLongStop {A = B} (Err k)
stop_long A B stop.TooLong i = tt
stop_long A B stop.Memory i = tt
stop_long A B (stop.Refused number place) i = absurd i
stop_long A B stop.ReadFault i = absurd i

-- what two reads gave
pub given_in_two : (old mid new n : ℕ) → old ≤ mid → RoseAbove mid new n → RoseAbove old new n
given_in_two old mid new n grew rose = grind (arith, grew, rose)

module _ {F : Type 0} (documents : F → Option Documents) (faults given absent : F → ℕ) where
  abbrev FetchesFrom : {A : Type 0} → List (List ℕ) → (Documents → Result A Cause → Type 0) → F → F → Result A Stop → Type 0
  FetchesFrom names Part old new result = Fetches documents faults given absent names Part old new result

  -- the document of the name is there
  abbrev IsThere : F → List ℕ → Type 0
  IsThere shelf name = HasDocument (documents shelf) name (λ _. ⊤)

  module _ {A B : Type 0} (names more : List (List ℕ)) (P : Documents → Result A Cause → Type 0) (Q : A → Documents → Result B Cause → Type 0)
      (old mid new : F) (a : A) (h : FetchesFrom names P old mid (Ok a)) where
    same_faults : faults mid ≡ faults old
    same_faults = not_failed a _ h.faults_are_told

    value_then : (r : Result B Stop) → FetchesFrom more (Q a) mid new r →
        IfOk r (λ v. OfNamed (names ++ more) (documents old) (λ d. Then (P d) (λ x. Q x d) (Ok v)))
    value_then (Err s) k = tt
    value_then (Ok v) k =
        named-both names more (documents old) (λ d. P d (Ok a)) (λ d. Q a d (Ok v)) _ (λ d p q. record { value = a; first = p; second = q }) h.value
        (subst (λ o. OfNamed more o (λ d. Q a d (Ok v))) h.documents_stay k.value)

    cause_then : (r : Result B Stop) → FetchesFrom more (Q a) mid new r →
        IfErr r (λ s. OfNamed (names ++ more) (documents old) (λ d. HasCause (Then (P d) (λ x. Q x d)) s))
    cause_then (Ok v) k = tt
    cause_then (Err s) k =
        named-both names more (documents old) (λ d. P d (Ok a)) (λ d. HasCause (Q a d) s) _ (λ d p q.
        HasCause-weaker (Q a d) (Then (P d) (λ x. Q x d)) s (λ c i. inr (record { value = a; first = p; second = i })) q) h.value
        (subst (λ o. OfNamed more o (λ d. HasCause (Q a d) s)) h.documents_stay k.cause)

    told_then : (r : Result B Stop) → (r ≡ Err stop.ReadFault) ⊎ (faults new ≡ faults mid) → (r ≡ Err stop.ReadFault) ⊎ (faults new ≡ faults old)
    told_then r k = elim k [ inl e ↦ inl e | inr same ↦ inr (same ∙ same_faults) ]

    -- one part, and then another
    pub fetches_then : (r : Result B Stop) → FetchesFrom more (Q a) mid new r → FetchesFrom (names ++ more) (λ d. Then (P d) (λ x. Q x d)) old new r
    fetches_then r k = record {
      value = value_then r k;
      cause = cause_then r k;
      read_fault = λ e. subst (λ f. Rose f (faults new)) same_faults (k.read_fault e);
      too_long = λ e. given_in_two (given old) (given mid) (given new) MAX_TEXT h.given_never_falls (k.too_long e);
      faults_are_told = told_then r k.faults_are_told;
      faults_never_fall = omega (arith, h.faults_never_fall, k.faults_never_fall);
      given_never_falls = omega (arith, h.given_never_falls, k.given_never_falls);
      documents_stay = k.documents_stay ∙ h.documents_stay;
      absent_openings_stay = λ there.
          k.absent_openings_stay (subst (AreThere more) (sym h.documents_stay) (all_second (IsThere old) names more there)) ∙ h.absent_openings_stay (all_first (IsThere old) names more there);
      none_stays = λ none. k.none_stays (none_second names more none) ∙ h.none_stays (none_first names more none);
    }

  -- the cause of a first part is that of both
  pub fetches_stopped : {A B : Type 0} (names more : List (List ℕ)) (P : Documents → Result A Cause → Type 0) (Q : A → Documents → Result B Cause → Type 0) (old new : F) (s : Stop) →
      FetchesFrom names P old new (Err s) → FetchesFrom (names ++ more) (λ d. Then (P d) (λ x. Q x d)) old new (Err s)
  fetches_stopped names more P Q old new s h = record {
    value = tt;
    cause = named-first names more (documents old) _ (named-weaker names (documents old) _ _ (λ d i. HasCause-weaker (P d) (Then (P d) (λ x. Q x d)) s (λ c j. inl j) i) h.cause);
    read_fault = λ e. h.read_fault cc;
    too_long = λ e. h.too_long cc;
    faults_are_told = elim h.faults_are_told [ inl e ↦ inl cc | inr same ↦ inr same ];
    faults_never_fall = h.faults_never_fall;
    given_never_falls = h.given_never_falls;
    documents_stay = h.documents_stay;
    absent_openings_stay = λ there. h.absent_openings_stay (all_first (IsThere old) names more there);
    none_stays = λ none. h.none_stays (none_first names more none);
  }

  -- a value of which a second part is made, or a cause
  module _ {A B : Type 0} (names : List (List ℕ)) (P : Documents → Result A Cause → Type 0) (Q : A → Result B Cause → Type 0) (old new : F) (a : A) (h : FetchesFrom names P old new (Ok a)) where
    made_value : (r : Result B Stop) → IfOk r (λ v. Q a (Ok v)) → IfOk r (λ v. OfNamed names (documents old) (λ d. Then (P d) Q (Ok v)))
    made_value (Err s) k = tt
    made_value (Ok v) k = named-weaker names (documents old) (λ d. P d (Ok a)) (λ d. Then (P d) Q (Ok v)) (λ d p. record { value = a; first = p; second = k }) h.value

    made_cause : (r : Result B Stop) → IfErr r (HasCause (Q a)) → IfErr r (λ s. OfNamed names (documents old) (λ d. HasCause (Then (P d) Q) s))
    made_cause (Ok v) k = tt
    made_cause (Err s) k = named-weaker names (documents old) (λ d. P d (Ok a)) _ (λ d p.
        HasCause-weaker (Q a) (Then (P d) Q) s (λ c i. inr (record { value = a; first = p; second = i })) k) h.value

    pub fetches_parsed : (r : Result B Stop) → IfOk r (λ v. Q a (Ok v)) → IfErr r (HasCause (Q a)) → IfErr r IsRefusalOrMemory → FetchesFrom names (λ d. Then (P d) Q) old new r
    fetches_parsed r v k s = record {
      value = made_value r v;
      cause = made_cause r k;
      read_fault = λ e. absurd (no_fault r e s);
      too_long = λ e. absurd (not_long r e s);
      faults_are_told = inr (not_failed a _ h.faults_are_told);
      faults_never_fall = h.faults_never_fall;
      given_never_falls = h.given_never_falls;
      documents_stay = h.documents_stay;
      absent_openings_stay = h.absent_openings_stay;
      none_stays = h.none_stays;
    }

  -- a value of which another is made
  pub fetches_made : {A B : Type 0} (names : List (List ℕ)) (P : Documents → Result A Cause → Type 0) (Q : Documents → Result B Cause → Type 0) (old new : F) (a : A) (b : B) →
      ((d : Documents) → P d (Ok a) → Q d (Ok b)) → FetchesFrom names P old new (Ok a) → FetchesFrom names Q old new (Ok b)
  fetches_made names P Q old new a b f h = record {
    value = named-weaker names (documents old) (λ d. P d (Ok a)) (λ d. Q d (Ok b)) f h.value;
    cause = tt;
    read_fault = λ e. absurd cc;
    too_long = λ e. absurd cc;
    faults_are_told = inr (not_failed a _ h.faults_are_told);
    faults_never_fall = h.faults_never_fall;
    given_never_falls = h.given_never_falls;
    documents_stay = h.documents_stay;
    absent_openings_stay = h.absent_openings_stay;
    none_stays = h.none_stays;
  }

  -- a cause of one part that is one of another
  pub fetches_caused : {A B : Type 0} (names : List (List ℕ)) (P : Documents → Result A Cause → Type 0) (Q : Documents → Result B Cause → Type 0) (old new : F) (s : Stop) →
      ((d : Documents) (c : Cause) → P d (Err c) → Q d (Err c)) → FetchesFrom names P old new (Err s) → FetchesFrom names Q old new (Err s)
  fetches_caused names P Q old new s f h = record {
    value = tt;
    cause = named-weaker names (documents old) _ _ (λ d i. HasCause-weaker (P d) (Q d) s (f d) i) h.cause;
    read_fault = λ e. h.read_fault cc;
    too_long = λ e. h.too_long cc;
    faults_are_told = elim h.faults_are_told [ inl e ↦ inl cc | inr same ↦ inr same ];
    faults_never_fall = h.faults_never_fall;
    given_never_falls = h.given_never_falls;
    documents_stay = h.documents_stay;
    absent_openings_stay = h.absent_openings_stay;
    none_stays = h.none_stays;
  }

  module _ {A : Type 0} (P : Documents → Result A Cause → Type 0) (shelf : F) where
    -- a value for which nothing is read, and a cause
    pub fetches_nothing : (a : A) → ((d : Documents) → P d (Ok a)) → FetchesFrom [] P shelf shelf (Ok a)
    fetches_nothing a f = record {
      value = f;
      cause = tt;
      read_fault = λ e. absurd cc;
      too_long = λ e. absurd cc;
      faults_are_told = inr refl;
      faults_never_fall = omega arith;
      given_never_falls = omega arith;
      documents_stay = refl;
      absent_openings_stay = λ there. refl;
      none_stays = λ none. refl;
    }

    pub refuses_nothing : (number : ℕ) (place : _) → ((d : Documents) → HasCause (P d) (stop.Refused number place)) → FetchesFrom [] P shelf shelf (Err (stop.Refused number place))
    refuses_nothing number place f = record {
      value = tt;
      cause = f;
      read_fault = λ e. absurd cc;
      too_long = λ e. absurd cc;
      faults_are_told = inr refl;
      faults_never_fall = omega arith;
      given_never_falls = omega arith;
      documents_stay = refl;
      absent_openings_stay = λ there. refl;
      none_stays = λ none. refl;
    }

    -- out of memory, before anything is read
    pub fetches_memory : (names : List (List ℕ)) → FetchesFrom names P shelf shelf (Err stop.Memory)
    fetches_memory names = record {
      value = tt;
      cause = named-always names (documents shelf) _ (λ d. tt);
      read_fault = λ e. absurd cc;
      too_long = λ e. absurd cc;
      faults_are_told = inr refl;
      faults_never_fall = omega arith;
      given_never_falls = omega arith;
      documents_stay = refl;
      absent_openings_stay = λ there. refl;
      none_stays = λ none. refl;
    }
