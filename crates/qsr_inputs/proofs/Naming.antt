-- Facts of the documents that words name.
use Rattle.std.proofs.Common.{◌≡◌, ℕ, List, [], ◌∷◌, ◌++◌, Option, None, Some, refl}
use Rattle.std.specs.Prelude.{All, IfSome}
use Rattle.std.specs.FinMap as map
use Rattle.std.proofs.lemmas.List.Elements.{All-nil, All-cons, All-head, All-tail}
use Rattle.qsr_outside.specs.Documents.{Documents}
use Rattle.qsr_inputs.specs.Told.{told_where}
use Rattle.qsr_inputs.specs.Readings.{OfNamed}

-- ---- lists of names

module _ {X : Type 0} (P : X → Type 0) where
  pub all_first : (xs ys : List X) → All P (xs ++ ys) → All P xs
  all_first [] ys h = All-nil P
  all_first (x ∷ xs) ys h = All-cons P x xs (All-head P x (xs ++ ys) h) (all_first xs ys (All-tail P x (xs ++ ys) h))

  pub all_second : (xs ys : List X) → All P (xs ++ ys) → All P ys
  all_second [] ys h = h
  all_second (x ∷ xs) ys h = all_second xs ys (All-tail P x (xs ++ ys) h)

pub none_first : {X : Type 0} (xs ys : List X) → xs ++ ys ≡ [] → xs ≡ []
none_first [] ys e = refl
none_first (x ∷ xs) ys e = absurd cc

pub none_second : {X : Type 0} (xs ys : List X) → xs ++ ys ≡ [] → ys ≡ []
none_second [] ys e = e
none_second (x ∷ xs) ys e = absurd cc

-- ---- told facts

pub IfSome-weaker : {X : Type 0} (o : Option X) (P Q : X → Type 0) → ((x : X) → P x → Q x) → IfSome o P → IfSome o Q
IfSome-weaker None P Q f h = tt
IfSome-weaker (Some x) P Q f h = f x h

pub IfSome-two : {X : Type 0} (o : Option X) (P Q R : X → Type 0) → ((x : X) → P x → Q x → R x) → IfSome o P → IfSome o Q → IfSome o R
IfSome-two None P Q R f h k = tt
IfSome-two (Some x) P Q R f h k = f x h k

pub told_all : {X : Type 0} (o : Option X) (P : X → Type 0) → ((x : X) → P x) → IfSome o P
told_all None P f = tt
told_all (Some x) P f = f x

-- ---- facts of named documents

pub named-weaker : (names : List (List ℕ)) (told : Option Documents) (P Q : Documents → Type 0) → ((d : Documents) → P d → Q d) →
    OfNamed names told P → OfNamed names told Q
named-weaker [] told P Q f h = λ d. f d (h d)
named-weaker (n ∷ names) told P Q f h = IfSome-weaker told P Q f h

-- a fact of one list of names and a fact of another make one of both lists
pub named-both : (names more : List (List ℕ)) (told : Option Documents) (P Q R : Documents → Type 0) → ((d : Documents) → P d → Q d → R d) →
    OfNamed names told P → OfNamed more told Q → OfNamed (names ++ more) told R
named-both [] [] told P Q R f h k = λ d. f d (h d) (k d)
named-both [] (m ∷ more) told P Q R f h k = IfSome-weaker told Q R (λ d q. f d (h d) q) k
named-both (n ∷ names) [] told P Q R f h k = IfSome-weaker told P R (λ d p. f d p (k d)) h
named-both (n ∷ names) (m ∷ more) told P Q R f h k = IfSome-two told P Q R f h k

pub named-first : (names more : List (List ℕ)) (told : Option Documents) (P : Documents → Type 0) → OfNamed names told P → OfNamed (names ++ more) told P
named-first [] [] told P h = h
named-first [] (m ∷ more) told P h = told_all told P h
named-first (n ∷ names) more told P h = h

-- what is known of the documents of names is known of those that are told of them
pub named-told : (names : List (List ℕ)) (told : Option Documents) (P : Documents → Type 0) → OfNamed names told P → IfSome (told_where names told) P
named-told [] told P h = h map.empty
named-told (n ∷ names) told P h = h

pub named-always : (names : List (List ℕ)) (told : Option Documents) (P : Documents → Type 0) → ((d : Documents) → P d) → OfNamed names told P
named-always [] told P f = f
named-always (n ∷ names) told P f = told_all told P f
