-- What was replaced leads back.
use Rattle.std.proofs.Common.{◌≡◌, ℕ, ◌+◌, ◌<◌, List, [], ◌∷◌, ◌++◌, length, refl, sym, ◌∙◌, ap, subst, arith, inl, inr}
use Rattle.std.specs.Prelude.{slice_index, slice_set}
use Rattle.std.proofs.lemmas.List.{set-set, set-get_or}
use Rattle.std.proofs.lemmas.List.Elements.{All-append, All-cons, All-nil}
use Rattle.std.proofs.lemmas.List.{get_or-set_same, get_or-set_other}
use Rattle.std.proofs.lemmas.Bool.{cases_eq}
use Rattle.network_words.specs.Edge.{edge_count}
use Rattle.network_words.specs.Network.{Network}
use Rattle.stepped_networks.specs.declared.stepped.Replaced.{Replaced}
use Rattle.stepped_networks.specs.Networks.{restored, IsTrail, KeepsTrail}

pub restored-append : (words : List ℕ) (xs ys : List Replaced) → restored words (xs ++ ys) ≡ restored (restored words ys) xs
restored-append words [] ys = refl
restored-append words (x ∷ xs) ys = ap (λ ws. slice_set ws x.edge x.old) (restored-append words xs ys)

-- what was replaced last is undone first
pub restored-last : (words : List ℕ) (trail : List Replaced) (r : Replaced) → restored words (trail ++ r ∷ []) ≡ restored (slice_set words r.edge r.old) trail
restored-last words trail r = restored-append words trail (r ∷ [])

pub KeepsTrail-none : (n : ℕ) (words : List ℕ) (trail : List Replaced) → KeepsTrail n words trail words trail
KeepsTrail-none n words trail = λ before t. t

pub KeepsTrail-then : (n : ℕ) (a b c : List ℕ) (r s t : List Replaced) → KeepsTrail n a r b s → KeepsTrail n b s c t → KeepsTrail n a r c t
KeepsTrail-then n a b c r s t f g = λ before h. g before (f before h)

pub KeepsTrail-replaced : (n : ℕ) (words : List ℕ) (trail : List Replaced) (e x : ℕ) (r : Replaced) → e < edge_count n → r.edge ≡ e → r.old ≡ slice_index words e →
    KeepsTrail n words trail (slice_set words e x) (trail ++ r ∷ [])
KeepsTrail-replaced n words trail e x r below edge_is old_is = λ before t. record {
  edges = All-append (λ (q : Replaced). q.edge < edge_count n) trail (r ∷ []) t.edges
      (All-cons (λ (q : Replaced). q.edge < edge_count n) r [] (omega (arith, edge_is)) (All-nil (λ (q : Replaced). q.edge < edge_count n)));
  restored_is =
      restored-last (slice_set words e x) trail r
      ∙ ap (λ ws. restored ws trail)
      (ap (λ k. slice_set (slice_set words e x) k r.old) edge_is ∙ ap (slice_set (slice_set words e x) e) old_is ∙ set-set words e x (slice_index words e) ∙ set-get_or words e 0)
      ∙ t.restored_is;
}

pub KeepsTrail-nodes : (n n' : ℕ) (a b : List ℕ) (r s : List Replaced) → n ≡ n' → KeepsTrail n a r b s → KeepsTrail n' a r b s
KeepsTrail-nodes n n' a b r s e f = subst (λ k. KeepsTrail k a r b s) e f

-- what a trail from nothing leads back to
pub IsTrail-none : (n : ℕ) (words : List ℕ) → IsTrail n words words []
IsTrail-none n words = record { edges = All-nil (λ (q : Replaced). q.edge < edge_count n); restored_is = refl }

-- ---- networks of which the sets alone change

pub words-then : (a b c : Network) (words : List ℕ) → b ≡ record a { words = b.words } → c ≡ record b { words = words } → c ≡ record a { words = c.words }
words-then a b c words e f =
    subst (λ (y : Network). y ≡ record a { words = y.words }) (sym f) (ap (λ (y : Network). record y { words = words }) e)

-- ---- sets replaced one after another

pub replaced-done : (xs ys : List ℕ) (k x : ℕ) → k < length xs → x ≡ slice_index ys k → ((e : ℕ) → e < k → slice_index xs e ≡ slice_index ys e) →
    (e : ℕ) → e < k + 1 → slice_index (slice_set xs k x) e ≡ slice_index ys e
replaced-done xs ys k x b is_set h e l = elim (cases_eq e k) [
  | inl same ↦ subst (λ d. slice_index (slice_set xs k x) d ≡ slice_index ys d) (sym same) (get_or-set_same xs k x 0 b ∙ is_set)
  | inr other ↦ get_or-set_other xs k e x 0 other ∙ h e (omega arith)
]
