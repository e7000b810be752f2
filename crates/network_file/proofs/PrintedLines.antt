-- The canonical text of a network is printed of lines of tokens.
use Rattle.std.proofs.Common.{◌≡◌, ℕ, zero, suc, ◌^◌, ◌<◌, ◌≤◌, ◌==◌, Bool, true, false, cond, nat_lt, List, [], ◌∷◌, ◌++◌, length, map, refl, sym, ◌∙◌, ap, subst, arith, append_assoc, append-nil, slice_index, codes, decimal, ◌&&◌, ◌⊎◌, inl, inr}
use Rattle.std.specs.List.{list_all, flat_map, AllByRecursion}
use Rattle.std.proofs.lemmas.Bool.{cases_lt, lt-ltb, ltb-true}
use Rattle.std.proofs.lemmas.Bool.Decides.{nat_tests}
use Rattle.std.proofs.lemmas.Grind.{flat_map-append}
use Rattle.std.proofs.lemmas.List.{take_all}
use Rattle.calculus_table.specs.Calculus.{NamedAlgebra}
use Rattle.network_words.specs.Edge.{edge_at}
use Rattle.network_words.specs.Network.{Network}
use Rattle.network_words.specs.declared.TheConstants.{MAX_NODES}
use Rattle.qsr_lex.specs.Names.{is_name}
use Rattle.qsr_lex.specs.Printed.{is_token_text, are_tokens, spaced, printed_line, printed, text_below, word_text}
use Rattle.qsr_lex.proofs.PrintedNumbers.{IsPrintedNumber-below}
use Rattle.named_sets.specs.Written.{members, set_tokens}
use Rattle.qsr_lex.proofs.WrittenTexts.{spaces, text_below-names, spaced-more, spaced-close}
use Rattle.named_sets.proofs.WrittenSets.{set_text-spaced, members-names, closed-tokens}
use Rattle.network_file.specs.NetworkText.{edge_line, later_line, row_text, network_text}

-- ---- the pairs of nodes in edge order

unfoldable pub pairs_row : ℕ → ℕ → List (ℕ × ℕ)
pairs_row i zero = []
pairs_row i (suc j) = pairs_row i j ++ cond (nat_lt i j) ((i, j) ∷ []) []

unfoldable pub pairs_below : ℕ → ℕ → List (ℕ × ℕ)
pairs_below n zero = []
pairs_below n (suc i) = pairs_below n i ++ pairs_row i n

-- ---- the lines

abbrev pub edge_tokens_of : NamedAlgebra → Network → ℕ × ℕ → List (List ℕ)
edge_tokens_of c net p = decimal p.0 ∷ decimal p.1 ∷ set_tokens c (slice_index net.words (edge_at net.nodes p.0 p.1))

abbrev pub names_tokens_of : List (List ℕ) → List (List ℕ)
names_tokens_of names = codes "names" ∷ (40 ∷ []) ∷ (names ++ (41 ∷ []) ∷ [])

abbrev pub names_lines : List (List ℕ) → List (List (List ℕ))
names_lines [] = []
names_lines (x ∷ xs) = names_tokens_of (x ∷ xs) ∷ []

abbrev pub file_lines : NamedAlgebra → Network → List (ℕ × ℕ) → List (List (List ℕ))
file_lines c net ps = (codes "nodes" ∷ decimal net.nodes ∷ []) ∷ (names_lines net.names ++ (map (edge_tokens_of c net) ps ++ ((46 ∷ []) ∷ []) ∷ []))

edge_line-printed : (c : NamedAlgebra) (net : Network) (p : ℕ × ℕ) → edge_line c net p.0 p.1 ≡ printed_line (edge_tokens_of c net p)
edge_line-printed c net p =
    let a = slice_index net.words (edge_at net.nodes p.0 p.1) in
    ap (λ x. decimal p.0 ++ codes " " ++ decimal p.1 ++ codes " " ++ (x ++ codes "\n")) (set_text-spaced c a)
    ∙ shape (decimal p.0) (decimal p.1) (spaced (set_tokens c a))
  where
    shape : (i j x : List ℕ) → i ++ codes " " ++ j ++ codes " " ++ (x ++ codes "\n") ≡ (i ++ 32 ∷ (j ++ 32 ∷ x)) ++ 10 ∷ []
    shape i j x = simp append_assoc

if_pair : (b : Bool) (f : ℕ × ℕ → List ℕ) (p : ℕ × ℕ) → cond b (f p) [] ≡ flat_map f (cond b (p ∷ []) [])
if_pair true f p = sym (append-nil (f p))
if_pair false f p = refl

text_below-row : (c : NamedAlgebra) (net : Network) (i m : ℕ) → text_below m (later_line c net i) ≡ flat_map (λ p. edge_line c net p.0 p.1) (pairs_row i m)
unfolding text_below pairs_row
text_below-row c net i zero = refl
text_below-row c net i (suc j) =
    ap (λ x. x ++ later_line c net i j) (text_below-row c net i j)
    ∙ ap (λ x. flat_map (λ p. edge_line c net p.0 p.1) (pairs_row i j) ++ x) (if_pair (nat_lt i j) (λ p. edge_line c net p.0 p.1) (i, j))
    ∙ sym (flat_map-append (λ p. edge_line c net p.0 p.1) (pairs_row i j) (cond (nat_lt i j) ((i, j) ∷ []) []))

text_below-rows : (c : NamedAlgebra) (net : Network) (k : ℕ) → text_below k (row_text c net) ≡ flat_map (λ p. edge_line c net p.0 p.1) (pairs_below net.nodes k)
unfolding text_below pairs_below
text_below-rows c net zero = refl
text_below-rows c net (suc i) =
    ap (λ x. x ++ row_text c net i) (text_below-rows c net i)
    ∙ ap (λ x. flat_map (λ p. edge_line c net p.0 p.1) (pairs_below net.nodes i) ++ x) (text_below-row c net i net.nodes)
    ∙ sym (flat_map-append (λ p. edge_line c net p.0 p.1) (pairs_below net.nodes i) (pairs_row i net.nodes))

edges-printed : (c : NamedAlgebra) (net : Network) (ps : List (ℕ × ℕ)) → flat_map (λ p. edge_line c net p.0 p.1) ps ≡ printed (map (edge_tokens_of c net) ps)
edges-printed c net [] = refl
edges-printed c net (p ∷ ps) =
    ap (λ x. x ++ flat_map (λ q. edge_line c net q.0 q.1) ps) (edge_line-printed c net p) ∙ ap (λ x. printed_line (edge_tokens_of c net p) ++ x) (edges-printed c net ps)

names-printed : (n : ℕ) (names : List (List ℕ)) → length names ≡ n →
    codes "names ( " ++ text_below n (word_text names) ++ codes ")\n" ≡ printed_line (names_tokens_of names)
names-printed n names l =
    ap (λ x. codes "names ( " ++ x ++ codes ")\n") (text_below-names names n (omega arith) ∙ ap spaces (take_all n names (omega arith)))
    ∙ shape (spaces names)
    ∙ ap (λ x. codes "names" ++ 32 ∷ x ++ 10 ∷ []) (sym (spaced-more (40 ∷ []) names (codes ")") ∙ ap (λ x. 40 ∷ 32 ∷ x) (spaced-close names)))
  where
    shape : (x : List ℕ) → codes "names ( " ++ x ++ codes ")\n" ≡ (codes "names" ++ 32 ∷ (40 ∷ 32 ∷ (x ++ 41 ∷ []))) ++ 10 ∷ []
    shape x = simp append_assoc

names_text-printed : (n : ℕ) (names : List (List ℕ)) → (0 < length names → length names ≡ n) →
    cond (length names == 0) [] (codes "names ( " ++ text_below n (word_text names) ++ codes ")\n") ≡ printed (names_lines names)
names_text-printed n [] l = refl
names_text-printed n (x ∷ xs) l =
    let some : (length (x ∷ xs) == 0) ≡ false = grind (arith, nat_tests) in
    ap (λ b. cond b [] (codes "names ( " ++ text_below n (word_text (x ∷ xs)) ++ codes ")\n")) some
    ∙ names-printed n (x ∷ xs) (l (omega arith))
    ∙ sym (append-nil (printed_line (names_tokens_of (x ∷ xs))))

text-shape : (d names edges : List ℕ) → codes "nodes " ++ d ++ codes "\n" ++ names ++ edges ++ codes ".\n" ≡ ((codes "nodes" ++ 32 ∷ d) ++ 10 ∷ []) ++ (names ++ (edges ++ (46 ∷ 10 ∷ [])))
text-shape d names edges = simp append_assoc

-- the canonical text is that of the lines
pub network_text-printed : (c : NamedAlgebra) (net : Network) → (0 < length net.names → length net.names ≡ net.nodes) → network_text c net ≡ printed (file_lines c net (pairs_below net.nodes net.nodes))
network_text-printed c net l =
    let n = net.nodes in
    let edges = map (edge_tokens_of c net) (pairs_below n n) in
    ap (λ x. codes "nodes " ++ decimal n ++ codes "\n" ++ x ++ text_below n (row_text c net) ++ codes ".\n") (names_text-printed n net.names l)
    ∙ ap (λ x. codes "nodes " ++ decimal n ++ codes "\n" ++ printed (names_lines net.names) ++ x ++ codes ".\n") (text_below-rows c net n ∙ edges-printed c net (pairs_below n n))
    ∙ text-shape (decimal n) (printed (names_lines net.names)) (printed edges)
    ∙ sym (ap (λ x. printed_line (codes "nodes" ∷ decimal n ∷ []) ++ x)
    (flat_map-append printed_line (names_lines net.names) (edges ++ ((46 ∷ []) ∷ []) ∷ [])
    ∙ ap (λ x. printed (names_lines net.names) ++ x) (flat_map-append printed_line edges (((46 ∷ []) ∷ []) ∷ []))))

-- ---- each text of the lines is a token

both : (a b : Bool) → a ≡ true → b ≡ true → a && b ≡ true
both a b p q = rw (p, q) refl

-- a number up to the limit of nodes has no more digits than a number may have
pub small : (k : ℕ) → k ≤ MAX_NODES → k < 10 ^ 18
small k h = omega arith

-- a pair of nodes in edge order
pub record IsPair (n : ℕ) (p : ℕ × ℕ) : Type 0 where
  pub order : p.0 < p.1
  pub below : p.1 < n

edge_tokens : (c : NamedAlgebra) (net : Network) (p : ℕ × ℕ) → net.nodes ≤ MAX_NODES → length c.names ≡ c.algebra.size → list_all is_name c.names ≡ true → IsPair net.nodes p → are_tokens (edge_tokens_of c net p) ≡ true
edge_tokens c net p few one_each names pair =
    let a = slice_index net.words (edge_at net.nodes p.0 p.1) in
    let ws = members c a ++ (41 ∷ []) ∷ [] in
    both (is_token_text (decimal p.0)) (list_all is_token_text (decimal p.1 ∷ (40 ∷ []) ∷ ws)) (IsPrintedNumber-below p.0 (small p.0 (omega arith))).token
    (both (is_token_text (decimal p.1)) (list_all is_token_text ((40 ∷ []) ∷ ws)) (IsPrintedNumber-below p.1 (small p.1 (omega arith))).token
    (closed-tokens (members c a) (members-names c.names a c.algebra.size names (omega arith))))

edges_tokens : (c : NamedAlgebra) (net : Network) (ps : List (ℕ × ℕ)) → net.nodes ≤ MAX_NODES → length c.names ≡ c.algebra.size → list_all is_name c.names ≡ true → AllByRecursion (IsPair net.nodes) ps →
    list_all are_tokens (map (edge_tokens_of c net) ps ++ ((46 ∷ []) ∷ []) ∷ []) ≡ true
edges_tokens c net [] few one_each names pairs = refl
edges_tokens c net (p ∷ ps) few one_each names pairs =
    both (are_tokens (edge_tokens_of c net p)) (list_all are_tokens (map (edge_tokens_of c net) ps ++ ((46 ∷ []) ∷ []) ∷ [])) (edge_tokens c net p few one_each names pairs.0)
    (edges_tokens c net ps few one_each names pairs.1)

names_tokens : (names : List (List ℕ)) (rest : List (List (List ℕ))) → list_all is_name names ≡ true → list_all are_tokens rest ≡ true → list_all are_tokens (names_lines names ++ rest) ≡ true
names_tokens [] rest h k = k
names_tokens (x ∷ xs) rest h k = both (are_tokens (names_tokens_of (x ∷ xs))) (list_all are_tokens rest) (closed-tokens (x ∷ xs) h) k

pub file_tokens : (c : NamedAlgebra) (net : Network) (ps : List (ℕ × ℕ)) → net.nodes ≤ MAX_NODES → length c.names ≡ c.algebra.size → list_all is_name c.names ≡ true → list_all is_name net.names ≡ true → AllByRecursion (IsPair net.nodes) ps →
    list_all are_tokens (file_lines c net ps) ≡ true
file_tokens c net ps few one_each names own pairs =
    both (are_tokens (codes "nodes" ∷ decimal net.nodes ∷ [])) (list_all are_tokens (names_lines net.names ++ (map (edge_tokens_of c net) ps ++ ((46 ∷ []) ∷ []) ∷ [])))
    (both (is_token_text (decimal net.nodes)) true (IsPrintedNumber-below net.nodes (small net.nodes (omega arith))).token refl)
    (names_tokens net.names (map (edge_tokens_of c net) ps ++ ((46 ∷ []) ∷ []) ∷ []) own (edges_tokens c net ps few one_each names pairs))

-- ---- the pairs are in edge order, and each is among them

all-append : (n : ℕ) (xs ys : List (ℕ × ℕ)) → AllByRecursion (IsPair n) xs → AllByRecursion (IsPair n) ys → AllByRecursion (IsPair n) (xs ++ ys)
all-append n [] ys h k = k
all-append n (x ∷ xs) ys h k = (h.0, all-append n xs ys h.1 k)

row_pair : (b : Bool) (n i j : ℕ) → (b ≡ true → i < j) → j < n → AllByRecursion (IsPair n) (cond b ((i, j) ∷ []) [])
row_pair true n i j h b = (record { order = h refl; below = b }, tt)
row_pair false n i j h b = tt

pairs_row-pairs : (n i m : ℕ) → m ≤ n → AllByRecursion (IsPair n) (pairs_row i m)
unfolding pairs_row
pairs_row-pairs n i zero h = tt
pairs_row-pairs n i (suc j) h = all-append n (pairs_row i j) (cond (nat_lt i j) ((i, j) ∷ []) []) (pairs_row-pairs n i j (omega arith)) (row_pair (nat_lt i j) n i j (ltb-true i j) (omega arith))

pub pairs_below-pairs : (n k : ℕ) → AllByRecursion (IsPair n) (pairs_below n k)
unfolding pairs_below
pairs_below-pairs n zero = tt
pairs_below-pairs n (suc i) = all-append n (pairs_below n i) (pairs_row i n) (pairs_below-pairs n i) (pairs_row-pairs n i n (omega arith))

abbrev pub Among : ℕ → ℕ → List (ℕ × ℕ) → Type 0
Among i j [] = ⊥
Among i j (p ∷ ps) = ((p.0 ≡ i) × (p.1 ≡ j)) ⊎ Among i j ps

among-left : (i j : ℕ) (xs ys : List (ℕ × ℕ)) → Among i j xs → Among i j (xs ++ ys)
among-left i j [] ys h = absurd h
among-left i j (x ∷ xs) ys h = elim h [ inl here ↦ inl here | inr later ↦ inr (among-left i j xs ys later) ]

among-right : (i j : ℕ) (xs ys : List (ℕ × ℕ)) → Among i j ys → Among i j (xs ++ ys)
among-right i j [] ys h = h
among-right i j (x ∷ xs) ys h = inr (among-right i j xs ys h)

here_pair : (b : Bool) (i j : ℕ) → b ≡ true → Among i j (cond b ((i, j) ∷ []) [])
here_pair true i j h = inl (refl, refl)
here_pair false i j h = cc

same_pair : (i j k : ℕ) → j ≡ k → Among i k (cond (nat_lt i k) ((i, k) ∷ []) []) → Among i j (cond (nat_lt i k) ((i, k) ∷ []) [])
same_pair i j k e h = subst (λ x. Among i x (cond (nat_lt i k) ((i, k) ∷ []) [])) (sym e) h

pairs_row-has : (i j m : ℕ) → i < j → j < m → Among i j (pairs_row i m)
unfolding pairs_row
pairs_row-has i j zero o b = absurd (omega arith)
pairs_row-has i j (suc k) o b = elim (cases_lt j k) [
  | inl before ↦ among-left i j (pairs_row i k) (cond (nat_lt i k) ((i, k) ∷ []) []) (pairs_row-has i j k o before)
  | inr now ↦ (let e : j ≡ k = omega arith in
      among-right i j (pairs_row i k) (cond (nat_lt i k) ((i, k) ∷ []) []) (same_pair i j k e (here_pair (nat_lt i k) i k (lt-ltb i k (omega arith)))))
]

pub pairs_below-has : (n i j k : ℕ) → i < k → i < j → j < n → Among i j (pairs_below n k)
unfolding pairs_below
pairs_below-has n i j zero o p b = absurd (omega arith)
pairs_below-has n i j (suc k) o p b = elim (cases_lt i k) [
  | inl before ↦ among-left i j (pairs_below n k) (pairs_row k n) (pairs_below-has n i j k before p b)
  | inr now ↦ (let e : i ≡ k = omega arith in
      among-right i j (pairs_below n k) (pairs_row k n) (subst (λ x. Among i j (pairs_row x n)) e (pairs_row-has i j n p b)))
]
