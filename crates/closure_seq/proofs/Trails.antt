-- Levels by a trail: what changes, marks and undoing do to them.
use Rattle.std.proofs.Common.{◌≡◌, ℕ, zero, suc, ◌+◌, ◌-◌, ◌<◌, ◌≤◌, List, [], ◌∷◌, ◌++◌, length, get_or, set, take}
use Rattle.std.proofs.Common.{drop, map, refl, sym, ◌∙◌, ap, subst, arith, inl, inr}
use Rattle.std.specs.Prelude.{slice_index, slice_set, All}
use Rattle.std.proofs.lemmas.Bool.{cases_lt, cases_eq}
use Rattle.std.proofs.lemmas.List.{get_or-map as map-at, drop-append-le, map-append, length-append, length-map}
use Rattle.std.proofs.lemmas.List.{length-set, set-get_or, set-set, get_or_append_left, get_or_past}
use Rattle.std.proofs.lemmas.List.Elements.{All-append, All-nil}
use Rattle.std.proofs.Math.ListN.{get_or-map}
use Rattle.std.proofs.Math.Seq.{get_or-append_seam, take-append_seam}
use Rattle.calculus_table.specs.Rel.{IsWithin}
use Rattle.network_words.proofs.Edges.{edge_at-lt}
use Rattle.network_words.proofs.Networks.{set-cases}
use Rattle.closure_seq.specs.declared.levels.Change.{Change}
use Rattle.closure_seq.specs.Levels.{LevelSets, AreSets, IsChange, IsTrail, restored, levels_below, last_changes}

-- ---- lists

pub All-cons : {X : Type 0} (P : X → Type 0) (x : X) (xs : List X) → P x → All P xs → All P (x ∷ xs)
All-cons P x xs h a zero d l = h
All-cons P x xs h a (suc k) d l = a k d (omega arith)

-- of a list with one more at its end
pub All-last : {X : Type 0} (P : X → Type 0) (xs : List X) (c : X) → All P (xs ++ c ∷ []) → P c
All-last P xs c a = subst P (get_or-append_seam xs c [] c) (a (length xs) c (omega (arith, length-append xs (c ∷ []))))

pub All-init : {X : Type 0} (P : X → Type 0) (xs : List X) (c : X) → All P (xs ++ c ∷ []) → All P xs
All-init P xs c a = λ k d l. subst P (get_or_append_left xs (c ∷ []) d k l)
    (a k d (omega (arith, length-append xs (c ∷ []))))

-- lists with one more at their ends are the same only where the lists and the ends are
pub snoc-same : {X : Type 0} (xs ys : List X) (a b : X) → xs ++ a ∷ [] ≡ ys ++ b ∷ [] → (xs ≡ ys) × (a ≡ b)
snoc-same xs ys a b e =
    let long : length xs + 1 ≡ length ys + 1 = sym (length-append xs (a ∷ [])) ∙ ap length e
    ∙ length-append ys (b ∷ []) in
    let same : length xs ≡ length ys = omega arith in (
      sym (take-append_seam xs (a ∷ [])) ∙ ap (take (length xs)) e ∙ ap (λ k. take k (ys ++ b ∷ [])) same
          ∙ take-append_seam ys (b ∷ []),
      sym (get_or-append_seam xs a [] a) ∙ ap (λ l. get_or l (length xs) a) e ∙ ap (λ k. get_or (ys ++ b ∷ []) k a) same
          ∙ get_or-append_seam ys b [] a,
    )

-- ---- what changes restore

pub restored-append : (sets : List ℕ) (xs ys : List Change) → restored sets (xs ++ ys) ≡ restored (restored sets ys) xs
restored-append sets [] ys = refl
restored-append sets (x ∷ xs) ys = ap (λ ws. slice_set ws x.edge x.old) (restored-append sets xs ys)

-- one more change at the end of a trail is undone first
pub restored-last : (sets : List ℕ) (trail : List Change) (c : Change) (m : ℕ) → m ≤ length trail →
    restored sets (drop m (trail ++ c ∷ [])) ≡ restored (slice_set sets c.edge c.old) (drop m trail)
restored-last sets trail c m le = ap (restored sets) (drop-append-le m trail (c ∷ []) le)
    ∙ restored-append sets (drop m trail) (c ∷ [])

-- ---- marks

last-append : (ms : List ℕ) (m : ℕ) → slice_index (ms ++ m ∷ []) (length (ms ++ m ∷ []) - 1) ≡ m
last-append ms m =
    let long : length (ms ++ m ∷ []) ≡ length ms + 1 = length-append ms (m ∷ []) in
    let e : length (ms ++ m ∷ []) - 1 ≡ length ms = omega arith in
    ap (λ k. get_or (ms ++ m ∷ []) k 0) e ∙ get_or-append_seam ms m [] 0

module _ (n full : ℕ) (sets : List ℕ) (trail : List Change) (marks : List ℕ) (p : IsTrail n full sets trail marks) where
  -- the last mark is the greatest
  pub mark-below_last : (j : ℕ) → j < length marks → slice_index marks j ≤ slice_index marks (length marks - 1)
  mark-below_last j l = p.ascending j (length marks - 1) (omega arith) (omega arith)

  pub last-within : slice_index marks (length marks - 1) ≤ length trail
  last-within = elim (cases_lt 0 (length marks)) [
    | inl h ↦ p.within (length marks - 1) (omega arith)
    | inr g ↦ (let e : slice_index marks (length marks - 1) ≡ 0 =
        get_or_past marks (length marks - 1) 0 (omega arith) in omega arith)
  ]

-- levels are the same where what each restores is
same-levels : (f g : ℕ → List ℕ) (marks : List ℕ) →
    ((j : ℕ) → j < length marks → f (slice_index marks j) ≡ g (slice_index marks j)) → map f marks ≡ map g marks
same-levels f g [] h = refl
same-levels f g (m ∷ ms) h = λ i. h 0 (omega arith) i ∷ same-levels f g ms (λ j l. h (suc j) (omega arith)) i

-- ---- a level begun

pub levels-push : (sets : List ℕ) (trail : List Change) (marks : List ℕ) →
    levels_below sets trail (marks ++ length trail ∷ []) ≡ levels_below sets trail marks ++ sets ∷ []
levels-push sets trail marks =
    map-append (λ m. restored sets (drop m trail)) marks (length trail ∷ [])
    ∙ ap (λ cs. levels_below sets trail marks ++ restored sets cs ∷ []) (drop-all trail)
  where
    drop-all : (xs : List Change) → drop (length xs) xs ≡ []
    drop-all [] = refl
    drop-all (x ∷ xs) = drop-all xs

pub last_changes-push : (trail : List Change) (marks : List ℕ) → last_changes trail (marks ++ length trail ∷ []) ≡ []
last_changes-push trail marks = ap (λ k. drop k trail) (last-append marks (length trail)) ∙ drop-all trail
  where
    drop-all : (xs : List Change) → drop (length xs) xs ≡ []
    drop-all [] = refl
    drop-all (x ∷ xs) = drop-all xs

pub IsTrail-push : (n full : ℕ) (sets : List ℕ) (trail : List Change) (marks : List ℕ) →
    IsTrail n full sets trail marks → IsTrail n full sets trail (marks ++ length trail ∷ [])
IsTrail-push n full sets trail marks p =
    let long : length (marks ++ length trail ∷ []) ≡ length marks + 1 = length-append marks (length trail ∷ []) in
    let old = λ (j : ℕ) (l : j < length marks). get_or_append_left marks (length trail ∷ []) 0 j l in
    let seam = get_or-append_seam marks (length trail) [] 0 in
    let within = λ (j : ℕ) (l : j < length marks + 1). elim (cases_eq j (length marks)) as
    (λ _. slice_index (marks ++ length trail ∷ []) j ≤ length trail) [
      | inl e ↦ rw e (omega (arith, seam))
      | inr ne ↦ (let le : j < length marks = omega arith in omega (arith, old j le, p.within j le))
    ] in
    record {
      bounded = p.bounded;
      top = p.top;
      changes = p.changes;
      ascending = λ i j ij l. elim (cases_eq j (length marks)) as
          (λ _. slice_index (marks ++ length trail ∷ []) i ≤ slice_index (marks ++ length trail ∷ []) j) [
            | inl e ↦ rw e (let w = within i (omega arith) in omega (arith, seam))
            | inr ne ↦
                (let jl : j < length marks = omega arith in
                let il : i < length marks = omega arith in
                omega (arith, old i il, old j jl, p.ascending i j ij jl))
          ];
      within = λ j l. within j (omega arith);
    }

-- ---- a set replaced

pub last_changes-append : (n full : ℕ) (sets : List ℕ) (trail : List Change) (marks : List ℕ) (c : Change) →
    IsTrail n full sets trail marks → last_changes (trail ++ c ∷ []) marks ≡ last_changes trail marks ++ c ∷ []
last_changes-append n full sets trail marks c p =
    drop-append-le (slice_index marks (length marks - 1)) trail (c ∷ []) (last-within n full sets trail marks p)

-- a set that is replaced, with its change at the end of the trail, leaves the levels below
pub levels-replace : (n full : ℕ) (sets : List ℕ) (trail : List Change) (marks : List ℕ) (e x : ℕ) (c : Change) →
    IsTrail n full sets trail marks → c.edge ≡ e → c.old ≡ slice_index sets e →
    levels_below (slice_set sets e x) (trail ++ c ∷ []) marks ≡ levels_below sets trail marks
levels-replace n full sets trail marks e x c p ce co = same-levels _ _ marks (λ j l.
    restored-last (slice_set sets e x) trail c (slice_index marks j) (p.within j l)
    ∙ ap (λ ws. restored ws (drop (slice_index marks j) trail)) (back-again sets e x c ce co))
  where
    back-again : (sets : List ℕ) (e x : ℕ) (c : Change) → c.edge ≡ e → c.old ≡ slice_index sets e →
        slice_set (slice_set sets e x) c.edge c.old ≡ sets
    back-again sets e x c ce co = ap (λ i. set (set sets e x) i c.old) ce ∙ ap (set (set sets e x) e) co
        ∙ set-set sets e x (get_or sets e 0) ∙ set-get_or sets e 0

pub AreSets-set : (n full : ℕ) (sets : List ℕ) (e x : ℕ) → AreSets n full sets → IsWithin x full →
    AreSets n full (slice_set sets e x)
AreSets-set n full sets e x a w = record {
  length_is = length-set sets e x ∙ a.length_is;
  within = λ d. elim (set-cases sets e x d) [
    | inl same ↦ subst (λ y. IsWithin y full) (sym same) (a.within d)
    | inr here ↦ subst (λ y. IsWithin y full) (sym here.1) w
  ];
}

pub IsTrail-replace : (n full : ℕ) (sets : List ℕ) (trail : List Change) (marks : List ℕ) (e x : ℕ) (c : Change) →
    IsTrail n full sets trail marks → IsWithin x full → IsChange n full c →
    IsTrail n full (slice_set sets e x) (trail ++ c ∷ []) marks
IsTrail-replace n full sets trail marks e x c p w h =
    let long : length (trail ++ c ∷ []) ≡ length trail + 1 = length-append trail (c ∷ []) in
    record {
      bounded = p.bounded;
      top = AreSets-set n full sets e x p.top w;
      changes = All-append (IsChange n full) trail (c ∷ []) p.changes
          (All-cons (IsChange n full) c [] h (All-nil (IsChange n full)));
      ascending = p.ascending;
      within = λ j l. omega (arith, p.within j l);
    }

-- ---- a change undone

pub IsChange-undone : (n full : ℕ) (sets : List ℕ) (trail : List Change) (marks : List ℕ) (c : Change) →
    IsTrail n full sets (trail ++ c ∷ []) marks → IsChange n full c
IsChange-undone n full sets trail marks c p = All-last (IsChange n full) trail c p.changes

module _ (n full : ℕ) (sets : List ℕ) (trail : List Change) (marks : List ℕ) (c : Change)
    (p : IsTrail n full sets (trail ++ c ∷ []) marks) (above : slice_index marks (length marks - 1) ≤ length trail)
  where
    within : (j : ℕ) → j < length marks → slice_index marks j ≤ length trail
    within j l = omega (arith, mark-below_last n full sets (trail ++ c ∷ []) marks p j l)

    pub levels-undo : levels_below (slice_set sets c.edge c.old) trail marks ≡ levels_below sets (trail ++ c ∷ []) marks
    levels-undo = same-levels _ _ marks (λ j l. sym (restored-last sets trail c (slice_index marks j) (within j l)))

    pub last_changes-undo : last_changes (trail ++ c ∷ []) marks ≡ last_changes trail marks ++ c ∷ []
    last_changes-undo = drop-append-le (slice_index marks (length marks - 1)) trail (c ∷ []) above

    pub IsTrail-undo : IsTrail n full (slice_set sets c.edge c.old) trail marks
    IsTrail-undo = record {
      bounded = p.bounded;
      top = AreSets-set n full sets c.edge c.old p.top (IsChange-undone n full sets trail marks c p).within;
      changes = All-init (IsChange n full) trail c p.changes;
      ascending = p.ascending;
      within = within;
    }

-- ---- a level ended

pub levels-pop : (sets : List ℕ) (trail : List Change) (ms : List ℕ) (m : ℕ) → last_changes trail (ms ++ m ∷ []) ≡ [] →
    levels_below sets trail (ms ++ m ∷ []) ≡ levels_below sets trail ms ++ sets ∷ []
levels-pop sets trail ms m none =
    let e : drop m trail ≡ [] = ap (λ k. drop k trail) (sym (last-append ms m)) ∙ none in
    map-append (λ k. restored sets (drop k trail)) ms (m ∷ [])
    ∙ ap (λ cs. levels_below sets trail ms ++ restored sets cs ∷ []) e

pub IsTrail-pop : (n full : ℕ) (sets : List ℕ) (trail : List Change) (ms : List ℕ) (m : ℕ) →
    IsTrail n full sets trail (ms ++ m ∷ []) → IsTrail n full sets trail ms
IsTrail-pop n full sets trail ms m p =
    let long : length (ms ++ m ∷ []) ≡ length ms + 1 = length-append ms (m ∷ []) in
    let old = λ (j : ℕ) (l : j < length ms). get_or_append_left ms (m ∷ []) 0 j l in
    record {
      bounded = p.bounded;
      top = p.top;
      changes = p.changes;
      ascending = λ i j ij l.
          let il : i < length ms = omega arith in
          omega (arith, old i il, old j l, p.ascending i j ij (omega arith));
      within = λ j l. omega (arith, old j l, p.within j (omega arith));
    }

-- ---- what the changes of the top restore

pub restored-below : (sets : List ℕ) (trail : List Change) (marks : List ℕ) (bs : List (List ℕ)) (b : List ℕ) →
    levels_below sets trail marks ≡ bs ++ b ∷ [] → b ≡ restored sets (last_changes trail marks)
restored-below sets trail marks bs b e =
    let f = λ (mark : ℕ). restored sets (drop mark trail) in
    let long : length marks ≡ length bs + 1 = sym (length-map marks f) ∙ ap length e ∙ length-append bs (b ∷ []) in
    let last : length marks - 1 ≡ length bs = omega arith in
    let at : get_or (map f marks) (length bs) (f 0) ≡ f (get_or marks (length bs) 0) =
    get_or-map f marks (length bs) 0 in
    sym (get_or-append_seam bs b [] (f 0)) ∙ ap (λ xs. get_or xs (length bs) (f 0)) (sym e) ∙ at
    ∙ ap (λ k. f (get_or marks k 0)) (sym last)

-- ---- the sets of a level

pub changes-inside : (n full : ℕ) (sets : List ℕ) (changes : List Change) → AreSets n full sets →
    All (IsChange n full) changes →
    All (λ c. c.edge < length sets) changes
changes-inside n full sets changes a h = λ k d l.
    let at = h k d l in
    omega (arith, at.edge_is, edge_at-lt n (get_or changes k d).i (get_or changes k d).j at.order at.below, a.length_is)

pub level-at : (sets : List ℕ) (trail : List Change) (marks : List ℕ) (level : ℕ) → level < length marks →
    get_or (levels_below sets trail marks) level sets ≡ restored sets (drop (slice_index marks level) trail)
level-at sets trail marks level below = map-at (λ mark. restored sets (drop mark trail)) marks level 0 sets below

pub level-past : (sets : List ℕ) (trail : List Change) (marks : List ℕ) (level : ℕ) → length marks ≤ level →
    get_or (levels_below sets trail marks) level sets ≡ sets
level-past sets trail marks level past =
    get_or_past (levels_below sets trail marks) level sets
    (omega (arith, length-map marks (λ mark. restored sets (drop mark trail)), past))

-- what stays of levels, one step after another
pub rest-levels : (a b new : LevelSets) (top : List ℕ) (changes : List Change) →
    b ≡ record a { top = b.top; changes = b.changes } → new ≡ record b { top = top; changes = changes } →
    new ≡ record a { top = new.top; changes = new.changes }
rest-levels a b new top changes p e =
    rw e (ap (λ (y : LevelSets). let z : LevelSets = record y { top = top; changes = changes } in z) p)
