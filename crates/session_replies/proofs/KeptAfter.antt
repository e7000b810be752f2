-- The versions that a store keeps after a commit, and what is answered of them.
use Rattle.std.proofs.Common.{◌≡◌, ℕ, suc, ◌+◌, ◌-◌, ◌<◌, ◌≤◌, ◌==◌, Bool, false, List, [], ◌∷◌, ◌++◌, length, get_or, drop, find, Some, None, IsSomeAnd, refl, ◌∙◌, ap, arith}
use Rattle.std.proofs.lemmas.Bool.{le-ltb, ne_eqb}
use Rattle.std.proofs.lemmas.List.{length_push, length-drop, get_or_append_left, get_or_push, get_or-drop}
use Rattle.std.proofs.lemmas.List.Elements.{All-push, All-get_or}
use Rattle.network_words.specs.Network.{Network, relation_between}
use Rattle.session_versions.specs.Drafts.{DraftState}
use Rattle.session_versions.specs.Versions.{VersionState, IsVersion}
use Rattle.session_versions.specs.Stores.{StoreState, IsStore, AreInRow, kept_versions, version_with, committing}
use Rattle.session_versions.proofs.Numbers.{AreInRow-push, AreInRow-drop, find-number}
use Rattle.session_replies.specs.declared.reply.Reply.TheVariants.{AtVersion, Refusal}
use Rattle.session_replies.specs.Replies.{ask_reply}

-- no element passes
find-none : {X : Type 0} (p : X → Bool) (xs : List X) (d : X) → ((j : ℕ) → j < length xs → p (get_or xs j d) ≡ false) → find p xs ≡ None
find-none p [] d none = refl
find-none p (x ∷ xs) d none =
    let first : p x ≡ false = none 0 (omega arith) in
    rw first (find-none p xs d (λ j l. none (suc j) (omega arith)))

-- the numbers of the versions that are kept after the commit follow one another
AreInRow-after : (s : StoreState) (draft : DraftState) (net : Network) → IsStore s → AreInRow (kept_versions (committing draft net s)) (s.newest.number + 1 + 1)
AreInRow-after s draft net k =
    let kept = kept_versions s in
    AreInRow-push (drop (length kept - 15) kept) (committing draft net s).newest
    (AreInRow-drop (length kept - 15) kept (s.newest.number + 1) (omega arith) (AreInRow-push s.older s.newest k.numbers))

-- the new version
version_with-newest : (s : StoreState) (draft : DraftState) (net : Network) (version : ℕ) → IsStore s → version ≡ s.newest.number + 1 →
    version_with (committing draft net s) version ≡ Some (committing draft net s).newest
version_with-newest s draft net version k e =
    let older = (committing draft net s).older in
    let newest = (committing draft net s).newest in
    let long : length (older ++ newest ∷ []) ≡ length older + 1 = length_push older newest in
    find-number (older ++ newest ∷ []) (s.newest.number + 1 + 1) version (length older) newest (AreInRow-after s draft net k) (omega (arith, long)) (omega (arith, long, e))
    ∙ ap Some (get_or_push older newest newest (length older) refl)

-- one that was kept before, and isn't the oldest of as many as there may be
record IsOlder (s : StoreState) (draft : DraftState) (net : Network) (version : ℕ) (v : VersionState) : Type 0 where
  before : version_with s version ≡ Some v
  after : version_with (committing draft net s) version ≡ Some v
  nodes : v.net.nodes ≡ s.nodes

version-older : (s : StoreState) (draft : DraftState) (net : Network) (version : ℕ) → IsStore s → version ≤ s.newest.number → s.newest.number < version + 15 →
    (v : VersionState) × IsOlder s draft net version v
version-older s draft net version k up low =
    let kept = kept_versions s in
    let d = s.newest in
    let new = (committing draft net s).newest in
    let long : length kept ≡ length s.older + 1 = length_push s.older s.newest in
    let count = length kept - 15 in
    let rest = drop count kept in
    let left : length rest ≡ length kept - count = length-drop count kept in
    let all : length (rest ++ new ∷ []) ≡ length rest + 1 = length_push rest new in
    let at = length s.older - (s.newest.number - version) in
    let inside : count ≤ at = omega (arith, long, k.kept, up, low) in
    let below : at < length kept = omega (arith, long) in
    let here : at - count < length rest = omega (arith, long, left, inside, below) in
    let same : get_or (rest ++ new ∷ []) (at - count) d ≡ get_or kept at d =
    get_or_append_left rest (new ∷ []) d (at - count) here ∙ get_or-drop count kept (at - count) d ∙ ap (λ i. get_or kept i d) (omega (arith, inside)) in (
      get_or kept at d,
      record {
        before = find-number kept (s.newest.number + 1) version at d (AreInRow-push s.older s.newest k.numbers) below (omega (arith, long, k.kept, up, low));
        after =
            find-number (rest ++ new ∷ []) (s.newest.number + 1 + 1) version (at - count) d (AreInRow-after s draft net k) (omega (arith, all, here))
            (omega (arith, all, left, long, inside, k.kept, up, low))
            ∙ ap Some same;
        nodes = (All-get_or (IsVersion s.calculus s.nodes) kept at d below (All-push (IsVersion s.calculus s.nodes) s.older s.newest k.older k.newest)).nodes;
      },
    )

-- one that isn't kept
version_with-gone : (s : StoreState) (draft : DraftState) (net : Network) (version : ℕ) → IsStore s → version + 15 ≤ s.newest.number → version_with (committing draft net s) version ≡ None
version_with-gone s draft net version k gone =
    let kept = kept_versions s in
    let older = (committing draft net s).older in
    let newest = (committing draft net s).newest in
    let left : length older ≡ length kept - (length kept - 15) = length-drop (length kept - 15) kept in
    let all : length (older ++ newest ∷ []) ≡ length older + 1 = length_push older newest in
    let row : AreInRow (older ++ newest ∷ []) (s.newest.number + 1 + 1) = AreInRow-after s draft net k in
    find-none (λ v. v.number == version) (older ++ newest ∷ []) newest
    (λ j l. let at = row.each j newest l in ne_eqb (get_or (older ++ newest ∷ []) j newest).number version (λ e. omega (arith, at, e, left, all, gone)))

-- ---- what is answered

pub ask_reply-newest : (s : StoreState) (draft : DraftState) (net : Network) (version i j : ℕ) → IsStore s → net.nodes ≡ s.nodes → version ≡ s.newest.number + 1 →
    AtVersion version (relation_between s.calculus s.nodes net.words i j) ≡ ask_reply s.calculus (committing draft net s) version i j
ask_reply-newest s draft net version i j k nodes e =
    rw (le-ltb (s.newest.number + 1) version (omega (arith, e)), version_with-newest s draft net version k e, nodes) refl

pub ask_reply-gone : (s : StoreState) (draft : DraftState) (net : Network) (version i j : ℕ) → IsStore s → version + 15 ≤ s.newest.number →
    Refusal 46 ≡ ask_reply s.calculus (committing draft net s) version i j
ask_reply-gone s draft net version i j k gone = rw (le-ltb (s.newest.number + 1) version (omega (arith, gone)), version_with-gone s draft net version k gone) refl

pub ask_reply-older : (s : StoreState) (draft : DraftState) (net : Network) (version i j set : ℕ) → IsStore s → version ≤ s.newest.number → s.newest.number < version + 15 →
    IsSomeAnd (version_with s version) (λ v. set ≡ relation_between s.calculus s.nodes v.net.words i j) → AtVersion version set ≡ ask_reply s.calculus (committing draft net s) version i j
ask_reply-older s draft net version i j set k up low found =
    let older = version-older s draft net version k up low in
    let here : set ≡ relation_between s.calculus s.nodes older.0.net.words i j = rw older.1.before at found in
    rw (le-ltb (s.newest.number + 1) version (omega (arith, up)), older.1.after, older.1.nodes, here) refl
