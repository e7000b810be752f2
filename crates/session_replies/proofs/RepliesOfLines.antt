-- The replies to lines, one after another.
use Rattle.std.proofs.Common.{◌≡◌, ℕ, zero, suc, ◌+◌, ◌<◌, ◌≤◌, List, [], ◌∷◌, ◌++◌, length, get_or, take, drop, Option, refl, sym, ◌∙◌, ap, arith, append_assoc}
use Rattle.std.specs.List.{zip}
use Rattle.std.proofs.lemmas.List.{at_drop_more, at_drop_all, take_more}
use Rattle.calculus_table.specs.Calculus.{NamedAlgebra}
use Rattle.session_versions.specs.Drafts.{DraftState}
use Rattle.session_versions.specs.Stores.{StoreState}
use Rattle.session_versions.specs.declared.draft.WithdrawFault.{WithdrawFault}
use Rattle.session_scripts.specs.declared.batch.Line.{Line}
use Rattle.session_scripts.specs.Batches.{session_name}
use Rattle.session_replies.specs.Replies.{withdrawn_by, withdrawal_fault, withdrawal_faults, after_withdrawals, reply_to, reply_line, next_after, version_line, replies}

-- ---- withdrawals

pub length-withdrawal_faults : (sessions : List (List ℕ)) (lines : List Line) (draft : DraftState) → length (withdrawal_faults sessions lines draft) ≡ length lines
length-withdrawal_faults sessions [] draft = refl
length-withdrawal_faults sessions (l ∷ ls) draft = omega (arith, length-withdrawal_faults sessions ls (withdrawn_by (session_name sessions l.session) l.what draft))

after_withdrawals-append : (sessions : List (List ℕ)) (xs ys : List Line) (draft : DraftState) →
    after_withdrawals sessions (xs ++ ys) draft ≡ after_withdrawals sessions ys (after_withdrawals sessions xs draft)
after_withdrawals-append sessions [] ys draft = refl
after_withdrawals-append sessions (l ∷ ls) ys draft = after_withdrawals-append sessions ls ys (withdrawn_by (session_name sessions l.session) l.what draft)

-- the draft after one line more
after_withdrawals-more : (sessions : List (List ℕ)) (lines : List Line) (k : ℕ) (line : Line) (draft : DraftState) → k < length lines → line ≡ get_or lines k line →
    after_withdrawals sessions (take (k + 1) lines) draft ≡ withdrawn_by (session_name sessions line.session) line.what (after_withdrawals sessions (take k lines) draft)
after_withdrawals-more sessions lines k line draft l e =
    ap (λ ls. after_withdrawals sessions ls draft) (take_more lines k line l ∙ ap (λ x. take k lines ++ x ∷ []) (sym e))
    ∙ after_withdrawals-append sessions (take k lines) (line ∷ []) draft

get_or-withdrawal_faults : (sessions : List (List ℕ)) (lines : List Line) (k : ℕ) (line : Line) (fault : Option WithdrawFault) (draft : DraftState) → k < length lines →
    get_or (withdrawal_faults sessions lines draft) k fault
    ≡ withdrawal_fault (session_name sessions (get_or lines k line).session) (get_or lines k line).what (after_withdrawals sessions (take k lines) draft)
get_or-withdrawal_faults sessions [] k line fault draft l = absurd (omega arith)
get_or-withdrawal_faults sessions (x ∷ xs) zero line fault draft l = refl
get_or-withdrawal_faults sessions (x ∷ xs) (suc k) line fault draft l =
    get_or-withdrawal_faults sessions xs k line fault (withdrawn_by (session_name sessions x.session) x.what draft) (omega arith)

-- the fault of a line, at its turn
pub fault-at : (sessions : List (List ℕ)) (lines : List Line) (faults : List (Option WithdrawFault)) (k : ℕ) (line : Line) (d : Option WithdrawFault) (draft : DraftState) →
    k < length lines → line ≡ get_or lines k line → faults ≡ withdrawal_faults sessions lines draft →
    get_or faults k d ≡ withdrawal_fault (session_name sessions line.session) line.what (after_withdrawals sessions (take k lines) draft)
fault-at sessions lines faults k line d draft l e f =
    ap (λ fs. get_or fs k d) f ∙ get_or-withdrawal_faults sessions lines k line d draft l
    ∙ ap (λ (x : Line). withdrawal_fault (session_name sessions x.session) x.what (after_withdrawals sessions (take k lines) draft)) (sym e)

-- ---- replies

-- the reply to one line, and those to the lines after it
replies-more : (c : NamedAlgebra) (sessions : List (List ℕ)) (after : StoreState) (lines : List Line) (shown : List ℕ) (draft : DraftState) (next k : ℕ) (line : Line) (set : ℕ) →
    k < length lines → k < length shown → line ≡ get_or lines k line → set ≡ get_or shown k set →
    replies c sessions after (after_withdrawals sessions (take k lines) draft) next (zip (drop k lines) (drop k shown))
    ≡ reply_line c (session_name sessions line.session) line.at
    (reply_to c.algebra after (after_withdrawals sessions (take k lines) draft) next (session_name sessions line.session) line.what set)
    ++ replies c sessions after (after_withdrawals sessions (take (k + 1) lines) draft) (next_after next line.what) (zip (drop (k + 1) lines) (drop (k + 1) shown))
replies-more c sessions after lines shown draft next k line set l l' e e' =
    let now = after_withdrawals sessions (take k lines) draft in
    let name = session_name sessions line.session in
    let all = λ (xs : List Line) (ys : List ℕ). replies c sessions after now next (zip xs ys) in
    at_drop_more (λ xs. all xs (drop k shown)) lines k line l
    ∙ at_drop_more (λ ys. all (get_or lines k line ∷ drop (k + 1) lines) ys) shown k set l'
    ∙ ap (λ x. all (x ∷ drop (k + 1) lines) (get_or shown k set ∷ drop (k + 1) shown)) (sym e)
    ∙ ap (λ y. all (line ∷ drop (k + 1) lines) (y ∷ drop (k + 1) shown)) (sym e')
    ∙ ap (λ d. reply_line c name line.at (reply_to c.algebra after now next name line.what set) ++ replies c sessions after d (next_after next line.what) (zip (drop (k + 1) lines) (drop (k + 1) shown)))
    (sym (after_withdrawals-more sessions lines k line draft l e))

-- the reply to one line was appended
pub replies-appended : (c : NamedAlgebra) (sessions : List (List ℕ)) (after : StoreState) (lines : List Line) (shown : List ℕ) (draft : DraftState) (next next' k : ℕ) (line : Line) (set : ℕ) (old new whole : List ℕ) →
    k < length lines → k < length shown → line ≡ get_or lines k line → set ≡ get_or shown k set → next' ≡ next_after next line.what →
    new
    ≡ old
    ++ reply_line c (session_name sessions line.session) line.at
    (reply_to c.algebra after (after_withdrawals sessions (take k lines) draft) next (session_name sessions line.session) line.what set) →
    old ++ replies c sessions after (after_withdrawals sessions (take k lines) draft) next (zip (drop k lines) (drop k shown)) ≡ whole →
    new ++ replies c sessions after (after_withdrawals sessions (take (k + 1) lines) draft) next' (zip (drop (k + 1) lines) (drop (k + 1) shown)) ≡ whole
replies-appended c sessions after lines shown draft next next' k line set old new whole l l' e e' n written before =
    let name = session_name sessions line.session in
    let one = reply_line c name line.at (reply_to c.algebra after (after_withdrawals sessions (take k lines) draft) next name line.what set) in
    let rest = λ (n : ℕ). replies c sessions after (after_withdrawals sessions (take (k + 1) lines) draft) n (zip (drop (k + 1) lines) (drop (k + 1) shown)) in
    ap (λ x. x ++ rest next') written ∙ append_assoc old one (rest next') ∙ ap (λ n. old ++ (one ++ rest n)) n
    ∙ ap (λ x. old ++ x) (sym (replies-more c sessions after lines shown draft next k line set l l' e e'))
    ∙ before

-- after the last line the line of the version was appended
pub replies-ended : (c : NamedAlgebra) (sessions : List (List ℕ)) (after : StoreState) (lines : List Line) (shown : List ℕ) (draft : DraftState) (next k : ℕ) (old new whole : List ℕ) →
    length lines ≤ k → new ≡ old ++ version_line after.newest → old ++ replies c sessions after draft next (zip (drop k lines) (drop k shown)) ≡ whole → new ≡ whole
replies-ended c sessions after lines shown draft next k old new whole l written before =
    written ∙ ap (λ x. old ++ x) (sym (at_drop_all (λ xs. replies c sessions after draft next (zip xs (drop k shown))) lines k l)) ∙ before
