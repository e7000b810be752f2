-- Replies: what a batch does to the facts of a store, and the lines that answer it.
use Rattle.std.specs.Prelude.{◌≡◌, ℕ, ◌+◌, List, [], ◌∷◌, ◌++◌, length, map, filter, nat_lt, ◌==◌, Option, None, Some, MatchBool, if◌then◌else◌, codes}
use Rattle.std.specs.Fmt.{decimal}
use Rattle.std.specs.List.{list_any, zip}
use Rattle.calculus_table.specs.Rel.{IsWithin}
use Rattle.calculus_table.specs.Algebra.{Algebra}
use Rattle.calculus_table.specs.Calculus.{NamedAlgebra}
use Rattle.network_words.specs.declared.fact.Fact.{Fact}
use Rattle.network_words.specs.Network.{relation_between, narrowed_at}
use Rattle.network_words.specs.Facts.{IsNetworkOfFacts}
use Rattle.named_sets.specs.Written.{set_text}
use Rattle.session_versions.specs.HeldFacts.{facts_of, held_with}
use Rattle.session_versions.specs.Drafts.{DraftState, withdraw_fault, withdrawing, adding}
use Rattle.session_versions.specs.Versions.{VersionState, IsVersion}
use Rattle.session_versions.specs.Stores.{StoreState, version_with, committing}
use Rattle.session_versions.specs.declared.draft.WithdrawFault.{WithdrawFault}
use Rattle.session_versions.specs.declared.draft.WithdrawFault.TheVariants.{NoFact, NotYours}
use Rattle.session_scripts.specs.declared.batch.What.{What}
use Rattle.session_scripts.specs.declared.batch.What.TheVariants.{Assert, Peek, Withdraw, Ask, Refused}
use Rattle.session_scripts.specs.declared.batch.Line.{Line}
use Rattle.session_scripts.specs.Batches.{BatchState, session_name}
use Rattle.session_replies.specs.declared.reply.Reply.{Reply}
use Rattle.session_replies.specs.declared.reply.Reply.TheVariants.{NewFact, Shown, Withdrawn, AtVersion, Refusal}

-- ---- the facts of the version that a batch makes

-- a fact goes if its session withdraws it
abbrev pub withdrawn_if : Option WithdrawFault → ℕ → DraftState → DraftState
withdrawn_if None fact draft = withdrawing fact draft
withdrawn_if (Some fault) fact draft = draft

-- the draft after the withdrawal of a line, if it has one
abbrev pub withdrawn_by : List ℕ → What → DraftState → DraftState
withdrawn_by session (Withdraw fact) draft = withdrawn_if (withdraw_fault session (held_with fact draft.facts)) fact draft
withdrawn_by session (Assert fact) draft = draft
withdrawn_by session (Peek i j) draft = draft
withdrawn_by session (Ask version i j) draft = draft
withdrawn_by session (Refused number) draft = draft

-- the draft after the fact of a line, if it has one
abbrev pub stated_by : List ℕ → What → DraftState → DraftState
stated_by session (Assert fact) draft = adding session fact draft
stated_by session (Peek i j) draft = draft
stated_by session (Withdraw fact) draft = draft
stated_by session (Ask version i j) draft = draft
stated_by session (Refused number) draft = draft

-- the draft after the withdrawals of lines, and after their facts, in their order
abbrev pub after_withdrawals : List (List ℕ) → List Line → DraftState → DraftState
after_withdrawals sessions [] draft = draft
after_withdrawals sessions (l ∷ ls) draft =
    after_withdrawals sessions ls (withdrawn_by (session_name sessions l.session) l.what draft)

abbrev pub after_facts : List (List ℕ) → List Line → DraftState → DraftState
after_facts sessions [] draft = draft
after_facts sessions (l ∷ ls) draft = after_facts sessions ls (stated_by (session_name sessions l.session) l.what draft)

-- the fault of the withdrawal of a line, if it has one that is refused
abbrev pub withdrawal_fault : List ℕ → What → DraftState → Option WithdrawFault
withdrawal_fault session (Withdraw fact) draft = withdraw_fault session (held_with fact draft.facts)
withdrawal_fault session (Assert fact) draft = None
withdrawal_fault session (Peek i j) draft = None
withdrawal_fault session (Ask version i j) draft = None
withdrawal_fault session (Refused number) draft = None

-- those of lines, each withdrawal tried after the ones before it
abbrev pub withdrawal_faults : List (List ℕ) → List Line → DraftState → List (Option WithdrawFault)
withdrawal_faults sessions [] draft = []
withdrawal_faults sessions (l ∷ ls) draft =
    withdrawal_fault (session_name sessions l.session) l.what draft
    ∷ withdrawal_faults sessions ls (withdrawn_by (session_name sessions l.session) l.what draft)

-- the fact of a line, if it has one
abbrev pub facts_of_line : What → List Fact
facts_of_line (Assert fact) = fact ∷ []
facts_of_line (Peek i j) = []
facts_of_line (Withdraw fact) = []
facts_of_line (Ask version i j) = []
facts_of_line (Refused number) = []

-- the facts that lines state, in their order
abbrev pub facts_of_lines : List Line → List Fact
facts_of_lines [] = []
facts_of_lines (l ∷ ls) = facts_of_line l.what ++ facts_of_lines ls

-- the draft of a store's newest version
abbrev pub draft_of : StoreState → DraftState
draft_of store = record { facts = store.newest.facts; next = store.next_fact }

-- the facts that stay, and those of the version that the batch makes: first the ones that stay, then the new ones
abbrev pub staying : BatchState → StoreState → DraftState
staying batch store = after_withdrawals batch.sessions batch.lines (draft_of store)

abbrev pub drafted : BatchState → StoreState → DraftState
drafted batch store = after_facts batch.sessions batch.lines (staying batch store)

-- ---- what the sessions of a batch see

-- the words that the sessions begin with: those of the newest version where every fact stays, else the network of the facts that stay
abbrev pub IsOpening : StoreState → BatchState → List ℕ → Type 0
IsOpening store batch words =
    MatchBool (nat_lt (length (staying batch store).facts) (length store.newest.facts))
    (IsNetworkOfFacts store.calculus store.nodes (facts_of (staying batch store).facts) words) (words ≡ store.newest.net.words)

-- a peek shows a set within what its session was told, which has the relation of the finished version
abbrev pub IsShown : Algebra → ℕ → List ℕ → List ℕ → What → ℕ → Type 0
IsShown m n closed told (Peek i j) set =
    IsWithin (relation_between m n closed i j) set × IsWithin set (relation_between m n told i j)
IsShown m n closed told (Assert fact) set = Unit {0}
IsShown m n closed told (Withdraw fact) set = Unit {0}
IsShown m n closed told (Ask version i j) set = Unit {0}
IsShown m n closed told (Refused number) set = Unit {0}

-- what a session was told after a line: the words that it began with, narrowed by each fact that it stated and each set that it saw
abbrev pub told_after : Algebra → ℕ → List ℕ → What → ℕ → List ℕ
told_after m n told (Assert fact) set = narrowed_at m n told fact.i fact.j fact.rel
told_after m n told (Peek i j) set = narrowed_at m n told i j set
told_after m n told (Withdraw fact) set = told
told_after m n told (Ask version i j) set = told
told_after m n told (Refused number) set = told

-- the lines of one session, each with the set that it shows, which says nothing where it is no peek
abbrev pub AreShown : Algebra → ℕ → List ℕ → List ℕ → List (What × ℕ) → Type 0
AreShown m n closed told [] = Unit {0}
AreShown m n closed told (p ∷ ps) = IsShown m n closed told p.0 p.1 × AreShown m n closed (told_after m n told p.0 p.1) ps

-- the lines of the session with this place, each with the set that it shows
abbrev pub said_by : ℕ → List (Line × ℕ) → List (What × ℕ)
said_by session lines = map (λ p. (p.0.what, p.1)) (filter (λ p. p.0.session == session) lines)

-- what the peeks of each session show
abbrev pub ArePeeks : Algebra → ℕ → List ℕ → List ℕ → List (Line × ℕ) → Type 0
ArePeeks m n closed opening lines = (session : ℕ) → AreShown m n closed opening (said_by session lines)

-- ---- the replies

-- a withdrawal: 44 where no fact has the number, 45 where it is another session's
abbrev pub withdrawal_reply : ℕ → Option WithdrawFault → Reply
withdrawal_reply fact None = Withdrawn fact
withdrawal_reply fact (Some NoFact) = Refusal 44
withdrawal_reply fact (Some NotYours) = Refusal 45

-- the relation at a version: 46 where the version isn't kept
abbrev pub kept_reply : Algebra → ℕ → ℕ → ℕ → Option VersionState → Reply
kept_reply m version i j None = Refusal 46
kept_reply m version i j (Some v) = AtVersion version (relation_between m v.net.nodes v.net.words i j)

-- the same: 47 where the version is newer than the one that the batch makes
abbrev pub ask_reply : Algebra → StoreState → ℕ → ℕ → ℕ → Reply
ask_reply m after version i j =
    if nat_lt after.newest.number version then Refusal 47 else kept_reply m version i j (version_with after version)

-- the version that an ask names, or the one that the batch makes
abbrev pub asked_version : StoreState → Option ℕ → ℕ
asked_version after None = after.newest.number
asked_version after (Some version) = version

-- the reply to a line of this session: `draft` has the facts that may be withdrawn, `next` is the number of the next new fact
abbrev pub reply_to : Algebra → StoreState → DraftState → ℕ → List ℕ → What → ℕ → Reply
reply_to m after draft next session (Assert fact) set = NewFact next
reply_to m after draft next session (Peek i j) set = Shown set
reply_to m after draft next session (Withdraw fact) set = withdrawal_reply fact (withdraw_fault session (held_with fact draft.facts))
reply_to m after draft next session (Ask version i j) set = ask_reply m after (asked_version after version) i j
reply_to m after draft next session (Refused number) set = Refusal number

-- `S WORD ..`
abbrev pub session_line : List ℕ → List ℕ → List ℕ → List ℕ
session_line session word value = session ++ codes " " ++ word ++ codes " " ++ value ++ codes "\n"

-- `S fact K`, `S peek ( R .. )`, `S withdrawn K`, `S ask V ( R .. )` or `line L refused N`
abbrev pub reply_line : NamedAlgebra → List ℕ → ℕ → Reply → List ℕ
reply_line c session at (NewFact number) = session_line session (codes "fact") (decimal number)
reply_line c session at (Shown set) = session_line session (codes "peek") (set_text c set)
reply_line c session at (Withdrawn fact) = session_line session (codes "withdrawn") (decimal fact)
reply_line c session at (AtVersion version set) =
    session_line session (codes "ask") (decimal version ++ codes " " ++ set_text c set)
reply_line c session at (Refusal number) = codes "line " ++ decimal at ++ codes " refused " ++ decimal number ++ codes "\n"

-- the number of the next new fact after a line
abbrev pub next_after : ℕ → What → ℕ
next_after next (Assert fact) = next + 1
next_after next (Peek i j) = next
next_after next (Withdraw fact) = next
next_after next (Ask version i j) = next
next_after next (Refused number) = next

-- the line of a version: whether a set of its closure is empty
abbrev pub version_line : VersionState → List ℕ
version_line version =
    codes "version " ++ decimal version.number ++ codes " "
    ++ (if list_any (λ word. word == 0) version.net.words then codes "empty\n" else codes "closed\n")

-- the replies to lines, each with the set that it shows, and then the line of the version
abbrev pub replies : NamedAlgebra → List (List ℕ) → StoreState → DraftState → ℕ → List (Line × ℕ) → List ℕ
replies c sessions after draft next [] = version_line after.newest
replies c sessions after draft next (p ∷ ps) =
    reply_line c (session_name sessions p.0.session) p.0.at
    (reply_to c.algebra after draft next (session_name sessions p.0.session) p.0.what p.1)
    ++ replies c sessions after (withdrawn_by (session_name sessions p.0.session) p.0.what draft) (next_after next p.0.what) ps

-- ---- a batch, whole

-- the batch makes one version of the store, whose network is the closure of the facts that stand, and is answered by this text
pub record IsAnswered (c : NamedAlgebra) (store : StoreState) (batch : BatchState) (text : List ℕ) (after : StoreState) : Type 0 where
  pub facts : after.newest.facts ≡ (drafted batch store).facts
  pub commits : after ≡ committing (drafted batch store) after.newest.net store
  pub version : IsVersion store.calculus store.nodes after.newest
  pub opening : List ℕ
  pub is_opening : IsOpening store batch opening
  pub shown : List ℕ
  pub each_line : length shown ≡ length batch.lines
  pub peeks : ArePeeks store.calculus store.nodes after.newest.net.words opening (zip batch.lines shown)
  pub text_is : text ≡ replies c batch.sessions after (draft_of store) store.next_fact (zip batch.lines shown)

-- the texts of batches, one after another, each over the store that the one before left
pub record AnswersFirst (c : NamedAlgebra) (store : StoreState) (batch : BatchState) (Rest : StoreState → List ℕ → Type 0) (text : List ℕ) : Type 0 where
  pub next : StoreState
  pub first : List ℕ
  pub answered : IsAnswered c store batch first next
  pub others : List ℕ
  pub rest : Rest next others
  pub text_is : text ≡ first ++ others

abbrev pub AreAnswered : NamedAlgebra → StoreState → List BatchState → List ℕ → StoreState → Type 0
AreAnswered c store [] text after = (text ≡ []) × (after ≡ store)
AreAnswered c store (b ∷ bs) text after = AnswersFirst c store b (λ next others. AreAnswered c next bs others after) text
