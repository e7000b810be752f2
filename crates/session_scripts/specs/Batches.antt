-- Batches: the command lines between two commits, with the sessions that they are of.
use Rattle.std.specs.Prelude.{◌≡◌, ◌<◌, ◌≤◌, All, ℕ, ◌+◌, List, [], ◌∷◌, ◌++◌, length, Bool, true, false, not, ◌&&◌, ◌==◌, nat_lt, slice_index_or, Option, Some, None, if◌then◌else◌}
use Rattle.calculus_table.specs.Rel.{IsWithin}
use Rattle.calculus_table.specs.Names.{place_of}
use Rattle.qsr_lex.specs.Names.{is_name}
use Rattle.network_words.specs.Edge.{IsProperPair}
use Rattle.session_scripts.specs.Commands.{ScriptLine, Blank, Commit, Malformed, Said}
use Rattle.session_scripts.specs.declared.TheConstants.{MOST_LINES, MOST_SESSIONS}
use Rattle.session_scripts.specs.declared.commands.Command.{Command}
use Rattle.session_scripts.specs.declared.commands.Command.TheVariants as command
use Rattle.session_scripts.specs.declared.batch.What.{What}
use Rattle.session_scripts.specs.declared.batch.What.TheVariants.{Assert, Peek, Withdraw, Ask, Refused}
use Rattle.session_scripts.specs.declared.batch.Line.{Line}

-- what contracts see of a batch: the names of its sessions, and its command lines
pub record BatchState : Type 0 where
  pub sessions : List (List ℕ)
  pub lines : List Line

-- a batch without lines
abbrev pub no_lines : BatchState
no_lines = record { sessions = []; lines = [] }

-- the name of the session with this place
abbrev pub session_name : List (List ℕ) → ℕ → List ℕ
session_name sessions k = slice_index_or sessions k []

-- the line with this number, of the session with this number
abbrev pub line_at : ℕ → ℕ → What → Line
line_at at session what = record { at = at; session = session; what = what }

-- ---- what a command asks for

-- for n nodes, why a pair is refused: 15 if there is no such node, 16 if the nodes are the same
abbrev pub pair_refusal : ℕ → ℕ → ℕ → Option ℕ
pair_refusal n i j = if not (nat_lt i n && nat_lt j n) then Some 15 else (if i == j then Some 16 else None)

-- what is asked, if it isn't refused
abbrev pub unless : Option ℕ → What → What
unless None what = what
unless (Some number) what = Refused number

-- a fact: 19 if a name in its set is that of no base relation
abbrev pub assert_of : ℕ → ℕ → Option ℕ → What
assert_of i j None = Refused 19
assert_of i j (Some set) = Assert (record { i = i; j = j; rel = set })

-- what a command asks for, or the number of its refusal
abbrev pub what_of : ℕ → Command → What
what_of n (command.Assert i j set) = unless (pair_refusal n i j) (assert_of i j set)
what_of n (command.Peek i j) = unless (pair_refusal n i j) (Peek i j)
what_of n (command.Withdraw fact) = Withdraw fact
what_of n (command.Ask version i j) = unless (pair_refusal n i j) (Ask version i j)

-- ---- a batch with one more line

-- a line that is refused before its session is known
abbrev pub refusing : ℕ → ℕ → BatchState → BatchState
refusing at number batch = record batch { lines = batch.lines ++ line_at at 0 (Refused number) ∷ [] }

-- a line of a session, which is new where it has no place yet: 49 if there are as many as there may be
abbrev pub with_session : ℕ → ℕ → List ℕ → Command → Option ℕ → BatchState → BatchState
with_session n at session asked (Some place) batch = record batch { lines = batch.lines ++ line_at at place (what_of n asked) ∷ [] }
with_session n at session asked None batch =
    if nat_lt (length batch.sessions) MOST_SESSIONS
    then record {
      sessions = batch.sessions ++ session ∷ [];
      lines = batch.lines ++ line_at at (length batch.sessions) (what_of n asked) ∷ [];
    }
    else refusing at 49 batch

-- a command line: 48 if it has no form of a command
abbrev pub with_form : ℕ → ℕ → ScriptLine → BatchState → BatchState
with_form n at Blank batch = batch
with_form n at Commit batch = batch
with_form n at Malformed batch = refusing at 48 batch
with_form n at (Said session asked) batch = with_session n at session asked (place_of session batch.sessions) batch

-- the line has tokens, or can't be read
abbrev pub is_command_line : ScriptLine → Bool
is_command_line Blank = false
is_command_line Commit = false
is_command_line Malformed = true
is_command_line (Said session asked) = true

-- a line: 50 for the first command line after as many as there may be, and those after it are passed over
abbrev pub with_line : ℕ → ℕ → ScriptLine → BatchState → BatchState
with_line n at line batch =
    if not (is_command_line line) then batch
    else (if nat_lt (length batch.lines) MOST_LINES then with_form n at line batch
    else (if length batch.lines == MOST_LINES then refusing at 50 batch else batch))

-- ---- what every batch of a script keeps

-- a pair of two nodes that differ, and a set within full
abbrev pub IsAsked : ℕ → ℕ → What → Type 0
IsAsked full n (Assert fact) = IsProperPair n fact.i fact.j × IsWithin fact.rel full
IsAsked full n (Peek i j) = IsProperPair n i j
IsAsked full n (Withdraw fact) = Unit {0}
IsAsked full n (Ask version i j) = IsProperPair n i j
IsAsked full n (Refused number) = Unit {0}

-- what isn't refused is asked by one of the sessions
abbrev pub HasSession : ℕ → ℕ → What → Type 0
HasSession sessions session (Refused number) = Unit {0}
HasSession sessions session (Assert fact) = session < sessions
HasSession sessions session (Peek i j) = session < sessions
HasSession sessions session (Withdraw fact) = session < sessions
HasSession sessions session (Ask version i j) = session < sessions

pub record IsLineFor (full n sessions : ℕ) (line : Line) : Type 0 where
  pub asked : IsAsked full n line.what
  pub session : HasSession sessions line.session line.what

-- sessions with names, not too many, and lines, not too many
pub record IsBatch (batch : BatchState) : Type 0 where
  pub names : All (λ session. is_name session ≡ true) batch.sessions
  pub sessions : length batch.sessions ≤ MOST_SESSIONS
  pub lines : length batch.lines ≤ MOST_LINES + 1

-- each line asks what n nodes and the sets within full have
abbrev pub IsBatchFor : ℕ → ℕ → BatchState → Type 0
IsBatchFor full n batch = All (IsLineFor full n (length batch.sessions)) batch.lines
