-- The forms of the lines of a script.
use Rattle.std.specs.Prelude.{◌≡◌, ℕ, ◌-◌, List, [], ◌∷◌, length, Bool, true, ◌==◌, nat_lt, codes, bytes_eq, Option, Some, None, IfSome, slice_index, if◌then◌else◌}
use Rattle.calculus_table.specs.Rel.{IsWithin}
use Rattle.qsr_lex.specs.Names.{is_name}
use Rattle.qsr_lex.specs.TextLines.{outside, is_clean}
use Rattle.qsr_lex.specs.Lexemes.{Lexeme, lexemes}
use Rattle.qsr_lex.specs.Numbers.{number_of}
use Rattle.qsr_lex.specs.LineTokens.{word_at, name_at, after_word, ends_there, ◌>>=◌, at_end}
use Rattle.named_sets.specs.Named.{set_at}
use Rattle.session_scripts.specs.declared.TheConstants.{LONGEST_LINE}
use Rattle.session_scripts.specs.declared.commands.Command.{Command}
use Rattle.session_scripts.specs.declared.commands.Command.TheVariants.{Assert, Peek, Withdraw, Ask}

-- a number at the front, and what stands after it
abbrev pub number_at : List Lexeme → Option (ℕ × List Lexeme)
number_at tokens = do
  word ← word_at tokens
  number ← number_of word.0
  Some (number, word.1)

-- `I J ( R .. )`; the set is none inside where a name in it is that of no base relation
abbrev pub assert_form : List (List ℕ) → List Lexeme → Option Command
assert_form bases tokens = do
  i ← number_at tokens
  j ← number_at i.1
  set ← set_at bases j.1
  at_end (Assert i.0 j.0 set.0) set.1

-- `I J`
abbrev pub peek_form : List Lexeme → Option Command
peek_form tokens = do
  i ← number_at tokens
  j ← number_at i.1
  at_end (Peek i.0 j.0) j.1

-- `K`
abbrev pub withdraw_form : List Lexeme → Option Command
withdraw_form tokens = do
  fact ← number_at tokens
  at_end (Withdraw fact.0) fact.1

-- what stands after two numbers: nothing, and they are nodes, or a third number, and the first one is a version
abbrev pub ask_from : ℕ → ℕ → List Lexeme → Option Command
ask_from first second [] = Some (Ask None first second)
ask_from first second (x ∷ xs) = do
  third ← number_at (x ∷ xs)
  at_end (Ask (Some first) second third.0) third.1

-- `I J` or `V I J`
abbrev pub ask_form : List Lexeme → Option Command
ask_form tokens = do
  first ← number_at tokens
  second ← number_at first.1
  ask_from first.0 second.0 second.1

-- what stands after the name of a session
abbrev pub command_of : List (List ℕ) → List ℕ → List Lexeme → Option Command
command_of bases word after =
    if bytes_eq word (codes "assert") then assert_form bases after
    else (if bytes_eq word (codes "peek") then peek_form after
    else (if bytes_eq word (codes "withdraw") then withdraw_form after
    else (if bytes_eq word (codes "ask") then ask_form after else None)))

-- `S assert I J ( R .. )`, `S peek I J`, `S withdraw K`, `S ask I J` or `S ask V I J`: the session and what it asks for
abbrev pub command_form : List (List ℕ) → List Lexeme → Option (List ℕ × Command)
command_form bases tokens = do
  session ← name_at tokens
  word ← word_at session.1
  command ← command_of bases word.0 word.1
  Some (session.0, command)

-- how many bytes a line has without its end: an LF, and a CR before it
abbrev pub body_len : List ℕ → ℕ
body_len line =
    if slice_index line (length line - 1) == 10
    then (if slice_index line (length line - 2) == 13 then length line - 2 else length line - 1)
    else length line

-- what a line of a script is: it has no tokens, it is `commit` alone, it is a command, or it is none of these
pub data ScriptLine : Type 0 where
  Blank : ScriptLine
  Commit : ScriptLine
  Malformed : ScriptLine
  Said : (session : List ℕ) (command : Command) → ScriptLine

-- `commit` alone
abbrev pub is_commit_form : List Lexeme → Bool
is_commit_form tokens = ends_there (after_word (codes "commit") tokens)

-- a line with a command, if there is one
abbrev pub said : Option (List ℕ × Command) → ScriptLine
said None = Malformed
said (Some found) = Said found.0 found.1

-- a line of tokens, which may be commands only where it isn't too long
abbrev pub line_of_tokens : List (List ℕ) → Bool → List Lexeme → ScriptLine
line_of_tokens bases long [] = Blank
line_of_tokens bases long (x ∷ xs) =
    if is_commit_form (x ∷ xs) then Commit
    else (if long then Malformed else said (command_form bases (x ∷ xs)))

-- a line, where the base relations have these names
abbrev pub script_line : List (List ℕ) → List ℕ → ScriptLine
script_line bases line =
    if is_clean line then line_of_tokens bases (nat_lt LONGEST_LINE (body_len line)) (lexemes (outside line)) else Malformed

-- the session of a command, if there is one, has a name
abbrev pub HasName : ScriptLine → Type 0
HasName (Said session command) = is_name session ≡ true
HasName _ = Unit {0}

-- a set in a command is within full
abbrev pub HasCommandSet : ℕ → Command → Type 0
HasCommandSet full (Assert i j set) = IfSome set (λ a. IsWithin a full)
HasCommandSet full _ = Unit {0}

abbrev pub HasSet : ℕ → ScriptLine → Type 0
HasSet full (Said session command) = HasCommandSet full command
HasSet full _ = Unit {0}
