-- Table files: the names line, the identity line, then in any order a line for each converse and for each pair, and the end line.
-- The first faulty line decides; where none is faulty, what is missing; and last the four laws.
use Rattle.std.specs.Prelude.{◌≡◌, ℕ, ◌+◌, ◌*◌, List, [], ◌∷◌, length, replicate, Bool, true, false, Option, Some, None, Result, Ok, Err, if◌then◌else◌}
use Rattle.qsr_lex.specs.Lexemes.{Lexeme}
use Rattle.qsr_lex.specs.TokenLines.{TokenLine}
use Rattle.qsr_lex.specs.LineTokens.{is_end_line}
use Rattle.calculus_table.specs.Calculus.{NamedAlgebra}
use Rattle.calculus_table.specs.TableFault.{IsFaultOf}
use Rattle.std.specs.Option.{ok_or}
use Rattle.line_files.specs.FileText.{FileText, file_text, extra_line}
use Rattle.line_files.specs.Steps.{◌>>=◌, FailsExcept}
use Rattle.line_files.specs.declared.lines.TextEnd.{TextEnd}
use Rattle.line_files.specs.declared.lines.TextEnd.TheVariants.{Whole, BadLine}
use Rattle.calculus_load.specs.Given.{Given, give_converse, give_entry, complete}
use Rattle.calculus_table.specs.Names.{place_of}
use Rattle.calculus_load.specs.Names.{allowed_names}
use Rattle.calculus_load.specs.Statements.{names_line, identity_line, statement_line}
use Rattle.calculus_load.specs.declared.statement.Statement.{Statement}
use Rattle.calculus_load.specs.declared.statement.Statement.TheVariants.{Converse, Entry}
use Rattle.calculus_load.specs.declared.fault.LoadFault.{LoadFault}
use Rattle.calculus_load.specs.declared.fault.LoadFault.TheVariants.{Syntax, Unknown, Table, Memory}
use Rattle.calculus_table.specs.declared.calculus.TableFault.{TableFault}
use Rattle.calculus_table.specs.declared.calculus.TableFault.TheVariants as faults

-- a fault other than out of memory is this step's
abbrev pub FailsWith : {A : Type 0} → Result A LoadFault → LoadFault → Type 0
FailsWith step fault = FailsExcept Memory step fault

-- the fault where the lines that can be read end before the end line
abbrev pub end_fault : TextEnd → LoadFault
end_fault (BadLine line) = Syntax line
end_fault (Whole lines) = Syntax (lines + 1)

-- what a line of this form says; another form is a fault
abbrev pub or_syntax : {A : Type 0} → ℕ → Option A → Result A LoadFault
or_syntax line said = ok_or said (Syntax line)

-- the base relation that a name stands for; another name is a fault
abbrev pub or_unknown : ℕ → Option ℕ → Result ℕ LoadFault
or_unknown line base = ok_or base (Unknown line)

-- what is given with a line, where each of its names is known
abbrev pub with_statement : ℕ → Statement → Given → Result Given LoadFault
with_statement line (Converse a b) g = or_unknown line a >>= λ a. or_unknown line b >>= λ b. give_converse line a b g
with_statement line (Entry a b set) g = or_unknown line a >>= λ a. or_unknown line b >>= λ b. or_unknown line set >>= λ set. give_entry line a b set g

abbrev pub statement_of_line : ℕ → List Lexeme → Given → Result Given LoadFault
statement_of_line line tokens g = or_syntax line (statement_line g.names tokens) >>= λ s. with_statement line s g

-- what was given, if no line stands after the end line
abbrev pub given_before : Option ℕ → Given → Result Given LoadFault
given_before None g = Ok g
given_before (Some line) g = Err (Syntax line)

abbrev pub given_at_end : TextEnd → List TokenLine → Given → Result Given LoadFault
given_at_end end lines g = given_before (extra_line lines end) g

-- what the lines after the identity line give, up to the end line
abbrev pub statements : TextEnd → List TokenLine → Given → Result Given LoadFault
statements end [] g = Err (end_fault end)
statements end (l ∷ ls) g = if is_end_line l.tokens then given_at_end end ls g else (statement_of_line l.number l.tokens g >>= λ h. statements end ls h)

-- nothing given but the names and the identity
abbrev pub nothing_given : List (List ℕ) → ℕ → Given
nothing_given names id =
    record { names = names; identity = id; converses = replicate (length names) None; entries = replicate (length names * length names) None }

-- the names of the names line
abbrev pub names_of_line : ℕ → List Lexeme → Result (List (List ℕ)) LoadFault
names_of_line line tokens = or_syntax line (names_line tokens) >>= allowed_names line

-- the base relation of the identity line
abbrev pub identity_of_line : List (List ℕ) → ℕ → List Lexeme → Result ℕ LoadFault
identity_of_line names line tokens = or_syntax line (identity_line tokens) >>= λ name. or_unknown line (place_of name names)

-- the identity line, and the lines after it
abbrev pub from_identity : TextEnd → List TokenLine → List (List ℕ) → Result Given LoadFault
from_identity end [] names = Err (end_fault end)
from_identity end (l ∷ ls) names =
    identity_of_line names l.number l.tokens >>= λ id. statements end ls (nothing_given names id)

-- the names line, and the lines after it
abbrev pub from_names : TextEnd → List TokenLine → Result Given LoadFault
from_names end [] = Err (end_fault end)
from_names end (l ∷ ls) = names_of_line l.number l.tokens >>= from_identity end ls

-- what the lines of a text give
abbrev pub given_by : FileText → Result Given LoadFault
given_by text = from_names text.end text.lines

-- the table of a text, before its laws are tested
abbrev pub table_of : List ℕ → Result NamedAlgebra LoadFault
table_of bytes = given_by (file_text bytes) >>= complete

-- a line was taken: it is the end line, or what it says was given
abbrev pub IsLineTaken : ℕ → List Lexeme → Given → Given → Bool → Type 0
IsLineTaken line tokens g h true = (is_end_line tokens ≡ true) × (h ≡ g)
IsLineTaken line tokens g h false = (is_end_line tokens ≡ false) × (statement_of_line line tokens g ≡ Ok h)

-- the fault of a file whose table has this fault
abbrev pub fault_of : TableFault → LoadFault
fault_of faults.Memory = Memory
fault_of fault = Table fault

-- the fault of a table of numbers; out of memory is none
abbrev pub IsTableFaultOf : NamedAlgebra → TableFault → Type 0
IsTableFaultOf c faults.Memory = ⊥
IsTableFaultOf c fault = IsFaultOf c.names c.algebra fault

-- the fault of a text: that of its lines, or of what is missing, or else of the table of numbers; out of memory says nothing of
-- the text
abbrev pub IsLoadFaultOf : Result NamedAlgebra LoadFault → LoadFault → Type 0
IsLoadFaultOf table Memory = Unit {0}
IsLoadFaultOf (Err fault) other = other ≡ fault
IsLoadFaultOf (Ok c) (Table fault) = IsTableFaultOf c fault
IsLoadFaultOf (Ok c) fault = ⊥
