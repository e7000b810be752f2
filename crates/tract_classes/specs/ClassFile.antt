-- Class files: lines with one set of base relations each, and the end line. The first faulty line decides.
use Rattle.std.specs.Prelude.{ℕ, ◌+◌, ◌==◌, List, [], ◌∷◌, length, nat_lt, Option, Some, None, option_and_then, Result, Ok, Err, if◌then◌else◌}
use Rattle.std.specs.Option.{ok_or}
use Rattle.qsr_lex.specs.Lexemes.{Lexeme}
use Rattle.qsr_lex.specs.TokenLines.{TokenLine}
use Rattle.qsr_lex.specs.LineTokens.{is_end_line, at_end}
use Rattle.line_files.specs.FileText.{FileText, file_text, extra_line}
use Rattle.line_files.specs.Steps.{◌>>=◌}
use Rattle.line_files.specs.declared.lines.TextEnd.{TextEnd}
use Rattle.line_files.specs.declared.lines.TextEnd.TheVariants.{Whole, BadLine}
use Rattle.named_sets.specs.Named.{set_at}
use Rattle.tract_classes.specs.declared.TheConstants.{MAX_MEMBERS}
use Rattle.tract_classes.specs.declared.fault.ClassFault.{ClassFault}
use Rattle.tract_classes.specs.declared.fault.ClassFault.TheVariants.{Syntax, TooMany}

-- the set of the names of base relations in brackets, where nothing else is in the line
abbrev pub set_line : List (List ℕ) → List Lexeme → Option ℕ
set_line bases tokens =
    option_and_then (λ found. option_and_then (λ set. set) (at_end found.0 found.1)) (set_at bases tokens)

-- the members and one set more, in ascending order, each once
abbrev pub with_member : ℕ → List ℕ → List ℕ
with_member a [] = a ∷ []
with_member a (b ∷ class) =
    if nat_lt a b then a ∷ b ∷ class else (if a == b then b ∷ class else b ∷ with_member a class)

-- the class, unless this line made it too great
abbrev pub or_too_many : ℕ → List ℕ → Result (List ℕ) ClassFault
or_too_many line class = if nat_lt MAX_MEMBERS (length class) then Err (TooMany line) else Ok class

-- the class with the set of a line
abbrev pub with_line : List (List ℕ) → ℕ → List Lexeme → List ℕ → Result (List ℕ) ClassFault
with_line bases line tokens class =
    ok_or (set_line bases tokens) (Syntax line) >>= λ a. or_too_many line (with_member a class)

-- the class, if nothing stands after the end line
abbrev pub class_before : Option ℕ → List ℕ → Result (List ℕ) ClassFault
class_before None class = Ok class
class_before (Some line) class = Err (Syntax line)

abbrev pub class_at_end : TextEnd → List TokenLine → List ℕ → Result (List ℕ) ClassFault
class_at_end end lines class = class_before (extra_line lines end) class

-- the fault where the lines that can be read end before the end line
abbrev pub end_fault : TextEnd → ClassFault
end_fault (BadLine line) = Syntax line
end_fault (Whole lines) = Syntax (lines + 1)

-- the class with the sets of the lines up to the end line
abbrev pub sets_from : List (List ℕ) → TextEnd → List TokenLine → List ℕ → Result (List ℕ) ClassFault
sets_from bases end [] class = Err (end_fault end)
sets_from bases end (l ∷ ls) class =
    if is_end_line l.tokens then class_at_end end ls class
    else (with_line bases l.number l.tokens class >>= λ more. sets_from bases end ls more)

-- the class of a text, before it is tested: the empty relation and the sets of its lines
abbrev pub class_of : List (List ℕ) → List ℕ → Result (List ℕ) ClassFault
class_of bases bytes = let text : FileText = file_text bytes in sets_from bases text.end text.lines (0 ∷ [])
