-- Why a text has no tokens.
use Rattle.std.specs.Prelude.{◌≡◌, ℕ, List, Some}
use Rattle.qsr_lex.specs.TextLines.{bad_line}
use Rattle.qsr_lex.specs.declared.tokens.LexStop.{LexStop}
use Rattle.qsr_lex.specs.declared.tokens.LexStop.TheVariants.{BadByte, Memory}

-- the line that is named is the first with a byte that isn't allowed; out of memory has no cause in the text
abbrev pub IsStopOf : List ℕ → LexStop → Type 0
IsStopOf bytes (BadByte n) = bad_line bytes ≡ Some n
IsStopOf bytes Memory = Unit {0}
