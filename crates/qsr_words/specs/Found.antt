-- What `clap` finds in the words of a command.
use Rattle.std.specs.Prelude.{◌≡◌, ℕ, List, []}
use Rattle.clap.specs.Words.{App, Row, fault_of, found_of, matches_of, rows_of}
use Rattle.clap.specs.declared.parser.matches.ArgMatches.{ArgMatches}

-- the values of the words and the options
abbrev pub values_of : ArgMatches → List Row
values_of found = rows_of (found_of found)

-- the words are those of the command, and the matches have their values
abbrev pub IsFoundIn : App → List (List ℕ) → ArgMatches → Type 0
IsFoundIn app words found = (fault_of app words ≡ []) × (values_of found ≡ matches_of app words)
