-- The lines of a script as the reader has them.
use Rattle.session_scripts.specs.Commands.{ScriptLine, Blank, Commit, Malformed, Said}
use Rattle.session_scripts.specs.declared.commands.ScriptLine.TheVariants as read
use Rattle.session_scripts.specs.declared.commands.ScriptLine.{ScriptLine as ReadLine}

-- what a line is
abbrev pub line_read : ReadLine → ScriptLine
line_read read.Blank = Blank
line_read read.Commit = Commit
line_read read.Malformed = Malformed
line_read (read.Said session command) = Said session.now command
