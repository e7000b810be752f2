-- Each text is that of a calculus, or it has a fault.
use Rattle.std.proofs.Common.{◌≡◌, ℕ, ◌+◌, ◌-◌, ◌*◌, ◌^◌, ◌<◌, ◌≤◌, ◌⊎◌, inl, inr, nat_lt, List, [], ◌∷◌, length, set, Option, Some, None, is_some, Result, Ok, Err, refl, sym, subst}
use Rattle.std.specs.Prelude.{IfSome, MatchResult, slice_index_or}
use Rattle.std.proofs.lemmas.Bool.{ltb-false}
use Rattle.std.proofs.lemmas.Nat.{mul-add-lt}
use Rattle.calculus_table.specs.Rel.{IsWithin}
use Rattle.calculus_table.specs.Algebra.{Algebra}
use Rattle.calculus_table.specs.Calculus.{NamedAlgebra, IsCalculus, IsTable, AreDistinct}
use Rattle.calculus_table.specs.Names.{place_of}
use Rattle.calculus_table.specs.TableFault.{IsLawFaultOf}
use Rattle.calculus_table.specs.Laws.{BreaksLaw}
use Rattle.calculus_table.specs.declared.TheConstants.{MAX_BASES}
use Rattle.calculus_table.specs.declared.calculus.TableFault.{TableFault}
use Rattle.calculus_table.specs.declared.calculus.TableFault.TheVariants.{NameTwice, NotInvolution, IdentityLaw, ConverseLaw, CycleLaw}
use Rattle.calculus_table.specs.declared.calculus.TableFault.TheVariants as faults
use Rattle.calculus_table.proofs.PlacesOfNames.{place_of-below}
use Rattle.calculus_table.proofs.Faults.{law_fault}
use Rattle.calculus_table.proofs.FirstPlaces.{calculus_or_fault}
use Rattle.qsr_lex.specs.Lexemes.{Lexeme}
use Rattle.qsr_lex.specs.TokenLines.{TokenLine}
use Rattle.qsr_lex.specs.LineTokens.{name_at, after_kind, at_end, is_end_line}
use Rattle.qsr_lex.specs.declared.tokens.TokenKind.TheVariants.{Colon, Colons}
use Rattle.qsr_lex.proofs.Found.{Any, IfSome-any, IfSome-and_then, IfSome-at_end}
use Rattle.named_sets.specs.Named.{set_at}
use Rattle.named_sets.proofs.ReadSets.{set_at-within}
use Rattle.line_files.specs.FileText.{FileText, file_text, extra_line}
use Rattle.line_files.specs.Steps.{◌>>=◌}
use Rattle.line_files.specs.declared.lines.TextEnd.{TextEnd}
use Rattle.line_files.specs.declared.lines.TextEnd.TheVariants.{Whole, BadLine}
use Rattle.line_files.proofs.Steps.{MatchResult-then, MatchResult-ok_or, MatchResult-cond}
use Rattle.calculus_load.specs.Given.{Given, HasShape, give_converse, give_entry, with_converses, with_entries, complete, first_missing}
use Rattle.calculus_load.specs.Names.{repeat_after, unless_repeated, allowed_names}
use Rattle.calculus_load.specs.Statements.{names_line, identity_line, after_colons, converse_line, after_colon, entry_line, or_else, statement_line, IsBoundedBy}
use Rattle.calculus_load.specs.TableFile.{end_fault, or_syntax, or_unknown, with_statement, statement_of_line, given_before, given_at_end, statements, nothing_given, names_of_line, identity_of_line, from_identity, from_names, given_by, table_of, fault_of, IsLoadFaultOf}
use Rattle.calculus_load.specs.Laws.{IsOfText, IsTextOfCalculus, TextHasFault, LoadHasAnswer}
use Rattle.calculus_load.specs.declared.statement.Statement.{Statement}
use Rattle.calculus_load.specs.declared.statement.Statement.TheVariants.{Converse, Entry}
use Rattle.calculus_load.specs.declared.fault.LoadFault.{LoadFault}
use Rattle.calculus_load.specs.declared.fault.LoadFault.TheVariants.{Syntax, Unknown, Missing, Twice, TooMany, Table, Memory}
use Rattle.calculus_load.proofs.Shapes.{HasShape-converse, HasShape-entry, HasShape-nothing}
use Rattle.calculus_load.proofs.NamesRead.{repeat_after-distinct}
use Rattle.calculus_load.proofs.Faults.{table_fault}

-- ---- the lines of statements are bounded by the number of names

module _ (names : List (List ℕ)) where
  after_colons-bounded : (first : Option ℕ) (tokens : List Lexeme) → IfSome first (λ a. a < length names) → IfSome (after_colons names first tokens) (IsBoundedBy (length names))
  after_colons-bounded first tokens h =
      let B = IsBoundedBy (length names) in
      IfSome-and_then Any B (λ second. at_end (Converse first (place_of second.0 names)) second.1) (name_at tokens) (IfSome-any (name_at tokens))
      (λ second _. IfSome-at_end B (Converse first (place_of second.0 names)) second.1 (h, place_of-below names second.0))

  converse_line-bounded : (tokens : List Lexeme) → IfSome (converse_line names tokens) (IsBoundedBy (length names))
  converse_line-bounded tokens =
      let B = IsBoundedBy (length names) in
      IfSome-and_then Any B (λ first. _) (name_at tokens) (IfSome-any (name_at tokens)) (λ first _.
      IfSome-and_then Any B (after_colons names (place_of first.0 names)) (after_kind Colons first.1) (IfSome-any (after_kind Colons first.1)) (λ rest _.
      after_colons-bounded (place_of first.0 names) rest (place_of-below names first.0)))

  after_colon-bounded : (first : Option ℕ) (tokens : List Lexeme) → IfSome first (λ a. a < length names) → IfSome (after_colon names first tokens) (IsBoundedBy (length names))
  after_colon-bounded first tokens h =
      let B = IsBoundedBy (length names) in
      IfSome-and_then Any B (λ second. _) (name_at tokens) (IfSome-any (name_at tokens)) (λ second _.
      IfSome-and_then Any B (λ rest. _) (after_kind Colons second.1) (IfSome-any (after_kind Colons second.1)) (λ rest _.
      IfSome-and_then (λ s. IfSome s.0 (λ a. IsWithin a (2 ^ length names - 1))) B (λ found. at_end (Entry first (place_of second.0 names) found.0) found.1)
      (set_at names rest) (set_at-within names rest) (λ found within.
      IfSome-at_end B (Entry first (place_of second.0 names) found.0) found.1 (h, place_of-below names second.0, within))))

  entry_line-bounded : (tokens : List Lexeme) → IfSome (entry_line names tokens) (IsBoundedBy (length names))
  entry_line-bounded tokens =
      let B = IsBoundedBy (length names) in
      IfSome-and_then Any B (λ first. _) (name_at tokens) (IfSome-any (name_at tokens)) (λ first _.
      IfSome-and_then Any B (after_colon names (place_of first.0 names)) (after_kind Colon first.1) (IfSome-any (after_kind Colon first.1)) (λ rest _.
      after_colon-bounded (place_of first.0 names) rest (place_of-below names first.0)))

  either : (a b : Option Statement) → IfSome a (IsBoundedBy (length names)) → IfSome b (IsBoundedBy (length names)) → IfSome (or_else a b) (IsBoundedBy (length names))
  either (Some s) b h k = h
  either None b h k = k

  statement_line-bounded : (tokens : List Lexeme) → IfSome (statement_line names tokens) (IsBoundedBy (length names))
  statement_line-bounded tokens = either (converse_line names tokens) (entry_line names tokens) (converse_line-bounded tokens) (entry_line-bounded tokens)

-- ---- what was given has the shape of a table, and a fault says something of the text

record IsGood (g : Given) : Type 0 where
  shape : HasShape g
  distinct : AreDistinct g.names

give_converse-good : (line a b : ℕ) (g : Given) → IsGood g → a < length g.names → b < length g.names → MatchResult (give_converse line a b g) IsGood IsOfText
give_converse-good line a b g good first second =
    MatchResult-cond IsOfText IsGood (is_some (slice_index_or g.converses a None)) (Err (Twice line)) (Ok (record g { converses = set g.converses a (Some b) }))
    (λ _. tt) (λ _. record { shape = HasShape-converse g a b good.shape first second; distinct = good.distinct })

give_entry-good : (line a b rel : ℕ) (g : Given) → IsGood g → a < length g.names → b < length g.names → IsWithin rel (2 ^ length g.names - 1) →
    MatchResult (give_entry line a b rel g) IsGood IsOfText
give_entry-good line a b rel g good first second within =
    let n = length g.names in
    MatchResult-cond IsOfText IsGood (is_some (slice_index_or g.entries (a * n + b) None)) (Err (Twice line)) (Ok (record g { entries = set g.entries (a * n + b) (Some rel) }))
    (λ _. tt) (λ _. record { shape = HasShape-entry g (a * n + b) rel good.shape (mul-add-lt a n b n first second) within; distinct = good.distinct })

with_statement-good : (line : ℕ) (s : Statement) (g : Given) → IsGood g → IsBoundedBy (length g.names) s → MatchResult (with_statement line s g) IsGood IsOfText
with_statement-good line (Converse a b) g good bounded =
    let Below : ℕ → Type 0 = λ k. k < length g.names in
    MatchResult-then IsOfText Below IsGood (or_unknown line a) (λ a. _) (MatchResult-ok_or IsOfText Below a (Unknown line) bounded.0 tt) (λ x first.
    MatchResult-then IsOfText Below IsGood (or_unknown line b) (λ b. give_converse line x b g) (MatchResult-ok_or IsOfText Below b (Unknown line) bounded.1 tt) (λ y second.
    give_converse-good line x y g good first second))
with_statement-good line (Entry a b rel) g good bounded =
    let Below : ℕ → Type 0 = λ k. k < length g.names in
    let Within : ℕ → Type 0 = λ e. IsWithin e (2 ^ length g.names - 1) in
    MatchResult-then IsOfText Below IsGood (or_unknown line a) (λ a. _) (MatchResult-ok_or IsOfText Below a (Unknown line) bounded.0 tt) (λ x first.
    MatchResult-then IsOfText Below IsGood (or_unknown line b) (λ b. _) (MatchResult-ok_or IsOfText Below b (Unknown line) bounded.1 tt) (λ y second.
    MatchResult-then IsOfText Within IsGood (or_unknown line rel) (λ rel. give_entry line x y rel g) (MatchResult-ok_or IsOfText Within rel (Unknown line) bounded.2 tt) (λ z within.
    give_entry-good line x y z g good first second within)))

statement_of_line-good : (line : ℕ) (tokens : List Lexeme) (g : Given) → IsGood g → MatchResult (statement_of_line line tokens g) IsGood IsOfText
statement_of_line-good line tokens g good =
    let Bounded : Statement → Type 0 = IsBoundedBy (length g.names) in
    MatchResult-then IsOfText Bounded IsGood (or_syntax line (statement_line g.names tokens)) (λ s. with_statement line s g)
    (MatchResult-ok_or IsOfText Bounded (statement_line g.names tokens) (Syntax line) (statement_line-bounded g.names tokens) tt)
    (λ s bounded. with_statement-good line s g good bounded)

end-of_text : (end : TextEnd) → IsOfText (end_fault end)
end-of_text (BadLine line) = tt
end-of_text (Whole lines) = tt

given_before-good : (o : Option ℕ) (g : Given) → IsGood g → MatchResult (given_before o g) IsGood IsOfText
given_before-good None g good = good
given_before-good (Some line) g good = tt

statements-good : (end : TextEnd) (lines : List TokenLine) (g : Given) → IsGood g → MatchResult (statements end lines g) IsGood IsOfText
statements-good end [] g good = end-of_text end
statements-good end (l ∷ ls) g good =
    MatchResult-cond IsOfText IsGood (is_end_line l.tokens) (given_at_end end ls g) (statement_of_line l.number l.tokens g >>= λ h. statements end ls h)
    (λ _. given_before-good (extra_line ls end) g good)
    (λ _. MatchResult-then IsOfText IsGood IsGood (statement_of_line l.number l.tokens g) (λ h. statements end ls h) (statement_of_line-good l.number l.tokens g good)
    (λ h kept. statements-good end ls h kept))

-- ---- the names and the identity

-- names that differ, and not too many of them
record AreGood (names : List (List ℕ)) : Type 0 where
  few : length names ≤ MAX_BASES
  distinct : AreDistinct names

unless_repeated-good : (names : List (List ℕ)) (o : Option ℕ) → repeat_after [] names ≡ o → length names ≤ MAX_BASES → MatchResult (unless_repeated names o) AreGood IsOfText
unless_repeated-good names (Some at) e few = tt
unless_repeated-good names None e few = record { few = few; distinct = repeat_after-distinct names e }

allowed_names-good : (line : ℕ) (names : List (List ℕ)) → MatchResult (allowed_names line names) AreGood IsOfText
allowed_names-good line names =
    MatchResult-cond IsOfText AreGood (nat_lt MAX_BASES (length names)) (Err (TooMany line)) (unless_repeated names (repeat_after [] names))
    (λ _. tt) (λ few. unless_repeated-good names (repeat_after [] names) refl (ltb-false MAX_BASES (length names) few))

names_of_line-good : (line : ℕ) (tokens : List Lexeme) → MatchResult (names_of_line line tokens) AreGood IsOfText
names_of_line-good line tokens =
    MatchResult-then IsOfText Any AreGood (or_syntax line (names_line tokens)) (allowed_names line)
    (MatchResult-ok_or IsOfText Any (names_line tokens) (Syntax line) (IfSome-any (names_line tokens)) tt) (λ names _. allowed_names-good line names)

identity_of_line-good : (names : List (List ℕ)) (line : ℕ) (tokens : List Lexeme) → MatchResult (identity_of_line names line tokens) (λ id. id < length names) IsOfText
identity_of_line-good names line tokens =
    let Below : ℕ → Type 0 = λ id. id < length names in
    MatchResult-then IsOfText Any Below (or_syntax line (identity_line tokens)) (λ name. or_unknown line (place_of name names))
    (MatchResult-ok_or IsOfText Any (identity_line tokens) (Syntax line) (IfSome-any (identity_line tokens)) tt)
    (λ name _. MatchResult-ok_or IsOfText Below (place_of name names) (Unknown line) (place_of-below names name) tt)

from_identity-good : (end : TextEnd) (lines : List TokenLine) (names : List (List ℕ)) → AreGood names → MatchResult (from_identity end lines names) IsGood IsOfText
from_identity-good end [] names good = end-of_text end
from_identity-good end (l ∷ ls) names good =
    MatchResult-then IsOfText (λ id. id < length names) IsGood (identity_of_line names l.number l.tokens) (λ id. statements end ls (nothing_given names id))
    (identity_of_line-good names l.number l.tokens)
    (λ id below. statements-good end ls (nothing_given names id) (record { shape = HasShape-nothing names id good.few below; distinct = good.distinct }))

from_names-good : (end : TextEnd) (lines : List TokenLine) → MatchResult (from_names end lines) IsGood IsOfText
from_names-good end [] = end-of_text end
from_names-good end (l ∷ ls) =
    MatchResult-then IsOfText AreGood IsGood (names_of_line l.number l.tokens) (from_identity end ls) (names_of_line-good l.number l.tokens)
    (λ names good. from_identity-good end ls names good)

-- ---- whole tables

-- a table of the right shape, with a name for each base relation
record IsWhole (c : NamedAlgebra) : Type 0 where
  table : IsTable c.algebra
  distinct : AreDistinct c.names
  one_each : length c.names ≡ c.algebra.size

with_entries-whole : (g : Given) (o : Option ℕ) → IsGood g → MatchResult (with_entries g o) IsWhole IsOfText
with_entries-whole g (Some k) good = tt
with_entries-whole g None good = record { table = good.shape; distinct = good.distinct; one_each = refl }

with_converses-whole : (g : Given) (o : Option ℕ) → IsGood g → MatchResult (with_converses g o) IsWhole IsOfText
with_converses-whole g (Some r) good = tt
with_converses-whole g None good = with_entries-whole g (first_missing g.entries) good

table_of-whole : (bytes : List ℕ) → MatchResult (table_of bytes) IsWhole IsOfText
table_of-whole bytes =
    let text : FileText = file_text bytes in
    MatchResult-then IsOfText IsGood IsWhole (given_by text) complete (from_names-good text.end text.lines) (λ g good. with_converses-whole g (first_missing g.converses) good)

-- ---- the answer

-- a fault of the text is its fault
own-fault : (f : LoadFault) → IsLoadFaultOf (Err f) f
own-fault Memory = tt
own-fault (Syntax n) = refl
own-fault (Unknown n) = refl
own-fault (Missing n s) = refl
own-fault (Twice n) = refl
own-fault (TooMany n) = refl
own-fault (Table t) = refl

-- the fault of a law says something of the text
law-of_text : (m : Algebra) (f : TableFault) → IsLawFaultOf m f → IsOfText (fault_of f)
law-of_text m (NameTwice at) h = absurd h
law-of_text m faults.Memory h = absurd h
law-of_text m (NotInvolution r) h = tt
law-of_text m (IdentityLaw r) h = tt
law-of_text m (ConverseLaw r s t) h = tt
law-of_text m (CycleLaw r s t) h = tt

table-answered : (bytes : List ℕ) (c : NamedAlgebra) → table_of bytes ≡ Ok c → IsWhole c → IsCalculus c.algebra ⊎ BreaksLaw c.algebra → IsTextOfCalculus bytes ⊎ TextHasFault bytes
table-answered bytes c e whole (inl lawful) =
    inl (record { calculus = c; table = e; lawful = record { lawful = lawful; distinct = whole.distinct; one_each = whole.one_each } })
table-answered bytes c e whole (inr b) =
    inr (record {
      fault = fault_of b.fault;
      of_text = law-of_text c.algebra b.fault b.broken;
      is = subst (λ r. IsLoadFaultOf r (fault_of b.fault)) (sym e) (table_fault c b.fault (law_fault c.names c.algebra b.fault whole.distinct b.broken));
    })

answered : (bytes : List ℕ) (r : Result NamedAlgebra LoadFault) → table_of bytes ≡ r → MatchResult r IsWhole IsOfText → IsTextOfCalculus bytes ⊎ TextHasFault bytes
answered bytes (Ok c) e whole = table-answered bytes c e whole (calculus_or_fault c.algebra whole.table)
answered bytes (Err f) e of_text = inr (record { fault = f; of_text = of_text; is = subst (λ r. IsLoadFaultOf r f) (sym e) (own-fault f) })

pub load-answered : LoadHasAnswer
load-answered bytes = answered bytes (table_of bytes) refl (table_of-whole bytes)
