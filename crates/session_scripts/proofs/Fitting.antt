-- Each line of a batch asks what the nodes and the sets within full have.
use Rattle.std.proofs.Common.{◌≡◌, ℕ, ◌+◌, ◌<◌, ◌≤◌, Bool, true, false, List, [], ◌∷◌, ◌++◌, length, Option, Some, None, IfSome, refl, arith}
use Rattle.std.specs.Prelude.{nat_lt, ◌==◌, not, ◌&&◌, if◌then◌else◌}
use Rattle.std.proofs.lemmas.List.{length_push}
use Rattle.std.proofs.lemmas.List.Elements.{All-push, All-weaker}
use Rattle.std.proofs.lemmas.Bool.Decides.{nat_tests}
use Rattle.calculus_table.specs.Rel.{IsWithin}
use Rattle.calculus_table.specs.Names.{place_of}
use Rattle.calculus_table.proofs.PlacesOfNames.{place_of-below}
use Rattle.network_words.specs.Edge.{IsProperPair}
use Rattle.session_scripts.specs.Commands.{ScriptLine, Blank, Commit, Malformed, Said, HasCommandSet, HasSet}
use Rattle.session_scripts.specs.Batches.{BatchState, line_at, pair_refusal, unless, assert_of, what_of, refusing, with_session, with_form, with_line, is_command_line, IsAsked, HasSession, IsLineFor, IsBatchFor}
use Rattle.session_scripts.specs.declared.commands.Command.{Command}
use Rattle.session_scripts.specs.declared.commands.Command.TheVariants as command
use Rattle.session_scripts.specs.declared.batch.What.{What}
use Rattle.session_scripts.specs.declared.batch.What.TheVariants.{Assert, Peek, Withdraw, Ask, Refused}
use Rattle.session_scripts.specs.declared.batch.Line.{Line}

-- ---- what a command asks for

-- why a pair is refused, by the tests of its nodes
abbrev refusal_by : Bool → Bool → Bool → Option ℕ
refusal_by first second same = if not (first && second) then Some 15 else (if same then Some 16 else None)

proper-by : (n i j : ℕ) (a b same : Bool) → nat_lt i n ≡ a → nat_lt j n ≡ b → (i == j) ≡ same →
    refusal_by a b same ≡ None → IsProperPair n i j
proper-by n i j true true false p q r e = record {
  first_below = grind (arith, nat_tests);
  second_below = grind (arith, nat_tests);
  differ = grind (arith, nat_tests);
}
proper-by n i j true true true p q r e = cc
proper-by n i j true false same p q r e = cc
proper-by n i j false b same p q r e = cc

proper : (n i j : ℕ) → pair_refusal n i j ≡ None → IsProperPair n i j
proper n i j e = proper-by n i j (nat_lt i n) (nat_lt j n) (i == j) refl refl refl e

unless-by : (full n i j : ℕ) (refusal : Option ℕ) (what : What) → pair_refusal n i j ≡ refusal → (IsProperPair n i j → IsAsked full n what) → IsAsked full n (unless refusal what)
unless-by full n i j None what e h = h (proper n i j e)
unless-by full n i j (Some number) what e h = tt

IsAsked-unless : (full n i j : ℕ) (what : What) → (IsProperPair n i j → IsAsked full n what) → IsAsked full n (unless (pair_refusal n i j) what)
IsAsked-unless full n i j what h = unless-by full n i j (pair_refusal n i j) what refl h

IsAsked-assert_of : (full n i j : ℕ) (set : Option ℕ) → IfSome set (λ a. IsWithin a full) → IsProperPair n i j → IsAsked full n (assert_of i j set)
IsAsked-assert_of full n i j None within pair = tt
IsAsked-assert_of full n i j (Some a) within pair = (pair, within)

IsAsked-what_of : (full n : ℕ) (asked : Command) → HasCommandSet full asked → IsAsked full n (what_of n asked)
IsAsked-what_of full n (command.Assert i j set) within = IsAsked-unless full n i j (assert_of i j set) (IsAsked-assert_of full n i j set within)
IsAsked-what_of full n (command.Peek i j) within = IsAsked-unless full n i j (Peek i j) (λ pair. pair)
IsAsked-what_of full n (command.Withdraw fact) within = tt
IsAsked-what_of full n (command.Ask version i j) within = IsAsked-unless full n i j (Ask version i j) (λ pair. pair)

-- ---- lines of sessions

HasSession-below : (sessions session : ℕ) (what : What) → session < sessions → HasSession sessions session what
HasSession-below sessions session (Assert fact) below = below
HasSession-below sessions session (Peek i j) below = below
HasSession-below sessions session (Withdraw fact) below = below
HasSession-below sessions session (Ask version i j) below = below
HasSession-below sessions session (Refused number) below = tt

HasSession-more : (sessions more session : ℕ) (what : What) → sessions ≤ more → HasSession sessions session what → HasSession more session what
HasSession-more sessions more session (Assert fact) up below = omega arith
HasSession-more sessions more session (Peek i j) up below = omega arith
HasSession-more sessions more session (Withdraw fact) up below = omega arith
HasSession-more sessions more session (Ask version i j) up below = omega arith
HasSession-more sessions more session (Refused number) up below = tt

IsLineFor-more : (full n sessions more : ℕ) → sessions ≤ more → (line : Line) → IsLineFor full n sessions line → IsLineFor full n more line
IsLineFor-more full n sessions more up line l = record { asked = l.asked; session = HasSession-more sessions more line.session line.what up l.session }

module _ (full n at : ℕ) (batch : BatchState) (fits : IsBatchFor full n batch) where
  IsBatchFor-refusing : (number : ℕ) → IsBatchFor full n (refusing at number batch)
  IsBatchFor-refusing number =
      All-push (IsLineFor full n (length batch.sessions)) batch.lines (line_at at 0 (Refused number)) fits (record { asked = tt; session = tt })

  IsBatchFor-new_session : (few : Bool) (session : List ℕ) (asked : Command) → HasCommandSet full asked →
      IsBatchFor full n (if few then record {
        sessions = batch.sessions ++ session ∷ [];
        lines = batch.lines ++ line_at at (length batch.sessions) (what_of n asked) ∷ [];
      } else refusing at 49 batch)
  IsBatchFor-new_session true session asked within =
      let more = batch.sessions ++ session ∷ [] in
      let long : length more ≡ length batch.sessions + 1 = length_push batch.sessions session in
      All-push (IsLineFor full n (length more)) batch.lines (line_at at (length batch.sessions) (what_of n asked))
      (All-weaker (IsLineFor full n (length batch.sessions)) (IsLineFor full n (length more)) (IsLineFor-more full n (length batch.sessions) (length more) (omega arith)) batch.lines fits)
      (record { asked = IsAsked-what_of full n asked within; session = HasSession-below (length more) (length batch.sessions) (what_of n asked) (omega arith) })
  IsBatchFor-new_session false session asked within = IsBatchFor-refusing 49

  IsBatchFor-session : (session : List ℕ) (asked : Command) (place : Option ℕ) → HasCommandSet full asked → IfSome place (λ k. k < length batch.sessions) →
      IsBatchFor full n (with_session n at session asked place batch)
  IsBatchFor-session session asked (Some place) within below =
      All-push (IsLineFor full n (length batch.sessions)) batch.lines (line_at at place (what_of n asked)) fits
      (record { asked = IsAsked-what_of full n asked within; session = HasSession-below (length batch.sessions) place (what_of n asked) below })
  IsBatchFor-session session asked None within below = IsBatchFor-new_session (nat_lt (length batch.sessions) 64) session asked within

  IsBatchFor-form : (line : ScriptLine) → HasSet full line → IsBatchFor full n (with_form n at line batch)
  IsBatchFor-form Blank within = fits
  IsBatchFor-form Commit within = fits
  IsBatchFor-form Malformed within = IsBatchFor-refusing 48
  IsBatchFor-form (Said session asked) within =
      IsBatchFor-session session asked (place_of session batch.sessions) within (place_of-below batch.sessions session)

  IsBatchFor-by : (is_command few here : Bool) (line : ScriptLine) → HasSet full line →
      IsBatchFor full n (if not is_command then batch else (if few then with_form n at line batch else (if here then refusing at 50 batch else batch)))
  IsBatchFor-by false few here line within = fits
  IsBatchFor-by true true here line within = IsBatchFor-form line within
  IsBatchFor-by true false true line within = IsBatchFor-refusing 50
  IsBatchFor-by true false false line within = fits

  -- with one line more
  pub IsBatchFor-with_line : (line : ScriptLine) → HasSet full line → IsBatchFor full n (with_line n at line batch)
  IsBatchFor-with_line line within = IsBatchFor-by (is_command_line line) (nat_lt (length batch.lines) 4096) (length batch.lines == 4096) line within
