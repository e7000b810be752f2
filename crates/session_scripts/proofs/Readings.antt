-- What was read of a text, with one line more.
use Rattle.std.proofs.Common.{◌≡◌, ℕ, ◌+◌, ◌-◌, ◌^◌, ◌<◌, ◌≤◌, true, false, List, [], ◌∷◌, ◌++◌, length, take, drop, refl, sym, ap, subst, ◌∙◌, arith, append_assoc}
use Rattle.std.proofs.lemmas.List.{take-append-drop, take-append-le, drop-append-le, take-take, drop-take, length-drop, length-append}
use Rattle.std.proofs.lemmas.List.Elements.{All-nil}
use Rattle.qsr_lex.specs.TextLines.{text_lines}
use Rattle.session_scripts.specs.Commands.{script_line}
use Rattle.session_scripts.specs.Batches.{BatchState, no_lines, with_line, IsLineFor, IsBatchFor}
use Rattle.session_scripts.specs.Scripts.{IsWholeLine, has_lf, is_commit_line, batches_from, batches_of, committed_of, last_batch}
use Rattle.session_scripts.specs.Readings.{IsRead, IsCommitted}
use Rattle.session_scripts.specs.declared.reading.Reading.{Reading}
use Rattle.session_scripts.proofs.Lines.{batches-line, batches-commit, committed-line, committed-commit, committed-open, length-whole, text_lines-open}

-- so many bytes, and then so many more
take-add : (n k : ℕ) (xs : List ℕ) → take (n + k) xs ≡ take n xs ++ take k (drop n xs)
take-add n k xs =
    let some = take (n + k) xs in
    sym (take-append-drop n some) ∙ ap (λ ys. ys ++ drop n some) (take-take n (n + k) xs (omega arith)) ∙ ap (λ ys. take n xs ++ ys) (drop-take n k xs)

front : (from len : ℕ) (text line rest : List ℕ) → line ≡ take len (drop from text) → take (from + len) text ++ rest ≡ take from text ++ (line ++ rest)
front from len text line rest e = rw (take-add from len text, ← e) (append_assoc (take from text) line rest)

-- one more line, which isn't `commit`
pub IsRead-line : (bases : List (List ℕ)) (n : ℕ) (text line : List ℕ) (old new : Reading) → IsRead bases n text old → IsWholeLine line → line ≡ take (length line) (drop old.from text) →
    length line ≤ length (drop old.from text) → is_commit_line (script_line bases line) ≡ false → new.from ≡ old.from + length line → new.searched ≡ 0 → new.at ≡ old.at + 1 →
    new.batch ≡ with_line n old.at (script_line bases line) old.batch → IsBatchFor (2 ^ length bases - 1) n new.batch → IsRead bases n text new
IsRead-line bases n text line old new r w there fits other from searched at batch lines_fit = record {
  within = omega (arith, length-drop old.from text, r.within, fits, from, searched);
  few = omega (arith, r.few, at, from, length-whole line w);
  batches = λ rest.
      rw (from, at, batch, front old.from (length line) text line rest there)
      (r.batches (line ++ rest) ∙ batches-line bases n old.at old.batch line rest w other);
  committed = λ rest.
      rw (from, at, batch, front old.from (length line) text line rest there)
      (r.committed (line ++ rest) ∙ committed-line bases n old.at old.batch line rest w other);
  no_lf = rw searched refl;
  fits = lines_fit;
}

-- a line `commit`
pub IsCommitted-line : (bases : List (List ℕ)) (n : ℕ) (text line : List ℕ) (old new : Reading) → IsRead bases n text old → IsWholeLine line → line ≡ take (length line) (drop old.from text) →
    length line ≤ length (drop old.from text) → is_commit_line (script_line bases line) ≡ true → new.from ≡ old.from + length line → new.batch ≡ old.batch → IsCommitted bases n text new
IsCommitted-line bases n text line old new r w there fits commit from batch = record {
  some = omega (arith, from, length-whole line w);
  within = omega (arith, length-drop old.from text, r.within, fits, from);
  batches = λ rest.
      rw (from, batch, front old.from (length line) text line rest there)
      (r.batches (line ++ rest) ∙ batches-commit bases n old.at old.batch line rest w commit);
  committed = λ rest.
      rw (from, batch, front old.from (length line) text line rest there)
      (r.committed (line ++ rest) ∙ committed-commit bases n old.at old.batch line rest w commit);
  fits = rw batch r.fits;
}

-- nothing was read yet
pub IsRead-none : (bases : List (List ℕ)) (n : ℕ) (text : List ℕ) (r : Reading) → r.from ≡ 0 → r.searched ≡ 0 → r.at ≡ 1 → r.batch ≡ no_lines → IsRead bases n text r
IsRead-none bases n text r from searched at batch = record {
  within = omega (arith, from, searched);
  few = omega (arith, from, at);
  batches = λ rest. rw (from, at, batch) refl;
  committed = λ rest. rw (from, at, batch) refl;
  no_lf = rw searched refl;
  fits = subst (IsBatchFor (2 ^ length bases - 1) n) (sym batch) (All-nil (IsLineFor (2 ^ length bases - 1) n 0));
}

-- a text that goes on
pub IsRead-append : (bases : List (List ℕ)) (n : ℕ) (text more : List ℕ) (r : Reading) → IsRead bases n text r → IsRead bases n (text ++ more) r
IsRead-append bases n text more r k =
    let inside : r.from ≤ length text = omega (arith, k.within) in
    let front_is : take r.from (text ++ more) ≡ take r.from text = take-append-le r.from text more inside in
    let back_is : drop r.from (text ++ more) ≡ drop r.from text ++ more = drop-append-le r.from text more inside in
    let searched : r.searched ≤ length (drop r.from text) = omega (arith, length-drop r.from text, k.within) in
    record {
      within = omega (arith, k.within, length-append text more);
      few = k.few;
      batches = λ rest. rw front_is (k.batches rest);
      committed = λ rest. rw front_is (k.committed rest);
      no_lf = rw (back_is, take-append-le r.searched (drop r.from text) more searched) k.no_lf;
      fits = k.fits;
    }

-- what is left after all lines with an LF
pub batches-left : (bases : List (List ℕ)) (n : ℕ) (text : List ℕ) (r : Reading) → IsRead bases n text r → batches_of bases n text ≡ batches_from bases n r.at r.batch (text_lines (drop r.from text))
batches-left bases n text r k = ap (batches_of bases n) (sym (take-append-drop r.from text)) ∙ k.batches (drop r.from text)

pub committed-none : (bases : List (List ℕ)) (n : ℕ) (text : List ℕ) (r : Reading) → IsRead bases n text r → has_lf (drop r.from text) ≡ false → committed_of bases n text ≡ []
committed-none bases n text r k h =
    ap (committed_of bases n) (sym (take-append-drop r.from text)) ∙ k.committed (drop r.from text) ∙ committed-open bases n r.at r.batch (drop r.from text) h

-- nothing is left
pub batches-no_line : (bases : List (List ℕ)) (n at : ℕ) (batch : BatchState) (line : List ℕ) → length line ≡ 0 → batches_from bases n at batch (text_lines line) ≡ last_batch batch
batches-no_line bases n at batch [] e = refl
batches-no_line bases n at batch (b ∷ bs) e = absurd (omega arith)

-- a last line without an LF is left
pub batches-last_line : (bases : List (List ℕ)) (n at : ℕ) (batch : BatchState) (line : List ℕ) → 0 < length line → has_lf line ≡ false → is_commit_line (script_line bases line) ≡ false →
    batches_from bases n at batch (text_lines line) ≡ last_batch (with_line n at (script_line bases line) batch)
batches-last_line bases n at batch line some h e = rw (text_lines-open line some h, e) refl

pub batches-last_commit : (bases : List (List ℕ)) (n at : ℕ) (batch : BatchState) (line : List ℕ) → 0 < length line → has_lf line ≡ false → is_commit_line (script_line bases line) ≡ true →
    batches_from bases n at batch (text_lines line) ≡ batch ∷ []
batches-last_commit bases n at batch line some h e = rw (text_lines-open line some h, e) refl
