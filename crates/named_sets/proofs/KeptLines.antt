-- Lines that are kept: where each stands, and that it may be cut out of their text, since it begins with a bracket and ends
-- with an LF.
use Rattle.std.proofs.Common.{◌≡◌, ℕ, ◌+◌, ◌-◌, ◌<◌, List, [], length, get_or, set, codes, Option, Some, refl, sym, ◌∙◌, ap, subst, arith}
use Rattle.std.specs.Str.{IsUtf8, IsCharBoundary}
use Rattle.std.proofs.lemmas.Str.{IsCharBoundary-before_ascii, IsCharBoundary-after_ascii}
use Rattle.std.proofs.lemmas.List.{length-append, length-set, get_or_at}
use Rattle.std.proofs.lemmas.List.Elements.{All-get_or, All-set}
use Rattle.std.proofs.lemmas.List.Edits.{length-between, get_or-between}
use Rattle.calculus_table.specs.Calculus.{NamedAlgebra}
use Rattle.named_sets.specs.Written.{set_text, set_line}
use Rattle.named_sets.specs.Kept.{IsKept, IsKeptThere, AreKept}
use Rattle.named_sets.specs.declared.writing.KeptLine.{KeptLine}

-- ---- the places

pub AreKept-at : (c : NamedAlgebra) (lines : List ℕ) (places : List (Option KeptLine)) (i : ℕ) (place : Option KeptLine) (kept : KeptLine) → AreKept c lines places → i < 256 →
    place ≡ get_or places i place → place ≡ Some kept → IsKept c lines kept
AreKept-at c lines places i place kept are few at is =
    subst (IsKeptThere c lines) (sym at ∙ is) (All-get_or (IsKeptThere c lines) places i place (omega (arith, are.count)) are.each)

pub AreKept-set : (c : NamedAlgebra) (lines : List ℕ) (places : List (Option KeptLine)) (i : ℕ) (kept : KeptLine) → AreKept c lines places → IsKept c lines kept →
    AreKept c lines (set places i (Some kept))
AreKept-set c lines places i kept are is = record {
  count = length-set places i (Some kept) ∙ are.count;
  each = All-set (IsKeptThere c lines) places i (Some kept) is are.each;
}

-- ---- the ends of a line

line-first : (c : NamedAlgebra) (a : ℕ) → get_or (set_line c a) 0 0 ≡ 40
line-first c a = refl

line-last : (c : NamedAlgebra) (a : ℕ) → get_or (set_line c a) (length (set_text c a)) 0 ≡ 10
line-last c a = get_or_at (set_text c a) 10 [] 0 (length (set_text c a)) refl

module _ (c : NamedAlgebra) (lines : List ℕ) (kept : KeptLine) (utf8 : IsUtf8 lines) (is : IsKept c lines kept) where
  length-line : length (set_text c kept.set) + 1 ≡ kept.end - kept.start
  length-line = sym (length-append (set_text c kept.set) (codes "\n")) ∙ sym (ap length is.line) ∙ length-between lines kept.start kept.end is.inside

  byte-at : (k n : ℕ) → kept.start + k ≡ n → n < kept.end → get_or lines n 0 ≡ get_or (set_line c kept.set) k 0
  byte-at k n e h = ap (λ i. get_or lines i 0) (sym e) ∙ sym (get_or-between lines kept.start kept.end k 0 (omega arith)) ∙ ap (λ xs. get_or xs k 0) is.line

  pub start-boundary : IsCharBoundary lines kept.start
  start-boundary =
      let some : 0 < kept.end - kept.start = omega (arith, length-line) in
      let first : get_or lines kept.start 0 ≡ 40 = byte-at 0 kept.start (omega arith) (omega arith) ∙ line-first c kept.set in
      IsCharBoundary-before_ascii lines kept.start (omega (arith, is.inside)) (omega arith)

  pub end-boundary : IsCharBoundary lines kept.end
  end-boundary =
      let some : 0 < kept.end - kept.start = omega (arith, length-line) in
      let before : kept.start + length (set_text c kept.set) ≡ kept.end - 1 = omega (arith, length-line) in
      let last : get_or lines (kept.end - 1) 0 ≡ 10 = byte-at (length (set_text c kept.set)) (kept.end - 1) before (omega arith) ∙ line-last c kept.set in
      let after : kept.end - 1 + 1 ≡ kept.end = omega arith in
      subst (IsCharBoundary lines) after (IsCharBoundary-after_ascii lines (kept.end - 1) utf8 (omega (arith, is.inside)) (omega arith))
