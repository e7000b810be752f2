-- The lines of a text, and what of each stands outside comments.
use Rattle.std.specs.Prelude.{◌≡◌, ℕ, ◌+◌, List, [], ◌∷◌, Bool, true, false, not, count_by, take, drop, ◌&&◌, ◌||◌, Option, Some, None, if◌then◌else◌}
use Rattle.std.specs.List.{list_all, flat_map}
use Rattle.qsr_lex.specs.Bytes.{is_lf, is_cr, is_hash, is_allowed}

-- one byte more in front of the lines: an LF is a line of its own, any other byte belongs to the line after it
abbrev pub add_byte : ℕ → List (List ℕ) → List (List ℕ)
add_byte b [] = (b ∷ []) ∷ []
add_byte b (l ∷ ls) = if is_lf b then (b ∷ []) ∷ l ∷ ls else (b ∷ l) ∷ ls

-- the text cut after each LF; the last line may lack its LF
abbrev pub text_lines : List ℕ → List (List ℕ)
text_lines [] = []
text_lines (b ∷ bs) = add_byte b (text_lines bs)

-- bytes follow the last LF
abbrev pub lacks_last_lf : List ℕ → Bool
lacks_last_lf [] = false
lacks_last_lf (b ∷ []) = not (is_lf b)
lacks_last_lf (b ∷ c ∷ bs) = lacks_last_lf (c ∷ bs)

-- how many lines a text has: as many as LFs, and one more where bytes follow the last LF
abbrev pub line_count : List ℕ → ℕ
line_count bytes = count_by is_lf bytes + (if lacks_last_lf bytes then 1 else 0)

-- how many bytes the first line has, with its LF
abbrev pub first_line_len : List ℕ → ℕ
first_line_len [] = 0
first_line_len (b ∷ bs) = if is_lf b then 1 else 1 + first_line_len bs

-- the first line, with its LF
abbrev pub first_line : List ℕ → List ℕ
first_line bytes = take (first_line_len bytes) bytes

-- what stands after the first line
abbrev pub after_first_line : List ℕ → List ℕ
after_first_line bytes = drop (first_line_len bytes) bytes

-- an LF is next
abbrev pub starts_with_lf : List ℕ → Bool
starts_with_lf [] = false
starts_with_lf (b ∷ bs) = is_lf b

-- a line's end is next, with or without a CR before the LF, or a comment
abbrev pub starts_with_end : List ℕ → Bool
starts_with_end [] = true
starts_with_end (b ∷ bs) = is_lf b || is_hash b || (is_cr b && starts_with_lf bs)

-- what stands after the end of a line that begins here, with a comment before it or without; none where none begins
abbrev pub after_end : List ℕ → Option (List ℕ)
after_end [] = Some []
after_end (b ∷ bs) =
    if is_lf b then Some bs
    else (if is_hash b then Some (drop (first_line_len (b ∷ bs)) (b ∷ bs))
    else (if is_cr b && starts_with_lf bs then Some (drop 1 bs) else None))

-- what of a line stands outside comments: the bytes before its end or its first `#`
abbrev pub outside : List ℕ → List ℕ
outside [] = []
outside (b ∷ bs) = if starts_with_end (b ∷ bs) then [] else b ∷ outside bs

-- all bytes of a line that stand outside comments are allowed there
abbrev pub is_clean : List ℕ → Bool
is_clean line = list_all is_allowed (outside line)

-- the number of the first line with a byte that isn't allowed, where the first line has the number n
abbrev pub bad_line_from : ℕ → List (List ℕ) → Option ℕ
bad_line_from n [] = None
bad_line_from n (l ∷ ls) = if is_clean l then bad_line_from (n + 1) ls else Some n

-- the number of the first line, from 1, with a byte outside comments that isn't allowed there
abbrev pub bad_line : List ℕ → Option ℕ
bad_line bytes = bad_line_from 1 (text_lines bytes)

-- the lines before the first one with a byte that isn't allowed
abbrev pub clean_front : List (List ℕ) → List (List ℕ)
clean_front [] = []
clean_front (l ∷ ls) = if is_clean l then l ∷ clean_front ls else []

-- the bytes that stand before the first line with a byte that isn't allowed: the whole text where there is none
abbrev pub readable_text : List ℕ → List ℕ
readable_text bytes = flat_map (λ l. l) (clean_front (text_lines bytes))

-- the first line of a text has no byte that isn't allowed, this part of it stands outside its comment, and this after it
pub record IsFirstLine (text part after : List ℕ) : Type 0 where
  pub clean : is_clean (first_line text) ≡ true
  pub is_part : part ≡ outside (first_line text)
  pub is_after : after ≡ after_first_line text
