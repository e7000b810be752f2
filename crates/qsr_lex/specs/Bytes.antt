-- The bytes of a text, and what each may be part of.
use Rattle.std.specs.Prelude.{ℕ, Bool, not, ◌&&◌, ◌||◌, ◌==◌, nat_le}

-- an LF ends a line
abbrev pub is_lf : ℕ → Bool
is_lf b = b == 10

-- a CR may stand in front of the LF
abbrev pub is_cr : ℕ → Bool
is_cr b = b == 13

-- the byte between two printed tokens
abbrev pub space : ℕ
space = 32

-- a space or a tab
abbrev pub is_blank : ℕ → Bool
is_blank b = b == space || b == 9

-- `#` begins a comment
abbrev pub is_hash : ℕ → Bool
is_hash b = b == 35

-- `(`
abbrev pub is_open : ℕ → Bool
is_open b = b == 40

-- `)`
abbrev pub is_close : ℕ → Bool
is_close b = b == 41

-- `,`
abbrev pub is_comma : ℕ → Bool
is_comma b = b == 44

-- `:`
abbrev pub is_colon : ℕ → Bool
is_colon b = b == 58

-- `.`
abbrev pub is_dot : ℕ → Bool
is_dot b = b == 46

-- `+`
abbrev pub is_plus : ℕ → Bool
is_plus b = b == 43

-- `-`
abbrev pub is_minus : ℕ → Bool
is_minus b = b == 45

-- the digit 0
abbrev pub is_zero : ℕ → Bool
is_zero b = b == 48

-- `"`
abbrev pub is_quote : ℕ → Bool
is_quote b = b == 34

-- `\`
abbrev pub is_backslash : ℕ → Bool
is_backslash b = b == 92

-- `(`, `)`, `,` and `:` are tokens or begin one
abbrev pub is_mark : ℕ → Bool
is_mark b = is_open b || is_close b || is_comma b || is_colon b

-- what may stand outside comments: a tab, or 0x20 to 0x7E
abbrev pub is_allowed : ℕ → Bool
is_allowed b = b == 9 || (nat_le 32 b && nat_le b 126)

-- what stands for itself outside comments: an allowed byte that begins no comment
abbrev pub is_plain : ℕ → Bool
is_plain b = is_allowed b && not (is_hash b)

-- what a word is made of: neither a blank nor a mark nor `#`
abbrev pub is_word_byte : ℕ → Bool
is_word_byte b = not (is_blank b || is_mark b || is_hash b)
