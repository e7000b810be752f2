-- A line with two colons after its first name, and one with a single colon.
use Rattle.std.proofs.Common.{◌≡◌, ℕ, cond, List, [], ◌∷◌, Option, Some, None, refl, sym, ap, ◌∙◌}
use Rattle.qsr_lex.specs.Lexemes.{Lexeme}
use Rattle.qsr_lex.specs.LineTokens.{◌>>=◌, name_at, after_kind, is_same_kind}
use Rattle.qsr_lex.specs.declared.tokens.TokenKind.{TokenKind}
use Rattle.qsr_lex.specs.declared.tokens.TokenKind.TheVariants.{Word, Open, Close, Comma, Colon, Colons, Stop}
use Rattle.calculus_load.specs.Statements.{after_colons, converse_line, after_colon, entry_line, or_else, statement_line}
use Rattle.calculus_table.specs.Names.{place_of}
use Rattle.calculus_load.specs.declared.statement.Statement.{Statement}

abbrev FoundName : Type 0
FoundName = List ℕ × List Lexeme

one_kind : (k : TokenKind) (xs ys : List Lexeme) → cond (is_same_kind k Colons) (Some xs) None ≡ Some ys → cond (is_same_kind k Colon) (Some xs) None ≡ None
one_kind Word xs ys h = refl
one_kind Open xs ys h = refl
one_kind Close xs ys h = refl
one_kind Comma xs ys h = refl
one_kind Colon xs ys h = cc
one_kind Colons xs ys h = refl
one_kind Stop xs ys h = refl

other_kind : (k : TokenKind) (xs ys : List Lexeme) → cond (is_same_kind k Colon) (Some xs) None ≡ Some ys → cond (is_same_kind k Colons) (Some xs) None ≡ None
other_kind Word xs ys h = refl
other_kind Open xs ys h = refl
other_kind Close xs ys h = refl
other_kind Comma xs ys h = refl
other_kind Colon xs ys h = refl
other_kind Colons xs ys h = cc
other_kind Stop xs ys h = refl

no_colon : (xs ys : List Lexeme) → after_kind Colons xs ≡ Some ys → after_kind Colon xs ≡ None
no_colon [] ys h = refl
no_colon (x ∷ xs) ys h = one_kind x.kind xs ys h

no_colons : (xs ys : List Lexeme) → after_kind Colon xs ≡ Some ys → after_kind Colons xs ≡ None
no_colons [] ys h = refl
no_colons (x ∷ xs) ys h = other_kind x.kind xs ys h

or_nothing : (o : Option Statement) → or_else o None ≡ o
or_nothing None = refl
or_nothing (Some s) = refl

pub statement_line-colons : (names : List (List ℕ)) (words rest after : List Lexeme) (text : List ℕ) → name_at words ≡ Some (text, rest) → after_kind Colons rest ≡ Some after
    → after_colons names (place_of text names) after ≡ statement_line names words
statement_line-colons names words rest after text h k =
    let converse : converse_line names words ≡ after_colons names (place_of text names) after =
    ap (λ o. o >>= λ (first : FoundName). after_kind Colons first.1 >>= after_colons names (place_of first.0 names)) h ∙ ap (λ o. o >>= after_colons names (place_of text names)) k in
    let entry : entry_line names words ≡ None =
    ap (λ o. o >>= λ (first : FoundName). after_kind Colon first.1 >>= after_colon names (place_of first.0 names)) h
    ∙ ap (λ o. o >>= after_colon names (place_of text names)) (no_colon rest after k) in
    sym (ap (λ o. or_else o (entry_line names words)) converse ∙ ap (or_else (after_colons names (place_of text names) after)) entry ∙ or_nothing (after_colons names (place_of text names) after))

pub statement_line-colon : (names : List (List ℕ)) (words rest after : List Lexeme) (text : List ℕ) → name_at words ≡ Some (text, rest) → after_kind Colon rest ≡ Some after
    → after_colon names (place_of text names) after ≡ statement_line names words
statement_line-colon names words rest after text h k =
    let converse : converse_line names words ≡ None =
    ap (λ o. o >>= λ (first : FoundName). after_kind Colons first.1 >>= after_colons names (place_of first.0 names)) h
    ∙ ap (λ o. o >>= after_colons names (place_of text names)) (no_colons rest after k) in
    let entry : entry_line names words ≡ after_colon names (place_of text names) after =
    ap (λ o. o >>= λ (first : FoundName). after_kind Colon first.1 >>= after_colon names (place_of first.0 names)) h ∙ ap (λ o. o >>= after_colon names (place_of text names)) k in
    sym (ap (λ o. or_else o (entry_line names words)) converse ∙ entry)
