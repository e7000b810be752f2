-- The forms of the lines of a network file.
use Rattle.std.specs.Prelude.{ℕ, List, [], ◌∷◌, Bool, true, false, ◌&&◌, ◌==◌, length, Option, Some, None, codes, if◌then◌else◌}
use Rattle.qsr_lex.specs.Lexemes.{Lexeme}
use Rattle.qsr_lex.specs.Names.{is_name}
use Rattle.qsr_lex.specs.Numbers.{number_of}
use Rattle.qsr_lex.specs.LineTokens.{word_at, names_at, after_word, ◌>>=◌, at_end}
use Rattle.named_sets.specs.Named.{set_at}

-- `nodes N`: the number
abbrev pub nodes_form : List Lexeme → Option ℕ
nodes_form tokens = do
  after ← after_word (codes "nodes") tokens
  found ← word_at after
  nodes ← number_of found.0
  at_end nodes found.1

-- the names, where there are n
abbrev pub if_count : ℕ → List (List ℕ) → Option (List (List ℕ))
if_count n names = if length names == n then Some names else None

-- `names ( A B .. )`, with n names, of which this stands after the word `names`: the names
abbrev pub names_form : ℕ → List Lexeme → Option (List (List ℕ))
names_form n after = do
  found ← names_at after
  names ← if_count n found.0
  at_end names found.1

-- the nodes have names
abbrev pub is_named : List (List ℕ) → Bool
is_named [] = false
is_named (x ∷ xs) = true

-- what stands for a node: its number, or its name
pub data NodeToken : Type 0 where
  Number : (node : ℕ) → NodeToken
  Name : (name : List ℕ) → NodeToken

-- a word as a node: a number, or a name where the nodes have names
abbrev pub node_from : Bool → List ℕ → Option ℕ → Option NodeToken
node_from named word (Some node) = Some (Number node)
node_from named word None = if named && is_name word then Some (Name word) else None

abbrev pub node_token : Bool → List ℕ → Option NodeToken
node_token named word = node_from named word (number_of word)

-- a node at the front, and what stands after it
abbrev pub node_at : Bool → List Lexeme → Option (NodeToken × List Lexeme)
node_at named tokens = do
  found ← word_at tokens
  token ← node_token named found.0
  Some (token, found.1)

-- the tokens of a fact's line: its two nodes, and its set, where each name is that of a base relation
pub record FactTokens : Type 0 where
  pub first : NodeToken
  pub second : NodeToken
  pub set : Option ℕ

-- `I J ( R .. )`
abbrev pub fact_form : List (List ℕ) → Bool → List Lexeme → Option FactTokens
fact_form bases named tokens = do
  first ← node_at named tokens
  second ← node_at named first.1
  set ← set_at bases second.1
  at_end (record { first = first.0; second = second.0; set = set.0 }) set.1
