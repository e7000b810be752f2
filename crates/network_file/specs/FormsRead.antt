-- The forms as the reader has them.
use Rattle.network_file.specs.LineForms.{NodeToken, Number, Name, FactTokens}
use Rattle.network_file.specs.declared.forms.NodeToken.TheVariants as read
use Rattle.network_file.specs.declared.forms.NodeToken.{NodeToken as ReadNode}
use Rattle.network_file.specs.declared.forms.FactTokens.{FactTokens as ReadFact}

-- a node's token
abbrev pub node_read : ReadNode → NodeToken
node_read (read.Number node) = Number node
node_read (read.Name name) = Name name.now

-- the tokens of a fact's line
abbrev pub fact_read : ReadFact → FactTokens
fact_read fact = record { first = node_read fact.first; second = node_read fact.second; set = fact.set }
