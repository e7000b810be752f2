use Rattle.edge_table.proofs.Rules.{IsKept-opened}
use Rattle.edge_table.proofs.open_net.open.Goals as goal

pub of_words-requires : goal.of_words-requires
of_words-requires g c =
    rw (c.in_ok-opening.ensures, c.words_of_table-words.ensures)
    (IsKept-opened (g.C.Compose.algebra c.args.c.now) c.args.net.now c.args.weight c.lawful.ensures c.requires.network c.requires.some c.requires.bounded)
