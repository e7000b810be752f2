use Rattle.edge_table.proofs.open_net.OpenNet.split.Given as goal

abbrev pub ghosts-cut : goal.ghosts-cut
ghosts-cut a = record { weight = a.left }
