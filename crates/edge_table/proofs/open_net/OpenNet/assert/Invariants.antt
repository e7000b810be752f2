use Rattle.edge_table.proofs.open_net.OpenNet.assert.Given as goal

abbrev pub ghosts-state : goal.ghosts-state
ghosts-state g a = record { fact = a.fact }
