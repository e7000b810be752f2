use Rattle.std.proofs.Common.{refl, arith}
use Rattle.network_words.proofs.Networks.{relation_between-converse}
use Rattle.edge_propagation.proofs.Planes.{set-fits}
use Rattle.edge_propagation.proofs.loading.load_pair.Goals as goal

pub put-requires-clause-fits : goal.put-requires-clause-fits
put-requires-clause-fits g c = set-fits (g.C.Compose.algebra c.args.c.now) c.relation_between-rel.result g.row.P c.relation_between-rel.ensures.within c.requires.enough

pub put-requires-2-clause-fits : goal.put-requires-2-clause-fits
put-requires-2-clause-fits g c = set-fits (g.C.Compose.algebra c.args.c.now) c.converse_of.result g.row.P c.converse_of.ensures.within c.requires.enough

pub returns-clause-value : goal.returns-clause-value
returns-clause-value g c =
    let order = c.requires.order in
    rw (
      c.put-2.ensures.value,
      c.put.ensures.value,
      c.converse_of.ensures.value,
      c.relation_between-rel.ensures.value,
      c.nodes.ensures.value,
      relation_between-converse (g.C.Compose.algebra c.args.c.now) c.args.work.now.nodes c.args.words.now c.args.i c.args.j c.lawful.ensures c.requires.network (λ e. omega arith),
    ) refl
