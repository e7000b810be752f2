use Rattle.std.proofs.Common.{refl, sym, subst}
use Rattle.calculus_table.specs.Rel.{IsWithin}
use Rattle.calculus_table.proofs.Sets.{IsWithin-trans}
use Rattle.network_words.specs.Edge.{edge_between}
use Rattle.edge_table.specs.Passes.{seen_between}
use Rattle.edge_table.proofs.Passes.{Reads-less, Narrows-less, Narrows-closed, shown-relation, along-read}
use Rattle.edge_table.proofs.open_net.OpenNet.narrow.Goals as goal

pub narrow_by-word-requires-clause-along : goal.narrow_by-word-requires-clause-along
narrow_by-word-requires-clause-along g c =
    along-read (g.C.Compose.algebra c.args.c.now) c.args.self.now.opening.nodes c.args.i c.args.j c.args.k c.peek-first.result c.peek-second.result c.compose.result c.peek-first.new.pass c.peek-second.new.pass
    c.peek-first.ensures.pass.nodes c.requires.proper c.peek-second.ensures.reads c.peek-first.ensures.value c.peek-second.ensures.value c.compose.ensures.value

pub returns-clause-value : goal.returns-clause-value
returns-clause-value g c =
    let n = c.args.self.now.opening.nodes in
    shown-relation (g.C.Compose.algebra c.args.c.now) c.narrow_by-word.new.pass.nodes n (edge_between n c.args.i c.args.k) c.args.i c.args.k c.narrow_by-word.result c.oriented.result c.of.result
    c.narrow_by-word.new.pass.actor.seen refl c.narrow_by-word.ensures.pass.nodes c.narrow_by-word.ensures.shown c.of.ensures c.oriented.ensures.value

pub returns-clause-fresh : goal.returns-clause-fresh
returns-clause-fresh g c =
    let m = g.C.Compose.algebra c.args.c.now in
    let n = c.args.self.now.opening.nodes in
    let first = c.peek-first.new.pass in
    let second = c.peek-second.new.pass in
    let last = c.narrow_by-word.new.pass in
    let i = c.args.i in
    let k = c.args.k in
    subst (λ x. IsWithin x (seen_between m c.args.pass.now i k)) (sym (returns-clause-value g c))
    (IsWithin-trans (seen_between m last i k) (seen_between m second i k) (seen_between m c.args.pass.now i k) (Narrows-less m i c.args.j k i k second last c.narrow_by-word.ensures.narrows)
    (IsWithin-trans (seen_between m second i k) (seen_between m first i k) (seen_between m c.args.pass.now i k)
    (Reads-less m (edge_between n c.args.j k) i k first second c.peek-second.ensures.reads)
    (Reads-less m (edge_between n i c.args.j) i k c.args.pass.now first c.peek-first.ensures.reads)))

pub returns-clause-closed : goal.returns-clause-closed
returns-clause-closed g c =
    let m = g.C.Compose.algebra c.args.c.now in
    let n = c.args.self.now.opening.nodes in
    let along = along-read m n c.args.i c.args.j c.args.k c.peek-first.result c.peek-second.result c.compose.result c.peek-first.new.pass c.peek-second.new.pass
    c.peek-first.ensures.pass.nodes c.requires.proper c.peek-second.ensures.reads c.peek-first.ensures.value c.peek-second.ensures.value c.compose.ensures.value in
    Narrows-closed m n c.args.i c.args.j c.args.k c.compose.result c.narrow_by-word.result c.peek-second.new.pass c.narrow_by-word.new.pass c.lawful.ensures c.requires.proper
    c.peek-second.ensures.pass.nodes c.narrow_by-word.ensures.narrows along c.compose.ensures.within c.narrow_by-word.ensures.shown c.narrow_by-word.ensures.along
