use Rattle.std.proofs.Common.{◌≡◌, ◌<◌, ◌∙◌, sym, subst, ap, arith}
use Rattle.std.specs.Prelude.{bit_and}
use Rattle.calculus_table.specs.Rel.{IsWithin}
use Rattle.calculus_table.specs.Composition.{full_of}
use Rattle.calculus_table.proofs.Sets.{IsWithin-trans, IsWithin-meet_r}
use Rattle.network_words.specs.Edge.{edge_count, edge_between}
use Rattle.network_words.specs.Network.{oriented}
use Rattle.network_words.proofs.Pairs.{pair-outer, edge_between-lt}
use Rattle.edge_table.specs.Opening.{opening_of, algebra_of}
use Rattle.edge_table.specs.declared.sight.Sight.{Sight}
use Rattle.edge_table.proofs.Rules.{length-padded}
use Rattle.edge_table.proofs.Steps.{seat_narrows}
use Rattle.edge_table.proofs.Passes.{IsPass-sees, operand-of}
use Rattle.edge_table.proofs.open_net.OpenNet.narrow_by.Goals as goal

pub fetch_and-found-requires : goal.fetch_and-found-requires
fetch_and-found-requires g c =
    let table = c.self.inside.table.shared in
    let o = opening_of table.key.views in
    let own = rw (← c.self.view_is, ← c.pass.view_is) at c.requires.pass in
    let calculus = rw (← c.self.view_is) at c.requires.calculus in
    let proper = rw (← c.self.view_is) at c.requires.proper in
    let along = rw (← c.pass.view_is) at c.requires.along in
    let edge : c.edge_between-edge.result ≡ edge_between o.nodes c.args.i c.args.k =
    c.edge_between-edge.ensures.value ∙ ap (λ n. edge_between n c.args.i c.args.k) c.self.invariant.nodes_are in
    let below : edge_between o.nodes c.args.i c.args.k < edge_count o.nodes = edge_between-lt o.nodes c.args.i c.args.k (pair-outer o.nodes c.args.i c.args.j c.args.k proper) in
    let seat = c.pass.inside.seat in
    let operand = operand-of (g.C.Compose.algebra c.args.c.now) (algebra_of o) c.pass.inside.nodes o.nodes seat.me.0.actor.seen c.args.i c.args.j c.args.k c.args.along
    c.word-operand.result c.oriented.result calculus own.nodes along c.oriented.ensures.value c.word-operand.ensures in (
      own.id,
      omega (arith, c.self.invariant.words, c.self.invariant.length_is, length-padded o.words, below, edge),
      seat_narrows o table.table_id.slots seat.id c.edge_between-edge.result c.args.i c.args.j c.args.k c.word-operand.result seat.me
          c.pass.invariant.carries c.pass.invariant.live proper edge operand,
    )

pub invariant_of-pass : goal.invariant_of-pass
invariant_of-pass g c =
    IsPass-sees c.pass.inside.weight c.pass.inside.nodes c.pass.inside.full c.pass.inside.seat.table_id c.fetch_and-found.new.seat.table_id c.pass.inside.seat.me c.fetch_and-found.new.seat.me
    c.edge_between-edge.result (bit_and c.fetch_and-found.result c.word-operand.result) c.pass.invariant (ap (λ (v : Sight). v.actor) c.fetch_and-found.ensures.2.after) c.fetch_and-found.ensures.2.carries

pub returns-clause-along : goal.returns-clause-along
returns-clause-along g c =
    let operand : c.word-operand.result ≡ oriented (g.C.Compose.algebra c.args.c.now) c.args.i c.args.k c.args.along = c.word-operand.ensures ∙ c.oriented.ensures.value in
    subst (IsWithin (bit_and c.fetch_and-found.result c.word-operand.result)) operand (IsWithin-meet_r c.fetch_and-found.result c.word-operand.result)

pub returns-clause-within : goal.returns-clause-within
returns-clause-within g c =
    IsWithin-trans _ _ _ (IsWithin-meet_r c.fetch_and-found.result c.word-operand.result)
    (subst (λ x. IsWithin x (full_of (g.C.Compose.algebra c.args.c.now))) (sym c.word-operand.ensures) c.oriented.ensures.within)
