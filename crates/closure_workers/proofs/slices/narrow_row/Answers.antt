use Rattle.std.proofs.Common.{◌≡◌, ◌<◌, ◌∙◌, sym, subst, arith}
use Rattle.network_words.specs.Edge.{edge_at}
use Rattle.network_words.proofs.Edges.{edge_between-forward}
use Rattle.closure_workers.proofs.Looks.{Looks-none, Looks-then, Looks-weaken, between-more}
use Rattle.closure_workers.proofs.slices.narrow_row.Goals as goal
use Rattle.closure_workers.proofs.slices.narrow_row.Goals.{then-slice-edge+then-edge-slice, else-slice-edge, else-slice-edge-via-then-slice-edge+else-edge-slice, else-slice-edge-via-else-slice-edge}

pub loop-k-init : goal.loop-k-init
loop-k-init g c = record { looks = Looks-none c.requires.looking (λ k a b. absurd (omega arith)) }

pub loop-k-preserved : goal.loop-k-preserved
loop-k-preserved g c =
    let n = c.args.table.now.opening.nodes in
    let order : c.args.i < c.loop-k.k = omega arith in
    let edge : c.edge_between-edge.result ≡ edge_at c.nodes-nodes.result c.args.i c.loop-k.k =
    c.edge_between-edge.ensures.value ∙ edge_between-forward c.nodes-nodes.result c.args.i c.loop-k.k order in
    elim c.if-slice-edge.branch [
      | then-slice-edge+then-edge-slice w ↦ rw (w.pass-is, w.snap-is, w.less-is) (record {
        looks = Looks-then c.loop-k.invariant.looks w.narrow_edge-less.ensures.looks (λ words h p. between-more _ c.args.i c.loop-k.k h (λ f t. p));
      })
      | else-slice-edge w ↦ rw (w.pass-is, w.snap-is, w.less-is) (record {
        looks = Looks-weaken c.loop-k.invariant.looks (λ words h. between-more _ c.args.i c.loop-k.k h (λ f t. elim w.else-slice-edge.branch [
          | else-slice-edge-via-then-slice-edge+else-edge-slice v ↦ absurd (let at : edge_at n c.args.i c.loop-k.k ≡ c.edge_between-edge.result = sym (subst (λ y. c.edge_between-edge.result ≡ edge_at y c.args.i c.loop-k.k) c.nodes-nodes.ensures.value edge) in omega (arith, at, f, t))
          | else-slice-edge-via-else-slice-edge v ↦ absurd (let at : edge_at n c.args.i c.loop-k.k ≡ c.edge_between-edge.result = sym (subst (λ y. c.edge_between-edge.result ≡ edge_at y c.args.i c.loop-k.k) c.nodes-nodes.ensures.value edge) in omega (arith, at, f, t))
        ]));
      })
    ]

pub returns : goal.returns
returns g c = record { looks = Looks-weaken c.loop-k.invariant.looks (λ words h k a b. h k a (omega arith)) }
