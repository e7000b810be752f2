use Rattle.std.proofs.Common.{arith, subst}
use Rattle.network_words.specs.Edge.{IsProperTriple}
use Rattle.network_words.specs.Closure.{IsClosedAt}
use Rattle.closure_workers.proofs.Looks.{Looks-none, Looks-then, Looks-weaken, Looks-narrow, below-more}
use Rattle.closure_workers.proofs.slices.narrow_edge.Goals as goal
use Rattle.closure_workers.proofs.slices.narrow_edge.Goals.{then-j-i+then-j-k, else-j-i, else-j-i-via-then-j-i+else-j-k, else-j-i-via-else-j-i}

pub loop-j-init : goal.loop-j-init
loop-j-init g c = record { looks = Looks-none c.requires.looking (λ j b. absurd (omega arith)) }

pub loop-j-preserved : goal.loop-j-preserved
loop-j-preserved g c = elim c.if-j-i.branch [
  | then-j-i+then-j-k w ↦
      (let m = g.C.Compose.algebra c.args.c.now in
      let e = w.narrow_from-less.ensures in
      let after = w.narrow_from-less.new.pass in
      rw (w.pass-is, w.snap-is, w.less-is) (record {
        looks = Looks-then c.loop-j.invariant.looks
            (Looks-narrow m c.args.i c.loop-j.j c.args.k c.loop-j.pass after w.narrow_from-less.result (record { pass = e.pass; snap = e.snap }) c.requires.order e.narrows e.less
            (λ (t : IsProperTriple c.args.table.now.opening.nodes c.args.i c.loop-j.j c.args.k). subst (λ n. IsClosedAt m n after.actor.seen c.args.i c.loop-j.j c.args.k) e.pass.nodes e.closed))
            (λ words h p. below-more _ c.loop-j.j h p);
      }))
  | else-j-i w ↦ rw (w.pass-is, w.snap-is, w.less-is) (record {
    looks = Looks-weaken c.loop-j.invariant.looks (λ words h. below-more _ c.loop-j.j h (λ t. elim w.else-j-i.branch [
      | else-j-i-via-then-j-i+else-j-k v ↦ absurd (t.second_third (omega arith))
      | else-j-i-via-else-j-i v ↦ absurd (t.first_second (omega arith))
    ]));
  })
]

pub returns : goal.returns
returns g c = record { looks = Looks-weaken c.loop-j.invariant.looks (λ words h j t. h j (let b = t.second_below in omega arith) t) }
