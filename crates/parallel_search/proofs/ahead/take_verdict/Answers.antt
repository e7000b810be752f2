use Rattle.std.proofs.Common.{length, slice_index_or, subst, sym, ap, ◌∙◌, arith}
use Rattle.std.specs.List.{All}
use Rattle.parallel_search.specs.Jobs.{IsAnsweredBy}
use Rattle.parallel_search.proofs.Taking.{All-taken}
use Rattle.parallel_search.proofs.ahead.take_verdict.Goals as goal

pub returns-then-is_at-clause-others : goal.returns-then-is_at-clause-others
returns-then-is_at-clause-others g c =
    let P = IsAnsweredBy (g.C.Compose.algebra c.args.site.now.c.now) c.args.site.now.nodes c.args.site.now.class.now in
    let old = c.loop-k.done in
    let new = c.swap_remove.new.self in
    All-taken P old.items new.items c.loop-k.k
    (record {
      below = omega (arith, c.loop-k-test.true, c.len-k-end.ensures, ap length c.loop-k.invariant, old.ok.0);
      len = omega (arith, c.swap_remove.ensures.len, old.ok.0, new.ok.0);
      here = λ d l. c.swap_remove.ensures.by_index.0 d (omega (arith, l, old.ok.0))
          ∙ ap (λ k. slice_index_or old.items k d) (omega (arith, old.ok.0));
      others = λ k d ne l. c.swap_remove.ensures.by_index.1 k d ne (omega (arith, l, old.ok.0));
    })
    (subst (All P) (sym c.loop-k.invariant) c.requires)
