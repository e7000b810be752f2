use Rattle.edge_table.proofs.Passes.{GoesOn-narrows}
use Rattle.closure_workers.proofs.worker.narrow_note.Goals as goal

pub returns : goal.returns
returns g c =
    let e = c.narrow_from.ensures in
    record {
      looks_on = record {
        looking = record { pass = e.pass; snap = e.snap };
        goes_on = GoesOn-narrows (g.C.Compose.algebra c.args.site.now.c.now) _ _ _ c.args.pass.now c.narrow_from.new.pass e.narrows;
      };
    }
