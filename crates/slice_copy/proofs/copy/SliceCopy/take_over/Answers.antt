use Rattle.std.proofs.Common.{◌≡◌, ap, sym, refl, ◌∙◌, subst}
use Rattle.network_words.specs.Network.{IsNetwork}
use Rattle.edge_propagation.specs.Worklist.{Worklist}
use Rattle.slice_copy.specs.Copies.{CopyState, AreRowsOf}
use Rattle.edge_propagation.proofs.Loads.{AreConverses-in_step}
use Rattle.slice_copy.proofs.copy.SliceCopy.take_over.Goals as goal

pub returns-clause-is_open : goal.returns-clause-is_open
returns-clause-is_open g c =
    let m = g.C.Compose.algebra c.args.c.now in
    let words = c.args.words.now in
    let work = c.load_planes.new.work in
    let w = c.load_planes.ensures in
    let own = c.self.inside in
    let n = c.forget_notes.new.self.nodes in
    let same : n ≡ own.pairs.nodes = ap (λ (y : Worklist). y.nodes) c.forget_notes.ensures.rest in
    let named : own.pairs.nodes ≡ c.args.self.now.slice.nodes = ap (λ (y : CopyState). y.slice.nodes) c.self.view_is in
    let network : IsNetwork m n words = subst (λ x. IsNetwork m x words) (sym (same ∙ named)) c.requires.network in
    record {
      calculus = w.calculus;
      planes = w.planes;
      enough = w.enough;
      tables = w.tables;
      sets = AreConverses-in_step m n words work w.calculus network w.in_step;
      nodes = refl;
      rows = subst (λ x. AreRowsOf x c.args.from c.args.to c.rows_of-self-inside.result) (c.nodes.ensures.value ∙ sym (w.in_step.nodes ∙ same)) c.rows_of-self-inside.ensures;
    }
