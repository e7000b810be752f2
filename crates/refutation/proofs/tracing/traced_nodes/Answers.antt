use Rattle.std.proofs.Common.{◌≡◌, [], ◌∷◌, ◌++◌, not, reverse, refl, sym, ap, ◌∙◌, subst, slice_get, Some, arith}
use Rattle.std.specs.Prelude.{All}
use Rattle.std.proofs.lemmas.Option.{slice_get_read}
use Rattle.std.proofs.lemmas.List.Elements.{All-nil}
use Rattle.refutation.specs.declared.walking.Entered.{Entered}
use Rattle.split_trees.specs.Tree.{TreeNode, AreFewSteps, listed}
use Rattle.stepped_networks.specs.Networks.{NetworkStack}
use Rattle.stepped_networks.specs.Passes.{AreStepsOf}
use Rattle.refutation.specs.Tracings.{with_steps, is_cut}
use Rattle.refutation.proofs.Numbered.{formed-tree}
use Rattle.refutation.proofs.Tracings.{refuting-some, tracing-begun, traced-end}
use Rattle.refutation.proofs.tracing.traced_nodes.Goals as goal

pub bounds-nodes-0 : goal.bounds-nodes-0
bounds-nodes-0 g c = refuting-some (g.C.Compose.algebra c.args.c.now) c.args.net.now.nodes c.args.net.now.words c.args.nodes.now c.requires.refutes

pub trace_next-requires-clause-formed : goal.trace_next-requires-clause-formed
trace_next-requires-clause-formed g c = formed-tree c.args.net.now.nodes c.args.nodes.now c.requires.refutes.tree c.requires.refutes.stands

pub returns-clause-traced : goal.returns-clause-traced
returns-clause-traced g c =
    let s = c.loop-x.networks in
    traced-end (g.C.Compose.algebra c.args.c.now) c.args.net.now.nodes c.args.net.now.words c.args.nodes.now c.loop-x.x c.loop-x.traced.items (reverse c.loop-x.way.items) (s.top ∷ s.under)
    (omega arith) c.loop-x.invariant.tracing

pub loop-x-init : goal.loop-x-init
loop-x-init g c =
    let m = g.C.Compose.algebra c.args.c.now in
    let n = c.args.net.now.nodes in
    let words = c.args.net.now.words in
    let nodes = c.args.nodes.now in
    let node = c.index-nodes-0.result in
    let there : slice_get nodes 0 ≡ Some node = slice_get_read nodes _ 0 node refl (refuting-some m n words nodes c.requires.refutes) c.index-nodes-0.is in
    let steps = c.in_ok-networks.steps.items in
    let stack = c.in_ok-networks.ensures.stack in
    let cut : not c.is_split-cut.result ≡ is_cut node = ap not c.is_split-cut.ensures in
    let are : AreStepsOf (is_cut node) m n words steps = subst (λ b. AreStepsOf b m n words steps) cut c.in_ok-networks.ensures.steps in
    let at : Entered = record { node = 0; next = 0 } in
    let traced : c.push_traced.new.traced.items ≡ with_steps node (listed steps) ∷ [] = c.in_ok-push_traced.ensures.traced ∙ ap (λ ys. ys ++ with_steps node (listed steps) ∷ []) c.new-traced.ensures.items in
    let way : reverse c.push_traced.new.way.items ≡ at ∷ [] = ap reverse (c.in_ok-push_traced.ensures.way ∙ ap (λ ys. ys ++ at ∷ []) c.new-way.ensures.items) in
    let begun = tracing-begun m n words nodes node steps c.in_ok-networks.networks.top at c.lawful.ensures c.requires.network c.requires.refutes there are stack.worked refl refl in
    record {
      tracing = rw (traced, way, stack.alone) begun;
      algebra = stack.algebra_is;
      nodes = stack.nodes_are;
      few = c.in_ok-push_traced.ensures.few (subst (All (λ (y : TreeNode). AreFewSteps y.steps)) (sym c.new-traced.ensures.items) (All-nil (λ (y : TreeNode). AreFewSteps y.steps)));
    }

pub loop-x-preserved : goal.loop-x-preserved
loop-x-preserved g c =
    let before = c.loop-x.invariant in
    let traced = c.in_ok-trace_next.ensures in
    record {
      tracing = rw before.algebra at traced.tracing;
      algebra = ap (λ (s : NetworkStack). s.algebra) traced.rest ∙ before.algebra;
      nodes = ap (λ (s : NetworkStack). s.nodes) traced.rest ∙ before.nodes;
      few = traced.few before.few;
    }
