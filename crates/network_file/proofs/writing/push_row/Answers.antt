use Rattle.std.proofs.Common.{◌+◌, ◌++◌, [], refl, ◌∙◌, ap, sym, arith, cond}
use Rattle.std.specs.String.{string_bytes}
use Rattle.std.proofs.lemmas.Bool.{le-ltb, lt-ltb}
use Rattle.network_file.specs.NetworkText.{later_line, edge_line}
use Rattle.qsr_lex.proofs.WrittenTexts.{empty_written, more_written}
use Rattle.network_file.proofs.writing.push_row.Goals as goal

pub loop-j-init : goal.loop-j-init
loop-j-init c = record {
  text = empty_written (string_bytes c.args.text.now) (c.args.i + 1) (later_line c.args.sets.now c.args.net.now c.args.i)
      (λ k b. ap (λ t. cond t (edge_line c.args.sets.now c.args.net.now c.args.i k) []) (le-ltb c.args.i k (omega arith)));
  sets = refl;
}

pub returns-in_err-push_edge-clause-sets : goal.returns-in_err-push_edge-clause-sets
returns-in_err-push_edge-clause-sets c = c.push_edge.ensures.sets ∙ c.loop-j.invariant.sets

pub loop-j-preserved : goal.loop-j-preserved
loop-j-preserved c =
    let sets = c.args.sets.now in
    record {
      text = more_written (string_bytes c.args.text.now) (string_bytes c.loop-j.text) (string_bytes c.push_edge.new.text) c.loop-j.j (later_line sets c.args.net.now c.args.i) c.loop-j.invariant.text
          (c.in_ok-push_edge.ensures.text ∙ ap (λ s. string_bytes c.loop-j.text ++ edge_line s c.args.net.now c.args.i c.loop-j.j) c.loop-j.invariant.sets
          ∙ ap (λ t. string_bytes c.loop-j.text ++ cond t (edge_line sets c.args.net.now c.args.i c.loop-j.j) []) (sym (lt-ltb c.args.i c.loop-j.j (omega arith))));
      sets = c.push_edge.ensures.sets ∙ c.loop-j.invariant.sets;
    }
