use Rattle.std.proofs.Common.{◌≡◌, length, map, None, sym, ap, ◌∙◌, subst, arith}
use Rattle.std.specs.String.{string_bytes}
use Rattle.std.proofs.lemmas.List.{length-map}
use Rattle.std.proofs.lemmas.Grind.{common_steps}
use Rattle.calculus_table.specs.Algebra.{Algebra}
use Rattle.calculus_table.specs.TableFault.{IsFaultOf}
use Rattle.calculus_load.specs.Given.{Given, algebra_of, first_missing, complete}
use Rattle.calculus_load.specs.TableFile.{IsLoadFaultOf}
use Rattle.calculus_load.proofs.Faults.{checked_fault}
use Rattle.calculus_load.proofs.draft.Draft.finish.Goals as goal

pub returns : goal.returns
returns c =
    let i = c.self.inside in
    let g : Given = record { names = map string_bytes i.names.items; identity = i.identity; converses = i.converses.items; entries = i.entries.items } in
    let all : length g.names ≡ length i.names.items = length-map i.names.items string_bytes in
    let checked : Algebra = record { size = length i.names.items; identity = i.identity; converses = c.deref-5.result.now; table = c.deref-6.result.now } in
    let same : checked ≡ algebra_of g = grind (arith, common_steps) in
    let converses : first_missing i.converses.items ≡ None = ap first_missing (sym c.deref.ensures.value) ∙ sym c.first_missing.ensures.value ∙ c.in_default.is in
    let entries : first_missing i.entries.items ≡ None = ap first_missing (sym c.deref-2.ensures.value) ∙ sym c.first_missing-2.ensures.value ∙ c.in_default-first_missing.is in
    record {
      ok = tt;
      lawful = tt;
      fault = rw (← c.self.view_is) (subst (λ e. IsLoadFaultOf (complete g) e) (sym c.of_table.ensures)
          (checked_fault g c.in-Err.fault converses entries (subst (λ m. IsFaultOf g.names m c.in-Err.fault) same c.in-Err.ensures.fault)));
    }
