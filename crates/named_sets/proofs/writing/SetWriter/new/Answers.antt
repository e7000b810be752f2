use Rattle.std.proofs.Common.{Option, None, sym, subst, ap, ◌∙◌, length, All}
use Rattle.std.specs.String.{string_bytes}
use Rattle.std.proofs.lemmas.List.{length-replicate}
use Rattle.std.proofs.lemmas.List.Elements.{All-replicate}
use Rattle.named_sets.specs.declared.writing.KeptLine.{KeptLine}
use Rattle.named_sets.specs.Kept.{IsKeptThere}
use Rattle.named_sets.proofs.writing.SetWriter.new.Goals as goal

pub invariant_of-result : goal.invariant_of-result
invariant_of-result c =
    let none : Option KeptLine = None in
    let lines = string_bytes c.in-Ok.lines in
    record {
      count = ap length c.in-Ok-empty_places.ensures ∙ length-replicate 256 none;
      each = subst (All (IsKeptThere c.args.c.now lines)) (sym c.in-Ok-empty_places.ensures) (All-replicate (IsKeptThere c.args.c.now lines) 256 none tt);
    }
