use Rattle.std.proofs.Common.{◌≡◌, Some, Ok, false, true, map, sym, ap, ◌∙◌, subst}
use Rattle.std.specs.String.{string_bytes}
use Rattle.network_words.specs.NetFault.{IsNamesFaultOf}
use Rattle.network_file.specs.LineForms.{names_form}
use Rattle.network_file.specs.NetworkFile.{has_twice}
use Rattle.network_file.proofs.NamesLine.{has_twice-distinct, has_twice-repeat, names_line-read, names_line-twice}
use Rattle.network_file.proofs.reading.read_names.Goals as goal

pub returns-in-Ok-set_names-clause-ok : goal.returns-in-Ok-set_names-clause-ok
returns-in-Ok-set_names-clause-ok c =
    let names = map string_bytes c.in-Ok-owned_names.names.items in
    let tokens = c.in-Some.line.tokens in
    let form : names_form c.args.net.now.nodes tokens ≡ Some names =
    ap (λ n. names_form n tokens) (sym c.nodes.ensures.value) ∙ c.in-Ok.ensures.ok ∙ ap Some (sym (c.in-Ok-owned_names.ensures ∙ ap (map (λ name. name.now)) c.deref.ensures.value)) in
    let once : has_twice names ≡ false = has_twice-distinct names c.in-Ok-set_names.ensures.distinct in
    names_line-read c.args.net.now.nodes c.in-Some.line.number c.args.lines.now.lines c.next_line_of.new.self.lines tokens names c.in-Some.ensures.lines form once
    ∙ ap (λ ns. Ok (ns, c.next_line_of.new.self.lines)) (sym (ap (λ net. net.names) c.in-Ok-set_names.ensures.ok))

pub returns-in-Err-NameTwice-clause-fault : goal.returns-in-Err-NameTwice-clause-fault
returns-in-Err-NameTwice-clause-fault c = λ other.
    let names = map string_bytes c.in-Ok-owned_names.names.items in
    let tokens = c.in-Some.line.tokens in
    let form : names_form c.args.net.now.nodes tokens ≡ Some names =
    ap (λ n. names_form n tokens) (sym c.nodes.ensures.value) ∙ c.in-Ok.ensures.ok ∙ ap Some (sym (c.in-Ok-owned_names.ensures ∙ ap (map (λ name. name.now)) c.deref.ensures.value)) in
    let twice : has_twice names ≡ true = has_twice-repeat names c.in-Err-NameTwice.field-0-0 (subst (IsNamesFaultOf names) c.in-Err-NameTwice.field-0-is c.in-Err-NameTwice.ensures.fault) in
    names_line-twice c.args.net.now.nodes c.in-Some.line.number c.args.lines.now.lines c.next_line_of.new.self.lines tokens names c.in-Some.ensures.lines form twice
