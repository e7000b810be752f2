use Rattle.std.proofs.Common.{◌≡◌, ◌==◌, ap, sym, ◌∙◌}
use Rattle.serde_json.specs.View.{view}
use Rattle.cert_file.proofs.Lists.{has_count-array}
use Rattle.cert_file.proofs.entries.has_count.Goals as goal

pub returns-in-Some : goal.returns-in-Some
returns-in-Some c =
    let count : c.len.result ≡ _ = c.len.ensures ∙ c.in-Some.entries.now.ok.0 in
    ap (λ n. n == c.args.count) count ∙ sym (has_count-array c.args.count (view c.args.value.now) c.in-Some.entries.now.items c.in-Some.ensures)
