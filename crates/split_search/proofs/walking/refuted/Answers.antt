use Rattle.std.proofs.Common.{◌+◌, ◌*◌, ◌≤◌, length, refl, sym, ap, subst, arith}
use Rattle.split_search.specs.declared.verdict.Verdict.TheVariants.{No}
use Rattle.split_search.specs.Ruled.{IsVerdict}
use Rattle.split_search.specs.Walks.{task_for}
use Rattle.split_search.proofs.Whole.{task-is, empty-verdict}
use Rattle.split_search.proofs.Tellings.{told-of}
use Rattle.split_search.proofs.walking.refuted.Goals as goal

pub returns : goal.returns
returns g c =
    let m = g.C.Compose.algebra c.args.c.now in
    let net = c.args.net.now in
    let class = c.args.class.now in
    let tree = c.in_ok-empty_tree.field-0 in
    let ruled : IsVerdict m net.nodes class c.args.budget net.words (No tree) =
    subst (λ xs. IsVerdict m net.nodes class c.args.budget net.words (No xs)) (sym c.in_ok-empty_tree.ensures)
    (empty-verdict m net.nodes class c.args.budget net.words c.lawful.ensures c.requires.network c.requires.empty) in
    let few : length tree ≤ 64 * c.args.budget + 1 = omega (arith, ap length c.in_ok-empty_tree.ensures) in
    told-of (task_for m net class c.args.budget)
    (task-is m m.size net class c.args.budget c.lawful.ensures refl c.requires.network c.requires.bases
    c.requires.budget) c.lawful.ensures (No tree) ruled few
