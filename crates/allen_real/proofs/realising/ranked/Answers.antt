use Rattle.std.proofs.Common.{◌≡◌, true, false, refl, ap, ◌∙◌}
use Rattle.allen_real.specs.EndPoints.{end_point}
use Rattle.allen_real.specs.Classes.{classes_below}
use Rattle.allen_real.proofs.realising.ranked.Goals as goal

pub returns : goal.returns
returns c =
    let below = classes_below c.args.nodes c.args.bases.now c.args.members.now in
    let lo : c.classes_below.result ≡ below (end_point c.args.node false) =
    c.classes_below.ensures ∙ ap below c.begin.ensures in
    let hi : c.classes_below-2.result ≡ below (end_point c.args.node true) =
    c.classes_below-2.ensures ∙ ap below c.end.ensures in
    rw (lo, hi) refl
