use Rattle.std.proofs.Common.{◌≡◌, ◌∷◌, [], ◌++◌, rules}
use Rattle.std.proofs.lemmas.Bool.{MatchBool-at_true, MatchBool-at_false}
use Rattle.allen_real.specs.Classes.{HasClass, IsNew}
use Rattle.allen_real.proofs.Members.{members-known, members-new}
use Rattle.allen_real.proofs.classes.add.Goals as goal

pub returns-in_ok-map_err : goal.returns-in_ok-map_err
returns-in_ok-map_err c =
    let n = c.args.nodes in
    let relations = c.args.bases.now in
    let old = c.args.members.now.items in
    let pushed : c.push.new.self.items ≡ old ++ c.args.q ∷ [] = search rules in
    let found = HasClass n relations c.deref.result.now c.args.q in
    let is_new : IsNew n relations c.deref.result.now c.args.q =
    MatchBool-at_false found _ (search rules) c.has_class.ensures in
    let is_new_of_old : IsNew n relations old c.args.q = rw c.deref.ensures.value at is_new in
    rw pushed (members-new n relations old c.args.q c.requires.of_node c.requires.members is_new_of_old)

pub returns-else-not-has_class : goal.returns-else-not-has_class
returns-else-not-has_class c =
    let n = c.args.nodes in
    let relations = c.args.bases.now in
    let old = c.args.members.now.items in
    let is_new = IsNew n relations c.deref.result.now c.args.q in
    let known : HasClass n relations c.deref.result.now c.args.q =
    MatchBool-at_true _ is_new (search rules) c.has_class.ensures in
    let known_of_old : HasClass n relations old c.args.q = rw c.deref.ensures.value at known in
    members-known n relations old c.args.q c.requires.members known_of_old
