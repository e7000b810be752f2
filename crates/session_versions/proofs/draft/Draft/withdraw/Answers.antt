use Rattle.session_versions.proofs.Numbers.{AreNumbered-filter}
use Rattle.session_versions.proofs.draft.Draft.withdraw.Goals as goal

pub invariant_of-self : goal.invariant_of-self
invariant_of-self c = rw c.take_out.ensures (AreNumbered-filter _ _ _ c.self.invariant)
