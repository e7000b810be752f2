use Rattle.std.proofs.Common.{refl, arith, ap}
use Rattle.network_words.specs.Network.{Network, IsShaped}
use Rattle.session_versions.proofs.Stores.{IsStore-first}
use Rattle.session_versions.proofs.store.Store.new.Goals as goal

pub invariant_of-result : goal.invariant_of-result
invariant_of-result c =
    let net = c.in-Ok.net in
    let shape : IsShaped net = rw (← c.net.view_is) c.net.invariant in
    let made = c.in-Ok.ensures.ok in
    let words = ap (λ (n : Network). n.words) made in
    record {
      store = rw (c.new-3.ensures.items, c.in-Ok-with_capacity.ensures.items, c.in_ok-calculus.ensures)
          (IsStore-first _ _ net c.lawful.ensures shape refl (rw (c.full.ensures, ← ap (λ (n : Network). n.nodes) made) at words));
      room = omega (arith, c.in-Ok-with_capacity.ensures.capacity);
    }
