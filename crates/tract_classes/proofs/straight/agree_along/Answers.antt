use Rattle.std.proofs.Common.{ℕ, List, get_or, refl, sym, subst}
use Rattle.std.specs.Prelude.{Contains}
use Rattle.std.proofs.lemmas.Bool.{false≢true, both_ways}
use Rattle.std.proofs.lemmas.List.Elements.{Contains-get_or}
use Rattle.calculus_table.specs.Rel.{IsWithin}
use Rattle.calculus_table.specs.Algebra.{Algebra}
use Rattle.calculus_table.specs.Composition.{full_of}
use Rattle.calculus_table.proofs.Members.{full-member}
use Rattle.tract_classes.specs.Straight.{IsLeast, IsClosedTriple, Agree}
use Rattle.tract_classes.proofs.FirstMembers.{one_more, no_more, not_each}
use Rattle.tract_classes.proofs.AgreeingTriples.{agree-from_least, least-from_agree}
use Rattle.tract_classes.proofs.straight.agree_along.Goals as goal
use Rattle.tract_classes.proofs.straight.agree_along.Goals.{else-within-via-then-within+then-not-has_least_of+else-are_sides_of}
use Rattle.tract_classes.proofs.straight.agree_along.Goals.{else-within-via-then-within+else-not-has_least_of}
use Rattle.tract_classes.proofs.straight.agree_along.Goals.{else-within-via-else-within}

pub compose_bases-least-requires-clause-first : goal.compose_bases-least-requires-clause-first
compose_bases-least-requires-clause-first g c =
    let r : ℕ = c.least.result in
    full-member (g.C.Compose.algebra c.args.c.now) r (c.requires.first.each r c.least.ensures.member)

pub compose_bases-least-requires-clause-second : goal.compose_bases-least-requires-clause-second
compose_bases-least-requires-clause-second g c =
    let s : ℕ = c.least-2.result in
    full-member (g.C.Compose.algebra c.args.c.now) s (c.requires.second.each s c.least-2.ensures.member)

pub are_sides_of-requires-clause-third : goal.are_sides_of-requires-clause-third
are_sides_of-requires-clause-third g c =
    let full : ℕ = full_of (g.C.Compose.algebra c.args.c.now) in
    let items : List ℕ = c.members-word-items.result.now in
    let d : ℕ = get_or items c.loop-word.word-index 0 in
    let member : Contains items d = Contains-get_or items c.loop-word.word-index 0 c.loop-word-test.true in
    subst (λ x. IsWithin x full) (sym c.of-d.ensures)
    (c.requires.sets d (subst (λ xs. Contains xs d) c.members-word-items.ensures.value member))

pub returns-then-are_sides_of : goal.returns-then-are_sides_of
returns-then-are_sides_of g c =
    let m : Algebra = g.C.Compose.algebra c.args.c.now in
    let a : ℕ = c.args.a in
    let b : ℕ = c.args.b in
    let d : ℕ = c.of-d.result in
    let r : ℕ = c.least.result in
    let s : ℕ = c.least-2.result in
    let first : IsLeast a r = record { here = c.least.ensures.member; least = c.least.ensures.least } in
    let second : IsLeast b s = record { here = c.least-2.ensures.member; least = c.least-2.ensures.least } in
    let sides = c.are_sides_of.ensures.0 c.if-are_sides_of.true in
    let closed : IsClosedTriple m a b d = record {
      across = subst (IsWithin d) c.compose-across.ensures.value (c.within.ensures.0 c.if-within.true);
      first = sides.0;
      second = sides.1;
    } in
    let least = least-from_agree m a b d r s c.compose_bases-least.result first second c.compose_bases-least.ensures in
    let none : ¬ Agree m a b d = λ agree.
    both_ways c.has_least_of.result c.if-not-has_least_of.true (c.has_least_of.ensures.1 (least closed agree)) in
    let items : List ℕ = c.members-word-items.result.now in
    let given = c.members-word-items.ensures in (
      λ e. absurd (false≢true e),
      λ all. absurd (not_each c.args.class.now items given.class.ascending given.value c.loop-word.word-index
          (Agree m a b) c.loop-word-test.true (λ agree. none (subst (Agree m a b) (sym c.of-d.ensures) agree)) all),
    )

pub loop-word-preserved : goal.loop-word-preserved
loop-word-preserved g c =
    let m : Algebra = g.C.Compose.algebra c.args.c.now in
    let a : ℕ = c.args.a in
    let b : ℕ = c.args.b in
    let d : ℕ = c.of-d.result in
    let r : ℕ = c.least.result in
    let s : ℕ = c.least-2.result in
    let first : IsLeast a r = record { here = c.least.ensures.member; least = c.least.ensures.least } in
    let second : IsLeast b s = record { here = c.least-2.ensures.member; least = c.least-2.ensures.least } in
    let agree = agree-from_least m a b d r s c.compose_bases-least.result first second c.compose_bases-least.ensures in
    let here : Agree m a b d = elim c.else-within.branch [
      | else-within-via-then-within+then-not-has_least_of+else-are_sides_of w ↦ λ p q t closed.
          let sides = w.are_sides_of.ensures.1 (closed.first, closed.second) in
          absurd (both_ways w.are_sides_of.result w.if-are_sides_of.false sides)
      | else-within-via-then-within+else-not-has_least_of w ↦ agree (w.has_least_of.ensures.0 w.if-not-has_least_of.false)
      | else-within-via-else-within w ↦ λ p q t closed.
          let across = subst (IsWithin d) (sym c.compose-across.ensures.value) closed.across in
          absurd (both_ways c.within.result w.if-within.false (c.within.ensures.1 across))
    ] in
    let items : List ℕ = c.members-word-items.result.now in
    let given = c.members-word-items.ensures in
    one_more c.args.class.now items given.class.ascending given.value c.loop-word.word-index (Agree m a b)
    c.loop-word.invariant (subst (Agree m a b) c.of-d.ensures here)

pub returns : goal.returns
returns g c =
    let m : Algebra = g.C.Compose.algebra c.args.c.now in
    let items : List ℕ = c.members-word-items.result.now in
    let given = c.members-word-items.ensures in (
      λ _. no_more c.args.class.now items given.class.ascending given.value c.loop-word.word-index
          (Agree m c.args.a c.args.b) c.loop-word.invariant c.loop-word-test.false,
      λ _. refl,
    )
