use Rattle.std.proofs.Common.{◌≡◌, ◌≢◌, ℕ, map, slice_get, Some, sym, ap, ◌∙◌, below_more, arith}
use Rattle.std.specs.String.{string_bytes}
use Rattle.std.proofs.lemmas.List.{length-map}
use Rattle.std.proofs.lemmas.Option.{slice_get_within}
use Rattle.calculus_table.proofs.PlacesOfNames.{name_read, equal_names, other_names, place_of-first, place_of-none}
use Rattle.calculus_table.proofs.names.place_of.Goals as goal

-- the name stands here
there : (c : goal.Then-eq) → slice_get (map string_bytes c.args.names.now) c.loop-r.r ≡ Some c.args.name.now
there c =
    let here = name_read c.args.names.now c.loop-r.r c.index-names-r.result (omega arith) c.index-names-r.is in
    here ∙ ap Some (equal_names (string_bytes c.index-names-r.result) c.args.name.now c.eq.result (rw c.as_bytes.ensures.value at c.eq.ensures) c.if-eq.true)

-- the name stands nowhere
nowhere : (c : goal.After-loop-r) → (r : ℕ) → slice_get (map string_bytes c.args.names.now) r ≢ Some c.args.name.now
nowhere c r same =
    c.loop-r.invariant r (omega (arith, slice_get_within (map string_bytes c.args.names.now) r c.args.name.now same, length-map c.args.names.now string_bytes)) same

pub returns-then-eq-clause-value : goal.returns-then-eq-clause-value
returns-then-eq-clause-value c = sym (place_of-first (map string_bytes c.args.names.now) c.args.name.now c.loop-r.r c.loop-r.invariant (there c))

pub returns-then-eq-clause-stands : goal.returns-then-eq-clause-stands
returns-then-eq-clause-stands c = (c.loop-r-test.true, there c)

pub loop-r-preserved : goal.loop-r-preserved
loop-r-preserved c =
    let here = name_read c.args.names.now c.loop-r.r c.index-names-r.result (omega arith) c.index-names-r.is in
    below_more _ _ c.loop-r.invariant (λ same.
    other_names (string_bytes c.index-names-r.result) c.args.name.now c.eq.result (rw c.as_bytes.ensures.value at c.eq.ensures) c.if-eq.false cc)

pub returns-clause-value : goal.returns-clause-value
returns-clause-value c = sym (place_of-none (map string_bytes c.args.names.now) c.args.name.now (nowhere c))

pub returns-clause-stands : goal.returns-clause-stands
returns-clause-stands = nowhere
