use Rattle.std.proofs.Common.{◌≡◌, None, Some, ap, sym, ◌∙◌, arith, rules}
use Rattle.qsr_lex.specs.declared.tokens.TokenKind.TheVariants.{Comma}
use Rattle.geo_facts.specs.LineForm.{ring_at}
use Rattle.geo_facts.proofs.FormLines.{rings-step, rings-bad, rings-end, IsHole-more, after_kind-less}
use Rattle.geo_facts.proofs.line.pass_rings.Goals as goal

pub loop-alloc-preserved : goal.loop-alloc-preserved
loop-alloc-preserved c =
    let tokens = c.loop-alloc.tokens in
    let mid = c.take_kind.new.self in
    let new = c.read_ring.new.tokens in
    let read = c.in_ok-read_ring.ensures in
    record {
      told = sym (rings-step tokens mid new c.in_ok-read_ring.field-0.items c.loop-alloc-test.ensures read.ring (omega (arith, read.few))) ∙ c.loop-alloc.invariant.told;
      hole = IsHole-more c.loop-alloc.hole c.args.tokens.now tokens mid new c.loop-alloc-test.ensures c.loop-alloc.invariant.hole;
    }

pub loop-alloc-smaller : goal.loop-alloc-smaller
loop-alloc-smaller c =
    omega (arith, c.in_ok-read_ring.ensures.few, after_kind-less Comma c.loop-alloc.tokens c.take_kind.new.self c.loop-alloc-test.ensures)

pub returns-in_err-read_ring-clause-fault : goal.returns-in_err-read_ring-clause-fault
returns-in_err-read_ring-clause-fault c = λ e.
    let none : ring_at c.take_kind.new.self ≡ None = c.in_err-read_ring.ensures.fault (search rules) in
    sym c.loop-alloc.invariant.told ∙ rings-bad c.loop-alloc.tokens c.take_kind.new.self c.loop-alloc-test.ensures none

pub returns-clause-rings : goal.returns-clause-rings
returns-clause-rings c =
    sym c.loop-alloc.invariant.told ∙ rings-end c.loop-alloc.tokens c.loop-alloc-test.ensures.0 ∙ ap Some (sym c.loop-alloc-test.ensures.1)
