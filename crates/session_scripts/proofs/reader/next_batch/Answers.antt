use Rattle.std.proofs.Common.{◌≡◌, ◌⊎◌, ℕ, ◌-◌, ◌^◌, ◌≤◌, false, List, [], ◌∷◌, length, take, drop, Ok, Err, refl, sym, ap, subst, ◌∙◌, arith, inl, inr}
use Rattle.std.specs.Prelude.{IfOk, IfSome, MatchOption}
use Rattle.std.proofs.lemmas.List.{length-take, length-drop}
use Rattle.std.proofs.lemmas.Result.{err_from_is_err_and}
use Rattle.qsr_outside.specs.declared.reading.ReadStop.TheVariants.{ReadFault, Memory}
use Rattle.session_scripts.specs.Batches.{IsBatchFor}
use Rattle.session_scripts.specs.Scripts.{batches_of, committed_of, has_lf}
use Rattle.session_scripts.specs.Readers.{given_to}
use Rattle.session_scripts.specs.Readings.{IsRead, IsCommitted}
use Rattle.session_scripts.proofs.Readings.{committed-none}
use Rattle.session_scripts.proofs.BytesGiven.{TakesBytes-none, TakesBytes-trans, IsRead-taken, all_within, is_above, not_above, none_kept}
use Rattle.session_scripts.proofs.BytesGiven.{ReadsNext-commit, ReadsNext-long, ReadsNext-memory, ReadsNext-failed, ReadsNext-last}
use Rattle.session_scripts.proofs.reader.next_batch.Goals as goal

pub loop-committed-init : goal.loop-committed-init
loop-committed-init g c = record {
  read = c.new-reading.ensures.read c.new-bases.result c.args.nodes (take (c.args.input.now.limit - c.args.input.now.cut) c.args.input.now.kept);
  takes = TakesBytes-none c.args.input.now (g.S.Source.left c.args.source.now) (g.S.Source.given c.args.source.now);
  near = omega (arith, c.requires.few);
  faults = refl;
  waits = λ _. refl;
  documents = refl;
  absent_openings = refl;
}

pub read_lines-requires-clause-read : goal.read_lines-requires-clause-read
read_lines-requires-clause-read g c =
    subst (λ text. IsRead c.new-bases.result c.args.nodes text c.loop-committed.reading) (sym c.within.ensures.value) c.loop-committed.invariant.read

pub returns-in_default-clause-reads : goal.returns-in_default-clause-reads
returns-in_default-clause-reads g c =
    ReadsNext-memory c.args.c.now.names c.args.nodes c.args.input.now c.loop-committed.input (g.S.Source.left c.args.source.now) (g.S.Source.left c.loop-committed.source)
    (g.S.Source.given c.args.source.now) (g.S.Source.given c.loop-committed.source) (g.S.Source.faults c.args.source.now) (g.S.Source.faults c.loop-committed.source) Memory
    c.loop-committed.invariant.takes c.loop-committed.invariant.faults refl

pub cut_off-requires-clause-kept : goal.cut_off-requires-clause-kept
cut_off-requires-clause-kept g c =
    let input = c.loop-committed.input in
    let k = c.in-Ok.ensures.committed (ap Ok c.if-committed.true) in
    omega (arith, k.within, ap length c.within.ensures.value, length-take (input.limit - input.cut) input.kept)

pub cut_off-requires-clause-within : goal.cut_off-requires-clause-within
cut_off-requires-clause-within g c =
    let input = c.loop-committed.input in
    let k = c.in-Ok.ensures.committed (ap Ok c.if-committed.true) in
    omega (arith, k.within, k.some, ap length c.within.ensures.value, length-take (input.limit - input.cut) input.kept)

pub returns-then-committed-clause-reads : goal.returns-then-committed-clause-reads
returns-then-committed-clause-reads g c =
    let input = c.loop-committed.input in
    let r = c.read_lines.new.reading in
    let names : c.new-bases.result ≡ c.args.c.now.names = c.new-bases.ensures ∙ c.names.ensures.value in
    let over_names = subst (λ (bases : List (List ℕ)). IsCommitted bases c.args.nodes c.within.result.now r) names (c.in-Ok.ensures.committed (ap Ok c.if-committed.true)) in
    let committed = subst (λ text. IsCommitted c.args.c.now.names c.args.nodes text r) c.within.ensures.value over_names in
    let after = c.in-Ok.ensures.after_searched (ap Ok c.if-committed.true) in
    ReadsNext-commit c.args.c.now.names c.args.nodes c.args.input.now input c.cut_off.new.self (g.S.Source.left c.args.source.now) (g.S.Source.left c.loop-committed.source)
    (g.S.Source.given c.args.source.now) (g.S.Source.given c.loop-committed.source) (g.S.Source.faults c.args.source.now) (g.S.Source.faults c.loop-committed.source) r
    c.loop-committed.invariant.takes c.loop-committed.invariant.faults committed (omega (arith, c.loop-committed.invariant.near, after)) c.cut_off.ensures

pub returns-then-committed-clause-few : goal.returns-then-committed-clause-few
returns-then-committed-clause-few g c =
    let input = c.loop-committed.input in
    let r = c.read_lines.new.reading in
    let k = c.in-Ok.ensures.committed (ap Ok c.if-committed.true) in
    let after = c.in-Ok.ensures.after_searched (ap Ok c.if-committed.true) in
    let kept : length c.cut_off.new.self.kept ≡ length (drop r.from input.kept) = ap (λ s. length s.kept) c.cut_off.ensures in
    omega (arith, kept, length-drop r.from input.kept, c.loop-committed.invariant.near, after)

pub returns-then-committed-clause-fits : goal.returns-then-committed-clause-fits
returns-then-committed-clause-fits g c =
    let names : c.new-bases.result ≡ c.args.c.now.names = c.new-bases.ensures ∙ c.names.ensures.value in
    let size : length c.new-bases.result ≡ c.args.c.now.algebra.size = ap length names ∙ c.names.ensures.lawful.one_each in
    let k = c.in-Ok.ensures.committed (ap Ok c.if-committed.true) in
    subst (λ (size : ℕ). IsBatchFor (2 ^ size - 1) c.args.nodes c.read_lines.new.reading.batch) size k.fits

pub returns-then-is_too_long-clause-reads : goal.returns-then-is_too_long-clause-reads
returns-then-is_too_long-clause-reads g c =
    let input = c.loop-committed.input in
    let r = c.read_lines.new.reading in
    let names : c.new-bases.result ≡ c.args.c.now.names = c.new-bases.ensures ∙ c.names.ensures.value in
    let none : committed_of c.new-bases.result c.args.nodes c.within.result.now ≡ [] =
    committed-none c.new-bases.result c.args.nodes c.within.result.now r (c.in-Ok.ensures.read (ap Ok c.if-committed.false)) (c.in-Ok.ensures.all (ap Ok c.if-committed.false)) in
    let none_left : committed_of c.args.c.now.names c.args.nodes (take (input.limit - input.cut) input.kept) ≡ [] =
    ap (committed_of c.args.c.now.names c.args.nodes) (sym c.within.ensures.value) ∙ ap (λ bases. committed_of bases c.args.nodes c.within.result.now) (sym names) ∙ none in
    ReadsNext-long c.args.c.now.names c.args.nodes c.args.input.now input (g.S.Source.left c.args.source.now) (g.S.Source.left c.loop-committed.source)
    (g.S.Source.given c.args.source.now) (g.S.Source.given c.loop-committed.source) (g.S.Source.faults c.args.source.now) (g.S.Source.faults c.loop-committed.source)
    c.loop-committed.invariant.takes c.loop-committed.invariant.faults
    (is_above input.limit (given_to input) c.is_too_long.result c.is_too_long.ensures c.if-is_too_long.true) none_left

pub read_more-requires : goal.read_more-requires
read_more-requires g c =
    let input = c.loop-committed.input in
    record { within = not_above input.limit (given_to input) c.is_too_long.result c.is_too_long.ensures c.if-is_too_long.false }

pub returns-in_err-read_more-clause-reads : goal.returns-in_err-read_more-clause-reads
returns-in_err-read_more-clause-reads g c =
    let input = c.loop-committed.input in
    let r = c.read_lines.new.reading in
    let more = c.in_err-read_more.ensures in
    let stop = c.in_err-read_more.field-0.0 in
    let p = err_from_is_err_and c.from_residual.result c.from_residual.ensures.1 in
    let names : c.new-bases.result ≡ c.args.c.now.names = c.new-bases.ensures ∙ c.names.ensures.value in
    let within : given_to input ≤ input.limit = not_above input.limit (given_to input) c.is_too_long.result c.is_too_long.ensures c.if-is_too_long.false in
    let none : committed_of c.new-bases.result c.args.nodes c.within.result.now ≡ [] =
    committed-none c.new-bases.result c.args.nodes c.within.result.now r (c.in-Ok.ensures.read (ap Ok c.if-committed.false)) (c.in-Ok.ensures.all (ap Ok c.if-committed.false)) in
    let none_left : committed_of c.args.c.now.names c.args.nodes input.kept ≡ [] =
    ap (committed_of c.args.c.now.names c.args.nodes) (sym (c.within.ensures.value ∙ all_within input within)) ∙ ap (λ bases. committed_of bases c.args.nodes c.within.result.now) (sym names) ∙ none in
    let told : (stop ≡ ReadFault) ⊎ (g.S.Source.faults c.read_more.new.source ≡ g.S.Source.faults c.loop-committed.source) =
    elim more.faults_are_told [ inl e ↦ inl (cc) | inr e ↦ inr e ] in
    ReadsNext-failed c.args.c.now.names c.args.nodes c.args.input.now input c.read_more.new.self (g.S.Source.left c.args.source.now) (g.S.Source.left c.loop-committed.source) (g.S.Source.left c.read_more.new.source)
    (g.S.Source.given c.args.source.now) (g.S.Source.given c.loop-committed.source) (g.S.Source.given c.read_more.new.source)
    (g.S.Source.faults c.args.source.now) (g.S.Source.faults c.loop-committed.source) (g.S.Source.faults c.read_more.new.source) stop c.from_residual.result
    (p.1 ∙ ap Err p.2) c.loop-committed.invariant.takes more.takes more.failed c.loop-committed.invariant.faults within none_left
    (λ e. more.read_fault (ap Err e)) more.never_too_long told

pub returns-in_err-read_more-clause-no_fault_at_end : goal.returns-in_err-read_more-clause-no_fault_at_end
returns-in_err-read_more-clause-no_fault_at_end g c ended e =
    let p = err_from_is_err_and c.from_residual.result c.from_residual.ensures.1 in
    let stop = c.in_err-read_more.field-0.0 in
    let found : c.from_residual.result ≡ Err stop = p.1 ∙ ap Err p.2 in
    let is_fault : stop ≡ ReadFault = cc in
    c.in_err-read_more.ensures.no_fault_at_end (c.loop-committed.invariant.takes.end_stays ended) (ap Err is_fault)

pub last_batch-requires-clause-read : goal.last_batch-requires-clause-read
last_batch-requires-clause-read g c =
    let input = c.loop-committed.input in
    let within : given_to input ≤ input.limit = not_above input.limit (given_to input) c.is_too_long.result c.is_too_long.ensures c.if-is_too_long.false in
    let no_more : Ok c.in_ok-read_more.field-0 ≡ Ok false = ap Ok c.if-not-branch.true in
    let kept : c.within.result.now ≡ c.read_more.new.self.kept = c.within.ensures.value ∙ all_within input within ∙ sym (ap (λ s. s.kept) (c.in_ok-read_more.ensures.end no_more)) in
    subst (λ text. IsRead c.new-bases.result c.args.nodes text c.read_lines.new.reading) kept (c.in-Ok.ensures.read (ap Ok c.if-committed.false))

pub last_batch-requires-clause-all : goal.last_batch-requires-clause-all
last_batch-requires-clause-all g c =
    let input = c.loop-committed.input in
    let within : given_to input ≤ input.limit = not_above input.limit (given_to input) c.is_too_long.result c.is_too_long.ensures c.if-is_too_long.false in
    let no_more : Ok c.in_ok-read_more.field-0 ≡ Ok false = ap Ok c.if-not-branch.true in
    let kept : c.within.result.now ≡ c.read_more.new.self.kept = c.within.ensures.value ∙ all_within input within ∙ sym (ap (λ s. s.kept) (c.in_ok-read_more.ensures.end no_more)) in
    subst (λ text. has_lf (drop c.read_lines.new.reading.from text) ≡ false) kept (c.in-Ok.ensures.all (ap Ok c.if-committed.false))

pub last_batch-requires-clause-within : goal.last_batch-requires-clause-within
last_batch-requires-clause-within g c =
    let input = c.loop-committed.input in
    let within : given_to input ≤ input.limit = not_above input.limit (given_to input) c.is_too_long.result c.is_too_long.ensures c.if-is_too_long.false in
    let end = c.in_ok-read_more.ensures.end (ap Ok c.if-not-branch.true) in
    omega (arith, within, ap (λ s. given_to s) end, ap (λ s. s.limit) end)

pub returns-then-not-branch-clause-reads : goal.returns-then-not-branch-clause-reads
returns-then-not-branch-clause-reads g c =
    let input = c.loop-committed.input in
    let mid = c.read_more.new.self in
    let more = c.in_ok-read_more.ensures in
    let names : c.new-bases.result ≡ c.args.c.now.names = c.new-bases.ensures ∙ c.names.ensures.value in
    let within : given_to input ≤ input.limit = not_above input.limit (given_to input) c.is_too_long.result c.is_too_long.ensures c.if-is_too_long.false in
    let end = more.end (ap Ok c.if-not-branch.true) in
    let same : g.S.Source.faults c.read_more.new.source ≡ g.S.Source.faults c.args.source.now =
    elim more.faults_are_told [ inl e ↦ absurd (cc) | inr e ↦ e ∙ c.loop-committed.invariant.faults ] in
    let takes = TakesBytes-trans c.args.input.now input mid (g.S.Source.left c.args.source.now) (g.S.Source.left c.loop-committed.source) (g.S.Source.left c.read_more.new.source)
    (g.S.Source.given c.args.source.now) (g.S.Source.given c.loop-committed.source) (g.S.Source.given c.read_more.new.source) c.loop-committed.invariant.takes more.takes in
    let batches = subst (λ (bases : List (List ℕ)). IfOk c.last_batch.result (λ found. MatchOption found (batches_of bases c.args.nodes mid.kept ≡ []) (λ batch. batches_of bases c.args.nodes mid.kept ≡ batch ∷ []))) names c.last_batch.ensures.batches in
    ReadsNext-last c.args.c.now.names c.args.nodes c.args.input.now mid c.last_batch.new.input (g.S.Source.left c.args.source.now) (g.S.Source.left c.read_more.new.source)
    (g.S.Source.given c.args.source.now) (g.S.Source.given c.read_more.new.source) (g.S.Source.faults c.args.source.now) (g.S.Source.faults c.read_more.new.source) c.last_batch.result
    takes same (ap (λ s. s.ended) end) (omega (arith, within, ap (λ s. given_to s) end, ap (λ s. s.limit) end))
    c.last_batch.ensures.cut batches c.last_batch.ensures.memory c.last_batch.ensures.stays

pub returns-then-not-branch-clause-few : goal.returns-then-not-branch-clause-few
returns-then-not-branch-clause-few g c = none_kept c.read_more.new.self c.last_batch.new.input c.last_batch.result c.last_batch.ensures.cut

pub returns-then-not-branch-clause-fits : goal.returns-then-not-branch-clause-fits
returns-then-not-branch-clause-fits g c =
    let names : c.new-bases.result ≡ c.args.c.now.names = c.new-bases.ensures ∙ c.names.ensures.value in
    let size : length c.new-bases.result ≡ c.args.c.now.algebra.size = ap length names ∙ c.names.ensures.lawful.one_each in
    subst (λ (size : ℕ). IfOk c.last_batch.result (λ found. IfSome found (λ batch. IsBatchFor (2 ^ size - 1) c.args.nodes batch))) size c.last_batch.ensures.fits

pub loop-committed-smaller : goal.loop-committed-smaller
loop-committed-smaller g c =
    let input = c.loop-committed.input in
    let within : given_to input ≤ input.limit = not_above input.limit (given_to input) c.is_too_long.result c.is_too_long.ensures c.if-is_too_long.false in
    let more = c.in_ok-read_more.ensures.some (ap Ok c.if-not-branch.false) in
    omega (arith, within, more, c.in_ok-read_more.ensures.takes.limit_stays)

pub loop-committed-preserved : goal.loop-committed-preserved
loop-committed-preserved g c =
    let input = c.loop-committed.input in
    let kept = c.loop-committed.invariant in
    let more = c.in_ok-read_more.ensures in
    let within : given_to input ≤ input.limit = not_above input.limit (given_to input) c.is_too_long.result c.is_too_long.ensures c.if-is_too_long.false in
    let read = subst (λ text. IsRead c.new-bases.result c.args.nodes text c.read_lines.new.reading) c.within.ensures.value (c.in-Ok.ensures.read (ap Ok c.if-committed.false)) in
    let whole : length c.within.result.now ≡ length input.kept = ap length (c.within.ensures.value ∙ all_within input within) in
    record {
      read = IsRead-taken c.new-bases.result c.args.nodes input c.read_more.new.self (g.S.Source.left c.loop-committed.source) (g.S.Source.left c.read_more.new.source)
          (g.S.Source.given c.loop-committed.source) (g.S.Source.given c.read_more.new.source) c.read_lines.new.reading more.takes within read;
      takes = TakesBytes-trans c.args.input.now input c.read_more.new.self (g.S.Source.left c.args.source.now) (g.S.Source.left c.loop-committed.source) (g.S.Source.left c.read_more.new.source)
          (g.S.Source.given c.args.source.now) (g.S.Source.given c.loop-committed.source) (g.S.Source.given c.read_more.new.source) kept.takes more.takes;
      near = omega (arith, more.few, whole, c.in-Ok.ensures.searched (ap Ok c.if-committed.false));
      faults = elim more.faults_are_told [ inl e ↦ absurd (cc) | inr e ↦ e ∙ kept.faults ];
      waits = λ e. more.source_waits (kept.takes.end_stays e) ∙ kept.waits e;
      documents = more.documents_stay ∙ kept.documents;
      absent_openings = more.absent_openings_stay ∙ kept.absent_openings;
    }
