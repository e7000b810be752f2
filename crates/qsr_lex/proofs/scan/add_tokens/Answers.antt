use Rattle.std.proofs.Common.{◌<◌, length, arith}
use Rattle.qsr_lex.proofs.Scanning.{line_tokens-step}
use Rattle.qsr_lex.proofs.scan.add_tokens.Goals as goal

pub loop-rest-preserved : goal.loop-rest-preserved
loop-rest-preserved c =
    let some : 0 < length c.loop-rest.rest.now = grind (arith, c.is_empty.ensures, c.loop-rest-test.true) in
    record {
      told = line_tokens-step c.loop-rest.tokens.items _ _ c.args.line c.loop-rest.start c.in_ok-length.length c.loop-rest.rest.now
          c.split_at.result.1.now c.loop-rest.invariant.told some c.in_ok-length.ensures.taken c.split_at.ensures.back c.in_ok-length.ensures.added;
      room = omega arith;
    }
