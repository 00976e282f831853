use Rattle.std.proofs.Common.{length, ap, inr, arith, true-eqb, false-eqb}
use Rattle.script.proofs.Lines.{begins_with, fewer}
use Rattle.script.proofs.Readings.{gives_fault, lines_none, lines_no_token, lines_no_command, lines_again}
use Rattle.script.proofs.Wants.{want, leads_now}
use Rattle.script.proofs.reader.read_lines.Goals as goal

pub returns-in_err-token-clause-answers : goal.returns-in_err-token-clause-answers
returns-in_err-token-clause-answers c =
    gives_fault c.from_residual.result _ _ c.from_residual.ensures.1
    (lines_no_token _ _ c.loop-rest.line c.loop-rest.rest.now c.loop-rest.invariant.0 _ c.in_err-token.ensures (omega (arith, false-eqb _ 0 c.loop-rest-test.ensures)))

pub returns-in_err-command-clause-answers : goal.returns-in_err-command-clause-answers
returns-in_err-command-clause-answers c =
    gives_fault c.from_residual-in_err-command.result _ _ c.from_residual-in_err-command.ensures.1
    (lines_no_command _ _ c.loop-rest.line c.loop-rest.rest.now c.loop-rest.invariant.0 c.in_ok-token.token _ c.in_ok-token.ensures c.in_err-command.ensures)

pub returns-in_err-push-clause-memory : goal.returns-in_err-push-clause-memory
returns-in_err-push-clause-memory c =
    want _ _ (leads_now _ _ c.loop-rest.line c.in_ok-token.token c.in_ok-command.command c.loop-rest.invariant.2 c.in_ok-token.ensures c.in_ok-command.ensures)

pub split_at-requires : goal.split_at-requires
split_at-requires c =
    let f = fewer c.in_ok-token.token c.loop-rest.rest.now c.loop-rest.line (begins_with c.in_ok-token.token c.loop-rest.rest.now c.loop-rest.line c.in_ok-token.ensures) in
    omega (arith, f, ap length c.word-word.ensures.bytes)

pub loop-rest-preserved : goal.loop-rest-preserved
loop-rest-preserved c =
    let b = begins_with c.in_ok-token.token c.loop-rest.rest.now c.loop-rest.line c.in_ok-token.ensures in
    let f = fewer c.in_ok-token.token c.loop-rest.rest.now c.loop-rest.line b in
    let w = c.word-word.ensures in (
      lines_again _ _ c.loop-rest.line c.loop-rest.rest.now c.loop-rest.invariant.0 c.in_ok-token.token c.in_ok-command.command
          c.in_ok-token.ensures c.in_ok-command.ensures _ c.word-word.result _ _ c.in_ok-push.ensures.items c.position.ensures w.line w.column w.bytes c.split_at.ensures.back,
      omega (arith, f, ap length c.word-word.ensures.bytes, c.split_at.ensures.back_len, c.loop-rest.invariant.1),
      inr (leads_now _ _ c.loop-rest.line c.in_ok-token.token c.in_ok-command.command c.loop-rest.invariant.2 c.in_ok-token.ensures c.in_ok-command.ensures),
    )

pub returns-clause-answers : goal.returns-clause-answers
returns-clause-answers c = lines_none _ _ c.loop-rest.line c.loop-rest.rest.now c.loop-rest.invariant.0 (true-eqb _ 0 c.loop-rest-test.ensures)
