use Rattle.std.proofs.Common.{rules, Err, ap, ◌∙◌}
use Rattle.std.proofs.lemmas.Result.{err_from_is_err_and}
use Rattle.script.specs.Answer.{headed}
use Rattle.script.proofs.Readings.{first_none, first_more, first_stop}
use Rattle.script.proofs.reader.first_line.Goals as goal

pub loop-at-init : goal.loop-at-init
loop-at-init c = first_none c.args.word _ _ (search rules) (search rules)

pub loop-at-preserved : goal.loop-at-preserved
loop-at-preserved c =
    let s = c.in-Some.ensures.steps in
    first_more c.args.word _ _ _ _ _ _ c.in_ok-only.field-0 s.0.0 s.1 s.0.1 c.in_ok-only.ensures.value c.loop-at.invariant

pub returns-in_err-only-clause-value : goal.returns-in_err-only-clause-value
returns-in_err-only-clause-value c =
    let s = c.in-Some.ensures.steps in
    let p = err_from_is_err_and c.from_residual.result c.from_residual.ensures.1 in
    ap headed (p.1 ∙ ap Err p.2) ∙ first_stop c.args.word _ _ _ _ _ c.in_err-only.field-0.0 s.0.0 s.1 c.in_err-only.ensures.value c.loop-at.invariant
