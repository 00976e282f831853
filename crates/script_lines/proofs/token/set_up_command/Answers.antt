use Rattle.std.proofs.Common.{rules, Ok, Err}
use Rattle.script_lines.proofs.Digits.{line_hex_byte, after_cr, after_fr}
use Rattle.script_lines.proofs.token.set_up_command.Goals as goal

pub returns-in_err-fr : goal.returns-in_err-fr
returns-in_err-fr c =
    let cr = line_hex_byte after_cr c.args.word 2 (Ok c.in_ok-cr.cr) c.in_ok-cr.ensures in
    let fr = line_hex_byte (after_fr c.in_ok-cr.cr) c.args.word 5 (Err c.in_err-fr.field-0.0) c.in_err-fr.ensures in
    search rules

pub returns-in_err-only-3 : goal.returns-in_err-only-3
returns-in_err-only-3 c =
    let cr = line_hex_byte after_cr c.args.word 2 (Ok c.in_ok-cr.cr) c.in_ok-cr.ensures in
    let fr = line_hex_byte (after_fr c.in_ok-cr.cr) c.args.word 5 (Ok c.in_ok-fr.fr) c.in_ok-fr.ensures in
    search rules
