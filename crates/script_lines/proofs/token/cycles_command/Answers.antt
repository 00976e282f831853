use Rattle.std.proofs.Common.{Ok, rules}
use Rattle.script_lines.proofs.Digits.{line_hex_byte, after_count}
use Rattle.script_lines.proofs.token.cycles_command.Goals as goal

pub returns-in_err-last : goal.returns-in_err-last
returns-in_err-last c =
    let front = line_hex_byte after_count c.args.word 2 (Ok c.in_ok-hex_byte.field-0) c.in_ok-hex_byte.ensures in
    search rules

pub returns-in_err-only-2 : goal.returns-in_err-only-2
returns-in_err-only-2 c =
    let front = line_hex_byte after_count c.args.word 2 (Ok c.in_ok-hex_byte.field-0) c.in_ok-hex_byte.ensures in
    search rules
