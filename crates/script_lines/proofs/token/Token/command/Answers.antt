use Rattle.std.proofs.Common.{sym, ap, ◌∙◌}
use Rattle.script_lines.specs.Token.{token_says}
use Rattle.script_lines.proofs.token.Token.command.Goals as goal

pub returns-in-Cycles : goal.returns-in-Cycles
returns-in-Cycles c = c.cycles_command.ensures ∙ sym (ap token_says c.in-Cycles.is)

pub returns-in-SetUp : goal.returns-in-SetUp
returns-in-SetUp c = c.set_up_command.ensures ∙ sym (ap token_says c.in-SetUp.is)
