use Rattle.std.proofs.Common.{rules, Ok}
use Rattle.board.specs.Board.{state}
use Rattle.board.proofs.SetUps.{delivers}
use Rattle.board.proofs.board.Board.set_up.Goals as goal

pub returns-clause-delivery : goal.returns-clause-delivery
returns-clause-delivery g c =
    delivers c.args.cr c.args.fr (state g.A.Line.levels g.B.Line.levels c.args.self.now) _ (Ok tt) (search rules) (search rules)
