use Rattle.board.specs.Board.{state}
use Rattle.board.proofs.Boards.{cycled_parts}
use Rattle.board.proofs.board.Board.cycle.Goals as goal

pub returns : goal.returns
returns g c =
    let f = g.A.Line.levels in
    let h = g.B.Line.levels in
    let done = cycled_parts (state f h c.args.self.now) _ _ _ _ c.cycle.result c.cycle.new.self (f c.pass-rxd2.new.self) (h c.pass-rxd1.new.self)
    c.txd-txd1.ensures c.txd-txd2.ensures c.pass-rxd2.ensures.answers c.pass-rxd1.ensures.answers
    c.pass-rxd2.ensures.holds c.pass-rxd1.ensures.holds c.cycle.ensures in
    record { answers = done.answers; leaves = done.leaves }
