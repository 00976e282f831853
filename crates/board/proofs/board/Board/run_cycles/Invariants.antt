use Rattle.std.proofs.Common.{◌+◌, ◌-◌, ◌≤◌}
use Rattle.board.specs.Board.{state}
use Rattle.board.proofs.Sweeps.{Sweeping}
use Rattle.board.proofs.board.Board.run_cycles.Given as goal

abbrev pub invariant-loop-cycle : goal.invariant-loop-cycle
invariant-loop-cycle g l =
    let f = g.A.Line.levels in
    let h = g.B.Line.levels in
    (l.cycle ≤ l.k + 1) × Sweeping (l.cycle - 1) (state f h l.initial.self) l.initial.records (state f h l.self) l.records l.written
