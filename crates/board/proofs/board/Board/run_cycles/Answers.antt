use Rattle.std.proofs.Common.{◌+◌, ◌-◌, arith, refl}
use Rattle.board.proofs.Sweeps.{sweeping_none, sweeping_more, sweeping_all}
use Rattle.board.proofs.board.Board.run_cycles.Goals as goal

pub loop-cycle-init : goal.loop-cycle-init
loop-cycle-init g c = (omega arith, sweeping_none _ _)

pub loop-cycle-preserved : goal.loop-cycle-preserved
loop-cycle-preserved g c =
    let l = c.loop-cycle in
    let e = c.record_cycle-written.ensures in
    (omega arith, sweeping_more (l.cycle - 1) l.cycle (l.cycle + 1 - 1) (omega arith) (omega arith) l.invariant.1 (omega arith) e.leaves e.counts e.writes)

pub returns-clause-writes : goal.returns-clause-writes
returns-clause-writes g c = let l = c.loop-cycle in sweeping_all (l.cycle - 1) c.args.k (omega arith) l.invariant.1

pub returns-2 : goal.returns-2
returns-2 g c =
    let l = c.loop-cycle in
    let e = c.record_cycle-written.ensures in
    let done = sweeping_more (l.cycle - 1) l.cycle c.args.k (omega arith) (omega arith) l.invariant.1 (omega arith) e.leaves e.counts e.writes in
    record { writes = sweeping_all c.args.k c.args.k refl done; leaves = done.moved }
