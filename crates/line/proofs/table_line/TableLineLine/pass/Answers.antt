use Rattle.std.proofs.Common.{◌%◌, ◌<◌, mod-lt, arith}
use Rattle.line.proofs.Levels.{table_next}
use Rattle.line.proofs.table_line.TableLineLine.pass.Goals as goal

pub returns-clause-holds : goal.returns-clause-holds
returns-clause-holds c =
    let lt : c.args.self.now.head % 64 < 64 = mod-lt c.args.self.now.head (omega arith) in
    table_next 64 (c.args.self.now.head % 64) c.args.self.now.table c.args.level (omega arith) lt
