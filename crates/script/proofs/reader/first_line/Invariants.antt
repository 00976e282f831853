use Rattle.std.specs.Array.Iter.{array_into_iter_items}
use Rattle.script.proofs.Readings.{Headed}
use Rattle.script.proofs.reader.first_line.Given as goal

abbrev pub invariant-loop-at : goal.invariant-loop-at
invariant-loop-at l = Headed l.word l.at-iterator.a.start (array_into_iter_items l.at-iterator.b)
