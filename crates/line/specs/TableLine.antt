-- A table of levels, read round from a place on.
use Rattle.std.specs.Prelude.{ℕ, ◌%◌, Bool, List, ◌++◌, take, drop}
use Rattle.line.specs.declared.table_line.TableLine.{TableLine}

abbrev pub rotate : ℕ → List Bool → List Bool
rotate n xs = drop n xs ++ take n xs

abbrev pub held64 : TableLine → List Bool
held64 t = rotate (t.head % 64) t.table
