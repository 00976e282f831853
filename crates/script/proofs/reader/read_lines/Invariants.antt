use Rattle.std.proofs.Common.{◌≡◌, ◌+◌, ◌≤◌, length, vec_items}
use Rattle.script_words.specs.Format.{begins, read, before}
use Rattle.script.proofs.Wants.{Started}
use Rattle.script.proofs.reader.read_lines.Given as goal

abbrev pub invariant-loop-rest : goal.invariant-loop-rest
invariant-loop-rest l =
    (read begins 2 1 l.text ≡ before (vec_items l.commands) (read begins l.line 1 l.rest))
    × (l.line + length l.rest ≤ 16386)
    × Started l.text l.rest

abbrev pub decreases-loop-rest : goal.decreases-loop-rest
decreases-loop-rest l = length l.rest
