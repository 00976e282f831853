-- What a step of the reading leads to.
use Rattle.std.proofs.Common.{ℕ, suc, List, Err, Result}
use Rattle.script_words.specs.declared.command.Placed.{Placed}
use Rattle.script_words.specs.declared.fault.Fault.{Fault}
use Rattle.script_words.specs.Format.{begins, Step, misfits, goes, says, at_place, misfit_at, placed, before, read}

abbrev pub stepped : ℕ → ℕ → List ℕ → Step → Result (List Placed) Fault
stepped l c xs t =
    elim t [ misfits ↦ Err (misfit_at (at_place l c)) | goes r ↦ read r l (suc c) xs | says cs ↦ before (placed l cs) (read begins (suc l) 1 xs) ]
