-- What the reader's answer says of a script.
use Rattle.std.specs.Prelude.{◌≡◌, List, [], Ok, Err, vec_items, Result, Vec}
use Rattle.std.specs.declared.alloc.Global.{Global}
use Rattle.script_words.specs.declared.command.Command.{Command}
use Rattle.script_words.specs.declared.command.Placed.{Placed}
use Rattle.script_words.specs.declared.fault.Fault.{Fault}
use Rattle.script_words.specs.declared.fault.ScriptError.{ScriptError}
use Rattle.script_words.specs.declared.fault.ScriptError.TheVariants.{Fault as Faulty, OutOfMemory}

-- an answer gives what is said, unless memory was wanting
abbrev pub Gives : Result (Vec Placed Global) ScriptError → Result (List Placed) Fault → Type 0
Gives (Ok v) said = said ≡ Ok (vec_items v)
Gives (Err (Faulty f)) said = said ≡ Err f
Gives (Err OutOfMemory) said = Unit {0}

-- what holds where memory was wanting
abbrev pub Wanting : Result (Vec Placed Global) ScriptError → Type 0 → Type 0
Wanting (Ok v) p = Unit {0}
Wanting (Err (Faulty f)) p = Unit {0}
Wanting (Err OutOfMemory) p = p

-- the first line says no command
abbrev pub headed : Result (Unit {0}) Fault → Result (List Command) Fault
headed (Ok u) = Ok []
headed (Err f) = Err f
