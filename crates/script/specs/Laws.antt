-- What holds of every script and of every fault, by what can be written and not by how it is read.
-- The limit of 16,384 bytes is no part of what a script is here.
use Rattle.std.specs.Prelude.{◌≡◌, ℕ, suc, ◌<◌, ◌≤◌, cond, List, [], ◌∷◌, ◌++◌, length, Ok, Err, vec_items, codes, Result, Vec, ◌==◌}
use Rattle.std.specs.declared.alloc.Global.{Global}
use Rattle.script_words.specs.Refusal.{script_refusal_number}
use Rattle.script_words.specs.declared.command.Command.{Command}
use Rattle.script_words.specs.declared.command.Placed.{Placed}
use Rattle.script_words.specs.declared.fault.Fault.{Fault}
use Rattle.script_words.specs.declared.fault.ScriptError.{ScriptError}
use Rattle.script_words.specs.declared.fault.ScriptError.TheVariants.{Fault as Faulty, OutOfMemory}
use Rattle.script.specs.Answer.{Gives, Wanting}
use Rattle.script_words.specs.declared.position.Position.{Position}
use Rattle.script_words.specs.Format.{at_place, most}
use Rattle.script.specs.Writing.{line_end, written, written_script, Sayable, AllSayable, at_lines}

-- a script is what is written of commands that can be said
abbrev pub Script : List ℕ → Type 0
Script bs = (cs : List Command) × AllSayable cs × (bs ≡ written_script cs)

-- bytes with which some script begins
abbrev pub Opens : List ℕ → Type 0
Opens bs = (more : List ℕ) × Script (bs ++ more)

-- written and read again, commands are the same, each in its line
abbrev pub RoundTrip : List ℕ → Result (Vec Placed Global) ScriptError → Type 0
RoundTrip bs r = (cs : List Command) → AllSayable cs → bs ≡ written_script cs → length bs ≤ most → Gives r (Ok (at_lines 2 cs))

-- read and written again, a script is the same
abbrev pub WrittenBack : List ℕ → Result (Vec Placed Global) ScriptError → Type 0
WrittenBack bs (Ok v) = (cs : List Command) × AllSayable cs × (vec_items v ≡ at_lines 2 cs) × (bs ≡ written_script cs)
WrittenBack bs (Err e) = Unit {0}

-- the place after some bytes, each $0A of which ends a line
abbrev pub place_from : ℕ → ℕ → List ℕ → Position
place_from l c [] = at_place l c
place_from l c (x ∷ xs) = cond (x == 10) (place_from (suc l) 1 xs) (place_from l (suc c) xs)

-- the bytes up to a place open a script; with the byte there they open none, and where they end there they are none
abbrev pub Stops : List ℕ → List ℕ → Type 0
Stops good [] = Script good → ⊥
Stops good (b ∷ bs) = Opens (good ++ b ∷ []) → ⊥

-- bytes that begin with the first line and its $0A
abbrev pub HasFirstLine : List ℕ → Type 0
HasFirstLine bs = (more : List ℕ) × (bs ≡ codes "DUS 0001" ++ line_end ++ more)

-- bytes that begin with a command's line
abbrev pub Leads : List ℕ → Type 0
Leads bs = (c : Command) × (more : List ℕ) × Sayable c × (bs ≡ written c ++ more)

-- memory can be wanting only past the first line and a whole command, in a text that is not too long
abbrev pub Memory : List ℕ → Result (Vec Placed Global) ScriptError → Type 0
Memory bs r = Wanting r ((length bs ≤ most) × ((rest : List ℕ) × (bs ≡ codes "DUS 0001" ++ line_end ++ rest) × Leads rest))

-- a fault stands at the first byte that no script continues; it is 8 in line 1, and 9 in any other,
-- 8 only where the first line is another, and 9 only where it is there
pub record Misfit (f : Fault) (bs : List ℕ) : Type 0 where
  pub good : List ℕ
  pub bad : List ℕ
  pub parts : bs ≡ good ++ bad
  pub place : place_from 1 1 good ≡ f.position
  pub number : script_refusal_number f.refusal ≡ cond (f.position.line == 1) 8 9
  pub eight : script_refusal_number f.refusal ≡ 8 → HasFirstLine bs → ⊥
  pub nine : script_refusal_number f.refusal ≡ 9 → HasFirstLine bs
  pub opens : Opens good
  pub stops : Stops good bad

-- 10 is for length alone
pub record TooLong (f : Fault) (bs : List ℕ) : Type 0 where
  pub number : script_refusal_number f.refusal ≡ 10
  pub position : f.position ≡ at_place 0 0

abbrev pub Faults : List ℕ → Result (Vec Placed Global) ScriptError → Type 0
Faults bs (Ok v) = length bs ≤ most
Faults bs (Err (Faulty f)) = (length bs ≤ most → Misfit f bs) × (most < length bs → TooLong f bs)
Faults bs (Err OutOfMemory) = Unit {0}
