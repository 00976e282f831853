-- Commands written out in the format.
use Rattle.std.specs.Prelude.{ℕ, suc, ◌+◌, ◌/◌, ◌%◌, ◌<◌, Bool, true, false, cond, List, [], ◌∷◌, ◌++◌, codes, nat_lt}
use Rattle.std.specs.List.{flat_map}
use Rattle.terms.specs.declared.channel_id.ChannelId.{ChannelId}
use Rattle.terms.specs.declared.channel_id.ChannelId.TheVariants.{One, Two}
use Rattle.terms.specs.declared.modem_line.ModemLine.{ModemLine}
use Rattle.terms.specs.declared.modem_line.ModemLine.TheVariants.{Cts, Dcd, Dsr}
use Rattle.script_words.specs.declared.command.Command.{Command}
use Rattle.script_words.specs.declared.command.Command.TheVariants.{Read, Write, Cycles, Modem, SetUp}
use Rattle.script_words.specs.declared.command.Placed.{Placed}
use Rattle.script_words.specs.Format.{at_place}

-- a digit: 0 to 9, A to F
abbrev pub digit : ℕ → ℕ
digit v = cond (nat_lt v 10) (48 + v) (55 + v)

abbrev pub channel_byte : ChannelId → ℕ
channel_byte One = 49
channel_byte Two = 50

-- C, D and S
abbrev pub modem_byte : ModemLine → ℕ
modem_byte Cts = 67
modem_byte Dcd = 68
modem_byte Dsr = 83

abbrev pub level_byte : Bool → ℕ
level_byte false = 48
level_byte true = 49

abbrev pub line_end : List ℕ
line_end = 10 ∷ []

-- two digits, and what follows
abbrev pub hex : ℕ → List ℕ → List ℕ
hex b more = digit (b / 16) ∷ digit (b % 16) ∷ more

-- a command's line
abbrev pub written : Command → List ℕ
written (Read r) = codes "R " ++ digit r ∷ line_end
written (Write r b) = codes "W " ++ digit r ∷ codes " " ++ hex b line_end
written (Cycles n) = codes "C " ++ hex (n / 256) (hex (n % 256) line_end)
written (Modem c m v) = codes "L " ++ channel_byte c ∷ codes " " ++ modem_byte m ∷ codes " " ++ level_byte v ∷ line_end
written (SetUp cr fr) = codes "S " ++ hex cr (codes " " ++ hex fr line_end)

-- a script
abbrev pub written_script : List Command → List ℕ
written_script cs = codes "DUS 0001" ++ line_end ++ flat_map written cs

-- the commands that can be said
abbrev pub Sayable : Command → Type 0
Sayable (Read r) = r < 8
Sayable (Write r b) = (r < 8) × (b < 256)
Sayable (Cycles n) = (0 < n) × (n < 65536)
Sayable (Modem c m v) = Unit {0}
Sayable (SetUp cr fr) = (cr < 256) × (fr < 256)

abbrev pub AllSayable : List Command → Type 0
AllSayable [] = Unit {0}
AllSayable (c ∷ cs) = Sayable c × AllSayable cs

-- one command to a line, from line l on
abbrev pub at_lines : ℕ → List Command → List Placed
at_lines l [] = []
at_lines l (c ∷ cs) = record { command = c; position = at_place l 1 } ∷ at_lines (suc l) cs
