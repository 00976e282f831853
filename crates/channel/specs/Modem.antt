-- The modem inputs: three levels, and whether each has changed since ISR was last read.
use Rattle.std.specs.Prelude.{Bool, true, false, cond}
use Rattle.terms.specs.declared.modem_line.ModemLine.{ModemLine}
use Rattle.terms.specs.declared.modem_line.ModemLine.TheVariants.{Cts, Dcd, Dsr}
use Rattle.channel.specs.declared.modem.ModemInput.{ModemInput}
use Rattle.channel.specs.declared.modem.Modem.{Modem}

-- a level that differs from the stored one is stored, and marks a change
abbrev pub input_set : Bool → ModemInput → ModemInput
input_set true i = record { level = true; changed = cond i.level i.changed true }
input_set false i = record { level = false; changed = cond i.level true i.changed }

abbrev pub modem_set : ModemLine → Bool → Modem → Modem
modem_set Cts l m = record m { cts = input_set l m.cts }
modem_set Dcd l m = record m { dcd = input_set l m.dcd }
modem_set Dsr l m = record m { dsr = input_set l m.dsr }

-- the marks of change cleared
abbrev pub unmarked : ModemInput → ModemInput
unmarked i = record i { changed = false }

abbrev pub seen : Modem → Modem
seen m = record { cts = unmarked m.cts; dcd = unmarked m.dcd; dsr = unmarked m.dsr }
