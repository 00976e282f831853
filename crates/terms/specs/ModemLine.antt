-- The bit of each modem line: in CSR it shows the level, in ISR that the level has changed.
use Rattle.std.specs.Prelude.{ℕ}
use Rattle.terms.specs.declared.modem_line.ModemLine.{ModemLine}
use Rattle.terms.specs.declared.modem_line.ModemLine.TheVariants.{Cts, Dcd, Dsr}

abbrev pub modem_bit : ModemLine → ℕ
modem_bit Cts = 5
modem_bit Dcd = 4
modem_bit Dsr = 3
