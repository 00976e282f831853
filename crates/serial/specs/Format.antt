-- The format of a frame: a start bit, data bits, a parity bit or none, stop bits.
use Rattle.std.specs.Prelude.{ℕ, ◌+◌, ◌%◌, ◌^◌, Some, None, Option}
use Rattle.serial.specs.declared.parity.Parity.{Parity}
use Rattle.serial.specs.declared.format.DataBits.{DataBits}
use Rattle.serial.specs.declared.format.DataBits.TheVariants.{Five, Six, Seven, Eight}
use Rattle.serial.specs.declared.format.StopBits.{StopBits}
use Rattle.serial.specs.declared.format.StopBits.TheVariants.{One, Two}
use Rattle.serial.specs.declared.format.Format.{Format}

-- n
abbrev pub data_bits : DataBits → ℕ
data_bits Five = 5
data_bits Six = 6
data_bits Seven = 7
data_bits Eight = 8

-- p
abbrev pub parity_bits : Option Parity → ℕ
parity_bits None = 0
parity_bits (Some q) = 1

-- s
abbrev pub stop_bits : StopBits → ℕ
stop_bits One = 1
stop_bits Two = 2

-- the place of the first stop bit: 1 + n + p
abbrev pub stop_at : Format → ℕ
stop_at x = 1 + data_bits x.bits + parity_bits x.parity

-- F, the number of bits of a frame: 1 + n + p + s
abbrev pub frame_bits : Format → ℕ
frame_bits x = stop_at x + stop_bits x.stops

-- a word cut to its data bits
abbrev pub cut : Format → ℕ → ℕ
cut x w = w % 2 ^ data_bits x.bits
