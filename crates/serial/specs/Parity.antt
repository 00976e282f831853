-- The four parities.
use Rattle.std.specs.Prelude.{ℕ, ◌-◌, ◌%◌, count_ones}
use Rattle.serial.specs.declared.parity.Parity.{Parity}
use Rattle.serial.specs.declared.parity.Parity.TheVariants.{Odd, Even, Mark, Space}

-- the code of a parity
abbrev pub parity_code : Parity → ℕ
parity_code Odd = 0
parity_code Even = 1
parity_code Mark = 2
parity_code Space = 3

-- the parity bit of a word: odd and even count the ones of the word and of the parity bit together
abbrev pub parity_bit : Parity → ℕ → ℕ
parity_bit Odd w = 1 - count_ones w % 2
parity_bit Even w = count_ones w % 2
parity_bit Mark w = 1
parity_bit Space w = 0
