-- What the registers CR and FR set: the rate and the format.
use Rattle.std.specs.Prelude.{ℕ, ◌/◌, ◌%◌, cond, List, [], ◌∷◌, Some, None, Option, ◌==◌, nat_lt, slice_index}
use Rattle.serial.specs.declared.parity.Parity.{Parity}
use Rattle.serial.specs.declared.parity.Parity.TheVariants.{Odd, Even, Mark, Space}
use Rattle.serial.specs.declared.format.DataBits.{DataBits}
use Rattle.serial.specs.declared.format.DataBits.TheVariants.{Five, Six, Seven, Eight}
use Rattle.serial.specs.declared.format.StopBits.TheVariants.{One, Two}
use Rattle.serial.specs.declared.format.Format.{Format}
use Rattle.serial.specs.Frame.{bit}

-- the rate code: CR bits 3-0
abbrev pub rate_code : ℕ → ℕ
rate_code cr = cr % 16

-- the cycles from tick to tick for the rate codes 0 to 14
abbrev pub divisors : List ℕ
divisors = 4608 ∷ 2110 ∷ 1712 ∷ 1536 ∷ 768 ∷ 384 ∷ 192 ∷ 128 ∷ 96 ∷ 64 ∷ 48 ∷ 32 ∷ 24 ∷ 12 ∷ 6 ∷ []

-- none with rate code 15, whose ticks are marked from outside
abbrev pub divisor : ℕ → Option ℕ
divisor code = cond (nat_lt code 15) (Some (slice_index divisors code)) None

-- FR bits 6-5: the number of data bits, less 5
abbrev pub data_at : ℕ → DataBits
data_at k = cond (k == 0) Five (cond (k == 1) Six (cond (k == 2) Seven Eight))

-- FR bits 4-3: the code of the parity
abbrev pub parity_at : ℕ → Parity
parity_at k = cond (k == 0) Odd (cond (k == 1) Even (cond (k == 2) Mark Space))

-- FR bit 2 asks for parity, CR bit 5 for two stop bits
abbrev pub format_of : ℕ → ℕ → Format
format_of cr fr = record {
  bits = data_at (fr / 32 % 4);
  parity = cond (bit fr 2) (Some (parity_at (fr / 8 % 4))) None;
  stops = cond (bit cr 5) Two One;
}
