-- The frame of a word as one number, whose bit 0 is sent first.
use Rattle.std.specs.Prelude.{◌≡◌, ℕ, ◌+◌, ◌-◌, ◌*◌, ◌/◌, ◌%◌, ◌^◌, ◌<◌, Bool, true, false, Some, None, Option, ◌==◌, count_ones}
use Rattle.serial.specs.declared.parity.Parity.{Parity}
use Rattle.serial.specs.declared.parity.Parity.TheVariants.{Odd, Even, Mark, Space}
use Rattle.serial.specs.declared.format.Format.{Format}
use Rattle.serial.specs.Parity.{parity_bit}
use Rattle.serial.specs.Format.{data_bits, stop_bits, stop_at, frame_bits, cut}

-- bit k of a number, as a level
abbrev pub bit : ℕ → ℕ → Bool
bit f k = f / 2 ^ k % 2 == 1

-- the parity bit of a word, 0 where there is none
abbrev pub check_bit : Option Parity → ℕ → ℕ
check_bit None w = 0
check_bit (Some q) w = parity_bit q w

-- the start bit 0, the word, its parity bit, and the stop bits 1
abbrev pub packed : Format → ℕ → ℕ
packed x w = 2 * w + check_bit x.parity w * 2 ^ (1 + data_bits x.bits) + (2 ^ stop_bits x.stops - 1) * 2 ^ stop_at x

abbrev pub frame : Format → ℕ → ℕ
frame x w = packed x (cut x w)

-- 1 for a high level
abbrev pub weight : Bool → ℕ
weight true = 1
weight false = 0

-- what the level b of the parity bit says of the word w
abbrev pub ParityLaw : Parity → ℕ → Bool → Type 0
ParityLaw Odd w b = (count_ones w + weight b) % 2 ≡ 1
ParityLaw Even w b = (count_ones w + weight b) % 2 ≡ 0
ParityLaw Mark w b = b ≡ true
ParityLaw Space w b = b ≡ false

abbrev pub CheckLaw : Option Parity → ℕ → Bool → Type 0
CheckLaw None w b = Unit {0}
CheckLaw (Some q) w b = ParityLaw q w b

-- f is the frame of the word w, bit by bit: a low start bit, the data bits from bit 0 up, the parity bit where there is one,
-- high stop bits, and nothing above them
pub record FrameLaw (x : Format) (w f : ℕ) : Type 0 where
  pub start_low : bit f 0 ≡ false
  pub data_bits_law : (k : ℕ) → k < data_bits x.bits → bit f (1 + k) ≡ bit w k
  pub parity_bit_law : CheckLaw x.parity (cut x w) (bit f (1 + data_bits x.bits))
  pub stops_high : (j : ℕ) → j < stop_bits x.stops → bit f (stop_at x + j) ≡ true
  pub nothing_above : f < 2 ^ frame_bits x
