-- The bounds of a format.
use Rattle.std.proofs.Common.{ℕ, ◌^◌, ◌<◌, ◌≤◌, Some, None, Option, mod-lt, arith}
use lib.Count.{ones}
use Rattle.std.proofs.lemmas.Nat.{pow_pos}
use Rattle.serial.specs.declared.parity.Parity.{Parity}
use Rattle.serial.specs.declared.parity.Parity.TheVariants.{Odd, Even, Mark, Space}
use Rattle.serial.specs.declared.format.DataBits.{DataBits}
use Rattle.serial.specs.declared.format.DataBits.TheVariants.{Five, Six, Seven, Eight}
use Rattle.serial.specs.declared.format.StopBits.{StopBits}
use Rattle.serial.specs.declared.format.StopBits.TheVariants.{One, Two}
use Rattle.serial.specs.declared.format.Format.{Format}
use Rattle.serial.specs.Parity.{parity_bit}
use Rattle.serial.specs.Format.{data_bits, parity_bits, stop_bits, stop_at, frame_bits, cut}
use Rattle.serial.specs.Frame.{check_bit}

pub data_bounds : (n : DataBits) → (5 ≤ data_bits n) × (data_bits n ≤ 8)
data_bounds Five = (omega arith, omega arith)
data_bounds Six = (omega arith, omega arith)
data_bounds Seven = (omega arith, omega arith)
data_bounds Eight = (omega arith, omega arith)

pub stop_bounds : (s : StopBits) → (1 ≤ stop_bits s) × (stop_bits s ≤ 2)
stop_bounds One = (omega arith, omega arith)
stop_bounds Two = (omega arith, omega arith)

pub parity_bounds : (p : Option Parity) → parity_bits p ≤ 1
parity_bounds None = omega arith
parity_bounds (Some q) = omega arith

parity_bit_low : (q : Parity) (w : ℕ) → parity_bit q w < 2
parity_bit_low Odd w = omega arith
parity_bit_low Even w = mod-lt (ones w) (omega arith)
parity_bit_low Mark w = omega arith
parity_bit_low Space w = omega arith

pub check_bit_low : (p : Option Parity) (w : ℕ) → check_bit p w < 2 ^ parity_bits p
check_bit_low None w = omega arith
check_bit_low (Some q) w = parity_bit_low q w

pub cut_low : (x : Format) (w : ℕ) → cut x w < 2 ^ data_bits x.bits
cut_low x w = mod-lt w (pow_pos (data_bits x.bits))

-- the place of the first stop bit, and the size of a frame
pub stop_at_bounds : (x : Format) → (6 ≤ stop_at x) × (stop_at x ≤ 10)
stop_at_bounds x =
    let n = data_bounds x.bits in
    let p = parity_bounds x.parity in
    (omega (arith, n.0), omega (arith, n.1))

pub frame_bounds : (x : Format) → (7 ≤ frame_bits x) × (frame_bits x ≤ 12)
frame_bounds x =
    let k = stop_at_bounds x in
    let s = stop_bounds x.stops in
    (omega (arith, k.0, s.0), omega (arith, k.1, s.1))
