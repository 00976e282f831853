-- Bytes and their bits.
use Rattle.std.specs.Prelude.{ℕ, ◌+◌, ◌*◌, Bool}
use Rattle.serial.specs.Frame.{weight}

-- the byte of eight bits, bit 7 first
abbrev pub byte_of : Bool → Bool → Bool → Bool → Bool → Bool → Bool → Bool → ℕ
byte_of b7 b6 b5 b4 b3 b2 b1 b0 =
    128 * weight b7 + 64 * weight b6 + 32 * weight b5 + 16 * weight b4 + 8 * weight b3 + 4 * weight b2 + 2 * weight b1 + weight b0
