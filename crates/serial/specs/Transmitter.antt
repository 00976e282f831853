-- The transmitter: what a tick makes of it, and the level that it gives.
use Rattle.std.specs.Prelude.{ℕ, ◌+◌, ◌*◌, ◌/◌, Bool, true, false, cond, Some, None, Option, nat_lt}
use Rattle.serial.specs.declared.format.Format.{Format}
use Rattle.serial.specs.declared.transmitter.Transmitter.{Transmitter}
use Rattle.serial.specs.declared.transmitter.Transmitter.TheVariants.{Resting, Sending, Breaking}
use Rattle.serial.specs.Format.{frame_bits}
use Rattle.serial.specs.Frame.{bit, frame}

-- the ticks of a frame: 16 × F
abbrev pub frame_ticks : Format → ℕ
frame_ticks x = 16 * frame_bits x

-- with no break wanted: a waiting word is taken while CTS is low
abbrev pub taken : Format → Bool → Option ℕ → Bool × Transmitter
taken x cts None = (false, Resting)
taken x cts (Some w) = cond cts (false, Resting) (true, Sending x (frame x w) 0)

-- from rest, or just done sending: a wanted break comes first
abbrev pub begun : Format → Bool → Bool → Option ℕ → Bool × Transmitter
begun x wanted cts tdr = cond wanted (false, Breaking x 0) (taken x cts tdr)

-- a break that has lasted a frame ends once it is not wanted any more
abbrev pub broken : Format → Bool → Transmitter
broken x wanted = cond wanted (Breaking x (frame_ticks x)) Resting

-- one tick: whether the word was taken, and the transmitter then; a frame or break keeps the format y that it began with
abbrev pub ticked : Format → Bool → Bool → Option ℕ → Transmitter → Bool × Transmitter
ticked x wanted cts tdr Resting = begun x wanted cts tdr
ticked x wanted cts tdr (Sending y f c) = cond (nat_lt (c + 1) (frame_ticks y)) (false, Sending y f (c + 1)) (begun x wanted cts tdr)
ticked x wanted cts tdr (Breaking y c) = (false, cond (nat_lt (c + 1) (frame_ticks y)) (Breaking y (c + 1)) (broken y wanted))

-- TxD: frame bit number count / 16 while sending, low in a break, high at rest
abbrev pub level : Transmitter → Bool
level Resting = true
level (Sending y f c) = bit f (c / 16)
level (Breaking y c) = false

abbrev pub resting : Transmitter → Bool
resting Resting = true
resting (Sending y f c) = false
resting (Breaking y c) = false
