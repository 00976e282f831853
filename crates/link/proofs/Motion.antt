-- The invariant of a sender, a line and a receiver: what is under way, and how long it takes.
use Rattle.std.proofs.Common.{◌≡◌, ℕ, suc, ◌+◌, ◌-◌, ◌*◌, ◌<◌, ◌≤◌, max, Bool, true, false, not, ◌⊎◌, List, ◌++◌, map, length, Option, mul-le-mul_right, one-mul, arith}
use Rattle.std.specs.Option.{option_to_list}
use Rattle.serial.specs.declared.format.Format.{Format}
use Rattle.serial.specs.declared.receiver.Received.{Received}
use Rattle.serial.specs.declared.transmitter.Transmitter.{Transmitter}
use Rattle.serial.specs.declared.transmitter.Transmitter.TheVariants.{Resting, Sending, Breaking}
use Rattle.serial.specs.Format.{cut}
use Rattle.serial.specs.Transmitter.{frame_ticks}
use Rattle.serial.proofs.Formats.{frame_bounds}
use Rattle.channel.specs.declared.sender.Sender.{Sender}
use Rattle.channel.specs.Sender.{is_empty}
use Rattle.link.proofs.Runs.{R}
use Rattle.link.proofs.WholeFrame.{clean}
use Rattle.link.proofs.Flow.{Flow}
use Rattle.link.proofs.Pending.{pending}

-- the cycles of a frame
abbrev pub frame_cycles : Format → ℕ → ℕ
frame_cycles x D = frame_ticks x * D

pub some_ticks : (x : Format) → 0 < frame_ticks x
some_ticks x = let b = (frame_bounds x).0 in omega arith

pub frame_time : (x : Format) (D : ℕ) → 0 < D → (0 < frame_cycles x D) × (D ≤ frame_cycles x D)
frame_time x D h =
    let t = some_ticks x in
    let e : 1 * D ≤ frame_ticks x * D = mul-le-mul_right D (omega arith) in
    let s = one-mul D in
    omega arith

-- a transmitter that rests or sends in the format x
abbrev pub Fits : Format → Transmitter → Type 0
Fits x Resting = Unit {0}
Fits x (Sending y f c) = (y ≡ x) × (c < frame_ticks x)
Fits x (Breaking y c) = ⊥

abbrev pub is_full : Option ℕ → Bool
is_full tdr = not (is_empty tdr)

-- the frame of a word taken
abbrev pub sent_as : Format → ℕ → Received
sent_as x v = clean x (cut x v)

abbrev pub extra : ℕ → Bool → ℕ
extra T true = T
extra T false = 0

-- How far the sender is: `T` cycles to a frame, `left` levels of the frame under way still to give, i idle levels behind it.
-- A sender with work left has given enough for the cycles of the row; one without has only idle levels behind it.
abbrev pub Timing : ℕ → ℕ → ℕ → ℕ → ℕ → Transmitter → Bool → ℕ → ℕ → ℕ → Type 0
Timing T d D φ left Resting false row best i = ((best ≤ 2 * T + i) × (row ≤ 2 * T + i)) ⊎ (d ≤ i)
Timing T d D φ left Resting true row best i = (row + ((D - φ) + T) ≤ 2 * T) × (best < 2 * T)
Timing T d D φ left (Sending y f c) full row best i = (row + (left + extra T full) ≤ 2 * T) × (best < 2 * T)
Timing T d D φ left (Breaking y c) full row best i = ⊥

pub record Motion (x : Format) (d D : ℕ) (tx : Transmitter) (full : Bool) (line : List Bool) (r : R) (L : List Received) (row best : ℕ) : Type 0 where
  pub idle : ℕ
  pub flow : Flow x D (line ++ pending D (frame_ticks x) r.phase tx) r L idle
  pub timing : Timing (frame_cycles x D) d D r.phase (length (pending D (frame_ticks x) r.phase tx)) tx full row best idle

-- U b: the words written so far and not replaced, where b says that the last of them is about to be; the last word may still wait in TDR
pub record Going (x : Format) (d D : ℕ) (s : Sender) (line : List Bool) (r : R) (U : Bool → List ℕ) (row best : ℕ) : Type 0 where
  pub phase_low : r.phase < D
  pub fits : Fits x s.transmitter
  pub line_size : length line ≡ d
  pub motion : Motion x d D s.transmitter (is_full s.tdr) line r (map (sent_as x) (U (is_full s.tdr))) row best
  pub queue : U false ≡ U (is_full s.tdr) ++ option_to_list s.tdr

-- the rows after a cycle with cts high or low
abbrev pub Next : Bool → ℕ → ℕ → ℕ → ℕ → Type 0
Next true row best row' best' = (row' ≡ 0) × (best' ≡ best)
Next false row best row' best' = (row' ≡ suc row) × (best' ≡ max best (suc row))
