-- The receiver: what a tick with a level makes of it, and the frame that ends there.
use Rattle.std.specs.Prelude.{ℕ, ◌+◌, ◌*◌, ◌/◌, ◌%◌, ◌^◌, Bool, cond, not, ◌&&◌, Some, None, Option, ◌==◌, bit_or, nat_lt}
use Rattle.serial.specs.declared.parity.Parity.{Parity}
use Rattle.serial.specs.declared.format.Format.{Format}
use Rattle.serial.specs.declared.receiver.Gathering.{Gathering}
use Rattle.serial.specs.declared.receiver.Receiver.{Receiver}
use Rattle.serial.specs.declared.receiver.Receiver.TheVariants.{Hunting, Gathering as UnderWay, Waiting}
use Rattle.serial.specs.declared.receiver.Received.{Received}
use Rattle.serial.specs.Format.{data_bits, stop_at}
use Rattle.serial.specs.Frame.{weight, check_bit}

-- a frame under way in the format x, at the count c, with the bits b
abbrev pub frame_at : Format → ℕ → ℕ → Gathering
frame_at x c b = record { format = x; count = c; bits = b }

abbrev pub gathering : Format → ℕ → ℕ → Receiver
gathering x c b = UnderWay (frame_at x c b)

abbrev pub new_gathering : Format → Gathering
new_gathering x = frame_at x 0 0

-- gathered bits with the level l as bit k
abbrev pub with_bit : ℕ → Bool → ℕ → ℕ
with_bit b l k = bit_or b (weight l * 2 ^ k)

abbrev pub grown : Bool → ℕ → Gathering → Gathering
grown l k g = frame_at g.format g.count (with_bit g.bits l k)

-- the word and the parity bit of gathered bits
abbrev pub word_of : Format → ℕ → ℕ
word_of x b = b / 2 % 2 ^ data_bits x.bits

abbrev pub parity_in : Option Parity → ℕ → ℕ
parity_in None b = 0
parity_in (Some q) b = b % 2

abbrev pub parity_of : Format → ℕ → ℕ
parity_of x b = parity_in x.parity (b / 2 ^ (1 + data_bits x.bits))

-- what the bits b of a whole frame say, l the level of its first stop bit
abbrev pub received : Format → ℕ → Bool → Received
received x b l = record {
  word = word_of x b;
  parity = (parity_of x b == 1);
  wrong = not (parity_of x b == check_bit x.parity (word_of x b));
  stop = l;
  low = (b == 0);
}

-- after a low stop bit it waits for a high level, otherwise it hunts
abbrev pub ended : Format → ℕ → Bool → Option Received × Receiver
ended x b l = (Some (received x b l), cond l Hunting Waiting)

-- the count c is the middle of a bit: a high bit 0 is no start bit
abbrev pub sampled : Format → ℕ → ℕ → Bool → Receiver
sampled x c b l = cond (c == 8 && l) Hunting (gathering x c (with_bit b l (c / 16)))

-- the count c comes before the first stop bit: in the middle of a bit its level is taken
abbrev pub counted : Format → ℕ → ℕ → Bool → Receiver
counted x c b l = cond (c % 16 == 8) (sampled x c b l) (gathering x c b)

-- at the count c of a frame: its first stop bit ends it
abbrev pub gathered : Format → ℕ → ℕ → Bool → Option Received × Receiver
gathered x c b l = cond (nat_lt c (16 * stop_at x + 8)) (None, counted x c b l) (ended x (with_bit b l (stop_at x)) l)

-- one tick: the frame that ends here, and the receiver then; a frame keeps the format that it began with
abbrev pub heard : Format → Bool → Receiver → Option Received × Receiver
heard x l Hunting = (None, cond l Hunting (UnderWay (new_gathering x)))
heard x l (UnderWay g) = gathered g.format (g.count + 1) g.bits l
heard x l Waiting = (None, cond l Hunting Waiting)
