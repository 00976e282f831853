-- The board: TxD1 goes into line A, whose answer is RxD2, and TxD2 into line B, whose answer is RxD1.
use Rattle.std.specs.Prelude.{ℕ, Bool, cond, ◌&&◌, ◌||◌, List, Ok, Err, Result, ◌==◌}
use Rattle.terms.specs.declared.refusal.Refusal.{Refusal}
use Rattle.terms.specs.declared.refusal.Refusal.TheVariants.{BadControl, BadFormat, LineNotQuiet}
use Rattle.serial.specs.Frame.{bit}
use Rattle.channel.specs.Control.{rate_code}
use Rattle.channel.specs.Channel.{txd_of, no_marks}
use Rattle.dacia.specs.declared.chip.Chip.{Chip}
use Rattle.dacia.specs.declared.chip.Inputs.{Inputs}
use Rattle.dacia.specs.Chip.{ChipAnswer, newly_reset, chip_cycled, after_read_once, after_write_once}
use Rattle.line.specs.Line.{leaves, held, all_high}
use Rattle.board.specs.declared.board.Board.{Board}

-- what a board stands for: its chip, and the levels that its lines hold
pub record State : Type 0 where
  pub chip : Chip
  pub a : List Bool
  pub b : List Bool

abbrev pub state : {A B : Type 0} → (A → List Bool) → (B → List Bool) → Board A B → State
state f h s = record { chip = s.chip; a = f s.a; b = h s.b }

abbrev pub with_chip : Chip → State → State
with_chip c s = record s { chip = c }

-- the levels of TxD, which the lines are given
abbrev pub txd1 : State → Bool
txd1 s = txd_of s.chip.channels.one

abbrev pub txd2 : State → Bool
txd2 s = txd_of s.chip.channels.two

-- the answers of the lines are the levels of RxD; no cycle of a board is marked RxC or TxC
abbrev pub inputs : State → Inputs
inputs s = record { rxd = record { one = leaves s.b (txd2 s); two = leaves s.a (txd1 s) }; marks = no_marks }

-- a cycle of the board
unfoldable pub cycle_answer : State → ChipAnswer
cycle_answer s = (chip_cycled (inputs s) s.chip).0

unfoldable pub after_cycle : State → State
after_cycle s = record { chip = (chip_cycled (inputs s) s.chip).1; a = held s.a (txd1 s); b = held s.b (txd2 s) }

-- set-up: refused for a CR value with bit 7 set or rate code 15, for an FR value with bit 7 clear, and for a line that is not quiet
abbrev pub bad_control : ℕ → Bool
bad_control cr = bit cr 7 || rate_code cr == 15

abbrev pub lines_quiet : State → Bool
lines_quiet s = all_high s.a && all_high s.b

abbrev pub set_up_answer : ℕ → ℕ → State → Result (Unit {0}) Refusal
set_up_answer cr fr s =
    cond (bad_control cr) (Err BadControl) (cond (bit fr 7) (cond (lines_quiet s) (Ok tt) (Err LineNotQuiet)) (Err BadFormat))

-- the number that it is refused by, 0 for none; the smallest where several apply
abbrev pub set_up_by : ℕ → ℕ → State → ℕ
set_up_by cr fr s = cond (bad_control cr) 3 (cond (bit fr 7) (cond (lines_quiet s) 0 5) 4)

-- both values written at one channel's control register
abbrev pub controlled : ℕ → ℕ → ℕ → Chip → Chip
controlled select cr fr c = after_write_once select fr (after_write_once select cr c)

-- a newly reset chip, with both values written to both channels and both RDRs read
abbrev pub set_up_chip : ℕ → ℕ → Chip
set_up_chip cr fr = after_read_once 7 (after_read_once 3 (controlled 5 cr fr (controlled 1 cr fr newly_reset)))

-- a refused set-up leaves the board as it was
abbrev pub after_set_up : Result (Unit {0}) Refusal → ℕ → ℕ → State → State
after_set_up (Ok u) cr fr s = with_chip (set_up_chip cr fr) s
after_set_up (Err e) cr fr s = s
