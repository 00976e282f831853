-- A sweep: k cycles, whose reports are written into a list of records.
use Rattle.std.specs.Prelude.{◌≡◌, ℕ, zero, suc, ◌+◌, ◌*◌, Bool, cond, ◌||◌, List, [], ◌++◌, length, drop, Ok, Err, Result, ◌==◌, nat_lt}
use Rattle.terms.specs.declared.channel_id.ChannelId.TheVariants.{One, Two}
use Rattle.terms.specs.declared.refusal.Refusal.{Refusal}
use Rattle.dacia.specs.Chip.{ChipAnswer}
use Rattle.board.specs.declared.record.Record.{Record}
use Rattle.board.specs.Record.{entry, placed}
use Rattle.board.specs.Board.{State, cycle_answer, after_cycle}

-- the board after k cycles
unfoldable pub cycles : ℕ → State → State
cycles zero s = s
cycles (suc k) s = after_cycle (cycles k s)

-- an order says of each cycle whether channel 2's record stands before channel 1's
abbrev pub Order : Type 0
Order = ℕ → Bool

-- the records of the cycle i: each report but none stands once, the two next to each other
abbrev pub entries : Order → ℕ → ChipAnswer → List Record
entries o i a = let one = entry i One a.one.report in let two = entry i Two a.two.report in cond (o i) (two ++ one) (one ++ two)

-- the records of k cycles, which are numbered from 1
unfoldable pub written : Order → ℕ → State → List Record
written o zero s = []
written o (suc k) s = written o k s ++ entries o (suc k) (cycle_answer (cycles k s))

-- the list rs with ws in its first places; later records stay
abbrev pub overwritten : List Record → List Record → List Record
overwritten ws rs = ws ++ drop (length ws) rs

-- refused by 6 for k of 0 or above 2,048, by 7 for fewer than 2 × k records; 0 for none
abbrev pub sweep_by : ℕ → ℕ → ℕ
sweep_by k room = cond (k == 0 || nat_lt 2048 k) 6 (cond (nat_lt room (2 * k)) 7 0)

-- n records were written over the first of a list, in some order of the two records of one cycle
pub record Wrote (k : ℕ) (s : State) (before : List Record) (n : ℕ) (after : List Record) : Type 0 where
  pub order : Order
  pub count : n ≡ length (written order k s)
  pub list : after ≡ overwritten (written order k s) before

-- a refused sweep leaves the list as it was
abbrev pub Swept : ℕ → State → List Record → Result ℕ Refusal → List Record → Type 0
Swept k s before (Ok n) after = Wrote k s before n after
Swept k s before (Err e) after = after ≡ before

-- and the board
abbrev pub after_sweep : Result ℕ Refusal → ℕ → State → State
after_sweep (Ok n) k s = cycles k s
after_sweep (Err e) k s = s

-- the records of one cycle put into a list, channel 1's first: the next place, and the list
abbrev pub next_place : ℕ → ℕ → ChipAnswer → ℕ
next_place at i a = at + length (entry i One a.one.report) + length (entry i Two a.two.report)

abbrev pub both_placed : List Record → ℕ → ℕ → ChipAnswer → List Record
both_placed rs at i a = placed (placed rs at (entry i One a.one.report)) (at + length (entry i One a.one.report)) (entry i Two a.two.report)
