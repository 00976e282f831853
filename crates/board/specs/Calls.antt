-- Lists of calls on a board that is set up, and what they answered.
use Rattle.std.specs.Prelude.{ℕ, ◌+◌, Bool, cond, List, [], ◌∷◌, Option, Result, ◌==◌}
use Rattle.terms.specs.declared.channel_id.ChannelId.{ChannelId}
use Rattle.terms.specs.declared.modem_line.ModemLine.{ModemLine}
use Rattle.terms.specs.declared.note.Reading.{Reading}
use Rattle.terms.specs.declared.note.WriteNote.{WriteNote}
use Rattle.terms.specs.declared.refusal.Refusal.{Refusal}
use Rattle.terms.specs.declared.register.Register.TheVariants.{Interrupt, Data}
use Rattle.dacia.specs.Access.{select_at}
use Rattle.dacia.specs.Chip.{ChipAnswer, read_once, after_read_once, write_once, after_write_once, modem_on}
use Rattle.board.specs.declared.record.Record.{Record}
use Rattle.board.specs.Board.{State, with_chip, cycle_answer, after_cycle}
use Rattle.board.specs.Sweep.{Order, cycles, written, sweep_by}

-- a read at any select, a write to a channel's IER or TDR, a write at a select above 7 (8 + s), a modem level, a cycle,
-- and a sweep of k cycles into so many records, with any order of the two records of one cycle
pub data Call : Type 0 where
  read : ℕ → Call
  enable : ChannelId → ℕ → Call
  send : ChannelId → ℕ → Call
  write_above : ℕ → ℕ → Call
  modem : ChannelId → ModemLine → Bool → Call
  cycle : Call
  sweep : ℕ → ℕ → Order → Call

-- whether a sweep is accepted
abbrev pub accepted : ℕ → ℕ → Bool
accepted k room = sweep_by k room == 0

-- the board after a call
unfoldable pub step : Call → State → State
step (read s) t = with_chip (after_read_once s t.chip) t
step (enable ch b) t = with_chip (after_write_once (select_at ch Interrupt) b t.chip) t
step (send ch w) t = with_chip (after_write_once (select_at ch Data) w t.chip) t
step (write_above s b) t = with_chip (after_write_once (8 + s) b t.chip) t
step (modem ch line l) t = with_chip (modem_on ch line l t.chip) t
step cycle t = after_cycle t
step (sweep k room o) t = cond (accepted k room) (cycles k t) t

-- a call with what it answered: a read, a write to IER or TDR, a write above select 7, a modem level, a cycle, a sweep with the records
-- that it wrote, a refused sweep with its number
pub data Seen : Type 0 where
  did_read : ℕ → Result Reading Refusal → Seen
  did_enable : ChannelId → ℕ → Result (Option WriteNote) Refusal → Seen
  did_send : ChannelId → ℕ → Result (Option WriteNote) Refusal → Seen
  did_write_above : ℕ → ℕ → Result (Option WriteNote) Refusal → Seen
  did_modem : ChannelId → ModemLine → Bool → Seen
  did_cycle : ChipAnswer → Seen
  did_sweep : ℕ → List Record → Seen
  did_refuse : ℕ → Seen

unfoldable pub seen : Call → State → Seen
seen (read s) t = did_read s (read_once s t.chip)
seen (enable ch b) t = did_enable ch b (write_once (select_at ch Interrupt) t.chip)
seen (send ch w) t = did_send ch w (write_once (select_at ch Data) t.chip)
seen (write_above s b) t = did_write_above s b (write_once (8 + s) t.chip)
seen (modem ch line l) t = did_modem ch line l
seen cycle t = did_cycle (cycle_answer t)
seen (sweep k room o) t = cond (accepted k room) (did_sweep k (written o k t)) (did_refuse (sweep_by k room))

-- a board, and all that was seen of it, newest first
pub record Played : Type 0 where
  pub board : State
  pub past : List Seen

abbrev pub started : State → Played
started t = record { board = t; past = [] }

abbrev pub play_one : Call → Played → Played
play_one k w = record { board = step k w.board; past = seen k w.board ∷ w.past }

unfoldable pub play : List Call → Played → Played
play [] w = w
play (k ∷ ks) w = play ks (play_one k w)
