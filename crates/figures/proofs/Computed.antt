-- The figures, computed.
use Rattle.std.proofs.Common.{refl}
use lib.Count.{ones}
use Rattle.dacia.specs.Separation.{step, answer, concerns, seen}
use Rattle.board.specs.Board.{cycle_answer, after_cycle}
use Rattle.board.specs.Calls.{step as board_step, seen as board_seen, play}
use Rattle.figures.specs.Figures.{Figures}
use Rattle.figures.specs.BoardFigures.{BoardFigures}

pub figures : Figures
unfolding step answer concerns seen ones
figures = record {
  reset_isr = refl;
  reset_csr = refl;
  sends_41 = refl;
  even_parity = refl;
  odd_parity = refl;
  eight_low = refl;
  nine_low = refl;
  break_full = refl;
  break_full_isr = refl;
  break_empty = refl;
  break_empty_isr = refl;
  lost_word = refl;
  first_stays = refl;
  compares = refl;
}

pub board_figures : BoardFigures
unfolding cycle_answer after_cycle board_step board_seen play
board_figures = record { cts_isr = refl; cts_isr_again = refl; nothing_before = refl; kept_in_924 = refl }
