use Rattle.figures.proofs.Computed.{figures, board_figures}
use Rattle.figures.proofs.first_bytes.Goals as goal

pub returns-clause-figures : goal.returns-clause-figures
returns-clause-figures c = (figures, board_figures)
