use Rattle.dacia.proofs.Separations.{separated}
use Rattle.dacia.proofs.chip.PoweredChip.reset.Goals as goal

pub returns-clause-separation : goal.returns-clause-separation
returns-clause-separation c = separated _
