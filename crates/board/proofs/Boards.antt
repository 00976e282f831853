-- A cycle of the board from its parts.
use Rattle.std.proofs.Common.{◌≡◌, Bool, List, ap, ◌∙◌}
use Rattle.channel.specs.Channel.{no_marks}
use Rattle.dacia.specs.declared.chip.Chip.{Chip}
use Rattle.dacia.specs.declared.chip.Inputs.{Inputs}
use Rattle.dacia.specs.Chip.{ChipAnswer, chip_cycled}
use Rattle.line.specs.Line.{leaves, held}
use Rattle.board.specs.Board.{State, txd1, txd2, inputs, cycle_answer, after_cycle}

pub record Cycled (s : State) (answer : ChipAnswer) (next : State) : Type 0 where
  pub answers : answer ≡ cycle_answer s
  pub leaves : next ≡ after_cycle s

-- the levels that the lines were given and answered, the chip's answer, and what is left
pub cycled_parts : (s : State) (t1 t2 r1 r2 : Bool) (answer : ChipAnswer) (chip : Chip) (a b : List Bool) →
    t1 ≡ txd1 s → t2 ≡ txd2 s → r2 ≡ leaves s.a t1 → r1 ≡ leaves s.b t2 → a ≡ held s.a t1 → b ≡ held s.b t2 →
    ◌≡◌ {A = ChipAnswer × Chip} (answer, chip) (chip_cycled (record { rxd = record { one = r1; two = r2 }; marks = no_marks }) s.chip) →
    Cycled s answer (record { chip = chip; a = a; b = b })
unfolding cycle_answer after_cycle
cycled_parts s t1 t2 r1 r2 answer chip a b e1 e2 f2 f1 ha hb whole =
    let in1 : r1 ≡ (inputs s).rxd.one = f1 ∙ ap (leaves s.b) e2 in
    let in2 : r2 ≡ (inputs s).rxd.two = f2 ∙ ap (leaves s.a) e1 in
    let given : ◌≡◌ {A = Inputs} (record { rxd = record { one = r1; two = r2 }; marks = no_marks }) (inputs s) = λ i. record { rxd = record { one = in1 i; two = in2 i }; marks = no_marks } in
    let all = whole ∙ ap (λ i. chip_cycled i s.chip) given in
    let first = ha ∙ ap (held s.a) e1 in
    let second = hb ∙ ap (held s.b) e2 in
    record {
      answers = ap (λ p. p.0) all;
      leaves = λ i. record { chip = (all i).1; a = first i; b = second i };
    }
