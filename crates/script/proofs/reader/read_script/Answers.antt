use Rattle.std.proofs.Common.{ℕ, List, drop, Err, Result, Vec, sym, refl, ap, ◌∙◌, subst, arith}
use Rattle.std.specs.declared.alloc.Global.{Global}
use Rattle.script_words.specs.declared.command.Placed.{Placed}
use Rattle.script_words.specs.declared.fault.ScriptError.{ScriptError}
use Rattle.script_words.specs.declared.fault.ScriptError.TheVariants.{Fault as Faulty}
use Rattle.script_words.specs.declared.word.Word.{Word}
use Rattle.script.specs.Answer.{Gives}
use Rattle.script_words.specs.Format.{begins, read, script_says}
use Rattle.script.specs.Laws.{RoundTrip, WrittenBack, Faults, Leads, Memory}
use Rattle.script.proofs.Promises.{round_trip, written_back, faults}
use Rattle.script.proofs.Readings.{gives_fault, too_long, no_first_line, first_line_lem}
use Rattle.script.proofs.Wants.{no_want, want_weaker, first_parts}
use Rattle.script.proofs.reader.read_script.Goals as goal

all : (bs : List ℕ) (r : Result (Vec Placed Global) ScriptError) → Gives r (script_says bs) → Memory bs r →
    record { answers : Gives r (script_says bs); round_trip : RoundTrip bs r; written_back : WrittenBack bs r; faults : Faults bs r; memory : Memory bs r }
all bs r g m = record { answers = g; round_trip = round_trip bs r g; written_back = written_back bs r g; faults = faults bs r g; memory = m }

pub returns-then-script-gt-MOST_BYTES : goal.returns-then-script-gt-MOST_BYTES
returns-then-script-gt-MOST_BYTES c = all c.args.script.now (Err (Faulty _)) (too_long c.args.script.now (omega arith)) tt

pub returns-in_err-first_line : goal.returns-in_err-first_line
returns-in_err-first_line c =
    let r = c.from_residual.result in
    let e = c.from_residual.ensures.1 in
    all c.args.script.now r (gives_fault r _ _ e (no_first_line _ _ refl refl (omega arith) c.in_err-first_line.ensures.value)) (no_want r _ _ e)

pub split_at-requires : goal.split_at-requires
split_at-requires c = c.in_ok-first_line.ensures.within

pub returns : goal.returns
returns c =
    let w : Word = record { bytes = c.args.script; line = 1; column = 1 } in
    let first = c.in_ok-first_line.ensures.value in
    let e = first_line_lem w refl refl (omega arith) first in
    let back = c.split_at.ensures.back in
    all c.args.script.now c.read_lines.result
    (subst (λ a. Gives c.read_lines.result a) (ap (λ bs. read begins 2 1 bs) back ∙ sym e) c.read_lines.ensures.answers)
    (want_weaker c.read_lines.result _ _
    (λ leads. ((omega arith), (drop 9 c.args.script.now, first_parts w refl refl first, subst Leads back leads)))
    c.read_lines.ensures.memory)
