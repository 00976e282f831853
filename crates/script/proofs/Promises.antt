-- What the definition of the format promises of every answer.
use Rattle.std.proofs.Common.{◌≡◌, ℕ, ◌≤◌, Bool, true, false, cond, eqb, List, [], ◌∷◌, ◌++◌, length, is_ok, Ok, Err, vec_items, Result, Vec, sym, refl, ap, ◌∙◌, subst, ⊎_elim, append_assoc, arith}
use Rattle.std.proofs.lemmas.Bool.{cases_lt, eq-eqb, ne_eqb, true≢false}
use Rattle.std.specs.declared.alloc.Global.{Global}
use Rattle.script_words.specs.Refusal.{script_refusal_number}
use Rattle.script_words.specs.declared.refusal.ScriptRefusal.TheVariants.{BadFirstLine, BadScript}
use Rattle.script_words.specs.declared.command.Placed.{Placed}
use Rattle.script_words.specs.declared.fault.Fault.{Fault}
use Rattle.script_words.specs.declared.fault.ScriptError.{ScriptError}
use Rattle.script_words.specs.declared.fault.ScriptError.TheVariants.{Fault as Faulty, OutOfMemory}
use Rattle.script.specs.Answer.{Gives}
use Rattle.script_words.specs.Format.{first_line, read, script_says}
use Rattle.script.specs.Laws.{HasFirstLine, Script, RoundTrip, WrittenBack, Stops, Misfit, Faults}
use Rattle.script.proofs.Misfits.{accepts, accepts_read, plain_first, Halts, stop, fault_line}
use Rattle.script.proofs.Readings.{short_enough, too_long}
use Rattle.script.proofs.Scripts.{first_written, written_read, read_written, first_there}

-- what is accepted is a script, and a script is accepted
accepted : (bs : List ℕ) → accepts first_line bs ≡ true → Script bs
accepted bs a = go (read first_line 1 1 bs) refl (accepts_read bs first_line 1 1 ∙ a)
  where
    go : (z : Result (List Placed) Fault) → read first_line 1 1 bs ≡ z → is_ok (read first_line 1 1 bs) ≡ true → Script bs
    go (Ok ps) e h = let w = read_written bs ps e in (w.0, w.1, w.3)
    go (Err f) e h = let z = ap is_ok e in cc

accepting : (bs : List ℕ) → Script bs → accepts first_line bs ≡ true
accepting bs s = sym (accepts_read bs first_line 1 1) ∙ ap (λ z. is_ok (read first_line 1 1 z)) s.2 ∙ ap is_ok (written_read s.0 s.1)

pub round_trip : (bs : List ℕ) (r : Result (Vec Placed Global) ScriptError) → Gives r (script_says bs) → RoundTrip bs r
round_trip bs r g cs h e few =
    subst (λ a. Gives r a) (short_enough bs few ∙ ap (λ z. read first_line 1 1 z) e ∙ written_read cs h) g

not_long : (bs : List ℕ) (ps : List Placed) → script_says bs ≡ Ok ps → length bs ≤ 16384
not_long bs ps e = ⊎_elim (λ long. let z = sym (too_long bs long) ∙ e in cc) (λ few. few) (cases_lt 16384 (length bs))

pub written_back : (bs : List ℕ) (r : Result (Vec Placed Global) ScriptError) → Gives r (script_says bs) → WrittenBack bs r
written_back bs (Ok v) g = read_written bs (vec_items v) (sym (short_enough bs (not_long bs (vec_items v) g)) ∙ g)
written_back bs (Err e) g = tt

-- the number of a misfit
misfit_number : (b : Bool) → script_refusal_number (cond b BadFirstLine BadScript) ≡ cond b 8 9
misfit_number true = refl
misfit_number false = refl

refuses : (bs : List ℕ) → accepts first_line bs ≡ false → Script bs → ⊥
refuses bs h s = true≢false (sym (accepting bs s) ∙ h)

stops : (good bad : List ℕ) → Halts first_line good bad → Stops good bad
stops good [] h = refuses good h
stops good (b ∷ bs) h = λ o. refuses ((good ++ b ∷ []) ++ o.0) (ap (accepts first_line) (append_assoc good (b ∷ []) o.0) ∙ h o.0) o.1

-- 8 and 9 tell whether the first line is there
not_eight : (bs : List ℕ) (f : Fault) → read first_line 1 1 bs ≡ Err f → script_refusal_number f.refusal ≡ cond (eqb f.position.line 1) 8 9 → script_refusal_number f.refusal ≡ 8 → HasFirstLine bs → ⊥
not_eight bs f e n eight has =
    let later : 2 ≤ f.position.line = fault_line has.0 2 1 f (sym (first_written has.0) ∙ sym (ap (λ z. read first_line 1 1 z) has.1) ∙ e) in
    let other : eqb f.position.line 1 ≡ false = ne_eqb f.position.line 1 (λ z. omega arith) in
    let nine : script_refusal_number f.refusal ≡ 9 = n ∙ ap (λ b. cond b 8 9) other in
    omega (arith, eight, nine)

then_nine : (bs : List ℕ) (f : Fault) → read first_line 1 1 bs ≡ Err f → script_refusal_number f.refusal ≡ cond (eqb f.position.line 1) 8 9 → script_refusal_number f.refusal ≡ 9 → HasFirstLine bs
then_nine bs f e n nine =
    ⊎_elim
    (λ one. let eight : script_refusal_number f.refusal ≡ 8 = n ∙ ap (λ b. cond b 8 9) (eq-eqb f.position.line 1 one) in absurd (omega (arith, eight, nine)))
    (λ has. has)
    (first_there bs f e)

misfit : (bs : List ℕ) (f : Fault) → read first_line 1 1 bs ≡ Err f → Misfit f bs
misfit bs f e =
    let t = stop bs first_line 1 1 f plain_first e in
    let n : script_refusal_number f.refusal ≡ cond (eqb f.position.line 1) 8 9 = ap (λ (g : Fault). script_refusal_number g.refusal) t.fault ∙ misfit_number (eqb f.position.line 1) in
    record {
      good = t.good;
      bad = t.bad;
      parts = t.parts;
      place = t.place;
      number = n;
      eight = not_eight bs f e n;
      nine = then_nine bs f e n;
      opens = (t.more, accepted (t.good ++ t.more) t.opens);
      stops = stops t.good t.bad t.halts;
    }

pub faults : (bs : List ℕ) (r : Result (Vec Placed Global) ScriptError) → Gives r (script_says bs) → Faults bs r
faults bs (Ok v) g = not_long bs (vec_items v) g
faults bs (Err (Faulty f)) g = (
  λ few. misfit bs f (sym (short_enough bs few) ∙ g),
  λ long.
      let z = sym (too_long bs long) ∙ g in
      record { number = cc; position = cc },
)
faults bs (Err OutOfMemory) g = tt
