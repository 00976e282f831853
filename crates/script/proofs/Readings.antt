-- The reader's turns: the bytes of the first line, and one line after the other.
use Rattle.std.proofs.Common.{◌≡◌, ℕ, suc, ◌+◌, ◌<◌, ◌≤◌, leb, List, [], ◌∷◌, ◌++◌, length, drop, Ok, Err, Result, Vec, sym, ap, ◌∙◌, subst, append-nil, add-one, arith}
use Rattle.std.proofs.lemmas.List.{nil_from_length}
use Rattle.std.proofs.lemmas.Bool.{cond-true, cond-false, le-leb, lt-leb}
use Rattle.std.specs.Result.{IsErrAnd}
use Rattle.std.specs.declared.alloc.Global.{Global}
use Rattle.script_words.specs.declared.refusal.ScriptRefusal.TheVariants.{ScriptTooLong}
use Rattle.script_words.specs.declared.command.Command.{Command}
use Rattle.script_words.specs.declared.command.Placed.{Placed}
use Rattle.script_words.specs.declared.fault.Fault.{Fault}
use Rattle.script_words.specs.declared.fault.ScriptError.{ScriptError}
use Rattle.script_words.specs.declared.fault.ScriptError.TheVariants.{Fault as Faulty, OutOfMemory}
use Rattle.script_lines.specs.declared.token.Token.{Token}
use Rattle.script_words.specs.declared.position.Position.{Position}
use Rattle.script_words.specs.declared.word.Word.{Word}
use Rattle.script.specs.Answer.{Gives}
use Rattle.script_words.specs.Format.{only, begins, ends, word, first_word, first_line, at_place, before, read, script_says}
use Rattle.script_lines.specs.Token.{word_of, piece_of, first_piece, token_says}
use Rattle.script_words.specs.Word.{position_at, and_then, spot_at, line_at, first_line_at}
use Rattle.script.proofs.Lines.{onward, begins_with, token_read, no_token, before_none, before_again, first_read}

-- a fault that a `?` hands on
pub gives_fault : (r : Result (Vec Placed Global) ScriptError) (f : Fault) (a : Result (List Placed) Fault) → IsErrAnd r (λ y. y ≡ Faulty f) → a ≡ Err f → Gives r a
gives_fault (Ok v) f a h e = absurd h
gives_fault (Err (Faulty g)) f a h e = cc
gives_fault (Err OutOfMemory) f a h e = tt

-- the first line, of which bs is left to read, from place i on
abbrev pub Headed : Word → ℕ → List ℕ → Type 0
Headed w i bs = (first_line_at w ≡ line_at (word bs (ends [])) w i) × (i + length bs ≡ 8)

pub first_none : (w : Word) (i : ℕ) (bs : List ℕ) → i ≡ 0 → bs ≡ first_word → Headed w i bs
unfolding first_line_at
first_none w i bs start all = (ap (line_at first_line w) (sym start) ∙ ap (λ zs. line_at (word zs (ends [])) w i) (sym all), omega (arith, start, ap length all))

first_byte : (w : Word) (k i x : ℕ) (bs cs : List ℕ) → i ≡ k → bs ≡ x ∷ cs → Headed w k bs →
    first_line_at w ≡ and_then (spot_at (only x) w i) (λ _. line_at (word cs (ends [])) w (suc i))
first_byte w k i x bs cs same e h = h.0 ∙ ap (line_at (word bs (ends [])) w) (sym same) ∙ ap (λ zs. line_at (word zs (ends [])) w i) e

pub first_more : (w : Word) (k i j x : ℕ) (bs cs : List ℕ) (u : Unit {0}) → i ≡ k → bs ≡ x ∷ cs → j ≡ i + 1 → Ok u ≡ spot_at (only x) w i → Headed w k bs → Headed w j cs
first_more w k i j x bs cs u same e next here h =
    let after = first_byte w k i x bs cs same e h ∙ sym (ap (λ r. and_then r (λ _. line_at (word cs (ends [])) w (suc i))) here) in
    let long : k + length (x ∷ cs) ≡ 8 = subst (λ zs. k + length zs ≡ 8) e h.1 in
    (after ∙ ap (line_at (word cs (ends [])) w) (omega (arith, next, same)), omega (arith, next, long))

pub first_stop : (w : Word) (k i x : ℕ) (bs cs : List ℕ) (f : Fault) → i ≡ k → bs ≡ x ∷ cs → Err f ≡ spot_at (only x) w i → Headed w k bs → Err f ≡ first_line_at w
first_stop w k i x bs cs f same e here h =
    sym (first_byte w k i x bs cs same e h ∙ sym (ap (λ r. and_then r (λ _. line_at (word cs (ends [])) w (suc i))) here))

-- the lines: a is the whole answer, ps is what was read, and bs is left from line l on
module _ (a : Result (List Placed) Fault) (ps : List Placed) (l : ℕ) (bs : List ℕ) (inv : a ≡ before ps (read begins l 1 bs)) where
  pub lines_none : length bs ≡ 0 → a ≡ Ok ps
  unfolding read
  lines_none e = inv ∙ ap (λ zs. before ps (read begins l 1 zs)) (nil_from_length bs e) ∙ ap Ok (append-nil ps)

  pub lines_no_token : (f : Fault) → Err f ≡ first_piece bs l → 0 < length bs → a ≡ Err f
  lines_no_token f e some = inv ∙ ap (before ps) (no_token bs l f e some)

  pub lines_no_command : (t : Token) (f : Fault) → Ok (piece_of t) ≡ first_piece bs l → Err f ≡ token_says t → a ≡ Err f
  lines_no_command t f e s =
      inv ∙ ap (before ps) (token_read t bs l (begins_with t bs l e) ∙ ap (λ z. onward z l (drop (length (word_of t).bytes.now) bs)) (sym s))

  pub lines_more : (t : Token) (m : Command) → Ok (piece_of t) ≡ first_piece bs l → Ok (m ∷ []) ≡ token_says t →
      a ≡ before (ps ++ record { command = m; position = at_place l 1 } ∷ []) (read begins (l + 1) 1 (drop (length (word_of t).bytes.now) bs))
  lines_more t m e s =
      let rest : List ℕ = drop (length (word_of t).bytes.now) bs in
      inv ∙ ap (before ps) (token_read t bs l (begins_with t bs l e) ∙ ap (λ z. onward z l rest) (sym s))
      ∙ before_again ps (record { command = m; position = at_place l 1 }) (read begins (suc l) 1 rest)
      ∙ ap (λ j. before (ps ++ record { command = m; position = at_place l 1 } ∷ []) (read begins j 1 rest)) (sym (add-one l))

  -- the same as the code has it
  pub lines_again : (t : Token) (m : Command) → Ok (piece_of t) ≡ first_piece bs l → Ok (m ∷ []) ≡ token_says t →
      (qs : List Placed) (w : Word) (p : Position) (zs : List ℕ) → qs ≡ ps ++ record { command = m; position = p } ∷ [] → p ≡ position_at w 0 →
      w.line ≡ (word_of t).line → w.column ≡ (word_of t).column → w.bytes.now ≡ (word_of t).bytes.now → zs ≡ drop (length w.bytes.now) bs →
      a ≡ before qs (read begins (l + 1) 1 zs)
  lines_again t m e s qs w p zs eq ep el ec ew ez =
      let b = begins_with t bs l e in
      let more = lines_more t m e s in
      let one : w.column + 0 ≡ 1 = omega (arith, ec, b.column) in
      let rest = ez ∙ ap (λ vs. drop (length vs) bs) ew in
      cc

-- the script
pub too_long : (bs : List ℕ) → 16384 < length bs → script_says bs ≡ Err (record { refusal = ScriptTooLong; position = at_place 0 0 })
unfolding script_says
too_long bs h = cond-false (leb (length bs) 16384) _ _ (lt-leb (length bs) 16384 h)

pub short_enough : (bs : List ℕ) → length bs ≤ 16384 → script_says bs ≡ read first_line 1 1 bs
unfolding script_says
short_enough bs h = cond-true (leb (length bs) 16384) _ _ (le-leb (length bs) 16384 h)

pub no_first_line : (w : Word) (f : Fault) → w.line ≡ 1 → w.column ≡ 1 → length w.bytes.now ≤ 16384 → Err f ≡ first_line_at w → script_says w.bytes.now ≡ Err f
no_first_line w f l c h e =
    short_enough w.bytes.now h ∙ first_read w l c ∙ ap (λ z. onward z 1 (drop 9 w.bytes.now)) (sym e)

pub first_line_lem : (w : Word) → w.line ≡ 1 → w.column ≡ 1 → length w.bytes.now ≤ 16384 → Ok [] ≡ first_line_at w →
    script_says w.bytes.now ≡ read begins 2 1 (drop 9 w.bytes.now)
first_line_lem w l c h e =
    short_enough w.bytes.now h ∙ first_read w l c ∙ ap (λ z. onward z 1 (drop 9 w.bytes.now)) (sym e)
    ∙ before_none (read begins 2 1 (drop 9 w.bytes.now))
