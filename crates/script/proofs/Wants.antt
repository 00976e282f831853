-- Where memory is wanting, a whole command was read.
use Rattle.std.proofs.Common.{◌≡◌, ℕ, zero, suc, ◌+◌, ◌<◌, ◌⊎◌, List, [], ◌∷◌, ◌++◌, length, take, drop, Ok, Err, Result, Vec, sym, ap, ◌∙◌, subst, inl, inr, append_assoc, arith, take-append-drop, length-take}
use Rattle.std.proofs.lemmas.List.{take-take, drop_all}
use Rattle.std.specs.List.{flat_map, slice_get}
use Rattle.std.specs.Result.{IsErrAnd}
use Rattle.std.specs.declared.alloc.Global.{Global}
use Rattle.script_lines.specs.Token.{word_of, letter_of, width, piece_of, first_piece, token_says}
use Rattle.script_lines.specs.declared.token.Token.{Token}
use Rattle.script_words.proofs.Places.{slice_get-take}
use Rattle.script_words.specs.Format.{begins, first_line, first_word, at_place, placed, before, read}
use Rattle.script_words.specs.Word.{first_line_at, line_at}
use Rattle.script_words.specs.declared.command.Command.{Command}
use Rattle.script_words.specs.declared.command.Placed.{Placed}
use Rattle.script_words.specs.declared.fault.Fault.{Fault}
use Rattle.script_words.specs.declared.fault.ScriptError.{ScriptError}
use Rattle.script_words.specs.declared.fault.ScriptError.TheVariants.{Fault as Faulty, OutOfMemory}
use Rattle.script_words.specs.declared.word.Word.{Word}
use Rattle.script.specs.Answer.{Wanting}
use Rattle.script.specs.Laws.{Leads}
use Rattle.script.specs.Writing.{line_end, written, written_script, AllSayable, at_lines}
use Rattle.script.proofs.Lines.{onward, Begins, begins_with, token_read, line_read, some_width, wide_first}
use Rattle.script.proofs.Scripts.{Back, lines_back, read_written}

pub no_want : (r : Result (Vec Placed Global) ScriptError) (f : Fault) (p : Type 0) → IsErrAnd r (λ y. y ≡ Faulty f) → Wanting r p
no_want (Ok v) f p h = tt
no_want (Err (Faulty e)) f p h = tt
no_want (Err OutOfMemory) f p h = cc

pub want : (r : Result (Vec Placed Global) ScriptError) (p : Type 0) → p → Wanting r p
want (Ok v) p h = tt
want (Err (Faulty e)) p h = tt
want (Err OutOfMemory) p h = h

pub want_weaker : (r : Result (Vec Placed Global) ScriptError) (p q : Type 0) → (p → q) → Wanting r p → Wanting r q
want_weaker (Ok v) p q f h = tt
want_weaker (Err (Faulty e)) p q f h = tt
want_weaker (Err OutOfMemory) p q f h = f h

front_parts : (n : ℕ) (x : ℕ) (xs bs : List ℕ) → 0 < n → bs ≡ x ∷ xs → (ys : List ℕ) × (take n bs ≡ x ∷ ys)
front_parts zero x xs bs h e = absurd (omega arith)
front_parts (suc n) x xs bs h e = (take n xs, ap (take (suc n)) e)

-- a command's line is at the front of a text whose token was read
head_back : (ts : List ℕ) (l : ℕ) (p : Placed) (ps : List Placed) → Back ts l (p ∷ ps) → (bs more : List ℕ) → bs ≡ ts ++ more → Leads bs
head_back ts l p ps b bs more e = go b.commands b.sayable b.text b.all
  where
    go : (cs : List Command) → AllSayable cs → ts ≡ flat_map written cs → p ∷ ps ≡ at_lines l cs → Leads bs
    go [] h t a = cc
    go (c ∷ cs) h t a = (c, flat_map written cs ++ more, h.0, e ∙ ap (λ z. z ++ more) t ∙ append_assoc (written c) (flat_map written cs) more)

token_leads : (t : Token) (bs : List ℕ) (l : ℕ) (m : Command) → Begins t bs l → Ok (m ∷ []) ≡ token_says t → Leads bs
unfolding read
token_leads t bs l m b s =
    let n : ℕ = width (letter_of t) in
    let ts : List ℕ = take n bs in
    let f = front_parts n b.byte b.rest bs (some_width (letter_of t)) b.parts in
    let short : Begins t ts l = record {
      byte = b.byte;
      rest = f.0;
      parts = f.1;
      lettered = b.lettered;
      bytes = b.bytes ∙ sym (take-take n n bs (omega arith));
      line = b.line;
      column = b.column;
    } in
    let none : drop (length (word_of t).bytes.now) ts ≡ [] = ap (λ ws. drop (length ws) ts) b.bytes ∙ drop_all (length ts) ts (omega arith) in
    let alone : read begins l 1 ts ≡ Ok (record { command = m; position = at_place l 1 } ∷ []) =
    token_read t ts l short ∙ ap (λ z. onward z l (drop (length (word_of t).bytes.now) ts)) (sym s)
    ∙ ap (λ ds. before (placed l (m ∷ [])) (read begins (suc l) 1 ds)) none in
    head_back ts l (record { command = m; position = at_place l 1 }) [] (lines_back (length ts) ts l _ (omega arith) alone) bs (drop n bs) (sym (take-append-drop n bs))

-- the reader's turns: nothing is read yet, or a command was
abbrev pub Started : List ℕ → List ℕ → Type 0
Started text rest = (text ≡ rest) ⊎ Leads text

pub leads_now : (text bs : List ℕ) (l : ℕ) (t : Token) (m : Command) → Started text bs → Ok (piece_of t) ≡ first_piece bs l → Ok (m ∷ []) ≡ token_says t → Leads text
leads_now text bs l t m (inl same) e s = subst Leads (sym same) (token_leads t bs l m (begins_with t bs l e) s)
leads_now text bs l t m (inr has) e s = has

-- the first line
none_said : (ts : List ℕ) (cs : List Command) → ◌≡◌ {A = List Placed} [] (at_lines 2 cs) → ts ≡ written_script cs → ts ≡ first_word ++ line_end
none_said ts [] e t = t
none_said ts (c ∷ cs) e t = cc

pub first_parts : (w : Word) → w.line ≡ 1 → w.column ≡ 1 → Ok [] ≡ first_line_at w → w.bytes.now ≡ first_word ++ line_end ++ drop 9 w.bytes.now
unfolding read first_line_at
first_parts w l c e =
    let bs : List ℕ = w.bytes.now in
    let ts : List ℕ = take 9 bs in
    let whole : read first_line w.line (w.column + 0) ts ≡ onward (line_at first_line w 0) w.line (drop 9 ts) =
    line_read first_line 9 wide_first w 0 ts (λ j lt. ap (slice_get bs) (let z : 0 + j ≡ j = omega arith in z) ∙ sym (slice_get-take 9 bs j lt)) in
    let none : drop 9 ts ≡ [] = drop_taken_all 9 bs in
    let one : w.column + 0 ≡ 1 = omega (arith, c) in
    let alone : read first_line 1 1 ts ≡ onward (Ok []) 1 [] = cc in
    let b = read_written ts [] alone in
    let front : ts ≡ first_word ++ line_end = none_said ts b.0 b.2 b.3 in
    sym (take-append-drop 9 bs) ∙ ap (λ z. z ++ drop 9 bs) front
  where
    drop_taken_all : (n : ℕ) (xs : List ℕ) → drop n (take n xs) ≡ []
    drop_taken_all n xs = drop_all n (take n xs) (simp length-take (omega arith))
