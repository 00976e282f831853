-- A line read by its places is the line read byte by byte.
use Rattle.std.proofs.Common.{◌≡◌, ℕ, suc, ◌+◌, ◌-◌, ◌<◌, ◌≤◌, Bool, true, false, cond, eqb, List, [], ◌∷◌, ◌++◌, length, take, drop, Some, None, Ok, Err, Option, Result, sym, refl, ap, ◌∙◌, append_assoc, add-suc, arith, length-take}
use Rattle.std.proofs.lemmas.List.{drop-drop}
use Rattle.std.specs.List.{slice_get}
use Rattle.std.specs.Option.{ok_or, option_map}
use Rattle.script_words.specs.declared.command.Command.{Command}
use Rattle.script_words.specs.declared.command.Placed.{Placed}
use Rattle.script_words.specs.declared.fault.Fault.{Fault}
use Rattle.script_lines.specs.declared.token.Token.{Token}
use Rattle.script_words.specs.declared.word.Word.{Word}
use Rattle.script_words.specs.Format.{Spot, only, Value, Rest, begins, ends, next, Letter, R, W, C, L, S, letter, after, fits, misfits, says, goes_on, at_place, misfit_at, first_line, placed, before, read}
use Rattle.script.proofs.Steps.{stepped}
use Rattle.script_lines.specs.Token.{word_of, letter_of, width, Piece, piece_of, first_piece, token_says}
use Rattle.script_words.specs.Word.{position_at, and_then, line_at, first_line_at}
use Rattle.script_words.proofs.Places.{slice_get-take, drop_taken}

-- a line that takes n bytes more
abbrev pub Wide : Rest → ℕ → Type 0
Wide begins n = ⊥
Wide (ends cs) n = n ≡ 1
Wide (next s k) n = (m : ℕ) × (n ≡ suc m) × ((v : Value s) → Wide (k v) m)

-- what comes after a line
abbrev pub onward : Result (List Command) Fault → ℕ → List ℕ → Result (List Placed) Fault
onward (Ok cs) l bs = before (placed l cs) (read begins (suc l) 1 bs)
onward (Err f) l bs = Err f

-- a byte that may be there, at a place where m is the fault
abbrev seen : {X : Type 0} → (ℕ → Option X) → Fault → Option ℕ → Result X Fault
seen f m o = and_then (ok_or o m) (λ b. ok_or (f b) m)

-- the last byte of a line
ends_by : (cs : List Command) (l c : ℕ) (ys : List ℕ) (b : Bool) →
    stepped l c ys (cond b (says cs) misfits)
    ≡ onward (and_then (ok_or (cond {A = Option (Unit {0})} b (Some tt) None) (misfit_at (at_place l c))) (λ _. Ok cs)) l ys
ends_by cs l c ys true = refl
ends_by cs l c ys false = refl

ends_read : (cs : List Command) (w : Word) (i : ℕ) (xs : List ℕ) → slice_get w.bytes.now i ≡ slice_get xs 0 →
    read (ends cs) w.line (w.column + i) xs ≡ onward (line_at (ends cs) w i) w.line (drop 1 xs)
unfolding read
ends_read cs w i xs same = go xs ∙ sym (ap (λ o. at o (drop 1 xs)) same)
  where
    at : Option ℕ → List ℕ → Result (List Placed) Fault
    at o ys = onward (and_then (seen (fits (only 10)) (misfit_at (position_at w i)) o) (λ _. Ok cs)) w.line ys

    go : (xs : List ℕ) → read (ends cs) w.line (w.column + i) xs ≡ at (slice_get xs 0) (drop 1 xs)
    go [] = refl
    go (x ∷ ys) = ends_by cs w.line (w.column + i) ys (eqb x 10)

-- any other byte
next_by : (s : Spot) (k : Value s → Rest) (l c : ℕ) (ys rest : List ℕ) (line : Rest → Result (List Command) Fault) →
    ((v : Value s) → read (k v) l (suc c) ys ≡ onward (line (k v)) l rest) → (o : Option (Value s)) →
    stepped l c ys (goes_on o k) ≡ onward (and_then (ok_or o (misfit_at (at_place l c))) (λ v. line (k v))) l rest
next_by s k l c ys rest line ih None = refl
next_by s k l c ys rest line ih (Some v) = ih v

next_read : (s : Spot) (k : Value s → Rest) (w : Word) (i : ℕ) (xs rest : List ℕ) → slice_get w.bytes.now i ≡ slice_get xs 0 →
    ((v : Value s) → read (k v) w.line (w.column + suc i) (drop 1 xs) ≡ onward (line_at (k v) w (suc i)) w.line rest) →
    read (next s k) w.line (w.column + i) xs ≡ onward (line_at (next s k) w i) w.line rest
unfolding read
next_read s k w i xs rest same ih = go xs ih ∙ sym (ap at same)
  where
    at : Option ℕ → Result (List Placed) Fault
    at o = onward (and_then (seen (fits s) (misfit_at (position_at w i)) o) (λ v. line_at (k v) w (suc i))) w.line rest

    go : (xs : List ℕ) → ((v : Value s) → read (k v) w.line (w.column + suc i) (drop 1 xs) ≡ onward (line_at (k v) w (suc i)) w.line rest) →
        read (next s k) w.line (w.column + i) xs ≡ at (slice_get xs 0)
    go [] ih = refl
    go (x ∷ ys) ih =
        next_by s k w.line (w.column + i) ys rest (λ r. line_at r w (suc i)) (λ v. ap (λ z. read (k v) w.line z ys) (sym (add-suc w.column i)) ∙ ih v) (fits s x)

-- the bytes of the word from the byte i on are those of the text
pub line_read : (r : Rest) (n : ℕ) → Wide r n → (w : Word) (i : ℕ) (xs : List ℕ) → ((j : ℕ) → j < n → slice_get w.bytes.now (i + j) ≡ slice_get xs j) →
    read r w.line (w.column + i) xs ≡ onward (line_at r w i) w.line (drop n xs)
line_read begins n h w i xs same = absurd h
line_read (ends cs) n h w i xs same =
    ends_read cs w i xs (ap (slice_get w.bytes.now) (let z : i ≡ i + 0 = omega arith in z) ∙ same 0 (omega arith))
    ∙ ap (λ z. onward (line_at (ends cs) w i) w.line (drop z xs)) (sym h)
line_read (next s k) n h w i xs same =
    next_read s k w i xs (drop n xs) (ap (slice_get w.bytes.now) (let z : i ≡ i + 0 = omega arith in z) ∙ same 0 (omega (arith, h.1)))
    (λ v. line_read (k v) h.0 (h.2 v) w (suc i) (drop 1 xs)
    (λ j lt. ap (slice_get w.bytes.now) (let z : suc i + j ≡ i + suc j = omega arith in z) ∙ same (suc j) (omega (arith, h.1)) ∙ sym (slice_get-next xs j))
    ∙ ap (onward (line_at (k v) w (suc i)) w.line) (drop-drop h.0 1 xs ∙ ap (λ z. drop z xs) (let z : 1 + h.0 ≡ n = omega (arith, h.1) in z)))
  where
    slice_get-next : (xs : List ℕ) (j : ℕ) → slice_get (drop 1 xs) j ≡ slice_get xs (suc j)
    slice_get-next [] j = refl
    slice_get-next (x ∷ xs) j = refl

-- a line's width after the letter
pub some_width : (k : Letter) → 0 < width k
some_width R = omega arith
some_width W = omega arith
some_width C = omega arith
some_width L = omega arith
some_width S = omega arith

wide : (k : Letter) → Wide (after k) (width k - 1)
wide R = (2, refl, λ _. (1, refl, λ _. refl))
wide W = (5, refl, λ _. (4, refl, λ _. (3, refl, λ _. (2, refl, λ _. (1, refl, λ _. refl)))))
wide C = (5, refl, λ _. (4, refl, λ _. (3, refl, λ _. (2, refl, λ _. (1, refl, λ _. refl)))))
wide L = (6, refl, λ _. (5, refl, λ _. (4, refl, λ _. (3, refl, λ _. (2, refl, λ _. (1, refl, λ _. refl))))))
wide S = (6, refl, λ _. (5, refl, λ _. (4, refl, λ _. (3, refl, λ _. (2, refl, λ _. (1, refl, λ _. refl))))))

pub wide_first : Wide first_line 9
wide_first = (8, refl, λ _. (7, refl, λ _. (6, refl, λ _. (5, refl, λ _. (4, refl, λ _. (3, refl, λ _. (2, refl, λ _. (1, refl, λ _. refl))))))))

-- the token that a text begins with
pub record Begins (t : Token) (bs : List ℕ) (l : ℕ) : Type 0 where
  pub byte : ℕ
  pub rest : List ℕ
  pub parts : bs ≡ byte ∷ rest
  pub lettered : letter byte ≡ Some (letter_of t)
  pub bytes : (word_of t).bytes.now ≡ take (width (letter_of t)) bs
  pub line : (word_of t).line ≡ l
  pub column : (word_of t).column ≡ 1

abbrev piece_at : List ℕ → ℕ → Letter → Piece
piece_at bs l k = record { letter = k; bytes = take (width k) bs; position = at_place l 1 }

begun : (t : Token) (x : ℕ) (xs : List ℕ) (l : ℕ) (k : Letter) → letter x ≡ Some k → piece_of t ≡ piece_at (x ∷ xs) l k → Begins t (x ∷ xs) l
begun t x xs l k has same = record {
  byte = x;
  rest = xs;
  parts = refl;
  lettered = has ∙ ap Some (sym (ap (λ (p : Piece). p.letter) same));
  bytes = ap (λ (p : Piece). p.bytes) same ∙ ap (λ j. take (width j) (x ∷ xs)) (sym (ap (λ (p : Piece). p.letter) same));
  line = ap (λ (p : Piece). p.position.line) same;
  column = ap (λ (p : Piece). p.position.column) same;
}

pub begins_with : (t : Token) (bs : List ℕ) (l : ℕ) → Ok (piece_of t) ≡ first_piece bs l → Begins t bs l
begins_with t [] l e = cc
begins_with t (x ∷ xs) l e = go (letter x) refl
  where
    go : (o : Option Letter) → letter x ≡ o → Begins t (x ∷ xs) l
    go None h = let z = e ∙ ap (λ o. ok_or (option_map (piece_at (x ∷ xs) l) o) (misfit_at (at_place l 1))) h in cc
    go (Some k) h = let z = e ∙ ap (λ o. ok_or (option_map (piece_at (x ∷ xs) l) o) (misfit_at (at_place l 1))) h in begun t x xs l k h (cc)

-- a line is read as its token says
letter_read : (o : Option Letter) (k : Letter) (l : ℕ) (xs : List ℕ) → o ≡ Some k → stepped l 1 xs (goes_on o after) ≡ read (after k) l 2 xs
letter_read o k l xs e = ap (λ z. stepped l 1 xs (goes_on z after)) e

pub token_read : (t : Token) (bs : List ℕ) (l : ℕ) → Begins t bs l → read begins l 1 bs ≡ onward (token_says t) l (drop (length (word_of t).bytes.now) bs)
unfolding read
token_read t bs l b =
    let k : Letter = letter_of t in
    let w : Word = word_of t in
    let n : ℕ = width k - 1 in
    let long : suc n ≡ width k = omega (arith, some_width k) in
    let same : (j : ℕ) → j < n → slice_get w.bytes.now (1 + j) ≡ slice_get b.rest j =
    λ j lt. ap (slice_get w.bytes.now) (let z : 1 + j ≡ suc j = omega arith in z) ∙ ap (λ zs. slice_get zs (suc j)) b.bytes
    ∙ slice_get-take (width k) bs (suc j) (omega arith) ∙ ap (λ zs. slice_get zs (suc j)) b.parts in
    let two : w.column + 1 ≡ 2 = omega (arith, b.column) in
    let first : read begins l 1 (b.byte ∷ b.rest) ≡ read (after k) l 2 b.rest = letter_read (letter b.byte) k l b.rest b.lettered in
    let whole : read (after k) w.line (w.column + 1) b.rest ≡ onward (line_at (after k) w 1) w.line (drop n b.rest) = line_read (after k) n (wide k) w 1 b.rest same in
    let left : drop (length w.bytes.now) bs ≡ drop n b.rest =
    ap (λ zs. drop (length zs) bs) b.bytes ∙ drop_taken (width k) bs ∙ ap (λ z. drop z bs) (sym long) ∙ ap (drop (suc n)) b.parts in
    cc

-- a text that begins with no token
no_letter : (o : Option Letter) (l : ℕ) (bs xs : List ℕ) (f : Fault) → Err f ≡ ok_or (option_map (piece_at bs l) o) (misfit_at (at_place l 1)) →
    stepped l 1 xs (goes_on o after) ≡ Err f
no_letter None l bs xs f e = cc
no_letter (Some k) l bs xs f e = cc

pub no_token : (bs : List ℕ) (l : ℕ) (f : Fault) → Err f ≡ first_piece bs l → 0 < length bs → read begins l 1 bs ≡ Err f
unfolding read
no_token [] l f e some = absurd (omega arith)
no_token (x ∷ xs) l f e some = no_letter (letter x) l (x ∷ xs) xs f e

pub fewer : (t : Token) (bs : List ℕ) (l : ℕ) → Begins t bs l → (0 < length (word_of t).bytes.now) × (length (word_of t).bytes.now ≤ length bs)
fewer t bs l b =
    let n = ap length b.bytes ∙ length-take (width (letter_of t)) bs in
    let m = ap length b.parts in
    let k = some_width (letter_of t) in
    (omega (arith, n, m, k), omega (arith, n, m, k))

pub before_none : (r : Result (List Placed) Fault) → before [] r ≡ r
before_none (Ok ps) = refl
before_none (Err f) = refl

pub before_again : (ps : List Placed) (p : Placed) (r : Result (List Placed) Fault) → before ps (before (p ∷ []) r) ≡ before (ps ++ p ∷ []) r
before_again ps p (Ok qs) = ap Ok (sym (append_assoc ps (p ∷ []) qs))
before_again ps p (Err f) = refl

pub first_read : (w : Word) → w.line ≡ 1 → w.column ≡ 1 → read first_line 1 1 w.bytes.now ≡ onward (first_line_at w) 1 (drop 9 w.bytes.now)
unfolding first_line_at
first_read w l c =
    let one : w.column + 0 ≡ 1 = omega (arith, c) in
    let whole : read first_line w.line (w.column + 0) w.bytes.now ≡ onward (line_at first_line w 0) w.line (drop 9 w.bytes.now) =
    line_read first_line 9 wide_first w 0 w.bytes.now (λ j lt. ap (slice_get w.bytes.now) (let z : 0 + j ≡ j = omega arith in z)) in
    cc
