-- A token: the bytes of a command from its letter to the end of its line, cut off where the script ends.
use Rattle.std.specs.Prelude.{ℕ, List, [], ◌∷◌, take, Ok, Err, Result}
use Rattle.std.specs.List.{slice_get}
use Rattle.std.specs.Option.{ok_or, option_map}
use Rattle.script_words.specs.declared.command.Command.{Command}
use Rattle.script_words.specs.declared.fault.Fault.{Fault}
use Rattle.script_lines.specs.declared.token.Token.{Token}
use Rattle.script_lines.specs.declared.token.Token.TheVariants.{Read, Write, Cycles, Modem, SetUp}
use Rattle.script_words.specs.declared.position.Position.{Position}
use Rattle.script_words.specs.declared.word.Word.{Word}
use Rattle.script_words.specs.Format.{Letter, R, W, C, L, S, letter, after, at_place, misfit_at}
use Rattle.script_words.specs.Word.{and_then, line_at}

abbrev pub word_of : Token → Word
word_of (Read w) = w
word_of (Write w) = w
word_of (Cycles w) = w
word_of (Modem w) = w
word_of (SetUp w) = w

abbrev pub letter_of : Token → Letter
letter_of (Read w) = R
letter_of (Write w) = W
letter_of (Cycles w) = C
letter_of (Modem w) = L
letter_of (SetUp w) = S

-- how many bytes a command has
abbrev pub width : Letter → ℕ
width R = 4
width W = 7
width C = 7
width L = 8
width S = 8

-- what a token is: its letter, its bytes and its place
pub record Piece : Type 0 where
  pub letter : Letter
  pub bytes : List ℕ
  pub position : Position

abbrev pub piece_of : Token → Piece
piece_of t = record { letter = letter_of t; bytes = (word_of t).bytes.now; position = at_place (word_of t).line (word_of t).column }

abbrev pub piece : Result Token Fault → Result Piece Fault
piece (Ok t) = Ok (piece_of t)
piece (Err f) = Err f

-- what a text in line l begins with
abbrev pub first_piece : List ℕ → ℕ → Result Piece Fault
first_piece bs l =
    and_then (ok_or (slice_get bs 0) (misfit_at (at_place l 1)))
    (λ x. ok_or (option_map (λ k. record { letter = k; bytes = take (width k) bs; position = at_place l 1 }) (letter x)) (misfit_at (at_place l 1)))

abbrev pub said : Result Command Fault → Result (List Command) Fault
said (Ok c) = Ok (c ∷ [])
said (Err f) = Err f

-- what its line says
abbrev pub token_says : Token → Result (List Command) Fault
token_says t = line_at (after (letter_of t)) (word_of t) 1
