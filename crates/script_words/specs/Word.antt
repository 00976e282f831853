-- A part of the script by the places of its bytes.
use Rattle.std.specs.Prelude.{◌≡◌, ℕ, suc, ◌+◌, ◌*◌, false, List, [], Ok, Err, Option, Result}
use Rattle.std.specs.List.{slice_get}
use Rattle.std.specs.Option.{ok_or}
use Rattle.std.specs.Result.{MatchResult}
use Rattle.script_words.specs.declared.position.Position.{Position}
use Rattle.script_words.specs.declared.command.Command.{Command}
use Rattle.script_words.specs.declared.fault.Fault.{Fault}
use Rattle.script_words.specs.declared.word.Word.{Word}
use Rattle.script_words.specs.Format.{Spot, only, hex_digit, Value, Rest, begins, ends, next, first_line, fits, digit_value, within, at_place, misfit_at}

-- where the byte i of a word stands
abbrev pub position_at : Word → ℕ → Position
position_at w i = at_place w.line (w.column + i)

-- the byte i of a word
abbrev pub any_at : Word → ℕ → Result ℕ Fault
any_at w i = ok_or (slice_get w.bytes.now i) (misfit_at (position_at w i))

-- a fault is handed on
abbrev pub and_then : {X Y : Type 0} → Result X Fault → (X → Result Y Fault) → Result Y Fault
and_then (Ok x) f = f x
and_then (Err e) f = Err e

-- what it stands for, if it fits
abbrev pub stands_at : {X : Type 0} → (ℕ → Option X) → Word → ℕ → Result X Fault
stands_at f w i = and_then (any_at w i) (λ b. ok_or (f b) (misfit_at (position_at w i)))

-- the same where a relation says what bytes stand for
abbrev pub StandsAt : {X : Type 0} → (ℕ → Option X → Type 0) → Word → ℕ → Result X Fault → Type 0
StandsAt {X} meaning w i r =
    MatchResult (any_at w i) (λ b. (o : Option X) × meaning b o × (r ≡ ok_or o (misfit_at (position_at w i)))) (λ f. r ≡ Err f)

abbrev pub spot_at : (s : Spot) → Word → ℕ → Result (Value s) Fault
spot_at s w i = stands_at (fits s) w i

-- a digit from a least value to a greatest
abbrev pub digit_at : ℕ → ℕ → Word → ℕ → Result ℕ Fault
digit_at least most w i = stands_at (λ x. within least most (digit_value x)) w i

-- two digits, from the byte i on
abbrev pub hex_byte_at : Word → ℕ → Result ℕ Fault
hex_byte_at w i = and_then (spot_at (hex_digit false) w i) (λ h. and_then (spot_at (hex_digit false) w (suc i)) (λ l. Ok (16 * h + l)))

-- what a line says that goes on so from the byte i of a word
abbrev pub line_at : Rest → Word → ℕ → Result (List Command) Fault
line_at begins w i = Ok []
line_at (ends cs) w i = and_then (spot_at (only 10) w i) (λ _. Ok cs)
line_at (next s k) w i = and_then (spot_at s w i) (λ v. line_at (k v) w (suc i))

-- the first line, from the beginning of a word
unfoldable pub first_line_at : Word → Result (List Command) Fault
first_line_at w = line_at first_line w 0
