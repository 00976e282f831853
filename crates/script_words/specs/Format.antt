-- The format of a script: what may stand at each place of a line, and what a list of bytes says.
use Rattle.std.specs.Prelude.{ℕ, suc, ◌+◌, ◌-◌, ◌*◌, Bool, true, false, cond, ◌&&◌, List, [], ◌∷◌, ◌++◌, map, length, Some, None, Ok, Err, codes, Option, Result, ◌==◌, nat_le}
use Rattle.terms.specs.declared.channel_id.ChannelId.{ChannelId}
use Rattle.terms.specs.declared.channel_id.ChannelId.TheVariants.{One, Two}
use Rattle.terms.specs.declared.modem_line.ModemLine.{ModemLine}
use Rattle.terms.specs.declared.modem_line.ModemLine.TheVariants.{Cts, Dcd, Dsr}
use Rattle.script_words.specs.declared.refusal.ScriptRefusal.TheVariants.{BadFirstLine, BadScript, ScriptTooLong}
use Rattle.script_words.specs.declared.position.Position.{Position}
use Rattle.script_words.specs.declared.command.Command.{Command}
use Rattle.script_words.specs.declared.command.Command.TheVariants.{Read, Write, Cycles, Modem, SetUp}
use Rattle.script_words.specs.declared.command.Placed.{Placed}
use Rattle.script_words.specs.declared.fault.Fault.{Fault}

-- what may stand at one place of a line: one byte alone; a select; a hexadecimal digit, where asked one above 0;
-- the number of a channel; the letter of a modem line; a level
pub data Spot : Type 0 where
  only : ℕ → Spot
  select_digit : Spot
  hex_digit : Bool → Spot
  channel_digit : Spot
  line_letter : Spot
  level_digit : Spot

-- what the byte there stands for
abbrev pub Value : Spot → Type 0
Value (only b) = Unit {0}
Value select_digit = ℕ
Value (hex_digit positive) = ℕ
Value channel_digit = ChannelId
Value line_letter = ModemLine
Value level_digit = Bool

-- the digits are 0 to 9, the bytes 48 to 57, and A to F, the bytes 65 to 70
abbrev pub digit_value : ℕ → Option ℕ
digit_value b = cond (nat_le 48 b && nat_le b 57) (Some (b - 48)) (cond (nat_le 65 b && nat_le b 70) (Some (b - 55)) None)

abbrev pub within : ℕ → ℕ → Option ℕ → Option ℕ
within least most None = None
within least most (Some v) = cond (nat_le least v && nat_le v most) (Some v) None

-- the value of a byte that fits; 48, 49 and 50 are 0, 1 and 2, and 67, 68 and 83 are C, D and S
abbrev pub fits : (s : Spot) → ℕ → Option (Value s)
fits (only b) x = cond (x == b) (Some tt) None
fits select_digit x = within 0 7 (digit_value x)
fits (hex_digit positive) x = within (cond positive 1 0) 15 (digit_value x)
fits channel_digit x = cond (x == 49) (Some One) (cond (x == 50) (Some Two) None)
fits line_letter x = cond (x == 67) (Some Cts) (cond (x == 68) (Some Dcd) (cond (x == 83) (Some Dsr) None))
fits level_digit x = cond (x == 48) (Some false) (cond (x == 49) (Some true) None)

-- what may follow: a new line, or the end of the script; the $0A of a line that says some commands; a byte that fits, and more
pub data Rest : Type 0 where
  begins : Rest
  ends : List Command → Rest
  next : (s : Spot) → (Value s → Rest) → Rest

-- some bytes, each alone
abbrev pub word : List ℕ → Rest → Rest
word [] r = r
word (b ∷ bs) r = next (only b) (λ _. word bs r)

-- two digits
abbrev pub hex_byte : (ℕ → Rest) → Rest
hex_byte k = next (hex_digit false) (λ h. next (hex_digit false) (λ l. k (16 * h + l)))

abbrev pub first_word : List ℕ
first_word = codes "DUS 0001"

abbrev pub first_line : Rest
first_line = word first_word (ends [])

-- a command begins with its letter: 82, 87, 67, 76 and 83 are R, W, C, L and S
pub data Letter : Type 0 where
  R W C L S : Letter

abbrev pub letter : ℕ → Option Letter
letter x = cond (x == 82) (Some R) (cond (x == 87) (Some W) (cond (x == 67) (Some C) (cond (x == 76) (Some L) (cond (x == 83) (Some S) None))))

-- what follows it; the last digit of a count is not the fourth 0
abbrev pub after : Letter → Rest
after R = word (codes " ") (next select_digit (λ r. ends (Read r ∷ [])))
after W = word (codes " ") (next select_digit (λ r. word (codes " ") (hex_byte (λ b. ends (Write r b ∷ [])))))
after C = word (codes " ") (hex_byte (λ h. next (hex_digit false) (λ t. next (hex_digit (16 * h + t == 0)) (λ d. ends (Cycles (16 * (16 * h + t) + d) ∷ [])))))
after L = word (codes " ") (next channel_digit (λ c. word (codes " ") (next line_letter (λ m. word (codes " ") (next level_digit (λ v. ends (Modem c m v ∷ [])))))))
after S = word (codes " ") (hex_byte (λ cr. word (codes " ") (hex_byte (λ fr. ends (SetUp cr fr ∷ [])))))

-- what a byte does: it misfits, the line goes on, or the line ends and says some commands
pub data Step : Type 0 where
  misfits : Step
  goes : Rest → Step
  says : List Command → Step

abbrev pub goes_on : {X : Type 0} → Option X → (X → Rest) → Step
goes_on None k = misfits
goes_on (Some v) k = goes (k v)

abbrev pub step : Rest → ℕ → Step
step begins x = goes_on (letter x) after
step (ends cs) x = cond (x == 10) (says cs) misfits
step (next s k) x = goes_on (fits s x) k

-- line l, column c
abbrev pub at_place : ℕ → ℕ → Position
at_place l c = record { line = l; column = c }

-- a misfit in line 1 is one of the first line
abbrev pub misfit_at : Position → Fault
misfit_at p = record { refusal = cond (p.line == 1) BadFirstLine BadScript; position = p }

-- a script may end where a line may begin
abbrev pub at_end : Rest → ℕ → ℕ → Result (List Placed) Fault
at_end begins l c = Ok []
at_end (ends cs) l c = Err (misfit_at (at_place l c))
at_end (next s k) l c = Err (misfit_at (at_place l c))

-- commands of line l stand at its beginning
abbrev pub placed : ℕ → List Command → List Placed
placed l cs = map (λ c. record { command = c; position = at_place l 1 }) cs

-- what was said before, and what follows
abbrev pub before : List Placed → Result (List Placed) Fault → Result (List Placed) Fault
before ps (Ok qs) = Ok (ps ++ qs)
before ps (Err f) = Err f

-- what bytes from line l and column c on say
unfoldable pub read : Rest → ℕ → ℕ → List ℕ → Result (List Placed) Fault
read r l c [] = at_end r l c
read r l c (x ∷ xs) =
    elim (step r x) [ misfits ↦ Err (misfit_at (at_place l c)) | goes r' ↦ read r' l (suc c) xs | says cs ↦ before (placed l cs) (read begins (suc l) 1 xs) ]

-- the most bytes of a script
abbrev pub most : ℕ
most = 16384

-- what a list of bytes says: its commands with their places, or the fault
unfoldable pub script_says : List ℕ → Result (List Placed) Fault
script_says bs = cond (nat_le (length bs) most) (read first_line 1 1 bs) (Err (record { refusal = ScriptTooLong; position = at_place 0 0 }))
