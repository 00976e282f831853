-- The number of each refusal.
use Rattle.std.specs.Prelude.{ℕ, Ok, Err, Result}
use Rattle.terms.specs.declared.refusal.Refusal.{Refusal}
use Rattle.terms.specs.declared.refusal.Refusal.TheVariants.{NoSuchSelect, NothingToRead, BadControl, BadFormat, LineNotQuiet, BadSweepLength, TooFewRecords}

abbrev pub refusal_number : Refusal → ℕ
refusal_number NoSuchSelect = 1
refusal_number NothingToRead = 2
refusal_number BadControl = 3
refusal_number BadFormat = 4
refusal_number LineNotQuiet = 5
refusal_number BadSweepLength = 6
refusal_number TooFewRecords = 7

-- the number that a call was refused by, 0 for none
abbrev pub refused_by : {X : Type 0} → Result X Refusal → ℕ
refused_by (Ok x) = 0
refused_by (Err e) = refusal_number e
