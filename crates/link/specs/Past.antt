-- What was seen of one direction of a board, in order, oldest first.
use Rattle.std.specs.Prelude.{ℕ, suc, max, Bool, true, false, List, [], ◌∷◌, ◌++◌, Some, None, Option}
use Rattle.terms.specs.declared.report.Report.{Report}
use Rattle.terms.specs.declared.report.ReportKind.{ReportKind}
use Rattle.terms.specs.declared.report.ReportKind.TheVariants.{Break, Passed, Lost, Kept}

-- the words that the far channel reported kept or lost, those that it kept, those of its fresh reads; the words written to the near TDR
-- without each that the next write replaced, where the Bool says that a write still to come replaces the last;
-- how many of the last cycles since the last write had CTS low, in a row, and the longest such row since the last write
pub record Past : Type 0 where
  pub arrived : List ℕ
  pub kept : List ℕ
  pub fresh : List ℕ
  pub unreplaced : Bool → List ℕ
  pub row : ℕ
  pub longest : ℕ

abbrev pub nothing_yet : Past
nothing_yet = record { arrived = []; kept = []; fresh = []; unreplaced = λ b. []; row = 0; longest = 0 }

-- the words that count for a report of kept or lost, and of kept alone
abbrev pub arrived_of : ReportKind → ℕ → List ℕ
arrived_of Break w = []
arrived_of Passed w = []
arrived_of Lost w = w ∷ []
arrived_of Kept w = w ∷ []

abbrev pub kept_of : ReportKind → ℕ → List ℕ
kept_of Break w = []
kept_of Passed w = []
kept_of Lost w = []
kept_of Kept w = w ∷ []

-- and of a report, if there is one
abbrev pub words_of : (ReportKind → ℕ → List ℕ) → Option Report → List ℕ
words_of g None = []
words_of g (Some r) = g r.kind r.word

abbrev pub only : {A : Type 0} → Bool → A → List A
only true a = a ∷ []
only false a = []

abbrev pub unless : {A : Type 0} → Bool → A → List A
unless true a = []
unless false a = a ∷ []

-- the row after a cycle with CTS at a level, and the longest row
abbrev pub row_after : Bool → ℕ → ℕ
row_after true row = 0
row_after false row = suc row

abbrev pub longest_after : Bool → ℕ → ℕ → ℕ
longest_after true row longest = longest
longest_after false row longest = max longest (suc row)

-- a cycle with the near CTS at a level and a report of the far channel, if it has one
abbrev pub past_cycle : Bool → Option Report → Past → Past
past_cycle cts r p = record p {
  arrived = p.arrived ++ words_of arrived_of r;
  kept = p.kept ++ words_of kept_of r;
  row = row_after cts p.row;
  longest = longest_after cts p.row p.longest;
}

-- a write to the near TDR, which replaced a word or not
abbrev pub past_write : Bool → ℕ → Past → Past
past_write replaced w p = record p { unreplaced = λ b. p.unreplaced replaced ++ unless b w; row = 0; longest = 0 }

-- a read of the far RDR, fresh or not
abbrev pub past_read : Bool → ℕ → Past → Past
past_read is_fresh w p = record p { fresh = p.fresh ++ only is_fresh w }
