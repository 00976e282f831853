-- The records of a sweep.
use Rattle.std.specs.Prelude.{ℕ, List, [], ◌∷◌, Some, None, Option, slice_set}
use Rattle.terms.specs.declared.channel_id.ChannelId.{ChannelId}
use Rattle.terms.specs.declared.report.Report.{Report}
use Rattle.board.specs.declared.record.Record.{Record}

-- the record of a report of the cycle i; none has no record
abbrev pub entry : ℕ → ChannelId → Option Report → List Record
entry i ch None = []
entry i ch (Some r) = record { cycle = i; channel = ch; kind = r.kind; word = r.word } ∷ []

-- the list rs with the one record of es, if it has one, at a place
abbrev pub placed : List Record → ℕ → List Record → List Record
placed rs at [] = rs
placed rs at (e ∷ es) = slice_set rs at e
