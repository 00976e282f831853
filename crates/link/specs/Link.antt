-- One direction of a board: a sender, a line and a receiver under one clock.
use Rattle.std.specs.Prelude.{ℕ, ◌+◌, Bool, false, cond, List, None, Option, nat_lt}
use Rattle.terms.specs.declared.report.Report.{Report}
use Rattle.serial.specs.declared.format.Format.{Format}
use Rattle.serial.specs.Transmitter.{level}
use Rattle.channel.specs.declared.sender.Sender.{Sender}
use Rattle.channel.specs.declared.receiving.Receiving.{Receiving}
use Rattle.channel.specs.Sender.{sent}
use Rattle.channel.specs.Receiving.{heard_by}
use Rattle.line.specs.Line.{leaves, held}

pub record Link : Type 0 where
  pub phase : ℕ
  pub cts : Bool
  pub sender : Sender
  pub line : List Bool
  pub receiving : Receiving

-- the level that the line is given, and the one that it answers
abbrev pub given : Link → Bool
given k = level k.sender.transmitter

abbrev pub taken : Link → Bool
taken k = leaves k.line (given k)

-- a cycle that is no tick, and one that is
abbrev pub idled : Link → Option Report × Link
idled k = (
  None,
  record k { phase = k.phase + 1; line = held k.line (given k) },
)

abbrev pub ticked_on : Format → Link → Option Report × Link
ticked_on x k =
    let h = heard_by x 0 false (taken k) k.receiving in
    (h.0, record k { phase = 0; sender = sent x false k.cts k.sender; line = held k.line (given k); receiving = h.1 })

abbrev pub link_cycle : Format → ℕ → Link → Option Report × Link
link_cycle x D k = cond (nat_lt (k.phase + 1) D) (idled k) (ticked_on x k)
