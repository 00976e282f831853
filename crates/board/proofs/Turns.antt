-- A channel in a cycle of the board, seen through its sender and its receiving side.
use Rattle.std.proofs.Common.{◌≡◌, ℕ, ◌+◌, Bool, true, false, cond, ltb, Some, None, Option, refl, ap, ◌∙◌}
use Rattle.terms.specs.declared.report.Report.{Report}
use Rattle.serial.specs.declared.format.Format.{Format}
use Rattle.serial.specs.Frame.{bit}
use Rattle.channel.specs.declared.control.Control.{Control}
use Rattle.channel.specs.declared.receiving.Receiving.{Receiving}
use Rattle.channel.specs.declared.channel.Channel.{Channel}
use Rattle.channel.specs.declared.channel.ChannelAnswer.{ChannelAnswer}
use Rattle.channel.specs.declared.channel.Marks.{Marks}
use Rattle.channel.specs.Control.{rate_code, divisor, format_of}
use Rattle.channel.specs.Sender.{sent}
use Rattle.channel.specs.Receiving.{heard_by}
use Rattle.channel.specs.Channel.{with_count, no_marks, counting_by}
use Rattle.channel.specs.Calls.{heard_if, sent_if, answering, cycled}

-- what set-up writes, and nothing in a list of calls changes
abbrev pub settings : ℕ → ℕ → Control
settings cr fr = record { cr = cr; fr = fr; cdr = 0; acr = 0 }

-- b says that the count stays below the divisor
pub record Turned (x : Format) (c : Channel) (rxd b : Bool) (a : ChannelAnswer) (e : Channel) : Type 0 where
  pub control : e.control ≡ c.control
  pub level : e.modem.cts.level ≡ c.modem.cts.level
  pub count : e.count ≡ cond b (c.count + 1) 0
  pub sender : e.sender ≡ cond b c.sender (sent x false c.modem.cts.level c.sender)
  pub heard : ◌≡◌ {A = Option Report × Receiving} (a.report, e.receiving) (cond b (None, c.receiving) (heard_by x 0 false rxd c.receiving))

-- the cycle by whether the count stays below the divisor
abbrev cycled_if : Bool → Bool → Channel → ChannelAnswer × Channel
cycled_if b rxd c =
    let t : Marks × Channel = cond b (no_marks, with_count (c.count + 1) c) (record { rxc = true; txc = true }, with_count 0 c) in
    let h = heard_if t.0.rxc rxd t.1 in
    answering h.0 (sent_if t.0.txc h.1)

turned_by : (cr fr : ℕ) (c : Channel) (rxd : Bool) → c.control ≡ settings cr fr → (b : Bool) →
    Turned (format_of cr fr) c rxd b (cycled_if b rxd c).0 (cycled_if b rxd c).1
turned_by cr fr c rxd e true = record { control = refl; level = refl; count = refl; sender = refl; heard = refl }
turned_by cr fr c rxd e false = record {
  control = refl;
  level = refl;
  count = refl;
  sender = ap (λ k. sent (format_of k.cr k.fr) (bit k.acr 1) c.modem.cts.level c.sender) e;
  heard = ap (λ k. heard_by (format_of k.cr k.fr) k.cdr (bit k.acr 0) rxd c.receiving) e;
}

-- the cycle by the divisor
abbrev cycled_by : Option ℕ → Bool → Channel → ChannelAnswer × Channel
cycled_by o rxd c =
    let t = counting_by o no_marks c in
    let h = heard_if t.0.rxc rxd t.1 in
    answering h.0 (sent_if t.0.txc h.1)

-- a cycle with the marks of none, at rate codes 0 to 14
pub turned : (cr fr D : ℕ) (c : Channel) (rxd : Bool) → divisor (rate_code cr) ≡ Some D → c.control ≡ settings cr fr →
    Turned (format_of cr fr) c rxd (ltb (c.count + 1) D) (cycled rxd no_marks c).0 (cycled rxd no_marks c).1
turned cr fr D c rxd dv e =
    let o : divisor (rate_code c.control.cr) ≡ Some D = ap (λ k. divisor (rate_code k.cr)) e ∙ dv in
    rw o (turned_by cr fr c rxd e (ltb (c.count + 1) D))
