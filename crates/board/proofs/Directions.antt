-- One direction of the board: how each call moves its link.
use Rattle.std.proofs.Common.{◌≡◌, ℕ, ◌+◌, Bool, true, false, cond, ltb, List, Some, Option, sym, ap, ◌∙◌, subst}
use Rattle.terms.specs.declared.channel_id.ChannelId.{ChannelId}
use Rattle.terms.specs.declared.channel_id.ChannelId.TheVariants.{One, Two}
use Rattle.terms.specs.declared.report.Report.{Report}
use Rattle.terms.specs.ChannelId.{other as far}
use Rattle.serial.specs.declared.format.Format.{Format}
use Rattle.channel.specs.declared.channel.Channel.{Channel}
use Rattle.channel.specs.declared.channel.ChannelAnswer.{ChannelAnswer}
use Rattle.channel.specs.Control.{rate_code, divisor, format_of}
use Rattle.channel.specs.Channel.{txd_of, no_marks}
use Rattle.channel.specs.Calls.{cycled}
use Rattle.dacia.specs.Chip.{channel_of, answer_of}
use Rattle.line.specs.Line.{held}
use Rattle.link.specs.Link.{Link, given, taken, idled, ticked_on, link_cycle}
use Rattle.board.specs.Board.{State, inputs, cycle_answer, after_cycle}
use Rattle.board.specs.Delivery.{line_of}
use Rattle.board.proofs.Turns.{settings, Turned, turned}

-- the words from a channel: its sender, the line, and the far channel's receiving side
abbrev pub link_of : ChannelId → State → Link
link_of ch t = record {
  phase = (channel_of ch t.chip).count;
  cts = (channel_of ch t.chip).modem.cts.level;
  sender = (channel_of ch t.chip).sender;
  line = line_of ch t;
  receiving = (channel_of (far ch) t.chip).receiving;
}

-- both channels as they were set up, counting together
pub record Steady (cr fr : ℕ) (t : State) : Type 0 where
  pub control : (ch : ChannelId) → (channel_of ch t.chip).control ≡ settings cr fr
  pub together : (ch : ChannelId) → (channel_of (far ch) t.chip).count ≡ (channel_of ch t.chip).count

-- of both channels
pub both : (P : ChannelId → Type 0) → P One → P Two → (ch : ChannelId) → P ch
both P one two One = one
both P one two Two = two

-- the near channel c and the far channel c₂ in one cycle are a cycle of the link
link_turned : (x : Format) (line : List Bool) (c e c₂ e₂ : Channel) (rxd : Bool) (a a₂ : ChannelAnswer) (b : Bool) →
    Turned x c rxd b a e → let k : Link = record { phase = c.count; cts = c.modem.cts.level; sender = c.sender; line = line; receiving = c₂.receiving } in
    Turned x c₂ (taken k) b a₂ e₂ →
    ◌≡◌ {A = Option Report × Link}
    (a₂.report, record { phase = e.count; cts = e.modem.cts.level; sender = e.sender; line = held line (given k); receiving = e₂.receiving })
    (cond b (idled k) (ticked_on x k))
link_turned x line c e c₂ e₂ rxd a a₂ true n f = λ i. (
  (f.heard i).0,
  record {
    phase = n.count i;
    cts = n.level i;
    sender = n.sender i;
    line = held line (txd_of c);
    receiving = (f.heard i).1;
  },
)
link_turned x line c e c₂ e₂ rxd a a₂ false n f = λ i. (
  (f.heard i).0,
  record {
    phase = n.count i;
    cts = n.level i;
    sender = n.sender i;
    line = held line (txd_of c);
    receiving = (f.heard i).1;
  },
)

module _ (cr fr D : ℕ) (dv : divisor (rate_code cr) ≡ Some D) where
  -- the two channels of a cycle, and that they tick together
  near_turned : (t : State) → Steady cr fr t → (ch : ChannelId) (rxd : Bool) →
      Turned (format_of cr fr) (channel_of ch t.chip) rxd (ltb ((channel_of ch t.chip).count + 1) D)
      (cycled rxd no_marks (channel_of ch t.chip)).0 (cycled rxd no_marks (channel_of ch t.chip)).1
  near_turned t s ch rxd = turned cr fr D (channel_of ch t.chip) rxd dv (s.control ch)

  far_turned : (t : State) → Steady cr fr t → (ch : ChannelId) (rxd : Bool) →
      Turned (format_of cr fr) (channel_of (far ch) t.chip) rxd (ltb ((channel_of ch t.chip).count + 1) D)
      (cycled rxd no_marks (channel_of (far ch) t.chip)).0 (cycled rxd no_marks (channel_of (far ch) t.chip)).1
  far_turned t s ch rxd =
      let c : Channel = channel_of (far ch) t.chip in
      let P : ℕ → Type 0 = λ n. Turned (format_of cr fr) c rxd (ltb (n + 1) D) (cycled rxd no_marks c).0 (cycled rxd no_marks c).1 in
      subst P (s.together ch) (near_turned t s (far ch) rxd)

  -- a cycle of the board is a cycle of each link
  pub cycle_link : (t : State) → Steady cr fr t → (ch : ChannelId) →
      ◌≡◌ {A = Option Report × Link} ((answer_of (far ch) (cycle_answer t)).report, link_of ch (after_cycle t)) (link_cycle (format_of cr fr) D (link_of ch t))
  unfolding cycle_answer after_cycle
  cycle_link t s One =
      link_turned (format_of cr fr) t.a t.chip.channels.one _ t.chip.channels.two _ (inputs t).rxd.one _ _ (ltb (t.chip.channels.one.count + 1) D)
      (near_turned t s One (inputs t).rxd.one) (far_turned t s One (inputs t).rxd.two)
  cycle_link t s Two =
      link_turned (format_of cr fr) t.b t.chip.channels.two _ t.chip.channels.one _ (inputs t).rxd.two _ _ (ltb (t.chip.channels.two.count + 1) D)
      (near_turned t s Two (inputs t).rxd.two) (far_turned t s Two (inputs t).rxd.one)

  -- and leaves the channels steady
  pub cycle_steady : (t : State) → Steady cr fr t → Steady cr fr (after_cycle t)
  unfolding after_cycle
  cycle_steady t s =
      let one = near_turned t s One (inputs t).rxd.one in
      let two = far_turned t s One (inputs t).rxd.two in
      let e : (cycled (inputs t).rxd.two no_marks t.chip.channels.two).1.count ≡ (cycled (inputs t).rxd.one no_marks t.chip.channels.one).1.count =
      two.count ∙ ap (λ k. cond (ltb (t.chip.channels.one.count + 1) D) (k + 1) 0) (s.together One) ∙ sym one.count in
      record {
        control = both (λ ch. (channel_of ch (after_cycle t).chip).control ≡ settings cr fr) (one.control ∙ s.control One) (two.control ∙ s.control Two);
        together = both (λ ch. (channel_of (far ch) (after_cycle t).chip).count ≡ (channel_of ch (after_cycle t).chip).count) e (sym e);
      }

  pub cycle_level : (t : State) → Steady cr fr t → (ch : ChannelId) →
      (channel_of ch (after_cycle t).chip).modem.cts.level ≡ (channel_of ch t.chip).modem.cts.level
  unfolding after_cycle
  cycle_level t s One = (near_turned t s One (inputs t).rxd.one).level
  cycle_level t s Two = (near_turned t s Two (inputs t).rxd.two).level
