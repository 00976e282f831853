-- A board that has just accepted its set-up delivers.
use Rattle.std.proofs.Common.{◌≡◌, ℕ, ◌%◌, ◌<◌, Bool, true, false, cond, ◌&&◌, eqb, ltb, List, [], ◌∷◌, ◌++◌, length, replicate, is_ok, Some, None, Ok, Err, Result, sym, refl, ap, ◌∙◌, mod-lt, arith}
use Rattle.std.proofs.lemmas.Bool.{cond_both, and_parts, or_parts, eqb-false, lt-ltb, cond-true, true≢false}
use Rattle.std.proofs.lemmas.List.Folds.{list_all_at}
use Rattle.terms.specs.declared.channel_id.ChannelId.{ChannelId}
use Rattle.terms.specs.declared.channel_id.ChannelId.TheVariants.{One, Two}
use Rattle.terms.specs.declared.refusal.Refusal.{Refusal}
use Rattle.terms.specs.declared.refusal.Refusal.TheVariants.{BadControl, BadFormat, LineNotQuiet}
use Rattle.terms.specs.declared.register.Register.TheVariants.{Interrupt, Control, Data}
use Rattle.terms.specs.ChannelId.{other as far}
use Rattle.serial.specs.declared.receiver.Receiver.TheVariants.{Hunting}
use Rattle.serial.specs.declared.transmitter.Transmitter.TheVariants.{Resting}
use Rattle.serial.specs.Frame.{bit}
use Rattle.channel.specs.declared.receiving.Receiving.{Receiving}
use Rattle.channel.specs.declared.channel.Channel.{Channel}
use Rattle.channel.specs.Control.{rate_code, divisors, divisor, format_of}
use Rattle.channel.specs.Channel.{powered_on, after_reset, cr_written, fr_written, control_written, rdr_read, tdre, fob, any_set, isr_of, csr_of}
use Rattle.channel.proofs.Bytes.{bit_7, bit_2, bit_0}
use Rattle.serial.specs.Transmitter.{resting}
use Rattle.dacia.specs.Chip.{channel_of}
use Rattle.line.specs.Line.{all_high}
use Rattle.link.specs.Past.{only}
use Rattle.link.proofs.Links.{Clean, start_inv, arrives}
use Rattle.board.specs.Board.{State, with_chip, bad_control, lines_quiet, set_up_answer, set_up_chip, after_set_up}
use Rattle.board.specs.Calls.{Played, started, play}
use Rattle.board.specs.Delivery.{line_of, past_of, byte_at, Delivered, divisor_of, Delivers}
use Rattle.board.proofs.Turns.{settings}
use Rattle.board.proofs.Directions.{link_of, both}
use Rattle.board.proofs.Deliveries.{Inv, play_inv}

-- a quiet line holds only high levels
quiet_line : (ls : List Bool) → all_high ls ≡ true → ls ≡ replicate (length ls) true
quiet_line [] h = refl
quiet_line (true ∷ ls) h = ap (λ z. true ∷ z) (quiet_line ls h)
quiet_line (false ∷ ls) h = absurd (true≢false (sym h))

-- a channel as set-up leaves it
pub record SetUp (cr fr : ℕ) (c : Channel) : Type 0 where
  pub control : c.control ≡ settings cr fr
  pub count : c.count ≡ 0
  pub level : c.modem.cts.level ≡ false
  pub sender : c.sender ≡ record { tdr = None; transmitter = Resting }
  pub hunts : c.receiving.receiver ≡ Hunting
  pub empty : c.receiving.rdrf ≡ false
  pub clean : Clean c.receiving

-- CR, then FR written to a reset channel, and RDR read, by bit 7 of the two values
abbrev written_by : ℕ → Bool → Channel → Channel
written_by b set c = cond set (fr_written b c) (cr_written b c)

set_up_by_lem : (cr fr : ℕ) → SetUp cr fr (rdr_read (written_by fr true (written_by cr false (after_reset powered_on))))
set_up_by_lem cr fr = record {
  control = refl;
  count = cond_both (eqb (rate_code cr) (rate_code 0)) 0 0 (λ n. n ≡ 0) (λ _. refl) (λ _. refl);
  level = refl;
  sender = refl;
  hunts = refl;
  empty = refl;
  clean = record { par = refl; fe = refl; brk = refl; awake = refl };
}

set_up_channel : (cr fr : ℕ) → bit cr 7 ≡ false → bit fr 7 ≡ true → SetUp cr fr (rdr_read (control_written fr (control_written cr (after_reset powered_on))))
set_up_channel cr fr hc hf = rw hc (rw hf (set_up_by_lem cr fr))

module _ (cr fr : ℕ) (good : bad_control cr ≡ false) (hf : bit fr 7 ≡ true) where
  low_code : rate_code cr < 15
  low_code =
      let ne = eqb-false (rate_code cr) 15 (or_parts (bit cr 7) (eqb (rate_code cr) 15) good).1 in
      let lt : cr % 16 < 16 = mod-lt cr (omega arith) in
      omega (arith, ne)

  divides : divisor (rate_code cr) ≡ Some (divisor_of cr)
  divides = cond-true (ltb (rate_code cr) 15) (Some (divisor_of cr)) None (lt-ltb (rate_code cr) 15 low_code)

  -- every divisor is above 0
  positive : 0 < divisor_of cr
  positive =
      let some : divisor_of cr ≡ 0 → ⊥ = λ e. true≢false (list_all_at (ltb 0) divisors (rate_code cr) 0 low_code (ap (ltb 0) e)) in
      omega (arith, some)

  facts : (ch : ChannelId) → SetUp cr fr (channel_of ch (set_up_chip cr fr))
  facts =
      let s = set_up_channel cr fr (or_parts (bit cr 7) (eqb (rate_code cr) 15) good).0 hf in
      both (λ ch. SetUp cr fr (channel_of ch (set_up_chip cr fr))) s s

  start : (t : State) → t.chip ≡ set_up_chip cr fr → all_high t.a ≡ true → all_high t.b ≡ true →
      Inv cr fr (divisor_of cr) divides (λ ch. length (line_of ch t)) (started t)
  start t e qa qb =
      let at : (ch : ChannelId) → SetUp cr fr (channel_of ch t.chip) = λ ch. rw e (facts ch) in
      let quiet : (ch : ChannelId) → all_high (line_of ch t) ≡ true = both (λ ch. all_high (line_of ch t) ≡ true) qa qb in
      record {
        steady = record { control = λ ch. (at ch).control; together = λ ch. (at (far ch)).count ∙ sym (at ch).count };
        level = λ ch. (at ch).level;
        links = λ ch. start_inv (format_of cr fr) (divisor_of cr) (link_of ch t) positive (at ch).count (at ch).sender (quiet_line (line_of ch t) (quiet ch))
            (at (far ch)).hunts (at (far ch)).empty (at (far ch)).clean;
      }

-- what the bytes of ISR, CSR and RDR show of a channel's receiving side
pub record Shows (isr csr rdr : ℕ) (r : Receiving) : Type 0 where
  pub parity : bit isr 2 ≡ r.errors.par
  pub framing : bit csr 7 ≡ r.errors.fe
  pub break : bit csr 2 ≡ r.errors.brk
  pub full : bit isr 0 ≡ r.rdrf
  pub word : rdr ≡ r.rdr

shows : (c : Channel) → Shows (isr_of c) (csr_of c) c.receiving.rdr c.receiving
shows c =
    let m = c.modem in
    let e = c.receiving.errors in record {
      parity = bit_2 (any_set c) (tdre c) m.cts.changed m.dcd.changed m.dsr.changed e.par (fob c) c.receiving.rdrf;
      framing = bit_7 e.fe (tdre c && resting c.sender.transmitter) m.cts.level m.dcd.level m.dsr.level e.brk (bit c.control.fr 1) (bit c.control.fr 0);
      break = bit_2 e.fe (tdre c && resting c.sender.transmitter) m.cts.level m.dcd.level m.dsr.level e.brk (bit c.control.fr 1) (bit c.control.fr 0);
      full = bit_0 (any_set c) (tdre c) m.cts.changed m.dcd.changed m.dsr.changed e.par (fob c) c.receiving.rdrf;
      word = refl;
    }

-- the bytes that reads of a channel's registers answer
reads_show : (ch : ChannelId) (t : State) → Shows (byte_at ch Interrupt t) (byte_at ch Control t) (byte_at ch Data t) (channel_of ch t.chip).receiving
reads_show One t = shows t.chip.channels.one
reads_show Two t = shows t.chip.channels.two

-- what the invariant says
delivered : (cr fr D : ℕ) (dv : divisor (rate_code cr) ≡ Some D) (d : ChannelId → ℕ) (w : Played) → Inv cr fr D dv d w → (ch : ChannelId) →
    Delivered ch (format_of cr fr) D (d ch) w
delivered cr fr D dv d w i ch =
    let l = i.links ch in
    let a = arrives (format_of cr fr) (d ch) D (link_of ch w.board) (past_of ch w.past) l in
    let s = reads_show (far ch) w.board in
    let fresh : List ℕ = (past_of ch w.past).fresh in
    record {
      in_order = a.in_order;
      all_in_time = a.all_in_time;
      no_parity_flag = s.parity ∙ l.clean.par;
      no_framing_flag = s.framing ∙ l.clean.fe;
      no_break_flag = s.break ∙ l.clean.brk;
      fresh_reads = (λ j. fresh ++ only (s.full j) (s.word j)) ∙ l.reads;
    }

-- a set-up is accepted only with good values and quiet lines
pub record Accepted (b1 b2 b3 : Bool) : Type 0 where
  pub control : b1 ≡ false
  pub format : b2 ≡ true
  pub lines : b3 ≡ true

accepted_by : (u : Unit {0}) (b1 b2 b3 : Bool) →
    ◌≡◌ {A = Result (Unit {0}) Refusal} (Ok u) (cond b1 (Err BadControl) (cond b2 (cond b3 (Ok tt) (Err LineNotQuiet)) (Err BadFormat))) → Accepted b1 b2 b3
accepted_by u true b2 b3 e = absurd (true≢false (ap is_ok e))
accepted_by u false false b3 e = absurd (true≢false (ap is_ok e))
accepted_by u false true false e = absurd (true≢false (ap is_ok e))
accepted_by u false true true e = record { control = refl; format = refl; lines = refl }

pub delivers : (cr fr : ℕ) (s s' : State) (r : Result (Unit {0}) Refusal) → r ≡ set_up_answer cr fr s → s' ≡ after_set_up r cr fr s → is_ok r ≡ true → Delivers cr fr s'
delivers cr fr s s' (Err e) a l h = absurd (true≢false (sym h))
delivers cr fr s s' (Ok u) a l h =
    let k = accepted_by u (bad_control cr) (bit fr 7) (lines_quiet s) a in
    let q = and_parts (all_high s.a) (all_high s.b) k.lines in
    let t : State = with_chip (set_up_chip cr fr) s in
    let begun = start cr fr k.control k.format t refl q.0 q.1 in
    let all : Delivers cr fr t = λ ch ks.
    delivered cr fr (divisor_of cr) (divides cr fr k.control k.format) (λ ch. length (line_of ch t)) (play ks (started t))
    (play_inv cr fr (divisor_of cr) (divides cr fr k.control k.format) (λ ch. length (line_of ch t)) ks (started t) begun) ch in
    rw l all
