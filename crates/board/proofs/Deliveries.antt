-- Every call keeps the invariant of the board.
use Rattle.std.proofs.Common.{◌≡◌, ℕ, zero, suc, ◌+◌, ◌<◌, Bool, true, false, cond, not, ◌&&◌, eqb, List, [], ◌∷◌, Some, Option, Ok, Err, Result, sym, refl, ap, ◌∙◌, subst, append-nil, arith}
use Rattle.std.proofs.lemmas.Bool.{lt-ltb, ne_eqb, cond-true, cond-false, and_right}
use Rattle.terms.specs.declared.channel_id.ChannelId.{ChannelId}
use Rattle.terms.specs.declared.channel_id.ChannelId.TheVariants.{One, Two}
use Rattle.terms.specs.declared.modem_line.ModemLine.{ModemLine}
use Rattle.terms.specs.declared.modem_line.ModemLine.TheVariants.{Cts, Dcd, Dsr}
use Rattle.terms.specs.declared.note.Reading.{Reading}
use Rattle.terms.specs.declared.note.ReadNote.TheVariants.{Fresh, Old}
use Rattle.terms.specs.declared.note.WriteNote.TheVariants.{Stored, Replaced}
use Rattle.terms.specs.declared.refusal.Refusal.{Refusal}
use Rattle.terms.specs.declared.refusal.Refusal.TheVariants.{NoSuchSelect}
use Rattle.terms.specs.declared.report.Report.{Report}
use Rattle.channel.specs.declared.modem.ModemInput.{ModemInput}
use Rattle.channel.specs.declared.channel.Channel.{Channel}
use Rattle.channel.specs.declared.control.Control.{Control}
use Rattle.channel.specs.declared.sender.Sender.{Sender}
use Rattle.channel.specs.declared.receiving.Receiving.{Receiving}
use Rattle.channel.specs.Control.{rate_code, divisor, format_of}
use Rattle.channel.specs.Interrupts.{ier_written}
use Rattle.channel.specs.Modem.{input_set}
use Rattle.channel.specs.Sender.{is_empty, tdr_note, filled}
use Rattle.channel.specs.Receiving.{reading, emptied}
use Rattle.channel.specs.Channel.{isr_read, rdr_read, tdr_written, modem_changed, with_interrupts}
use Rattle.dacia.specs.declared.chip.Chip.{Chip}
use Rattle.terms.specs.declared.register.Register.TheVariants.{Data}
use Rattle.terms.specs.ChannelId.{other as far}
use Rattle.dacia.specs.Access.{select_at, place_at}
use Rattle.dacia.specs.Chip.{channel_of, with_channel, answer_of, read_once, write_once}
use Rattle.dacia.specs.Separation.{same}
use Rattle.link.specs.Link.{Link, link_cycle}
use Rattle.link.specs.Past.{Past, arrived_of, kept_of, past_cycle, past_write, past_read}
use Rattle.link.proofs.Links.{LinkInv, cycle_inv, write_inv, read_inv, cts_inv}
use Rattle.board.specs.Board.{State, with_chip, cycle_answer, after_cycle}
use Rattle.board.specs.Sweep.{Order, cycles, written, sweep_by}
use Rattle.board.specs.Calls.{Call, read, enable, send, write_above, modem, cycle, sweep, accepted, step, Seen, did_read, did_enable, did_send, did_write_above, did_modem, did_sweep, did_refuse, seen, Played, play_one, play}
use Rattle.board.specs.Delivery.{line_of, cts_after, cts_of, is_fresh, is_replaced, past_reading, past_after, past_of, past_sweep}
use Rattle.board.proofs.Records.{words_more}
use Rattle.board.proofs.Directions.{link_of, Steady, cycle_link, cycle_steady, cycle_level}

-- one field of the channels after a change of the channel e
kept : {A : Type 0} (g : Channel → A) (f : Channel → Channel) → ((c : Channel) → g (f c) ≡ g c) → (e ch : ChannelId) (c : Chip) →
    g (channel_of ch (with_channel e (f (channel_of e c)) c)) ≡ g (channel_of ch c)
kept g f h One One c = h c.channels.one
kept g f h One Two c = refl
kept g f h Two One c = refl
kept g f h Two Two c = h c.channels.two

line_kept : (ch : ChannelId) (c : Chip) (t : State) → line_of ch (with_chip c t) ≡ line_of ch t
line_kept One c t = refl
line_kept Two c t = refl

-- what links see of a channel, and a change that no link sees
pub record Part : Type 0 where
  pub control : Control
  pub count : ℕ
  pub level : Bool
  pub sender : Sender
  pub receiving : Receiving

abbrev pub part : Channel → Part
part c = record { control = c.control; count = c.count; level = c.modem.cts.level; sender = c.sender; receiving = c.receiving }

abbrev pub Still : (Channel → Channel) → Type 0
Still f = (c : Channel) → part (f c) ≡ part c

module _ (cr fr D : ℕ) (dv : divisor (rate_code cr) ≡ Some D) (d : ChannelId → ℕ) where
  pub record Inv (w : Played) : Type 0 where
    pub steady : Steady cr fr w.board
    pub level : (ch : ChannelId) → (channel_of ch w.board.chip).modem.cts.level ≡ cts_of ch w.past
    pub links : (ch : ChannelId) → LinkInv (format_of cr fr) (d ch) D (link_of ch w.board) (past_of ch w.past)

  abbrev changed : ChannelId → (Channel → Channel) → Seen → Played → Played
  changed e f v w = record { board = with_chip (with_channel e (f (channel_of e w.board.chip)) w.board.chip) w.board; past = v ∷ w.past }

  -- a change that keeps the settings and the count
  kept_steady : (e : ChannelId) (f : Channel → Channel) → ((c : Channel) → (f c).control ≡ c.control) → ((c : Channel) → (f c).count ≡ c.count) →
      (t : State) → Steady cr fr t → Steady cr fr (with_chip (with_channel e (f (channel_of e t.chip)) t.chip) t)
  kept_steady e f hc hn t s = record {
    control = λ ch. kept (λ c. c.control) f hc e ch t.chip ∙ s.control ch;
    together = λ ch. kept (λ c. c.count) f hn e (far ch) t.chip ∙ s.together ch ∙ sym (kept (λ c. c.count) f hn e ch t.chip);
  }

  -- a call that no link sees
  still_inv : (e : ChannelId) (f : Channel → Channel) (v : Seen) → Still f →
      ((ch : ChannelId) (l : Bool) → cts_after ch v l ≡ l) → ((ch : ChannelId) (l : Bool) (p : Past) → past_after ch l v p ≡ p) →
      (w : Played) → Inv w → Inv (changed e f v w)
  still_inv e f v h hl hp w i =
      let same : (ch : ChannelId) → part (channel_of ch (changed e f v w).board.chip) ≡ part (channel_of ch w.board.chip) = λ ch. kept part f h e ch w.board.chip in
      record {
        steady = kept_steady e f (λ c. ap (λ p. p.control) (h c)) (λ c. ap (λ p. p.count) (h c)) w.board i.steady;
        level = λ ch. ap (λ p. p.level) (same ch) ∙ i.level ch ∙ sym (hl ch (cts_of ch w.past));
        links = λ ch.
            let seen : link_of ch (changed e f v w).board ≡ link_of ch w.board = λ j. record {
              phase = (same ch j).count;
              cts = (same ch j).level;
              sender = (same ch j).sender;
              line = line_kept ch (changed e f v w).board.chip w.board j;
              receiving = (same (far ch) j).receiving;
            } in
            rw seen (rw (hp ch (cts_of ch w.past) (past_of ch w.past)) (i.links ch));
      }

  -- a read of RDR, seen from the channel at the other end of the line
  fresh_note : (b : Bool) → is_fresh (Some (cond b Fresh Old)) ≡ b
  fresh_note true = refl
  fresh_note false = refl

  rdr_link : (ch : ChannelId) (w : Played) → Inv w → let k : Link = link_of ch w.board in
      LinkInv (format_of cr fr) (d ch) D (record k { receiving = emptied k.receiving })
      (past_read (is_fresh (reading k.receiving).note) k.receiving.rdr (past_of ch w.past))
  rdr_link ch w i =
      let k : Link = link_of ch w.board in
      rw (fresh_note k.receiving.rdrf) (read_inv (format_of cr fr) (d ch) D k (past_of ch w.past) (i.links ch))

  rdr_seen : ChannelId → Played → Seen
  rdr_seen e w = did_read (select_at e Data) (Ok (reading (channel_of e w.board.chip).receiving))

  rdr_links : (ch e : ChannelId) (w : Played) → Inv w → LinkInv (format_of cr fr) (d ch) D (link_of ch (changed e rdr_read (rdr_seen e w) w).board) (past_of ch (rdr_seen e w ∷ w.past))
  unfolding rdr_seen
  rdr_links One One w i = i.links One
  rdr_links One Two w i = rdr_link One w i
  rdr_links Two One w i = rdr_link Two w i
  rdr_links Two Two w i = i.links Two

  rdr_inv : (e : ChannelId) (w : Played) → Inv w → Inv (changed e rdr_read (rdr_seen e w) w)
  unfolding rdr_seen
  rdr_inv e w i = record {
    steady = kept_steady e rdr_read (λ c. refl) (λ c. refl) w.board i.steady;
    level = λ ch. kept (λ c. c.modem.cts.level) rdr_read (λ c. refl) e ch w.board.chip ∙ i.level ch;
    links = λ ch. rdr_links ch e w i;
  }

  -- a write to TDR, seen from its own channel
  replaced_note : (b : Bool) → is_replaced (Some (cond b Stored Replaced)) ≡ not b
  replaced_note true = refl
  replaced_note false = refl

  send_link : (ch : ChannelId) (v : ℕ) (w : Played) → Inv w → let k : Link = link_of ch w.board in
      LinkInv (format_of cr fr) (d ch) D (record k { sender = filled v k.sender })
      (past_write (is_replaced (Some (tdr_note k.sender))) v (past_of ch w.past))
  send_link ch v w i =
      let k : Link = link_of ch w.board in
      rw (replaced_note (is_empty k.sender.tdr)) (write_inv (format_of cr fr) (d ch) D k (past_of ch w.past) v (i.links ch))

  send_seen : ChannelId → ℕ → Played → Seen
  send_seen e v w = did_send e v (Ok (Some (tdr_note (channel_of e w.board.chip).sender)))

  send_links : (ch e : ChannelId) (v : ℕ) (w : Played) → Inv w →
      LinkInv (format_of cr fr) (d ch) D (link_of ch (changed e (tdr_written v) (send_seen e v w) w).board) (past_of ch (send_seen e v w ∷ w.past))
  unfolding send_seen
  send_links One One v w i = send_link One v w i
  send_links One Two v w i = i.links One
  send_links Two One v w i = i.links Two
  send_links Two Two v w i = send_link Two v w i

  send_inv : (e : ChannelId) (v : ℕ) (w : Played) → Inv w → Inv (changed e (tdr_written v) (send_seen e v w) w)
  unfolding send_seen
  send_inv e v w i = record {
    steady = kept_steady e (tdr_written v) (λ c. refl) (λ c. refl) w.board i.steady;
    level = λ ch. kept (λ c. c.modem.cts.level) (tdr_written v) (λ c. refl) e ch w.board.chip ∙ i.level ch;
    links = λ ch. send_links ch e v w i;
  }

  -- a level of CTS
  input_level : (l : Bool) (m : ModemInput) → (input_set l m).level ≡ l
  input_level true m = refl
  input_level false m = refl

  cts_levels : (ch e : ChannelId) (l : Bool) (w : Played) → Inv w →
      (channel_of ch (changed e (modem_changed Cts l) (did_modem e Cts l) w).board.chip).modem.cts.level ≡ cts_of ch (did_modem e Cts l ∷ w.past)
  cts_levels One One l w i = input_level l w.board.chip.channels.one.modem.cts
  cts_levels One Two l w i = i.level One
  cts_levels Two One l w i = i.level Two
  cts_levels Two Two l w i = input_level l w.board.chip.channels.two.modem.cts

  cts_links : (ch e : ChannelId) (l : Bool) (w : Played) → Inv w →
      LinkInv (format_of cr fr) (d ch) D (link_of ch (changed e (modem_changed Cts l) (did_modem e Cts l) w).board) (past_of ch (did_modem e Cts l ∷ w.past))
  cts_links One One l w i = cts_inv (format_of cr fr) (d One) D (link_of One w.board) (past_of One w.past) (input_set l w.board.chip.channels.one.modem.cts).level (i.links One)
  cts_links One Two l w i = i.links One
  cts_links Two One l w i = i.links Two
  cts_links Two Two l w i = cts_inv (format_of cr fr) (d Two) D (link_of Two w.board) (past_of Two w.past) (input_set l w.board.chip.channels.two.modem.cts).level (i.links Two)

  cts_inv_at : (e : ChannelId) (l : Bool) (w : Played) → Inv w → Inv (changed e (modem_changed Cts l) (did_modem e Cts l) w)
  cts_inv_at e l w i = record {
    steady = kept_steady e (modem_changed Cts l) (λ c. refl) (λ c. refl) w.board i.steady;
    level = λ ch. cts_levels ch e l w i;
    links = λ ch. cts_links ch e l w i;
  }

  -- a read at a select above 7 is refused and changes nothing
  above : (s : ℕ) → 7 < s → place_at s ≡ Err NoSuchSelect
  above s h = cond-true _ _ _ (lt-ltb 7 s h)

  -- a read is no write, and only one of the far RDR counts
  not_rdr : (s : ℕ) (r : Result Reading Refusal) → (s ≡ 3 → ⊥) → (s ≡ 7 → ⊥) → (ch : ChannelId) (l : Bool) (p : Past) → past_after ch l (did_read s r) p ≡ p
  not_rdr s r n3 n7 One l p = cond-false (eqb s 7) (past_reading r p) p (ne_eqb s 7 n7)
  not_rdr s r n3 n7 Two l p = cond-false (eqb s 3) (past_reading r p) p (ne_eqb s 3 n3)

  -- a read that no link sees
  still_read : (s : ℕ) (e : ChannelId) (f : Channel → Channel) → Still f → (s ≡ 3 → ⊥) → (s ≡ 7 → ⊥) → (w : Played) → Inv w → Inv (changed e f (did_read s (read_once s w.board.chip)) w)
  still_read s e f h n3 n7 w i = still_inv e f (did_read s (read_once s w.board.chip)) h (λ ch l. refl) (not_rdr s (read_once s w.board.chip) n3 n7) w i

  read_above : (s : ℕ) → 7 < s → (w : Played) → Inv w → Inv (play_one (read s) w)
  unfolding step seen
  read_above s h w i =
      rw (above s h) (still_inv One (λ c. c) (did_read s (Err NoSuchSelect)) (λ c. refl) (λ ch l. refl) (not_rdr s (Err NoSuchSelect) (λ q. omega arith) (λ q. omega arith)) w i)

  read_inv_at : (s : ℕ) (w : Played) → Inv w → Inv (play_one (read s) w)
  unfolding step seen rdr_seen
  read_inv_at zero w i = still_read 0 One isr_read (λ c. refl) (λ q. omega arith) (λ q. omega arith) w i
  read_inv_at (suc zero) w i = still_read 1 One (λ c. c) (λ c. refl) (λ q. omega arith) (λ q. omega arith) w i
  read_inv_at (suc (suc zero)) w i = still_read 2 One (λ c. c) (λ c. refl) (λ q. omega arith) (λ q. omega arith) w i
  read_inv_at (suc (suc (suc zero))) w i = rdr_inv One w i
  read_inv_at (suc (suc (suc (suc zero)))) w i = still_read 4 Two isr_read (λ c. refl) (λ q. omega arith) (λ q. omega arith) w i
  read_inv_at (suc (suc (suc (suc (suc zero))))) w i = still_read 5 Two (λ c. c) (λ c. refl) (λ q. omega arith) (λ q. omega arith) w i
  read_inv_at (suc (suc (suc (suc (suc (suc zero)))))) w i = still_read 6 Two (λ c. c) (λ c. refl) (λ q. omega arith) (λ q. omega arith) w i
  read_inv_at (suc (suc (suc (suc (suc (suc (suc zero))))))) w i = rdr_inv Two w i
  read_inv_at (suc (suc (suc (suc (suc (suc (suc (suc s)))))))) w i = read_above (suc (suc (suc (suc (suc (suc (suc (suc s)))))))) (omega arith) w i

  enable_inv : (e : ChannelId) (b : ℕ) (w : Played) → Inv w → Inv (play_one (enable e b) w)
  unfolding step seen
  enable_inv One b w i = still_inv One (λ c. with_interrupts (ier_written b c.interrupts) c) (did_enable One b (write_once 0 w.board.chip)) (λ c. refl) (λ ch l. refl) (λ ch l p. refl) w i
  enable_inv Two b w i = still_inv Two (λ c. with_interrupts (ier_written b c.interrupts) c) (did_enable Two b (write_once 4 w.board.chip)) (λ c. refl) (λ ch l. refl) (λ ch l p. refl) w i

  write_above_lem : (s b : ℕ) (w : Played) → Inv w → Inv (play_one (write_above s b) w)
  unfolding step seen
  write_above_lem s b w i =
      rw (above (8 + s) (omega arith)) (still_inv One (λ c. c) (did_write_above s b (Err NoSuchSelect)) (λ c. refl) (λ ch l. refl) (λ ch l p. refl) w i)

  other_line : (ch e : ChannelId) (l k : Bool) → cond (same ch e && false) k l ≡ l
  other_line ch e l k = ap (λ b. cond b k l) (and_right (same ch e) false refl)

  modem_inv : (e : ChannelId) (line : ModemLine) (l : Bool) (w : Played) → Inv w → Inv (play_one (modem e line l) w)
  unfolding step seen
  modem_inv e Cts l w i = cts_inv_at e l w i
  modem_inv e Dcd l w i = still_inv e (modem_changed Dcd l) (did_modem e Dcd l) (λ c. refl) (λ ch k. other_line ch e k l) (λ ch k p. refl) w i
  modem_inv e Dsr l w i = still_inv e (modem_changed Dsr l) (did_modem e Dsr l) (λ c. refl) (λ ch k. other_line ch e k l) (λ ch k p. refl) w i

  -- one cycle of a link, with the level of CTS as the calls gave it
  cycle_one : (t : State) → Steady cr fr t → (ch : ChannelId) (l : Bool) (p : Past) → (channel_of ch t.chip).modem.cts.level ≡ l →
      LinkInv (format_of cr fr) (d ch) D (link_of ch t) p → LinkInv (format_of cr fr) (d ch) D (link_of ch (after_cycle t)) (past_cycle l (answer_of (far ch) (cycle_answer t)).report p)
  cycle_one t s ch l p e i =
      let x = format_of cr fr in
      let P : Option Report × Link → Type 0 = λ z. LinkInv x (d ch) D z.1 (past_cycle l z.0 p) in
      let Q : Bool → Type 0 = λ b. LinkInv x (d ch) D (link_cycle x D (link_of ch t)).1 (past_cycle b (link_cycle x D (link_of ch t)).0 p) in
      subst P (sym (cycle_link cr fr D dv t s ch)) (subst Q e (cycle_inv x (d ch) D (link_of ch t) p i))

  cycle_inv_at : (w : Played) → Inv w → Inv (play_one cycle w)
  unfolding step seen
  cycle_inv_at w i = record {
    steady = cycle_steady cr fr D dv w.board i.steady;
    level = λ ch. cycle_level cr fr D dv w.board i.steady ch ∙ i.level ch;
    links = λ ch. cycle_one w.board i.steady ch (cts_of ch w.past) (past_of ch w.past) (i.level ch) (i.links ch);
  }

  -- k cycles of a sweep
  pub record Swung (o : Order) (k : ℕ) (w : Played) : Type 0 where
    pub steady : Steady cr fr (cycles k w.board)
    pub level : (ch : ChannelId) → (channel_of ch (cycles k w.board).chip).modem.cts.level ≡ cts_of ch w.past
    pub links : (ch : ChannelId) →
        LinkInv (format_of cr fr) (d ch) D (link_of ch (cycles k w.board)) (past_sweep (cts_of ch w.past) (far ch) k (written o k w.board) (past_of ch w.past))

  swung : (o : Order) (k : ℕ) (w : Played) → Inv w → Swung o k w
  unfolding cycles written
  swung o zero w i = record {
    steady = i.steady;
    level = i.level;
    links = λ ch.
        let p : Past = past_of ch w.past in
        rw (append-nil p.arrived) (rw (append-nil p.kept) (i.links ch));
  }
  swung o (suc k) w i =
      let h = swung o k w i in
      let t : State = cycles k w.board in
      record {
        steady = cycle_steady cr fr D dv t h.steady;
        level = λ ch. cycle_level cr fr D dv t h.steady ch ∙ h.level ch;
        links = λ ch.
            let l : Bool = cts_of ch w.past in
            let p : Past = past_of ch w.past in
            let ws = written o k w.board in
            let a = cycle_answer t in
            rw (sym (words_more arrived_of (far ch) p.arrived ws o (suc k) a)) (rw (sym (words_more kept_of (far ch) p.kept ws o (suc k) a))
            (cycle_one t h.steady ch l (past_sweep l (far ch) k ws p) (h.level ch) (h.links ch)));
      }

  sweep_inv : (k room : ℕ) (o : Order) (w : Played) → Inv w → (b : Bool) →
      Inv (record { board = cond b (cycles k w.board) w.board; past = cond b (did_sweep k (written o k w.board)) (did_refuse (sweep_by k room)) ∷ w.past })
  sweep_inv k room o w i true = let h = swung o k w i in record { steady = h.steady; level = h.level; links = h.links }
  sweep_inv k room o w i false = record { steady = i.steady; level = i.level; links = i.links }

  call_inv : (k : Call) (w : Played) → Inv w → Inv (play_one k w)
  unfolding step seen send_seen
  call_inv (read s) w i = read_inv_at s w i
  call_inv (enable e b) w i = enable_inv e b w i
  call_inv (send One v) w i = send_inv One v w i
  call_inv (send Two v) w i = send_inv Two v w i
  call_inv (write_above s b) w i = write_above_lem s b w i
  call_inv (modem e line l) w i = modem_inv e line l w i
  call_inv cycle w i = cycle_inv_at w i
  call_inv (sweep k room o) w i = sweep_inv k room o w i (accepted k room)

  pub play_inv : (ks : List Call) (w : Played) → Inv w → Inv (play ks w)
  unfolding play
  play_inv [] w i = i
  play_inv (k ∷ ks) w i = play_inv ks (play_one k w) (call_inv k w i)
