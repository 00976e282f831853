-- One direction of a board keeps its invariant, and what the invariant says of the words.
use Rattle.std.proofs.Common.{◌≡◌, ℕ, ◌+◌, ◌*◌, ◌<◌, ◌≤◌, Bool, true, false, cond, ltb, List, [], ◌∷◌, ◌++◌, map, length, get_or, replicate, Some, None, Option, sym, refl, ap, ◌∙◌, subst, inl, inr, append_assoc, append-nil, mul_assoc, arith, length-append}
use lib.ListN.{length-replicate, get_or-map}
use lib.Seq.{get_or-append_seam}
use mathlib.Core.List.{map-map}
use Rattle.std.proofs.lemmas.List.{map-append, map_push, nil_from_length}
use Rattle.std.proofs.lemmas.Bool.{ltb-true, true≢false}
use Rattle.std.specs.Option.{option_to_list}
use Rattle.terms.specs.declared.report.Report.{Report}
use Rattle.serial.specs.declared.format.Format.{Format}
use Rattle.serial.specs.declared.receiver.Receiver.{Receiver}
use Rattle.serial.specs.declared.receiver.Receiver.TheVariants.{Hunting}
use Rattle.serial.specs.declared.receiver.Received.{Received}
use Rattle.serial.specs.declared.transmitter.Transmitter.{Transmitter}
use Rattle.serial.specs.declared.transmitter.Transmitter.TheVariants.{Resting, Sending, Breaking}
use Rattle.serial.specs.Format.{frame_bits, cut}
use Rattle.serial.specs.Receiver.{heard}
use Rattle.serial.specs.Transmitter.{frame_ticks}
use Rattle.channel.specs.declared.sender.Sender.{Sender}
use Rattle.channel.specs.declared.receiving.Receiving.{Receiving}
use Rattle.channel.specs.Sender.{filled, sent}
use Rattle.channel.specs.Receiving.{emptied, with_receiver, passed_by, overrun, kept as kept_by, perhaps_ending}
use Rattle.line.specs.Line.{length_held}
use Rattle.link.specs.Link.{Link, given, taken, idled, ticked_on, link_cycle}
use Rattle.link.specs.Past.{Past, nothing_yet, arrived_of, kept_of, words_of, only, row_after, longest_after, past_cycle, past_write, past_read}
use Rattle.link.proofs.Runs.{R, at, run, run_log}
use Rattle.link.proofs.Pending.{pending, pend_most}
use Rattle.link.proofs.Motion.{frame_cycles, frame_time, Fits, is_full, sent_as, Timing, Going, Next}
use Rattle.link.proofs.Cycles.{mid, tick}

-- no flag of a bad frame, and awake
pub record Clean (r : Receiving) : Type 0 where
  pub par : r.errors.par ≡ false
  pub fe : r.errors.fe ≡ false
  pub brk : r.errors.brk ≡ false
  pub awake : r.asleep ≡ false

abbrev pub words : List Received → List ℕ
words rs = map (λ r. r.word) rs

abbrev seen_by : Link → List Received → R
seen_by k log = at k.phase log k.receiving.receiver

pub record LinkInv (x : Format) (d D : ℕ) (k : Link) (p : Past) : Type 0 where
  pub log : List Received
  pub going : Going x d D k.sender k.line (seen_by k log) p.unreplaced p.row p.longest
  pub arrivals : p.arrived ≡ words log
  pub clean : Clean k.receiving
  pub reads : p.fresh ++ only k.receiving.rdrf k.receiving.rdr ≡ p.kept

next : (cts : Bool) (row longest : ℕ) → Next cts row longest (row_after cts row) (longest_after cts row longest)
next true row longest = (refl, refl)
next false row longest = (refl, refl)

words_sent : (x : Format) (vs : List ℕ) → words (map (sent_as x) vs) ≡ map (cut x) vs
words_sent x vs = map-map (λ r. r.word) (sent_as x) vs

-- a log that begins the frames of the words
begins : (x : Format) (log more : List Received) (vs : List ℕ) → log ++ more ≡ map (sent_as x) vs → (rest : List ℕ) × (words log ++ rest ≡ map (cut x) vs)
begins x log more vs e = (words more, sym (map-append (λ r. r.word) log more) ∙ ap words e ∙ words_sent x vs)

-- the last of such a log is the frame of a word
last_sent : (x : Format) (log : List Received) (r : Received) (more : List Received) (vs : List ℕ) → (log ++ (r ∷ [])) ++ more ≡ map (sent_as x) vs → (v : ℕ) × (r ≡ sent_as x v)
last_sent x log r more vs e =
    let n : ℕ = length log in
    let d : Received = sent_as x 0 in (
      get_or vs n 0,
      sym (get_or-append_seam log r more d) ∙ ap (λ z. get_or z n d) (sym (append_assoc log (r ∷ []) more) ∙ e) ∙ get_or-map (sent_as x) vs n 0,
    )

-- the end of a clean frame: it is kept, or lost where RDRF is set
pub record Ended (log : List Received) (frame : Option Received) (r : Receiving) (p : Past) (e : Option Report × Receiving) : Type 0 where
  pub receiver : e.1.receiver ≡ r.receiver
  pub arrivals : p.arrived ++ words_of arrived_of e.0 ≡ words (log ++ option_to_list frame)
  pub clean : Clean e.1
  pub reads : p.fresh ++ only e.1.rdrf e.1.rdr ≡ p.kept ++ words_of kept_of e.0

word_arrives : (log : List Received) (f : Received) (ws : List ℕ) → ws ≡ words log → ws ++ (f.word ∷ []) ≡ words (log ++ (f ∷ []))
word_arrives log f ws e = ap (λ z. z ++ (f.word ∷ [])) e ∙ sym (map_push (λ z. z.word) log f)

ended_clean : (x : Format) (v : ℕ) (log : List Received) (r : Receiving) (p : Past) → Clean r → p.arrived ≡ words log → p.fresh ++ only r.rdrf r.rdr ≡ p.kept →
    (asleep rdrf : Bool) → r.asleep ≡ asleep → r.rdrf ≡ rdrf → let f : Received = sent_as x v in
    Ended log (Some f) r p (cond asleep (passed_by f.word 0 r) (cond rdrf (overrun f.word r) (kept_by f false r)))
ended_clean x v log r p c a h true rdrf e g = absurd (true≢false (sym e ∙ c.awake))
ended_clean x v log r p c a h false true e g = record {
  receiver = refl;
  arrivals = word_arrives log (sent_as x v) p.arrived a;
  clean = record { par = c.par; fe = c.fe; brk = c.brk; awake = c.awake };
  reads = h ∙ sym (append-nil p.kept);
}
ended_clean x v log r p c a h false false e g = record {
  receiver = refl;
  arrivals = word_arrives log (sent_as x v) p.arrived a;
  clean = record { par = refl; fe = refl; brk = c.brk; awake = c.awake };
  reads = ap (λ z. z ++ (cut x v ∷ [])) (sym (append-nil p.fresh) ∙ ap (λ b. p.fresh ++ only b r.rdr) (sym g) ∙ h);
}

-- what a tick of the receiver gives, where every frame that has ended is the frame of a word
ended_by : (x : Format) (log more : List Received) (vs : List ℕ) (frame : Option Received) (r : Receiving) (p : Past) →
    Clean r → p.arrived ≡ words log → p.fresh ++ only r.rdrf r.rdr ≡ p.kept →
    (log ++ option_to_list frame) ++ more ≡ map (sent_as x) vs → Ended log frame r p (perhaps_ending frame 0 false r)
ended_by x log more vs None r p c a h e = record {
  receiver = refl;
  arrivals = append-nil p.arrived ∙ a ∙ ap words (sym (append-nil log));
  clean = c;
  reads = h ∙ sym (append-nil p.kept);
}
ended_by x log more vs (Some f) r p c a h e =
    let l = last_sent x log f more vs e in
    rw l.1 (ended_clean x l.0 log r p c a h r.asleep r.rdrf refl refl)

module _ (x : Format) (d D : ℕ) where
  -- a cycle that is no tick
  idle_inv : (k : Link) (p : Past) → LinkInv x d D k p → ltb (k.phase + 1) D ≡ true → LinkInv x d D (idled k).1 (past_cycle k.cts (idled k).0 p)
  idle_inv k p i e =
      let g = i.going in
      let s : Sender = k.sender in
      record {
        log = i.log;
        going = record {
          phase_low = ltb-true (k.phase + 1) D e;
          fits = g.fits;
          line_size = length_held k.line (given k) ∙ g.line_size;
          motion = mid x d D s.transmitter (is_full s.tdr) k.cts k.line (seen_by k i.log) (map (sent_as x) (p.unreplaced (is_full s.tdr)))
              p.row p.longest (row_after k.cts p.row) (longest_after k.cts p.row p.longest)
              g.phase_low g.line_size e (next k.cts p.row p.longest) g.motion;
          queue = g.queue;
        };
        arrivals = append-nil p.arrived ∙ i.arrivals;
        clean = i.clean;
        reads = i.reads ∙ sym (append-nil p.kept);
      }

  -- a cycle that is a tick
  tick_inv : (k : Link) (p : Past) → LinkInv x d D k p → ltb (k.phase + 1) D ≡ false → LinkInv x d D (ticked_on x k).1 (past_cycle k.cts (ticked_on x k).0 p)
  tick_inv k p i e =
      let g = i.going in
      let s : Sender = k.sender in
      let t : Option Received × Receiver = heard x (taken k) k.receiving.receiver in
      let r : Receiving = with_receiver t.1 k.receiving in
      let went = tick x d D s.transmitter s.tdr k.cts k.line (seen_by k i.log) p.unreplaced
      p.row p.longest (row_after k.cts p.row) (longest_after k.cts p.row p.longest)
      g.phase_low g.fits g.line_size g.queue e (next k.cts p.row p.longest) g.motion in
      let sender : Sender = sent x false k.cts s in
      let f = went.motion.flow in
      let rest = run_log x D f.body (at 0 (i.log ++ option_to_list t.0) t.1) in
      let old = i.clean in
      let same : Clean r = record { par = old.par; fe = old.fe; brk = old.brk; awake = old.awake } in
      let h = ended_by x i.log rest.0 (p.unreplaced (is_full sender.tdr)) t.0 r p same i.arrivals i.reads (rest.1 ∙ f.log) in
      record {
        log = i.log ++ option_to_list t.0;
        going = rw h.receiver went;
        arrivals = h.arrivals;
        clean = h.clean;
        reads = h.reads;
      }

  turned : (k : Link) (p : Past) → LinkInv x d D k p → (b : Bool) → ltb (k.phase + 1) D ≡ b →
      let c : Option Report × Link = cond b (idled k) (ticked_on x k) in LinkInv x d D c.1 (past_cycle k.cts c.0 p)
  turned k p i true e = idle_inv k p i e
  turned k p i false e = tick_inv k p i e

  pub cycle_inv : (k : Link) (p : Past) → LinkInv x d D k p → LinkInv x d D (link_cycle x D k).1 (past_cycle k.cts (link_cycle x D k).0 p)
  cycle_inv k p i = turned k p i (ltb (k.phase + 1) D) refl

-- a word was just written: two frames suffice
fresh_timing : (x : Format) (d D φ : ℕ) (tx : Transmitter) (i : ℕ) → φ < D → Fits x tx →
    Timing (frame_cycles x D) d D φ (length (pending D (frame_ticks x) φ tx)) tx true 0 0 i
fresh_timing x d D φ Resting i h c = let t = frame_time x D (omega arith) in omega arith
fresh_timing x d D φ (Sending y f c) i h b =
    let t = frame_time x D (omega arith) in
    let m = pend_most D (frame_ticks x) φ y f c h b.1 in
    omega arith
fresh_timing x d D φ (Breaking y c) i h b = absurd b

module _ (x : Format) (d D : ℕ) where
  -- a write to the near TDR
  pub write_inv : (k : Link) (p : Past) (v : ℕ) → LinkInv x d D k p →
      LinkInv x d D (record k { sender = filled v k.sender }) (past_write (is_full k.sender.tdr) v p)
  write_inv k p v i =
      let s : Sender = k.sender in
      let g = i.going in
      let o = g.motion in
      let u : List ℕ = p.unreplaced (is_full s.tdr) in
      record {
        log = i.log;
        going = record {
          phase_low = g.phase_low;
          fits = g.fits;
          line_size = g.line_size;
          motion = record {
            idle = o.idle;
            flow = rw (append-nil u) o.flow;
            timing = fresh_timing x d D k.phase s.transmitter o.idle g.phase_low g.fits;
          };
          queue = ap (λ z. z ++ (v ∷ [])) (sym (append-nil u));
        };
        arrivals = i.arrivals;
        clean = i.clean;
        reads = i.reads;
      }

  -- a read of the far RDR
  pub read_inv : (k : Link) (p : Past) → LinkInv x d D k p →
      LinkInv x d D (record k { receiving = emptied k.receiving })
      (past_read k.receiving.rdrf k.receiving.rdr p)
  read_inv k p i = record {
    log = i.log;
    going = i.going;
    arrivals = i.arrivals;
    clean = record { par = refl; fe = refl; brk = refl; awake = i.clean.awake };
    reads = append-nil (p.fresh ++ only k.receiving.rdrf k.receiving.rdr) ∙ i.reads;
  }

  -- a level of the near CTS
  pub cts_inv : (k : Link) (p : Past) (l : Bool) → LinkInv x d D k p →
      LinkInv x d D (record k { cts = l }) p
  cts_inv k p l i = record { log = i.log; going = i.going; arrivals = i.arrivals; clean = i.clean; reads = i.reads }

-- at the start: nothing is under way, and the line is quiet
pub start_inv : (x : Format) (D : ℕ) (k : Link) → 0 < D → k.phase ≡ 0 → k.sender ≡ record { tdr = None; transmitter = Resting } →
    k.line ≡ replicate (length k.line) true → k.receiving.receiver ≡ Hunting → k.receiving.rdrf ≡ false → Clean k.receiving →
    LinkInv x (length k.line) D k nothing_yet
start_inv x D k h phase sender quiet hunts empty clean =
    let d : ℕ = length k.line in
    let going : Going x d D (record { tdr = None; transmitter = Resting }) k.line (at 0 [] Hunting) (λ b. []) 0 0 = record {
      phase_low = h;
      fits = tt;
      line_size = refl;
      motion = record {
        idle = d;
        flow = record { body = []; split = append-nil k.line ∙ quiet; hunt = refl; log = refl };
        timing = inr (omega arith);
      };
      queue = refl;
    } in
    record {
      log = [];
      going = rw phase (rw sender (rw hunts going));
      arrivals = refl;
      clean = clean;
      reads = ap (λ b. only b k.receiving.rdr) empty;
    }

two_frames : (z D : ℕ) → 32 * z * D ≡ 2 * (16 * z * D)
two_frames z D = let a = mul_assoc 32 z D in let b = mul_assoc 16 z D in omega arith

-- after a long row the sender rests with TDR empty, and the line is idle
quiet : (T d D M φ row best i : ℕ) (tx : Transmitter) (full : Bool) → φ < D → Timing T d D φ (length (pending D M φ tx)) tx full row best i → 2 * T + d ≤ best →
    (full ≡ false) × (d ≤ i) × (length (pending D M φ tx) ≡ 0)
quiet T d D M φ row best i Resting false h (inl o) b = (refl, omega arith, refl)
quiet T d D M φ row best i Resting false h (inr o) b = (refl, o, refl)
quiet T d D M φ row best i Resting true h o b = absurd (omega arith)
quiet T d D M φ row best i (Sending y f c) full h o b = absurd (omega arith)
quiet T d D M φ row best i (Breaking y c) full h o b = absurd o

-- what the invariant says of the words: they arrive in order, and all of them in time
pub record Arrivals (x : Format) (d D : ℕ) (p : Past) : Type 0 where
  pub in_order : (rest : List ℕ) × (p.arrived ++ rest ≡ map (cut x) (p.unreplaced false))
  pub all_in_time : 32 * frame_bits x * D + d ≤ p.longest → p.arrived ≡ map (cut x) (p.unreplaced false)

pub arrives : (x : Format) (d D : ℕ) (k : Link) (p : Past) → LinkInv x d D k p → Arrivals x d D p
arrives x d D k p i =
    let s : Sender = k.sender in
    let g = i.going in
    let o = g.motion in
    let f = o.flow in
    let M : ℕ = frame_ticks x in
    let took : List ℕ = p.unreplaced (is_full s.tdr) in
    let r : R = seen_by k i.log in
    let more = run_log x D f.body r in
    let b = begins x i.log more.0 took (more.1 ∙ f.log) in
    let left : List ℕ = map (cut x) (option_to_list s.tdr) in
    let all : map (cut x) (p.unreplaced false) ≡ map (cut x) took ++ left = ap (map (cut x)) g.queue ∙ map-append (cut x) took (option_to_list s.tdr) in
    record {
      in_order = (
        b.0 ++ left,
        ap (λ z. z ++ (b.0 ++ left)) i.arrivals ∙ sym (append_assoc (words i.log) b.0 left) ∙ ap (λ z. z ++ left) b.1 ∙ sym all,
      );
      all_in_time = λ h.
          let T : ℕ = frame_cycles x D in
          let t = two_frames (frame_bits x) D in
          let far : 2 * T + d ≤ p.longest = subst (λ (z : ℕ). z + d ≤ p.longest) t h in
          let q = quiet T d D M k.phase p.row p.longest o.idle s.transmitter (is_full s.tdr) g.phase_low o.timing far in
          let pend : List Bool = pending D M k.phase s.transmitter in
          let l1 = length-append k.line pend in
          let l2 = length-append f.body (replicate o.idle true) in
          let l3 = length-replicate o.idle true in
          let l4 : length (k.line ++ pend) ≡ length (f.body ++ replicate o.idle true) = ap length f.split in
          let l5 = g.line_size in
          let empty : f.body ≡ [] = nil_from_length f.body (omega arith) in
          let same : i.log ≡ map (sent_as x) took = ap (λ z. (run x D z r).log) (sym empty) ∙ f.log in
          let caught : took ≡ p.unreplaced false = ap (λ z. p.unreplaced z) q.0 in
          i.arrivals ∙ ap words same ∙ words_sent x took ∙ ap (map (cut x)) caught;
    }
