-- A cycle keeps the invariant of the motion.
use Rattle.std.proofs.Common.{◌≡◌, ℕ, suc, ◌+◌, ◌-◌, ◌*◌, ◌<◌, ◌≤◌, max, Bool, true, false, cond, ltb, ◌⊎◌, List, [], ◌∷◌, ◌++◌, map, length, Some, None, Option, sym, refl, ap, ◌∙◌, inl, inr, append_assoc, append-nil, arith, length-append}
use Rattle.std.proofs.lemmas.List.{map_push}
use Rattle.std.proofs.lemmas.Bool.{ltb-true, ltb-false}
use Rattle.std.specs.Option.{option_to_list}
use Rattle.serial.specs.declared.format.Format.{Format}
use Rattle.serial.specs.declared.receiver.Receiver.{Receiver}
use Rattle.serial.specs.declared.receiver.Received.{Received}
use Rattle.serial.specs.declared.transmitter.Transmitter.{Transmitter}
use Rattle.serial.specs.declared.transmitter.Transmitter.TheVariants.{Resting, Sending, Breaking}
use Rattle.serial.specs.Frame.{frame}
use Rattle.serial.specs.Receiver.{heard}
use Rattle.serial.specs.Transmitter.{level, frame_ticks, taken}
use Rattle.channel.specs.Sender.{handed, sent}
use Rattle.line.specs.Line.{leaves, held, length_held}
use Rattle.link.proofs.Runs.{R, after, turn_r}
use Rattle.link.proofs.WholeFrame.{level_at}
use Rattle.link.proofs.Flow.{Flow, flow_idle, flow_step, flow_frame}
use Rattle.link.proofs.Pending.{pending, pend_mid, pend_next, pend_last, pend_some, pend_most, pend_start}
use Rattle.link.proofs.Motion.{frame_cycles, some_ticks, frame_time, Fits, is_full, sent_as, extra, Timing, Motion, Going, Next}

-- the line gives its oldest level and takes the sender's
shift_eq : (line : List Bool) (l : Bool) (rest : List Bool) → line ++ (l ∷ rest) ≡ leaves line l ∷ (held line l ++ rest)
shift_eq [] l rest = refl
shift_eq (a ∷ q) l rest = ap (λ z. a ∷ z) (sym (append_assoc q (l ∷ []) rest))

next_row : (cts : Bool) (row best row' best' : ℕ) → Next cts row best row' best' → (row' ≤ suc row) × (best' ≤ max best row')
next_row true row best row' best' n = omega arith
next_row false row best row' best' n = omega arith

module _ (x : Format) (d D : ℕ) where
  -- the levels of one cycle
  advance : (line : List Bool) (l : Bool) (rest : List Bool) (r : R) (L : List Received) (i : ℕ) (b : Bool) → ltb (r.phase + 1) D ≡ b →
      Flow x D (line ++ (l ∷ rest)) r L i →
      (j : ℕ) × Flow x D (held line l ++ rest) (turn_r x (leaves line l) r b) L j × ((j ≡ i) ⊎ (length (held line l ++ rest) ≤ j))
  advance line l rest r L i b e f =
      let s = flow_step x D (leaves line l) (held line l ++ rest) r L i (rw (sym (shift_eq line l rest)) f) in
      (s.0, rw (sym e) s.1, s.2)

  idle_level : (line : List Bool) (r : R) (L : List Received) (i : ℕ) → Flow x D (line ++ []) r L i → Flow x D (line ++ (true ∷ [])) r L (suc i)
  idle_level line r L i f =
      rw (sym (append_assoc line [] (true ∷ []))) (flow_idle x D (line ++ []) r L i f)

  nothing : (q : List Bool) → length q ≡ d → length (q ++ []) ≡ d
  nothing q h = let e = length-append q [] in omega arith

  -- a sender with nothing to do: its idle levels grow, or fill the line
  idle_timing : (T i j n row best row' best' : ℕ) → n ≡ d → (row' ≤ suc row) × (best' ≤ max best row') →
      ((best ≤ 2 * T + i) × (row ≤ 2 * T + i)) ⊎ (d ≤ i) → (j ≡ suc i) ⊎ (n ≤ j) →
      ((best' ≤ 2 * T + j) × (row' ≤ 2 * T + j)) ⊎ (d ≤ j)
  idle_timing T i j n row best row' best' e h (inl o) (inl k) = inl (omega arith)
  idle_timing T i j n row best row' best' e h (inr o) (inl k) = inr (omega arith)
  idle_timing T i j n row best row' best' e h o (inr k) = inr (omega arith)

  -- a sender at work: one level fewer to give
  busy_timing : (T left left' z row best row' best' : ℕ) → left ≡ suc left' → 1 ≤ left' → (row' ≤ suc row) × (best' ≤ max best row') →
      (row + (left + z) ≤ 2 * T) × (best < 2 * T) → (row' + (left' + z) ≤ 2 * T) × (best' < 2 * T)
  busy_timing T left left' z row best row' best' e s k o = omega arith

  -- a cycle with no tick
  pub mid : (tx : Transmitter) (full cts : Bool) (line : List Bool) (r : R) (L : List Received) (row best row' best' : ℕ) →
      r.phase < D → length line ≡ d → ltb (r.phase + 1) D ≡ true → Next cts row best row' best' →
      Motion x d D tx full line r L row best →
      Motion x d D tx full (held line (level tx)) (turn_r x (leaves line (level tx)) r true) L row' best'
  mid Resting false cts line r L row best row' best' h g e n o =
      let a = advance line true [] r L (suc o.idle) true e (idle_level line r L o.idle o.flow) in
      record {
        idle = a.0;
        flow = a.1;
        timing = idle_timing (frame_cycles x D) o.idle a.0 (length (held line true ++ [])) row best row' best'
            (nothing (held line true) (length_held line true ∙ g)) (next_row cts row best row' best' n) o.timing a.2;
      }
  mid Resting true cts line r L row best row' best' h g e n o =
      let a = advance line true [] r L (suc o.idle) true e (idle_level line r L o.idle o.flow) in
      let k = next_row cts row best row' best' n in
      let lt = ltb-true (r.phase + 1) D e in
      let old = o.timing in
      record { idle = a.0; flow = a.1; timing = omega arith }
  mid (Sending y f c) full cts line r L row best row' best' h g e n o =
      let M : ℕ = frame_ticks x in
      let l : Bool = level_at f c in
      let lt = ltb-true (r.phase + 1) D e in
      let rest : List Bool = pending D M (r.phase + 1) (Sending y f c) in
      let given : pending D M r.phase (Sending y f c) ≡ l ∷ rest = pend_mid D M r.phase y f c h lt in
      let a = advance line l rest r L o.idle true e (rw (sym given) o.flow) in
      record {
        idle = a.0;
        flow = a.1;
        timing = busy_timing (frame_cycles x D) (length (pending D M r.phase (Sending y f c))) (length rest) (extra (frame_cycles x D) full)
            row best row' best' (ap length given) (pend_some D M (r.phase + 1) y f c lt) (next_row cts row best row' best' n) o.timing;
      }
  mid (Breaking y c) full cts line r L row best row' best' h g e n o = absurd o.timing

  -- the sender begins, or rests: what it was before the tick
  abbrev Before : ℕ → Bool → ℕ → ℕ → ℕ → ℕ → ℕ → Type 0
  Before T true row best row' best' j = (suc row + T ≤ 2 * T) × (best < 2 * T)
  Before T false row best row' best' j = ((best' ≤ 2 * T + j) × (row' ≤ 2 * T + j)) ⊎ (d ≤ j)

  start_timing : (T left row best row' best' : ℕ) → left ≤ T → 0 < T → Next false row best row' best' → (suc row + T ≤ 2 * T) × (best < 2 * T) →
      (row' + (left + 0) ≤ 2 * T) × (best' < 2 * T)
  start_timing T left row best row' best' a b n o = omega arith

  wait_timing : (T row best row' best' : ℕ) → D ≤ T → Next true row best row' best' → (suc row + T ≤ 2 * T) × (best < 2 * T) →
      (row' + ((D - 0) + T) ≤ 2 * T) × (best' < 2 * T)
  wait_timing T row best row' best' a n o = omega arith

  begin_going : 0 < D → (tdr : Option ℕ) (cts : Bool) (q : List Bool) (log : List Received) (t : Option Received × Receiver) (U : Bool → List ℕ) (j row best row' best' : ℕ) →
      length q ≡ d → U false ≡ U (is_full tdr) ++ option_to_list tdr → Next cts row best row' best' →
      Flow x D (q ++ []) (after 0 log t) (map (sent_as x) (U (is_full tdr))) j → Before (frame_cycles x D) (is_full tdr) row best row' best' j →
      Going x d D (handed (taken x cts tdr) tdr) q (after 0 log t) U row' best'
  begin_going h (Some v) false q log t U j row best row' best' g u n f o =
      let f0 : ℕ = frame x v in
      let M : ℕ = frame_ticks x in
      let r : R = after 0 log t in
      let L : List Received = map (sent_as x) (U true) in
      let whole = flow_frame x D v q r L j h (rw (sym (append-nil q)) f) in
      let placed : Flow x D (q ++ pending D M 0 (Sending x f0 0)) r (L ++ (sent_as x v ∷ [])) 0 = rw (pend_start D M x f0 (some_ticks x)) whole in
      let logged : L ++ (sent_as x v ∷ []) ≡ map (sent_as x) (U false) = sym (ap (map (sent_as x)) u ∙ map_push (sent_as x) (U true) v) in
      record {
        phase_low = h;
        fits = (refl, (some_ticks x));
        line_size = g;
        motion = record {
          idle = 0;
          flow = rw (sym logged) placed;
          timing = start_timing (frame_cycles x D) (length (pending D M 0 (Sending x f0 0))) row best row' best'
              (pend_most D M 0 x f0 0 h (some_ticks x)) (frame_time x D h).0 n o;
        };
        queue = sym (append-nil (U false));
      }
  begin_going h (Some v) true q log t U j row best row' best' g u n f o =
      record {
        phase_low = h;
        fits = tt;
        line_size = g;
        motion = record { idle = j; flow = f; timing = wait_timing (frame_cycles x D) row best row' best' (frame_time x D h).1 n o };
        queue = u;
      }
  begin_going h None cts q log t U j row best row' best' g u n f o =
      record {
        phase_low = h;
        fits = tt;
        line_size = g;
        motion = record { idle = j; flow = f; timing = o };
        queue = u;
      }

  -- a cycle with a tick
  before_rest : (T i j n φ row best row' best' left : ℕ) (full : Bool) → φ < D → D ≤ φ + 1 → n ≡ d → (row' ≤ suc row) × (best' ≤ max best row') →
      Timing T d D φ left Resting full row best i → (j ≡ suc i) ⊎ (n ≤ j) → Before T full row best row' best' j
  before_rest T i j n φ row best row' best' left true h g e k o c = omega arith
  before_rest T i j n φ row best row' best' left false h g e k o c = idle_timing T i j n row best row' best' e k o c

  before_done : (T j left row best row' best' : ℕ) (full : Bool) → left ≡ 1 → (row' ≤ suc row) × (best' ≤ max best row') →
      (row + (left + extra T full) ≤ 2 * T) × (best < 2 * T) → Before T full row best row' best' j
  before_done T j left row best row' best' true e k o = omega arith
  before_done T j left row best row' best' false e k o = inl (omega arith)

  -- a frame under way, by whether its next count still belongs to it
  sending : (y : Format) (f c : ℕ) (tdr : Option ℕ) (cts : Bool) (line : List Bool) (r : R) (U : Bool → List ℕ) (row best row' best' : ℕ) →
      r.phase < D → Fits x (Sending y f c) → length line ≡ d → U false ≡ U (is_full tdr) ++ option_to_list tdr →
      ltb (r.phase + 1) D ≡ false → Next cts row best row' best' →
      Motion x d D (Sending y f c) (is_full tdr) line r (map (sent_as x) (U (is_full tdr))) row best →
      (z : Bool) → ltb (c + 1) (frame_ticks y) ≡ z →
      Going x d D (handed (cond z (false, Sending y f (c + 1)) (taken x cts tdr)) tdr) (held line (level_at f c)) (turn_r x (leaves line (level_at f c)) r false) U row' best'
  sending y f c tdr cts line r U row best row' best' h b g u e n o true z =
      let M : ℕ = frame_ticks x in
      let L : List Received = map (sent_as x) (U (is_full tdr)) in
      let lt : c + 1 < M = ltb-true (c + 1) M (ap (λ w. ltb (c + 1) (frame_ticks w)) (sym b.0) ∙ z) in
      let rest : List Bool = pending D M 0 (Sending y f (c + 1)) in
      let given : pending D M r.phase (Sending y f c) ≡ level_at f c ∷ rest = pend_next D M r.phase y f c h (ltb-false (r.phase + 1) D e) lt in
      let a = advance line (level_at f c) rest r L o.idle false e (rw (sym given) o.flow) in
      record {
        phase_low = omega arith;
        fits = (b.0, lt);
        line_size = length_held line (level_at f c) ∙ g;
        motion = record {
          idle = a.0;
          flow = a.1;
          timing = busy_timing (frame_cycles x D) (length (pending D M r.phase (Sending y f c))) (length rest) (extra (frame_cycles x D) (is_full tdr))
              row best row' best' (ap length given) (pend_some D M 0 y f (c + 1) (omega arith)) (next_row cts row best row' best' n) o.timing;
        };
        queue = u;
      }
  sending y f c tdr cts line r U row best row' best' h b g u e n o false z =
      let M : ℕ = frame_ticks x in
      let L : List Received = map (sent_as x) (U (is_full tdr)) in
      let last : M ≤ c + 1 = ltb-false (c + 1) M (ap (λ w. ltb (c + 1) (frame_ticks w)) (sym b.0) ∙ z) in
      let given : pending D M r.phase (Sending y f c) ≡ level_at f c ∷ [] = pend_last D M r.phase y f c h (ltb-false (r.phase + 1) D e) last in
      let a = advance line (level_at f c) [] r L o.idle false e (rw (sym given) o.flow) in
      begin_going (omega arith) tdr cts (held line (level_at f c)) r.log (heard x (leaves line (level_at f c)) r.rx) U a.0 row best row' best'
      (length_held line (level_at f c) ∙ g) u n a.1
      (before_done (frame_cycles x D) a.0 (length (pending D M r.phase (Sending y f c))) row best row' best' (is_full tdr)
      (ap length given) (next_row cts row best row' best' n) o.timing)

  pub tick : (tx : Transmitter) (tdr : Option ℕ) (cts : Bool) (line : List Bool) (r : R) (U : Bool → List ℕ) (row best row' best' : ℕ) →
      r.phase < D → Fits x tx → length line ≡ d → U false ≡ U (is_full tdr) ++ option_to_list tdr →
      ltb (r.phase + 1) D ≡ false → Next cts row best row' best' →
      Motion x d D tx (is_full tdr) line r (map (sent_as x) (U (is_full tdr))) row best →
      Going x d D (sent x false cts (record { tdr = tdr; transmitter = tx })) (held line (level tx)) (turn_r x (leaves line (level tx)) r false) U row' best'
  tick Resting tdr cts line r U row best row' best' h b g u e n o =
      let L : List Received = map (sent_as x) (U (is_full tdr)) in
      let s : length (held line true) ≡ d = length_held line true ∙ g in
      let a = advance line true [] r L (suc o.idle) false e (idle_level line r L o.idle o.flow) in
      begin_going (omega arith) tdr cts (held line true) r.log (heard x (leaves line true) r.rx) U a.0 row best row' best' s u n a.1
      (before_rest (frame_cycles x D) o.idle a.0 (length (held line true ++ [])) r.phase row best row' best' 0 (is_full tdr) h (ltb-false (r.phase + 1) D e)
      (nothing (held line true) s) (next_row cts row best row' best' n) o.timing a.2)
  tick (Sending y f c) tdr cts line r U row best row' best' h b g u e n o =
      sending y f c tdr cts line r U row best row' best' h b g u e n o (ltb (c + 1) (frame_ticks y)) refl
  tick (Breaking y c) tdr cts line r U row best row' best' h b g u e n o = absurd b
