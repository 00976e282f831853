-- The receiver alone, over a list of levels: one level to a cycle, or one level to a tick.
-- D equal levels act as one tick at any phase, so a list that is stretched D times acts as a list of ticks.
use Rattle.std.proofs.Common.{◌≡◌, ℕ, zero, suc, ◌+◌, ◌-◌, ◌<◌, Bool, true, false, ltb, List, [], ◌∷◌, ◌++◌, replicate, Option, sym, refl, ap, ◌∙◌, append_assoc, append-nil, arith}
use lib.ListN.{replicate-append-replicate}
use Rattle.std.proofs.lemmas.Bool.{lt-ltb, le-ltb, ltb-true}
use Rattle.std.specs.List.{flat_map, fold}
use Rattle.std.proofs.lemmas.List.Sums.{fold-append}
use Rattle.std.specs.Option.{option_to_list}
use Rattle.serial.specs.declared.format.Format.{Format}
use Rattle.serial.specs.declared.receiver.Receiver.{Receiver}
use Rattle.serial.specs.declared.receiver.Receiver.TheVariants.{Hunting}
use Rattle.serial.specs.declared.receiver.Received.{Received}
use Rattle.serial.specs.Receiver.{heard}

-- the count of cycles, the receiver, and the frames that have ended
pub record R : Type 0 where
  pub phase : ℕ
  pub rx : Receiver
  pub log : List Received

-- a tick, in which the phase stays
abbrev pub after : ℕ → List Received → Option Received × Receiver → R
after φ log t = record { phase = φ; rx = t.1; log = log ++ option_to_list t.0 }

abbrev pub tick_r : Format → R → Bool → R
tick_r x r l = after r.phase r.log (heard x l r.rx)

abbrev pub tick_all : Format → List Bool → R → R
tick_all x ls r = fold (tick_r x) r ls

-- a cycle; the Bool says that the phase stays below the divisor
abbrev pub turn_r : Format → Bool → R → Bool → R
turn_r x l r true = record { phase = r.phase + 1; rx = r.rx; log = r.log }
turn_r x l r false = after 0 r.log (heard x l r.rx)

abbrev pub cycle_r : Format → ℕ → R → Bool → R
cycle_r x D r l = turn_r x l r (ltb (r.phase + 1) D)

abbrev pub run : Format → ℕ → List Bool → R → R
run x D ls r = fold (cycle_r x D) r ls

abbrev pub stretch : ℕ → List Bool → List Bool
stretch D ls = flat_map (replicate D) ls

abbrev pub at : ℕ → List Received → Receiver → R
at φ log rx = record { phase = φ; rx = rx; log = log }

-- what a cycle does, by whether it ticks
turn_phase : (x : Format) (D : ℕ) (l : Bool) (r : R) → 0 < D → (b : Bool) → ltb (r.phase + 1) D ≡ b → (turn_r x l r b).phase < D
turn_phase x D l r h true e = ltb-true (r.phase + 1) D e
turn_phase x D l r h false e = h

turn_high : (x : Format) (r : R) → r.rx ≡ Hunting → (b : Bool) → ((turn_r x true r b).rx ≡ Hunting) × ((turn_r x true r b).log ≡ r.log)
turn_high x r h true = (h, refl)
turn_high x r h false = rw h (refl, append-nil r.log)

turn_log : (x : Format) (l : Bool) (r : R) (b : Bool) → (more : List Received) × (r.log ++ more ≡ (turn_r x l r b).log)
turn_log x l r true = ([], append-nil r.log)
turn_log x l r false = (option_to_list (heard x l r.rx).0, refl)

module _ (x : Format) (D : ℕ) where
  -- levels that no tick meets
  run_between : (m φ : ℕ) (l : Bool) (rx : Receiver) (log : List Received) → φ + m < D →
      run x D (replicate m l) (at φ log rx) ≡ at (φ + m) log rx
  run_between zero φ l rx log h = ap (λ k. at k log rx) (omega arith)
  run_between (suc m) φ l rx log h =
      let t : ltb (φ + 1) D ≡ true = lt-ltb (φ + 1) D (omega arith) in
      let e : (φ + 1) + m ≡ φ + suc m = omega arith in
      let r : R = at φ log rx in
      ap (λ b. run x D (replicate m l) (turn_r x l r b)) t
      ∙ run_between m (φ + 1) l rx log (omega arith)
      ∙ ap (λ k. at k log rx) e

  -- D equal levels are one tick, at any phase
  run_tick : (l : Bool) (r : R) → r.phase < D → run x D (replicate D l) r ≡ tick_r x r l
  run_tick l r h =
      let φ : ℕ = r.phase in
      let a : ℕ = D - suc φ in
      let whole : a + suc φ ≡ D = omega arith in
      let cut_at : replicate D l ≡ replicate a l ++ (l ∷ replicate φ l) = sym (replicate-append-replicate a (suc φ) l ∙ ap (λ k. replicate k l) whole) in
      let mid : R = at (φ + a) r.log r.rx in
      let t : ltb ((φ + a) + 1) D ≡ false = le-ltb ((φ + a) + 1) D (omega arith) in
      let hit : cycle_r x D mid l ≡ after 0 r.log (heard x l r.rx) = ap (turn_r x l mid) t in
      let u : Option Received × Receiver = heard x l r.rx in
      let z : 0 + φ ≡ φ = omega arith in
      ap (λ ls. run x D ls r) cut_at ∙ fold-append (cycle_r x D) r (replicate a l) (l ∷ replicate φ l)
      ∙ ap (λ q. run x D (l ∷ replicate φ l) q) (run_between a φ l r.rx r.log (omega arith))
      ∙ ap (λ q. run x D (replicate φ l) q) hit
      ∙ run_between φ 0 l u.1 (r.log ++ option_to_list u.0) (omega arith)
      ∙ ap (λ k. after k r.log u) z

  -- a stretched list is a list of ticks
  pub run_stretch : (ls : List Bool) (r : R) → r.phase < D → run x D (stretch D ls) r ≡ tick_all x ls r
  run_stretch [] r h = refl
  run_stretch (l ∷ ls) r h =
      fold-append (cycle_r x D) r (replicate D l) (stretch D ls)
      ∙ ap (λ q. run x D (stretch D ls) q) (run_tick l r h)
      ∙ run_stretch ls (tick_r x r l) h

  -- the phase stays below the divisor
  pub run_phase : (ls : List Bool) (r : R) → r.phase < D → (run x D ls r).phase < D
  run_phase [] r h = h
  run_phase (l ∷ ls) r h = run_phase ls (cycle_r x D r l) (turn_phase x D l r (omega arith) (ltb (r.phase + 1) D) refl)

  -- high levels leave a hunting receiver as it is
  pub cycle_high : (r : R) → r.rx ≡ Hunting → ((cycle_r x D r true).rx ≡ Hunting) × ((cycle_r x D r true).log ≡ r.log)
  cycle_high r h = turn_high x r h (ltb (r.phase + 1) D)

  pub run_high : (i : ℕ) (r : R) → r.rx ≡ Hunting → ((run x D (replicate i true) r).rx ≡ Hunting) × ((run x D (replicate i true) r).log ≡ r.log)
  run_high zero r h = (h, refl)
  run_high (suc i) r h =
      let one = cycle_high r h in
      let more = run_high i (cycle_r x D r true) one.0 in
      (more.0, more.1 ∙ one.1)

  -- the log only grows
  pub run_log : (ls : List Bool) (r : R) → (more : List Received) × (r.log ++ more ≡ (run x D ls r).log)
  run_log [] r = ([], append-nil r.log)
  run_log (l ∷ ls) r =
      let one = turn_log x l r (ltb (r.phase + 1) D) in
      let more = run_log ls (cycle_r x D r l) in
      (one.0 ++ more.0, sym (append_assoc r.log one.0 more.0) ∙ ap (λ z. z ++ more.0) one.1 ∙ more.1)
