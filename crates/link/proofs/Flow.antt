-- What is on its way to the receiver: levels that end it hunting with a known log, and idle levels behind them.
use Rattle.std.proofs.Common.{◌≡◌, ℕ, zero, suc, ◌+◌, ◌*◌, ◌<◌, ◌≤◌, Bool, true, ◌⊎◌, List, [], ◌∷◌, ◌++◌, length, replicate, sym, refl, ap, ◌∙◌, inl, inr, append_assoc, append-nil, arith}
use lib.ListN.{length-replicate, replicate-append-replicate}
use Rattle.std.proofs.lemmas.List.Sums.{fold-append}
use Rattle.serial.specs.declared.format.Format.{Format}
use Rattle.serial.specs.declared.receiver.Receiver.TheVariants.{Hunting}
use Rattle.serial.specs.declared.receiver.Received.{Received}
use Rattle.serial.specs.Format.{frame_bits, cut}
use Rattle.serial.specs.Frame.{frame}
use Rattle.link.proofs.Runs.{R, tick_all, at, cycle_r, run, stretch, run_stretch, run_phase, run_high, cycle_high}
use Rattle.link.proofs.WholeFrame.{clean, ticks, whole_frame}

pub record Flow (x : Format) (D : ℕ) (ls : List Bool) (r : R) (L : List Received) (idle : ℕ) : Type 0 where
  pub body : List Bool
  pub split : ls ≡ body ++ replicate idle true
  pub hunt : (run x D body r).rx ≡ Hunting
  pub log : (run x D body r).log ≡ L

module _ (x : Format) (D : ℕ) where
  -- one idle level more
  pub flow_idle : (ls : List Bool) (r : R) (L : List Received) (i : ℕ) → Flow x D ls r L i → Flow x D (ls ++ (true ∷ [])) r L (suc i)
  flow_idle ls r L i f =
      let e : i + 1 ≡ suc i = omega arith in
      let more : replicate i true ++ (true ∷ []) ≡ replicate (suc i) true =
      replicate-append-replicate i 1 true ∙ ap (λ k. replicate k true) e in
      record {
        body = f.body;
        split = ap (λ z. z ++ (true ∷ [])) f.split ∙ append_assoc f.body (replicate i true) (true ∷ []) ∙ ap (λ z. f.body ++ z) more;
        hunt = f.hunt;
        log = f.log;
      }

  -- the first level is taken
  step_body : (a : Bool) (ls : List Bool) (r : R) (L : List Received) (body : List Bool) (i : ℕ) → a ∷ ls ≡ body ++ replicate i true →
      (run x D body r).rx ≡ Hunting → (run x D body r).log ≡ L →
      (j : ℕ) × Flow x D ls (cycle_r x D r a) L j × ((j ≡ i) ⊎ (length ls ≤ j))
  step_body a ls r L [] zero e h g = absurd (let z : ◌≡◌ {A = ℕ} 0 1 = cc in omega arith)
  step_body a ls r L [] (suc i) e h g =
      let first : a ≡ true = cc in
      let others : ls ≡ replicate i true = cc in
      let kept = cycle_high x D r h in (
        i,
        record {
          body = [];
          split = others;
          hunt = ap (λ l. (cycle_r x D r l).rx) first ∙ kept.0;
          log = ap (λ l. (cycle_r x D r l).log) first ∙ kept.1 ∙ g;
        },
        inr (let n : length ls ≡ i = ap length others ∙ length-replicate i true in omega arith),
      )
  step_body a ls r L (b ∷ body) i e h g =
      let first : b ≡ a = cc in
      let others : ls ≡ body ++ replicate i true = cc in (
        i,
        record {
          body = body;
          split = others;
          hunt = ap (λ l. (run x D body (cycle_r x D r l)).rx) (sym first) ∙ h;
          log = ap (λ l. (run x D body (cycle_r x D r l)).log) (sym first) ∙ g;
        },
        inl refl,
      )

  pub flow_step : (a : Bool) (ls : List Bool) (r : R) (L : List Received) (i : ℕ) → Flow x D (a ∷ ls) r L i →
      (j : ℕ) × Flow x D ls (cycle_r x D r a) L j × ((j ≡ i) ⊎ (length ls ≤ j))
  flow_step a ls r L i f = step_body a ls r L f.body i f.split f.hunt f.log

  -- the whole of it ends hunting
  pub flow_all : (ls : List Bool) (r : R) (L : List Received) (i : ℕ) → Flow x D ls r L i →
      ((run x D ls r).rx ≡ Hunting) × ((run x D ls r).log ≡ L)
  flow_all ls r L i f =
      let e : run x D ls r ≡ run x D (replicate i true) (run x D f.body r) =
      ap (λ z. run x D z r) f.split ∙ fold-append (cycle_r x D) r f.body (replicate i true) in
      let high = run_high x D i (run x D f.body r) f.hunt in
      (ap (λ q. q.rx) e ∙ high.0, ap (λ q. q.log) e ∙ high.1 ∙ f.log)

  -- a whole frame behind it
  pub flow_frame : (v : ℕ) (ls : List Bool) (r : R) (L : List Received) (i : ℕ) → r.phase < D → Flow x D ls r L i →
      Flow x D (ls ++ stretch D (ticks (frame x v) 0 (16 * frame_bits x))) r (L ++ (clean x (cut x v) ∷ [])) 0
  flow_frame v ls r L i h f =
      let ts : List Bool = ticks (frame x v) 0 (16 * frame_bits x) in
      let one : Received = clean x (cut x v) in
      let q : R = run x D ls r in
      let before = flow_all ls r L i f in
      let end : run x D (ls ++ stretch D ts) r ≡ at q.phase (L ++ (one ∷ [])) Hunting =
      fold-append (cycle_r x D) r ls (stretch D ts)
      ∙ run_stretch x D ts q (run_phase x D ls r h)
      ∙ ap (λ z. tick_all x ts (at q.phase q.log z)) before.0
      ∙ whole_frame x v q.phase q.log
      ∙ ap (λ z. at q.phase (z ++ (one ∷ [])) Hunting) before.1 in
      record {
        body = ls ++ stretch D ts;
        split = sym (append-nil (ls ++ stretch D ts));
        hunt = ap (λ z. z.rx) end;
        log = ap (λ z. z.log) end;
      }
