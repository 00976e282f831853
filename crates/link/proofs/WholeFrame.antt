-- One whole frame, tick by tick, from a hunting receiver: it ends hunting, with exactly one clean frame of the word.
use Rattle.std.proofs.Common.{◌≡◌, ℕ, zero, suc, ◌+◌, ◌-◌, ◌*◌, ◌/◌, ◌%◌, ◌^◌, ◌<◌, ◌≤◌, Bool, true, false, cond, not, ◌&&◌, eqb, ltb, List, [], ◌∷◌, ◌++◌, map, Some, None, Option, sym, refl, ap, ◌∙◌, append-nil, mod-lt, mod-eq_of_lt, mul_assoc, add-mul, arith, pow_pos, pow-add}
use native.Mathlib.Nat.{add-mul-mod_self_right}
use lib.Arith.{digits_div}
use Rattle.std.proofs.lemmas.Bool.{eq-eqb, ne_eqb, eqb-true, eqb-false, lt-ltb, le-ltb, cond-false, cond-true}
use Rattle.std.specs.List.{range_with_len}
use Rattle.std.proofs.lemmas.List.Sums.{fold-append}
use Rattle.serial.specs.declared.parity.Parity.{Parity}
use Rattle.serial.specs.declared.format.Format.{Format}
use Rattle.serial.specs.declared.receiver.Receiver.TheVariants.{Hunting}
use Rattle.serial.specs.declared.receiver.Received.{Received}
use Rattle.serial.specs.Format.{data_bits, parity_bits, stop_bits, stop_at, frame_bits, cut}
use Rattle.serial.specs.Frame.{bit, weight, check_bit, frame}
use Rattle.serial.specs.Receiver.{gathering, with_bit, word_of, parity_in, parity_of, received, ended, sampled, counted, heard}
use Rattle.serial.proofs.Bits.{low_more, or_above}
use Rattle.serial.proofs.Formats.{stop_bounds, check_bit_low, cut_low}
use Rattle.serial.proofs.Frames.{below_stops, low_part, frame_law}
use Rattle.link.proofs.Runs.{after, tick_r, tick_all, at}

-- the level of a frame at a count of ticks
abbrev pub level_at : ℕ → ℕ → Bool
level_at f c = bit f (c / 16)

-- the levels of m ticks from the count c on
abbrev pub ticks : ℕ → ℕ → ℕ → List Bool
ticks f c m = map (level_at f) (range_with_len c m)

ticks-++ : (f a b c : ℕ) → ticks f c (a + b) ≡ ticks f c a ++ ticks f (c + a) b
ticks-++ f zero b c = ap (λ k. ticks f c k) (omega arith) ∙ ap (λ k. ticks f k b) (omega arith)
ticks-++ f (suc a) b c =
    let e : suc a + b ≡ suc (a + b) = omega arith in
    ap (ticks f c) e
    ∙ ap (λ z. level_at f c ∷ z) (ticks-++ f a b (c + 1))
    ∙ ap (λ k. level_at f c ∷ (ticks f (c + 1) a ++ ticks f k b)) (omega arith)

-- the bits that were sampled up to the count c
abbrev low_at : ℕ → ℕ → ℕ
low_at f c = f % 2 ^ ((c + 8) / 16)

-- a sampled bit joins the low part of the frame
with_bit_lem : (f k : ℕ) → with_bit (f % 2 ^ k) (bit f k) k ≡ f % 2 ^ suc k
with_bit_lem f k = or_above (weight (bit f k)) k (f % 2 ^ k) (mod-lt f (pow_pos k)) ∙ low_more f k

module _ (x : Format) (f : ℕ) (start : bit f 0 ≡ false) where
  -- bit 0 is low, so no sampled bit sends the receiver back
  no_false_start : (c : ℕ) (b : Bool) → eqb c 8 ≡ b → (b && level_at f c) ≡ false
  no_false_start c false e = refl
  no_false_start c true e = let h : c / 16 ≡ 0 = omega (arith, eqb-true c 8 e) in ap (bit f) h ∙ start

  -- a count inside the frame
  counting : (c : ℕ) (b : Bool) → eqb ((c + 1) % 16) 8 ≡ b →
      cond b (sampled x (c + 1) (low_at f c) (level_at f (c + 1))) (gathering x (c + 1) (low_at f c)) ≡ gathering x (c + 1) (low_at f (c + 1))
  counting c false e =
      let off = eqb-false ((c + 1) % 16) 8 e in
      let same : (c + 8) / 16 ≡ ((c + 1) + 8) / 16 = omega (arith, off) in
      ap (λ z. gathering x (c + 1) (f % 2 ^ z)) same
  counting c true e =
      let k : ℕ = (c + 1) / 16 in
      let mid = eqb-true ((c + 1) % 16) 8 e in
      let now : (c + 8) / 16 ≡ k = omega arith in
      let next : ((c + 1) + 8) / 16 ≡ suc k = omega arith in
      let l : Bool = level_at f (c + 1) in
      let more : with_bit (low_at f c) l k ≡ low_at f (c + 1) =
      ap (λ z. with_bit (f % 2 ^ z) l k) now ∙ with_bit_lem f k ∙ ap (λ z. f % 2 ^ z) (sym next) in
      cond-false (eqb (c + 1) 8 && l) Hunting (gathering x (c + 1) (with_bit (low_at f c) l k)) (no_false_start (c + 1) (eqb (c + 1) 8) refl)
      ∙ ap (λ z. gathering x (c + 1) z) more

  gather_step : (c : ℕ) → c + 1 < 16 * stop_at x + 8 →
      heard x (level_at f (c + 1)) (gathering x c (low_at f c)) ≡ (None, gathering x (c + 1) (low_at f (c + 1)))
  gather_step c h =
      let l : Bool = level_at f (c + 1) in
      let b : ℕ = low_at f c in
      cond-true (ltb (c + 1) (16 * stop_at x + 8)) (None, counted x (c + 1) b l) (ended x (with_bit b l (stop_at x)) l) (lt-ltb (c + 1) (16 * stop_at x + 8) h)
      ∙ ap (λ z. (None, z)) (counting c (eqb ((c + 1) % 16) 8) refl)

  gather_run : (m c φ : ℕ) (log : List Received) → c + m < 16 * stop_at x + 8 →
      tick_all x (ticks f (c + 1) m) (at φ log (gathering x c (low_at f c))) ≡ at φ log (gathering x (c + m) (low_at f (c + m)))
  gather_run zero c φ log h = ap (λ z. at φ log (gathering x z (low_at f z))) (omega arith)
  gather_run (suc m) c φ log h =
      ap (λ t. tick_all x (ticks f ((c + 1) + 1) m) (after φ log t)) (gather_step c (omega arith))
      ∙ ap (λ z. tick_all x (ticks f ((c + 1) + 1) m) (at φ z (gathering x (c + 1) (low_at f (c + 1))))) (append-nil log)
      ∙ gather_run m (c + 1) φ log (omega arith)
      ∙ ap (λ z. at φ log (gathering x z (low_at f z))) (omega arith)

-- high ticks leave a hunting receiver as it is
high_ticks : (x : Format) (f m c φ : ℕ) (log : List Received) → ((j : ℕ) → c ≤ j → j < c + m → level_at f j ≡ true) →
    tick_all x (ticks f c m) (at φ log Hunting) ≡ at φ log Hunting
high_ticks x f zero c φ log h = refl
high_ticks x f (suc m) c φ log h =
    ap (λ l. tick_all x (ticks f (c + 1) m) (tick_r x (at φ log Hunting) l)) (h c (omega arith) (omega arith))
    ∙ ap (λ z. tick_all x (ticks f (c + 1) m) (at φ z Hunting)) (append-nil log)
    ∙ high_ticks x f m (c + 1) φ log (λ j a b. h j (omega arith) (omega arith))

-- what a clean frame of a cut word says
abbrev pub clean : Format → ℕ → Received
clean x w = record { word = w; parity = eqb (check_bit x.parity w) 1; wrong = false; stop = true; low = false }

-- the bits up to the first stop bit, in numbers: n data bits, the word w, p parity bits of value q, and a high stop bit
module _ (n w p q : ℕ) (w_low : w < 2 ^ n) where
  upper : (2 * w + q * 2 ^ (1 + n)) + 2 ^ (1 + n + p) ≡ (q + 2 ^ p) * 2 ^ (1 + n) + 2 * w
  upper =
      let e : 2 ^ (1 + n + p) ≡ 2 ^ p * 2 ^ (1 + n) = ap (λ z. 2 ^ z) (omega arith) ∙ pow-add 2 p (1 + n) in
      let m = add-mul q (2 ^ p) (2 ^ (1 + n)) in
      omega arith

  word_read : ((2 * w + q * 2 ^ (1 + n)) + 2 ^ (1 + n + p)) / 2 % 2 ^ n ≡ w
  word_read =
      let h : ℕ = q + 2 ^ p in
      let twice : h * 2 ^ (1 + n) ≡ h * 2 ^ n * 2 = ap (λ z. h * 2 ^ z) (omega arith) ∙ ap (λ z. h * z) (pow-add 2 n 1) ∙ sym (mul_assoc h (2 ^ n) 2) in
      let u = upper in
      let halved : ((2 * w + q * 2 ^ (1 + n)) + 2 ^ (1 + n + p)) / 2 ≡ w + h * 2 ^ n = omega arith in
      ap (λ z. z % 2 ^ n) halved ∙ add-mul-mod_self_right w h (2 ^ n) ∙ mod-eq_of_lt w_low

  above_word : ((2 * w + q * 2 ^ (1 + n)) + 2 ^ (1 + n + p)) / 2 ^ (1 + n) ≡ q + 2 ^ p
  above_word =
      let two : 2 ^ (1 + n) ≡ 2 ^ 1 * 2 ^ n = pow-add 2 1 n in
      let below : 2 * w < 2 ^ (1 + n) = omega arith in
      ap (λ z. z / 2 ^ (1 + n)) upper ∙ digits_div (q + 2 ^ p) below

-- the parity bit that was sampled is the word's own
parity_read : (p : Option Parity) (n w : ℕ) → w < 2 ^ n →
    parity_in p (((2 * w + check_bit p w * 2 ^ (1 + n)) + 2 ^ (1 + n + parity_bits p)) / 2 ^ (1 + n)) ≡ check_bit p w
parity_read None n w h = refl
parity_read (Some q) n w h =
    let c : ℕ = check_bit (Some q) w in
    let low : c < 2 = check_bit_low (Some q) w in
    ap (λ z. z % 2) (above_word n w 1 c h) ∙ (let e : (c + 2) % 2 ≡ c = omega arith in e)

-- the number of those bits
abbrev gathered_bits : Format → ℕ → ℕ
gathered_bits x w = (2 * w + check_bit x.parity w * 2 ^ (1 + data_bits x.bits)) + 2 ^ stop_at x

module _ (x : Format) (w : ℕ) (w_low : w < 2 ^ data_bits x.bits) where
  received_clean : received x (gathered_bits x w) true ≡ clean x w
  received_clean =
      let b : ℕ = gathered_bits x w in
      let word : word_of x b ≡ w = word_read (data_bits x.bits) w (parity_bits x.parity) (check_bit x.parity w) w_low in
      let parity : parity_of x b ≡ check_bit x.parity w = parity_read x.parity (data_bits x.bits) w w_low in
      let right : not (eqb (parity_of x b) (check_bit x.parity (word_of x b))) ≡ false =
      ap not (eq-eqb (parity_of x b) (check_bit x.parity (word_of x b)) (parity ∙ ap (check_bit x.parity) (sym word))) in
      let some : eqb b 0 ≡ false = ne_eqb b 0 (λ e. let h = pow_pos (stop_at x) in omega arith) in
      λ i. record { word = word i; parity = eqb (parity i) 1; wrong = right i; stop = true; low = some i }

-- the tick that samples the first stop bit
last_step : (x : Format) (v c : ℕ) → c ≡ 16 * stop_at x + 7 →
    heard x (level_at (frame x v) (c + 1)) (gathering x c (low_at (frame x v) c)) ≡ (Some (clean x (cut x v)), Hunting)
last_step x v c h =
    let f : ℕ = frame x v in
    let w : ℕ = cut x v in
    let n : ℕ = data_bits x.bits in
    let p : ℕ = parity_bits x.parity in
    let q : ℕ = check_bit x.parity w in
    let k : ℕ = stop_at x in
    let l : Bool = level_at f (c + 1) in
    let b : ℕ = low_at f c in
    let m : ℕ = 2 ^ stop_bits x.stops - 1 in
    let law = frame_law x v in
    let place : (c + 1) / 16 ≡ k + 0 = omega arith in
    let high : l ≡ true = ap (bit f) place ∙ law.stops_high 0 (omega (arith, (stop_bounds x.stops).0)) in
    let low : b ≡ 2 * w + q * 2 ^ (1 + n) = ap (λ z. f % 2 ^ z) (omega arith) ∙ low_part n p w q (cut_low x v) (check_bit_low x.parity w) m in
    let whole : with_bit b true k ≡ gathered_bits x w =
    ap (λ z. with_bit z true k) low
    ∙ or_above 1 k (2 * w + q * 2 ^ (1 + n)) (below_stops n p w q (cut_low x v) (check_bit_low x.parity w))
    ∙ (let e : (2 * w + q * 2 ^ (1 + n)) + 1 * 2 ^ k ≡ (2 * w + q * 2 ^ (1 + n)) + 2 ^ k = omega arith in e) in
    cond-false (ltb (c + 1) (16 * k + 8)) (None, counted x (c + 1) b l) (ended x (with_bit b l k) l) (le-ltb (c + 1) (16 * k + 8) (omega arith))
    ∙ ap (λ z. ended x (with_bit b z k) z) high
    ∙ ap (λ z. ended x z true) whole
    ∙ ap (λ r. (Some r, Hunting)) (received_clean x w (cut_low x v))

pub whole_frame : (x : Format) (v φ : ℕ) (log : List Received) →
    tick_all x (ticks (frame x v) 0 (16 * frame_bits x)) (at φ log Hunting) ≡ at φ (log ++ (clean x (cut x v) ∷ [])) Hunting
whole_frame x v φ log =
    let f : ℕ = frame x v in
    let law = frame_law x v in
    let end : List Received = log ++ (clean x (cut x v) ∷ []) in
    let a : ℕ = 16 * stop_at x + 7 in
    let b : ℕ = 16 * stop_bits x.stops - 9 in
    let s_low = (stop_bounds x.stops).0 in
    let parts : 16 * frame_bits x ≡ suc (a + suc b) = omega arith in
    let one : (0 + 1) + a ≡ a + 1 = omega arith in
    let nought : 0 + a ≡ a = omega arith in
    let zeroed : at φ (log ++ []) (gathering x 0 0) ≡ at φ log (gathering x 0 (low_at f 0)) =
    ap (λ z. at φ z (gathering x 0 0)) (append-nil log) ∙ ap (λ z. at φ log (gathering x 0 z)) (omega arith) in
    ap (λ m. tick_all x (ticks f 0 m) (at φ log Hunting)) parts
    ∙ ap (λ l. tick_all x (ticks f (0 + 1) (a + suc b)) (tick_r x (at φ log Hunting) l)) law.start_low
    ∙ ap (λ r. tick_all x (ticks f (0 + 1) (a + suc b)) r) zeroed
    ∙ ap (λ ls. tick_all x ls (at φ log (gathering x 0 (low_at f 0)))) (ticks-++ f a (suc b) (0 + 1))
    ∙ fold-append (tick_r x) (at φ log (gathering x 0 (low_at f 0))) (ticks f (0 + 1) a) (ticks f ((0 + 1) + a) (suc b))
    ∙ ap (λ r. tick_all x (ticks f ((0 + 1) + a) (suc b)) r) (gather_run x f law.start_low a 0 φ log (omega arith))
    ∙ ap (λ c. tick_all x (ticks f c (suc b)) (at φ log (gathering x (0 + a) (low_at f (0 + a))))) one
    ∙ ap (λ c. tick_all x (ticks f (a + 1) (suc b)) (at φ log (gathering x c (low_at f c)))) nought
    ∙ ap (λ t. tick_all x (ticks f ((a + 1) + 1) b) (after φ log t)) (last_step x v a refl)
    ∙ high_ticks x f b ((a + 1) + 1) φ end (λ j lo hi.
    let m : ℕ = j / 16 - stop_at x in
    let e : j / 16 ≡ stop_at x + m = omega arith in
    ap (bit f) e ∙ law.stops_high m (omega arith))
