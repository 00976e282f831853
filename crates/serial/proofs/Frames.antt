-- The frame of a word, bit by bit.
use Rattle.std.proofs.Common.{◌≡◌, ℕ, zero, suc, ◌+◌, ◌-◌, ◌*◌, ◌/◌, ◌%◌, ◌^◌, ◌<◌, ◌≤◌, eqb, Some, None, Option, sym, refl, ap, ◌∙◌, subst, div-one, arith, pow_pos, pow-add, shr-shr}
use lib.Bits.{bit_or}
use lib.Count.{ones}
use lib.Arith.{digits_div, digits_mod, digits_lt}
use Rattle.std.proofs.lemmas.Nat.{shl_whole, one_shl}
use Rattle.serial.specs.declared.parity.Parity.{Parity}
use Rattle.serial.specs.declared.parity.Parity.TheVariants.{Odd, Even, Mark, Space}
use Rattle.serial.specs.declared.format.Format.{Format}
use Rattle.serial.specs.Parity.{parity_bit}
use Rattle.serial.specs.Format.{data_bits, parity_bits, stop_bits, stop_at, cut}
use Rattle.serial.specs.Frame.{bit, weight, check_bit, packed, frame, ParityLaw, CheckLaw, FrameLaw}
use Rattle.serial.proofs.Bits.{bit_low, weight_bit, or_above}
use Rattle.serial.proofs.Formats.{data_bounds, stop_bounds, parity_bounds, check_bit_low, cut_low}

-- in numbers: n data bits, p parity bits, s stop bits, the word w, the parity bit q
module _ (n p w q : ℕ) (w_low : w < 2 ^ n) (q_low : q < 2 ^ p) where
  -- the start bit and the word
  two_w : 2 * w < 2 ^ (1 + n)
  two_w = let e : 2 ^ (1 + n) ≡ 2 ^ 1 * 2 ^ n = pow-add 2 1 n in omega arith

  -- with the parity bit
  pub below_stops : 2 * w + q * 2 ^ (1 + n) < 2 ^ (1 + n + p)
  below_stops =
      let d = digits_lt q_low two_w in
      let e : 2 ^ (p + (1 + n)) ≡ 2 ^ p * 2 ^ (1 + n) = pow-add 2 p (1 + n) in
      let m : 2 ^ (1 + n + p) ≡ 2 ^ (p + (1 + n)) = ap (λ z. 2 ^ z) (omega arith) in
      omega arith

  -- with the stop bits
  pub below_end : (s m : ℕ) → m < 2 ^ s → (2 * w + q * 2 ^ (1 + n)) + m * 2 ^ (1 + n + p) < 2 ^ (1 + n + p + s)
  below_end s m h =
      let d = digits_lt h below_stops in
      let e : 2 ^ (s + (1 + n + p)) ≡ 2 ^ s * 2 ^ (1 + n + p) = pow-add 2 s (1 + n + p) in
      let t : 2 ^ (1 + n + p + s) ≡ 2 ^ (s + (1 + n + p)) = ap (λ z. 2 ^ z) (omega arith) in
      omega arith

  -- packed by shifts and masks
  pub by_masks : (s m : ℕ) → m < 2 ^ s → n ≤ 8 → p ≤ 1 → s ≤ 2 →
      bit_or (bit_or ((w * 2 ^ 1) % 2 ^ 16) ((q * 2 ^ (1 + n)) % 2 ^ 16)) ((m * 2 ^ (1 + n + p)) % 2 ^ 16)
      ≡ (2 * w + q * 2 ^ (1 + n)) + m * 2 ^ (1 + n + p)
  by_masks s m h n_most p_most s_most =
      let a : (w * 2 ^ 1) % 2 ^ 16 ≡ 2 * w = shl_whole w n 1 16 w_low (omega arith) ∙ omega arith in
      let b : (q * 2 ^ (1 + n)) % 2 ^ 16 ≡ q * 2 ^ (1 + n) = shl_whole q p (1 + n) 16 q_low (omega arith) in
      let c : (m * 2 ^ (1 + n + p)) % 2 ^ 16 ≡ m * 2 ^ (1 + n + p) = shl_whole m s (1 + n + p) 16 h (omega arith) in
      ap (λ z. bit_or (bit_or z ((q * 2 ^ (1 + n)) % 2 ^ 16)) ((m * 2 ^ (1 + n + p)) % 2 ^ 16)) a
      ∙ ap (λ z. bit_or (bit_or (2 * w) z) ((m * 2 ^ (1 + n + p)) % 2 ^ 16)) b
      ∙ ap (λ z. bit_or (bit_or (2 * w) (q * 2 ^ (1 + n))) z) c
      ∙ ap (λ z. bit_or z (m * 2 ^ (1 + n + p))) (or_above q (1 + n) (2 * w) two_w)
      ∙ or_above m (1 + n + p) (2 * w + q * 2 ^ (1 + n)) below_stops

  -- the parts again
  pub low_part : (m : ℕ) → ((2 * w + q * 2 ^ (1 + n)) + m * 2 ^ (1 + n + p)) % 2 ^ (1 + n + p) ≡ 2 * w + q * 2 ^ (1 + n)
  low_part m = ap (λ z. z % 2 ^ (1 + n + p)) (omega arith) ∙ digits_mod m below_stops

  pub high_part : (m : ℕ) → ((2 * w + q * 2 ^ (1 + n)) + m * 2 ^ (1 + n + p)) / 2 ^ (1 + n + p) ≡ m
  high_part m = ap (λ z. z / 2 ^ (1 + n + p)) (omega arith) ∙ digits_div m below_stops

  pub word_part : (2 * w + q * 2 ^ (1 + n)) % 2 ^ (1 + n) ≡ 2 * w
  word_part = ap (λ z. z % 2 ^ (1 + n)) (omega arith) ∙ digits_mod q two_w

  pub parity_part : (2 * w + q * 2 ^ (1 + n)) / 2 ^ (1 + n) ≡ q
  parity_part = ap (λ z. z / 2 ^ (1 + n)) (omega arith) ∙ digits_div q two_w

-- s ones
pub ones_low : (s : ℕ) → 2 ^ s - 1 < 2 ^ s
ones_low s = let h = pow_pos s in omega arith

ones_bit : (s j : ℕ) → 1 ≤ s → s ≤ 2 → j < s → (2 ^ s - 1) / 2 ^ j % 2 ≡ 1
ones_bit zero j a b h = absurd (omega arith)
ones_bit (suc zero) zero a b h = refl
ones_bit (suc zero) (suc j) a b h = absurd (omega arith)
ones_bit (suc (suc zero)) zero a b h = refl
ones_bit (suc (suc zero)) (suc zero) a b h = refl
ones_bit (suc (suc zero)) (suc (suc j)) a b h = absurd (omega arith)
ones_bit (suc (suc (suc s))) j a b h = absurd (omega arith)

double_bit : (w k : ℕ) → bit (2 * w) (1 + k) ≡ bit w k
double_bit w k =
    ap (λ z. eqb (z % 2) 1) (sym (shr-shr (2 * w) 1 k))
    ∙ ap (λ z. eqb (z / 2 ^ k % 2) 1) (omega arith)

-- the ones of a word with its parity bit
odd : (m : ℕ) → (m + weight (eqb (1 - m % 2) 1)) % 2 ≡ 1
odd m = let e = weight_bit (1 - m % 2) (omega arith) in omega arith

even : (m : ℕ) → (m + weight (eqb (m % 2) 1)) % 2 ≡ 0
even m = let e = weight_bit (m % 2) (omega arith) in omega arith

parity_law : (q : Parity) (w : ℕ) → ParityLaw q w (eqb (parity_bit q w % 2) 1)
parity_law Odd w = let e : (1 - ones w % 2) % 2 ≡ 1 - ones w % 2 = omega arith in rw e (odd (ones w))
parity_law Even w = let e : ones w % 2 % 2 ≡ ones w % 2 = omega arith in rw e (even (ones w))
parity_law Mark w = refl
parity_law Space w = refl

-- the parity bit lies above the word, where there is one
above_word : (p : Option Parity) (n w m : ℕ) → w < 2 ^ n →
    CheckLaw p w (bit ((2 * w + check_bit p w * 2 ^ (1 + n)) + m * 2 ^ (1 + n + parity_bits p)) (1 + n))
above_word None n w m h = tt
above_word (Some q) n w m h =
    let p : Option Parity = Some q in
    let f : ℕ = (2 * w + check_bit p w * 2 ^ (1 + n)) + m * 2 ^ (1 + n + 1) in
    let low = low_part n 1 w (check_bit p w) h (check_bit_low p w) m in
    let e : bit f (1 + n) ≡ eqb (check_bit p w % 2) 1 =
    sym (bit_low f (1 + n + 1) (1 + n) (omega arith))
    ∙ ap (λ z. bit z (1 + n)) low
    ∙ ap (λ z. eqb (z % 2) 1) (parity_part n 1 w (check_bit p w) h (check_bit_low p w)) in
    subst (ParityLaw q w) (sym e) (parity_law q w)

pub frame_law : (x : Format) (w : ℕ) → FrameLaw x w (frame x w)
frame_law x w =
    let n : ℕ = data_bits x.bits in
    let p : ℕ = parity_bits x.parity in
    let s : ℕ = stop_bits x.stops in
    let v : ℕ = cut x w in
    let q : ℕ = check_bit x.parity v in
    let m : ℕ = 2 ^ s - 1 in
    let f : ℕ = frame x w in
    let v_low = cut_low x w in
    let q_low = check_bit_low x.parity v in
    let low : f % 2 ^ (1 + n + p) ≡ 2 * v + q * 2 ^ (1 + n) = low_part n p v q v_low q_low m in
    let high : f / 2 ^ (1 + n + p) ≡ m = high_part n p v q v_low q_low m in
    let low_bit : (k : ℕ) → k < 1 + n → bit f k ≡ bit (2 * v) k = λ k h.
    sym (bit_low f (1 + n + p) k (omega arith)) ∙ ap (λ z. bit z k) low
    ∙ sym (bit_low (2 * v + q * 2 ^ (1 + n)) (1 + n) k h) ∙ ap (λ z. bit z k) (word_part n p v q v_low q_low) in
    let stop = stop_bounds x.stops in
    let start : 2 * v / 2 ^ 0 % 2 ≡ 0 = omega (arith, div-one (2 * v)) in
    record {
      start_low = low_bit 0 (omega arith) ∙ ap (λ z. eqb z 1) start;
      data_bits_law = λ k h. low_bit (1 + k) (omega arith) ∙ double_bit v k ∙ bit_low w n k h;
      parity_bit_law = above_word x.parity n v m v_low;
      stops_high = λ j h.
          let e : f / 2 ^ (stop_at x + j) % 2 ≡ 1 =
          ap (λ z. z % 2) (sym (shr-shr f (stop_at x) j) ∙ ap (λ z. z / 2 ^ j) high) ∙ ones_bit s j stop.0 stop.1 h in
          ap (λ z. eqb z 1) e;
      nothing_above = below_end n p v q v_low q_low s m (ones_low s);
    }

-- the frame by shifts and masks
pub frame_masks : (x : Format) (v : ℕ) → v < 2 ^ data_bits x.bits →
    bit_or (bit_or ((v * 2 ^ 1) % 2 ^ 16) ((check_bit x.parity v * 2 ^ (1 + data_bits x.bits)) % 2 ^ 16)) (((2 ^ stop_bits x.stops - 1) * 2 ^ stop_at x) % 2 ^ 16)
    ≡ packed x v
frame_masks x v h =
    by_masks (data_bits x.bits) (parity_bits x.parity) v (check_bit x.parity v) h (check_bit_low x.parity v) (stop_bits x.stops) (2 ^ stop_bits x.stops - 1)
    (ones_low (stop_bits x.stops)) (data_bounds x.bits).1 (parity_bounds x.parity) (stop_bounds x.stops).1

-- the same over the parts as the code has them: the word w, the parity bit q, and the counts of stop bits, data bits and bits before the stop bits
pub masked : (x : Format) (v w q s n k : ℕ) → v < 2 ^ data_bits x.bits → w ≡ v → q ≡ check_bit x.parity v → s ≡ stop_bits x.stops → n ≡ data_bits x.bits → k ≡ stop_at x →
    bit_or (bit_or ((w * 2) % 65536) ((q * 2 ^ (1 + n)) % 65536)) ((((1 * 2 ^ s) % 65536 - 1) * 2 ^ k) % 65536) ≡ packed x v
masked x v w q s n k low ew eq es en ek =
    let few : stop_bits x.stops < 16 = omega (arith, (stop_bounds x.stops).1) in
    let shifted : (1 * 2 ^ stop_bits x.stops) % 65536 ≡ 2 ^ stop_bits x.stops = one_shl (stop_bits x.stops) 16 few in
    rw (ew, eq, es, en, ek, shifted) (frame_masks x v low)
