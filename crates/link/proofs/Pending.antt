-- The levels that the sender still has to give for the frame under way, one to a cycle. M is the number of ticks of a frame.
use Rattle.std.proofs.Common.{◌≡◌, ℕ, suc, ◌+◌, ◌-◌, ◌*◌, ◌<◌, ◌≤◌, Bool, List, [], ◌∷◌, ◌++◌, length, replicate, sym, refl, ap, ◌∙◌, mul-le-mul_right, suc-mul, zero-mul, arith, length-append}
use lib.ListN.{length-replicate}
use Rattle.std.proofs.lemmas.List.FromFn.{length-map-range_with_len}
use Rattle.serial.specs.declared.format.Format.{Format}
use Rattle.serial.specs.declared.transmitter.Transmitter.{Transmitter}
use Rattle.serial.specs.declared.transmitter.Transmitter.TheVariants.{Resting, Sending, Breaking}
use Rattle.link.proofs.Runs.{stretch}
use Rattle.link.proofs.WholeFrame.{level_at, ticks}

abbrev pub pending : ℕ → ℕ → ℕ → Transmitter → List Bool
pending D M φ Resting = []
pending D M φ (Sending y f c) = replicate (D - φ) (level_at f c) ++ stretch D (ticks f (c + 1) (M - suc c))
pending D M φ (Breaking y c) = []

length_stretch : (D : ℕ) (ls : List Bool) → length (stretch D ls) ≡ length ls * D
length_stretch D [] = sym (zero-mul D)
length_stretch D (l ∷ ls) = simp (length-append, length-replicate, length_stretch D ls, suc-mul) (omega arith)

module _ (D M φ : ℕ) (y : Format) (f c : ℕ) (low : φ < D) where
  pub pend_mid : φ + 1 < D → pending D M φ (Sending y f c) ≡ level_at f c ∷ pending D M (φ + 1) (Sending y f c)
  pend_mid h =
      let e : D - φ ≡ suc (D - (φ + 1)) = omega arith in
      ap (λ k. replicate k (level_at f c) ++ stretch D (ticks f (c + 1) (M - suc c))) e

  pub pend_next : D ≤ φ + 1 → c + 1 < M → pending D M φ (Sending y f c) ≡ level_at f c ∷ pending D M 0 (Sending y f (c + 1))
  pend_next h g =
      let one : D - φ ≡ 1 = omega arith in
      let m : ℕ = M - suc (c + 1) in
      let e : M - suc c ≡ suc m = omega arith in
      let z : D ≡ D - 0 = omega arith in
      ap (λ k. replicate k (level_at f c) ++ stretch D (ticks f (c + 1) (M - suc c))) one
      ∙ ap (λ k. level_at f c ∷ stretch D (ticks f (c + 1) k)) e
      ∙ ap (λ k. level_at f c ∷ (replicate k (level_at f (c + 1)) ++ stretch D (ticks f ((c + 1) + 1) m))) z

  pub pend_last : D ≤ φ + 1 → M ≤ c + 1 → pending D M φ (Sending y f c) ≡ level_at f c ∷ []
  pend_last h g =
      let one : D - φ ≡ 1 = omega arith in
      let e : M - suc c ≡ 0 = omega arith in
      ap (λ k. replicate k (level_at f c) ++ stretch D (ticks f (c + 1) (M - suc c))) one
      ∙ ap (λ k. level_at f c ∷ stretch D (ticks f (c + 1) k)) e

  -- how many there are
  length_pending : length (pending D M φ (Sending y f c)) ≡ (D - φ) + (M - suc c) * D
  length_pending = simp (length-append, length-replicate, length_stretch, length-map-range_with_len) refl

  pub pend_some : 1 ≤ length (pending D M φ (Sending y f c))
  pend_some = let e = length_pending in omega arith

  pub pend_most : c < M → length (pending D M φ (Sending y f c)) ≤ M * D
  pend_most h =
      let e = length_pending in
      let s = suc-mul (M - suc c) D in
      let m : suc (M - suc c) * D ≤ M * D = mul-le-mul_right D (omega arith) in
      omega arith

pub pend_start : (D M : ℕ) (y : Format) (f : ℕ) → 0 < M → pending D M 0 (Sending y f 0) ≡ stretch D (ticks f 0 M)
pend_start D M y f h =
    let z : D - 0 ≡ D = omega arith in
    let e : suc (M - 1) ≡ M = omega arith in
    ap (λ k. replicate k (level_at f 0) ++ stretch D (ticks f (0 + 1) (M - 1))) z
    ∙ ap (λ k. stretch D (ticks f 0 k)) e
