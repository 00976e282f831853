-- Bits of numbers.
use Rattle.std.proofs.Common.{◌≡◌, ℕ, zero, suc, ◌+◌, ◌-◌, ◌*◌, ◌/◌, ◌%◌, ◌^◌, ◌<◌, eqb, refl, ap, ◌∙◌, mod-lt, arith}
use lib.Bits.{bit_or}
use lib.Pow.{mod-mod-pow, mod-pow-add}
use Rattle.std.proofs.lemmas.Nat.{field_of, or_comm, or_shifted}
use Rattle.serial.specs.Frame.{bit, weight}

-- a bit below m is a bit of the number's low part
pub bit_low : (f m k : ℕ) → k < m → bit (f % 2 ^ m) k ≡ bit f k
bit_low f m k h =
    let j : ℕ = m - suc k in
    let e : m ≡ (j + 1) + k = omega arith in
    ap (λ z. eqb (f % 2 ^ z / 2 ^ k % 2) 1) e
    ∙ ap (λ z. eqb (z % 2) 1) (field_of f (j + 1) k)
    ∙ ap (λ z. eqb z 1) (mod-mod-pow (f / 2 ^ k) j 1)

pub weight_bit : (b : ℕ) → b < 2 → weight (eqb b 1) ≡ b
weight_bit zero h = refl
weight_bit (suc zero) h = refl
weight_bit (suc (suc b)) h = absurd (omega arith)

-- the weight of a bit
pub weight_of : (f k : ℕ) → weight (bit f k) ≡ f / 2 ^ k % 2
weight_of f k = weight_bit (f / 2 ^ k % 2) (mod-lt (f / 2 ^ k) (omega arith))

-- the low part with one bit more
pub low_more : (f k : ℕ) → f % 2 ^ k + weight (bit f k) * 2 ^ k ≡ f % 2 ^ suc k
low_more f k =
    let b : ℕ = f / 2 ^ k % 2 in
    let e : f % 2 ^ (1 + k) ≡ b * 2 ^ k + f % 2 ^ k = mod-pow-add f 1 k in
    let w : weight (bit f k) * 2 ^ k ≡ b * 2 ^ k = ap (λ z. z * 2 ^ k) (weight_of f k) in
    let s : f % 2 ^ (1 + k) ≡ f % 2 ^ suc k = ap (λ z. f % 2 ^ z) (omega arith) in
    omega arith

-- a number put above another by a shift and an or
pub or_above : (a k b : ℕ) → b < 2 ^ k → bit_or b (a * 2 ^ k) ≡ b + a * 2 ^ k
or_above a k b h = or_comm b (a * 2 ^ k) ∙ or_shifted a k b h ∙ omega arith
