-- The bits of a byte that is put together from eight.
use Rattle.std.proofs.Common.{◌≡◌, ◌/◌, ◌%◌, ◌≤◌, Bool, true, false, eqb, refl, ap, ◌∙◌, arith}
use Rattle.serial.specs.Frame.{bit, weight}
use Rattle.channel.specs.Bits.{byte_of}

weight_low : (b : Bool) → weight b ≤ 1
weight_low true = omega arith
weight_low false = omega arith

weight_back : (b : Bool) → eqb (weight b) 1 ≡ b
weight_back true = refl
weight_back false = refl

module _ (b7 b6 b5 b4 b3 b2 b1 b0 : Bool) where
  pub bit_7 : bit (byte_of b7 b6 b5 b4 b3 b2 b1 b0) 7 ≡ b7
  bit_7 =
      let e : byte_of b7 b6 b5 b4 b3 b2 b1 b0 / 128 % 2 ≡ weight b7 =
      omega (arith, weight_low b7, weight_low b6, weight_low b5, weight_low b4, weight_low b3, weight_low b2, weight_low b1, weight_low b0) in
      ap (λ z. eqb z 1) e ∙ weight_back b7

  pub bit_2 : bit (byte_of b7 b6 b5 b4 b3 b2 b1 b0) 2 ≡ b2
  bit_2 =
      let e : byte_of b7 b6 b5 b4 b3 b2 b1 b0 / 4 % 2 ≡ weight b2 = omega (arith, weight_low b2, weight_low b1, weight_low b0) in
      ap (λ z. eqb z 1) e ∙ weight_back b2

  pub bit_0 : bit (byte_of b7 b6 b5 b4 b3 b2 b1 b0) 0 ≡ b0
  bit_0 =
      let e : byte_of b7 b6 b5 b4 b3 b2 b1 b0 / 1 % 2 ≡ weight b0 = omega (arith, weight_low b0) in
      ap (λ z. eqb z 1) e ∙ weight_back b0
