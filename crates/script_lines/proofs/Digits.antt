-- Lines that go on by two digits.
use Rattle.std.proofs.Common.{◌≡◌, ℕ, suc, ◌+◌, ◌*◌, false, [], ◌∷◌, codes, Ok, Err, Result, sym, refl, ap, ◌∙◌}
use Rattle.std.specs.Prelude.{◌==◌}
use Rattle.script_words.specs.declared.command.Command.TheVariants.{Cycles, SetUp}
use Rattle.script_words.specs.declared.fault.Fault.{Fault}
use Rattle.script_words.specs.declared.word.Word.{Word}
use Rattle.script_words.specs.Format.{Rest, ends, next, word, hex_byte, hex_digit}
use Rattle.script_words.specs.Word.{and_then, spot_at, hex_byte_at, line_at}

pub line_hex_byte : (k : ℕ → Rest) (w : Word) (i : ℕ) (r : Result ℕ Fault) → r ≡ hex_byte_at w i → line_at (hex_byte k) w i ≡ and_then r (λ b. line_at (k b) w (suc (suc i)))
line_hex_byte k w i r e = go (spot_at (hex_digit false) w i) (spot_at (hex_digit false) w (suc i)) ∙ ap (λ z. and_then z (λ b. line_at (k b) w (suc (suc i)))) (sym e)
  where
    go : (h l : Result ℕ Fault) →
        and_then h (λ a. and_then l (λ b. line_at (k (16 * a + b)) w (suc (suc i))))
        ≡ and_then (and_then h (λ a. and_then l (λ b. Ok (16 * a + b)))) (λ b. line_at (k b) w (suc (suc i)))
    go (Ok a) (Ok b) = refl
    go (Ok a) (Err f) = refl
    go (Err f) l = refl

-- what follows the first two digits of a count, and each byte of a set-up
abbrev pub after_count : ℕ → Rest
after_count h = next (hex_digit false) (λ t. next (hex_digit (16 * h + t == 0)) (λ d. ends (Cycles (16 * (16 * h + t) + d) ∷ [])))

abbrev pub after_fr : ℕ → ℕ → Rest
after_fr cr fr = ends (SetUp cr fr ∷ [])

abbrev pub after_cr : ℕ → Rest
after_cr cr = word (codes " ") (hex_byte (after_fr cr))
