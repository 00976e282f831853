-- Interrupt sources, as bits 6-0 of a byte in the order of ISR: TDRE, CTST, DCDT, DSRT, PAR, F/O/B, RDRF.
use Rattle.std.specs.Prelude.{ℕ, cond, bit_and, bit_or, bit_xor}
use Rattle.serial.specs.Frame.{bit}
use Rattle.channel.specs.declared.interrupts.Interrupts.{Interrupts}

-- the sources whose bit went from 0 to 1
abbrev pub risen : ℕ → ℕ → ℕ
risen before after = bit_and after (bit_xor before 0x7f)

-- a bit that went to 0 drops its request; one that rose raises it, if it is enabled and may
abbrev pub followed : ℕ → ℕ → ℕ → Interrupts → Interrupts
followed may before after i = record i { requests = bit_or (bit_and i.requests after) (bit_and (bit_and (risen before after) i.enabled) may) }

-- a request needs its source enabled
abbrev pub with_enabled : ℕ → Interrupts → Interrupts
with_enabled e i = record { enabled = e; requests = bit_and i.requests e }

-- a write to IER: bit 7 set enables, clear disables, the sources whose bits 6-0 are 1
abbrev pub ier_written : ℕ → Interrupts → Interrupts
ier_written b i = with_enabled (cond (bit b 7) (bit_or i.enabled (bit_and b 0x7f)) (bit_and i.enabled (bit_xor b 0x7f))) i

-- all requests dropped
abbrev pub dropped : Interrupts → Interrupts
dropped i = record i { requests = 0 }
