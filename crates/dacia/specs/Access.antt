-- Selects and accesses: channel 1 has the selects 0 to 3, channel 2 the same four registers at 4 to 7.
use Rattle.std.specs.Prelude.{◌≡◌, ℕ, ◌+◌, ◌-◌, ◌*◌, ◌%◌, cond, Ok, Err, Result, MatchResult, ◌==◌, nat_lt}
use Rattle.terms.specs.declared.channel_id.ChannelId.{ChannelId}
use Rattle.terms.specs.declared.channel_id.ChannelId.TheVariants.{One, Two}
use Rattle.terms.specs.declared.register.Register.{Register}
use Rattle.terms.specs.declared.register.Register.TheVariants.{Interrupt, Control, Auxiliary, Data}
use Rattle.terms.specs.declared.refusal.Refusal.{Refusal}
use Rattle.terms.specs.declared.refusal.Refusal.TheVariants.{NoSuchSelect}
use Rattle.terms.specs.ChannelId.{channel_number}
use Rattle.terms.specs.Refusal.{refusal_number}
use Rattle.terms.specs.Register.{register_number}
use Rattle.dacia.specs.declared.access.Place.{Place}
use Rattle.dacia.specs.declared.access.Access.{Access}
use Rattle.dacia.specs.declared.access.ForReading.{ForReading}
use Rattle.dacia.specs.declared.access.ForWriting.{ForWriting}

-- the select of a channel's register
abbrev pub select_at : ChannelId → Register → ℕ
select_at ch g = 4 * (channel_number ch - 1) + register_number g

abbrev pub select_of : Place → ℕ
select_of p = select_at p.channel p.register

abbrev pub channel_at : ℕ → ChannelId
channel_at s = cond (nat_lt s 4) One Two

abbrev pub register_at : ℕ → Register
register_at k = cond (k == 0) Interrupt (cond (k == 1) Control (cond (k == 2) Auxiliary Data))

-- what a select names; above 7 it names nothing
abbrev pub place_at : ℕ → Result Place Refusal
place_at s = cond (nat_lt 7 s) (Err NoSuchSelect) (Ok (record { channel = channel_at s; register = register_at (s % 4) }))

-- r is what the select s names, and the select of that is s
abbrev pub Names : ℕ → Result Place Refusal → Type 0
Names s r = (r ≡ place_at s) × MatchResult r (λ p. select_of p ≡ s) (λ e. refusal_number e ≡ 1)

-- an access of any kind at that place, or the refusal
abbrev pub access_at : {K : Type 0} → Result Place Refusal → Result (Access K) Refusal
access_at (Ok p) = Ok (record { place = p; kind = record {} })
access_at (Err e) = Err e

abbrev pub access_opened : {K : Type 0} → ℕ → Result (Access K) Refusal
access_opened s = access_at (place_at s)

abbrev pub ReadAccess : Type 0
ReadAccess = Access ForReading

abbrev pub WriteAccess : Type 0
WriteAccess = Access ForWriting

abbrev pub read_opened : ℕ → Result ReadAccess Refusal
read_opened s = access_opened s

abbrev pub write_opened : ℕ → Result WriteAccess Refusal
write_opened s = access_opened s

-- the refusals of an access: 1 above select 7, 2 for reading at 2 and 6; 0 for none
abbrev pub opens_by : ℕ → ℕ
opens_by s = cond (nat_lt 7 s) 1 0

abbrev pub reads_by : Register → ℕ
reads_by g = cond (register_number g == 2) 2 0

abbrev pub read_by : ℕ → ℕ
read_by s = cond (nat_lt 7 s) 1 (cond (s % 4 == 2) 2 0)
