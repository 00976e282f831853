-- Separation, by one induction over the calls for either channel.
use Rattle.std.proofs.Common.{◌≡◌, ℕ, ◌%◌, Bool, true, false, cond, ◌||◌, ltb, List, [], ◌∷◌, Ok, Err, Result, sym, refl, ap, ◌∙◌}
use Rattle.std.proofs.lemmas.Bool.{true≢false}
use Rattle.terms.specs.declared.channel_id.ChannelId.{ChannelId}
use Rattle.terms.specs.declared.channel_id.ChannelId.TheVariants.{One, Two}
use Rattle.terms.specs.declared.refusal.Refusal.{Refusal}
use Rattle.terms.specs.declared.refusal.Refusal.TheVariants.{NoSuchSelect}
use Rattle.terms.specs.Channels.{value_of}
use Rattle.channel.specs.declared.channel.Channel.{Channel}
use Rattle.channel.specs.declared.channel.ChannelAnswer.{ChannelAnswer}
use Rattle.channel.specs.Channel.{txd_of, irq_of, after_reset, modem_changed}
use Rattle.channel.specs.Calls.{read_answer, after_read, write_answer, after_write, cycled}
use Rattle.dacia.specs.declared.access.Place.{Place}
use Rattle.dacia.specs.declared.chip.Chip.{Chip}
use Rattle.dacia.specs.declared.chip.Inputs.{Inputs}
use Rattle.dacia.specs.Access.{channel_at, register_at, access_at, ReadAccess, WriteAccess}
use Rattle.dacia.specs.Chip.{channel_of, with_channel, answer_of, chip_reset, read_of, after_read_of, write_of, after_write_of, chip_cycled}
use Rattle.dacia.specs.Separation.{Call, reset, read, write, modem, cycle, step, note, reports, read_shown, write_shown, answer, shown, same, concerns, own_inputs, own, struck, seen, Separated}

-- a change of the other channel
changed_other : (ch e : ChannelId) (x : Channel) (c : Chip) → same ch e ≡ false → channel_of ch (with_channel e x c) ≡ channel_of ch c
changed_other One Two x c h = refl
changed_other Two One x c h = refl
changed_other One One x c h = absurd (true≢false h)
changed_other Two Two x c h = absurd (true≢false h)

-- the channel that is the same
same_channel : (ch e : ChannelId) (c d : Chip) → same ch e ≡ true → channel_of ch c ≡ channel_of ch d → channel_of e c ≡ channel_of e d
same_channel One One c d h a = a
same_channel Two Two c d h a = a
same_channel One Two c d h a = absurd (true≢false (sym h))
same_channel Two One c d h a = absurd (true≢false (sym h))

-- a reset and a cycle, channel by channel
reset_channel : (ch : ChannelId) (c : Chip) → channel_of ch (chip_reset c) ≡ after_reset (channel_of ch c)
reset_channel One c = refl
reset_channel Two c = refl

abbrev rxd : ChannelId → Inputs → Bool
rxd ch i = value_of ch i.rxd

cycle_channel : (ch : ChannelId) (i : Inputs) (c : Chip) →
    ◌≡◌ {A = ChannelAnswer × Channel} (answer_of ch (chip_cycled i c).0, channel_of ch (chip_cycled i c).1) (cycled (rxd ch i) i.marks (channel_of ch c))
cycle_channel One i c = refl
cycle_channel Two i c = refl

cycle_own : (ch : ChannelId) (i : Inputs) (x : Channel) →
    cycled (rxd ch i) i.marks x ≡ cycled (rxd ch (own_inputs ch i)) i.marks x
cycle_own One i x = refl
cycle_own Two i x = refl

-- what a call that is left makes of a channel, and answers, depends on that channel alone
pub record Alike (ch : ChannelId) (k l : Call) (c d : Chip) : Type 0 where
  pub answers : answer ch k c ≡ answer ch l d
  pub leaves : channel_of ch (step k c) ≡ channel_of ch (step l d)

-- a change of a channel by a function of that channel
moved : (ch e : ChannelId) (f : Channel → Channel) (c d : Chip) → same ch e ≡ true → channel_of ch c ≡ channel_of ch d →
    channel_of ch (with_channel e (f (channel_of e c)) c) ≡ channel_of ch (with_channel e (f (channel_of e d)) d)
moved One One f c d h a = ap f a
moved Two Two f c d h a = ap f a
moved One Two f c d h a = absurd (true≢false (sym h))
moved Two One f c d h a = absurd (true≢false (sym h))

abbrev place : ℕ → Place
place s = record { channel = channel_at s; register = register_at (s % 4) }

-- what a select names, by whether it is above 7
abbrev place_by : Bool → ℕ → Result Place Refusal
place_by high s = cond high (Err NoSuchSelect) (Ok (place s))

-- calls that are left
module _ (ch : ChannelId) (c d : Chip) (agree : channel_of ch c ≡ channel_of ch d) where
  read_alike : (s : ℕ) (high : Bool) → (high || same ch (channel_at s)) ≡ true → let r : Result ReadAccess Refusal = access_at (place_by high s) in
      (read_shown (read_of r c) ≡ read_shown (read_of r d)) × (channel_of ch (after_read_of r c) ≡ channel_of ch (after_read_of r d))
  read_alike s true h = (refl, agree)
  read_alike s false h =
      let e = channel_at s in
      let g = (place s).register in
      (ap (λ x. read_shown (read_answer g x)) (same_channel ch e c d h agree), moved ch e (after_read g) c d h agree)

  write_alike : (s b : ℕ) (high : Bool) → (high || same ch (channel_at s)) ≡ true → let r : Result WriteAccess Refusal = access_at (place_by high s) in
      (write_shown (write_of r c) ≡ write_shown (write_of r d)) × (channel_of ch (after_write_of r b c) ≡ channel_of ch (after_write_of r b d))
  write_alike s b true h = (refl, agree)
  write_alike s b false h =
      let e = channel_at s in
      let g = (place s).register in
      (ap (λ x. note (write_answer g x)) (same_channel ch e c d h agree), moved ch e (after_write g b) c d h agree)

  alike : (k : Call) → concerns ch k ≡ true → Alike ch k (own ch k) c d
  unfolding step answer concerns own
  alike reset h = record { answers = refl; leaves = reset_channel ch c ∙ ap after_reset agree ∙ sym (reset_channel ch d) }
  alike (read s) h = let a = read_alike s (ltb 7 s) h in record { answers = a.0; leaves = a.1 }
  alike (write s b) h = let a = write_alike s b (ltb 7 s) h in record { answers = a.0; leaves = a.1 }
  alike (modem e line l) h = record { answers = refl; leaves = moved ch e (modem_changed line l) c d h agree }
  alike (cycle i) h =
      let whole = cycle_channel ch i c ∙ ap (cycled (rxd ch i) i.marks) agree ∙ cycle_own ch i (channel_of ch d) ∙ sym (cycle_channel ch (own_inputs ch i) d) in
      record { answers = ap (λ a. reports a.0.report) whole; leaves = ap (λ a. a.1) whole }

-- calls that are struck out leave the channel as it was
read_apart : (ch : ChannelId) (s : ℕ) (c : Chip) (high : Bool) → (high || same ch (channel_at s)) ≡ false →
    channel_of ch (after_read_of (access_at (place_by high s)) c) ≡ channel_of ch c
read_apart ch s c true h = absurd (true≢false h)
read_apart ch s c false h = changed_other ch (channel_at s) (after_read (place s).register (channel_of (channel_at s) c)) c h

write_apart : (ch : ChannelId) (s b : ℕ) (c : Chip) (high : Bool) → (high || same ch (channel_at s)) ≡ false →
    channel_of ch (after_write_of (access_at (place_by high s)) b c) ≡ channel_of ch c
write_apart ch s b c true h = absurd (true≢false h)
write_apart ch s b c false h = changed_other ch (channel_at s) (after_write (place s).register b (channel_of (channel_at s) c)) c h

apart : (ch : ChannelId) (k : Call) (c : Chip) → concerns ch k ≡ false → channel_of ch (step k c) ≡ channel_of ch c
unfolding step concerns
apart ch reset c h = absurd (true≢false h)
apart ch (read s) c h = read_apart ch s c (ltb 7 s) h
apart ch (write s b) c h = write_apart ch s b c (ltb 7 s) h
apart ch (modem e line l) c h = changed_other ch e (modem_changed line l (channel_of e c)) c h
apart ch (cycle i) c h = absurd (true≢false h)

-- a call that is left is left again
own_concerns : (ch : ChannelId) (k : Call) → concerns ch (own ch k) ≡ concerns ch k
unfolding concerns own
own_concerns ch reset = refl
own_concerns ch (read s) = refl
own_concerns ch (write s b) = refl
own_concerns ch (modem e line l) = refl
own_concerns ch (cycle i) = refl

same_shown : (ch : ChannelId) (k l : Call) (c d : Chip) → Alike ch k l c d → shown ch k c ≡ shown ch l d
same_shown ch k l c d a = λ i. record { answered = a.answers i; txd = txd_of (a.leaves i); irq = irq_of (a.leaves i) }

-- a list of calls shows of a channel what the same list shows with the other channel's part struck out
abbrev Agreeing : ChannelId → List Call → Type 0
Agreeing ch ks = (c d : Chip) → channel_of ch c ≡ channel_of ch d → seen ch ks c ≡ seen ch (struck ch ks) d

-- one call more, by whether it is left
agreeing_more : (ch : ChannelId) (k : Call) (ks : List Call) → Agreeing ch ks → (c d : Chip) → channel_of ch c ≡ channel_of ch d → (left : Bool) → concerns ch k ≡ left →
    cond left (shown ch k c ∷ seen ch ks (step k c)) (seen ch ks (step k c)) ≡ seen ch (cond left (own ch k ∷ struck ch ks) (struck ch ks)) d
unfolding seen
agreeing_more ch k ks rest c d a true h =
    let s = alike ch c d a k h in
    let left : concerns ch (own ch k) ≡ true = own_concerns ch k ∙ h in
    ap (λ z. z ∷ seen ch ks (step k c)) (same_shown ch k (own ch k) c d s)
    ∙ ap (λ zs. shown ch (own ch k) d ∷ zs) (rest (step k c) (step (own ch k) d) s.leaves)
    ∙ ap (λ b. let rest = seen ch (struck ch ks) (step (own ch k) d) in cond b (shown ch (own ch k) d ∷ rest) rest) (sym left)
agreeing_more ch k ks rest c d a false h = rest (step k c) d (apart ch k c h ∙ a)

agreeing : (ch : ChannelId) (ks : List Call) → Agreeing ch ks
unfolding seen struck
agreeing ch [] c d a = refl
agreeing ch (k ∷ ks) c d a = agreeing_more ch k ks (agreeing ch ks) c d a (concerns ch k) refl

pub separated : (c : Chip) → Separated c
separated c ch xs ys h = agreeing ch xs c c refl ∙ ap (λ ks. seen ch ks c) h ∙ sym (agreeing ch ys c c refl)
