-- Lines by the values that stand in them: what is written is read, and what is read was written.
use Rattle.std.proofs.Common.{◌≡◌, ℕ, suc, ◌<◌, ◌≤◌, Bool, true, false, cond, eqb, ◌⊎◌, List, [], ◌∷◌, ◌++◌, Some, None, Ok, Err, Option, Result, sym, refl, ap, ◌∙◌, inl, inr, ⊎_elim, arith}
use Rattle.std.proofs.lemmas.Bool.{cond-true, eqb-true, eq-eqb, ne_eqb}
use Rattle.std.proofs.lemmas.Bool.Decides.{nat_tests}
use Rattle.terms.specs.declared.channel_id.ChannelId.TheVariants.{One, Two}
use Rattle.terms.specs.declared.modem_line.ModemLine.TheVariants.{Cts, Dcd, Dsr}
use Rattle.script_words.specs.declared.command.Command.{Command}
use Rattle.script_words.specs.declared.command.Placed.{Placed}
use Rattle.script_words.specs.declared.fault.Fault.{Fault}
use Rattle.script_words.specs.Format.{Spot, only, select_digit, hex_digit, channel_digit, line_letter, level_digit, Value, digit_value, within, fits, Rest, begins, ends, next, misfits, says, goes_on, at_place, misfit_at, placed, before, read}
use Rattle.script.proofs.Steps.{stepped}
use Rattle.script.specs.Writing.{digit, channel_byte, modem_byte, level_byte}

-- the byte that is written for a value, and the values that can be written
abbrev pub shows : (s : Spot) → Value s → ℕ
shows (only b) v = b
shows select_digit v = digit v
shows (hex_digit positive) v = digit v
shows channel_digit v = channel_byte v
shows line_letter v = modem_byte v
shows level_digit v = level_byte v

abbrev pub Holds : (s : Spot) → Value s → Type 0
Holds (only b) v = Unit {0}
Holds select_digit v = v < 8
Holds (hex_digit positive) v = (v < 16) × (positive ≡ true → 0 < v)
Holds channel_digit v = Unit {0}
Holds line_letter v = Unit {0}
Holds level_digit v = Unit {0}

-- digits
digit_read : (v : ℕ) → v < 16 → digit_value (digit v) ≡ Some v
digit_read v h = grind (arith, nat_tests)

digit_back : (x v : ℕ) → digit_value x ≡ Some v → (x ≡ digit v) × (v < 16)
digit_back x v e = (grind (arith, nat_tests), grind (arith, nat_tests))

within_some : (least most : ℕ) (o : Option ℕ) (v : ℕ) → within least most o ≡ Some v → (o ≡ Some v) × (least ≤ v) × (v ≤ most)
within_some least most None v e = cc
within_some least most (Some u) v e = (grind (arith, nat_tests), grind (arith, nat_tests), grind (arith, nat_tests))

within_at : (least most v : ℕ) → least ≤ v → v ≤ most → within least most (Some v) ≡ Some v
within_at least most v low high = grind (arith, nat_tests)

least_of : (positive : Bool) (v : ℕ) → cond positive 1 0 ≤ v → positive ≡ true → 0 < v
least_of true v h e = h
least_of false v h e = cc

of_least : (positive : Bool) (v : ℕ) → (positive ≡ true → 0 < v) → cond positive 1 0 ≤ v
of_least true v h = h refl
of_least false v h = omega arith

-- what fits a spot is what is written there
pub fits_back : (s : Spot) (x : ℕ) (v : Value s) → fits s x ≡ Some v → (x ≡ shows s v) × Holds s v
fits_back (only b) x v e = (grind (arith, nat_tests), tt)
fits_back select_digit x v e =
    let w = within_some 0 7 (digit_value x) v e in
    ((digit_back x v w.0).0, omega (arith, w.2))
fits_back (hex_digit positive) x v e =
    let w = within_some (cond positive 1 0) 15 (digit_value x) v e in
    ((digit_back x v w.0).0, ((digit_back x v w.0).1, least_of positive v w.1))
fits_back channel_digit x One e = (grind (arith, nat_tests), tt)
fits_back channel_digit x Two e = (grind (arith, nat_tests), tt)
fits_back line_letter x Cts e = (grind (arith, nat_tests), tt)
fits_back line_letter x Dcd e = (grind (arith, nat_tests), tt)
fits_back line_letter x Dsr e = (grind (arith, nat_tests), tt)
fits_back level_digit x true e = (grind (arith, nat_tests), tt)
fits_back level_digit x false e = (grind (arith, nat_tests), tt)

pub shows_fits : (s : Spot) (v : Value s) → Holds s v → fits s (shows s v) ≡ Some v
shows_fits (only b) v h = cond-true (eqb b b) (Some v) None (eq-eqb b b refl)
shows_fits select_digit v h = ap (within 0 7) (digit_read v (omega arith)) ∙ within_at 0 7 v (omega arith) (omega arith)
shows_fits (hex_digit positive) v h =
    ap (within (cond positive 1 0) 15) (digit_read v h.0) ∙ within_at (cond positive 1 0) 15 v (of_least positive v h.1) (omega (arith, h.0))
shows_fits channel_digit One h = refl
shows_fits channel_digit Two h = refl
shows_fits line_letter Cts h = refl
shows_fits line_letter Dcd h = refl
shows_fits line_letter Dsr h = refl
shows_fits level_digit true h = refl
shows_fits level_digit false h = refl

-- no such byte is $0A
abbrev pub PlainSpot : Spot → Type 0
PlainSpot (only b) = b ≡ 10 → ⊥
PlainSpot select_digit = Unit {0}
PlainSpot (hex_digit positive) = Unit {0}
PlainSpot channel_digit = Unit {0}
PlainSpot line_letter = Unit {0}
PlainSpot level_digit = Unit {0}

pub no_line_end : (s : Spot) (v : Value s) (x : ℕ) → fits s x ≡ Some v → PlainSpot s → eqb x 10 ≡ false
no_line_end s v x e plain = ne_eqb x 10 (λ ten. never s v x e plain ten)
  where
    never : (s : Spot) (v : Value s) (x : ℕ) → fits s x ≡ Some v → PlainSpot s → x ≡ 10 → ⊥
    never (only b) v x e plain ten = plain (sym (fits_back (only b) x v e).0 ∙ ten)
    never select_digit v x e plain ten = grind (arith, nat_tests)
    never (hex_digit positive) v x e plain ten = grind (arith, nat_tests)
    never channel_digit v x e plain ten = grind (arith, nat_tests)
    never line_letter v x e plain ten = grind (arith, nat_tests)
    never level_digit v x e plain ten = grind (arith, nat_tests)

-- a line that goes on by the bytes ts to its end, and says cs
abbrev pub Spelt : Rest → List ℕ → List Command → Type 0
Spelt begins ts cs = ⊥
Spelt (ends ds) ts cs = (ts ≡ 10 ∷ []) × (ds ≡ cs)
Spelt (next s k) ts cs = (v : Value s) × (us : List ℕ) × Holds s v × (ts ≡ shows s v ∷ us) × Spelt (k v) us cs

-- it is read so
at_spot : (s : Spot) (k : Value s → Rest) (v : Value s) (l c : ℕ) (bs : List ℕ) (o : Option (Value s)) → o ≡ Some v →
    stepped l c bs (goes_on o k) ≡ read (k v) l (suc c) bs
at_spot s k v l c bs o e =
    ap (λ z. stepped l c bs (goes_on z k)) e

pub spelt_read : (r : Rest) (ts : List ℕ) (cs : List Command) (l c : ℕ) (bs : List ℕ) → Spelt r ts cs → read r l c (ts ++ bs) ≡ before (placed l cs) (read begins (suc l) 1 bs)
unfolding read
spelt_read begins ts cs l c bs h = absurd h
spelt_read (ends ds) ts cs l c bs h =
    ap (λ us. read (ends ds) l c (us ++ bs)) h.0 ∙ ap (λ es. before (placed l es) (read begins (suc l) 1 bs)) h.1
spelt_read (next s k) ts cs l c bs h =
    ap (λ us. read (next s k) l c (us ++ bs)) h.3
    ∙ at_spot s k h.0 l c (h.1 ++ bs) (fits s (shows s h.0)) (shows_fits s h.0 h.2)
    ∙ spelt_read (k h.0) h.1 cs l (suc c) bs h.4

-- what is read so far was written
pub record Line (r : Rest) (l : ℕ) (bs : List ℕ) (ps : List Placed) : Type 0 where
  pub text : List ℕ
  pub rest : List ℕ
  pub said : List Command
  pub more : List Placed
  pub spelt : Spelt r text said
  pub parts : bs ≡ text ++ rest
  pub all : ps ≡ placed l said ++ more
  pub reads : read begins (suc l) 1 rest ≡ Ok more

ends_line : (ds : List Command) (l x : ℕ) (bs : List ℕ) (ps : List Placed) (z : Result (List Placed) Fault) → read begins (suc l) 1 bs ≡ z → x ≡ 10 → before (placed l ds) z ≡ Ok ps → Line (ends ds) l (x ∷ bs) ps
ends_line ds l x bs ps (Err f) h ten e = cc
ends_line ds l x bs ps (Ok qs) h ten e = record {
  text = 10 ∷ [];
  rest = bs;
  said = ds;
  more = qs;
  spelt = (refl, refl);
  parts = ap (λ y. y ∷ bs) ten;
  all = cc;
  reads = h;
}

ends_known : (ds : List Command) (l c x : ℕ) (bs : List ℕ) (ps : List Placed) (b : Bool) → eqb x 10 ≡ b →
    stepped l c bs (cond b (says ds) misfits) ≡ Ok ps → Line (ends ds) l (x ∷ bs) ps
ends_known ds l c x bs ps true h e = ends_line ds l x bs ps (read begins (suc l) 1 bs) refl (eqb-true x 10 h) e
ends_known ds l c x bs ps false h e = cc

next_known : (s : Spot) (k : Value s → Rest) (l c x : ℕ) (bs : List ℕ) (ps : List Placed) →
    ((v : Value s) → read (k v) l (suc c) bs ≡ Ok ps → Line (k v) l bs ps) → (o : Option (Value s)) → fits s x ≡ o →
    stepped l c bs (goes_on o k) ≡ Ok ps → Line (next s k) l (x ∷ bs) ps
next_known s k l c x bs ps ih None h e = cc
next_known s k l c x bs ps ih (Some v) h e =
    let t = ih v e in
    let f = fits_back s x v h in
    record {
      text = shows s v ∷ t.text;
      rest = t.rest;
      said = t.said;
      more = t.more;
      spelt = (v, t.text, f.1, refl, t.spelt);
      parts = ap (λ y. y ∷ bs) f.0 ∙ ap (λ ys. shows s v ∷ ys) t.parts;
      all = t.all;
      reads = t.reads;
    }

-- a rest that is within a line
abbrev pub Inside : Rest → Type 0
Inside begins = ⊥
Inside (ends ds) = Unit {0}
Inside (next s k) = (v : Value s) → Inside (k v)

pub read_line : (r : Rest) (l c : ℕ) (bs : List ℕ) (ps : List Placed) → Inside r → read r l c bs ≡ Ok ps → Line r l bs ps
unfolding read
read_line begins l c bs ps i e = absurd i
read_line (ends ds) l c [] ps i e = cc
read_line (ends ds) l c (x ∷ bs) ps i e = ends_known ds l c x bs ps (eqb x 10) refl e
read_line (next s k) l c [] ps i e = cc
read_line (next s k) l c (x ∷ bs) ps i e = next_known s k l c x bs ps (λ v d. read_line (k v) l (suc c) bs ps (i v) d) (fits s x) refl e

-- a fault in another line comes after a whole line
abbrev pub Later : Rest → ℕ → List ℕ → Fault → Type 0
Later r l bs f = (f.position.line ≡ l) ⊎ ((ts : List ℕ) × (rest : List ℕ) × (cs : List Command) × Spelt r ts cs × (bs ≡ ts ++ rest))

here : (l c : ℕ) (f : Fault) → ◌≡◌ {A = Result (List Placed) Fault} (Err (misfit_at (at_place l c))) (Err f) → f.position.line ≡ l
here l c f e =
    let same : misfit_at (at_place l c) ≡ f = cc in
    sym (ap (λ (g : Fault). g.position.line) same)

ends_later : (ds : List Command) (l c x : ℕ) (bs : List ℕ) (f : Fault) (b : Bool) → eqb x 10 ≡ b →
    stepped l c bs (cond b (says ds) misfits) ≡ Err f → Later (ends ds) l (x ∷ bs) f
ends_later ds l c x bs f true h e = inr (10 ∷ [], bs, ds, (refl, refl), ap (λ y. y ∷ bs) (eqb-true x 10 h))
ends_later ds l c x bs f false h e = inl (here l c f e)

next_later : (s : Spot) (k : Value s → Rest) (l c x : ℕ) (bs : List ℕ) (f : Fault) → ((v : Value s) → read (k v) l (suc c) bs ≡ Err f → Later (k v) l bs f) →
    (o : Option (Value s)) → fits s x ≡ o →
    stepped l c bs (goes_on o k) ≡ Err f → Later (next s k) l (x ∷ bs) f
next_later s k l c x bs f ih None h e = inl (here l c f e)
next_later s k l c x bs f ih (Some v) h e =
    let b = fits_back s x v h in
    ⊎_elim inl (λ t. inr (shows s v ∷ t.0, t.1, t.2, (v, t.0, b.1, refl, t.3), ap (λ y. y ∷ bs) b.0 ∙ ap (λ ys. shows s v ∷ ys) t.4)) (ih v e)

pub read_later : (r : Rest) (l c : ℕ) (bs : List ℕ) (f : Fault) → Inside r → read r l c bs ≡ Err f → Later r l bs f
unfolding read
read_later begins l c bs f i e = absurd i
read_later (ends ds) l c [] f i e = inl (here l c f e)
read_later (ends ds) l c (x ∷ bs) f i e = ends_later ds l c x bs f (eqb x 10) refl e
read_later (next s k) l c [] f i e = inl (here l c f e)
read_later (next s k) l c (x ∷ bs) f i e = next_later s k l c x bs f (λ v d. read_later (k v) l (suc c) bs f (i v) d) (fits s x) refl e
