-- Where a fault stands: what comes before it can go on to a script, and with the byte there it cannot.
use Rattle.std.proofs.Common.{◌≡◌, ℕ, suc, ◌≤◌, Bool, true, false, cond, eqb, List, [], ◌∷◌, ◌++◌, is_ok, Some, None, Ok, Err, Option, Result, sym, refl, ap, ◌∙◌, subst, arith}
use Rattle.std.proofs.lemmas.Bool.{cond-true, cond-false, ne_eqb}
use Rattle.std.proofs.lemmas.Bool.Decides.{nat_tests}
use Rattle.std.proofs.lemmas.Option.{none-some}
use Rattle.terms.specs.declared.channel_id.ChannelId.TheVariants.{One}
use Rattle.terms.specs.declared.modem_line.ModemLine.TheVariants.{Cts}
use Rattle.script_words.specs.declared.command.Command.{Command}
use Rattle.script_words.specs.declared.command.Placed.{Placed}
use Rattle.script_words.specs.declared.fault.Fault.{Fault}
use Rattle.script_words.specs.declared.position.Position.{Position}
use Rattle.script_words.specs.Format.{Spot, only, select_digit, hex_digit, channel_digit, line_letter, level_digit, Value, fits, Rest, begins, ends, next, first_line, Letter, R, W, C, L, S, letter, after, Step, misfits, goes, says, goes_on, step, at_place, misfit_at, at_end, placed, before, read}
use Rattle.script.proofs.Steps.{stepped}
use Rattle.script.specs.Laws.{place_from}
use Rattle.script.proofs.Spellings.{shows, Holds, shows_fits, PlainSpot, no_line_end}

-- whether bytes go on to the end of a script
may_end : Rest → Bool
may_end begins = true
may_end (ends cs) = false
may_end (next s k) = false

abbrev taken : Step → (Rest → Bool) → Bool → Bool
taken misfits f b = false
taken (goes r) f b = f r
taken (says cs) f b = b

pub accepts : Rest → List ℕ → Bool
accepts r [] = may_end r
accepts r (x ∷ xs) = taken (step r x) (λ r'. accepts r' xs) (accepts begins xs)

ok_before : (ps : List Placed) (z : Result (List Placed) Fault) → is_ok (before ps z) ≡ is_ok z
ok_before ps (Ok qs) = refl
ok_before ps (Err f) = refl

ok_end : (r : Rest) (l c : ℕ) → is_ok (at_end r l c) ≡ may_end r
unfolding may_end
ok_end begins l c = refl
ok_end (ends cs) l c = refl
ok_end (next s k) l c = refl

ok_step : (t : Step) (l c : ℕ) (xs : List ℕ) → ((r : Rest) (m n : ℕ) → is_ok (read r m n xs) ≡ accepts r xs) →
    is_ok (stepped l c xs t)
    ≡ taken t (λ r'. accepts r' xs) (accepts begins xs)
ok_step misfits l c xs ih = refl
ok_step (goes r) l c xs ih = ih r l (suc c)
ok_step (says cs) l c xs ih = ok_before (placed l cs) (read begins (suc l) 1 xs) ∙ ih begins (suc l) 1

pub accepts_read : (bs : List ℕ) (r : Rest) (l c : ℕ) → is_ok (read r l c bs) ≡ accepts r bs
unfolding read accepts
accepts_read [] r l c = ok_end r l c
accepts_read (x ∷ xs) r l c = ok_step (step r x) l c xs (accepts_read xs)

-- every rest can go on
sample : (s : Spot) → (v : Value s) × Holds s v
sample (only b) = (tt, tt)
sample select_digit = (0, omega arith)
sample (hex_digit positive) = (1, (omega arith, λ e. omega arith))
sample channel_digit = (One, tt)
sample line_letter = (Cts, tt)
sample level_digit = (true, tt)

complete : (r : Rest) → (ts : List ℕ) × (accepts r ts ≡ true)
unfolding accepts may_end
complete begins = ([], refl)
complete (ends cs) = (10 ∷ [], refl)
complete (next s k) =
    let v = sample s in
    let more = complete (k v.0) in
    (shows s v.0 ∷ more.0, ap (λ o. taken (goes_on o k) (λ r'. accepts r' more.0) (accepts begins more.0)) (shows_fits s v.0 v.1) ∙ more.1)

-- no place within a line has $0A
abbrev Plain : Rest → Type 0
Plain begins = Unit {0}
Plain (ends cs) = Unit {0}
Plain (next s k) = PlainSpot s × ((v : Value s) → Plain (k v))

plain : (k : Letter) → Plain (after k)
plain R = (λ e. omega arith, λ _. (tt, λ _. tt))
plain W = (λ e. omega arith, λ _. (tt, λ _. (λ e. omega arith, λ _. (tt, λ _. (tt, λ _. tt)))))
plain C = (λ e. omega arith, λ _. (tt, λ _. (tt, λ _. (tt, λ _. (tt, λ _. tt)))))
plain L = (λ e. omega arith, λ _. (tt, λ _. (λ e. omega arith, λ _. (tt, λ _. (λ e. omega arith, λ _. (tt, λ _. tt))))))
plain S = (λ e. omega arith, λ _. (tt, λ _. (tt, λ _. (λ e. omega arith, λ _. (tt, λ _. (tt, λ _. tt))))))

pub plain_first : Plain first_line
plain_first =
    (λ e. omega arith, λ _. (λ e. omega arith, λ _. (λ e. omega arith, λ _. (λ e. omega arith, λ _. (λ e. omega arith, λ _. (λ e. omega arith, λ _. (λ e. omega arith, λ _. (λ e. omega arith, λ _. tt))))))))

-- where a step leads
goes_on_lem : (s : Spot) (k : Value s → Rest) (x : ℕ) (r' : Rest) → Plain (next s k) → (o : Option (Value s)) → fits s x ≡ o → goes_on o k ≡ goes r' → Plain r' × (eqb x 10 ≡ false)
goes_on_lem s k x r' p None e h = cc
goes_on_lem s k x r' p (Some v) e h =
    let same : k v ≡ r' = cc in
    (subst Plain same (p.1 v), no_line_end s v x e p.0)

goes_letter : (x : ℕ) (r' : Rest) (o : Option Letter) → letter x ≡ o → goes_on o after ≡ goes r' → Plain r' × (eqb x 10 ≡ false)
goes_letter x r' None e h = cc
goes_letter x r' (Some k) e h =
    let same : after k ≡ r' = cc in
    (subst Plain same (plain k), ne_eqb x 10 (λ ten. none-some k (sym (ap letter ten) ∙ e)))

goes_plain : (r : Rest) (x : ℕ) (r' : Rest) → Plain r → step r x ≡ goes r' → Plain r' × (eqb x 10 ≡ false)
goes_plain begins x r' p h = goes_letter x r' (letter x) refl h
goes_plain (ends cs) x r' p h = grind (arith, nat_tests)
goes_plain (next s k) x r' p h = goes_on_lem s k x r' p (fits s x) refl h

says_end : (r : Rest) (x : ℕ) (cs : List Command) → step r x ≡ says cs → eqb x 10 ≡ true
says_end begins x cs h = grind (arith, nat_tests)
says_end (ends ds) x cs h = grind (arith, nat_tests)
says_end (next s k) x cs h = ended (fits s x) h
  where
    ended : (o : Option (Value s)) → goes_on o k ≡ says cs → eqb x 10 ≡ true
    ended None e = cc
    ended (Some v) e = cc

-- the first byte, or the end, at which a rest goes on no more
abbrev pub Halts : Rest → List ℕ → List ℕ → Type 0
Halts r good [] = accepts r good ≡ false
Halts r good (b ∷ bs) = (more : List ℕ) → accepts r (good ++ b ∷ more) ≡ false

pub record Stop (r : Rest) (l c : ℕ) (bs : List ℕ) (f : Fault) : Type 0 where
  pub good : List ℕ
  pub bad : List ℕ
  pub parts : bs ≡ good ++ bad
  pub place : place_from l c good ≡ f.position
  pub fault : f ≡ misfit_at f.position
  pub more : List ℕ
  pub opens : accepts r (good ++ more) ≡ true
  pub halts : Halts r good bad

stop_here : (r : Rest) (l c : ℕ) (bs : List ℕ) (f : Fault) → f ≡ misfit_at (at_place l c) → Halts r [] bs → Stop r l c bs f
stop_here r l c bs f e h =
    let position : at_place l c ≡ f.position = sym (ap (λ (g : Fault). g.position) e) in
    let done = complete r in
    record {
      good = [];
      bad = bs;
      parts = refl;
      place = position;
      fault = e ∙ ap misfit_at position;
      more = done.0;
      opens = done.1;
      halts = h;
    }

halts_more : (r r' : Rest) (x : ℕ) (good bad : List ℕ) → ((ys : List ℕ) → accepts r (x ∷ ys) ≡ accepts r' ys) → Halts r' good bad → Halts r (x ∷ good) bad
halts_more r r' x good [] e h = e good ∙ h
halts_more r r' x good (b ∷ bs) e h = λ more. e (good ++ b ∷ more) ∙ h more

stop_later : (r r' : Rest) (l c l' c' x : ℕ) (bs : List ℕ) (f : Fault) → ((ys : List ℕ) → accepts r (x ∷ ys) ≡ accepts r' ys) →
    ((ys : List ℕ) → place_from l c (x ∷ ys) ≡ place_from l' c' ys) → Stop r' l' c' bs f → Stop r l c (x ∷ bs) f
stop_later r r' l c l' c' x bs f same moved t = record {
  good = x ∷ t.good;
  bad = t.bad;
  parts = ap (λ ys. x ∷ ys) t.parts;
  place = moved t.good ∙ t.place;
  fault = t.fault;
  more = t.more;
  opens = same (t.good ++ t.more) ∙ t.opens;
  halts = halts_more r r' x t.good t.bad same t.halts;
}

end_fault : (r : Rest) (l c : ℕ) (f : Fault) → at_end r l c ≡ Err f → (f ≡ misfit_at (at_place l c)) × (may_end r ≡ false)
unfolding may_end
end_fault begins l c f e = cc
end_fault (ends cs) l c f e = ((cc), refl)
end_fault (next s k) l c f e = ((cc), refl)

before_fault : (ps : List Placed) (z : Result (List Placed) Fault) (f : Fault) → before ps z ≡ Err f → z ≡ Err f
before_fault ps (Ok qs) f e = cc
before_fault ps (Err g) f e = e

pub stop : (bs : List ℕ) (r : Rest) (l c : ℕ) (f : Fault) → Plain r → read r l c bs ≡ Err f → Stop r l c bs f
unfolding read accepts
stop [] r l c f p e = let h = end_fault r l c f e in stop_here r l c [] f h.0 h.1
stop (x ∷ xs) r l c f p e = go (λ r' m n q d. stop xs r' m n f q d) (step r x) refl e
  where
    go : ((r' : Rest) (m n : ℕ) → Plain r' → read r' m n xs ≡ Err f → Stop r' m n xs f) → (t : Step) → step r x ≡ t →
        stepped l c xs t ≡ Err f → Stop r l c (x ∷ xs) f
    go ih misfits h d =
        stop_here r l c (x ∷ xs) f (cc)
        (λ more. ap (λ t. taken t (λ r'. accepts r' more) (accepts begins more)) h)
    go ih (goes r') h d =
        let q = goes_plain r x r' p h in
        stop_later r r' l c l (suc c) x xs f
        (λ ys. ap (λ t. taken t (λ r''. accepts r'' ys) (accepts begins ys)) h)
        (λ ys. cond-false (eqb x 10) (place_from (suc l) 1 ys) (place_from l (suc c) ys) q.1)
        (ih r' l (suc c) q.0 d)
    go ih (says cs) h d =
        stop_later r begins l c (suc l) 1 x xs f
        (λ ys. ap (λ t. taken t (λ r''. accepts r'' ys) (accepts begins ys)) h)
        (λ ys. cond-true (eqb x 10) (place_from (suc l) 1 ys) (place_from l (suc c) ys) (says_end r x cs h))
        (ih begins (suc l) 1 tt (before_fault (placed l cs) (read begins (suc l) 1 xs) f d))

-- the line of a place is never below the line that it was counted from
place_line : (bs : List ℕ) (l c : ℕ) → l ≤ (place_from l c bs).line
place_line [] l c = omega arith
place_line (x ∷ xs) l c = by (eqb x 10) (place_line xs (suc l) 1) (place_line xs l (suc c))
  where
    by : (b : Bool) → suc l ≤ (place_from (suc l) 1 xs).line → l ≤ (place_from l (suc c) xs).line → l ≤ (cond b (place_from (suc l) 1 xs) (place_from l (suc c) xs)).line
    by true p q = omega (arith, p)
    by false p q = q

pub fault_line : (bs : List ℕ) (l c : ℕ) (f : Fault) → read begins l c bs ≡ Err f → l ≤ f.position.line
fault_line bs l c f e =
    let t = stop bs begins l c f tt e in
    let n : (place_from l c t.good).line ≡ f.position.line = ap (λ (p : Position). p.line) t.place in
    omega (arith, place_line t.good l c, n)
