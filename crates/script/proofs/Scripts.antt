-- Whole scripts: what is written is read, and what is read was written.
use Rattle.std.proofs.Common.{◌≡◌, ℕ, zero, suc, ◌+◌, ◌*◌, ◌/◌, ◌%◌, ◌<◌, ◌≤◌, true, eqb, ◌⊎◌, List, [], ◌∷◌, ◌++◌, length, Some, None, Ok, Err, Option, sym, refl, ap, ◌∙◌, subst, inl, inr, ⊎_elim, arith, length-append}
use Rattle.std.proofs.lemmas.Bool.{eqb-true}
use Rattle.std.proofs.lemmas.Bool.Decides.{nat_tests}
use Rattle.std.specs.List.{flat_map}
use Rattle.script_words.specs.declared.command.Command.{Command}
use Rattle.script_words.specs.declared.command.Command.TheVariants.{Read, Write, Cycles, Modem, SetUp}
use Rattle.script_words.specs.declared.command.Placed.{Placed}
use Rattle.script_words.specs.declared.fault.Fault.{Fault}
use Rattle.script_words.specs.Format.{begins, ends, word, first_word, first_line, Rest, hex_byte, Letter, R, W, C, L, S, letter, after, goes_on, placed, before, read}
use Rattle.script_lines.proofs.Digits.{after_count, after_cr, after_fr}
use Rattle.script.proofs.Steps.{stepped}
use Rattle.script.specs.Writing.{digit, channel_byte, modem_byte, level_byte, line_end, hex, written, written_script, Sayable, AllSayable, at_lines}
use Rattle.script.proofs.Lines.{before_none}
use Rattle.script.proofs.Spellings.{Spelt, spelt_read, Line, Inside, read_line, read_later}

-- the letter of a command, and the text after it
abbrev letter_byte : Letter → ℕ
letter_byte R = 82
letter_byte W = 87
letter_byte C = 67
letter_byte L = 76
letter_byte S = 83

-- a line that is spelt is a command's
pub record Says (k : Letter) (ts : List ℕ) (cs : List Command) : Type 0 where
  pub command : Command
  pub sayable : Sayable command
  pub one : cs ≡ command ∷ []
  pub text : letter_byte k ∷ ts ≡ written command

twice : (h l : ℕ) → l < 16 → (more : List ℕ) → digit h ∷ digit l ∷ more ≡ hex (16 * h + l) more
twice h l b more =
    let high : h ≡ (16 * h + l) / 16 = omega arith in
    let low : l ≡ (16 * h + l) % 16 = omega arith in
    ap (λ x. digit x ∷ digit l ∷ more) high ∙ ap (λ x. digit ((16 * h + l) / 16) ∷ digit x ∷ more) low

-- a byte of two digits that is spelt
spelt_hex : (k : ℕ → Rest) (b : ℕ) (ts : List ℕ) (cs : List Command) → b < 256 → Spelt (k b) ts cs → Spelt (hex_byte k) (hex b ts) cs
spelt_hex k b ts cs h p =
    let whole : b ≡ 16 * (b / 16) + b % 16 = omega arith in
    (b / 16, _, (omega arith, λ e. cc), refl, (b % 16, _, (omega arith, λ e. cc), refl, subst (λ x. Spelt (k x) ts cs) whole p))

hex_spelt : (k : ℕ → Rest) (ts : List ℕ) (cs : List Command) → Spelt (hex_byte k) ts cs → (b : ℕ) × (us : List ℕ) × (b < 256) × (ts ≡ hex b us) × Spelt (k b) us cs
hex_spelt k ts cs p =
    let q = p.4 in
    (16 * p.0 + q.0, q.1, omega (arith, p.2.0, q.2.0), p.3 ∙ ap (λ us. digit p.0 ∷ us) q.3 ∙ twice p.0 q.0 q.2.0 q.1, q.4)

spelt_says : (k : Letter) (ts : List ℕ) (cs : List Command) → Spelt (after k) ts cs → Says k ts cs
spelt_says R ts cs p =
    let q = p.4 in
    let r = q.4 in
    record {
      command = Read q.0;
      sayable = q.2;
      one = sym r.1;
      text = ap (λ z. 82 ∷ z) (p.3 ∙ ap (λ z. 32 ∷ z) (q.3 ∙ ap (λ z. digit q.0 ∷ z) r.0));
    }
spelt_says W ts cs p =
    let q = p.4 in
    let r = q.4 in
    let b = hex_spelt (λ x. ends (Write q.0 x ∷ [])) r.1 cs r.4 in
    record {
      command = Write q.0 b.0;
      sayable = (q.2, b.2);
      one = sym b.4.1;
      text = ap (λ z. 87 ∷ z) (p.3 ∙ ap (λ z. 32 ∷ z) (q.3 ∙ ap (λ z. digit q.0 ∷ z) (r.3 ∙ ap (λ z. 32 ∷ z) (b.3 ∙ ap (hex b.0) b.4.0))));
    }
spelt_says C ts cs p =
    let b = hex_spelt after_count p.1 cs p.4 in
    let c = b.4 in
    let d = c.4 in
    let e = d.4 in
    let n : ℕ = 16 * (16 * b.0 + c.0) + d.0 in
    let top : b.0 ≡ n / 256 = omega (arith, c.2.0, d.2.0) in
    let low : 16 * c.0 + d.0 ≡ n % 256 = omega (arith, c.2.0, d.2.0) in
    let back : c.1 ≡ digit d.0 ∷ line_end = d.3 ∙ ap (λ z. digit d.0 ∷ z) e.0 in
    let end : b.1 ≡ hex (n % 256) line_end = c.3 ∙ ap (λ z. digit c.0 ∷ z) back ∙ twice c.0 d.0 d.2.0 line_end ∙ ap (λ x. hex x line_end) low in
    let text : ts ≡ 32 ∷ hex (n / 256) (hex (n % 256) line_end) =
    p.3 ∙ ap (λ z. 32 ∷ z) (b.3 ∙ ap (hex b.0) end ∙ ap (λ x. hex x (hex (n % 256) line_end)) top) in
    record {
      command = Cycles n;
      sayable = (positive (16 * b.0 + c.0) d.0 d.2.1, omega (arith, b.2, c.2.0, d.2.0));
      one = sym e.1;
      text = ap (λ z. 67 ∷ z) text;
    }
  where
    positive : (m d : ℕ) → (eqb m 0 ≡ true → 0 < d) → 0 < 16 * m + d
    positive zero d h = let g = h refl in omega arith
    positive (suc m) d h = omega arith
spelt_says L ts cs p =
    let a = p.4 in
    let b = a.4 in
    let c = b.4 in
    let d = c.4 in
    let e = d.4 in
    let f = e.4 in
    record {
      command = Modem a.0 c.0 e.0;
      sayable = tt;
      one = sym f.1;
      text = ap (λ z. 76 ∷ z) (p.3 ∙ ap (λ z. 32 ∷ z) (a.3 ∙ ap (λ z. channel_byte a.0 ∷ z) (b.3 ∙ ap (λ z. 32 ∷ z)
          (c.3 ∙ ap (λ z. modem_byte c.0 ∷ z) (d.3 ∙ ap (λ z. 32 ∷ z) (e.3 ∙ ap (λ z. level_byte e.0 ∷ z) f.0))))));
    }
spelt_says S ts cs p =
    let cr = hex_spelt after_cr p.1 cs p.4 in
    let r = cr.4 in
    let fr = hex_spelt (after_fr cr.0) r.1 cs r.4 in
    record {
      command = SetUp cr.0 fr.0;
      sayable = (cr.2, fr.2);
      one = sym fr.4.1;
      text = ap (λ z. 83 ∷ z) (p.3 ∙ ap (λ z. 32 ∷ z) (cr.3 ∙ ap (hex cr.0) (r.3 ∙ ap (λ z. 32 ∷ z) (fr.3 ∙ ap (hex fr.0) fr.4.0))));
    }

-- every command is spelt
abbrev letter_for : Command → Letter
letter_for (Read r) = R
letter_for (Write r b) = W
letter_for (Cycles n) = C
letter_for (Modem c m v) = L
letter_for (SetUp cr fr) = S

abbrev text_of : Command → List ℕ
text_of (Read r) = 32 ∷ digit r ∷ line_end
text_of (Write r b) = 32 ∷ digit r ∷ 32 ∷ hex b line_end
text_of (Cycles n) = 32 ∷ hex (n / 256) (hex (n % 256) line_end)
text_of (Modem c m v) = 32 ∷ channel_byte c ∷ 32 ∷ modem_byte m ∷ 32 ∷ level_byte v ∷ line_end
text_of (SetUp cr fr) = 32 ∷ hex cr (32 ∷ hex fr line_end)

spelt_command : (m : Command) → Sayable m → Spelt (after (letter_for m)) (text_of m) (m ∷ [])
spelt_command (Read r) h = (tt, _, tt, refl, (r, _, h, refl, (refl, refl)))
spelt_command (Write r b) h =
    (tt, _, tt, refl, (r, _, h.0, refl, (tt, _, tt, refl, spelt_hex (λ x. ends (Write r x ∷ [])) b line_end _ h.1 (refl, refl))))
spelt_command (Cycles n) h =
    let c : ℕ = n % 256 / 16 in
    let d : ℕ = n % 256 % 16 in
    let whole : 16 * (16 * (n / 256) + c) + d ≡ n = omega arith in
    let last : (d < 16) × (eqb (16 * (n / 256) + c) 0 ≡ true → 0 < d) = (omega arith, λ e. let z = eqb-true (16 * (n / 256) + c) 0 e in omega (arith, h.0)) in
    (tt, _, tt, refl, spelt_hex after_count (n / 256) _ _ (omega (arith, h.1)) (c, _, (omega arith, λ e. cc), refl, (d, _, last, refl, (refl, ap (λ x. Cycles x ∷ []) whole))))
spelt_command (Modem c m v) h = (tt, _, tt, refl, (c, _, tt, refl, (tt, _, tt, refl, (m, _, tt, refl, (tt, _, tt, refl, (v, _, tt, refl, (refl, refl)))))))
spelt_command (SetUp cr fr) h =
    let second : Spelt (hex_byte (after_fr cr)) (hex fr line_end) (SetUp cr fr ∷ []) = spelt_hex (after_fr cr) fr line_end _ h.1 (refl, refl) in
    (tt, _, tt, refl, spelt_hex after_cr cr _ _ h.0 (tt, _, tt, refl, second))

command_read : (m : Command) → Sayable m → (l : ℕ) (bs : List ℕ) → read begins l 1 (written m ++ bs) ≡ before (placed l (m ∷ [])) (read begins (suc l) 1 bs)
unfolding read
command_read (Read r) h l bs = spelt_read (after R) (text_of (Read r)) (Read r ∷ []) l 2 bs (spelt_command (Read r) h)
command_read (Write r b) h l bs = spelt_read (after W) (text_of (Write r b)) (Write r b ∷ []) l 2 bs (spelt_command (Write r b) h)
command_read (Cycles n) h l bs = spelt_read (after C) (text_of (Cycles n)) (Cycles n ∷ []) l 2 bs (spelt_command (Cycles n) h)
command_read (Modem c m v) h l bs = spelt_read (after L) (text_of (Modem c m v)) (Modem c m v ∷ []) l 2 bs (spelt_command (Modem c m v) h)
command_read (SetUp cr fr) h l bs = spelt_read (after S) (text_of (SetUp cr fr)) (SetUp cr fr ∷ []) l 2 bs (spelt_command (SetUp cr fr) h)

lines_read : (cs : List Command) → AllSayable cs → (l : ℕ) → read begins l 1 (flat_map written cs) ≡ Ok (at_lines l cs)
unfolding read
lines_read [] h l = refl
lines_read (m ∷ cs) h l =
    command_read m h.0 l (flat_map written cs) ∙ ap (before (placed l (m ∷ []))) (lines_read cs h.1 (suc l))

spelt_first : Spelt first_line (first_word ++ line_end) []
spelt_first =
    (tt, _, tt, refl, (tt, _, tt, refl, (tt, _, tt, refl, (tt, _, tt, refl, (tt, _, tt, refl, (tt, _, tt, refl, (tt, _, tt, refl, (tt, _, tt, refl, (refl, refl)))))))))

pub first_written : (bs : List ℕ) → read first_line 1 1 (first_word ++ line_end ++ bs) ≡ read begins 2 1 bs
first_written bs = spelt_read first_line (first_word ++ line_end) [] 1 1 bs spelt_first ∙ before_none (read begins 2 1 bs)

-- what is written is read
pub written_read : (cs : List Command) → AllSayable cs → read first_line 1 1 (written_script cs) ≡ Ok (at_lines 2 cs)
written_read cs h = first_written (flat_map written cs) ∙ lines_read cs h 2

-- what is read was written
letter_back : (x : ℕ) (k : Letter) → letter x ≡ Some k → x ≡ letter_byte k
letter_back x R e = grind (arith, nat_tests)
letter_back x W e = grind (arith, nat_tests)
letter_back x C e = grind (arith, nat_tests)
letter_back x L e = grind (arith, nat_tests)
letter_back x S e = grind (arith, nat_tests)

inside : (k : Letter) → Inside (after k)
inside R = λ _ _. tt
inside W = λ _ _ _ _ _. tt
inside C = λ _ _ _ _ _. tt
inside L = λ _ _ _ _ _ _. tt
inside S = λ _ _ _ _ _ _. tt

pub record Back (bs : List ℕ) (l : ℕ) (ps : List Placed) : Type 0 where
  pub commands : List Command
  pub sayable : AllSayable commands
  pub text : bs ≡ flat_map written commands
  pub all : ps ≡ at_lines l commands

one_back : (x : ℕ) (xs : List ℕ) (l : ℕ) (ps : List Placed) (k : Letter) → x ≡ letter_byte k → (t : Line (after k) l xs ps) → Says k t.text t.said → Back t.rest (suc l) t.more → Back (x ∷ xs) l ps
one_back x xs l ps k ex t s b = record {
  commands = s.command ∷ b.commands;
  sayable = (s.sayable, b.sayable);
  text = ap (λ y. y ∷ xs) ex ∙ ap (λ ys. letter_byte k ∷ ys) t.parts ∙ ap (λ ys. ys ++ t.rest) s.text ∙ ap (λ ys. written s.command ++ ys) b.text;
  all = t.all ∙ ap (λ cs. placed l cs ++ t.more) s.one ∙ ap (λ qs. placed l (s.command ∷ []) ++ qs) b.all;
}

pub lines_back : (n : ℕ) (bs : List ℕ) (l : ℕ) (ps : List Placed) → length bs ≤ n → read begins l 1 bs ≡ Ok ps → Back bs l ps
unfolding read
lines_back zero [] l ps h e = record { commands = []; sayable = tt; text = refl; all = cc }
lines_back zero (x ∷ xs) l ps h e = absurd (omega arith)
lines_back (suc n) [] l ps h e = record { commands = []; sayable = tt; text = refl; all = cc }
lines_back (suc n) (x ∷ xs) l ps h e = go (λ k t. lines_back n t.rest (suc l) t.more (shorter k t) t.reads) (letter x) refl e
  where
    shorter : (k : Letter) (t : Line (after k) l xs ps) → length t.rest ≤ n
    shorter k t = let m = ap length t.parts ∙ length-append t.text t.rest in omega (arith, m)

    go : ((k : Letter) (t : Line (after k) l xs ps) → Back t.rest (suc l) t.more) → (o : Option Letter) → letter x ≡ o →
        stepped l 1 xs (goes_on o after) ≡ Ok ps → Back (x ∷ xs) l ps
    go ih None ex d = cc
    go ih (Some k) ex d =
        let t = read_line (after k) l 2 xs ps (inside k) d in
        one_back x xs l ps k (letter_back x k ex) t (spelt_says k t.text t.said t.spelt) (ih k t)

word_back : (ws : List ℕ) (ts : List ℕ) (cs : List Command) → Spelt (word ws (ends [])) ts cs → (ts ≡ ws ++ line_end) × ([] ≡ cs)
word_back [] ts cs p = p
word_back (b ∷ ws) ts cs p = let q = word_back ws p.1 cs p.4 in (p.3 ∙ ap (λ us. b ∷ us) q.0, q.1)

pub read_written : (bs : List ℕ) (ps : List Placed) → read first_line 1 1 bs ≡ Ok ps → (cs : List Command) × AllSayable cs × (ps ≡ at_lines 2 cs) × (bs ≡ written_script cs)
read_written bs ps e =
    let t = read_line first_line 1 1 bs ps (λ _ _ _ _ _ _ _ _. tt) e in
    let b = lines_back (length t.rest) t.rest 2 t.more (omega arith) t.reads in
    let w = word_back first_word t.text t.said t.spelt in (
      b.commands,
      b.sayable,
      t.all ∙ ap (λ cs. placed 1 cs ++ t.more) (sym w.1) ∙ b.all,
      t.parts ∙ ap (λ ts. ts ++ t.rest) w.0 ∙ ap (λ rs. (first_word ++ line_end) ++ rs) b.text,
    )

-- a fault past line 1 stands after the first line
pub first_there : (bs : List ℕ) (f : Fault) → read first_line 1 1 bs ≡ Err f → (f.position.line ≡ 1) ⊎ ((more : List ℕ) × (bs ≡ first_word ++ line_end ++ more))
first_there bs f e =
    ⊎_elim inl (λ t. inr (t.1, t.4 ∙ ap (λ ts. ts ++ t.1) (word_back first_word t.0 t.2 t.3).0))
    (read_later first_line 1 1 bs f (λ _ _ _ _ _ _ _ _. tt) e)
