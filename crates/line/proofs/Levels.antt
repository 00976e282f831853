-- Lemmas on the lists of levels.
use Rattle.std.proofs.Common.{◌≡◌, ℕ, ◌+◌, ◌%◌, ◌<◌, ◌≤◌, Bool, ◌&&◌, ◌⊎◌, List, [], ◌∷◌, ◌++◌, length, get_or, take, drop, set, sym, refl, ap, ◌∙◌, inl, inr, append_assoc, append-nil, mod-eq_of_lt, arith}
use native.Mathlib.Nat.{mod_self}
use Rattle.std.proofs.Math.Bool.{and_comm}
use Rattle.std.proofs.lemmas.Bool.{cases_lt}
use Rattle.std.proofs.lemmas.List.Folds.{list_all-append}
use Rattle.std.proofs.lemmas.List.{drop_more, take_more_set, drop-set-lt, take_all, drop_all, length-set, take-append-drop}
use Rattle.line.specs.Line.{leaves, held, all_high}
use Rattle.line.specs.TableLine.{rotate}

-- a joint: the second list answers to what leaves the first, and holds it
pub leaves_append : (ys xs : List Bool) (l : Bool) → leaves (ys ++ xs) l ≡ leaves ys (leaves xs l)
leaves_append [] xs l = refl
leaves_append (y ∷ ys) xs l = refl

pub held_append : (ys xs : List Bool) (l : Bool) → held (ys ++ xs) l ≡ held ys (leaves xs l) ++ held xs l
held_append [] xs l = refl
held_append (y ∷ ys) [] l = ap (λ zs. zs ++ (l ∷ [])) (append-nil ys) ∙ sym (append-nil (ys ++ (l ∷ [])))
held_append (y ∷ ys) (x ∷ xs) l = append_assoc ys (x ∷ xs) (l ∷ []) ∙ sym (append_assoc ys (x ∷ []) (xs ++ (l ∷ [])))

pub all_high_append : (xs ys : List Bool) → all_high (xs ++ ys) ≡ (all_high xs && all_high ys)
all_high_append xs ys = list_all-append (λ l. l) xs ys

-- a table whose place is h
pub leaves_rotate : (h : ℕ) (xs : List Bool) (d l : Bool) → h < length xs → leaves (rotate h xs) l ≡ get_or xs h d
leaves_rotate h xs d l lt = rw (drop_more xs h d)

pub held_rotate : (h : ℕ) (xs : List Bool) (l : Bool) → h < length xs → held (rotate h xs) l ≡ rotate (h + 1) (set xs h l)
held_rotate h xs l lt =
    let below : h < h + 1 = omega arith in
    rw (drop_more xs h l, drop-set-lt (h + 1) xs h l, take_more_set xs h l) (append_assoc (drop (h + 1) xs) (take h xs) (l ∷ []))

-- a whole turn is none
pub rotate_round : (n : ℕ) (xs : List Bool) → length xs ≡ n → rotate n xs ≡ rotate 0 xs
rotate_round n xs e =
    let le : length xs ≤ n = omega arith in
    rw (drop_all n xs, take_all n xs) (sym (append-nil xs))

pub all_high_rotate : (n : ℕ) (xs : List Bool) → all_high (rotate n xs) ≡ all_high xs
all_high_rotate n xs =
    all_high_append (drop n xs) (take n xs) ∙ and_comm (all_high (drop n xs)) (all_high (take n xs))
    ∙ sym (all_high_append (take n xs) (drop n xs)) ∙ ap all_high (take-append-drop n xs)

-- the table one step on, with its place counted modulo its size n
pub table_next : (n h : ℕ) (xs : List Bool) (l : Bool) → length xs ≡ n → h < n → rotate ((h + 1) % n) (set xs h l) ≡ held (rotate h xs) l
table_next n h xs l e lt = go (cases_lt (h + 1) n)
  where
    go : (h + 1 < n) ⊎ (n ≤ h + 1) → rotate ((h + 1) % n) (set xs h l) ≡ held (rotate h xs) l
    go (inl less) =
        let below : h < length xs = omega arith in
        ap (λ k. rotate k (set xs h l)) (mod-eq_of_lt less) ∙ sym (held_rotate h xs l below)
    go (inr more) =
        let below : h < length xs = omega arith in
        let last : h + 1 ≡ n = omega arith in
        let size : length (set xs h l) ≡ h + 1 = length-set xs h l ∙ e ∙ sym last in
        let round : (h + 1) % n ≡ 0 = ap (λ k. k % n) last ∙ mod_self n in
        ap (λ k. rotate k (set xs h l)) round ∙ sym (rotate_round (h + 1) (set xs h l) size) ∙ sym (held_rotate h xs l below)
