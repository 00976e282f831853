-- A line by the list of levels that it holds: a level comes in last, and the first leaves.
use Rattle.std.specs.Prelude.{◌≡◌, Bool, List, [], ◌∷◌, ◌++◌, length, refl}
use Rattle.std.proofs.Common.{arith, length-append}
use Rattle.std.specs.List.{list_all}

-- what leaves as a level comes in; a line that holds none answers that level
abbrev pub leaves : List Bool → Bool → Bool
leaves [] l = l
leaves (x ∷ xs) l = x

-- what is held then
abbrev pub held : List Bool → Bool → List Bool
held [] l = []
held (x ∷ xs) l = xs ++ (l ∷ [])

-- the number of levels never changes
pub length_held : (ls : List Bool) (l : Bool) → length (held ls l) ≡ length ls
length_held [] l = refl
length_held (x ∷ xs) l = simp length-append (omega arith)

-- quiet: all held levels are high
abbrev pub all_high : List Bool → Bool
all_high ls = list_all (λ l. l) ls
