-- The slice behind an index.
use Rattle.std.proofs.Common.{◌≡◌, ℕ, ◌≤◌, List, [], ◌∷◌, length, get_or, take, drop, ◌-◌, length-drop, map, refl, arith}
use Rattle.std.proofs.lemmas.List.{take_all}

-- the slice from an index on
pub behind : {X : Type 0} (from : ℕ) (xs : List X) → take (length xs - from) (drop from xs) ≡ drop from xs
behind from xs = take_all (length xs - from) (drop from xs) (omega (arith, length-drop from xs))

pub map_first : {X Y : Type 0} (f : X → Y) (xs : List X) (d : X) → 1 ≤ length xs → map f xs ≡ f (get_or xs 0 d) ∷ map f (take (length xs - 1) (drop 1 xs))
map_first f [] d some = absurd (omega (arith, some))
map_first f (x ∷ xs) d some = rw (behind 1 (x ∷ xs)) refl
