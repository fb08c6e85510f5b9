-- Which pages of a store in memory are free.
use Rattle.std.specs.Prelude.{ℕ, Bool, false, List, slice_index_or}

-- a place behind the last is not free
abbrev pub is_free_place : List Bool → ℕ → Bool
is_free_place free page = slice_index_or free page false
