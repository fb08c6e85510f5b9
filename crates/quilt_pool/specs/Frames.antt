-- The frames of a pool: where each page's bytes lie.
use Rattle.std.specs.Prelude.{◌≡◌, ℕ, ◌+◌, ◌<◌, ◌≤◌, nat_eq, Bool, false, cond, List, [], ◌∷◌, map, length, slice_index_or}
use Rattle.std.specs.Borrow.{Bor}
use Rattle.quilt_pool.specs.declared.frame.Frame.{Frame}
use Rattle.quilt_pool.specs.Entries.{Entries}

-- pages with the places of their frames, the last used first
abbrev pub Places : Type 0
Places = List (ℕ × ℕ)

-- the frame at a place of these bytes, of which some are dirty
abbrev pub frame_in : List (List ℕ) → List Bool → ℕ → Frame
frame_in bytes dirty p = record { bytes = slice_index_or bytes p []; is_dirty = slice_index_or dirty p false }

-- the entries, each with the frame at its place
abbrev pub framed : (ℕ → Frame) → Places → Entries
framed f = map (λ e. (e.0, f e.1))

-- 1 where the two are one place, else 0
abbrev pub hit : ℕ → ℕ → ℕ
hit p q = cond (nat_eq p q) 1 0

-- how often the place is in the list
abbrev pub times : ℕ → List ℕ → ℕ
times p [] = 0
times p (q ∷ qs) = hit p q + times p qs

-- how many of the pages have their frame at the place
abbrev pub holders : ℕ → Places → ℕ
holders p [] = 0
holders p (e ∷ es) = hit p e.1 + holders p es

-- Each of n frames is of one page, or free. No other place is in use.
pub record IsShared (n : ℕ) (es : Places) (free : List ℕ) : Type 0 where
  pub one : (p : ℕ) → p < n → holders p es + times p free ≡ 1
  pub none : (p : ℕ) → n ≤ p → holders p es + times p free ≡ 0
  pub all : length es + length free ≡ n

-- a frame that is lent, with whether it is dirty
abbrev pub as_frame : Bor (List ℕ) × Bool → Frame
as_frame r = record { bytes = r.0.now; is_dirty = r.1 }

-- a page with such a frame
abbrev pub as_entry : ℕ × (Bor (List ℕ) × Bool) → ℕ × Frame
as_entry r = (r.0, as_frame r.1)
