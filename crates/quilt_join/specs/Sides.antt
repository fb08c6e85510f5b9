-- The cross product that tells on which side of a segment's line a point lies, as a difference of two sums of products.
use Rattle.std.specs.Prelude.{ℕ, ◌+◌, ◌*◌, Bool, ◌&&◌, ◌||◌, nat_le}
use Rattle.quilt_types.specs.declared.plane.Seg.{Seg}

-- what the cross product of the segment and the way from its first end to (x, y) adds
abbrev pub left_products : Seg → ℕ → ℕ → ℕ
left_products s x y = s.x2 * y + s.x1 * s.y2 + x * s.y1

-- what it takes away
abbrev pub right_products : Seg → ℕ → ℕ → ℕ
right_products s x y = s.x2 * s.y1 + s.x1 * y + x * s.y2

-- the first cross product is 0 or less and the second 0 or more
abbrev pub is_turned : ℕ × ℕ → ℕ × ℕ → Bool
is_turned p q = nat_le p.0 p.1 && nat_le q.1 q.0

-- the ends of the second segment do not both lie on the same side of the first one's line
abbrev pub parts : Seg → Seg → Bool
parts s r =
    is_turned (left_products s r.x1 r.y1, right_products s r.x1 r.y1) (left_products s r.x2 r.y2, right_products s r.x2 r.y2)
    || is_turned (left_products s r.x2 r.y2, right_products s r.x2 r.y2) (left_products s r.x1 r.y1, right_products s r.x1 r.y1)
