-- Blocks that follow one another by their codes, and the last four of them.
use Rattle.std.proofs.Common.{◌≡◌, ℕ, ◌+◌, ◌*◌, ◌/◌, ◌<◌, ◌≤◌, ◌⊎◌, List, [], ◌∷◌, ◌++◌, map, length, refl, sym, ◌∙◌, ap, subst, inl, inr, ⊎_elim, arith}
use Rattle.std.proofs.Common.{Contains, append_assoc}
use Rattle.std.proofs.lemmas.List.Elements.{All-contains, All-from_recursion}
use Rattle.quilt_types.specs.declared.plane.Block.{Block}
use Rattle.quilt_types.specs.declared.plane.Pixel.{Pixel}
use Rattle.quilt_types.specs.Plane.{quarters_of, Holds, IsBlock}
use Rattle.quilt_loc.specs.Codes.{code_from, code_to}
use Rattle.quilt_loc.proofs.Members.{Contains-nil, Contains-cons_cases, Contains-map, Contains-map_from}
use Rattle.quilt_loc.proofs.Intervals.{HasQuarterCodes, code_held, half_codes, square_pos}
use Rattle.quilt_blocks.specs.Listing.{Follows}
use Rattle.quilt_blocks.specs.Walk.{pixel_count}
use Rattle.quilt_blocks.proofs.Chains.{LiesIn, size_of-nil, size_of-cons, member_pos, Follows-member, member_with}
use Rattle.quilt_audit.specs.Covers.{AreFour, no_blocks}
use Rattle.quilt_audit.specs.Points.{plain}
use Rattle.quilt_audit.proofs.Lists.{last_cases, same_tail}

module _ (n : ℕ) where
  pub covers_front : (at : ℕ) (xs ys : List Block) → Follows n at (map plain (xs ++ ys)) → Follows n at (map plain xs)
  covers_front at [] ys h = tt
  covers_front at (x ∷ xs) ys h = (h.0, h.1, covers_front (at + x.side * x.side) xs ys h.2)

  pub covers_back : (at : ℕ) (xs ys : List Block) → Follows n at (map plain (xs ++ ys)) → Follows n (at + pixel_count (map plain xs)) (map plain ys)
  covers_back at [] ys h =
      let z = size_of-nil in
      let e : at ≡ at + pixel_count [] = omega arith in
      subst (λ (a : ℕ). Follows n a (map plain ys)) e h
  covers_back at (x ∷ xs) ys h =
      let c = size_of-cons (plain x) (map plain xs) in
      let e : at + x.side * x.side + pixel_count (map plain xs) ≡ at + pixel_count (map plain (x ∷ xs)) = omega arith in
      subst (λ (a : ℕ). Follows n a (map plain ys)) e (covers_back (at + x.side * x.side) xs ys h.2)

  pub covers_more : (at : ℕ) (xs : List Block) (b : Block) → Follows n at (map plain xs) → IsBlock n b → code_from b ≡ at + pixel_count (map plain xs)
      → Follows n at (map plain (xs ++ b ∷ []))
  covers_more at [] b h hb e = let z = size_of-nil in (hb, omega arith, tt)
  covers_more at (x ∷ xs) b h hb e =
      let c = size_of-cons (plain x) (map plain xs) in
      (h.0, h.1, covers_more (at + x.side * x.side) xs b h.2 hb (omega arith))

  pub covered_more : (xs : List Block) (b : Block) → pixel_count (map plain (xs ++ b ∷ [])) ≡ pixel_count (map plain xs) + b.side * b.side
  covered_more [] b = let z = size_of-nil in let c = size_of-cons (plain b) [] in omega arith
  covered_more (x ∷ xs) b =
      let c = size_of-cons (plain x) (map plain xs) in
      let d = size_of-cons (plain x) (map plain (xs ++ b ∷ [])) in
      let r = covered_more xs b in
      omega arith

  pub block_lies : (bs : List Block) (b : Block) → Follows n 0 (map plain bs) → Contains bs b → LiesIn n 0 (0 + pixel_count (map plain bs)) b
  block_lies bs b h c = Follows-member n 0 (map plain bs) (plain b) h (Contains-map plain bs b c)

  -- the block that has a code
  pub block_with : (bs : List Block) (k : ℕ) → Follows n 0 (map plain bs) → k < pixel_count (map plain bs)
      → (b : Block) × Contains bs b × (code_from b ≤ k) × (k < code_to b)
  block_with bs k h lt =
      let w = member_with n 0 (map plain bs) k h (omega arith) (omega arith) in
      let m = Contains-map_from plain bs w.0 w.1 in
      let e : m.0 ≡ w.0.0 = ap (λ (x : Block × ℕ). x.0) m.2 in
      (m.0, m.1, subst (λ (z : Block). code_from z ≤ k) (sym e) w.2, subst (λ (z : Block). k < code_to z) (sym e) w.3)

  -- the last block begins where those before it end
  pub last_from : (xs : List Block) (b : Block) → Follows n 0 (map plain (xs ++ b ∷ [])) → IsBlock n b × (code_from b ≡ pixel_count (map plain xs))
  last_from xs b h = let k = covers_back 0 xs (b ∷ []) h in (k.0, let e = k.1 in omega arith)

  -- and shares no pixel with them
  pub last_apart : (xs : List Block) (b e : Block) (p : Pixel) → n ≤ 12 → Follows n 0 (map plain (xs ++ b ∷ [])) → Contains xs e → Holds e p → Holds b p → ⊥
  last_apart xs b e p le h c he hb =
      let l = last_from xs b h in
      let from = l.1 in
      let m = block_lies xs e (covers_front 0 xs (b ∷ []) h) c in
      let t = m.to in
      let i = code_held n e p m.block le he in
      let j = code_held n b p l.0 le hb in
      let i1 = i.1 in
      let j0 = j.0 in
      omega arith

  -- the block that ends where all end is the last one
  last_is : (at : ℕ) (bs : List Block) (b : Block) → Follows n at (map plain bs) → Contains bs b → code_to b ≡ at + pixel_count (map plain bs)
      → (ys : List Block) × (bs ≡ ys ++ b ∷ [])
  last_is at [] b h c e = absurd (Contains-nil b c)
  last_is at (x ∷ []) b h c e = ⊎_elim (λ is. ([], ap (λ (z : Block). z ∷ []) is)) (λ d. absurd (Contains-nil b d)) (Contains-cons_cases x [] b c)
  last_is at (x ∷ y ∷ ys) b h c e =
      let s = size_of-cons (plain x) (map plain (y ∷ ys)) in
      let t = size_of-cons (plain y) (map plain ys) in
      let f = h.1 in
      let py = member_pos n y h.2.0 in
      ⊎_elim
      (λ is. let e' : code_to x ≡ at + pixel_count (map plain (x ∷ y ∷ ys)) = ap (λ (z : Block). code_to z) is ∙ e in absurd (omega arith))
      (λ d.
      let r = last_is (at + x.side * x.side) (y ∷ ys) b h.2 d (omega arith) in
      (x ∷ r.0, ap (λ (l : List Block). x ∷ l) r.1))
      (Contains-cons_cases x (y ∷ ys) b c)

  not_last : (xs : List Block) (e f : Block) → Contains (xs ++ e ∷ []) f → (code_from f ≡ code_from e → ⊥) → Contains xs f
  not_last xs e f c apart = ⊎_elim (λ d. d) (λ is. absurd (apart (ap (λ (z : Block). code_from z) (sym is)))) (last_cases xs e f c)

  peel : (xs : List Block) (e f : Block) → Follows n 0 (map plain (xs ++ e ∷ [])) → Contains xs f → code_to f ≡ code_from e
      → (ys : List Block) × (xs ≡ ys ++ f ∷ [])
  peel xs e f h c end =
      let from = (last_from xs e h).1 in
      last_is 0 xs f (covers_front 0 xs (e ∷ []) h) c (omega arith)

  three_more : (xs : List Block) (a b c : Block) → ((xs ++ a ∷ []) ++ b ∷ []) ++ c ∷ [] ≡ xs ++ a ∷ b ∷ c ∷ []
  three_more xs a b c = append_assoc (xs ++ a ∷ []) (b ∷ []) (c ∷ []) ∙ append_assoc xs (a ∷ []) (b ∷ c ∷ [])

  module _ (le : n ≤ 12) (closed : List Block) (b : Block) (recent front : List Block) (three : length recent ≡ 3)
      (split : no_blocks ++ closed ≡ front ++ recent)
      (follows : Follows n 0 (map plain (closed ++ b ∷ []))) (w : Block) (hw : IsBlock n w) (wide : 1 < w.side)
      (part : (q : Block) → Contains (quarters_of w) q → Contains (closed ++ b ∷ []) q) where
    abbrev at : ℕ → ℕ → Block
    at x y = record { x = x; y = y; side = w.side / 2 }

    abbrev right : Block
    right = at (w.x + w.side / 2) w.y

    abbrev below : Block
    below = at w.x (w.y + w.side / 2)

    abbrev across : Block
    across = at (w.x + w.side / 2) (w.y + w.side / 2)

    codes : HasQuarterCodes w (w.side / 2)
    codes = half_codes n w hw le wide

    positive : 0 < w.side / 2 * (w.side / 2)
    positive = square_pos (w.side / 2) (omega arith)

    all_before : Contains closed across → (q : Block) → Contains (quarters_of w) q → Contains closed q
    all_before d =
        let m = block_lies closed across (covers_front 0 closed (b ∷ []) follows) d in
        let t = m.to in
        let from = (last_from closed b follows).1 in
        let p = positive in
        let c1 = codes.right in
        let c2 = codes.below in
        let c3 = codes.across in
        let f0 = not_last closed b (at w.x w.y) (part (at w.x w.y) (0, omega arith, refl)) (λ e. omega arith) in
        let f1 = not_last closed b right (part right (1, omega arith, refl)) (λ e. omega arith) in
        let f2 = not_last closed b below (part below (2, omega arith, refl)) (λ e. omega arith) in
        λ q m'. All-contains (λ (r : Block). Contains closed r) (quarters_of w) q
        (All-from_recursion (λ (r : Block). Contains closed r) (quarters_of w) (f0, (f1, (f2, (d, tt))))) m'

    at_end : b ≡ across → AreFour n (recent ++ b ∷ []) w
    at_end is =
        let p = positive in
        let c1 = codes.right in
        let c2 = codes.below in
        let c3 = codes.across in
        let same : code_from b ≡ code_from across = ap (λ (z : Block). code_from z) is in
        let q0 = at w.x w.y in
        let m2 = not_last closed b below (part below (2, omega arith, refl)) (λ e. omega arith) in
        let p2 = peel closed b below follows m2 (omega arith) in
        let e2 = p2.1 in
        let h2 = subst (λ (l : List Block). Follows n 0 (map plain l)) e2 (covers_front 0 closed (b ∷ []) follows) in
        let m1 =
        not_last p2.0 below right
        (subst (λ (l : List Block). Contains l right) e2 (not_last closed b right (part right (1, omega arith, refl)) (λ e. omega arith)))
        (λ e. omega arith) in
        let p1 = peel p2.0 below right h2 m1 (omega arith) in
        let e1 = p1.1 in
        let h1 = subst (λ (l : List Block). Follows n 0 (map plain l)) e1 (covers_front 0 p2.0 (below ∷ []) h2) in
        let m0 =
        not_last p1.0 right q0 (subst (λ (l : List Block). Contains l q0) e1
        (not_last p2.0 below q0
        (subst (λ (l : List Block). Contains l q0) e2 (not_last closed b q0 (part q0 (0, omega arith, refl)) (λ e. omega arith)))
        (λ e. omega arith))) (λ e. omega arith) in
        let p0 = peel p1.0 right q0 h1 m0 (omega arith) in
        let e0 = p0.1 in
        let closed_is : closed ≡ p0.0 ++ q0 ∷ right ∷ below ∷ [] =
        e2 ∙ ap (λ (l : List Block). l ++ below ∷ []) (e1 ∙ ap (λ (l : List Block). l ++ right ∷ []) e0) ∙ three_more p0.0 q0 right below in
        let all : front ++ recent ≡ (no_blocks ++ p0.0) ++ q0 ∷ right ∷ below ∷ [] =
        sym split ∙ ap (λ (l : List Block). no_blocks ++ l) closed_is ∙ sym (append_assoc no_blocks p0.0 (q0 ∷ right ∷ below ∷ [])) in
        let tail : recent ≡ q0 ∷ right ∷ below ∷ [] = same_tail front (no_blocks ++ p0.0) recent (q0 ∷ right ∷ below ∷ []) three all in
        record { block = hw; wide = wide; quarters = sym (ap (λ (l : List Block). l ++ b ∷ []) tail ∙ ap (λ (z : Block). q0 ∷ right ∷ below ∷ z ∷ []) is) }

    -- four quarters stand before the last block, or they are the last four
    pub last_four : ((q : Block) → Contains (quarters_of w) q → Contains closed q) ⊎ AreFour n (recent ++ b ∷ []) w
    last_four = ⊎_elim (λ d. inl (all_before d)) (λ is. inr (at_end is)) (last_cases closed b across (part across (3, omega arith, refl)))
