-- The order of the points in the list that is spread does not matter, and no fact stands twice.
use Rattle.std.proofs.Common.{◌≡◌, ℕ, zero, suc, ◌^◌, Bool, true, false, cond, nat_le, List, [], ◌∷◌, map, length, refl, sym, ◌∙◌, ap, subst, arith, ⊎_elim}
use Rattle.std.proofs.Common.{Contains, filter, flat_map, pow-suc, pow_pos}
use Rattle.quilt_types.specs.declared.plane.Block.{Block}
use Rattle.quilt_types.specs.declared.plane.Pixel.{Pixel}
use Rattle.quilt_types.specs.Plane.{corner, in_block, quarters_of, IsBlock, Within}
use Rattle.quilt_types.specs.Facts.{Fact, HoldsPoint, HoldsNoPoint}
use Rattle.quilt_point_laws.specs.Spreading.{held_facts, spread}
use Rattle.quilt_spell.specs.Apart.{Apart, SameMembers}
use Rattle.quilt_loc.proofs.Members.{Contains-nil, Contains-map, Contains-map_from, Contains-filter, Contains-filter_from, Contains-flat_map}
use Rattle.quilt_loc.proofs.Members.{Contains-flat_map_from}
use Rattle.quilt_loc.proofs.Nesting.{Within-holds, Within-trans, Holds-corner, same_block_from}
use Rattle.quilt_spell.proofs.Lists.{Apart-filter, Apart-map, Apart-flat_map, same_length}
use Rattle.quilt_spell.proofs.facts.FactMembers.{or_none_member}
use Rattle.quilt_loc.proofs.Quartered.{quarters_are}
use Rattle.quilt_blocks.proofs.Maximal.{Within-self}
use Rattle.quilt_point_laws.proofs.Cuts.{quarters_apart}
use Rattle.quilt_spell.proofs.facts.FactKeys.{or_none_apart}

abbrev Held : Type 0
Held = List (Pixel × ℕ)

some_held : (b : Block) (xs : Held) (f : Fact) → Contains (map (λ e. HoldsPoint b e.0 e.1) xs) f → Contains (held_facts b xs) f
some_held b [] f c = absurd (Contains-nil f c)
some_held b (x ∷ xs) f c = c

held_part : (b : Block) (xs ys : Held) → length xs ≡ length ys → ((e : Pixel × ℕ) → Contains xs e → Contains ys e) → (f : Fact)
    → Contains (held_facts b xs) f → Contains (held_facts b ys) f
held_part b [] [] l w f c = c
held_part b [] (y ∷ ys) l w f c = absurd (omega arith)
held_part b (x ∷ xs) ys l w f c =
    let fact : Pixel × ℕ → Fact = λ e. HoldsPoint b e.0 e.1 in
    let m = Contains-map_from fact (x ∷ xs) f c in
    some_held b ys f (subst (Contains (map fact ys)) m.2 (Contains-map fact ys m.0 (w m.0 m.1)))

spread_part : (capacity k : ℕ) (b : Block) (xs ys : Held) → Apart xs → Apart ys → SameMembers xs ys → (f : Fact)
    → Contains (spread capacity k b xs) f → Contains (spread capacity k b ys) f
spread_part capacity zero b xs ys ax ay w f c = held_part b xs ys (same_length xs ys ax ay w) (λ e m. (w e).0 m) f c
spread_part capacity (suc k) b xs ys ax ay w f c =
    let long = same_length xs ys ax ay w in
    let sub : Held → Block → Held = λ zs r. filter (λ e. in_block r e.0) zs in
    let below : Held → List Fact = λ zs. flat_map (λ r. spread capacity k r (sub zs r)) (quarters_of b) in
    by (nat_le (length xs) capacity) (nat_le (length ys) capacity) (ap (λ l. nat_le l capacity) long) (held_facts b xs) (below xs) (held_facts b ys) (below ys)
    (λ m. held_part b xs ys long (λ e d. (w e).0 d) f m)
    (λ m.
    let r = Contains-flat_map_from (λ r. spread capacity k r (sub xs r)) (quarters_of b) f m in
    let test : Pixel × ℕ → Bool = λ e. in_block r.0 e.0 in
    Contains-flat_map (λ r. spread capacity k r (sub ys r)) (quarters_of b) r.0 f r.1
    (spread_part capacity k r.0 (filter test xs) (filter test ys) (Apart-filter test xs ax) (Apart-filter test ys ay)
    (λ e. (
      λ d. let v = Contains-filter_from test xs e d in Contains-filter test ys e ((w e).0 v.0) v.1,
      λ d. let v = Contains-filter_from test ys e d in Contains-filter test xs e ((w e).1 v.0) v.1,
    )) f r.2)) c
  where
    by : (s t : Bool) → s ≡ t → (l m n o : List Fact) → (Contains l f → Contains n f) → (Contains m f → Contains o f) → Contains (cond s l m) f
        → Contains (cond t n o) f
    by true true e l m n o h g c = h c
    by false false e l m n o h g c = g c
    by true false e l m n o h g c = cc
    by false true e l m n o h g c = cc

turned : {X : Type 0} (xs ys : List X) → SameMembers xs ys → SameMembers ys xs
turned xs ys w x = ((w x).1, (w x).0)

-- two lists of the same points are spread to the same facts
pub spread_same : (capacity k : ℕ) (b : Block) (xs ys : Held) → Apart xs → Apart ys → SameMembers xs ys
    → SameMembers (spread capacity k b xs) (spread capacity k b ys)
spread_same capacity k b xs ys ax ay w f = (λ c. spread_part capacity k b xs ys ax ay w f c, λ c. spread_part capacity k b ys xs ay ax (turned xs ys w) f c)

pub held_same : (b : Block) (xs ys : Held) → Apart xs → Apart ys → SameMembers xs ys → SameMembers (held_facts b xs) (held_facts b ys)
held_same b xs ys ax ay w f =
    let long = same_length xs ys ax ay w in
    (λ c. held_part b xs ys long (λ e m. (w e).0 m) f c, λ c. held_part b ys xs (sym long) (λ e m. (w e).1 m) f c)

-- ---- no fact twice
abbrev IsOf : Block → Fact → Type 0
IsOf b (HoldsPoint d q k) = d ≡ b
IsOf b (HoldsNoPoint d) = d ≡ b
IsOf b f = ⊥

of_one : (b d : Block) (f : Fact) → IsOf b f → IsOf d f → b ≡ d
of_one b d (HoldsPoint x q k) h g = sym h ∙ g
of_one b d (HoldsNoPoint x) h g = sym h ∙ g
of_one b d f h g = absurd h

record IsIn (n : ℕ) (b : Block) (f : Fact) : Type 0 where
  at : Block
  block : IsBlock n at
  within : Within at b
  of : IsOf at f

held_in : (n : ℕ) (b : Block) → IsBlock n b → (xs : Held) (f : Fact) → Contains (held_facts b xs) f → IsIn n b f
held_in n b hb xs f c =
    let fact : Pixel × ℕ → Fact = λ e. HoldsPoint b e.0 e.1 in
    let here : (g : Fact) → IsOf b g → IsIn n b g = λ g o. record { at = b; block = hb; within = Within-self b; of = o } in
    ⊎_elim (λ e. subst (IsIn n b) (sym e.0) (here (HoldsNoPoint b) refl))
    (λ m. let w = Contains-map_from fact xs f m in subst (IsIn n b) w.2 (here (fact w.0) refl))
    (or_none_member (HoldsNoPoint b) (map fact xs) f c)

abbrev below : ℕ → ℕ → Block → Held → List Fact
below capacity k b xs = flat_map (λ r. spread capacity k r (filter (λ e. in_block r e.0) xs)) (quarters_of b)

in_step : (n capacity k : ℕ) (b : Block) → IsBlock n b → b.side ≡ 2 ^ suc k → (xs : Held) (f : Fact)
    → ((r : Block) (ys : Held) → IsBlock n r → r.side ≡ 2 ^ k → Contains (spread capacity k r ys) f → IsIn n r f)
    → (t : Bool) → Contains (cond t (held_facts b xs) (below capacity k b xs)) f → IsIn n b f
in_step n capacity k b hb s xs f law true c = held_in n b hb xs f c
in_step n capacity k b hb s xs f law false c =
    let p2 = pow-suc 2 k in
    let pos = pow_pos k in
    let r = Contains-flat_map_from (λ r. spread capacity k r (filter (λ e. in_block r e.0) xs)) (quarters_of b) f c in
    let q = quarters_are n b r.0 hb (omega arith) r.1 in
    let half = q.half in
    let w = law r.0 (filter (λ e. in_block (r.0) e.0) xs) q.block (omega arith) r.2 in
    record { at = w.at; block = w.block; within = Within-trans w.at r.0 b w.within q.within; of = w.of }

spread_in : (n capacity k : ℕ) (b : Block) → IsBlock n b → b.side ≡ 2 ^ k → (xs : Held) (f : Fact) → Contains (spread capacity k b xs) f → IsIn n b f
spread_in n capacity zero b hb s xs f c = held_in n b hb xs f c
spread_in n capacity (suc k) b hb s xs f c =
    in_step n capacity k b hb s xs f (λ r ys hr sr m. spread_in n capacity k r hr sr ys f m) (nat_le (length xs) capacity) c

pub held_apart : (b : Block) (xs : Held) → Apart xs → Apart (held_facts b xs)
held_apart b xs ax =
    let fact : Pixel × ℕ → Fact = λ e. HoldsPoint b e.0 e.1 in
    or_none_apart (HoldsNoPoint b) (map fact xs) (Apart-map fact xs (λ x y _ _ e. let p : x.0 ≡ y.0 = cc in let l : x.1 ≡ y.1 = cc in λ i. (p i, l i)) ax)

apart_step : (n capacity k : ℕ) (b : Block) → IsBlock n b → b.side ≡ 2 ^ suc k → (xs : Held) → Apart xs
    → ((r : Block) (ys : Held) → IsBlock n r → r.side ≡ 2 ^ k → Apart ys → Apart (spread capacity k r ys))
    → (t : Bool) → Apart (cond t (held_facts b xs) (below capacity k b xs))
apart_step n capacity k b hb s xs ax law true = held_apart b xs ax
apart_step n capacity k b hb s xs ax law false =
    let p2 = pow-suc 2 k in
    let pos = pow_pos k in
    let sub : Block → Held = λ r. filter (λ e. in_block r e.0) xs in
    let at = λ (r : Block) (c : Contains (quarters_of b) r). quarters_are n b r hb (omega arith) c in
    Apart-flat_map (λ r. spread capacity k r (sub r)) (quarters_of b) (quarters_apart b (omega arith) (omega arith))
    (λ r c. let q = at r c in let half = q.half in law r (sub r) q.block (omega arith) (Apart-filter (λ e. in_block r e.0) xs ax))
    (λ r u f c d x y.
    let q = at r c in
    let v = at u d in
    let hq = q.half in
    let hv = v.half in
    let m = spread_in n capacity k r q.block (omega arith) (sub r) f x in
    let l = spread_in n capacity k u v.block (omega arith) (sub u) f y in
    let same = of_one m.at l.at f m.of l.of in
    let on = Holds-corner n m.at m.block in
    let wl : Within m.at u = subst (λ (z : Block). Within z u) (sym same) l.within in
    same_block_from n r u (corner m.at) q.block v.block (omega arith) (Within-holds m.at r (corner m.at) m.within on) (Within-holds m.at u (corner m.at) wl on))

pub spread_apart : (n capacity k : ℕ) (b : Block) → IsBlock n b → b.side ≡ 2 ^ k → (xs : Held) → Apart xs → Apart (spread capacity k b xs)
spread_apart n capacity zero b hb s xs ax = held_apart b xs ax
spread_apart n capacity (suc k) b hb s xs ax =
    apart_step n capacity k b hb s xs ax (λ r ys hr sr ay. spread_apart n capacity k r hr sr ys ay) (nat_le (length xs) capacity)
