-- The descent over quarters finds the blocks that a removal makes, those that it takes, and those that stay.
use Rattle.std.proofs.Common.{◌≡◌, ℕ, ◌*◌, ◌^◌, ◌<◌, ◌≤◌, ◌↔◌, Bool, true, false, cond, not, ◌&&◌, ◌||◌, List, [], ◌∷◌, flat_map, refl, sym, ap, ◌∙◌, subst}
use Rattle.std.proofs.Common.{⊎_elim, arith, Contains}
use Rattle.std.proofs.lemmas.Bool.{and_parts, and_from, or_cases, or_left, cases_Bool, cases_lt, both_ways, not-true, not_from_false}
use Rattle.quilt_types.specs.Sets as sets
use Rattle.quilt_types.specs.declared.plane.Block.{Block}
use Rattle.quilt_types.specs.declared.plane.Seg.{Seg}
use Rattle.quilt_types.specs.Plane.{side, corner, quarters_of, parent_of, whole, IsBlock, Within}
use Rattle.quilt_types.specs.Layers.{SegMap, BlockSet}
use Rattle.quilt_types.specs.Segments.{square, meets}
use Rattle.quilt_types.specs.Quadtrees.{after_remove}
use Rattle.quilt_loc.proofs.Members.{Contains-nil, Contains-here, Contains-cons_cases, Contains-flat_map, Contains-flat_map_from}
use Rattle.quilt_loc.proofs.Nesting.{Within-holds, Within-trans, Holds-corner, same_block_from, parent_within, side_pos, Within-parent_of}
use Rattle.quilt_loc.proofs.Quartered.{quarters_are, side_le, IsBlock-whole, Within-whole}
use Rattle.quilt_blocks.proofs.Maximal.{Within-self, quarter_with}
use Rattle.quilt_loc.proofs.PlaneOrders.{block_total}
use Rattle.quilt_spell.proofs.facts.FactKeys.{block_same}
use Rattle.quilt_line_laws.proofs.SetLaws.{contains_is}
use Rattle.quilt_line_laws.proofs.Merges.{IsBlockCover, after_remove-cover}
use Rattle.quilt_line_laws.specs.Merging.{is_one, becomes_one, blocks_in, coming_in, going_in, staying_in}
use Rattle.quilt_line_laws.proofs.Meeting.{meets_within}
use Rattle.quilt_line_laws.proofs.Cutting.{one_of}
use Rattle.quilt_line_laws.proofs.OneSide.{IsBig, wide, smaller}
use Rattle.quilt_line_laws.proofs.Levels.{becomes_says, becomes_from, one_cases, one_here, one_becomes, parent_away, merge_law, same_level}

-- a member of a list of one
pub only : (b q : Block) → Contains (b ∷ []) q → b ≡ q
only b q c = ⊎_elim (λ e. e) (λ d. absurd (Contains-nil q d)) (Contains-cons_cases b [] q c)

-- a block within another whose side is no greater is it
pub same_size : (n : ℕ) (a b : Block) → IsBlock n a → IsBlock n b → Within a b → b.side ≤ a.side → a ≡ b
same_size n a b ha hb w le =
    let l = w.left in
    let r = w.right in
    same_block_from n a b (corner a) ha hb (omega arith) (Holds-corner n a ha) (Within-holds a b (corner a) w (Holds-corner n a ha))

double : (a : ℕ) → 0 < a → a < 2 * a
double a p = omega arith

module _ (n t : ℕ) (segs : SegMap) (cover : BlockSet) (s : Seg) (h : IsBlockCover n cover) where
  abbrev one : ℕ → Block → Bool
  one k b = is_one t segs cover s k b

  abbrev later : BlockSet
  later = after_remove n t segs cover s

  abbrev Old : Block → Type 0
  Old q = Contains (sets.items cover) q

  abbrev New : Block → Type 0
  New q = Contains (sets.items later) q

  pub later_cover : IsBlockCover n later
  later_cover = after_remove-cover n t segs cover s h

  -- a block of side 2 ^ k that lies in none that is one
  pub record IsFree (k : ℕ) (b : Block) : Type 0 where
    pub block : IsBlock n b
    pub size : b.side ≡ side k
    pub free : k < n → one (ℕ.suc k) (parent_of b) ≡ true → ⊥

  stands : (k : ℕ) (b : Block) → IsFree k b → one k b ≡ true → New b
  stands k b g o = (merge_law n t segs cover s h k b g.block g.size).1 (o, g.free)

  is_so : (k : ℕ) (b : Block) → IsBlock n b → b.side ≡ side k → New b → one k b ≡ true
  is_so k b hb e c = ((merge_law n t segs cover s h k b hb e).0 c).0

  one_new : (a b : Block) → New a → New b → Within a b → a ≡ b
  one_new a b ca cb w =
      let ha = later_cover.only a ca in
      one_of n later a b later_cover ca cb (Within-holds a b (corner a) w (Holds-corner n a ha))

  pub one_old : (a b : Block) → Old a → Old b → Within a b → a ≡ b
  one_old a b ca cb w =
      let ha = h.only a ca in
      one_of n cover a b h ca cb (Within-holds a b (corner a) w (Holds-corner n a ha))

  -- a block that is new and was none of the set is met
  new_met : (q : Block) → New q → (Old q → ⊥) → meets s (square q) ≡ true
  new_met q c away = let hq = later_cover.only q c in at hq.level (is_so hq.level q hq hq.size c)
    where
      at : (j : ℕ) → one j q ≡ true → meets s (square q) ≡ true
      at ℕ.zero o = absurd (away ((contains_is block_total block_same cover q).0 o))
      at (ℕ.suc j) o = ⊎_elim (λ c. absurd (away c)) (λ m. m.met) (one_cases n t segs cover s j q o)

  free_at : (j k : ℕ) (q b : Block) → q ≡ b → q.side ≡ side j → IsFree k b → j < n → one (ℕ.suc j) (parent_of q) ≡ true → ⊥
  free_at j k q b same e g lt u =
      let eb : q.side ≡ b.side = ap (λ (z : Block). z.side) same in
      let level : j ≡ k = same_level j k (sym e ∙ eb ∙ g.size) in
      g.free (omega arith) (subst (λ (i : ℕ). one (ℕ.suc i) (parent_of b) ≡ true) level (subst (λ (z : Block). one (ℕ.suc j) (parent_of z) ≡ true) same u))

  -- a block of the set within one that the segment does not meet stays
  unmet_stays : (k : ℕ) (b q : Block) → IsFree k b → meets s (square b) ≡ false → Old q → Within q b → New q
  unmet_stays k b q g f c w =
      let hq = h.only q c in
      let hb = g.block in
      let top = side_le n b hb in
      let here = one_here n t segs cover s hq.level q c in
      (merge_law n t segs cover s h hq.level q hq hq.size).1 (
        here,
        λ lt u.
            ⊎_elim
            (λ l.
            let small : q.side < 2 ^ n = omega arith in
            let v = parent_within n q b (corner q) hq hb l top (Holds-corner n q hq) (Within-holds q b (corner q) w (Holds-corner n q hq)) in
            let pos = side_pos n q hq in
            ⊎_elim
            (λ cp. parent_away n t segs cover s h hq.level q (parent_of q) hq hq.size here (Within-parent_of n q hq small) (double q.side pos) cp)
            (λ m. both_ways (meets s (square b)) f (meets_within s (parent_of q) b v m.met))
            (one_cases n t segs cover s hq.level (parent_of q) u))
            (λ ge. free_at hq.level k q b (same_size n q b hq hb w ge) hq.size g lt u)
            (cases_lt q.side b.side),
      )

  -- what of a list over quarters there is in the block
  pub quarterly : (k : ℕ) (b q : Block) (f : Block → List Block) (P : Block → Type 0) → IsBlock n b → b.side ≡ side (ℕ.suc k)
      → (P q → IsBlock n q) → (P q → q ≡ b → ⊥)
      → ((r : Block) → Contains (quarters_of b) r → IsBlock n r → r.side ≡ side k → parent_of r ≡ b → Contains (f r) q ↔ (Within q r × P q))
      → Contains (flat_map f (quarters_of b)) q ↔ (Within q b × P q)
  quarterly k b q f P hb e blocks_only differ each =
      let big : IsBig t segs s n k b = record { block = hb; size = e } in
      let lt = wide t segs s n k b big in
      let i = λ (r : Block) (c : Contains (quarters_of b) r). quarters_are n b r hb lt c in
      let law = λ (r : Block) (c : Contains (quarters_of b) r). each r c (i r c).block (smaller t segs s n k b r big c) (i r c).parent in (
        λ c.
            let r = Contains-flat_map_from f (quarters_of b) q c in
            let w = (law r.0 r.1).0 r.2 in
            (Within-trans q r.0 b w.0 (i r.0 r.1).within, w.1),
        λ w.
            let hq = blocks_only w.1 in
            let less : q.side < b.side = ⊎_elim (λ l. l) (λ ge. absurd (differ w.1 (same_size n q b hq hb w.0 ge))) (cases_lt q.side b.side) in
            let r = quarter_with n k q b hq hb e less w.0 in
            Contains-flat_map f (quarters_of b) r.0 q r.1 ((law r.0 r.1).1 (r.2, w.1)),
      )

  -- the blocks of the set in one of the set
  itself : (b q : Block) → Old b → Contains (b ∷ []) q ↔ (Within q b × Old q)
  itself b q cb = (
    λ c. subst (λ (z : Block). Within z b × Old z) (only b q c) (Within-self b, cb),
    λ w. subst (Contains (b ∷ [])) (sym (one_old q b w.1 cb w.0)) (Contains-here b []),
  )

  pub held : (b : Block) → sets.contains cover b ≡ true → Old b
  held b u = (contains_is block_total block_same cover b).0 u

  not_held : (b : Block) → sets.contains cover b ≡ false → Old b → ⊥
  not_held b u c = both_ways (sets.contains cover b) u ((contains_is block_total block_same cover b).1 c)

  -- in a block that is none of the set there is no other of its size
  pub off : (b q : Block) → sets.contains cover b ≡ false → Old q → q ≡ b → ⊥
  off b q u c same = not_held b u (subst (λ (z : Block). Old z) same c)

  blocks_step : (k : ℕ) (b q : Block) → IsBlock n b → b.side ≡ side (ℕ.suc k) → one (ℕ.suc k) b ≡ true
      → ((r : Block) → IsBlock n r → r.side ≡ side k → one k r ≡ true → Contains (blocks_in cover k r) q ↔ (Within q r × Old q))
      → (u : Bool) → sets.contains cover b ≡ u → Contains (cond {A = List Block} u (b ∷ []) (flat_map (blocks_in cover k) (quarters_of b))) q
      ↔ (Within q b × Old q)
  blocks_step k b q hb e o below true u = itself b q (held b u)
  blocks_step k b q hb e o below false u =
      quarterly k b q (blocks_in cover k) Old hb e (λ c. h.only q c) (λ c same. off b q u c same)
      (λ r c hr er _. below r hr er (⊎_elim (λ cb. absurd (not_held b u cb)) (λ m. m.all r c) (one_cases n t segs cover s k b o)))

  -- the blocks of the set in a block that is one
  pub blocks_in_law : (k : ℕ) (b q : Block) → IsBlock n b → b.side ≡ side k → one k b ≡ true → Contains (blocks_in cover k b) q ↔ (Within q b × Old q)
  blocks_in_law ℕ.zero b q hb e o = itself b q (held b o)
  blocks_in_law (ℕ.suc k) b q hb e o = blocks_step k b q hb e o (λ r hr er u. blocks_in_law k r q hr er u) (sets.contains cover b) refl

  -- ---- what comes, goes and stays
  abbrev Comes : Block → Type 0
  Comes q = New q × (Old q → ⊥)

  abbrev Goes : Block → Type 0
  Goes q = Old q × (New q → ⊥)

  abbrev Stays : Block → Type 0
  Stays q = Old q × New q × (meets s (square q) ≡ true)

  -- a block of one pixel
  tiny : (b q : Block) → IsFree 0 b → IsBlock n q → Within q b → q ≡ b
  tiny b q g hq w = let e = g.size in let pos = side_pos n q hq in same_size n q b hq g.block w (omega arith)

  tiny_old : (b q : Block) → IsFree 0 b → New q → Within q b → Old q
  tiny_old b q g c w =
      let same = tiny b q g (later_cover.only q c) w in
      let eb : q.side ≡ b.side = ap (λ (z : Block). z.side) same in
      held q (is_so 0 q (later_cover.only q c) (eb ∙ g.size) c)

  tiny_new : (b q : Block) → IsFree 0 b → Old q → Within q b → New q
  tiny_new b q g c w =
      let same = tiny b q g (h.only q c) w in
      subst (λ (z : Block). New z) (sym same) (stands 0 b g (one_here n t segs cover s 0 b (subst (λ (z : Block). Old z) same c)))

  -- the quarters of a block that is not one lie in none that is one
  pub quarter_free : (k : ℕ) (b r : Block) → (one (ℕ.suc k) b ≡ true → ⊥) → IsBlock n r → r.side ≡ side k → parent_of r ≡ b → IsFree k r
  quarter_free k b r away hr e p = record { block = hr; size = e; free = λ _ u. away (subst (λ (z : Block). one (ℕ.suc k) z ≡ true) p u) }

  pub not_one : (k : ℕ) (b : Block) → sets.contains cover b ≡ false → becomes_one t segs cover s k b ≡ false → one (ℕ.suc k) b ≡ true → ⊥
  not_one k b u v o =
      ⊎_elim (λ c. not_held b u c) (λ m. both_ways (becomes_one t segs cover s k b) v (becomes_from n t segs cover s k b m)) (one_cases n t segs cover s k b o)

  not_same : (k : ℕ) (b q : Block) → IsFree (ℕ.suc k) b → (one (ℕ.suc k) b ≡ true → ⊥) → New q → q ≡ b → ⊥
  not_same k b q g away c same = away (is_so (ℕ.suc k) b g.block g.size (subst (λ (z : Block). New z) same c))

  none : (q b : Block) (P : Block → Type 0) → (Within q b → P q → ⊥) → Contains [] q ↔ (Within q b × P q)
  none q b P away = (λ c. absurd (Contains-nil q c), λ w. absurd (away w.0 w.1))

  -- where the descent stops, nothing comes or goes
  stop_comes : (k : ℕ) (b q : Block) → IsFree k b → (sets.contains cover b || not (meets s (square b))) ≡ true → Within q b → Comes q → ⊥
  stop_comes k b q g e w c =
      ⊎_elim
      (λ u.
      let cb = held b u in
      let same = one_new q b c.0 (stands k b g (one_here n t segs cover s k b cb)) w in
      c.1 (subst (λ (z : Block). Old z) (sym same) cb))
      (λ u. both_ways (meets s (square b)) (not-true (meets s (square b)) u) (meets_within s q b w (new_met q c.0 c.1)))
      (or_cases (sets.contains cover b) (not (meets s (square b))) e)

  stop_goes : (k : ℕ) (b q : Block) → IsFree k b → (sets.contains cover b || not (meets s (square b))) ≡ true → Within q b → Goes q → ⊥
  stop_goes k b q g e w c =
      ⊎_elim
      (λ u.
      let cb = held b u in
      c.1 (subst (λ (z : Block). New z) (sym (one_old q b c.0 cb w)) (stands k b g (one_here n t segs cover s k b cb))))
      (λ u. c.1 (unmet_stays k b q g (not-true (meets s (square b)) u) c.0 w))
      (or_cases (sets.contains cover b) (not (meets s (square b))) e)

  pub goes_on : (k : ℕ) (b : Block) → (sets.contains cover b || not (meets s (square b))) ≡ false → sets.contains cover b ≡ false
  goes_on k b e =
      ⊎_elim (λ u. absurd (both_ways (sets.contains cover b || not (meets s (square b))) e
      (or_left (sets.contains cover b) (not (meets s (square b))) u))) (λ u. u)
      (cases_Bool (sets.contains cover b))

  becomes_new : (k : ℕ) (b : Block) → IsFree (ℕ.suc k) b → becomes_one t segs cover s k b ≡ true → New b
  becomes_new k b g v = stands (ℕ.suc k) b g (one_becomes n t segs cover s k b (becomes_says n t segs cover s k b v))

  come_step : (k : ℕ) (b q : Block) → IsFree (ℕ.suc k) b
      → ((r : Block) → IsFree k r → Contains (coming_in t segs cover s k r) q ↔ (Within q r × Comes q))
      → (u v : Bool) → (sets.contains cover b || not (meets s (square b))) ≡ u → becomes_one t segs cover s k b ≡ v
      → Contains (cond {A = List Block} u [] (cond {A = List Block} v (b ∷ []) (flat_map (coming_in t segs cover s k) (quarters_of b)))) q
      ↔ (Within q b × Comes q)
  come_step k b q g below true v eu ev = none q b Comes (λ w c. stop_comes (ℕ.suc k) b q g eu w c)
  come_step k b q g below false true eu ev =
      let nb = becomes_new k b g ev in
      let away = not_held b (goes_on k b eu) in (
        λ c. subst (λ (z : Block). Within z b × Comes z) (only b q c) (Within-self b, (nb, away)),
        λ w. subst (Contains (b ∷ [])) (sym (one_new q b w.1.0 nb w.0)) (Contains-here b []),
      )
  come_step k b q g below false false eu ev =
      let away = not_one k b (goes_on k b eu) ev in
      quarterly k b q (coming_in t segs cover s k) Comes g.block g.size (λ c. later_cover.only q c.0) (λ c same. not_same k b q g away c.0 same)
      (λ r c hr er p. below r (quarter_free k b r away hr er p))

  pub come_law : (k : ℕ) (b q : Block) → IsFree k b → Contains (coming_in t segs cover s k b) q ↔ (Within q b × Comes q)
  come_law ℕ.zero b q g = none q b Comes (λ w c. c.1 (tiny_old b q g c.0 w))
  come_law (ℕ.suc k) b q g =
      come_step k b q g (λ r f. come_law k r q f) (sets.contains cover b || not (meets s (square b))) (becomes_one t segs cover s k b) refl refl

  go_step : (k : ℕ) (b q : Block) → IsFree (ℕ.suc k) b
      → ((r : Block) → IsFree k r → Contains (going_in t segs cover s k r) q ↔ (Within q r × Goes q))
      → (u v : Bool) → (sets.contains cover b || not (meets s (square b))) ≡ u → becomes_one t segs cover s k b ≡ v
      → Contains (cond {A = List Block} u []
      (cond {A = List Block} v (flat_map (blocks_in cover k) (quarters_of b)) (flat_map (going_in t segs cover s k) (quarters_of b)))) q
      ↔ (Within q b × Goes q)
  go_step k b q g below true v eu ev = none q b Goes (λ w c. stop_goes (ℕ.suc k) b q g eu w c)
  go_step k b q g below false true eu ev =
      let nb = becomes_new k b g ev in
      let u = goes_on k b eu in
      let m = becomes_says n t segs cover s k b ev in
      let law = quarterly k b q (blocks_in cover k) Old g.block g.size (λ c. h.only q c) (λ c same. off b q u c same)
      (λ r c hr er _. blocks_in_law k r q hr er (m.all r c)) in (
        λ c. let w = law.0 c in (w.0, (w.1, λ x. off b q u w.1 (one_new q b x nb w.0))),
        λ w. law.1 (w.0, w.1.0),
      )
  go_step k b q g below false false eu ev =
      let u = goes_on k b eu in
      quarterly k b q (going_in t segs cover s k) Goes g.block g.size (λ c. h.only q c.0) (λ c same. off b q u c.0 same)
      (λ r c hr er p. below r (quarter_free k b r (not_one k b u ev) hr er p))

  pub go_law : (k : ℕ) (b q : Block) → IsFree k b → Contains (going_in t segs cover s k b) q ↔ (Within q b × Goes q)
  go_law ℕ.zero b q g = none q b Goes (λ w c. c.1 (tiny_new b q g c.0 w))
  go_law (ℕ.suc k) b q g =
      go_step k b q g (λ r f. go_law k r q f) (sets.contains cover b || not (meets s (square b))) (becomes_one t segs cover s k b) refl refl

  stay_here : (k : ℕ) (b q : Block) → IsFree k b → Old b → meets s (square b) ≡ true → Contains (b ∷ []) q ↔ (Within q b × Stays q)
  stay_here k b q g cb m = (
    λ c. subst (λ (z : Block). Within z b × Stays z) (only b q c) (Within-self b, (cb, stands k b g (one_here n t segs cover s k b cb), m)),
    λ w. subst (Contains (b ∷ [])) (sym (one_old q b w.1.0 cb w.0)) (Contains-here b []),
  )

  stay_unmet : (b q : Block) → meets s (square b) ≡ false → Within q b → Stays q → ⊥
  stay_unmet b q f w c = both_ways (meets s (square b)) f (meets_within s q b w c.2)

  stay_tiny : (b q : Block) → IsFree 0 b → (u : Bool) → (sets.contains cover b && meets s (square b)) ≡ u
      → Contains (cond {A = List Block} u (b ∷ []) []) q ↔ (Within q b × Stays q)
  stay_tiny b q g true e = let w = and_parts (sets.contains cover b) (meets s (square b)) e in stay_here 0 b q g (held b w.0) w.1
  stay_tiny b q g false e =
      none q b Stays
      (λ w c.
      let same = tiny b q g (h.only q c.0) w in
      both_ways (sets.contains cover b && meets s (square b)) e
      (and_from (sets.contains cover b) (meets s (square b)) ((contains_is block_total block_same cover b).1 (subst (λ (z : Block). Old z) same c.0))
      (subst (λ (z : Block). meets s (square z) ≡ true) same c.2)))

  stay_step : (k : ℕ) (b q : Block) → IsFree (ℕ.suc k) b
      → ((r : Block) → IsFree k r → Contains (staying_in t segs cover s k r) q ↔ (Within q r × Stays q))
      → (m u v : Bool) → not (meets s (square b)) ≡ m → sets.contains cover b ≡ u → becomes_one t segs cover s k b ≡ v
      → Contains (cond {A = List Block} m []
      (cond {A = List Block} u (b ∷ []) (cond {A = List Block} v [] (flat_map (staying_in t segs cover s k) (quarters_of b))))) q ↔ (Within q b × Stays q)
  stay_step k b q g below true u v em eu ev = none q b Stays (λ w c. stay_unmet b q (not-true (meets s (square b)) em) w c)
  stay_step k b q g below false true v em eu ev =
      stay_here (ℕ.suc k) b q g (held b eu)
      (⊎_elim (λ y. y) (λ f. absurd (both_ways (not (meets s (square b))) em (not_from_false (meets s (square b)) f))) (cases_Bool (meets s (square b))))
  stay_step k b q g below false false true em eu ev =
      none q b Stays (λ w c. off b q eu c.0 (one_new q b c.1 (becomes_new k b g ev) w))
  stay_step k b q g below false false false em eu ev =
      quarterly k b q (staying_in t segs cover s k) Stays g.block g.size (λ c. h.only q c.0) (λ c same. off b q eu c.0 same)
      (λ r c hr er p. below r (quarter_free k b r (not_one k b eu ev) hr er p))

  pub stay_law : (k : ℕ) (b q : Block) → IsFree k b → Contains (staying_in t segs cover s k b) q ↔ (Within q b × Stays q)
  stay_law ℕ.zero b q g = stay_tiny b q g (sets.contains cover b && meets s (square b)) refl
  stay_law (ℕ.suc k) b q g =
      stay_step k b q g (λ r f. stay_law k r q f) (not (meets s (square b))) (sets.contains cover b) (becomes_one t segs cover s k b) refl refl refl

  -- ---- from the whole square
  pub all_free : IsFree n (whole n)
  all_free = record { block = IsBlock-whole n; size = refl; free = λ lt _. absurd (omega arith) }

  pub coming_are : (q : Block) → Contains (coming_in t segs cover s n (whole n)) q
      ↔ (Contains (sets.items (after_remove n t segs cover s)) q × (Contains (sets.items cover) q → ⊥))
  coming_are q = let w = come_law n (whole n) q all_free in (λ c. (w.0 c).1, λ c. w.1 (Within-whole n q (later_cover.only q c.0), c))

  pub going_are : (q : Block) → Contains (going_in t segs cover s n (whole n)) q
      ↔ (Contains (sets.items cover) q × (Contains (sets.items (after_remove n t segs cover s)) q → ⊥))
  going_are q = let w = go_law n (whole n) q all_free in (λ c. (w.0 c).1, λ c. w.1 (Within-whole n q (h.only q c.0), c))

  pub staying_are : (q : Block) → Contains (staying_in t segs cover s n (whole n)) q
      ↔ (Contains (sets.items cover) q × Contains (sets.items (after_remove n t segs cover s)) q × (meets s (square q) ≡ true))
  staying_are q = let w = stay_law n (whole n) q all_free in (λ c. (w.0 c).1, λ c. w.1 (Within-whole n q (h.only q c.0), c))

  -- of a block that the segment does not meet nothing has to be known but whether it is one of the set
  pub one_unmet : (k : ℕ) (b : Block) → meets s (square b) ≡ false → one k b ≡ true → Contains (sets.items cover) b
  one_unmet ℕ.zero b f o = held b o
  one_unmet (ℕ.suc k) b f o = ⊎_elim (λ c. c) (λ m. absurd (both_ways (meets s (square b)) f m.met)) (one_cases n t segs cover s k b o)
