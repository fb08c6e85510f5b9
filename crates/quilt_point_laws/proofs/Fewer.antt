-- A del of a point layer never makes more records: each point of a block has one of its own.
use Rattle.std.proofs.Common.{◌≡◌, ℕ, zero, suc, ◌+◌, ◌*◌, ◌/◌, ◌^◌, ◌≤◌, Bool, true, false, cond, nat_lt, nat_le, List, [], ◌∷◌, map, length}
use Rattle.std.proofs.Common.{refl, subst, arith, ⊎_elim, Contains, filter, flat_map, eqb, ltb-true, length-append, pow-suc, pow_pos}
use Rattle.std.specs.FinMap as finmap
use Rattle.std.proofs.lemmas.Bool.{cases_lt, and_parts}
use Rattle.std.proofs.lemmas.List.{length-map}
use Rattle.std.proofs.lemmas.List.Elements.{All-contains}
use Rattle.quilt_types.specs.declared.plane.Block.{Block}
use Rattle.quilt_types.specs.declared.plane.Pixel.{Pixel}
use Rattle.quilt_types.specs.Plane.{side, in_block, is_pixel, pixel_cmp, quarters_of, Holds, IsBlock}
use Rattle.quilt_types.specs.Quadtrees.{holds_few}
use Rattle.quilt_types.specs.Facts.{Fact, HoldsPoint, HoldsNoPoint}
use Rattle.quilt_record.specs.declared.record.Record.{Record}
use Rattle.quilt_record.specs.Records.{record_of}
use Rattle.quilt_spell.specs.Apart.{Apart}
use Rattle.quilt_loc.proofs.Members.{Contains-here, Contains-there, Contains-cons_cases, Contains-filter, Contains-filter_from, Contains-flat_map}
use Rattle.quilt_loc.proofs.Blocks.{Holds-from, in_block-true}
use Rattle.quilt_loc.proofs.PlaneOrders.{pixel_total}
use Rattle.quilt_loc.proofs.Quartered.{quarters_are}
use Rattle.quilt_spell.proofs.facts.FactKeys.{pixel_same}
use Rattle.quilt_spell.proofs.Lists.{Apart-filter, Apart-le, same_length}
use Rattle.quilt_spell.proofs.Maps.{entry_from_get}
use Rattle.quilt_blocks.proofs.Maximal.{IsMaximal-from}
use Rattle.quilt_point_laws.specs.Laws.{AreIn, DelCountLaw}
use Rattle.quilt_point_laws.specs.Plans.{without_it, with_it}
use Rattle.quilt_point_laws.specs.Spreading.{held_facts, spread}
use Rattle.quilt_point_laws.proofs.Counts.{del_comes, entries_apart}
use Rattle.quilt_point_laws.proofs.Leads.{points_lead}
use Rattle.quilt_point_laws.proofs.Plans.{block_around, del_valid, one_less}

abbrev Held : Type 0
Held = List (Pixel × ℕ)

-- ---- lists
all_held : (b : Block) (held : Held) → length held ≤ length (held_facts b held)
all_held b [] = omega arith
all_held b (e ∷ es) = let l = length-map (e ∷ es) (λ (d : Pixel × ℕ). HoldsPoint b d.0 d.1) in omega arith

one_held : (b : Block) (held : Held) → length (held_facts b held) ≤ length held + 1
one_held b [] = omega arith
one_held b (e ∷ es) = let l = length-map (e ∷ es) (λ (d : Pixel × ℕ). HoldsPoint b d.0 d.1) in omega arith

flat_map_le : {X Y Z : Type 0} (f : X → List Y) (g : X → List Z) (xs : List X) → ((x : X) → Contains xs x → length (f x) ≤ length (g x))
    → length (flat_map f xs) ≤ length (flat_map g xs)
flat_map_le f g [] h = omega arith
flat_map_le f g (x ∷ xs) h =
    let here = h x (Contains-here x xs) in
    let rest = flat_map_le f g xs (λ y c. h y (Contains-there x xs y c)) in
    let a = length-append (f x) (flat_map f xs) in
    let b = length-append (g x) (flat_map g xs) in
    omega arith

-- ---- a pixel of a block lies in a quarter
pub quarter_around : (b : Block) (p : Pixel) → 2 * (b.side / 2) ≡ b.side → Holds b p → (r : Block) × Contains (quarters_of b) r × (in_block r p ≡ true)
quarter_around b p even on =
    let h = b.side / 2 in
    let left = on.left in
    let right = on.right in
    let top = on.top in
    let bottom = on.bottom in
    let at : ℕ → ℕ → Block = λ x y. record { x = x; y = y; side = h } in
    ⊎_elim
    (λ west.
    ⊎_elim
    (λ north. (
      at b.x b.y,
      (0, omega arith, refl),
      in_block-true (at b.x b.y) p
          (record { left = omega arith; right = omega arith; top = omega arith; bottom = omega arith }),
    ))
    (λ south. (
      at b.x (b.y + h),
      (2, omega arith, refl),
      in_block-true (at b.x (b.y + h)) p
          (record { left = omega arith; right = omega arith; top = omega arith; bottom = omega arith }),
    ))
    (cases_lt p.y (b.y + h)))
    (λ east.
    ⊎_elim
    (λ north. (
      at (b.x + h) b.y,
      (1, omega arith, refl),
      in_block-true (at (b.x + h) b.y) p
          (record { left = omega arith; right = omega arith; top = omega arith; bottom = omega arith }),
    ))
    (λ south. (
      at (b.x + h) (b.y + h),
      (3, omega arith, refl),
      in_block-true (at (b.x + h) (b.y + h)) p
          (record { left = omega arith; right = omega arith; top = omega arith; bottom = omega arith }),
    ))
    (cases_lt p.y (b.y + h)))
    (cases_lt p.x (b.x + h))

-- ---- points that are spread
module _ (n capacity : ℕ) where
  spread_step : (k : ℕ) (b : Block) → IsBlock n b → b.side ≡ 2 ^ suc k → (held : Held) → Apart held
      → ((e : Pixel × ℕ) → Contains held e → in_block b e.0 ≡ true)
      → ((r : Block) (some : Held) → IsBlock n r → r.side ≡ 2 ^ k → Apart some → ((e : Pixel × ℕ) → Contains some e → in_block r e.0 ≡ true)
      → length some ≤ length (spread capacity k r some))
      → (t : Bool) → length held ≤ length (cond t (held_facts b held) (flat_map (λ r. spread capacity k r (filter (λ e. in_block r e.0) held)) (quarters_of b)))
  spread_step k b hb s held once inside law true = all_held b held
  spread_step k b hb s held once inside law false =
      let p2 = pow-suc 2 k in
      let pos = pow_pos k in
      let sub : Block → Held = λ r. filter (λ e. in_block r e.0) held in
      let cut = Apart-le held (flat_map (λ r. filter (λ e. in_block r e.0) held) (quarters_of b)) once (λ e c.
      let q = quarter_around b e.0 (omega arith) (Holds-from b e.0 (inside e c)) in
      Contains-flat_map (λ r. filter (λ e. in_block r e.0) held) (quarters_of b) q.0 e q.1
      (Contains-filter (λ (d : Pixel × ℕ). in_block (q.0) d.0) held e c q.2)) in
      let more = flat_map_le (λ r. filter (λ (e : Pixel × ℕ). in_block r e.0) held) (λ r. spread capacity k r (filter (λ e. in_block r e.0) held))
      (quarters_of b) (λ r c.
      let q = quarters_are n b r hb (omega arith) c in
      let half = q.half in
      law r (sub r) q.block (omega arith) (Apart-filter (λ (e : Pixel × ℕ). in_block r e.0) held once)
      (λ e d. (Contains-filter_from (λ (e : Pixel × ℕ). in_block r e.0) held e d).1)) in
      omega arith

  -- each point has a fact of its own
  pub spread_all : (k : ℕ) (b : Block) → IsBlock n b → b.side ≡ 2 ^ k → (held : Held) → Apart held
      → ((e : Pixel × ℕ) → Contains held e → in_block b e.0 ≡ true) → length held ≤ length (spread capacity k b held)
  spread_all zero b hb s held once inside = all_held b held
  spread_all (suc k) b hb s held once inside =
      spread_step k b hb s held once inside (λ r some hr sr o i. spread_all k r hr sr some o i) (nat_le (length held) capacity)

  -- a block without a point has no more facts than with it
  fewer_by : (k : ℕ) (b : Block) → IsBlock n b → b.side ≡ 2 ^ k → (held : Held) (p : Pixel) (label : ℕ) → Apart ((p, label) ∷ held)
      → ((e : Pixel × ℕ) → Contains ((p, label) ∷ held) e → in_block b e.0 ≡ true)
      → (t u : Bool) → length (cond t (cond u (HoldsNoPoint b ∷ []) []) (held_facts b held))
      ≤ length (cond t (HoldsPoint b p label ∷ []) (spread capacity k b ((p, label) ∷ held)))
  fewer_by k b hb s held p label once inside true true = omega arith
  fewer_by k b hb s held p label once inside true false = omega arith
  fewer_by k b hb s held p label once inside false u =
      let few = one_held b held in
      let many = spread_all k b hb s ((p, label) ∷ held) once inside in
      omega arith

pub del_count_law : DelCountLaw
del_count_law form n name number capacity le some points valid p label there removed added leads =
    let after = finmap.remove points p in
    let h = del_comes points p label there in
    let member = entry_from_get pixel_cmp pixel_total pixel_same points p label there in
    let on = and_parts (nat_lt p.x (side n)) (nat_lt p.y (side n))
    (All-contains (λ (e : Pixel × ℕ). is_pixel n e.0 ≡ true) (finmap.entries points) (p, label) valid.inside member) in
    let around = block_around n capacity after p valid.least (ltb-true p.x (side n) on.0) (ltb-true p.y (side n) on.1) in
    let c = around.block in
    let gc = IsMaximal-from n (holds_few capacity after) c around.maximal in
    let k = gc.block.level in
    let test : Pixel × ℕ → Bool = λ e. in_block c e.0 in
    let held = filter test (finmap.entries after) in
    let are : AreIn after c held = record { once = Apart-filter test (finmap.entries after) (entries_apart after); members = λ e. (λ m. m, λ m. m) } in
    let ch = one_less after points p label h n capacity valid.least c gc around.holds k gc.block.size held are in
    let plan = points_lead form n name number capacity le some points after valid (del_valid form n capacity after points p label h valid)
    (with_it capacity k c held p label) (without_it capacity c held) ch.swaps ch.gone_once ch.come_once in
    let record_for : Fact → Record = λ f. record_of n capacity name number f in
    let gone = same_length removed (map record_for (with_it capacity k c held p label)) leads.remove_once plan.remove_once
    (λ r. (λ m. (plan.remove r).1 ((leads.remove r).0 m), λ m. (leads.remove r).1 ((plan.remove r).0 m))) in
    let come = same_length added (map record_for (without_it capacity c held)) leads.add_once plan.add_once
    (λ r. (λ m. (plan.add r).1 ((leads.add r).0 m), λ m. (leads.add r).1 ((plan.add r).0 m))) in
    let lg = length-map (with_it capacity k c held p label) record_for in
    let lc = length-map (without_it capacity c held) record_for in
    let new : Apart ((p, label) ∷ held) = (λ m. h.fresh label (Contains-filter_from test (finmap.entries after) (p, label) m).0, are.once) in
    let inside : (e : Pixel × ℕ) → Contains ((p, label) ∷ held) e → in_block c e.0 ≡ true = λ e m.
    ⊎_elim (λ is. subst (λ (d : Pixel × ℕ). in_block c d.0 ≡ true) is (in_block-true c p around.holds))
    (λ d. (Contains-filter_from test (finmap.entries after) e d).1) (Contains-cons_cases (p, label) held e m) in
    let few = fewer_by n capacity k c gc.block gc.block.size held p label new inside (nat_lt (length held) capacity) (eqb (length held) 0) in
    omega arith
