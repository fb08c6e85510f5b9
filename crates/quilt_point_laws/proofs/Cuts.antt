-- No block stands twice in a cut, and no fact twice among the facts of blocks that differ.
use Rattle.std.proofs.Common.{◌≡◌, ℕ, zero, suc, ◌+◌, ◌/◌, ◌^◌, ◌<◌, ◌≤◌, Bool, true, false, cond, [], ◌∷◌, ap, subst, arith, ⊎_elim, Contains}
use Rattle.std.proofs.Common.{flat_map, pow-suc, pow_pos}
use Rattle.quilt_types.specs.declared.plane.Block.{Block}
use Rattle.quilt_types.specs.Plane.{corner, quarters_of, IsBlock, Within}
use Rattle.quilt_blocks.specs.Cutting.{cut}
use Rattle.quilt_spell.specs.Apart.{Apart}
use Rattle.quilt_loc.proofs.Members.{Contains-nil, Contains-cons_cases, Contains-flat_map_from}
use Rattle.quilt_loc.proofs.Nesting.{Within-holds, Within-trans, Holds-corner, same_block_from}
use Rattle.quilt_spell.proofs.Lists.{Apart-flat_map}
use Rattle.quilt_loc.proofs.Quartered.{quarters_are}
use Rattle.quilt_blocks.proofs.Maximal.{Within-self}

pub Apart-one : {X : Type 0} (x : X) → Apart (x ∷ [])
Apart-one x = (λ c. Contains-nil x c, tt)

-- the quarters of a block of more than one pixel differ
pub quarters_apart : (b : Block) → 1 < b.side → 1 ≤ b.side / 2 → Apart (quarters_of b)
quarters_apart b wide half =
    let h = b.side / 2 in
    let one : ℕ → ℕ → Block = λ x y. record { x = x; y = y; side = h } in
    let right : (x y v w : ℕ) → one x y ≡ one v w → x ≡ v = λ x y v w e. ap (λ (z : Block). z.x) e in
    let down : (x y v w : ℕ) → one x y ≡ one v w → y ≡ w = λ x y v w e. ap (λ (z : Block). z.y) e in
    let a = one b.x b.y in
    let c = one (b.x + h) b.y in
    let d = one b.x (b.y + h) in
    let e = one (b.x + h) (b.y + h) in
    let ca : c ≡ a → ⊥ = λ q. let z : b.x + h ≡ b.x = right (b.x + h) b.y b.x b.y q in omega arith in
    let da : d ≡ a → ⊥ = λ q. let z : b.y + h ≡ b.y = down b.x (b.y + h) b.x b.y q in omega arith in
    let ea : e ≡ a → ⊥ = λ q. let z : b.x + h ≡ b.x = right (b.x + h) (b.y + h) b.x b.y q in omega arith in
    let dc : d ≡ c → ⊥ = λ q. let z : b.y + h ≡ b.y = down b.x (b.y + h) (b.x + h) b.y q in omega arith in
    let ec : e ≡ c → ⊥ = λ q. let z : b.y + h ≡ b.y = down (b.x + h) (b.y + h) (b.x + h) b.y q in omega arith in
    let ed : e ≡ d → ⊥ = λ q. let z : b.x + h ≡ b.x = right (b.x + h) (b.y + h) b.x (b.y + h) q in omega arith in (
      λ m. ⊎_elim ca (λ m1. ⊎_elim da (λ m2. ⊎_elim ea (λ m3. Contains-nil a m3) (Contains-cons_cases e [] a m2))
          (Contains-cons_cases d (e ∷ []) a m1)) (Contains-cons_cases c (d ∷ e ∷ []) a m),
      (
        λ m. ⊎_elim dc (λ m2. ⊎_elim ec (λ m3. Contains-nil c m3) (Contains-cons_cases e [] c m2)) (Contains-cons_cases d (e ∷ []) c m),
        (
          λ m. ⊎_elim ed (λ m3. Contains-nil d m3) (Contains-cons_cases e [] d m),
          Apart-one e,
        ),
      ),
    )

module _ (n : ℕ) (fits : Block → Bool) where
  -- a block of a cut
  pub record IsPart (b e : Block) : Type 0 where
    pub block : IsBlock n e
    pub within : Within e b

  whole_part : (b e : Block) → IsBlock n b → Contains (b ∷ []) e → IsPart b e
  whole_part b e hb c =
      subst (IsPart b) (⊎_elim (λ q. q) (λ no. absurd (Contains-nil e no)) (Contains-cons_cases b [] e c)) (record { block = hb; within = Within-self b })

  part_step : (k : ℕ) (b : Block) → IsBlock n b → b.side ≡ 2 ^ suc k → (e : Block)
      → ((r : Block) → IsBlock n r → r.side ≡ 2 ^ k → Contains (cut fits k r) e → IsPart r e)
      → (t : Bool) → Contains (cond t (b ∷ []) (flat_map (cut fits k) (quarters_of b))) e → IsPart b e
  part_step k b hb s e law true c = whole_part b e hb c
  part_step k b hb s e law false c =
      let p2 = pow-suc 2 k in
      let pos = pow_pos k in
      let r = Contains-flat_map_from (cut fits k) (quarters_of b) e c in
      let q = quarters_are n b r.0 hb (omega arith) r.1 in
      let half = q.half in
      let w = law r.0 q.block (omega arith) r.2 in
      record { block = w.block; within = Within-trans e r.0 b w.within q.within }

  pub cut_part : (k : ℕ) (b : Block) → IsBlock n b → b.side ≡ 2 ^ k → (e : Block) → Contains (cut fits k b) e → IsPart b e
  cut_part zero b hb s e c = whole_part b e hb c
  cut_part (suc k) b hb s e c = part_step k b hb s e (λ r hr sr m. cut_part k r hr sr e m) (fits b) c

  apart_step : (k : ℕ) (b : Block) → IsBlock n b → b.side ≡ 2 ^ suc k → ((r : Block) → IsBlock n r → r.side ≡ 2 ^ k → Apart (cut fits k r))
      → (t : Bool) → Apart (cond t (b ∷ []) (flat_map (cut fits k) (quarters_of b)))
  apart_step k b hb s law true = Apart-one b
  apart_step k b hb s law false =
      let p2 = pow-suc 2 k in
      let pos = pow_pos k in
      let at = λ (r : Block) (c : Contains (quarters_of b) r). quarters_are n b r hb (omega arith) c in
      Apart-flat_map (cut fits k) (quarters_of b) (quarters_apart b (omega arith) (omega arith))
      (λ r c. let q = at r c in let half = q.half in law r q.block (omega arith))
      (λ r u e c d x y.
      let q = at r c in
      let v = at u d in
      let hq = q.half in
      let hv = v.half in
      let m = cut_part k r q.block (omega arith) e x in
      let l = cut_part k u v.block (omega arith) e y in
      let on = Holds-corner n e m.block in
      same_block_from n r u (corner e) q.block v.block (omega arith) (Within-holds e r (corner e) m.within on) (Within-holds e u (corner e) l.within on))
