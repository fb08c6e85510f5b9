-- Two tests that differ only on blocks that hold one pixel: which maximal blocks the one has and the other has not.
use Rattle.std.proofs.Common.{◌≡◌, ℕ, ◌^◌, ◌<◌, ◌⊎◌, ◌↔◌, Bool, true, false, sym, ◌∙◌, ap, subst, inl, inr, ⊎_elim, arith, Contains}
use Rattle.std.proofs.lemmas.Bool.{cases_Bool, cases_lt, both_ways}
use Rattle.quilt_types.specs.declared.plane.Pixel.{Pixel}
use Rattle.quilt_types.specs.declared.plane.Block.{Block}
use Rattle.quilt_types.specs.Plane.{in_block, parent_of, Holds, IsBlock, Within}
use Rattle.quilt_blocks.specs.Cutting.{cut}
use Rattle.quilt_loc.proofs.Blocks.{Holds-from, in_block-true}
use Rattle.quilt_loc.proofs.Nesting.{Within-trans, nested, parent_within, IsBlock-parent_of, Within-parent_of}
use Rattle.quilt_loc.proofs.Quartered.{side_le}
use Rattle.quilt_blocks.proofs.Maximal.{IsMaximal, GoesDown, alone, cut_law}

-- the thin test passes less than the wide one, and differs from it only on blocks that hold the pixel
pub record Narrows (wide thin : Block → Bool) (p : Pixel) : Type 0 where
  pub less : (b : Block) → thin b ≡ true → wide b ≡ true
  pub same : (b : Block) → (Holds b p → ⊥) → wide b ≡ true → thin b ≡ true

pub in_or_out : (b : Block) (p : Pixel) → Holds b p ⊎ (Holds b p → ⊥)
in_or_out b p = ⊎_elim (λ t. inl (Holds-from b p t)) (λ f. inr (λ h. both_ways (in_block b p) f (in_block-true b p h))) (cases_Bool (in_block b p))

-- two maximal blocks that share a pixel are one
pub one_maximal : (n : ℕ) (fits : Block → Bool) → GoesDown n fits → (a b : Block) (q : Pixel) → IsMaximal n fits a → IsMaximal n fits b
    → Holds a q → Holds b q → a ≡ b
one_maximal n fits goes a b q ga gb ha hb =
    ⊎_elim
    (λ lt. sym (alone n fits goes b a gb ga.block ga.passes (nested n b a q gb.block ga.block (omega arith) hb ha)))
    (λ ge. alone n fits goes a b ga gb.block gb.passes (nested n a b q ga.block gb.block ge ha hb)) (cases_lt b.side a.side)

-- a passing block that shares a pixel with a maximal one lies in it
pub in_maximal : (n : ℕ) (fits : Block → Bool) → GoesDown n fits → (b c : Block) (q : Pixel) → IsBlock n b → fits b ≡ true → Holds b q
    → IsMaximal n fits c → Holds c q → Within b c
in_maximal n fits goes b c q hb u on gc hc =
    ⊎_elim
    (λ lt.
    let top = side_le n b hb in
    let small : c.side < 2 ^ n = omega arith in
    let w = parent_within n c b q gc.block hb lt top hc on in
    absurd (gc.last small (goes.down (parent_of c) b (IsBlock-parent_of n c gc.block small) hb w u)))
    (λ ge. nested n b c q hb gc.block ge on hc) (cases_lt c.side b.side)

module _ (n : ℕ) (wide thin : Block → Bool) (p : Pixel) (goes_wide : GoesDown n wide) (goes_thin : GoesDown n thin) (nar : Narrows wide thin p) where
  -- a block that does not hold the pixel stays
  pub stays : (e : Block) → IsMaximal n wide e → (Holds e p → ⊥) → IsMaximal n thin e
  stays e ge out = record { block = ge.block; passes = nar.same e out ge.passes; last = λ lt u. ge.last lt (nar.less (parent_of e) u) }

  -- c: the wide test's block around the pixel
  module _ (c : Block) (gc : IsMaximal n wide c) (hc : Holds c p) where
    -- what is new lies in it
    pub comes_from : (e : Block) → IsMaximal n thin e → (Holds e p → ⊥) → IsMaximal n wide e ⊎ Within e c
    comes_from e ge out =
        let u = nar.less e ge.passes in
        ⊎_elim
        (λ lt. ⊎_elim
        (λ t. ⊎_elim
        (λ on. inr (Within-trans e (parent_of e) c (Within-parent_of n e ge.block lt)
        (in_maximal n wide goes_wide (parent_of e) c p (IsBlock-parent_of n e ge.block lt) t on gc hc)))
        (λ off. absurd (ge.last lt (nar.same (parent_of e) off t)))
        (in_or_out (parent_of e) p))
        (λ f. inl (record { block = ge.block; passes = u; last = λ _ t. both_ways (wide (parent_of e)) f t }))
        (cases_Bool (wide (parent_of e))))
        (λ big. inl (record { block = ge.block; passes = u; last = λ lt t. omega arith }))
        (cases_lt e.side (2 ^ n))

    -- where the thin test passes it too, all blocks are the same
    pub kept : thin c ≡ true → (e : Block) → IsMaximal n wide e ↔ IsMaximal n thin e
    kept u e =
        let tc : IsMaximal n thin c = record { block = gc.block; passes = u; last = λ lt t. gc.last lt (nar.less (parent_of c) t) } in (
          λ ge. ⊎_elim
              (λ on. subst (IsMaximal n thin) (sym (one_maximal n wide goes_wide e c p ge gc on hc)) tc)
              (λ out. stays e ge out) (in_or_out e p),
          λ ge. ⊎_elim
              (λ on. subst (IsMaximal n wide) (sym (one_maximal n thin goes_thin e c p ge tc on hc)) gc)
              (λ out. ⊎_elim (λ g. g) (λ w. subst (IsMaximal n wide) (sym (alone n thin goes_thin e c ge gc.block u w)) gc) (comes_from e ge out))
              (in_or_out e p),
        )

    module _ (f : thin c ≡ false) where
      -- else it alone goes,
      pub goes : (e : Block) → (IsMaximal n wide e × (IsMaximal n thin e → ⊥)) ↔ (e ≡ c)
      goes e = (
        λ h. ⊎_elim (λ on. one_maximal n wide goes_wide e c p h.0 gc on hc) (λ out. absurd (h.1 (stays e h.0 out))) (in_or_out e p),
        λ is. (subst (IsMaximal n wide) (sym is) gc, λ ge. both_ways (thin c) f (ap thin (sym is) ∙ ge.passes)),
      )

      -- and what comes are the thin test's blocks within it
      pub comes : (e : Block) → (IsMaximal n thin e × (IsMaximal n wide e → ⊥)) ↔ (IsMaximal n thin e × Within e c)
      comes e = (
        λ h. (
          h.0,
          ⊎_elim
              (λ on. in_maximal n wide goes_wide e c p (h.0).block (nar.less e (h.0).passes) on gc hc)
              (λ out. ⊎_elim (λ g. absurd (h.1 g)) (λ w. w) (comes_from e h.0 out)) (in_or_out e p),
        ),
        λ h. (h.0, λ g. both_ways (thin c) f (ap thin (sym (alone n wide goes_wide e c g gc.block gc.passes h.1)) ∙ (h.0).passes)),
      )

      pub thin_are : (e : Block) → IsMaximal n thin e ↔ ((IsMaximal n wide e × (e ≡ c → ⊥)) ⊎ (IsMaximal n thin e × Within e c))
      thin_are e = (
        λ ge. ⊎_elim
            (λ on. inr (ge, in_maximal n wide goes_wide e c p ge.block (nar.less e ge.passes) on gc hc))
            (λ out. ⊎_elim (λ g. inl (g, λ is. out (subst (λ (z : Block). Holds z p) (sym is) hc))) (λ w. inr (ge, w)) (comes_from e ge out))
            (in_or_out e p),
        λ h. ⊎_elim
            (λ l. ⊎_elim (λ on. absurd (l.1 (one_maximal n wide goes_wide e c p l.0 gc on hc))) (λ out. stays e l.0 out) (in_or_out e p))
            (λ r. r.0) h,
      )

      -- the thin test's blocks within it are what the recursion over quarters finds
      pub cut_within : ((b : Block) → IsBlock n b → b.side ≡ 1 → thin b ≡ true) → (k : ℕ) → c.side ≡ 2 ^ k → (e : Block) → Contains (cut thin k c) e
          ↔ (IsMaximal n thin e × Within e c)
      cut_within pixel k s e = cut_law n thin goes_thin pixel k c gc.block s (λ lt t. gc.last lt (nar.less (parent_of c) t)) e
