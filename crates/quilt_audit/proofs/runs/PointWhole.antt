-- The records of a point layer that are all.
use Rattle.std.proofs.Common.{◌≡◌, ℕ, ◌+◌, ◌/◌, ◌^◌, ◌≤◌, cond, List, [], ◌∷◌, map, refl, sym, ◌∙◌, ap, inl, inr, ⊎_elim, arith, count_by, ltb-true, leb-true}
use Rattle.std.proofs.Common.{le-leb, nat_lt}
use Rattle.std.proofs.lemmas.Bool.{and_parts}
use Rattle.std.proofs.lemmas.List.Sums.{sum_by-cons}
use Rattle.quilt_types.specs.declared.plane.Block.{Block}
use Rattle.quilt_types.specs.declared.plane.Pixel.{Pixel}
use Rattle.quilt_types.specs.declared.plane.Kind.TheVariants as kinds
use Rattle.quilt_types.specs.Plane.{side, in_block}
use Rattle.quilt_types.specs.Layers.{Points}
use Rattle.quilt_types.specs.Quadtrees.{occupancy, holds_few}
use Rattle.quilt_loc.proofs.Nesting.{side_pos}
use Rattle.quilt_loc.proofs.Blocks.{IsBlock-from, Contains-blocks}
use Rattle.quilt_record.specs.declared.record.Record.{Record}
use Rattle.quilt_blocks.proofs.Chains.{one_holds}
use Rattle.quilt_blocks.proofs.Maximal.{IsTiling, IsMaximal-from, Contains-maximal, maximal_are}
use Rattle.quilt_blocks.proofs.Painting.{code_in}
use Rattle.quilt_point_laws.proofs.Counts.{few_down}
use Rattle.quilt_point_laws.proofs.OnBlocks.{on_from, on_is, fact_from, fact_is}
use Rattle.quilt_audit.specs.declared.tally.Tally.{Tally}
use Rattle.quilt_line_audit.specs.Layers.{IsLayerOf}
use Rattle.quilt_audit.specs.Points.{plain, AreClosed}
use Rattle.quilt_audit.proofs.Covering.{block_lies}

count_plain : (p : Pixel) (bs : List Block) → count_by (λ e. in_block e.0 p) (map plain bs) ≡ count_by (λ b. in_block b p) bs
count_plain p [] = refl
count_plain p (b ∷ bs) =
    sum_by-cons (λ (e : Block × ℕ). cond {A = ℕ} (in_block e.0 p) 1 0) (plain b) (map plain bs)
    ∙ ap (λ k. cond {A = ℕ} (in_block b p) 1 0 + k) (count_plain p bs) ∙ sym (sum_by-cons (λ (d : Block). cond {A = ℕ} (in_block d p) 1 0) b bs)

module _ (form n : ℕ) (le : n ≤ 12) (rs : List Record) (layer capacity : ℕ) (recent : List Tally) (h : AreClosed form n rs layer capacity (4 ^ n) recent) where
  tiling : IsTiling n (holds_few capacity h.points) h.blocks
  tiling = record {
    blocks_only = λ b c. Contains-blocks n b (block_lies n h.blocks b h.placed.follows c).block;
    passing = λ b c. le-leb (occupancy h.points b) capacity (h.placed.few b c);
    cover = λ p t.
        let both = and_parts (nat_lt p.x (side n)) (nat_lt p.y (side n)) t in
        let hx = ltb-true p.x (side n) both.0 in
        let hy = ltb-true p.y (side n) both.1 in
        let i = code_in n p le hx hy in
        let z = h.placed.size in
        sym (count_plain p h.blocks) ∙ one_holds n le p hx hy 0 (map plain h.blocks) h.placed.follows (omega arith) (omega arith);
    unmerged = λ b c u part.
        let hb = IsBlock-from n b c in
        let q : Block = record { x = b.x; y = b.y; side = b.side / 2 } in
        let pos = side_pos n q (block_lies n h.blocks q h.placed.follows (part q (0, omega arith, refl))).block in
        let many = h.apart b hb (omega arith) part in
        let few = leb-true (occupancy h.points b) capacity u in
        omega arith;
  }

  -- blocks that cover the square and of which no four can be one are those of the layer
  pub whole_points : IsLayerOf form n rs layer (kinds.Points capacity)
  whole_points =
      let points = h.points in
      let fits = holds_few capacity points in
      let are = maximal_are n fits (few_down n capacity points) h.blocks tiling in record {
        layer = Points capacity points;
        is = refl;
        spelled = record {
          fits = h.placed.valid;
          each = λ f c.
              ⊎_elim (λ k. inl k)
              (λ o. inr (h.placed.has.each o.block f ((are o.block).1 (Contains-maximal n fits o.block o.maximal)) (on_is points o.block f o.on)))
              (fact_from n capacity points f c);
          only = λ r c is.
              let w = h.placed.has.only r c is in (
                w.1,
                fact_is n capacity points w.1
                    (record { block = w.0; maximal = IsMaximal-from n fits w.0 ((are w.0).0 w.2); on = on_from points w.0 w.1 w.3 }),
                w.4,
              );
        };
      }
