use Rattle.std.proofs.Common.{◌≡◌, ◌≤◌, ℕ, ◌+◌, ◌*◌, ◌/◌, ◌∙◌, sym, ap, subst, arith}
use Rattle.quilt_types.specs.declared.plane.Block.{Block}
use Rattle.quilt_loc.specs.Codes.{code_from, code_to}
use Rattle.quilt_loc.proofs.Blocks.{IsBlock-up}
use Rattle.quilt_loc.proofs.Intervals.{half_codes}
use Rattle.quilt_blocks.proofs.Adding.{part_at}
use Rattle.quilt_raster.specs.Painting.{ArePainted}
use Rattle.quilt_raster.proofs.Cells.{ArePainted-missed}
use Rattle.quilt_raster.proofs.paint.+paint.Goals.{then-w-b-via-then-w-b, then-w-b-via-else-w-b+then-b-w, then-w-b-via-else-w-b+else-b-w+then-w-b-2}
use Rattle.quilt_raster.proofs.paint.+paint.Goals.{then-w-b-via-else-w-b+else-b-w+else-w-b-2+then-b-w-2}
use Rattle.quilt_raster.proofs.paint.+paint.Goals as goal

pub returns-then-w-b-clause-after : goal.returns-then-w-b-clause-after
returns-then-w-b-clause-after t c =
    ArePainted-missed c.args.list.now.level c.args.list.now.grid c.args.w c.args.b c.requires.most c.requires.valid c.requires.room.in_x
    c.requires.room.in_y c.args.cells.now
    (λ p i h.
    let l = h.left in
    let r = h.right in
    let u = h.top in
    let d = h.bottom in
    let il = i.left in
    let ir = i.right in
    let it = i.top in
    let ib = i.bottom in
    elim c.then-w-b.branch [
      | then-w-b-via-then-w-b z ↦ let e = z.if-w-b.true in omega arith
      | then-w-b-via-else-w-b+then-b-w z ↦ let e = z.if-b-w.true in omega arith
      | then-w-b-via-else-w-b+else-b-w+then-w-b-2 z ↦ let e = z.if-w-b-2.true in omega arith
      | then-w-b-via-else-w-b+else-b-w+else-w-b-2+then-b-w-2 z ↦ let e = z.if-b-w-2.true in omega arith
    ]) c.requires.before

pub quarters-q-items-requires-clause-valid : goal.quarters-q-items-requires-clause-valid
quarters-q-items-requires-clause-valid t c = IsBlock-up c.args.list.now.level 12 c.args.b c.requires.most c.requires.valid

pub paint-requires : goal.paint-requires
paint-requires t c =
    let n = c.args.list.now.level in
    let wide = c.if-b-le16.false in
    let d : Block = record { x = 0; y = 0; side = 0 } in
    let q = part_at n c.args.b c.quarters-q-items.result c.loop-q.q-index d c.requires.most c.requires.valid
    (omega arith) c.quarters-q-items.ensures.value c.loop-q-test.true in
    let smaller = q.smaller in
    let r = c.requires.room in (
      omega arith,
      (
        c.requires.most,
        (
          q.block,
          (
            record { in_x = r.in_x; in_y = r.in_y; all = subst (λ (k : ℕ). c.args.w.w * c.args.w.h ≤ k) (sym c.loop-q.invariant.long) r.all },
            subst (λ (k : ℕ). ArePainted n c.args.list.now.grid c.args.w k c.loop-q.cells) (sym q.from) c.loop-q.invariant.painted,
          ),
        ),
      ),
    )

pub loop-q-preserved : goal.loop-q-preserved
loop-q-preserved t c =
    let n = c.args.list.now.level in
    let wide = c.if-b-le16.false in
    let d : Block = record { x = 0; y = 0; side = 0 } in
    let q = part_at n c.args.b c.quarters-q-items.result c.loop-q.q-index d c.requires.most c.requires.valid
    (omega arith) c.quarters-q-items.ensures.value c.loop-q-test.true in
    record {
      long = c.paint.ensures.long ∙ c.loop-q.invariant.long;
      painted = subst (λ (k : ℕ). ArePainted n c.args.list.now.grid c.args.w k c.paint.new.cells) q.to c.paint.ensures.after;
    }

pub returns-clause-after : goal.returns-clause-after
returns-clause-after t c =
    let n = c.args.list.now.level in
    let b = c.args.b in
    let wide = c.if-b-le16.false in
    let four : c.loop-q.q-index ≡ 4 = omega arith in
    let codes = half_codes n b c.requires.valid c.requires.most (omega arith) in
    let all = codes.all in
    let end : code_from b + c.loop-q.q-index * (b.side / 2 * (b.side / 2)) ≡ code_to b =
    ap (λ k. code_from b + k * (b.side / 2 * (b.side / 2))) four ∙ sym all in
    subst (λ (k : ℕ). ArePainted n c.args.list.now.grid c.args.w k c.loop-q.cells) end c.loop-q.invariant.painted
