use Rattle.std.proofs.Common.{◌+◌, ◌-◌, ◌*◌, ◌∙◌, List, ℕ, ap, arith, length, sym}
use Rattle.quilt_lang.specs.Spelled.{row_size}
use Rattle.quilt_lang.proofs.RowsOver.{over_first, over_none, over_put}
use Rattle.quilt_lang.proofs.rows.read_rows.Goals as goal

pub loop-left-init : goal.loop-left-init
loop-left-init c = record {
  room = c.requires.room ∙ ap (λ (w : ℕ). row_size c.args.format (2 * c.args.format * w)) (sym c.row_width-width.ensures.is);
  is = over_first c.args.format c.args.level c.row_width-width.result c.args.from c.args.bytes.now c.row_width-width.ensures.is c.requires.within;
}

pub returns-in_default : goal.returns-in_default
returns-in_default c =
    over_none c.args.format c.row_width-width.result c.loop-left.left c.loop-left.src c.loop-left.dst c.loop-left.bytes _ (omega arith) c.loop-left.invariant.is
    (rw c.in_default.is at c.read_row_at.ensures.read)

pub loop-left-preserved : goal.loop-left-preserved
loop-left-preserved c =
    let got : List ℕ = c.read_row_at.new.colours in
    record {
      room = c.in-Some.ensures.same ∙ c.loop-left.invariant.room;
      is = over_put c.args.format c.row_width-width.result c.loop-left.left c.loop-left.src c.loop-left.dst c.in-Some.next
          (c.loop-left.dst + length got - c.loop-left.dst) c.loop-left.bytes got c.copy_from_slice.new.self _ (omega arith) c.copy_from_slice.ensures.after
          (omega arith) c.loop-left.invariant.is c.in-Some.ensures.behind c.in-Some.ensures.within c.in-Some.ensures.read;
    }
