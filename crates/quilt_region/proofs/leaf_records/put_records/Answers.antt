use Rattle.std.proofs.Common.{◌≡◌, true, false, Result, Ok, Err, sym, ◌∙◌, ap, ⊎_elim, arith}
use Rattle.std.specs.Prelude.{OnOk}
use Rattle.std.specs.Result.{is_err}
use Rattle.quilt_loc.specs.Codes.{code_from}
use Rattle.quilt_loc.proofs.Blocks.{IsBlock-up, side_most}
use Rattle.quilt_blocks.specs.Painting.{Painted}
use Rattle.quilt_blocks.proofs.Chains.{size_of-nil, member_pos}
use Rattle.quilt_region.proofs.Within.{nth_leaf, nth_some, nth_same, nth_codes, nth_push, all_read}
use Rattle.quilt_region.proofs.leaf_records.put_records.Goals as goal

on_ok : {T U : Type 0} (r : Result T U) (P : Type 0) → false ≡ is_err r → OnOk r P → P
on_ok (Ok x) P e h = h
on_ok (Err x) P e h = absurd (false_true e)
  where
    false_true : false ≡ true → ⊥
    false_true e = cc

pub end_of-last-requires : goal.end_of-last-requires
end_of-last-requires c = IsBlock-up c.args.level 12 c.args.b c.requires.level.1 c.requires.block

pub code_of-end-requires-clause-in_x : goal.code_of-end-requires-clause-in_x
code_of-end-requires-clause-in_x c = let m = side_most c.args.level c.requires.level.1 in let x = c.requires.block.in_x in omega arith

pub code_of-end-requires-clause-in_y : goal.code_of-end-requires-clause-in_y
code_of-end-requires-clause-in_y c = let m = side_most c.args.level c.requires.level.1 in let y = c.requires.block.in_y in omega arith

pub loop-r-init : goal.loop-r-init
loop-r-init c =
    let from = c.code_of-end.ensures.value in
    let pos = member_pos c.args.level c.args.b c.requires.block in
    let none = size_of-nil in
    record {
      level = c.requires.same_level;
      long = from ∙ sym c.requires.next;
      low = omega arith;
      high = omega arith;
      made = λ g f is same old. old;
      far = λ g is out. omega arith;
    }

pub returns-in_default-clause-sound : goal.returns-in_default-clause-sound
returns-in_default-clause-sound c g is out page e =
    nth_some c.args.level c.args.layer g c.args.b c.args.records.now c.loop-r.r-index _ c.leaf_of.result c.requires.layer c.requires.level.1
    c.requires.block is c.loop-r-test.true c.leaf_of.ensures.one c.in_default.is

pub end_of-next-requires : goal.end_of-next-requires
end_of-next-requires c = IsBlock-up c.args.level 12 c.in-Some.leaf.block c.requires.level.1 c.in-Some.ensures.block

pub returns-then-r-end-clause-sound : goal.returns-then-r-end-clause-sound
returns-then-r-end-clause-sound c g is out page e =
    let n = c.args.level in
    let inv = c.loop-r.invariant in
    let nth = nth_leaf n c.args.layer g c.args.b c.args.records.now c.loop-r.r-index _ c.requires.level.1 c.requires.block is c.loop-r-test.true in
    let same = nth_same n c.args.layer g c.args.b c.args.records.now c.loop-r.r-index _ c.leaf_of.result c.requires.layer c.requires.level.1
    c.requires.block is c.loop-r-test.true c.leaf_of.ensures.one c.in-Some.leaf c.in-Some.is in
    let codes = nth_codes n c.args.layer g c.args.b c.loop-r.r-index c.loop-r.end _ c.in-Some.leaf nth c.requires.level.1 c.requires.block out
    same (inv.far g is out) in
    let code = c.in-Some.ensures.code in
    let last = c.end_of-last.ensures.value in
    let next = c.end_of-next.ensures.value in
    let from = codes.0 in
    let ends = codes.2 in
    ⊎_elim (λ differ. differ (code ∙ from)) (λ over. omega arith) c.then-r-end.either

pub loop-r-preserved : goal.loop-r-preserved
loop-r-preserved c =
    let n = c.args.level in
    let inv = c.loop-r.invariant in
    let ok = on_ok c.push.result _ c.if-is_err.ensures.value c.push.ensures.ok in
    let end = on_ok c.push.result _ c.if-is_err.ensures.value c.push.ensures.end in
    let colours = ap (λ (m : Painted). m.colours) ok in
    let code = c.in-Some.ensures.code in
    let at = c.if-r-end.false in
    let last = c.end_of-last.ensures.value in
    let next = c.end_of-next.ensures.value in
    let low = inv.low in
    let pos = member_pos n c.in-Some.leaf.block c.in-Some.ensures.block in
    let most = c.if-last-next.false in
    let from : code_from c.in-Some.leaf.block ≡ c.loop-r.end = sym code ∙ at in
    record {
      level = ap (λ (m : Painted). m.level) ok ∙ inv.level;
      long = next ∙ sym end;
      low = omega arith;
      high = omega arith;
      made = λ g f is same old.
          let nth = nth_leaf n c.args.layer g c.args.b c.args.records.now c.loop-r.r-index _ c.requires.level.1 c.requires.block is c.loop-r-test.true in
          let pair = nth_same n c.args.layer g c.args.b c.args.records.now c.loop-r.r-index _ c.leaf_of.result c.requires.layer c.requires.level.1
          c.requires.block is c.loop-r-test.true c.leaf_of.ensures.one c.in-Some.leaf c.in-Some.is in
          nth_push n c.args.layer g c.args.b c.loop-r.r-index _ c.in-Some.leaf nth c.requires.level.1 c.requires.block pair c.in-Some.ensures.block
          (omega arith) (omega arith) f same
          c.loop-r.maker.colours c.push.new.self.colours (from ∙ inv.long) colours (inv.made g f is same old);
      far = λ g is out.
          let nth = nth_leaf n c.args.layer g c.args.b c.args.records.now c.loop-r.r-index _ c.requires.level.1 c.requires.block is c.loop-r-test.true in
          let pair = nth_same n c.args.layer g c.args.b c.args.records.now c.loop-r.r-index _ c.leaf_of.result c.requires.layer c.requires.level.1
          c.requires.block is c.loop-r-test.true c.leaf_of.ensures.one c.in-Some.leaf c.in-Some.is in
          next ∙ (nth_codes n c.args.layer g c.args.b c.loop-r.r-index c.loop-r.end _ c.in-Some.leaf nth c.requires.level.1 c.requires.block out pair
          (inv.far g is out)).1;
    }

pub returns-then-end-last-clause-sound : goal.returns-then-end-last-clause-sound
returns-then-end-last-clause-sound c g is out page e =
    let inv = c.loop-r.invariant in
    let all = all_read c.args.level c.args.layer g c.args.b c.args.records.now c.loop-r.r-index c.requires.level.1 c.requires.block is (omega arith) out in
    let last = c.end_of-last.ensures.value in
    let far = inv.far g is out in
    let differ = c.if-end-last.true in
    omega arith
