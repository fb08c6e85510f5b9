use Rattle.std.proofs.Common.{◌≡◌, ℕ, ◌+◌, ◌-◌, ◌*◌, ◌<◌, ◌≤◌, Bool, length, take, get_or, refl, sym, ◌∙◌, ap, subst, ⊎_elim, arith}
use Rattle.std.specs.List.{sum_by}
use Rattle.quilt_store.proofs.Reading.{only_reads_then, only_reads_err, only_reads_ok}
use Rattle.quilt_types.specs.declared.plane.Block.{Block}
use Rattle.quilt_types.specs.declared.plane.Colour.{Colour}
use Rattle.quilt_types.specs.Plane.{quarters_of, Holds}
use Rattle.quilt_types.specs.Layers.{Grid}
use Rattle.quilt_types.specs.Algebra.{painted}
use Rattle.quilt_loc.proofs.Blocks.{IsBlock-up}
use Rattle.quilt_btree.specs.Trees.{IsRooted}
use Rattle.quilt_region.specs.declared.known.Known.{Known}
use Rattle.quilt_region.specs.Plans.{records_without}
use Rattle.quilt_region.specs.Quarters.{records_without_in}
use Rattle.quilt_region.specs.Regions.{HasRegion}
use Rattle.quilt_region.specs.Windows.{IsKnown, KnowsAround, leaves_within}
use Rattle.quilt_region.proofs.Beside.{if_ok_weaker}
use Rattle.quilt_world.proofs.ReadCounts.{reads_then, reads_more, reads_none}
use Rattle.quilt_region.proofs.Nearby.{more_within}
use Rattle.quilt_region.proofs.Parts.{block_room, window_room}
use Rattle.quilt_region.proofs.plans.QuarterPlans.{without_part, part_several, with_part, top_inside}
use Rattle.quilt_region.proofs.plans.QuarterPlans.{quarter_is, list_step, same_step, sum_step, last_or_before}
use Rattle.quilt_region.proofs.plans.QuarterPlans.{some_at}
use Rattle.quilt_btree.proofs.Handed.{handed_on}
use Rattle.quilt_btree.proofs.Stops.{zero_handed, bad_handed}
use Rattle.quilt_region.proofs.quarters.+plan_quarters.Goals as goal

abbrev zero_block : Block
zero_block = record { y = 0; x = 0; side = 0 }

pub quarters-requires-clause-valid : goal.quarters-requires-clause-valid
quarters-requires-clause-valid g t c = IsBlock-up c.args.level 12 c.args.b c.requires.level.1 c.requires.block

pub part_in-requires-clause-width : goal.part_in-requires-clause-width
part_in-requires-clause-width g t c =
    (block_room c.args.level _ c.requires.level.1
    (quarter_is c.args.b c.quarters.result c.args.count _ c.quarters.ensures.value (omega (arith, c.if-count-eq0.false))
    c.requires.most c.args.level c.requires.block c.requires.wide).block).0

pub part_in-requires-clause-height : goal.part_in-requires-clause-height
part_in-requires-clause-height g t c =
    (block_room c.args.level _ c.requires.level.1
    (quarter_is c.args.b c.quarters.result c.args.count _ c.quarters.ensures.value (omega (arith, c.if-count-eq0.false))
    c.requires.most c.args.level c.requires.block c.requires.wide).block).1

pub part_in-requires-clause-window_width : goal.part_in-requires-clause-window_width
part_in-requires-clause-window_width g t c = (window_room c.args.level c.args.w c.requires.level.1 c.requires.window).0

pub part_in-requires-clause-window_height : goal.part_in-requires-clause-window_height
part_in-requires-clause-window_height g t c = (window_room c.args.level c.args.w c.requires.level.1 c.requires.window).1

pub returns-in_default-clause-remove : goal.returns-in_default-clause-remove
returns-in_default-clause-remove g t c =
    if_ok_weaker c.plan_quarters.result
    (λ (u : Bool) law yes grid h several.
    let n = c.args.level in
    let le = c.requires.level.1 in
    let some : 1 ≤ c.args.count = omega (arith, c.if-count-eq0.false) in
    let at = quarter_is c.args.b c.quarters.result c.args.count _ c.quarters.ensures.value some c.requires.most n c.requires.block c.requires.wide in
    let none = without_part n c.args.layer grid c.args.w c.args.c.0 c.args.b le c.requires.window c.requires.block c.requires.wide _ at.member
    (c.in_default.ensures.none refl) several in
    same_step c.args.b c.quarters.result c.args.count _ c.quarters.ensures.value some c.requires.most
    (records_without_in n c.args.layer grid (painted n grid c.args.w c.args.c.0)) _ _ (law yes grid h several) none.0)
    c.plan_quarters.ensures.remove

pub returns-in_default-clause-add : goal.returns-in_default-clause-add
returns-in_default-clause-add g t c =
    if_ok_weaker c.plan_quarters.result
    (λ (u : Bool) law yes grid h several.
    let n = c.args.level in
    let le = c.requires.level.1 in
    let some : 1 ≤ c.args.count = omega (arith, c.if-count-eq0.false) in
    let at = quarter_is c.args.b c.quarters.result c.args.count _ c.quarters.ensures.value some c.requires.most n c.requires.block c.requires.wide in
    let none = without_part n c.args.layer grid c.args.w c.args.c.0 c.args.b le c.requires.window c.requires.block c.requires.wide _ at.member
    (c.in_default.ensures.none refl) several in
    same_step c.args.b c.quarters.result c.args.count _ c.quarters.ensures.value some c.requires.most
    (records_without_in n c.args.layer (painted n grid c.args.w c.args.c.0) grid) _ _ (law yes grid h several) none.1)
    c.plan_quarters.ensures.add

pub returns-in_default-clause-several : goal.returns-in_default-clause-several
returns-in_default-clause-several g t c =
    if_ok_weaker c.plan_quarters.result
    (λ (u : Bool) law yes grid q p h member held inside.
    let some : 1 ≤ c.args.count = omega (arith, c.if-count-eq0.false) in
    ⊎_elim (λ before. law yes grid q p h before held inside)
    (λ last. absurd (c.in_default.ensures.none refl p (subst (λ (z : Block). Holds z p) (sym last) held) inside))
    (last_or_before c.args.b c.quarters.result c.args.count _ c.quarters.ensures.value some c.requires.most q member))
    c.plan_quarters.ensures.several

pub returns-in_default-clause-reads : goal.returns-in_default-clause-reads
returns-in_default-clause-reads g t c =
    if_ok_weaker c.plan_quarters.result
    (λ (u : Bool) law yes grid h.
    let n = c.args.level in
    let f : Block → ℕ = λ q. length (leaves_within n grid q) in
    let some : 1 ≤ c.args.count = omega (arith, c.if-count-eq0.false) in
    let sum = sum_step c.args.b c.quarters.result c.args.count _ c.quarters.ensures.value some c.requires.most f in
    let sum' : sum_by f (take c.args.count (quarters_of c.args.b)) ≡ sum_by f (take (c.args.count - 1) (quarters_of c.args.b))
    + f (get_or c.quarters.result (c.args.count - 1) zero_block) = sum in
    reads_more (36 * (c.args.count - 1) + 3 * sum_by f (take (c.args.count - 1) (quarters_of c.args.b)))
    (36 * c.args.count + 3 * sum_by f (take c.args.count (quarters_of c.args.b))) _ _ (omega arith) (law yes grid h))
    c.plan_quarters.ensures.reads

pub returns-in_err-plan_quarters-clause-sound : goal.returns-in_err-plan_quarters-clause-sound
returns-in_err-plan_quarters-clause-sound g t c =
    rw (handed_on c.from_residual-in_err-plan_quarters.result c.from_residual-in_err-plan_quarters.ensures.1)
    (λ grid h. c.in_err-plan_quarters.ensures.sound grid (subst (λ told. HasRegion told c.args.tree.now c.args.layer c.args.level grid)
    (sym c.in_ok-known.ensures.left.told) h))

pub returns-in_err-plan_part-clause-sound : goal.returns-in_err-plan_part-clause-sound
returns-in_err-plan_part-clause-sound g t c =
    rw (handed_on c.from_residual-in_err-plan_part.result c.from_residual-in_err-plan_part.ensures.1)
    (λ grid h. let after = subst (λ told. HasRegion told c.args.tree.now c.args.layer c.args.level grid)
    (sym (c.in_ok-plan_quarters.ensures.left.told ∙ c.in_ok-known.ensures.left.told)) h in
    let law : (grid : Grid) → HasRegion (g.S.PageStore.told c.args.store.now) c.args.tree.now c.args.layer c.args.level grid
    → KnowsAround c.args.level grid c.in-Some.v c.in-Some-2.known =
    some_at (λ (k : Known). (grid : Grid) → HasRegion (g.S.PageStore.told c.args.store.now) c.args.tree.now c.args.layer c.args.level grid
    → KnowsAround c.args.level grid c.in-Some.v k) c.in_ok-known.field-0 c.in-Some-2.known c.in-Some-2.is c.in_ok-known.ensures.knows in
    c.in_err-plan_part.ensures.sound grid after (law grid h))

pub returns-clause-remove : goal.returns-clause-remove
returns-clause-remove g t c test grid h several =
    let n = c.args.level in
    let le = c.requires.level.1 in
    let some : 1 ≤ c.args.count = omega (arith, c.if-count-eq0.false) in
    let at = quarter_is c.args.b c.quarters.result c.args.count _ c.quarters.ensures.value some c.requires.most n c.requires.block c.requires.wide in
    let colour = ap (λ (d : Colour). d.0)
    (some_at (λ (k : Known). k.around ≡ c.args.c) c.in_ok-known.field-0 c.in-Some-2.known c.in-Some-2.is c.in_ok-known.ensures.colour) in
    let law : (grid : Grid) → HasRegion (g.S.PageStore.told c.args.store.now) c.args.tree.now c.args.layer c.args.level grid
    → KnowsAround c.args.level grid c.in-Some.v c.in-Some-2.known =
    some_at (λ (k : Known). (grid : Grid) → HasRegion (g.S.PageStore.told c.args.store.now) c.args.tree.now c.args.layer c.args.level grid
    → KnowsAround c.args.level grid c.in-Some.v k) c.in_ok-known.field-0 c.in-Some-2.known c.in-Some-2.is c.in_ok-known.ensures.knows in
    let knows = law grid h in
    let told = c.in_ok-known.ensures.left.told in
    let after = subst (λ told. HasRegion told c.args.tree.now c.args.layer n grid) (sym told) h in
    let later = subst (λ told. HasRegion told c.args.tree.now c.args.layer n grid) (sym (c.in_ok-plan_quarters.ensures.left.told ∙ told)) h in
    let part = with_part n c.args.layer grid c.args.w c.args.c.0 c.args.b le c.requires.window c.requires.block c.requires.wide _ at.member
    c.in-Some.v c.in-Some-2.known c.in-Some.ensures.some colour knows
    (some_at (λ (k : Known). k.top.side < (get_or c.quarters.result (c.args.count - 1) zero_block).side) c.in_ok-known.field-0 c.in-Some-2.known
    c.in-Some-2.is c.in_ok-known.ensures.small) in
    list_step c.args.b c.quarters.result c.args.count _ c.quarters.ensures.value some c.requires.most
    (records_without_in n c.args.layer grid (painted n grid c.args.w c.args.c.0)) _ _ _ _
    (c.in_ok-plan_quarters.ensures.remove c.if-not-branch.false grid after several) (c.in_ok-plan_part.ensures.remove grid later knows)
    (part.0 ∙ ap (λ (d : ℕ). records_without n c.args.layer grid (painted n grid c.in-Some.v d)) (sym colour))

pub returns-clause-add : goal.returns-clause-add
returns-clause-add g t c test grid h several =
    let n = c.args.level in
    let le = c.requires.level.1 in
    let some : 1 ≤ c.args.count = omega (arith, c.if-count-eq0.false) in
    let at = quarter_is c.args.b c.quarters.result c.args.count _ c.quarters.ensures.value some c.requires.most n c.requires.block c.requires.wide in
    let colour = ap (λ (d : Colour). d.0)
    (some_at (λ (k : Known). k.around ≡ c.args.c) c.in_ok-known.field-0 c.in-Some-2.known c.in-Some-2.is c.in_ok-known.ensures.colour) in
    let law : (grid : Grid) → HasRegion (g.S.PageStore.told c.args.store.now) c.args.tree.now c.args.layer c.args.level grid
    → KnowsAround c.args.level grid c.in-Some.v c.in-Some-2.known =
    some_at (λ (k : Known). (grid : Grid) → HasRegion (g.S.PageStore.told c.args.store.now) c.args.tree.now c.args.layer c.args.level grid
    → KnowsAround c.args.level grid c.in-Some.v k) c.in_ok-known.field-0 c.in-Some-2.known c.in-Some-2.is c.in_ok-known.ensures.knows in
    let knows = law grid h in
    let told = c.in_ok-known.ensures.left.told in
    let after = subst (λ told. HasRegion told c.args.tree.now c.args.layer n grid) (sym told) h in
    let later = subst (λ told. HasRegion told c.args.tree.now c.args.layer n grid) (sym (c.in_ok-plan_quarters.ensures.left.told ∙ told)) h in
    let part = with_part n c.args.layer grid c.args.w c.args.c.0 c.args.b le c.requires.window c.requires.block c.requires.wide _ at.member
    c.in-Some.v c.in-Some-2.known c.in-Some.ensures.some colour knows
    (some_at (λ (k : Known). k.top.side < (get_or c.quarters.result (c.args.count - 1) zero_block).side) c.in_ok-known.field-0 c.in-Some-2.known
    c.in-Some-2.is c.in_ok-known.ensures.small) in
    list_step c.args.b c.quarters.result c.args.count _ c.quarters.ensures.value some c.requires.most
    (records_without_in n c.args.layer (painted n grid c.args.w c.args.c.0) grid) _ _ _ _
    (c.in_ok-plan_quarters.ensures.add c.if-not-branch.false grid after several) (c.in_ok-plan_part.ensures.add grid later knows)
    (part.1 ∙ ap (λ (d : ℕ). records_without n c.args.layer (painted n grid c.in-Some.v d) grid) (sym colour))

pub returns-clause-several : goal.returns-clause-several
returns-clause-several g t c test grid q p h member held inside =
    let n = c.args.level in
    let le = c.requires.level.1 in
    let some : 1 ≤ c.args.count = omega (arith, c.if-count-eq0.false) in
    let at = quarter_is c.args.b c.quarters.result c.args.count _ c.quarters.ensures.value some c.requires.most n c.requires.block c.requires.wide in
    let law : (grid : Grid) → HasRegion (g.S.PageStore.told c.args.store.now) c.args.tree.now c.args.layer c.args.level grid
    → KnowsAround c.args.level grid c.in-Some.v c.in-Some-2.known =
    some_at (λ (k : Known). (grid : Grid) → HasRegion (g.S.PageStore.told c.args.store.now) c.args.tree.now c.args.layer c.args.level grid
    → KnowsAround c.args.level grid c.in-Some.v k) c.in_ok-known.field-0 c.in-Some-2.known c.in-Some-2.is c.in_ok-known.ensures.knows in
    part_several n c.args.layer grid c.args.w c.args.c.0 c.args.b le c.requires.window c.requires.block c.requires.wide _ at.member c.in-Some.v
    c.in-Some-2.known c.in-Some.ensures.some
    (ap (λ (d : Colour). d.0)
    (some_at (λ (k : Known). k.around ≡ c.args.c) c.in_ok-known.field-0 c.in-Some-2.known c.in-Some-2.is c.in_ok-known.ensures.colour))
    (law grid h) (some_at (λ (k : Known). k.top.side < (get_or c.quarters.result (c.args.count - 1) zero_block).side)
    c.in_ok-known.field-0 c.in-Some-2.known c.in-Some-2.is c.in_ok-known.ensures.small)

pub returns-clause-reads : goal.returns-clause-reads
returns-clause-reads g t c test grid h =
    let n = c.args.level in
    let le = c.requires.level.1 in
    let some : 1 ≤ c.args.count = omega (arith, c.if-count-eq0.false) in
    let at = quarter_is c.args.b c.quarters.result c.args.count _ c.quarters.ensures.value some c.requires.most n c.requires.block c.requires.wide in
    let told = c.in_ok-known.ensures.left.told in
    let after = subst (λ told. HasRegion told c.args.tree.now c.args.layer n grid) (sym told) h in
    let later = subst (λ told. HasRegion told c.args.tree.now c.args.layer n grid) (sym (c.in_ok-plan_quarters.ensures.left.told ∙ told)) h in
    let f : Block → ℕ = λ q. length (leaves_within n grid q) in
    let sum = sum_step c.args.b c.quarters.result c.args.count zero_block c.quarters.ensures.value some c.requires.most f in
    let law : (grid : Grid) → HasRegion (g.S.PageStore.told c.args.store.now) c.args.tree.now c.args.layer c.args.level grid
    → KnowsAround c.args.level grid c.in-Some.v c.in-Some-2.known =
    some_at (λ (k : Known). (grid : Grid) → HasRegion (g.S.PageStore.told c.args.store.now) c.args.tree.now c.args.layer c.args.level grid
    → KnowsAround c.args.level grid c.in-Some.v k) c.in_ok-known.field-0 c.in-Some-2.known c.in-Some-2.is c.in_ok-known.ensures.knows in
    let knows = law grid h in
    let inside = top_inside n c.args.layer grid c.args.w c.args.c.0 c.args.b le c.requires.window c.requires.block c.requires.wide _ at.member
    c.in-Some.v c.in-Some-2.known c.in-Some.ensures.some
    (ap (λ (d : Colour). d.0)
    (some_at (λ (k : Known). k.around ≡ c.args.c) c.in_ok-known.field-0 c.in-Some-2.known c.in-Some-2.is c.in_ok-known.ensures.colour))
    knows (some_at (λ (k : Known). k.top.side < (get_or c.quarters.result (c.args.count - 1) zero_block).side)
    c.in_ok-known.field-0 c.in-Some-2.known c.in-Some-2.is c.in_ok-known.ensures.small) in
    let more = more_within n grid le c.in-Some-2.known.read (get_or c.quarters.result (c.args.count - 1) zero_block) knows.blocks.read at.block inside in
    let before = sum_by f (take (c.args.count - 1) (quarters_of c.args.b)) in
    let own = length (leaves_within n grid c.in-Some-2.known.read) in
    reads_then 30 (36 * (c.args.count - 1) + 3 * before + (6 + 3 * own))
    (36 * c.args.count + 3 * sum_by f (take c.args.count (quarters_of c.args.b))) _ _ _ (omega arith) c.in_ok-known.ensures.reads
    (reads_then (36 * (c.args.count - 1) + 3 * before) (6 + 3 * own) (36 * (c.args.count - 1) + 3 * before + (6 + 3 * own)) _ _ _ (omega arith)
    (c.in_ok-plan_quarters.ensures.reads c.if-not-branch.false grid after) (c.in_ok-plan_part.ensures.reads grid later))

pub returns-in_err-plan_quarters-clause-left : goal.returns-in_err-plan_quarters-clause-left
returns-in_err-plan_quarters-clause-left g t c =
    rw (handed_on c.from_residual-in_err-plan_quarters.result c.from_residual-in_err-plan_quarters.ensures.1)
    (only_reads_err _ (only_reads_then _ g.met.S.PageStore.goes_on _ _ _ c.in_ok-known.ensures.left c.in_err-plan_quarters.ensures.left))

pub returns-then-not-branch-clause-left : goal.returns-then-not-branch-clause-left
returns-then-not-branch-clause-left g t c = only_reads_ok _ (only_reads_then _ g.met.S.PageStore.goes_on _ _ _ c.in_ok-known.ensures.left c.in_ok-plan_quarters.ensures.left) _

pub returns-in_err-plan_part-clause-left : goal.returns-in_err-plan_part-clause-left
returns-in_err-plan_part-clause-left g t c =
    rw (handed_on c.from_residual-in_err-plan_part.result c.from_residual-in_err-plan_part.ensures.1)
    (only_reads_err _ (only_reads_then _ g.met.S.PageStore.goes_on _ _ _ c.in_ok-known.ensures.left (only_reads_then _ g.met.S.PageStore.goes_on _ _ _ c.in_ok-plan_quarters.ensures.left c.in_err-plan_part.ensures.left)))

pub returns-clause-left : goal.returns-clause-left
returns-clause-left g t c = only_reads_ok _ (only_reads_then _ g.met.S.PageStore.goes_on _ _ _ c.in_ok-known.ensures.left (only_reads_then _ g.met.S.PageStore.goes_on _ _ _ c.in_ok-plan_quarters.ensures.left c.in_ok-plan_part.ensures.left)) _

pub returns-in_err-plan_quarters-clause-zero : goal.returns-in_err-plan_quarters-clause-zero
returns-in_err-plan_quarters-clause-zero g t c =
    zero_handed _ c.from_residual-in_err-plan_quarters.result c.from_residual-in_err-plan_quarters.ensures.1
    c.args.tree.now c.in_ok-known.ensures.left.told c.in_err-plan_quarters.ensures.zero

pub returns-in_err-plan_part-clause-zero : goal.returns-in_err-plan_part-clause-zero
returns-in_err-plan_part-clause-zero g t c =
    zero_handed _ c.from_residual-in_err-plan_part.result c.from_residual-in_err-plan_part.ensures.1
    c.args.tree.now (c.in_ok-plan_quarters.ensures.left.told ∙ c.in_ok-known.ensures.left.told) c.in_err-plan_part.ensures.zero

pub returns-in_err-plan_quarters-clause-bad : goal.returns-in_err-plan_quarters-clause-bad
returns-in_err-plan_quarters-clause-bad g t c =
    bad_handed _ c.from_residual-in_err-plan_quarters.result c.from_residual-in_err-plan_quarters.ensures.1
    c.args.tree.now c.in_ok-known.ensures.left.told c.in_err-plan_quarters.ensures.bad

pub returns-in_err-plan_part-clause-bad : goal.returns-in_err-plan_part-clause-bad
returns-in_err-plan_part-clause-bad g t c =
    bad_handed _ c.from_residual-in_err-plan_part.result c.from_residual-in_err-plan_part.ensures.1
    c.args.tree.now (c.in_ok-plan_quarters.ensures.left.told ∙ c.in_ok-known.ensures.left.told) c.in_err-plan_part.ensures.bad

pub returns-in_default-clause-tried : goal.returns-in_default-clause-tried
returns-in_default-clause-tried g t c =
    if_ok_weaker c.plan_quarters.result
    (λ (u : Bool) law is. reads_more (30 * (c.args.count - 1)) (30 * c.args.count) _ _ (omega arith) (law is)) c.plan_quarters.ensures.tried

pub returns-then-not-branch-clause-tried : goal.returns-then-not-branch-clause-tried
returns-then-not-branch-clause-tried g t c _ =
    reads_then 30 (30 * (c.args.count - 1)) (30 * c.args.count) _ _ _ (omega (arith, c.if-count-eq0.false)) c.in_ok-known.ensures.reads
    (c.in_ok-plan_quarters.ensures.tried c.if-not-branch.true)

pub returns-in_default-2-clause-tried : goal.returns-in_default-2-clause-tried
returns-in_default-2-clause-tried g t c _ =
    reads_more 30 (30 * c.args.count) _ _ (omega (arith, c.if-count-eq0.false)) c.in_ok-known.ensures.reads

pub returns-then-count-eq0-clause-reads : goal.returns-then-count-eq0-clause-reads
returns-then-count-eq0-clause-reads g t c _ grid h = reads_none _ (g.S.PageStore.reads c.args.store.now)

pub returns-in_err-known-clause-sound : goal.returns-in_err-known-clause-sound
returns-in_err-known-clause-sound g t c = rw (handed_on c.from_residual.result c.from_residual.ensures.1) c.in_err-known.ensures.sound

pub returns-in_err-known-clause-zero : goal.returns-in_err-known-clause-zero
returns-in_err-known-clause-zero g t c = rw (handed_on c.from_residual.result c.from_residual.ensures.1) c.in_err-known.ensures.zero

pub returns-in_err-known-clause-bad : goal.returns-in_err-known-clause-bad
returns-in_err-known-clause-bad g t c = rw (handed_on c.from_residual.result c.from_residual.ensures.1) c.in_err-known.ensures.bad

pub plan_quarters-requires : goal.plan_quarters-requires
plan_quarters-requires g t c κs within =
    let some : 1 ≤ c.args.count = omega (arith, c.if-count-eq0.false) in
    let most = c.requires.most in
    (omega arith, (within, (c.requires.rooted, (c.requires.layer, (c.requires.level, (c.requires.window, (c.requires.block, (c.requires.wide, omega arith))))))))

pub plan_quarters-requires-2 : goal.plan_quarters-requires-2
plan_quarters-requires-2 g t c κs within =
    let some : 1 ≤ c.args.count = omega (arith, c.if-count-eq0.false) in
    let most = c.requires.most in
    let rooted = subst (λ (size : ℕ). IsRooted size c.args.tree.now) (sym c.in_ok-known.ensures.left.size) c.requires.rooted in
    (omega arith, (within, (rooted, (c.requires.layer, (c.requires.level, (c.requires.window, (c.requires.block, (c.requires.wide, omega arith))))))))

pub plan_part-requires-clause-blocks : goal.plan_part-requires-clause-blocks
plan_part-requires-clause-blocks g t c = some_at (λ (k : Known). IsKnown c.args.level k) c.in_ok-known.field-0 c.in-Some-2.known c.in-Some-2.is c.in_ok-known.ensures.blocks
