use Rattle.std.proofs.Common.{◌≡◌, ℕ, ◌^◌, length, refl, sym, ◌∙◌, ap, subst}
use Rattle.quilt_types.specs.Layers.{colour_at}
use Rattle.quilt_loc.specs.Codes.{code_to}
use Rattle.quilt_blocks.specs.Painting.{Painted, grid_by_code}
use Rattle.quilt_blocks.proofs.Painting.{Paints-none}
use Rattle.quilt_blocks.proofs.Squares.{whole_at, code_to-whole}
use Rattle.quilt_blocks.proofs.Adding.{whole_next}
use Rattle.quilt_btree.proofs.Handed.{handed_on}
use Rattle.quilt_region.specs.Painting.{HasColours}
use Rattle.quilt_region.specs.Windows.{IsCutOut, records_within}
use Rattle.quilt_region.proofs.Whole.{whole_records, whole_cut, whole_grid}
use Rattle.quilt_region.proofs.leaf_records.list_of.Goals as goal

pub put_records-requires-clause-block : goal.put_records-requires-clause-block
put_records-requires-clause-block c = whole_at _ _ _ refl c.whole_square-whole.ensures

pub put_records-requires-clause-next : goal.put_records-requires-clause-next
put_records-requires-clause-next c = sym (whole_next _ _ _ c.whole_square-whole.ensures c.new-maker.ensures)

pub returns-in_err-put_records-clause-sound : goal.returns-in_err-put_records-clause-sound
returns-in_err-put_records-clause-sound c =
    rw (handed_on c.from_residual.result c.from_residual.ensures.1)
    (λ g is. c.in_err-put_records.ensures.sound g
    (is ∙ whole_records c.args.level c.args.layer g c.requires.level.1 ∙ ap (records_within c.args.level c.args.layer g) (sym c.whole_square-whole.ensures))
    (subst (IsCutOut c.args.level g) (sym c.whole_square-whole.ensures) (whole_cut c.args.level g)))

pub finish-requires : goal.finish-requires
finish-requires c =
    c.in_ok-put_records.ensures.end ∙ ap code_to c.whole_square-whole.ensures ∙ code_to-whole c.args.level
    ∙ ap (λ (k : ℕ). 4 ^ k) (sym c.in_ok-put_records.ensures.level)

pub returns-clause-list : goal.returns-clause-list
returns-clause-list c g grid is =
    let n = c.args.level in
    let le = c.requires.level.1 in
    let f = colour_at n g in
    let start = Paints-none n f in
    let empty : HasColours n f c.new-maker.result.colours =
    subst (HasColours n f) (sym (ap (λ (m : Painted). m.colours) c.new-maker.ensures)) (record { each = start.each }) in
    let within = is ∙ whole_records n c.args.layer g le ∙ ap (records_within n c.args.layer g) (sym c.whole_square-whole.ensures) in
    let has = c.in_ok-put_records.ensures.colours g f within (λ p held. refl) empty in
    let end : length c.put_records.new.maker.colours ≡ 4 ^ n = c.in_ok-put_records.ensures.end ∙ ap code_to c.whole_square-whole.ensures ∙ code_to-whole n in
    let level = c.finish.ensures.level ∙ c.in_ok-put_records.ensures.level in
    let made = c.finish.ensures.value ∙ ap (λ (k : ℕ). grid_by_code k c.put_records.new.maker.colours) c.in_ok-put_records.ensures.level
    ∙ whole_grid n g c.put_records.new.maker.colours le grid end has in
    λ i. record { level = level i; grid = made i }
