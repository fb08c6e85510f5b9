use Rattle.std.proofs.Common.{◌≡◌, ◌∙◌, ap, subst, List, OnOk}
use Rattle.quilt_record.specs.declared.record.Record.{Record}
use Rattle.quilt_btree.specs.Floors.{floor_pages, HoldsFirst, ReadsNone}
use Rattle.quilt_btree.specs.Trees.{IsTree}
use Rattle.quilt_btree.specs.declared.tree.Tree.{Tree}
use Rattle.quilt_region.specs.Regions.{pixel_key}
use Rattle.quilt_map.specs.Asking.{reads_in, pages_held}
use Rattle.quilt_map.specs.Sessions.{told_of, tree_in}
use Rattle.quilt_map.proofs.answers.Asked.{still_here, has_as, if_err}
use Rattle.quilt_map.proofs.regions.read_colour.Goals as goal

pub returns-then-number-eq0-clause-still : goal.returns-then-number-eq0-clause-still
returns-then-number-eq0-clause-still g c = still_here {D = g.W.Disk} c.args.book.now

pub returns-clause-sound : goal.returns-clause-sound
returns-clause-sound g c =
    if_err _ _ c.colour_at.result (λ e h grid least has.
    h grid (has_as (told_of {D = g.W.Disk} c.args.book.now) c.args.number grid c.head-head.result c.args.book.now.work c.tree_of.result
    c.head-head.ensures.work c.tree_of.ensures has)) c.colour_at.ensures.sound

pub returns-clause-held : goal.returns-clause-held
returns-clause-held g c =
    let old = c.args.book.now in
    let tree : c.tree_of.result ≡ tree_in old.work = c.tree_of.ensures ∙ ap tree_in c.head-head.ensures.work in
    subst
    (λ (t : Tree). OnOk c.colour_at.result ((rs : List Record) → IsTree (told_of {D = g.W.Disk} old) t rs →
    HoldsFirst (λ pages. floor_pages pages (pixel_key c.args.number c.args.at) t.height t.root) (told_of {D = g.W.Disk} old) (pages_held old)
    (pages_held c.colour_at.new.store)))
    tree c.colour_at.ensures.held

pub returns-clause-again : goal.returns-clause-again
returns-clause-again g c =
    let old = c.args.book.now in
    let tree : c.tree_of.result ≡ tree_in old.work = c.tree_of.ensures ∙ ap tree_in c.head-head.ensures.work in
    subst
    (λ (t : Tree). (rs : List Record) → IsTree (told_of {D = g.W.Disk} old) t rs →
    ReadsNone (λ pages. floor_pages pages (pixel_key c.args.number c.args.at) t.height t.root) (told_of {D = g.W.Disk} old) (pages_held old)
    (reads_in {D = g.W.Disk} old) (reads_in {D = g.W.Disk} c.colour_at.new.store))
    tree c.colour_at.ensures.again
