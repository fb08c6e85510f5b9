use Rattle.std.proofs.Common.{ap}
use Rattle.quilt_words.specs.declared.command.Command.{Command}
use Rattle.quilt_map.specs.Selecting.{selected, is_asked, AsksSome}
use Rattle.quilt_map.proofs.answers.Answered.{told_reply}
use Rattle.quilt_map.proofs.answers.Asked.{if_ok}
use Rattle.quilt_map.proofs.questions.ShownLines.{any_ok, nearest_small, rank_small, cross_body}
use Rattle.quilt_map.proofs.questions.ShownLines.{clip_body, nearest_none, nearest_body, nearest_costs, rank_absent}
use Rattle.quilt_map.proofs.questions.ShownLines.{rank_body, window_costs}
use Rattle.std.proofs.Common.{subst}
use Rattle.quilt_map.proofs.views.select.Goals as goal

pub nearest-requires-clause-x : goal.nearest-requires-clause-x
nearest-requires-clause-x g c = (nearest_small (g.B.SegBlocks.level_of c.args.blocks.now) c.args.command.now c.requires.level c.requires.inside c.in-Nearest.l
    c.in-Nearest.at c.in-Nearest.is).0

pub nearest-requires-clause-y : goal.nearest-requires-clause-y
nearest-requires-clause-y g c = (nearest_small (g.B.SegBlocks.level_of c.args.blocks.now) c.args.command.now c.requires.level c.requires.inside c.in-Nearest.l
    c.in-Nearest.at c.in-Nearest.is).1

pub ranked-requires-clause-x : goal.ranked-requires-clause-x
ranked-requires-clause-x g c = (rank_small (g.B.SegBlocks.level_of c.args.blocks.now) c.args.command.now c.requires.level c.requires.inside c.in-Rank.l c.in-Rank.at
    c.in-Rank.k c.in-Rank.is).0

pub ranked-requires-clause-y : goal.ranked-requires-clause-y
ranked-requires-clause-y g c = (rank_small (g.B.SegBlocks.level_of c.args.blocks.now) c.args.command.now c.requires.level c.requires.inside c.in-Rank.l c.in-Rank.at
    c.in-Rank.k c.in-Rank.is).1

pub returns-in_ok-list-in-Cross-clause-reply : goal.returns-in_ok-list-in-Cross-clause-reply
returns-in_ok-list-in-Cross-clause-reply g c =
    told_reply (g.B.SegBlocks.shows c.args.blocks.now c.args.store.now)
    (λ l. selected c.args.command.now l.segs) c.segs_text.result c.told.result c.told.ensures.text
    (λ l shows. if_ok _ _ c.segs_text.result
    (λ t written. cross_body c.args.command.now l.segs c.in-Cross.l c.in-Cross.w c.in-Cross.is c.in_ok-list-in-Cross.list c.items.result.now
    (c.in_ok-list-in-Cross.ensures.cross l shows) c.items.ensures t written) c.segs_text.ensures)

pub returns-in_ok-list-in-Cross-clause-reads : goal.returns-in_ok-list-in-Cross-clause-reads
returns-in_ok-list-in-Cross-clause-reads g c =
    any_ok _ c.told.result (λ reply l shows found answered.
    window_costs c.args.command.now l.segs l.cover (g.B.SegBlocks.level_of c.args.blocks.now) c.in-Cross.w (g.S.PageStore.reads c.args.store.now)
    (g.S.PageStore.reads c.cross.new.store)
    (ap (λ (x : Command). is_asked x l.segs) c.in-Cross.is) (c.in_ok-list-in-Cross.ensures.reads l shows))

pub returns-in_ok-clips-in-Clip-clause-reply : goal.returns-in_ok-clips-in-Clip-clause-reply
returns-in_ok-clips-in-Clip-clause-reply g c =
    told_reply (g.B.SegBlocks.shows c.args.blocks.now c.args.store.now)
    (λ l. selected c.args.command.now l.segs) c.clips_text.result c.told-in-Clip.result c.told-in-Clip.ensures.text
    (λ l shows. if_ok _ _ c.clips_text.result
    (λ t written. clip_body c.args.command.now l.segs c.in-Clip.l c.in-Clip.w c.in-Clip.is c.in_ok-clips-in-Clip.clips c.items-in-Clip.result.now
    (c.in_ok-clips-in-Clip.ensures.clipped l shows) c.items-in-Clip.ensures t written) c.clips_text.ensures)

pub returns-in_ok-clips-in-Clip-clause-reads : goal.returns-in_ok-clips-in-Clip-clause-reads
returns-in_ok-clips-in-Clip-clause-reads g c =
    any_ok _ c.told-in-Clip.result (λ reply l shows found answered.
    window_costs c.args.command.now l.segs l.cover (g.B.SegBlocks.level_of c.args.blocks.now) c.in-Clip.w (g.S.PageStore.reads c.args.store.now)
    (g.S.PageStore.reads c.clipped.new.store)
    (ap (λ (x : Command). is_asked x l.segs) c.in-Clip.is) (c.in_ok-clips-in-Clip.ensures.reads l shows))

pub returns-in-Ok-None-clause-reply : goal.returns-in-Ok-None-clause-reply
returns-in-Ok-None-clause-reply g c = λ l shows.
    nearest_none c.args.command.now l.segs c.in-Nearest.l c.in-Nearest.at c.in-Nearest.is c.in-Ok-None.field-0
    (c.in-Ok-None.ensures.nearest l shows) c.in-Ok-None.field-0-is

pub returns-in-Ok-Some-clause-reply : goal.returns-in-Ok-Some-clause-reply
returns-in-Ok-Some-clause-reply g c =
    let at = c.in-Ok-Some in
    told_reply (g.B.SegBlocks.shows c.args.blocks.now c.args.store.now)
    (λ l. selected c.args.command.now l.segs) c.nearest_text.result c.told-in-Ok-Some.result c.told-in-Ok-Some.ensures.text
    (λ l shows. if_ok _ _ c.nearest_text.result
    (λ t written. nearest_body c.args.command.now l.segs c.in-Nearest.l c.in-Nearest.at c.in-Nearest.is at.field-0 (at.ensures.nearest l shows)
    (at.id, at.far) at.field-0-is t written) c.nearest_text.ensures)

pub returns-in-Ok-Some-clause-reads : goal.returns-in-Ok-Some-clause-reads
returns-in-Ok-Some-clause-reads g c =
    let at = c.in-Ok-Some in
    any_ok _ c.told-in-Ok-Some.result (λ reply l shows found answered.
    nearest_costs c.args.command.now l.segs c.in-Nearest.l c.in-Nearest.at c.in-Nearest.is at.field-0 (at.ensures.nearest l shows)
    (g.B.SegBlocks.level_of c.args.blocks.now) l.cover (g.S.PageStore.reads c.args.store.now) (g.S.PageStore.reads c.nearest.new.store) (at.id, at.far) at.field-0-is (at.ensures.reads l shows))

pub returns-then-is_empty-clause-reply : goal.returns-then-is_empty-clause-reply
returns-then-is_empty-clause-reply g c = λ l shows.
    let at = c.in-Rank in
    rank_absent c.args.command.now l.segs at.l at.at at.k at.is (subst AsksSome at.is c.requires.some) c.in_ok-ranks-in-Rank.ranks c.items-in-Rank.result.now
    (c.in_ok-ranks-in-Rank.ensures.ranked l shows) c.items-in-Rank.ensures
    c.is_empty.result c.is_empty.ensures c.if-is_empty.true

pub returns-else-is_empty-clause-reply : goal.returns-else-is_empty-clause-reply
returns-else-is_empty-clause-reply g c =
    let at = c.in-Rank in
    told_reply (g.B.SegBlocks.shows c.args.blocks.now c.args.store.now)
    (λ l. selected c.args.command.now l.segs) c.ranks_text.result c.told-in-Rank.result c.told-in-Rank.ensures.text
    (λ l shows. if_ok _ _ c.ranks_text.result (λ t written.
    rank_body c.args.command.now l.segs at.l at.at at.k at.is (subst AsksSome at.is c.requires.some) c.in_ok-ranks-in-Rank.ranks c.items-in-Rank.result.now
    (c.in_ok-ranks-in-Rank.ensures.ranked l shows) c.items-in-Rank.ensures
    c.is_empty.result c.is_empty.ensures c.if-is_empty.false c.items-in-Rank-2.result.now c.items-in-Rank-2.ensures t written) c.ranks_text.ensures)
