use Rattle.std.proofs.Common.{◌∙◌, ap, arith}
use Rattle.quilt_lang.specs.Trials.{trial_text}
use Rattle.quilt_map.specs.Sessions.{level_of}
use Rattle.quilt_map.proofs.Laws.{at_read}
use Rattle.quilt_top.specs.Trying.{trial_run}
use Rattle.quilt_top.proofs.turns.Applying.{leaves_told, seen_told}
use Rattle.quilt_top.proofs.Concluding.{tries_pages, goes_none, goes_part, goes_whole, goes_front, tries_as, tried_as, counted_as}
use Rattle.quilt_top.proofs.Summaries.{summary_is, flag_is, last_leaves, last_seen}
use Rattle.quilt_top.proofs.logs.Said.{if_err_const}
use Rattle.quilt_top.proofs.trial_run.run_trial.Goals as goal

pub returns-in_err-tally-clause-front : goal.returns-in_err-tally-clause-front
returns-in_err-tally-clause-front g c = λ s at.
    let n = level_of c.args.session.now in
    let level = c.new-items.ensures.level ∙ c.head.ensures.is_level in
    let text = c.new-items.ensures.text ∙ ap (trial_text c.args.seed c.args.count) c.head.ensures.is_level in
    goes_none n (trial_run n s c.args.seed c.args.count) _ _ (tries_as n _ c.args.seed c.args.count _ level text s _ _ (c.try_items.ensures.tries s at))

pub returns-in_err-text-clause-front : goal.returns-in_err-text-clause-front
returns-in_err-text-clause-front g c = λ s at.
    let n = level_of c.args.session.now in
    let level = c.new-items.ensures.level ∙ c.head.ensures.is_level in
    let text = c.new-items.ensures.text ∙ ap (trial_text c.args.seed c.args.count) c.head.ensures.is_level in
    goes_none n (trial_run n s c.args.seed c.args.count) _ _ (tries_as n _ c.args.seed c.args.count _ level text s _ _ (c.try_items.ensures.tries s at))

pub returns-in_err-put_reply-clause-front : goal.returns-in_err-put_reply-clause-front
returns-in_err-put_reply-clause-front g c = λ s at.
    let n = level_of c.args.session.now in
    let level = c.new-items.ensures.level ∙ c.head.ensures.is_level in
    let text = c.new-items.ensures.text ∙ ap (trial_text c.args.seed c.args.count) c.head.ensures.is_level in
    let so = c.in_ok-tally.ensures.tried s at in
    let first = at_read c.args.session.now s at in
    let tally = c.in_ok-tally.tally in
    let trial = trial_text c.args.seed c.args.count n in
    let tried = tried_as n _ c.args.seed c.args.count _ level text s so.0 tally so.2 in
    let counted = counted_as n _ c.args.seed c.args.count _ level text _ c.in_ok-tally.ensures.counted in
    let summary = summary_is n trial s so.0 first tally tried _ _ counted (c.head-head.ensures.records so.0 so.1) (c.head-head.ensures.number so.0 so.1) in
    goes_part n (trial_run n s c.args.seed c.args.count) c.as_bytes.result.now _ _ _ (c.as_bytes.ensures.value ∙ c.in_ok-text.ensures ∙ summary)
    (tries_as n _ c.args.seed c.args.count _ level text s _ _ (c.try_items.ensures.tries s at))
    (last_leaves n trial s so.0 first tally tried _ (leaves_told c.try_items.new.session so.0 so.1)) c.in_err-put_reply.ensures.part c.put_reply.ensures.text

pub returns-clause-whole : goal.returns-clause-whole
returns-clause-whole g c = λ s at.
    let n = level_of c.args.session.now in
    let level = c.new-items.ensures.level ∙ c.head.ensures.is_level in
    let text = c.new-items.ensures.text ∙ ap (trial_text c.args.seed c.args.count) c.head.ensures.is_level in
    let so = c.in_ok-tally.ensures.tried s at in
    let first = at_read c.args.session.now s at in
    let tally = c.in_ok-tally.tally in
    let trial = trial_text c.args.seed c.args.count n in
    let tried = tried_as n _ c.args.seed c.args.count _ level text s so.0 tally so.2 in
    let counted = counted_as n _ c.args.seed c.args.count _ level text _ c.in_ok-tally.ensures.counted in
    let summary = summary_is n trial s so.0 first tally tried _ _ counted (c.head-head.ensures.records so.0 so.1) (c.head-head.ensures.number so.0 so.1) in
    goes_whole n (trial_run n s c.args.seed c.args.count) _ c.as_bytes.result.now _ _ _ (c.as_bytes.ensures.value ∙ c.in_ok-text.ensures ∙ summary)
    (flag_is n trial s so.0 first tally tried counted)
    (tries_as n _ c.args.seed c.args.count _ level text s _ _ (c.try_items.ensures.tries s at))
    (last_leaves n trial s so.0 first tally tried _ (leaves_told c.try_items.new.session so.0 so.1)) c.in_ok-put_reply.ensures.said c.put_reply.ensures.text
    (last_seen n trial s so.0 first tally tried _ (seen_told c.put_reply.new.session so.0 (c.put_reply.ensures.at so.0 so.1)))

pub returns-clause-front : goal.returns-clause-front
returns-clause-front g c = λ s at.
    let n = level_of c.args.session.now in
    goes_front n (trial_run n s c.args.seed c.args.count) _ _ _ (returns-clause-whole g c s at)

pub try_items-requires-clause-few : goal.try_items-requires-clause-few
try_items-requires-clause-few g c = let few = c.new-items.ensures.few in omega (arith, few, c.ranges.count.fits)

-- ---- where memory was wanted

pub returns-in_err-tally-clause-unsaid : goal.returns-in_err-tally-clause-unsaid
returns-in_err-tally-clause-unsaid g c =
    if_err_const _ _ _ (λ s at.
    let n = level_of c.args.session.now in
    let level = c.new-items.ensures.level ∙ c.head.ensures.is_level in
    let text = c.new-items.ensures.text ∙ ap (trial_text c.args.seed c.args.count) c.head.ensures.is_level in
    tries_pages (trial_run n s c.args.seed c.args.count) _ _ (tries_as n _ c.args.seed c.args.count _ level text s _ _ (c.try_items.ensures.tries s at)))

pub returns-in_err-text-clause-unsaid : goal.returns-in_err-text-clause-unsaid
returns-in_err-text-clause-unsaid g c =
    if_err_const _ _ _ (λ s at.
    let n = level_of c.args.session.now in
    let level = c.new-items.ensures.level ∙ c.head.ensures.is_level in
    let text = c.new-items.ensures.text ∙ ap (trial_text c.args.seed c.args.count) c.head.ensures.is_level in
    tries_pages (trial_run n s c.args.seed c.args.count) _ _ (tries_as n _ c.args.seed c.args.count _ level text s _ _ (c.try_items.ensures.tries s at)))
