use Rattle.std.proofs.Common.{◌∙◌, ap, arith, length, List, ℕ, ◌++◌, map}
use Rattle.std.proofs.lemmas.Bool.{lt-ltb, le-ltb}
use Rattle.std.proofs.lemmas.Result.{IfOk-weaker}
use Rattle.quilt_words.specs.Items.{line_limit}
use Rattle.quilt_lang.specs.Cutting.{holding}
use Rattle.quilt_lang.proofs.Asking.{holds, holds_long}
use Rattle.quilt_lang.proofs.held.item_of.Goals as goal

pub returns-then-line-gt-LINE_LIMIT : goal.returns-then-line-gt-LINE_LIMIT
returns-then-line-gt-LINE_LIMIT c = holds_long _ _ c.args.line.now _ (lt-ltb line_limit (length c.args.line.now) (omega arith))

pub returns : goal.returns
returns c =
    IfOk-weaker c.item_with.result _ _
    (λ item is. holds c.args.format c.args.level c.args.line.now _ c.args.what item (le-ltb line_limit (length c.args.line.now) (omega arith)) c.requires
    (is
    ∙ ap (λ (l : List ℕ). holding c.args.format c.args.level l (map (λ w. w.now) c.args.more.now) c.args.what)
    (c.in_ok-push.ensures.ok ∙ ap (λ (l : List ℕ). l ++ c.args.line.now) c.new-text.ensures)))
    c.item_with.ensures
