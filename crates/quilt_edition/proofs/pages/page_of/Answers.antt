use Rattle.std.proofs.Common.{ℕ, List, ◌++◌, length, drop, replicate, ◌∙◌, ap}
use Rattle.std.proofs.lemmas.List.{drop-replicate}
use Rattle.quilt_edition.proofs.pages.page_of.Goals as goal

pub returns : goal.returns
returns c =
    let n = length c.args.front.now in
    ap (λ (l : List ℕ). l ++ drop n (replicate 4096 0)) c.copy_from_slice.ensures.after
    ∙ ap (λ (l : List ℕ). c.args.front.now ++ l) (drop-replicate n 4096 0)
