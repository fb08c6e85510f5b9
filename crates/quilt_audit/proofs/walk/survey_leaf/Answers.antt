use Rattle.std.proofs.Common.{◌∷◌, ◌∙◌}
use Rattle.std.proofs.lemmas.Result.{err_from_is_err_and}
use Rattle.quilt_node.specs.Nodes.{page_records}
use Rattle.quilt_audit.specs.declared.progress.Surveying.{Surveying}
use Rattle.quilt_audit.proofs.Walked.{Spent-page, Added-page, walk_leaf, from_to}
use Rattle.quilt_audit.proofs.walk.survey_leaf.Goals as goal

pub returns-in-Ok-clause-found : goal.returns-in-Ok-clause-found
returns-in-Ok-clause-found g c visited m fresh =
    let new : Surveying = record { used = c.list_page.new.bits; checker = c.feed.new.checker } in
    record {
      rs = page_records c.read_leaf.new.bytes;
      now = c.args.page ∷ visited;
      added = Added-page (g.S.PageStore.size c.args.store.now) visited c.args.state.now new (g.S.PageStore.reads c.args.store.now)
          (g.S.PageStore.reads c.read_leaf.new.store) c.args.page (page_records c.read_leaf.new.bytes)
          c.requires.page.0 c.requires.page.1 m fresh c.list_page.ensures c.in-Ok.ensures c.in_ok-read_leaf.ensures.reads;
      walks =
          λ pages e. walk_leaf pages c.args.is_root (c.args.page, from_to c.args.low.now c.args.high.now) visited fresh ∙ c.in_ok-read_leaf.ensures.leaf pages visited e;
    }

pub returns-in_err-read_leaf-clause-spent : goal.returns-in_err-read_leaf-clause-spent
returns-in_err-read_leaf-clause-spent g c =
    let p = err_from_is_err_and c.from_residual.result c.from_residual.ensures.1 in
    rw p.1 (λ visited fresh. record {
      now = c.args.page ∷ visited;
      spent = Spent-page (g.S.PageStore.size c.args.store.now) visited (g.S.PageStore.reads c.args.store.now) (g.S.PageStore.reads c.read_leaf.new.store)
          c.args.page c.requires.page.0 c.requires.page.1 fresh c.in_err-read_leaf.ensures.reads;
    })

pub returns-in-Err-clause-spent : goal.returns-in-Err-clause-spent
returns-in-Err-clause-spent g c visited fresh = record {
  now = c.args.page ∷ visited;
  spent = Spent-page (g.S.PageStore.size c.args.store.now) visited (g.S.PageStore.reads c.args.store.now) (g.S.PageStore.reads c.read_leaf.new.store)
      c.args.page c.requires.page.0 c.requires.page.1 fresh c.in_ok-read_leaf.ensures.reads;
}
