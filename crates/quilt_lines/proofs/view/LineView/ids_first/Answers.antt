use Rattle.quilt_lines.proofs.view.LineView.ids_first.Goals as goal

pub ids_near-requires-clause-search : goal.ids_near-requires-clause-search
ids_near-requires-clause-search g c =
    c.new-search.ensures (g.S.PageStore.told c.args.store.now) c.args.self.now.tree c.args.self.now.level c.args.self.now.layer

pub returns-clause-known : goal.returns-clause-known
returns-clause-known g c t segs cover h =
    c.block_seen-hint.ensures (g.S.PageStore.told c.args.store.now) t segs cover c.in_ok-found.ensures.search h
