use Rattle.std.proofs.Common.{◌-◌, [], ◌∷◌, false, ◌∙◌, arith}
use Rattle.quilt_store.proofs.Reading.{only_reads_then, only_reads_same, read_on, only_reads_err}
use Rattle.quilt_node.specs.Tree.{walk}
use Rattle.quilt_audit.specs.declared.progress.Surveying.{Surveying}
use Rattle.quilt_audit.proofs.Feeding.{Takes-none}
use Rattle.quilt_audit.proofs.Walked.{Added-page, from_to, reached_first, reached_next, reached_stop, walk_inner, page_found, on_ok_map, on_err_map}
use Rattle.quilt_audit.proofs.Walked.{damaged_map, Spent-none, Spent-page, SpentSome-then, stop_map, unlisted}
use Rattle.quilt_audit.proofs.walk.+walking.Goals as goal

pub survey_children-loop-i-init : goal.survey_children-loop-i-init
survey_children-loop-i-init g t c = record {
  left = only_reads_same _ tt _ (g.met.S.PageStore.same_time c.args.store.now);
  found = λ visited m. reached_first (g.S.PageStore.size c.args.store.now) (g.S.PageStore.told c.args.store.now)
      c.args.height c.args.inner.now.children c.args.inner.now.keys c.args.low.now c.args.high.now
      visited c.args.state.now (g.S.PageStore.reads c.args.store.now) m;
}

pub survey_children-loop-i-preserved : goal.survey_children-loop-i-preserved
survey_children-loop-i-preserved g t c =
    let inv = c.loop-i.invariant in
    let e = c.in_default.ensures in
    let long = c.len-i-end.ensures.length in
    let keys = c.len-i-end.ensures.keys in
    let lt = c.loop-i-test.true in
    record {
      left = read_on _ g.met.S.PageStore.goes_on c.args.store.now c.loop-i.store c.survey_page.new.store inv.left e.left;
      found = λ visited m.
          let h = inv.found visited m in
          reached_next (g.S.PageStore.size c.args.store.now) (g.S.PageStore.told c.args.store.now) c.args.height c.args.inner.now.children
          c.args.inner.now.keys c.args.low.now c.args.high.now
          c.loop-i.i c.child-page.result c.loop-i.from (omega arith) (omega arith) c.child-page.ensures.child
          visited c.args.state.now c.loop-i.state c.survey_page.new.state (g.S.PageStore.reads c.args.store.now) (g.S.PageStore.reads c.loop-i.store)
          (g.S.PageStore.reads c.survey_page.new.store)
          c.bound_behind-to.result (g.S.PageStore.told c.loop-i.store) (g.S.PageStore.size c.loop-i.store) inv.left.told inv.left.size
          c.bound_behind-to.ensures h
          (e.found h.now h.added.marks);
    }

pub survey_children-returns-in-Err-clause-damaged : goal.survey_children-returns-in-Err-clause-damaged
survey_children-returns-in-Err-clause-damaged g t c =
    let inv = c.loop-i.invariant in
    let long = c.len-i-end.ensures.length in
    let keys = c.len-i-end.ensures.keys in
    let lt = c.loop-i-test.true in
    stop_map c.in-Err.e _ _
    (λ p w pages visited e m.
    let h = inv.found visited m in
    reached_stop (g.S.PageStore.size c.args.store.now) (g.S.PageStore.told c.args.store.now) c.args.height c.args.inner.now.children
    c.args.inner.now.keys c.args.low.now c.args.high.now
    c.loop-i.i c.child-page.result c.loop-i.from (omega arith) (omega arith) c.child-page.ensures.child
    visited c.args.state.now c.loop-i.state (g.S.PageStore.reads c.args.store.now) (g.S.PageStore.reads c.loop-i.store)
    c.bound_behind-to.result p pages e c.bound_behind-to.ensures h
    (w pages h.now (inv.left.told ∙ e) h.added.marks))
    c.in-Err.ensures.damaged

pub survey_page-returns-in-Err-clause-damaged : goal.survey_page-returns-in-Err-clause-damaged
survey_page-returns-in-Err-clause-damaged g t c =
    let some = c.requires.height in
    let more = c.if-height-eq1.false in
    stop_map c.in-Err.e _ _
    (λ p w pages visited e m.
    let fresh = unlisted c.args.state.now.used visited c.args.page _ m c.is_listed.ensures c.if-is_listed.false in
    walk_inner pages c.args.height c.args.is_root (c.args.page, from_to c.args.low.now c.args.high.now) visited (omega arith)
    fresh
    ∙ w pages visited (walk pages (c.args.height - 1) false) e)
    c.in-Err.ensures.damaged

pub survey_page-returns-in-Ok-clause-found : goal.survey_page-returns-in-Ok-clause-found
survey_page-returns-in-Ok-clause-found g t c =
    let some = c.requires.height in
    let more = c.if-height-eq1.false in
    let b = from_to c.args.low.now c.args.high.now in
    let mid : Surveying = record { used = c.list_page.new.bits; checker = c.args.state.now.checker } in
    on_ok_map c.survey_children.result _ _
    (λ found visited m.
    let fresh = unlisted c.args.state.now.used visited c.args.page _ m c.is_listed.ensures c.if-is_listed.false in
    let a = Added-page (g.S.PageStore.size c.args.store.now) visited c.args.state.now mid (g.S.PageStore.reads c.args.store.now)
    (g.S.PageStore.reads c.read_inner.new.store) c.args.page []
    c.requires.page.0 c.requires.page.1 m fresh c.list_page.ensures
    (Takes-none c.args.state.now.checker) c.in-Ok.ensures.reads in
    page_found (g.S.PageStore.size c.args.store.now) (g.S.PageStore.told c.args.store.now) c.args.height c.args.is_root c.args.page b visited
    c.args.state.now mid c.survey_children.new.state
    (g.S.PageStore.reads c.args.store.now) (g.S.PageStore.reads c.read_inner.new.store) (g.S.PageStore.reads c.survey_children.new.store)
    c.in-Ok.inner.children c.in-Ok.inner.keys
    (g.S.PageStore.size c.read_inner.new.store) (g.S.PageStore.told c.read_inner.new.store) c.in-Ok.ensures.left.size c.in-Ok.ensures.left.told (omega arith)
    fresh a (λ pages visit e. c.in-Ok.ensures.inner pages visited visit e)
    (found (c.args.page ∷ visited) a.marks))
    c.survey_children.ensures.found

pub survey_page-returns-in-Ok-clause-damaged : goal.survey_page-returns-in-Ok-clause-damaged
survey_page-returns-in-Ok-clause-damaged g t c =
    let some = c.requires.height in
    let more = c.if-height-eq1.false in
    let b = from_to c.args.low.now c.args.high.now in
    let mid : Surveying = record { used = c.list_page.new.bits; checker = c.args.state.now.checker } in
    damaged_map c.survey_children.result _ _
    (λ p w pages visited e m.
    let fresh = unlisted c.args.state.now.used visited c.args.page _ m c.is_listed.ensures c.if-is_listed.false in
    let a = Added-page (g.S.PageStore.size c.args.store.now) visited c.args.state.now mid (g.S.PageStore.reads c.args.store.now)
    (g.S.PageStore.reads c.read_inner.new.store) c.args.page []
    c.requires.page.0 c.requires.page.1 m fresh c.list_page.ensures
    (Takes-none c.args.state.now.checker) c.in-Ok.ensures.reads in
    walk_inner pages c.args.height c.args.is_root (c.args.page, b) visited (omega arith)
    fresh
    ∙ c.in-Ok.ensures.inner pages visited (walk pages (c.args.height - 1) false) e
    ∙ w pages (c.args.page ∷ visited) (c.in-Ok.ensures.left.told ∙ e) a.marks)
    c.survey_children.ensures.damaged

pub survey_page-returns-then-is_listed-clause-spent : goal.survey_page-returns-then-is_listed-clause-spent
survey_page-returns-then-is_listed-clause-spent g t c visited m =
    record { now = visited; spent = Spent-none (g.S.PageStore.size c.args.store.now) visited (g.S.PageStore.reads c.args.store.now) }

pub survey_page-returns-in-Err-clause-spent : goal.survey_page-returns-in-Err-clause-spent
survey_page-returns-in-Err-clause-spent g t c visited m = record {
  now = c.args.page ∷ visited;
  spent = Spent-page (g.S.PageStore.size c.args.store.now) visited (g.S.PageStore.reads c.args.store.now)
      (g.S.PageStore.reads c.read_inner.new.store) c.args.page c.requires.page.0 c.requires.page.1
      (unlisted c.args.state.now.used visited c.args.page _ m c.is_listed.ensures c.if-is_listed.false) c.in-Err.ensures.reads;
}

pub survey_page-returns-in-Ok-clause-spent : goal.survey_page-returns-in-Ok-clause-spent
survey_page-returns-in-Ok-clause-spent g t c =
    let mid : Surveying = record { used = c.list_page.new.bits; checker = c.args.state.now.checker } in
    on_err_map c.survey_children.result _ _
    (λ spent visited m.
    let fresh = unlisted c.args.state.now.used visited c.args.page _ m c.is_listed.ensures c.if-is_listed.false in
    let a = Added-page (g.S.PageStore.size c.args.store.now) visited c.args.state.now mid (g.S.PageStore.reads c.args.store.now)
    (g.S.PageStore.reads c.read_inner.new.store) c.args.page []
    c.requires.page.0 c.requires.page.1 m fresh c.list_page.ensures
    (Takes-none c.args.state.now.checker) c.in-Ok.ensures.reads in
    SpentSome-then (g.S.PageStore.size c.args.store.now) visited (c.args.page ∷ visited) (g.S.PageStore.reads c.args.store.now)
    (g.S.PageStore.reads c.read_inner.new.store) (g.S.PageStore.reads c.survey_children.new.store)
    (g.S.PageStore.size c.read_inner.new.store) c.in-Ok.ensures.left.size a.spent (spent (c.args.page ∷ visited) a.marks))
    c.survey_children.ensures.spent

pub survey_children-returns-in-Err-clause-spent : goal.survey_children-returns-in-Err-clause-spent
survey_children-returns-in-Err-clause-spent g t c visited m =
    let inv = c.loop-i.invariant in
    let h = inv.found visited m in
    SpentSome-then (g.S.PageStore.size c.args.store.now) visited h.now (g.S.PageStore.reads c.args.store.now) (g.S.PageStore.reads c.loop-i.store)
    (g.S.PageStore.reads c.survey_page.new.store)
    (g.S.PageStore.size c.loop-i.store) inv.left.size h.added.spent (c.in-Err.ensures.spent h.now h.added.marks)

pub survey_page-returns-in-Ok-clause-left : goal.survey_page-returns-in-Ok-clause-left
survey_page-returns-in-Ok-clause-left g t c =
    only_reads_then _ g.met.S.PageStore.goes_on _ _ _ c.in-Ok.ensures.left c.survey_children.ensures.left

pub survey_children-returns-in-Err-clause-left : goal.survey_children-returns-in-Err-clause-left
survey_children-returns-in-Err-clause-left g t c =
    only_reads_err _ (only_reads_then _ g.met.S.PageStore.goes_on _ _ _ c.loop-i.invariant.left c.in-Err.ensures.left)
