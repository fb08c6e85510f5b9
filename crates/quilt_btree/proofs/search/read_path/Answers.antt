use Rattle.std.proofs.Common.{◌≡◌, Some, refl, sym, ◌∙◌, subst}
use Rattle.quilt_node.specs.Pages.{inner_of}
use Rattle.quilt_btree.proofs.ways.Forks.{read_ok}
use Rattle.quilt_btree.specs.Damage.{HasChild}
use Rattle.quilt_btree.proofs.ways.Damage.{sound_names, bad_inner}
use Rattle.quilt_btree.proofs.ways.Ways.{is_path, is_high}
use Rattle.quilt_btree.proofs.Handed.{handed_on}
use Rattle.quilt_btree.proofs.search.read_path.Goals as goal

pub returns-in_err-read_into-clause-sound : goal.returns-in_err-read_into-clause-sound
returns-in_err-read_into-clause-sound g c =
    rw (handed_on c.from_residual.result c.from_residual.ensures.1) (λ height rs some above s. c.in_err-read_into.ensures.sound)

pub returns-in-None-clause-sound : goal.returns-in-None-clause-sound
returns-in-None-clause-sound g c = λ height rs some above s.
    let h = is_high
    (read_ok (g.S.PageStore.told c.args.store.now) (g.S.PageStore.told c.read_into.new.store) c.args.page height c.pages.result
    (g.S.PageStore.size c.args.store.now) c.read_into.new.bytes some above c.in_ok-read_into.ensures.left.told (g.met.S.PageStore.as_many c.args.store.now)
    (c.pages.ensures ∙ c.in_ok-read_into.ensures.left.size) c.in_ok-read_into.ensures.bytes) s in
    absurd (c.in-None.ensures.path h.inner h.is)

pub returns-in-Some-clause-path : goal.returns-in-Some-clause-path
returns-in-Some-clause-path g c =
    let same : c.pages.result ≡ g.S.PageStore.size c.args.store.now = c.pages.ensures ∙ c.in_ok-read_into.ensures.left.size in
    is_path (g.S.PageStore.told c.args.store.now) c.args.page (g.S.PageStore.size c.args.store.now)
    c.read_into.new.bytes c.args.k.now c.in-Some.path.place c.in-Some.path.child (g.met.S.PageStore.as_many c.args.store.now) c.in_ok-read_into.ensures.bytes
    (λ inner is. c.in-Some.ensures.path inner (subst (λ n. inner_of n c.read_into.new.bytes ≡ Some inner) (sym same) is))

pub returns-in-Some-clause-here : goal.returns-in-Some-clause-here
returns-in-Some-clause-here g c = λ height rs some above s.
    is_high
    (read_ok (g.S.PageStore.told c.args.store.now) (g.S.PageStore.told c.read_into.new.store) c.args.page height
    (g.S.PageStore.size c.args.store.now) (g.S.PageStore.size c.args.store.now) c.read_into.new.bytes some above c.in_ok-read_into.ensures.left.told
    (g.met.S.PageStore.as_many c.args.store.now) refl c.in_ok-read_into.ensures.bytes) s

pub returns-in-Some-clause-stands : goal.returns-in-Some-clause-stands
returns-in-Some-clause-stands g c =
    subst (λ n. HasChild n c.read_into.new.bytes c.in-Some.path.child) (c.pages.ensures ∙ c.in_ok-read_into.ensures.left.size) c.in-Some.ensures.stands

pub returns-in_err-read_into-clause-bad : goal.returns-in_err-read_into-clause-bad
returns-in_err-read_into-clause-bad g c =
    rw (handed_on c.from_residual.result c.from_residual.ensures.1) (λ height some above.
    sound_names (g.S.PageStore.told c.args.store.now) height c.args.page _ c.in_err-read_into.ensures.sound)

pub returns-in-None-clause-bad : goal.returns-in-None-clause-bad
returns-in-None-clause-bad g c = λ height some above.
    bad_inner (g.S.PageStore.told c.args.store.now) (g.S.PageStore.told c.read_into.new.store)
    c.args.page height c.pages.result c.read_into.new.bytes
    (read_ok (g.S.PageStore.told c.args.store.now) (g.S.PageStore.told c.read_into.new.store) c.args.page height c.pages.result
    (g.S.PageStore.size c.args.store.now) c.read_into.new.bytes some above c.in_ok-read_into.ensures.left.told (g.met.S.PageStore.as_many c.args.store.now)
    (c.pages.ensures ∙ c.in_ok-read_into.ensures.left.size) c.in_ok-read_into.ensures.bytes) c.in-None.ensures.path
