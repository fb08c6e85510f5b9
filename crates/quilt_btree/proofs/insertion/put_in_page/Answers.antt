use Rattle.std.proofs.Common.{◌≡◌, inl, inr, ℕ, ◌<◌, Bool, List, [], ◌∷◌, ◌++◌, Option, Some, None, Result, Ok, Err, IfOk, IfErr, length}
use Rattle.std.proofs.Common.{slice_index, sym, ◌∙◌, subst, arith}
use Rattle.std.proofs.lemmas.Option.{same_Some, none-some}
use Rattle.quilt_types.specs.declared.stop.Stop.{Stop}
use Rattle.quilt_record.specs.declared.record.Record.{Record}
use Rattle.quilt_node.specs.Pages.{Inner, inner_of}
use Rattle.quilt_node.specs.Edits.{with_child}
use Rattle.quilt_node.specs.Tree.{Bounds}
use Rattle.quilt_store.specs.Store.{count_free}
use Rattle.quilt_store.specs.Stops.{IsNotDamage}
use Rattle.quilt_btree.specs.Inserts.{IsPending, DidPut}
use Rattle.quilt_btree.proofs.ways.Damage.{none_of, zero_faults}
use Rattle.quilt_btree.proofs.ways.Heights.{inner_height}
use Rattle.quilt_btree.proofs.insertion.put_in_page.Goals as goal

-- what is so of the one inner page that the bytes are is so of each
ok_of_any : {A T : Type 0} (P : A → T → Type 0) (r : Result T Stop) {o : Option A} (x : A) → o ≡ Some x → IfOk r (P x)
    → IfOk r (λ v. (y : A) → o ≡ Some y → P y v)
ok_of_any P (Err e) x is f = f
ok_of_any P (Ok v) x is f = λ y e. subst (λ z. P z v) (same_Some x y (sym is ∙ e)) f

err_of_any : {A T : Type 0} (P : A → Stop → Type 0) (Q : A → Type 0) (r : Result T Stop) {o : Option A} (x : A) → o ≡ Some x → IfErr r (P x)
    → IfErr r (λ v. (y : A) → o ≡ Some y → Q y → P y v)
err_of_any P Q (Ok v) x is f = f
err_of_any P Q (Err e) x is f = λ y same q. subst (λ z. P z e) (same_Some x y (sym is ∙ same)) f

pub put_child-requires-clause-place : goal.put_child-requires-clause-place
put_child-requires-clause-place g c =
    c.requires.place c.from_bytes-inner.result
    (subst (λ n. inner_of n c.args.bytes.now ≡ Some c.from_bytes-inner.result) c.pages-pages.ensures c.from_bytes-inner.ensures.inner)

pub returns-clause-put : goal.returns-clause-put
returns-clause-put g c =
    ok_of_any (λ (inner : Inner) o. (is_root : Bool) (b : Bounds) (all : List Record) (under : List ℕ)
    → IsPending (g.S.PageStore.told c.args.store.now) (g.S.PageStore.free c.args.store.now) c.args.page is_root b
    (with_child inner c.args.i c.args.key.now c.args.child) all under
    → DidPut (g.S.PageStore.told c.args.store.now) (g.S.PageStore.told c.put_child.new.store) (g.S.PageStore.free c.args.store.now)
    (g.S.PageStore.free c.put_child.new.store) c.args.page inner.height is_root b (under ++ c.args.page ∷ []) all o)
    c.put_child.result c.from_bytes-inner.result
    (subst (λ n. inner_of n c.args.bytes.now ≡ Some c.from_bytes-inner.result) c.pages-pages.ensures c.from_bytes-inner.ensures.inner) c.put_child.ensures.put

pub returns-clause-sound : goal.returns-clause-sound
returns-clause-sound g c =
    err_of_any (λ (inner : Inner) e. (is_root : Bool) (b : Bounds) (all : List Record) (under : List ℕ)
    → IsPending (g.S.PageStore.told c.args.store.now) (g.S.PageStore.free c.args.store.now) c.args.page is_root b
    (with_child inner c.args.i c.args.key.now c.args.child) all under
    → 0 < count_free (g.S.PageStore.free c.args.store.now) (g.S.PageStore.size c.args.store.now) → (inner.height ≡ 3 → length inner.children < 254)
    → IsNotDamage e) (λ inner. inner.height ≡ c.args.height) c.put_child.result c.from_bytes-inner.result
    (subst (λ n. inner_of n c.args.bytes.now ≡ Some c.from_bytes-inner.result) c.pages-pages.ensures c.from_bytes-inner.ensures.inner) c.put_child.ensures.sound

pub returns-clause-fault : goal.returns-clause-fault
returns-clause-fault g c =
    zero_faults c.put_child.result (λ q. (q ≡ c.args.page) × (inner_of (g.S.PageStore.size c.args.store.now) c.args.bytes.now ≡ None))
    c.put_child.ensures.names

pub returns-clause-less : goal.returns-clause-less
returns-clause-less g c = λ three.
    let same = inner_height c.pages-pages.result c.args.bytes.now c.from_bytes-inner.result c.from_bytes-inner.ensures.inner in
    let h = c.if-bytes-height.false in
    c.put_child.ensures.less (omega arith)

pub returns-then-not-is_inner-clause-sound : goal.returns-then-not-is_inner-clause-sound
returns-then-not-is_inner-clause-sound g c = λ inner is high is_root b all under p room low.
    let none = none_of (inner_of c.pages-pages.result c.args.bytes.now) (sym c.is_inner.ensures ∙ c.if-not-is_inner.true) in
    let there = subst (λ n. inner_of n c.args.bytes.now ≡ Some inner) (sym c.pages-pages.ensures) is in
    absurd (none-some inner (sym none ∙ there))

pub returns-then-not-is_inner-clause-fault : goal.returns-then-not-is_inner-clause-fault
returns-then-not-is_inner-clause-fault g c = λ q is.
    let same : q ≡ c.args.page = cc in
    inr (
      same,
      subst (λ n. inner_of n c.args.bytes.now ≡ None) c.pages-pages.ensures
          (none_of (inner_of c.pages-pages.result c.args.bytes.now) (sym c.is_inner.ensures ∙ c.if-not-is_inner.true)),
    )

pub returns-then-bytes-height-clause-sound : goal.returns-then-bytes-height-clause-sound
returns-then-bytes-height-clause-sound g c = λ inner is high is_root b all under p room low.
    let same : slice_index c.args.bytes.now 1 ≡ c.args.height =
    inner_height c.pages-pages.result c.args.bytes.now inner (subst (λ n. inner_of n c.args.bytes.now ≡ Some inner) (sym c.pages-pages.ensures) is) ∙ high in
    let h = c.if-bytes-height.true in
    absurd (omega arith)

pub returns-then-bytes-height-clause-fault : goal.returns-then-bytes-height-clause-fault
returns-then-bytes-height-clause-fault g c = λ q is. let none : q ≡ 0 = cc in inl none
