use Rattle.std.proofs.Common.{◌≡◌, ℕ, ◌*◌, [], ◌∷◌, ◌++◌, List, length, map, flat_map, Contains, ◌∙◌, ap, subst, arith}
use Rattle.std.proofs.lemmas.Result.{err_from_is_err_and}
use Rattle.std.proofs.lemmas.List.{length-map}
use Rattle.quilt_store.proofs.Reading.{only_reads_ok}
use Rattle.quilt_types.specs.declared.plane.Seg.{Seg}
use Rattle.quilt_types.specs.Plane.{quarters_of}
use Rattle.quilt_near.specs.Lines.{meeting}
use Rattle.quilt_lines.specs.Layers.{fact_record}
use Rattle.quilt_lines.specs.Adding.{facts_by, ids_meeting}
use Rattle.quilt_lines.proofs.Listed.{same_segments, all_there, each_there}
use Rattle.quilt_lines.proofs.Sums.{reads_more}
use Rattle.quilt_btree.proofs.stores.Looks.{only_reads_handed}
use Rattle.quilt_btree.proofs.Handed.{handed_on}
use Rattle.quilt_lines.proofs.addition.Arrival.split.Goals as goal

pub returns-in_err-list-clause-sound : goal.returns-in_err-list-clause-sound
returns-in_err-list-clause-sound g c =
    let p = err_from_is_err_and c.from_residual.result c.from_residual.ensures.1 in
    rw (p.1, p.2) (λ segs cover h are. c.in_err-list.ensures.sound c.args.self.now.t segs cover h (λ id m. each_there segs c.args.b id (subst (λ (ids : List ℕ). Contains ids id) are m)))

pub returns-clause-come : goal.returns-clause-come
returns-clause-come g c segs cover h are =
    let same : c.in_ok-list.list ≡ meeting segs c.args.b = same_segments segs c.in_ok-list.list _ (c.in_ok-list.ensures.ids ∙ are)
    (c.in_ok-list.ensures.found c.args.self.now.t segs cover h) (all_there segs c.args.b) in
    let all : c.items.result.now ≡ meeting segs c.args.b ++ (c.args.self.now.id, c.args.self.now.s) ∷ [] =
    c.items.ensures ∙ c.in-Ok-push.ensures.ok ∙ ap (λ (l : List (ℕ × Seg)). l ++ (c.args.self.now.id, c.args.self.now.s) ∷ []) same in
    c.in-Ok-push_quarters.ensures
    ∙ ap (λ (l : List (ℕ × Seg)). c.args.change.now.come.items ++ map (fact_record c.args.self.now.view.level c.args.self.now.view.layer)
    (flat_map (λ q. facts_by q (ids_meeting l q)) (quarters_of c.args.b))) all

pub returns-in_err-list-clause-left : goal.returns-in_err-list-clause-left
returns-in_err-list-clause-left g c = only_reads_handed _ c.from_residual.ensures.1 c.in_err-list.ensures.left

pub returns-clause-left : goal.returns-clause-left
returns-clause-left g c = only_reads_ok _ c.in_ok-list.ensures.left _

pub returns-clause-reads : goal.returns-clause-reads
returns-clause-reads g c =
    let many = ap length c.in_ok-list.ensures.ids in
    let all = length-map c.in_ok-list.list (λ (e : ℕ × Seg). e.0) in
    reads_more _ _ (3 * length c.in_ok-list.list) (3 * length c.args.ids.now) (omega arith) c.in_ok-list.ensures.reads

pub returns-in_err-list-clause-zero : goal.returns-in_err-list-clause-zero
returns-in_err-list-clause-zero g c = rw (handed_on c.from_residual.result c.from_residual.ensures.1) c.in_err-list.ensures.zero
