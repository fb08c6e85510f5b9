-- What becomes of blocks, one after the other.
use Rattle.std.proofs.Common.{◌≡◌, ℕ, Bool, true, false, ◌&&◌, List, [], ◌∷◌, ◌++◌, map, flat_map, ⊎_elim, refl, sym, ◌∙◌, ap, ap₂, subst, arith, Contains}
use Rattle.std.specs.List.{list_all}
use Rattle.std.specs.FinMap as finmap
use Rattle.std.proofs.lemmas.Bool.{and_parts}
use Rattle.std.proofs.lemmas.List.{append-nil, map-append}
use Rattle.std.proofs.lemmas.List.Concat.{flat_map-append}
use Rattle.std.proofs.lemmas.List.Elements.{Contains-append_left, Contains-append_right, Contains-append_cases}
use Rattle.quilt_types.specs.declared.plane.Block.{Block}
use Rattle.quilt_types.specs.declared.plane.Seg.{Seg}
use Rattle.quilt_types.specs.Layers.{SegMap, BlockSet}
use Rattle.quilt_types.specs.Facts.{Fact, line_facts}
use Rattle.quilt_loc.proofs.Members.{Contains-nil, Contains-here, Contains-cons_cases}
use Rattle.quilt_record.specs.declared.record.Record.{Record}
use Rattle.quilt_line_laws.specs.Lines.{IsMet, none_on}
use Rattle.quilt_line_laws.specs.Merging.{is_one, coming_in, going_in, staying_in}
use Rattle.quilt_line_laws.specs.Counting.{gone_of_quarter}
use Rattle.quilt_lines.specs.declared.merge.Settled.{Settled}
use Rattle.quilt_lines.specs.Layers.{fact_record}
use Rattle.quilt_lines.specs.Merges.{records_on, met_by, SettlesBlock, Gathers, IsGathered}
use Rattle.quilt_lines.proofs.plans.MergeSteps.{ids_are}

-- the records of the blocks that a function gives of one block more
one_more : (n layer : ℕ) (facts : Block → List Fact) (f : Block → List Block) (bs : List Block) (b : Block) (old more new : List Record) → new ≡ old ++ more
    → old ≡ records_on n layer facts (flat_map f bs) → more ≡ records_on n layer facts (f b) → new ≡ records_on n layer facts (flat_map f (bs ++ b ∷ []))
one_more n layer facts f bs b old more new is was has =
    is ∙ ap₂ (λ (x y : List Record). x ++ y) was has ∙ sym (map-append (fact_record n layer) (flat_map facts (flat_map f bs)) (flat_map facts (f b)))
    ∙ ap (map (fact_record n layer)) (sym (flat_map-append facts (flat_map f bs) (f b)))
    ∙ ap (records_on n layer facts) (ap (λ (l : List Block). flat_map f bs ++ l) (sym (append-nil (f b))) ∙ sym (flat_map-append f bs (b ∷ [])))

list_all-next : (p : Block → Bool) (bs : List Block) (b : Block) → list_all p (bs ++ b ∷ []) ≡ (list_all p bs && p b)
list_all-next p [] b = and_true (p b)
  where
    and_true : (u : Bool) → (u && true) ≡ u
    and_true true = refl
    and_true false = refl
list_all-next p (c ∷ bs) b = ap (λ (u : Bool). p c && u) (list_all-next p bs b) ∙ and_more (p c) (list_all p bs) (p b)
  where
    and_more : (u v w : Bool) → (u && (v && w)) ≡ ((u && v) && w)
    and_more true v w = refl
    and_more false v w = refl

module _ (n layer t id : ℕ) (segs : SegMap) (cover : BlockSet) (s : Seg) (k : ℕ) where
  pub gathers_next : (bs : List Block) (b : Block) (x y z : Settled) → Gathers n layer t id segs cover s k bs x → SettlesBlock n layer t id segs cover s k b y
      → IsGathered t x y z
      → Gathers n layer t id segs cover s k (bs ++ b ∷ []) z
  gathers_next bs b x y z g h w =
      let both : z.one ≡ true → (x.one ≡ true) × (y.one ≡ true) = λ o. and_parts x.one y.one (sym w.one ∙ o) in
      record {
        one = w.one ∙ ap₂ (λ (u v : Bool). u && v) g.one h.one ∙ sym (list_all-next (is_one t (finmap.remove segs id) cover s k) bs b);
        once = w.ids.once g.once;
        from = λ o i c.
            let p = both o in
            ⊎_elim
            (λ d. let v = g.from p.0 i d in (v.0, Contains-append_left bs (b ∷ []) v.0 v.1, v.2))
            (λ d. (
              b,
              Contains-append_right bs (b ∷ []) b (Contains-here b []),
              (ids_are (finmap.remove segs id) b i).0
                  (subst (λ (l : List ℕ). Contains l i) (h.ids p.1) d),
            ))
            (w.ids.from i c);
        all = λ o few q c i m.
            let p = both o in
            let up = w.ids.grows in
            ⊎_elim
            (λ d. w.ids.kept i (g.all p.0 (omega arith) q d i m))
            (λ d.
            let is : b ≡ q = ⊎_elim (λ e. e) (λ none. absurd (Contains-nil q none)) (Contains-cons_cases b [] q d) in
            w.ids.all few i (subst (λ (l : List ℕ). Contains l i) (sym (h.ids p.1))
            ((ids_are (finmap.remove segs id) b i).1 (subst (λ (r : Block). IsMet (finmap.remove segs id) r i) (sym is) m))))
            (Contains-append_cases bs (b ∷ []) q c);
        parts = λ o. let p = both o in one_more n layer (line_facts segs) (gone_of_quarter t (finmap.remove segs id) cover s k) bs b x.parts.items
            y.parts.items z.parts.items w.parts (g.parts p.0) (h.parts p.1);
        coming = one_more n layer (line_facts (finmap.remove segs id)) (coming_in t (finmap.remove segs id) cover s k) bs b x.coming.items y.coming.items
            z.coming.items w.coming g.coming h.coming;
        going = one_more n layer (line_facts segs) (going_in t (finmap.remove segs id) cover s k) bs b x.going.items y.going.items z.going.items w.going
            g.going h.going;
        staying = one_more n layer (met_by id) (staying_in t (finmap.remove segs id) cover s k) bs b x.staying.items y.staying.items z.staying.items
            w.staying g.staying h.staying;
        emptied = one_more n layer (none_on (finmap.remove segs id)) (staying_in t (finmap.remove segs id) cover s k) bs b x.emptied.items y.emptied.items
            z.emptied.items w.emptied g.emptied h.emptied;
      }
