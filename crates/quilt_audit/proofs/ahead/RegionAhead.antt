-- What has to come behind records that begin those of a region layer.
use Rattle.std.proofs.Common.{◌≡◌, ℕ, ◌^◌, ◌≤◌, List, [], ◌∷◌, ◌++◌, map, refl, sym, ◌∙◌, ap, subst, inl, inr, ⊎_elim, arith, Contains, Less}
use Rattle.std.proofs.lemmas.List.{append-nil}
use Rattle.std.proofs.lemmas.List.Elements.{Contains-append_left, Contains-append_right, Contains-append_cases}
use Rattle.quilt_types.specs.declared.plane.Block.{Block}
use Rattle.quilt_types.specs.Plane.{quarters_of, IsBlock}
use Rattle.quilt_types.specs.Layers.{Region, Grid}
use Rattle.quilt_types.specs.Facts.{Fact, IsOfKind, HasColour}
use Rattle.quilt_types.specs.Quadtrees.{leaves}
use Rattle.quilt_loc.specs.Codes.{Rises, code_from}
use Rattle.quilt_loc.proofs.Members.{Contains-nil, Contains-here, Contains-there, Contains-cons_cases, Contains-map, Contains-map_from}
use Rattle.quilt_loc.proofs.Rising.{nat_less_from}
use Rattle.quilt_record.specs.declared.record.Record.{Record}
use Rattle.quilt_record.specs.Records.{record_of}
use Rattle.quilt_blocks.specs.Cutting.{leaves_by_code, leaf_cmp}
use Rattle.quilt_blocks.specs.Walk.{pixel_count}
use Rattle.quilt_blocks.specs.Listing.{Follows, EndsInQuarters}
use Rattle.quilt_blocks.proofs.Chains.{Follows-back, Follows-rises, Follows-member}
use Rattle.quilt_blocks.proofs.Cuts.{leaves_rise, leaves_members, leaf_is, leaf_total}
use Rattle.quilt_blocks.specs.declared.leaf.Leaf.{Leaf}
use Rattle.quilt_spell.specs.OfLayer.{SpellsRegion, leaf_record}
use Rattle.quilt_spell.specs.Written.{by_key}
use Rattle.quilt_spell.proofs.Written.{by_key_total}
use Rattle.quilt_edits.proofs.Keys.{less_code}
use Rattle.quilt_region.proofs.Records.{leaf_alone}
use Rattle.quilt_line_audit.specs.Layers.{SpellsOne}
use Rattle.quilt_audit.specs.Regions.{AreLaid, IsGoing}
use Rattle.quilt_audit.proofs.Lists.{begins, last_cases, below_itself, both_below, rises_before, rises_behind}
use Rattle.quilt_audit.proofs.runs.Laid.{leaves_laid}

module _ (form n : ℕ) (le : n ≤ 12) (layer : ℕ) (some : 1 ≤ layer) (grid : Grid) (rs ahead : List Record) (up : Rises by_key (rs ++ ahead))
    (s : SpellsOne form n (rs ++ ahead) layer (Region grid)) where
  abbrev fact : Block × ℕ → Fact
  fact e = HasColour e.0 e.1

  spelled_here : SpellsRegion (rs ++ ahead) layer n grid
  spelled_here = record {
    each = λ e c. ⊎_elim (λ k. let z : HasColour e.0 e.1 ≡ IsOfKind 1 0 = k in cc) (λ d. d)
        (s.each (fact e) (Contains-there (IsOfKind 1 0) (map fact (leaves n grid)) (fact e) (Contains-map fact (leaves n grid) e c)));
    only = λ r c is.
        let w = s.only r c is in
        ⊎_elim
        (λ k. let z : 0 ≡ layer = ap (λ (f : Fact). (record_of n 0 [] layer f).key.layer) k ∙ ap (λ (q : Record). q.key.layer) w.2 ∙ is in absurd (omega arith))
        (λ m.
        let d = Contains-map_from fact (leaves n grid) w.0 m in
        subst (Contains (map (leaf_record n layer) (leaves n grid))) (ap (λ (f : Fact). record_of n 0 [] layer f) d.2 ∙ w.2)
        (Contains-map (leaf_record n layer) (leaves n grid) d.0 d.1))
        (Contains-cons_cases (IsOfKind 1 0) (map fact (leaves n grid)) w.0 w.1);
  }

  pub leaf_at : (r : Record) → Contains (rs ++ ahead) r → r.key.layer ≡ layer → (e : Block × ℕ) × Contains (leaves n grid) e × (leaf_record n layer e ≡ r)
  leaf_at r c is = Contains-map_from (leaf_record n layer) (leaves n grid) r (spelled_here.only r c is)

  pub all_laid : AreLaid form n (4 ^ n) (leaves_by_code n grid)
  all_laid = leaves_laid form n grid le s.fits

  -- what stands behind is greater
  in_order : (a b : Record) → Contains rs a → Contains ahead b → by_key a b ≡ Less
  in_order a b c d = rises_before by_key rs ahead a b up c d

  not_both : (a : Record) → Contains rs a → Contains ahead a → ⊥
  not_both a c d = below_itself by_key by_key_total a (in_order a a c d)

  module _ (end : ℕ) (recent : List Leaf) (going : IsGoing form n rs layer end recent) where
    member_block : (e : Block × ℕ) → Contains (leaves_by_code n grid) e → IsBlock n e.0
    member_block e c = (leaf_is n grid e ((leaves_members n grid e).0 c)).maximal.block

    leaf_there : (e : Block × ℕ) → Contains (leaves_by_code n grid) e → Contains (rs ++ ahead) (leaf_record n layer e)
    leaf_there e c = spelled_here.each e ((leaves_members n grid e).0 c)

    leaf_from : (r : Record) → Contains (rs ++ ahead) r → r.key.layer ≡ layer → (e : Block × ℕ) × Contains (leaves_by_code n grid) e
        × (leaf_record n layer e ≡ r)
    leaf_from r c is =
        let m = Contains-map_from (leaf_record n layer) (leaves n grid) r (spelled_here.only r c is) in
        (m.0, (leaves_members n grid m.0).1 m.1, m.2)

    going_block : (e : Block × ℕ) → Contains going.blocks e → IsBlock n e.0
    going_block e c = (Follows-member n 0 going.blocks e going.laid.follows c).block

    going_from : (e : Block × ℕ) → IsBlock n e.0 → Contains rs (leaf_record n layer e) → Contains going.blocks e
    going_from e h c =
        let m = Contains-map_from (leaf_record n layer) going.blocks (leaf_record n layer e) (going.has.only (leaf_record n layer e) c refl) in
        subst (Contains going.blocks) (leaf_alone n layer m.0 e le (going_block m.0 m.1) h m.2) m.1

    going_leaf : (e : Block × ℕ) → Contains going.blocks e → Contains (leaves_by_code n grid) e
    going_leaf e c =
        let m = leaf_from (leaf_record n layer e) (Contains-append_left rs ahead (leaf_record n layer e) (going.has.each e c)) refl in
        subst (Contains (leaves_by_code n grid)) (leaf_alone n layer m.0 e le (member_block m.0 m.1) (going_block e c) m.2) m.1

    -- the leaves that have not come
    pub record Rest : Type 0 where
      pub more : List (Block × ℕ)
      pub split : leaves_by_code n grid ≡ going.blocks ++ more
      pub come : (e : Block × ℕ) → Contains more e → Contains ahead (leaf_record n layer e)

    all_rise : (more : List (Block × ℕ)) → leaves_by_code n grid ≡ going.blocks ++ more → Rises leaf_cmp (going.blocks ++ more)
    all_rise more split = subst (Rises leaf_cmp) split (leaves_rise n grid le)

    pub rest_of : Rest
    rest_of =
        let bs = going.blocks in
        let r = begins leaf_cmp leaf_total bs (leaves_by_code n grid) (Follows-rises n 0 bs going.laid.follows) (leaves_rise n grid le) going_leaf
        (λ x y cx cy.
        ⊎_elim (λ d. inl (going_from y (member_block y cy) d))
        (λ d. inr (λ less.
        both_below by_key by_key_total (leaf_record n layer x) (leaf_record n layer y)
        (in_order (leaf_record n layer x) (leaf_record n layer y) (going.has.each x cx) d)
        (less_code (leaf_record n layer y).key (leaf_record n layer x).key refl refl (nat_less_from (code_from y.0) (code_from x.0) less))))
        (Contains-append_cases rs ahead (leaf_record n layer y) (leaf_there y cy))) in
        let split = r.1 in
        record {
          more = r.0;
          split = split;
          come = λ e c.
              let all = subst (λ (l : List (Block × ℕ)). Contains l e) (sym split) (Contains-append_right bs r.0 e c) in
              ⊎_elim
              (λ d. absurd (below_itself leaf_cmp leaf_total e (rises_before leaf_cmp bs r.0 e e (all_rise r.0 split) (going_from e (member_block e all) d) c)))
              (λ d. d) (Contains-append_cases rs ahead (leaf_record n layer e) (leaf_there e all));
        }

    whole_size : (more : List (Block × ℕ)) → leaves_by_code n grid ≡ going.blocks ++ more → more ≡ [] → end ≡ 4 ^ n
    whole_size more split none =
        let t = all_laid.size in
        let g = going.laid.size in
        let e : leaves_by_code n grid ≡ going.blocks = split ∙ ap (λ l. going.blocks ++ l) none ∙ append-nil going.blocks in
        sym g ∙ ap pixel_count (sym e) ∙ t

    no_members : (more : List (Block × ℕ)) → ((e : Block × ℕ) → Contains more e → ⊥) → more ≡ []
    no_members [] h = refl
    no_members (x ∷ xs) h = absurd (h x (Contains-here x xs))

    -- where no record of the layer comes, the blocks cover the square
    pub none_left : ((x : Record) → Contains ahead x → x.key.layer ≡ layer → ⊥) → end ≡ 4 ^ n
    none_left past =
        let r = rest_of in
        whole_size r.more r.split (no_members r.more (λ e c. past (leaf_record n layer e) (r.come e c) refl))

    -- where a record of the layer comes next, it is that of the next leaf
    module _ (r : Record) (rest : List Record) (ahead_is : ahead ≡ r ∷ rest) (e : Block × ℕ) (block : IsBlock n e.0) (is : r ≡ leaf_record n layer e) where
      comes : Contains ahead (leaf_record n layer e)
      comes = subst (λ (l : List Record). Contains l (leaf_record n layer e)) (sym ahead_is) (subst (Contains (r ∷ rest)) is (Contains-here r rest))

      is_leaf : Contains (leaves_by_code n grid) e
      is_leaf =
          let m = leaf_from (leaf_record n layer e) (Contains-append_right rs ahead (leaf_record n layer e) comes) refl in
          subst (Contains (leaves_by_code n grid)) (leaf_alone n layer m.0 e le (member_block m.0 m.1) block m.2) m.1

      ahead_rises : Rises by_key (r ∷ rest)
      ahead_rises = subst (Rises by_key) ahead_is (rises_behind by_key rs ahead up)

      not_behind : (m : Block × ℕ) → Contains ahead (leaf_record n layer m) → leaf_cmp m e ≡ Less → ⊥
      not_behind m c less =
          let before : by_key (leaf_record n layer m) (leaf_record n layer e) ≡ Less =
          less_code (leaf_record n layer m).key (leaf_record n layer e).key refl refl (nat_less_from (code_from m.0) (code_from e.0) less) in
          ⊎_elim
          (λ same. below_itself by_key by_key_total (leaf_record n layer e)
          (subst (λ (z : Record). by_key z (leaf_record n layer e) ≡ Less) (sym same ∙ is) before))
          (λ d. both_below by_key by_key_total (leaf_record n layer m) (leaf_record n layer e) before
          (subst (λ (z : Record). by_key z (leaf_record n layer m) ≡ Less) is (ahead_rises.0 (leaf_record n layer m) d)))
          (Contains-cons_cases r rest (leaf_record n layer m) (subst (λ (l : List Record). Contains l (leaf_record n layer m)) ahead_is c))

      first_is : (more : List (Block × ℕ)) → Rises leaf_cmp more → ((m : Block × ℕ) → Contains more m → Contains ahead (leaf_record n layer m))
          → Contains more e → (ms : List (Block × ℕ)) × (more ≡ e ∷ ms)
      first_is [] h come c = absurd (Contains-nil e c)
      first_is (m ∷ ms) h come c =
          ⊎_elim (λ same. (ms, ap (λ z. z ∷ ms) same)) (λ d. absurd (not_behind m (come m (Contains-here m ms)) (h.0 e d))) (Contains-cons_cases m ms e c)

      next_split : (ms : List (Block × ℕ)) × (leaves_by_code n grid ≡ going.blocks ++ e ∷ ms)
      next_split =
          let t = rest_of in
          let bs = going.blocks in
          let c : Contains t.more e =
          ⊎_elim (λ d. absurd (not_both (leaf_record n layer e) (going.has.each e d) comes)) (λ d. d)
          (Contains-append_cases bs t.more e (subst (λ (l : List (Block × ℕ)). Contains l e) t.split is_leaf)) in
          let w = first_is t.more (rises_behind leaf_cmp bs t.more (all_rise t.more t.split)) t.come c in
          (w.0, t.split ∙ ap (λ l. bs ++ l) w.1)

      pub next_code : code_from e.0 ≡ end
      next_code =
          let w = next_split in
          let bs = going.blocks in
          let b = Follows-back n 0 bs (e ∷ w.0) (subst (Follows n 0) w.1 all_laid.follows) in
          let g = going.laid.size in
          let c = b.1 in
          omega arith

      pub next_unmerged : (w : Block × ℕ) → EndsInQuarters n (going.blocks ++ e ∷ []) w → ⊥
      next_unmerged w q =
          let t = next_split in
          let bs = going.blocks in
          all_laid.unmerged.four w.0 w.1 q.block (λ b m.
          let c = Contains-append_right q.front (map (λ (z : Block). let y : Block × ℕ = (z, w.1) in y) (quarters_of w.0)) (b, w.1)
          (Contains-map (λ (z : Block). let y : Block × ℕ = (z, w.1) in y) (quarters_of w.0) b m) in
          let d = subst (λ (l : List (Block × ℕ)). Contains l (b, w.1)) (sym q.split) c in
          subst (λ (l : List (Block × ℕ)). Contains l (b, w.1)) (sym t.1)
          (⊎_elim (λ k. Contains-append_left bs (e ∷ t.0) (b, w.1) k)
          (λ same. Contains-append_right bs (e ∷ t.0) (b, w.1) (subst (Contains (e ∷ t.0)) same (Contains-here e t.0))) (last_cases bs e (b, w.1) d)))
