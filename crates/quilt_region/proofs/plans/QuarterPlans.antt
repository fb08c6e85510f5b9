-- What is planned of a window quarter by quarter is the plan of the whole window.
use Rattle.std.proofs.Common.{◌≡◌, ◌⊎◌, inl, inr, ℕ, ◌+◌, ◌-◌, ◌<◌, ◌≤◌, Bool, true, false, ◌&&◌, List, [], ◌∷◌, ◌++◌, length, take, get_or, flat_map, refl}
use Rattle.std.proofs.Common.{sym, ◌∙◌, ap, subst, ⊎_elim, arith, Contains, Equal, Option, Some, None, Result, Ok, Err, IfOk, IfSome, append-nil, append_assoc}
use Rattle.std.proofs.Common.{nat_le, nat_lt}
use Rattle.std.specs.Bool.{if◌then◌else◌}
use Rattle.std.specs.Cmp.{tied_itself}
use Rattle.std.specs.List.{sum_by}
use Rattle.std.specs.List.Sorted.{IsPermutation}
use Rattle.std.proofs.lemmas.Grind.{flat_map-append}
use Rattle.std.proofs.lemmas.List.Sums.{sum_by-append}
use Rattle.std.proofs.lemmas.List.Elements.{Contains-append_cases}
use Rattle.std.proofs.lemmas.Bool.{cases_Bool, and_parts, and_from, leb-true, ltb-true, le-leb, lt-ltb, false_from_ne_true}
use Rattle.quilt_types.specs.declared.plane.Pixel.{Pixel}
use Rattle.quilt_types.specs.declared.plane.Block.{Block}
use Rattle.quilt_types.specs.declared.plane.Window.{Window}
use Rattle.quilt_types.specs.Plane.{side, parent_of, quarters_of, in_block, in_window, is_window, Holds, IsBlock, Within}
use Rattle.quilt_types.specs.Layers.{Grid, colour_at}
use Rattle.quilt_types.specs.Algebra.{painted}
use Rattle.quilt_types.specs.Quadtrees.{is_uniform}
use Rattle.quilt_loc.specs.Codes.{Rises}
use Rattle.quilt_loc.proofs.Blocks.{Holds-from}
use Rattle.quilt_loc.proofs.Members.{Contains-nil, Contains-cons_cases}
use Rattle.quilt_loc.proofs.Nesting.{Within-holds, Within-trans, parent_within, IsBlock-parent_of, Within-parent_of}
use Rattle.quilt_loc.proofs.Quartered.{side_le, quarters_are}
use Rattle.quilt_loc.proofs.Rising.{same_rising}
use Rattle.quilt_loc.proofs.Rows.{colour_at-grid_of}
use Rattle.quilt_record.specs.declared.record.Record.{Record}
use Rattle.quilt_record.specs.Records.{key_cmp}
use Rattle.quilt_record.proofs.Orders.{key_total}
use Rattle.quilt_node.specs.Pages.{is_ascending}
use Rattle.quilt_node.specs.Nodes.{keys_of}
use Rattle.quilt_blocks.proofs.Colours.{HasColour-from_uniform}
use Rattle.quilt_blocks.proofs.Leaves.{uniform_down}
use Rattle.quilt_blocks.proofs.Listed.{held_in}
use Rattle.quilt_spell.specs.Written.{by_key}
use Rattle.quilt_spell.proofs.Written.{by_key_total}
use Rattle.quilt_spell.proofs.Lists.{Apart-rises}
use Rattle.quilt_edits.specs.Edits.{HaveOwnKeys, CanBeEdits}
use Rattle.quilt_edits.proofs.Keys.{Less≢Equal}
use Rattle.quilt_edits.proofs.Lists.{member_at, take_next}
use Rattle.quilt_edits.proofs.Ascents.{ascending_rises, permuted}
use Rattle.quilt_region.specs.declared.known.Known.{Known}
use Rattle.quilt_region.specs.Plans.{records_without}
use Rattle.quilt_region.specs.Quarters.{InWindow, IsCommonWindow, AreSeveral, records_without_in}
use Rattle.quilt_region.specs.Windows.{HoldsWindow, KnowsAround}
use Rattle.quilt_region.proofs.Apart.{AgreeOn, agree_back}
use Rattle.quilt_region.proofs.Beside.{true_false, not_held}
use Rattle.quilt_region.proofs.plans.KnownPlans.{window_pixel, corner_in}
use Rattle.quilt_region.proofs.Leaves.{only_apart}
use Rattle.quilt_region.proofs.Nearby.{window_in, window_corner}
use Rattle.quilt_region.proofs.plans.Quarters.{quarter_parted, none_without, without_same, all_quarters}
use Rattle.quilt_region.proofs.plans.RegionLaws.{only_rises}

pub inside_from : (w : Window) (p : Pixel) → in_window w p ≡ true → InWindow w p
inside_from w p t =
    let a = nat_le w.x p.x in
    let r = nat_lt p.x (w.x + w.w) in
    let u = nat_le w.y p.y in
    let d = nat_lt p.y (w.y + w.h) in
    let last = and_parts (a && r && u) d t in
    let third = and_parts (a && r) u last.0 in
    let first = and_parts a r third.0 in
    record {
      left = leb-true w.x p.x first.0;
      right = ltb-true p.x (w.x + w.w) first.1;
      top = leb-true w.y p.y third.1;
      bottom = ltb-true p.y (w.y + w.h) last.1;
    }

pub inside_at : (w : Window) (p : Pixel) → InWindow w p → in_window w p ≡ true
inside_at w p i =
    and_from _ _ (and_from _ _ (and_from _ _ (le-leb w.x p.x i.left) (lt-ltb p.x (w.x + w.w) i.right)) (le-leb w.y p.y i.top)) (lt-ltb p.y (w.y + w.h) i.bottom)

-- the colours of a painted grid
painted_at : (n : ℕ) (g : Grid) (w : Window) (c : ℕ) (p : Pixel) → p.x < side n → p.y < side n
    → colour_at n (painted n g w c) p ≡ (if in_window w p then c else colour_at n g p)
painted_at n g w c p x y = colour_at-grid_of n (λ q. if in_window w q then c else colour_at n g q) p x y

painted_in : (n : ℕ) (g : Grid) (w : Window) (c : ℕ) (p : Pixel) → p.x < side n → p.y < side n → in_window w p ≡ true → colour_at n (painted n g w c) p ≡ c
painted_in n g w c p x y t = painted_at n g w c p x y ∙ ap (λ (s : Bool). if s then c else colour_at n g p) t

painted_out : (n : ℕ) (g : Grid) (w : Window) (c : ℕ) (p : Pixel) → p.x < side n → p.y < side n → in_window w p ≡ false
    → colour_at n (painted n g w c) p ≡ colour_at n g p
painted_out n g w c p x y t = painted_at n g w c p x y ∙ ap (λ (s : Bool). if s then c else colour_at n g p) t

-- what a window has of a block is a window
pub part_window : (n : ℕ) (w v : Window) (q : Block) → is_window n w ≡ true → IsCommonWindow w q v → is_window n v ≡ true
part_window n w v q t part =
    let i = window_in n w t in
    let right = i.right in
    let bottom = i.bottom in
    let r = part.right in
    let d = part.bottom in
    and_from _ _ (and_from _ _ (and_from _ _ (le-leb 1 v.w part.wide) (le-leb 1 v.h part.high)) (le-leb (v.x + v.w) (side n) (omega arith)))
    (le-leb (v.y + v.h) (side n) (omega arith))

module _ (n layer : ℕ) (g : Grid) (w : Window) (c : ℕ) (b : Block) (le : n ≤ 12) (win : is_window n w ≡ true) (hb : IsBlock n b) (wide : 1 < b.side) where
  abbrev h : Grid
  h = painted n g w c

  -- a window in a block leaves what is outside of it
  pub agree_outside : (q : Block) (u : Window) → HoldsWindow q u → AgreeOn n (in_block q) false g (painted n g u c)
  agree_outside q u holds = record {
    each = λ p x y f. sym (painted_out n g u c p x y (false_from_ne_true (in_window u p) (λ t. not_held q p f (window_pixel u q p holds t))));
  }

  module _ (q : Block) (cq : Contains (quarters_of b) q) where
    hq : IsBlock n q
    hq = (quarters_are n b q hb wide cq).block

    -- ---- where the window has nothing of the quarter
    pub without_part : ((p : Pixel) → Holds q p → InWindow w p → ⊥) → AreSeveral n g h b
        → (records_without_in n layer g h q ≡ []) × (records_without_in n layer h g q ≡ [])
    without_part none several =
        let same : AgreeOn n (in_block q) true g h = record {
          each = λ p x y t. sym (painted_out n g w c p x y (false_from_ne_true (in_window w p) (λ i. none p (Holds-from q p t) (inside_from w p i))));
        } in
        let pg = quarter_parted n layer b le hb wide g q cq several.first in
        let ph = quarter_parted n layer b le hb wide h q cq several.second in
        (none_without n layer q le hq g h pg ph same, none_without n layer q le hq h g ph pg (agree_back n (in_block q) true g h same))

    -- ---- where it has a part that may be painted by itself
    module _ (v : Window) (k : Known) (part : IsCommonWindow w q v) (colour : k.around.0 ≡ c) (knows : KnowsAround n g v k) (small : k.top.side < q.side) where
      abbrev hv : Grid
      hv = painted n g v c

      win_v : is_window n v ≡ true
      win_v = part_window n w v q win part

      abbrev spot : Pixel
      spot = record { x = v.x; y = v.y }

      ht : IsBlock n k.top
      ht = knows.blocks.top

      room : k.top.side < side n
      room = let s = side_le n q hq in omega arith

      abbrev larger : Block
      larger = parent_of k.top

      hl : IsBlock n larger
      hl = IsBlock-parent_of n k.top ht room

      in_top : (p : Pixel) → in_window v p ≡ true → Holds k.top p
      in_top p t = Within-holds k.read k.top p knows.blocks.inside (window_pixel v k.read p knows.holds t)

      spot_in : Holds k.top spot
      spot_in = in_top spot (corner_in n v win_v)

      in_quarter : Within larger q
      in_quarter = parent_within n k.top q spot ht hq small (side_le n q hq) spot_in (window_corner q n v win_v part.holds)

      in_large : Within larger b
      in_large = Within-trans larger q b in_quarter (quarters_are n b q hb wide cq).within

      pub top_inside : Within k.read q
      top_inside = Within-trans k.read k.top q knows.blocks.inside (Within-trans k.top larger q (Within-parent_of n k.top ht room) in_quarter)

      several_before : is_uniform n g b ≡ true → ⊥
      several_before u = knows.top_cut.several room ((uniform_down n g).down larger b hl hb in_large u)

      -- a window that has of the quarter what this one has leaves several colours in the larger block
      several_after : (u : Window) → ((p : Pixel) → Holds q p → in_window u p ≡ true → in_window v p ≡ true) → in_window u spot ≡ true
          → is_uniform n (painted n g u c) b ≡ true → ⊥
      several_after u only has one =
          let a = painted n g u c in
          let same = HasColour-from_uniform n a larger ((uniform_down n a).down larger b hl hb in_large one) in
          let here = Within-holds k.top larger spot (Within-parent_of n k.top ht room) spot_in in
          let at = held_in n larger spot hl here in
          knows.ends room (record {
            each = λ p held f.
                let out = false_from_ne_true (in_window u p) (λ t. not_held k.top p f (in_top p (only p (Within-holds larger q p in_quarter held) t))) in
                let sq = held_in n larger p hl held in
                sym (painted_out n g u c p sq.0 sq.1 out) ∙ same.each p held ∙ sym (same.each spot here) ∙ painted_in n g u c spot at.0 at.1 has ∙ sym colour;
          })

      from_whole : (p : Pixel) → Holds q p → in_window w p ≡ true → in_window v p ≡ true
      from_whole p held t = inside_at v p (part.all p held (inside_from w p t))

      to_whole : (p : Pixel) → in_window v p ≡ true → in_window w p ≡ true
      to_whole p t =
          let i = inside_from v p t in
          let il = i.left in
          let ir = i.right in
          let it = i.top in
          let ib = i.bottom in
          let pl = part.left in
          let pr = part.right in
          let pt = part.top in
          let pb = part.bottom in
          inside_at w p (record { left = omega arith; right = omega arith; top = omega arith; bottom = omega arith })

      pub part_several : AreSeveral n g h b
      part_several = record { first = several_before; second = several_after w from_whole (to_whole spot (corner_in n v win_v)) }

      same_in_quarter : AgreeOn n (in_block q) true h hv
      same_in_quarter = record {
        each = λ p x y t.
            ⊎_elim
            (λ i. painted_in n g w c p x y i ∙ sym (painted_in n g v c p x y (from_whole p (Holds-from q p t) i)))
            (λ f. painted_out n g w c p x y f ∙ sym (painted_out n g v c p x y (false_from_ne_true (in_window v p) (λ i. true_false (sym (to_whole p i) ∙ f)))))
            (cases_Bool (in_window w p));
      }

      pub with_part : (records_without_in n layer g h q ≡ records_without n layer g (painted n g v c))
          × (records_without_in n layer h g q ≡ records_without n layer (painted n g v c) g)
      with_part =
          let pg = quarter_parted n layer b le hb wide g q cq several_before in
          let ph = quarter_parted n layer b le hb wide h q cq part_several.second in
          let pv = quarter_parted n layer b le hb wide hv q cq (several_after v (λ p held t. t) (corner_in n v win_v)) in
          let own : AgreeOn n (in_block q) true g g = record { each = λ p x y t. refl } in
          let out = agree_outside q v part.holds in (
            without_same n layer q le hq g h pg ph g hv pg pv own same_in_quarter out,
            without_same n layer q le hq h g ph pg hv g pv pg
                same_in_quarter own (agree_back n (in_block q) false g hv out),
          )

  -- ---- all quarters
  pub quarters_whole : HoldsWindow b w → AreSeveral n g h b
      → (flat_map (records_without_in n layer g h) (quarters_of b) ≡ records_without n layer g h)
      × (flat_map (records_without_in n layer h g) (quarters_of b) ≡ records_without n layer h g)
  quarters_whole holds several =
      let out = agree_outside b w holds in (
        all_quarters n layer b le hb wide g h several.first several.second out,
        all_quarters n layer b le hb wide h g several.second several.first
            (agree_back n (in_block b) false g h out),
      )

-- ---- the records as edits
tied : (r s : Record) → r.key ≡ s.key → by_key r s ≡ Equal
tied r s e = ap (λ k. key_cmp k s.key) e ∙ tied_itself key_total s.key

keys_alone : (xs : List Record) (r s : Record) → Rises by_key xs → Contains xs r → Contains xs s → r.key ≡ s.key → r ≡ s
keys_alone [] r s h c d e = absurd (Contains-nil r c)
keys_alone (x ∷ xs) r s h c d e =
    ⊎_elim
    (λ first.
    ⊎_elim
    (λ second. sym first ∙ second)
    (λ later. absurd (Less≢Equal (sym (h.0 s later) ∙ ap (λ z. by_key z s) first ∙ tied r s e)))
    (Contains-cons_cases x xs s d))
    (λ later.
    ⊎_elim
    (λ second. absurd (Less≢Equal (sym (h.0 r later) ∙ ap (λ z. by_key z r) second ∙ tied s r (sym e))))
    (λ both. keys_alone xs r s h.1 later both e)
    (Contains-cons_cases x xs s d))
    (Contains-cons_cases x xs r c)

own_keys : (xs : List Record) → Rises by_key xs → HaveOwnKeys xs
own_keys xs h = record { once = Apart-rises by_key by_key_total xs h; keys = λ r s c d e. keys_alone xs r s h c d e }

pub can_be : (n layer : ℕ) (g h : Grid) (removed added : List Record) → n ≤ 12 → removed ≡ records_without n layer g h
    → added ≡ records_without n layer h g → CanBeEdits removed added
can_be n layer g h removed added le r a = record {
  remove_keys = own_keys removed (subst (Rises by_key) (sym r) (only_rises n layer g h le));
  add_keys = own_keys added (subst (Rises by_key) (sym a) (only_rises n layer h g le));
  apart = λ x c d. only_apart n layer g h x le (subst (λ (l : List Record). Contains l x) r c) (subst (λ (l : List Record). Contains l x) a d);
}

pub sorted_is : (n layer : ℕ) (g h : Grid) (made sorted : List Record) → n ≤ 12 → made ≡ records_without n layer g h → IsPermutation made sorted
    → is_ascending (keys_of sorted) ≡ true → sorted ≡ records_without n layer g h
sorted_is n layer g h made sorted le is p up =
    let same = permuted made sorted p in
    same_rising by_key by_key_total sorted (records_without n layer g h) (ascending_rises sorted up) (only_rises n layer g h le)
    (λ r. (λ c. subst (λ (l : List Record). Contains l r) is ((same r).1 c), λ c. (same r).0 (subst (λ (l : List Record). Contains l r) (sym is) c)))

-- ---- one quarter after another
pub record IsAt (n : ℕ) (b q : Block) : Type 0 where
  pub block : IsBlock n q
  pub member : Contains (quarters_of b) q
  pub within : Within q b

module _ (b : Block) (qs : List Block) (count : ℕ) (d : Block) (are : qs ≡ quarters_of b) (some : 1 ≤ count) (most : count ≤ 4) where
  four : length (quarters_of b) ≡ 4
  four = refl

  pub quarter_is : (n : ℕ) → IsBlock n b → 1 < b.side → IsAt n b (get_or qs (count - 1) d)
  quarter_is n hb wide =
      let lt : count - 1 < length qs = (let l = ap length are in let f = four in omega arith) in
      let c = subst (λ l. Contains l (get_or qs (count - 1) d)) are (member_at qs (count - 1) d lt) in
      let r = quarters_are n b (get_or qs (count - 1) d) hb wide c in record { block = r.block; member = c; within = r.within }

  taken : take count (quarters_of b) ≡ take (count - 1) (quarters_of b) ++ get_or qs (count - 1) d ∷ []
  taken =
      ap (λ k. take k (quarters_of b)) (let e : count ≡ count - 1 + 1 = omega arith in e)
      ∙ take_next (quarters_of b) (count - 1) d (let f = four in omega arith)
      ∙ ap (λ l. take (count - 1) (quarters_of b) ++ get_or l (count - 1) d ∷ []) (sym are)

  pub list_step : {X : Type 0} (f : Block → List X) (old mid new part : List X) → mid ≡ old ++ flat_map f (take (count - 1) (quarters_of b))
      → new ≡ mid ++ part → f (get_or qs (count - 1) d) ≡ part
      → new ≡ old ++ flat_map f (take count (quarters_of b))
  list_step f old mid new part before more is =
      more ∙ ap (λ l. l ++ part) before ∙ append_assoc old (flat_map f (take (count - 1) (quarters_of b))) part
      ∙ ap (λ l. old ++ l)
      (ap (λ l. flat_map f (take (count - 1) (quarters_of b)) ++ l) (sym is ∙ sym (append-nil (f (get_or qs (count - 1) d))))
      ∙ sym (flat_map-append f (take (count - 1) (quarters_of b)) (get_or qs (count - 1) d ∷ [])) ∙ ap (flat_map f) (sym taken))

  pub same_step : {X : Type 0} (f : Block → List X) (old new : List X) → new ≡ old ++ flat_map f (take (count - 1) (quarters_of b))
      → f (get_or qs (count - 1) d) ≡ [] → new ≡ old ++ flat_map f (take count (quarters_of b))
  same_step f old new before is = list_step f old new new [] before (sym (append-nil new)) is

  pub sum_step : (f : Block → ℕ) → sum_by f (take count (quarters_of b)) ≡ sum_by f (take (count - 1) (quarters_of b)) + f (get_or qs (count - 1) d)
  sum_step f =
      let one : sum_by f (get_or qs (count - 1) d ∷ []) ≡ f (get_or qs (count - 1) d) =
      (let e : 0 + f (get_or qs (count - 1) d) ≡ f (get_or qs (count - 1) d) = omega arith in e) in
      ap (sum_by f) taken ∙ sum_by-append f (take (count - 1) (quarters_of b)) (get_or qs (count - 1) d ∷ [])
      ∙ ap (λ k. sum_by f (take (count - 1) (quarters_of b)) + k) one

  pub last_or_before : (q : Block) → Contains (take count (quarters_of b)) q → Contains (take (count - 1) (quarters_of b)) q ⊎ (get_or qs (count - 1) d ≡ q)
  last_or_before q c =
      ⊎_elim inl
      (λ e. inr (⊎_elim (λ same. same) (λ none. absurd (Contains-nil q none)) (Contains-cons_cases (get_or qs (count - 1) d) [] q e)))
      (Contains-append_cases (take (count - 1) (quarters_of b)) (get_or qs (count - 1) d ∷ []) q (subst (λ l. Contains l q) taken c))

-- what was added to nothing
pub from_none : (old new rest rs : List Record) → new ≡ old ++ rest → old ≡ [] → rest ≡ rs → new ≡ rs
from_none old new rest rs is none same = is ∙ ap (λ (l : List Record). l ++ rest) none ∙ same

-- of an answer that is there
pub some_at : {X : Type 0} (P : X → Type 0) (o : Option X) (x : X) → o ≡ Some x → IfSome o P → P x
some_at P o x e there = let here : IfSome (Some x) P = subst (λ z. IfSome z P) e there in here

-- an answer that may be a plan
pub if_planned : {X E : Type 0} (r : Result (Option X) E) (P Q : X → Type 0) → ((x : X) → P x → Q x) → IfOk r (λ o. IfSome o P) → IfOk r (λ o. IfSome o Q)
if_planned (Ok (Some x)) P Q f h = f x h
if_planned (Ok None) P Q f h = tt
if_planned (Err e) P Q f h = tt

pub if_some_plan : {X E : Type 0} (r : Result (Option X) E) (P : Type 0) → P → IfOk r (λ o. IfSome o (λ x. P))
if_some_plan (Ok (Some x)) P p = p
if_some_plan (Ok None) P p = tt
if_some_plan (Err e) P p = tt
