-- What is read of a line layer through a view of its blocks, and the texts of what is found.
use Rattle.std.proofs.Common.{◌≡◌, ℕ, zero, suc, ◌+◌, ◌^◌, ◌<◌, ◌≤◌, Bool, true, false, nat_lt, List, [], ◌∷◌, ◌++◌, length, take, fold, map, flat_map, filter}
use Rattle.std.proofs.Common.{Option, Some, None, IfSome, Result, Ok, Err, refl, sym, ◌∙◌, ap, subst, arith, ltb-true, zero-add, All, Contains, Less, nat_cmp}
use Rattle.std.specs.Prelude.{◌==◌, IfOk, decimal, if◌then◌else◌}
use Rattle.std.specs.FinMap as finmap
use Rattle.std.specs.FinMap.{len-entries}
use Rattle.std.specs.List.{AllByRecursion}
use Rattle.std.specs.List.Sorted.{IsStrictlyIncreasing, IsStrictlySortedBy}
use Rattle.std.proofs.lemmas.Bool.{and_parts}
use Rattle.std.proofs.lemmas.Map.Keys.{IsStrictlyIncreasing-from_sorted}
use Rattle.std.proofs.lemmas.List.{map-append}
use Rattle.quilt_types.specs.declared.code.Code.TheVariants as no
use Rattle.quilt_types.specs.declared.plane.Block.{Block}
use Rattle.quilt_types.specs.declared.plane.Pixel.{Pixel}
use Rattle.quilt_types.specs.declared.plane.Seg.{Seg}
use Rattle.quilt_types.specs.declared.plane.Window.{Window}
use Rattle.quilt_types.specs.Fractions.{Fraction}
use Rattle.quilt_types.specs.Layers.{SegMap, BlockSet, Grid, is_in_square}
use Rattle.quilt_types.specs.Plane.{is_pixel}
use Rattle.quilt_types.specs.Quadtrees.{reach}
use Rattle.quilt_types.specs.Ranking.{comes_first, placed, ranked}
use Rattle.quilt_types.specs.Segments.{meets, nearest, clip_range, square_distance}
use Rattle.quilt_world.specs.declared.disk.Disk as disk
use Rattle.quilt_words.specs.declared.command.Command.{Command}
use Rattle.quilt_words.specs.declared.command.Command.TheVariants as commands
use Rattle.quilt_loc.specs.Codes.{Rises}
use Rattle.quilt_loc.proofs.Blocks.{side_most}
use Rattle.quilt_loc.proofs.Members.{Contains-here, Contains-there}
use Rattle.quilt_world.specs.Tale.{Goes}
use Rattle.quilt_node.specs.Pages.{IsHead}
use Rattle.quilt_node.specs.declared.head.Head.{Head}
use Rattle.quilt_btree.specs.Trees.{IsRooted}
use Rattle.quilt_btree.specs.declared.tree.Tree.{Tree}
use Rattle.quilt_near.specs.Budgets.{is_close}
use Rattle.quilt_lines.specs.Layers.{HasLines}
use Rattle.quilt_lines.specs.declared.view.LineView.{LineView}
use Rattle.quilt_select.specs.Clips.{with_range, clip_of, clips_of}
use Rattle.quilt_select.specs.Shares.{is_touching}
use Rattle.quilt_pool.specs.Views.{entries_of}
use Rattle.quilt_edition.specs.Laws.{told_many}
use Rattle.quilt_edition.specs.declared.book.Book.{Book}
use Rattle.quilt_replies.specs.Answers.{Done, Refused, seg_line, clip_lines, range_lines, nearest_lines, ranked_line, is_over}
use Rattle.quilt_replies.specs.Bodies.{clip_line}
use Rattle.quilt_replies.specs.Runs.{text_of}
use Rattle.quilt_map.specs.LineLayers.{HoldsLines}
use Rattle.quilt_map.specs.Selecting.{is_place, nearest_reply, selected, selected_over, is_near, is_asked, pages_for_answer, Shows}
use Rattle.quilt_map.specs.Sessions.{told_of, tree_in}
use Rattle.quilt_map.specs.declared.lines.LineLayer.{LineLayer}
use Rattle.quilt_map.proofs.answers.Answered.{IsBodyOf}
use Rattle.quilt_map.proofs.plans.LinePlans.{lines_as}
use Rattle.quilt_map.proofs.answers.Outcomes.{not_equal}

-- where each answer has it
pub any_ok : {T E : Type 0} (P : T → Type 0) (r : Result T E) → ((x : T) → P x) → IfOk r P
any_ok P (Ok x) h = h x
any_ok P (Err e) h = tt

-- ---- the view
-- as many pages are told as the tree may have
rooted_in : (told : Option (List (List ℕ))) (pages : List (List ℕ)) (size : ℕ) (t : Tree) → told ≡ Some pages → IfSome told (λ ps. length ps ≡ size)
    → IsRooted size t → IsRooted (length pages) t
rooted_in told pages size t is many rooted =
    let long : length pages ≡ size = subst (λ (o : Option (List (List ℕ))). IfSome o (λ ps. length ps ≡ size)) is many in subst (λ (n : ℕ). IsRooted n t)
    (sym long) rooted

-- the tree of a header may be one of the file
rooted_of : (pages : ℕ) (h : Head) → IsHead pages h → IsRooted pages (tree_in h)
rooted_of pages h numbers = record { height = numbers.height; records = numbers.records; tree = numbers.tree; none = numbers.no_tree }

module _ {W : Type 0} {D : disk.Ghosts W} where
  -- a view of the layer in the work's tree
  pub shown : (b : Book W D) (layer : LineLayer) (v : LineView) (h : Head) (t : Tree) → h ≡ b.work → t ≡ tree_in h → v.tree ≡ t → v.layer ≡ layer.number
      → v.level ≡ h.level
      → IsHead b.journal.pages h → (segs : SegMap) (cover : BlockSet) → HoldsLines b layer segs cover → Shows b v (record { segs = segs; cover = cover })
  shown b layer v h t same tree is number level numbers segs cover holds =
      let has = lines_as (told_of b) layer segs cover h b.work t same tree holds in
      let there : HasLines (told_of b) v.tree v.layer v.level layer.threshold segs cover =
      subst (λ (x : Tree). HasLines (told_of b) x v.layer v.level layer.threshold segs cover) (sym is)
      (subst (λ (k : ℕ). HasLines (told_of b) t k v.level layer.threshold segs cover) (sym number)
      (subst (λ (n : ℕ). HasLines (told_of b) t layer.number n layer.threshold segs cover) (sym level) has)) in
      record {
        threshold = layer.threshold;
        has = there;
        rooted = rooted_in (told_of b) there.is_tree.pages b.journal.pages v.tree there.is_tree.is_told
            (told_many b.journal (entries_of b.pool) (D.told b.world))
            (subst (λ (x : Tree). IsRooted b.journal.pages x) (sym (is ∙ tree)) (rooted_of b.journal.pages h numbers));
      }

-- ---- the pixel that is asked for
module _ (n : ℕ) (command : Command) (low : n ≤ 12) (inside : is_place n command ≡ true) where
  pixel_small : (p : Pixel) → is_pixel n p ≡ true → (p.x < 8192) × (p.y < 8192)
  pixel_small p on =
      let w = and_parts (nat_lt p.x (2 ^ n)) (nat_lt p.y (2 ^ n)) on in
      let x = ltb-true p.x (2 ^ n) w.0 in
      let y = ltb-true p.y (2 ^ n) w.1 in
      let m = side_most n low in
      (omega arith, omega arith)

  pub nearest_small : (l : List ℕ) (p : Pixel) → command ≡ commands.Nearest l p → (p.x < 8192) × (p.y < 8192)
  nearest_small l p is = pixel_small p (subst (λ (c : Command). is_place n c ≡ true) is inside)

  pub rank_small : (l : List ℕ) (p : Pixel) (k : ℕ) → command ≡ commands.Rank l p k → (p.x < 8192) × (p.y < 8192)
  rank_small l p k is = pixel_small p (subst (λ (c : Command). is_place n c ≡ true) is inside)

-- ---- the texts of what is found
clip_lines_are : (w : Window) (es : List (ℕ × Seg)) → map clip_line (clips_of w es) ≡ flat_map (clip_lines w) es
clip_lines_are w [] = refl
clip_lines_are w (e ∷ es) =
    map-append clip_line (clip_of w e) (clips_of w es) ∙ (λ i. range_same e.0 (clip_range e.1 w) i ++ clip_lines_are w es i)
  where
    range_same : (id : ℕ) (o : Option (Fraction × Fraction)) → map clip_line (with_range id o) ≡ range_lines id o
    range_same id None = refl
    range_same id (Some ends) = refl

length_placed : (es : List (ℕ × Fraction)) (e : ℕ × Fraction) → length (placed es e) ≡ suc (length es)
length_placed [] e = refl
length_placed (f ∷ fs) e = by_case (comes_first e f) (length_placed fs e)
  where
    by_case : (b : Bool) → length (placed fs e) ≡ suc (length fs) → length (if b then e ∷ f ∷ fs else f ∷ placed fs e) ≡ suc (suc (length fs))
    by_case true h = refl
    by_case false h = ap (λ (n : ℕ). suc n) h

length_sorted : (p : Pixel) (xs : List (ℕ × Seg)) (es : List (ℕ × Fraction)) → length
    (fold (λ fs e. placed fs (e.0, square_distance p e.1)) es xs) ≡ length es + length xs
length_sorted p [] es = omega arith
length_sorted p (x ∷ xs) es =
    let rest = length_sorted p xs (placed es (x.0, square_distance p x.1)) in
    let one = length_placed es (x.0, square_distance p x.1) in
    omega arith

length_ranking : (p : Pixel) (xs : List (ℕ × Seg)) → length (fold (λ fs e. placed fs (e.0, square_distance p e.1)) [] xs) ≡ length xs
length_ranking p xs = length_sorted p xs [] ∙ zero-add (length xs)

take_none : (k : ℕ) (xs : List (ℕ × Fraction)) → 1 ≤ k → length (take k xs) ≡ 0 → length xs ≡ 0
take_none zero xs some none = absurd (let wrong : ⊥ = omega arith in wrong)
take_none (suc k) [] some none = refl
take_none (suc k) (x ∷ xs) some none = absurd (let wrong : ⊥ = omega arith in wrong)

none_taken : (k : ℕ) (xs : List (ℕ × Fraction)) → length xs ≡ 0 → length (take k xs) ≡ 0
none_taken zero xs none = refl
none_taken (suc k) [] none = refl
none_taken (suc k) (x ∷ xs) none = absurd (let wrong : ⊥ = omega arith in wrong)

module _ (segs : SegMap) (p : Pixel) (k : ℕ) where
  -- the ranking is empty exactly where the layer is
  pub rank_none : 1 ≤ k → length (ranked segs p k) ≡ 0 → finmap.len segs ≡ 0
  unfolding ranked
  rank_none some none =
      len-entries segs ∙ sym (length_ranking p (finmap.entries segs)) ∙ take_none k
      (fold (λ es e. placed es (e.0, square_distance p e.1)) [] (finmap.entries segs)) some none

  pub none_ranked : finmap.len segs ≡ 0 → length (ranked segs p k) ≡ 0
  unfolding ranked
  none_ranked none =
      none_taken k (fold (λ es e. placed es (e.0, square_distance p e.1)) [] (finmap.entries segs))
      (length_ranking p (finmap.entries segs) ∙ sym (len-entries segs) ∙ none)

same_empty : (m n : ℕ) → (m ≡ 0 → n ≡ 0) → (n ≡ 0 → m ≡ 0) → (m == 0) ≡ (n == 0)
same_empty zero zero f g = refl
same_empty zero (suc n) f g = absurd (let e : suc n ≡ 0 = f refl in omega arith)
same_empty (suc m) zero f g = absurd (let e : suc m ≡ 0 = g refl in omega arith)
same_empty (suc m) (suc n) f g = not_equal (suc m) 0 (λ e. omega arith) ∙ sym (not_equal (suc n) 0 (λ e. omega arith))

module _ (command : Command) (segs : SegMap) (l : List ℕ) where
  pub cross_body : (w : Window) → command ≡ commands.Cross l w → (list items : List (ℕ × Seg)) → list ≡ filter (λ e. meets e.1 w) (finmap.entries segs)
      → items ≡ list
      → (t : List ℕ) → t ≡ text_of (Done (map seg_line items)) → IsBodyOf (selected command segs) t
  cross_body w is list items all same t written = record {
    body = map seg_line (filter (λ e. meets e.1 w) (finmap.entries segs));
    answered = ap (λ (c : Command). selected c segs) is;
    written = written ∙ ap (λ (es : List (ℕ × Seg)). text_of (Done (map seg_line es))) (same ∙ all);
  }

  pub clip_body : (w : Window) → command ≡ commands.Clip l w → (list items : List (ℕ × Fraction × Fraction)) → list ≡ clips_of w (finmap.entries segs)
      → items ≡ list
      → (t : List ℕ) → t ≡ text_of (Done (map clip_line items)) → IsBodyOf (selected command segs) t
  clip_body w is list items all same t written = record {
    body = flat_map (clip_lines w) (finmap.entries segs);
    answered = ap (λ (c : Command). selected c segs) is;
    written = written ∙ ap (λ (es : List (ℕ × Fraction × Fraction)). text_of (Done (map clip_line es))) (same ∙ all) ∙ ap
        (λ (ls : List (List ℕ)). text_of (Done ls)) (clip_lines_are w (finmap.entries segs));
  }

  module _ (p : Pixel) (is : command ≡ commands.Nearest l p) (o : Option (ℕ × Fraction)) (found : o ≡ nearest segs p) where
    nearest_is : selected command segs ≡ nearest_reply o
    nearest_is = ap (λ (c : Command). selected c segs) is ∙ ap nearest_reply (sym found)

    pub nearest_none : o ≡ None → selected command segs ≡ Refused no.Absent
    nearest_none none = nearest_is ∙ ap nearest_reply none

    pub nearest_body : (e : ℕ × Fraction) → o ≡ Some e → (t : List ℕ) → t ≡ text_of (Done (nearest_lines (Some e))) → IsBodyOf (selected command segs) t
    nearest_body e some t written = record { body = nearest_lines (Some e); answered = nearest_is ∙ ap nearest_reply some; written = written }

    -- what it may cost
    pub nearest_costs : (n : ℕ) (cover : BlockSet) (before now : Option ℕ) (e : ℕ × Fraction) → o ≡ Some e
        → IfSome o (λ a. Goes (λ old new. new ≤ old + reach n segs cover (is_close p a.1)) before now) → Goes
        (λ old new. new ≤ old + pages_for_answer n command segs cover) before now
    nearest_costs n cover before now e some h =
        let Cost : (Block → Bool) → Type 0 = λ test. Goes (λ old new. new ≤ old + reach n segs cover test) before now in
        let one : Cost (is_close p e.1) = subst (λ (x : Option (ℕ × Fraction)). IfSome x (λ a. Cost (is_close p a.1))) some h in
        let near : is_asked command segs ≡ is_near p (Some e) = ap (λ (c : Command). is_asked c segs) is ∙ ap (is_near p) (sym found ∙ some) in
        subst Cost (sym near) one

  module _ (p : Pixel) (k : ℕ) (is : command ≡ commands.Rank l p k) (some : 1 ≤ k) (list items : List (ℕ × Fraction)) (all : list ≡ ranked segs p k)
      (same : items ≡ list) where
    empty_is : (length items == 0) ≡ (finmap.len segs == 0)
    empty_is =
        let long : length items ≡ length (ranked segs p k) = ap length (same ∙ all) in
        same_empty (length items) (finmap.len segs) (λ e. rank_none segs p k some (sym long ∙ e)) (λ e. long ∙ none_ranked segs p k e)

    rank_is : (b : Bool) → (length items == 0) ≡ b → selected command segs ≡ (if b then Refused no.Absent else Done (map ranked_line (ranked segs p k)))
    rank_is b is_b =
        ap (λ (c : Command). selected c segs) is
        ∙ ap (λ (x : Bool). if x then Refused no.Absent else Done (map ranked_line (ranked segs p k))) (sym empty_is ∙ is_b)

    pub rank_absent : (b : Bool) → b ≡ (length items == 0) → b ≡ true → selected command segs ≡ Refused no.Absent
    rank_absent b test is_so = rank_is true (sym test ∙ is_so)

    pub rank_body : (b : Bool) → b ≡ (length items == 0) → b ≡ false → (told : List (ℕ × Fraction)) → told ≡ list → (t : List ℕ) → t ≡ text_of
        (Done (map ranked_line told)) → IsBodyOf (selected command segs) t
    rank_body b test off told tells t written = record {
      body = map ranked_line (ranked segs p k);
      answered = rank_is false (sym test ∙ off);
      written = written ∙ ap (λ (es : List (ℕ × Fraction)). text_of (Done (map ranked_line es))) (tells ∙ all);
    }

-- what a window may cost
pub window_costs : (command : Command) (segs : SegMap) (cover : BlockSet) (n : ℕ) (w : Window) (before now : Option ℕ) → is_asked command segs ≡ is_touching w
    → Goes (λ old new. new ≤ old + reach n segs cover (is_touching w)) before now → Goes
    (λ old new. new ≤ old + pages_for_answer n command segs cover) before now
window_costs command segs cover n w before now is h = subst
    (λ (test : Block → Bool). Goes (λ old new. new ≤ old + reach n segs cover test) before now) (sym is) h

-- the ids over a region
pub over_body : (n : ℕ) (g : Grid) (segs : SegMap) (list items : List (ℕ × Seg)) → list ≡ filter (λ e. is_over n g e.1) (finmap.entries segs) → items ≡ list
    → (t : List ℕ) → t ≡ text_of (Done (map (λ (e : ℕ × Seg). decimal e.0) items)) → IsBodyOf (selected_over n g segs) t
over_body n g segs list items all same t written = record {
  body = map (λ e. decimal e.0) (filter (λ e. is_over n g e.1) (finmap.entries segs));
  answered = refl;
  written = written ∙ ap (λ (es : List (ℕ × Seg)). text_of (Done (map (λ e. decimal e.0) es))) (same ∙ all);
}

-- the cost at the view's level
pub costs_at : (command : Command) (segs : SegMap) (cover : BlockSet) (m n : ℕ) (before now : Option ℕ) → m ≡ n
    → Goes (λ old new. new ≤ old + pages_for_answer m command segs cover) before now → Goes
    (λ old new. new ≤ old + pages_for_answer n command segs cover) before now
costs_at command segs cover m n before now same h = subst (λ (k : ℕ). Goes (λ old new. new ≤ old + pages_for_answer k command segs cover) before now) same h

-- ---- ids that rise
all_by : {X : Type 0} (P : X → Type 0) (xs : List X) → ((y : X) → Contains xs y → P y) → AllByRecursion P xs
all_by P [] h = tt
all_by P (x ∷ xs) h = (h x (Contains-here x xs), all_by P xs (λ y c. h y (Contains-there x xs y c)))

sorted_ids : (ids : List ℕ) → Rises nat_cmp ids → IsStrictlySortedBy nat_cmp ids
unfolding IsStrictlySortedBy
sorted_ids [] h = tt
sorted_ids (id ∷ ids) h = (all_by (λ y. nat_cmp id y ≡ Less) ids h.0, sorted_ids ids h.1)

pub rising_ids : (ids : List ℕ) → Rises nat_cmp ids → IsStrictlyIncreasing ids
rising_ids ids h = IsStrictlyIncreasing-from_sorted ids (sorted_ids ids h)

-- segments of the square, by other names of the list and the level
pub ends_at : (list items : List (ℕ × Seg)) (m n : ℕ) → items ≡ list → n ≡ m → All (λ e. is_in_square m e.1 ≡ true) list → All
    (λ e. is_in_square n e.1 ≡ true) items
ends_at list items m n same level h =
    subst (λ (es : List (ℕ × Seg)). All (λ e. is_in_square n e.1 ≡ true) es) (sym same)
    (subst (λ (k : ℕ). All (λ e. is_in_square k e.1 ≡ true) list) (sym level) h)
