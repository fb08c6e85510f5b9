-- The records of pairs and segments: their keys, their order, and that each says its pair or segment alone.
use Rattle.std.proofs.Common.{◌≡◌, ℕ, ◌<◌, ◌≤◌, ◌^◌, Bool, true, false, eqb, eqb-true, eq-eqb, List, [], ◌∷◌, ◌++◌, map, filter, cond, get_or, Option, Some}
use Rattle.std.proofs.Common.{None, refl, sym, ◌∙◌, ap, ap₂, ⊎_elim, arith, Contains, Less, nat_cmp, nat_lt, ltb-true}
use Rattle.std.proofs.lemmas.Bool.{and_parts, and_from, cases_Bool}
use Rattle.std.proofs.lemmas.List.{append-nil}
use Rattle.std.proofs.lemmas.List.Elements.{filter-append}
use Rattle.quilt_types.specs.declared.plane.Block.{Block}
use Rattle.quilt_types.specs.declared.plane.Seg.{Seg}
use Rattle.quilt_types.specs.Plane.{side, is_pixel, IsBlock}
use Rattle.quilt_types.specs.Layers.{is_in_square}
use Rattle.quilt_types.specs.Facts.{IsSegment, IsMetBy}
use Rattle.quilt_loc.specs.Codes.{code_from}
use Rattle.quilt_loc.proofs.Blocks.{side_most}
use Rattle.quilt_loc.proofs.Members.{Contains-here, Contains-there}
use Rattle.quilt_record.specs.declared.key.Key.{Key}
use Rattle.quilt_record.specs.declared.record.Record.{Record}
use Rattle.quilt_record.specs.Records.{key_cmp, record_of}
use Rattle.quilt_record.specs.Canonical.{IsRecordOf, pair_fact}
use Rattle.quilt_record.specs.Values.{segment_of}
use Rattle.quilt_record.proofs.Readers.{segment_ends}
use Rattle.quilt_spell.specs.Written.{by_key}
use Rattle.quilt_spell.proofs.facts.FactKeys.{block_alone}
use Rattle.quilt_edits.proofs.Keys.{then_equal, nat_same, less_code}
use Rattle.quilt_line_audit.specs.declared.pair.Pair.{Pair}
use Rattle.quilt_line_audit.specs.Runs.{pair_record, segment_record, is_of_part}

-- ---- filters
last_kept : {X : Type 0} (xs : List X) (x : X) (t : Bool) → t ≡ true → xs ++ cond t (x ∷ []) [] ≡ xs ++ x ∷ []
last_kept xs x true e = refl
last_kept xs x false e = cc

last_left : {X : Type 0} (xs : List X) (x : X) (t : Bool) → t ≡ false → xs ++ cond t (x ∷ []) [] ≡ xs
last_left xs x true e = cc
last_left xs x false e = append-nil xs

pub filter_last : {X : Type 0} (p : X → Bool) (xs : List X) (x : X) → p x ≡ true → filter p (xs ++ x ∷ []) ≡ filter p xs ++ x ∷ []
filter_last p xs x t = filter-append p xs (x ∷ []) ∙ last_kept (filter p xs) x (p x) t

pub filter_without : {X : Type 0} (p : X → Bool) (xs : List X) (x : X) → p x ≡ false → filter p (xs ++ x ∷ []) ≡ filter p xs
filter_without p xs x t = filter-append p xs (x ∷ []) ∙ last_left (filter p xs) x (p x) t

none_kept : {X : Type 0} (x : X) (xs : List X) (t : Bool) → t ≡ false → cond t (x ∷ xs) xs ≡ xs
none_kept x xs true e = cc
none_kept x xs false e = refl

pub filter_none : {X : Type 0} (p : X → Bool) (xs : List X) → ((x : X) → Contains xs x → p x ≡ false) → filter p xs ≡ []
filter_none p [] h = refl
filter_none p (x ∷ xs) h = none_kept x (filter p xs) (p x) (h x (Contains-here x xs)) ∙ filter_none p xs (λ y c. h y (Contains-there x xs y c))

-- ---- parts
pub part_true : (layer part : ℕ) (r : Record) → r.key.layer ≡ layer → r.key.part ≡ part → is_of_part layer part r ≡ true
part_true layer part r l p = and_from (eqb r.key.layer layer) (eqb r.key.part part) (eq-eqb r.key.layer layer l) (eq-eqb r.key.part part p)

pub part_says : (layer part : ℕ) (r : Record) → is_of_part layer part r ≡ true → (r.key.layer ≡ layer) × (r.key.part ≡ part)
part_says layer part r t =
    let both = and_parts (eqb r.key.layer layer) (eqb r.key.part part) t in
    (eqb-true r.key.layer layer both.0, eqb-true r.key.part part both.1)

pub part_false : (layer part : ℕ) (r : Record) → (r.key.layer ≡ layer → r.key.part ≡ part → ⊥) → is_of_part layer part r ≡ false
part_false layer part r away = ⊎_elim (λ t. let s = part_says layer part r t in absurd (away s.0 s.1)) (λ f. f) (cases_Bool (is_of_part layer part r))

-- ---- keys
module _ (n layer : ℕ) where
  pub record HasKey (r : Record) (part : ℕ) : Type 0 where
    pub layer_is : r.key.layer ≡ layer
    pub part_is : r.key.part ≡ part

  key_of_fact : (b : Block) (id : Option ℕ) → HasKey (record_of n 0 [] layer (pair_fact b id)) 3
  key_of_fact b None = record { layer_is = refl; part_is = refl }
  key_of_fact b (Some id) = record { layer_is = refl; part_is = refl }

  pub pair_key : (p : Pair) → HasKey (pair_record n layer p) 3
  pair_key p = key_of_fact p.block p.id

  pub segment_key : (e : ℕ × Seg) → HasKey (segment_record n layer e) 4
  segment_key e = record { layer_is = refl; part_is = refl }

  -- ---- order
  by_code : (b d : Block) (i j : Option ℕ) → code_from b < code_from d
      → by_key (record_of n 0 [] layer (pair_fact b i)) (record_of n 0 [] layer (pair_fact d j)) ≡ Less
  by_code b d None None lt = less_code (record_of n 0 [] layer (pair_fact b None)).key (record_of n 0 [] layer (pair_fact d None)).key refl refl lt
  by_code b d None (Some j) lt = less_code (record_of n 0 [] layer (pair_fact b None)).key (record_of n 0 [] layer (pair_fact d (Some j))).key refl refl lt
  by_code b d (Some i) None lt = less_code (record_of n 0 [] layer (pair_fact b (Some i))).key (record_of n 0 [] layer (pair_fact d None)).key refl refl lt
  by_code b d (Some i) (Some j) lt =
      less_code (record_of n 0 [] layer (pair_fact b (Some i))).key (record_of n 0 [] layer (pair_fact d (Some j))).key refl refl lt

  pub pairs_by_code : (p q : Pair) → code_from p.block < code_from q.block → by_key (pair_record n layer p) (pair_record n layer q) ≡ Less
  pairs_by_code p q lt = by_code p.block q.block p.id q.id lt

  pub by_item : (k : Key) (i j : ℕ) → key_cmp (record { layer = k.layer; part = k.part; code = k.code; depth = k.depth; item = i })
      (record { layer = k.layer; part = k.part; code = k.code; depth = k.depth; item = j }) ≡ nat_cmp i j
  by_item k i j =
      then_equal _ _ (nat_same k.layer k.layer refl) ∙ then_equal _ _ (nat_same k.part k.part refl) ∙ then_equal _ _ (nat_same k.code k.code refl)
      ∙ then_equal _ _ (nat_same k.depth k.depth refl)

  pub pairs_by_id : (b : Block) (i j : ℕ) → by_key (record_of n 0 [] layer (IsMetBy b i)) (record_of n 0 [] layer (IsMetBy b j)) ≡ nat_cmp i j
  pairs_by_id b i j = by_item (record_of n 0 [] layer (IsMetBy b i)).key i j

  pub segments_by_id : (d e : ℕ × Seg) → by_key (segment_record n layer d) (segment_record n layer e) ≡ nat_cmp d.0 e.0
  segments_by_id d e = by_item (segment_record n layer d).key d.0 e.0

  -- ---- what they say
  module _ (le : n ≤ 12) where
    blocks_same : (b d : Block) (i j : Option ℕ) → IsBlock n b → IsBlock n d
        → record_of n 0 [] layer (pair_fact b i) ≡ record_of n 0 [] layer (pair_fact d j) → b ≡ d
    blocks_same b d None None hb hd e = block_alone n le b d hb hd (ap (λ (r : Record). r.key.code) e) (ap (λ (r : Record). r.key.depth) e)
    blocks_same b d None (Some j) hb hd e = block_alone n le b d hb hd (ap (λ (r : Record). r.key.code) e) (ap (λ (r : Record). r.key.depth) e)
    blocks_same b d (Some i) None hb hd e = block_alone n le b d hb hd (ap (λ (r : Record). r.key.code) e) (ap (λ (r : Record). r.key.depth) e)
    blocks_same b d (Some i) (Some j) hb hd e = block_alone n le b d hb hd (ap (λ (r : Record). r.key.code) e) (ap (λ (r : Record). r.key.depth) e)

    ids_same : (b d : Block) (i j : Option ℕ) → record_of n 0 [] layer (pair_fact b i) ≡ record_of n 0 [] layer (pair_fact d j) → i ≡ j
    ids_same b d None None e = refl
    ids_same b d None (Some j) e = absurd (let z : 0 ≡ 1 = ap (λ (r : Record). get_or r.value 0 0) e in omega arith)
    ids_same b d (Some i) None e = absurd (let z : 1 ≡ 0 = ap (λ (r : Record). get_or r.value 0 0) e in omega arith)
    ids_same b d (Some i) (Some j) e = ap (λ (k : ℕ). Some k) (ap (λ (r : Record). r.key.item) e)

    pub pair_alone : (p q : Pair) → IsBlock n p.block → IsBlock n q.block → pair_record n layer p ≡ pair_record n layer q → p ≡ q
    pair_alone p q hp hq e =
        let b = blocks_same p.block q.block p.id q.id hp hq e in
        let i = ids_same p.block q.block p.id q.id e in
        λ k. record { block = b k; id = i k }

    -- a segment of the square fits its record
    pub coordinates : (s : Seg) → is_in_square n s ≡ true → (s.x1 < 2 ^ 16) × (s.y1 < 2 ^ 16) × (s.x2 < 2 ^ 16) × (s.y2 < 2 ^ 16)
    coordinates s t =
        let m = side_most n le in
        let both = and_parts (is_pixel n (record { x = s.x1; y = s.y1 })) (is_pixel n (record { x = s.x2; y = s.y2 })) t in
        let one = and_parts (nat_lt s.x1 (side n)) (nat_lt s.y1 (side n)) both.0 in
        let two = and_parts (nat_lt s.x2 (side n)) (nat_lt s.y2 (side n)) both.1 in
        let a = ltb-true s.x1 (side n) one.0 in
        let b = ltb-true s.y1 (side n) one.1 in
        let c = ltb-true s.x2 (side n) two.0 in
        let d = ltb-true s.y2 (side n) two.1 in
        (omega arith, omega arith, omega arith, omega arith)

    module _ (some : 1 ≤ layer) (most : layer ≤ 255) where
      pub segment_is : (e : ℕ × Seg) → e.0 < 2 ^ 32 → is_in_square n e.1 ≡ true → IsRecordOf n 0 (segment_record n layer e) layer (IsSegment e.0 e.1)
      segment_is e small t =
          let c = coordinates e.1 t in
          record { least = some; most = most; fits = (small, c.0, c.1, c.2, c.3); written = λ name. refl }

-- a segment is what its record says, whatever its layer
said : (n : ℕ) → n ≤ 12 → (layer : ℕ) (e : ℕ × Seg) → e.0 < 2 ^ 32 → is_in_square n e.1 ≡ true → segment_of (segment_record n layer e).value ≡ e.1
said n le layer e small t = segment_ends n (segment_record n 1 e) 1 e.0 e.1 (segment_is n 1 le (omega arith) (omega arith) e small t)

pub segment_alone : (n layer : ℕ) → n ≤ 12 → (d e : ℕ × Seg) → (d.0 < 2 ^ 32) × (is_in_square n d.1 ≡ true)
    → (e.0 < 2 ^ 32) × (is_in_square n e.1 ≡ true) → segment_record n layer d ≡ segment_record n layer e → d ≡ e
segment_alone n layer le d e hd he same =
    let id : d.0 ≡ e.0 = ap (λ (r : Record). r.key.item) same in
    let seg : d.1 ≡ e.1 = sym (said n le layer d hd.0 hd.1) ∙ ap (λ (r : Record). segment_of r.value) same ∙ said n le layer e he.0 he.1 in
    λ k. (id k, seg k)

-- a function that tells the elements of two lists apart
pub map_alone : {X Y : Type 0} (f : X → Y) (P : X → Type 0) → ((a b : X) → P a → P b → f a ≡ f b → a ≡ b) → (xs ys : List X)
    → ((x : X) → Contains xs x → P x) → ((y : X) → Contains ys y → P y)
    → map f xs ≡ map f ys → xs ≡ ys
map_alone f P one [] [] h g e = refl
map_alone f P one [] (y ∷ ys) h g e = cc
map_alone f P one (x ∷ xs) [] h g e = cc
map_alone f P one (x ∷ xs) (y ∷ ys) h g e =
    let first : f x ≡ f y = cc in
    let rest : map f xs ≡ map f ys = cc in
    ap₂ ◌∷◌ (one x y (h x (Contains-here x xs)) (g y (Contains-here y ys)) first)
    (map_alone f P one xs ys (λ z c. h z (Contains-there x xs z c)) (λ z c. g z (Contains-there y ys z c)) rest)
