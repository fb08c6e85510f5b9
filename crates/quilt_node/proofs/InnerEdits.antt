-- What edits of the bytes of an inner page make of its children and keys.
use Rattle.std.proofs.Common.{◌≡◌, ℕ, suc, ◌+◌, ◌-◌, ◌*◌, ◌<◌, ◌≤◌, ◌^◌, true, List, [], ◌∷◌, ◌++◌, length, take, drop, set, slice_range, refl, sym, ◌∙◌, ap}
use Rattle.std.proofs.Common.{subst, arith, replicate, flat_map, length-append, length-drop, length-take-le, length-set, append_assoc, add-zero}
use Rattle.std.proofs.lemmas.List.{append-nil}
use Rattle.std.specs.List.{insert, remove, list_all}
use Rattle.std.specs.Int.{to_be_bytes, w16, w32}
use Rattle.quilt_record.specs.declared.key.Key.{Key}
use Rattle.quilt_record.specs.Records.{key_bytes}
use Rattle.quilt_record.specs.Fits.{KeyFits}
use Rattle.quilt_node.specs.Pages.{Inner, is_ascending}
use Rattle.quilt_node.specs.Nodes.{IsInner, IsInnerPage, inner_head}
use Rattle.quilt_node.specs.Edits.{with_key, first_children, children_from, joined}
use Rattle.quilt_node.proofs.Rows.{put_row, take_row, add_rows, cut_rows, rows_from, set_row, length_insert, length_remove, wide_length}
use Rattle.quilt_node.proofs.Spelled.{wide_keys, wide_words}
use Rattle.quilt_node.proofs.Ascending.{all_append, all_take, all_drop, ascending_take, ascending_drop, ascending_remove}
use Rattle.quilt_node.proofs.Inners.{IsShaped, child_area, key_area, children_of, with_children, keys_of_page, with_keys, key_start, recounted, shape_of}
use Rattle.quilt_node.proofs.Inners.{inner_page_of, keys_append, keys_take, keys_drop, keys_set, is_page, page_test}
use Rattle.std.proofs.lemmas.Bool.{and_from}

abbrev pub put_both : Inner → ℕ → Key → ℕ → ℕ → Inner
put_both inner i k j child = record { height = inner.height; children = insert inner.children j child; keys = insert inner.keys i k }

abbrev pub take_both : Inner → ℕ → ℕ → Inner
take_both inner i j = record { height = inner.height; children = remove inner.children j; keys = remove inner.keys i }

pub inner_put : (inner : Inner) (i j child : ℕ) (k : Key) → IsInner inner → KeyFits k → 1 ≤ child → child < 2 ^ 32 → length inner.children < 254
    → is_ascending (insert inner.keys i k) ≡ true → IsInner (put_both inner i k j child)
inner_put inner i j child k is f some fits room order =
    let more = length_insert inner.children j child in
    let keys = length_insert inner.keys i k in
    record {
      low = is.low;
      high = is.high;
      least = omega (arith, more, is.least);
      most = omega (arith, more, room);
      between = omega (arith, more, keys, is.between);
      children = all_append is_page (take j inner.children) (child ∷ drop j inner.children) (all_take is_page inner.children j is.children)
          (and_from (is_page child) (list_all is_page (drop j inner.children)) (page_test child some fits) (all_drop is_page inner.children j is.children));
      fit = keys_append (take i inner.keys) (k ∷ drop i inner.keys) (keys_take inner.keys i is.fit) (f, keys_drop inner.keys i is.fit);
      ascends = order;
    }

-- A key and a child are put in.
pub put_page : (bytes mid more new piece row : List ℕ) (inner : Inner) (i j n child : ℕ) (k : Key) → IsInnerPage bytes inner
    → n ≡ length inner.children → KeyFits k → 1 ≤ child → child < 2 ^ 32
    → length inner.children < 254 → (i < length inner.children) × (j ≤ length inner.children) → is_ascending (insert inner.keys i k) ≡ true
    → piece ≡ to_be_bytes w32 child → row ≡ key_bytes k
    → mid ≡ take (8 + 4 * j) bytes ++ (piece ++ (slice_range bytes (8 + 4 * j) (8 + 4 * n) ++ drop (8 + 4 * n + length piece) bytes))
    → more ≡ take (1024 + 12 * i) mid ++ (row ++ (slice_range mid (1024 + 12 * i) (1024 + 12 * (n - 1)) ++ drop (1024 + 12 * (n - 1) + length row) mid))
    → new ≡ take 2 more ++ (to_be_bytes w16 (n + 1) ++ drop 4 more) → IsInnerPage new (put_both inner i k j child)
put_page bytes mid more new piece row inner i j n child k p count f some fits room place order is_piece is_row made made_more counts =
    let h = inner.height in
    let m = length inner.children in
    let cs = insert inner.children j child in
    let is = p.is_inner in
    let keys_few : length inner.keys ≤ 253 = omega (arith, is.between, is.most) in
    let keys_after : length (insert inner.keys i k) ≤ 253 = omega (arith, is.between, room, length_insert inner.keys i k) in
    let cs_few : length cs ≤ 254 = omega (arith, room, length_insert inner.children j child) in
    let start = key_start h m cs cs_few in
    let one_less : n - 1 ≡ length inner.keys = omega (arith, count, is.between) in
    let first : IsShaped h m mid cs inner.keys =
    with_children h m mid cs inner.keys
    (put_row (to_be_bytes w32) 4 1016 (inner_head h m) (key_area inner.keys) bytes mid piece inner.children j (8 + 4 * j) (8 + 4 * n) child
    (children_of h m bytes inner.children inner.keys (shape_of bytes inner p)) refl place.1 (omega (arith, room)) refl (ap (λ l. 8 + 4 * l) count) is_piece
    (made ∙ ap (λ l. take (8 + 4 * j) bytes ++ (piece ++ (slice_range bytes (8 + 4 * j) (8 + 4 * n) ++ drop (8 + 4 * n + l) bytes)))
    (ap length is_piece))) keys_few in
    let second : IsShaped h m more cs (insert inner.keys i k) =
    with_keys h m more cs (insert inner.keys i k)
    (put_row key_bytes 12 3072 (inner_head h m ++ child_area cs) [] mid more row inner.keys i (1024 + 12 * i) (1024 + 12 * (n - 1)) k
    (keys_of_page h m mid cs inner.keys first) refl (omega (arith, place.0, is.between)) (omega (arith, is.between, room)) (ap (λ l. l + 12 * i) (sym start))
    (ap (λ l. 1024 + 12 * l) one_less ∙ ap (λ l. l + 12 * length inner.keys) (sym start)) is_row
    (made_more ∙ ap (λ l. take (1024 + 12 * i) mid
    ++ (row ++ (slice_range mid (1024 + 12 * i) (1024 + 12 * (n - 1)) ++ drop (1024 + 12 * (n - 1) + l) mid))) (ap length is_row))) cs_few keys_after in
    inner_page_of (n + 1) new (put_both inner i k j child) (omega (arith, count, length_insert inner.children j child))
    (inner_put inner i j child k is f some fits room order)
    (recounted h m (n + 1) more new cs (insert inner.keys i k) second counts)

pub inner_take : (inner : Inner) (i j : ℕ) → IsInner inner → 2 < length inner.children → (i < length inner.keys) × (j < length inner.children)
    → IsInner (take_both inner i j)
inner_take inner i j is some place =
    let fewer = length_remove inner.children j place.1 in
    let keys = length_remove inner.keys i place.0 in
    record {
      low = is.low;
      high = is.high;
      least = omega (arith, fewer, some);
      most = omega (arith, fewer, is.most);
      between = omega (arith, fewer, keys, is.between);
      children = all_append is_page (take j inner.children) (drop (suc j) inner.children) (all_take is_page inner.children j is.children)
          (all_drop is_page inner.children (suc j) is.children);
      fit = keys_append (take i inner.keys) (drop (suc i) inner.keys) (keys_take inner.keys i is.fit) (keys_drop inner.keys (suc i) is.fit);
      ascends = ascending_remove inner.keys i is.ascends;
    }

abbrev no_key : Key
no_key = record { layer = 0; part = 0; code = 0; depth = 0; item = 0 }

-- A key and a child are taken out.
pub take_page : (bytes mid more new : List ℕ) (inner : Inner) (i j n : ℕ) → IsInnerPage bytes inner → n ≡ length inner.children
    → 2 < length inner.children → (i < length inner.keys) × (j < length inner.children)
    → mid ≡ take (8 + 4 * j) bytes ++ (slice_range bytes (8 + 4 * j + 4) (8 + 4 * n) ++ (replicate 4 0 ++ drop (8 + 4 * n) bytes))
    → more ≡ take (1024 + 12 * i) mid ++ (slice_range mid (1024 + 12 * i + 12) (1024 + 12 * (n - 1)) ++ (replicate 12 0 ++ drop (1024 + 12 * (n - 1)) mid))
    → new ≡ take 2 more ++ (to_be_bytes w16 (n - 1) ++ drop 4 more) → IsInnerPage new (take_both inner i j)
take_page bytes mid more new inner i j n p count some place made made_more counts =
    let h = inner.height in
    let m = length inner.children in
    let cs = remove inner.children j in
    let is = p.is_inner in
    let keys_few : length inner.keys ≤ 253 = omega (arith, is.between, is.most) in
    let keys_after : length (remove inner.keys i) ≤ 253 = omega (arith, is.between, is.most, length_remove inner.keys i place.0) in
    let cs_few : length cs ≤ 254 = omega (arith, is.most, length_remove inner.children j place.1) in
    let start = key_start h m cs cs_few in
    let one_less : n - 1 ≡ length inner.keys = omega (arith, count, is.between) in
    let first : IsShaped h m mid cs inner.keys =
    with_children h m mid cs inner.keys
    (take_row (to_be_bytes w32) 4 1016 (inner_head h m) (key_area inner.keys) bytes mid inner.children j (8 + 4 * j) (8 + 4 * n) 0
    (children_of h m bytes inner.children inner.keys (shape_of bytes inner p)) place.1 refl (ap (λ l. 8 + 4 * l) count) made) keys_few in
    let second : IsShaped h m more cs (remove inner.keys i) =
    with_keys h m more cs (remove inner.keys i)
    (take_row key_bytes 12 3072 (inner_head h m ++ child_area cs) [] mid more inner.keys i (1024 + 12 * i) (1024 + 12 * (n - 1)) no_key
    (keys_of_page h m mid cs inner.keys first) place.0 (ap (λ l. l + 12 * i) (sym start))
    (ap (λ l. 1024 + 12 * l) one_less ∙ ap (λ l. l + 12 * length inner.keys) (sym start)) made_more) cs_few keys_after in
    inner_page_of (n - 1) new (take_both inner i j) (omega (arith, count, length_remove inner.children j place.1)) (inner_take inner i j is some place)
    (recounted h m (n - 1) more new cs (remove inner.keys i) second counts)

-- A key is replaced.
pub set_page : (bytes new row : List ℕ) (inner : Inner) (i : ℕ) (k : Key) → IsInnerPage bytes inner → KeyFits k → i < length inner.keys
    → is_ascending (set inner.keys i k) ≡ true → row ≡ key_bytes k
    → new ≡ take (1024 + 12 * i) bytes ++ (row ++ drop (1024 + 12 * i + length row) bytes) → IsInnerPage new (with_key inner i k)
set_page bytes new row inner i k p f place order is_row made =
    let h = inner.height in
    let m = length inner.children in
    let is = p.is_inner in
    let same = length-set inner.keys i k in
    let start = key_start h m inner.children is.most in
    inner_page_of m new (with_key inner i k) refl
    (record {
      low = is.low;
      high = is.high;
      least = is.least;
      most = is.most;
      between = is.between ∙ ap suc (sym same);
      children = is.children;
      fit = keys_set inner.keys i k is.fit f;
      ascends = order;
    })
    (with_keys h m new inner.children (set inner.keys i k)
    (set_row key_bytes 12 3072 (inner_head h m ++ child_area inner.children) [] bytes new row inner.keys i (1024 + 12 * i) k
    (keys_of_page h m bytes inner.children inner.keys (shape_of bytes inner p)) refl place (ap (λ l. l + 12 * i) (sym start)) is_row made) is.most
    (omega (arith, same, is.between, is.most)))

pub inner_first : (inner : Inner) (n : ℕ) → IsInner inner → 2 ≤ n → n ≤ length inner.children → IsInner (first_children n inner)
inner_first inner n is some few =
    let many = length-take-le n inner.children few in
    let keys = length-take-le (n - 1) inner.keys (omega (arith, is.between, few)) in
    record {
      low = is.low;
      high = is.high;
      least = omega (arith, many, some);
      most = omega (arith, many, few, is.most);
      between = omega (arith, many, keys, some);
      children = all_take is_page inner.children n is.children;
      fit = keys_take inner.keys (n - 1) is.fit;
      ascends = ascending_take inner.keys (n - 1) is.ascends;
    }

pub inner_rest : (inner : Inner) (n : ℕ) → IsInner inner → n + 2 ≤ length inner.children → IsInner (children_from n inner)
inner_rest inner n is few =
    let many = length-drop n inner.children in
    let keys = length-drop n inner.keys in
    record {
      low = is.low;
      high = is.high;
      least = omega (arith, many, few);
      most = omega (arith, many, is.most);
      between = omega (arith, many, keys, few, is.between);
      children = all_drop is_page inner.children n is.children;
      fit = keys_drop inner.keys n is.fit;
      ascends = ascending_drop inner.keys n is.ascends;
    }

-- The first children stay.
pub keep_page : (bytes mid more new : List ℕ) (inner : Inner) (i n : ℕ) → IsInnerPage bytes inner → n ≡ length inner.children
    → (2 ≤ i) × (i + 2 ≤ length inner.children)
    → mid ≡ take (8 + 4 * i) bytes ++ (replicate (8 + 4 * n - (8 + 4 * i)) 0 ++ drop (8 + 4 * n) bytes)
    → more ≡ take (1024 + 12 * (i - 1)) mid ++ (replicate (1024 + 12 * (n - 1) - (1024 + 12 * (i - 1))) 0 ++ drop (1024 + 12 * (n - 1)) mid)
    → new ≡ take 2 more ++ (to_be_bytes w16 i ++ drop 4 more) → IsInnerPage new (first_children i inner)
keep_page bytes mid more new inner i n p count place made made_more counts =
    let h = inner.height in
    let m = length inner.children in
    let cs = take i inner.children in
    let is = p.is_inner in
    let short : i ≤ length inner.children = omega (arith, place.1) in
    let short_keys : i - 1 ≤ length inner.keys = omega (arith, place.1, is.between) in
    let many = length-take-le i inner.children short in
    let cs_few : length cs ≤ 254 = omega (arith, is.most, many, short) in
    let start = key_start h m cs cs_few in
    let one_less : n - 1 ≡ length inner.keys = omega (arith, count, is.between) in
    let first : IsShaped h m mid cs inner.keys =
    with_children h m mid cs inner.keys
    (cut_rows (to_be_bytes w32) 4 1016 (inner_head h m) (key_area inner.keys) bytes mid inner.children i (8 + 4 * i) (8 + 4 * n)
    (children_of h m bytes inner.children inner.keys (shape_of bytes inner p)) short refl (ap (λ l. 8 + 4 * l) count) made)
    (omega (arith, is.between, is.most)) in
    let second : IsShaped h m more cs (take (i - 1) inner.keys) =
    with_keys h m more cs (take (i - 1) inner.keys)
    (cut_rows key_bytes 12 3072 (inner_head h m ++ child_area cs) [] mid more inner.keys (i - 1) (1024 + 12 * (i - 1)) (1024 + 12 * (n - 1))
    (keys_of_page h m mid cs inner.keys first) short_keys (ap (λ l. l + 12 * (i - 1)) (sym start))
    (ap (λ l. 1024 + 12 * l) one_less ∙ ap (λ l. l + 12 * length inner.keys) (sym start)) made_more) cs_few
    (omega (arith, length-take-le (i - 1) inner.keys short_keys, short_keys, is.between, is.most)) in
    inner_page_of i new (first_children i inner) (sym many) (inner_first inner i is place.0 short)
    (recounted h m i more new cs (take (i - 1) inner.keys) second counts)

-- A page is made of the rows of its children and of its keys.
pub shaped_page : (mid new children keys cs : List ℕ) (ks : List Key) (height n : ℕ) → length cs ≤ 254 → length ks ≤ 253
    → children ≡ flat_map (to_be_bytes w32) cs → keys ≡ flat_map key_bytes ks
    → mid ≡ inner_head height n ++ ((children ++ replicate (1016 - length children) 0) ++ replicate 3072 0)
    → new ≡ take 1024 mid ++ (keys ++ drop (1024 + length keys) mid) → IsShaped height n new cs ks
shaped_page mid new children keys cs ks height n few fewer is_children is_keys made more =
    let start = key_start height n cs few in
    let first : IsShaped height n mid cs [] = record {
      few = few;
      fewer = omega arith;
      shape = made ∙ ap (λ l. inner_head height n ++ ((l ++ replicate (1016 - length l) 0) ++ replicate 3072 0)) is_children
          ∙ ap (λ m. inner_head height n ++ ((flat_map (to_be_bytes w32) cs ++ replicate (1016 - m) 0) ++ replicate 3072 0))
          (wide_length (to_be_bytes w32) 4 cs (wide_words cs));
    } in
    with_keys height n new cs ks
    (add_rows key_bytes 12 3072 (inner_head height n ++ child_area cs) [] mid new keys [] ks 1024 (keys_of_page height n mid cs [] first)
    (wide_keys ks) (omega (arith, fewer)) (sym start ∙ sym (add-zero (length (inner_head height n ++ child_area cs)))) is_keys more)
    few fewer

pub made_page : (mid new children keys : List ℕ) (inner : Inner) (height n : ℕ) → IsInner inner → height ≡ inner.height → n ≡ length inner.children
    → children ≡ flat_map (to_be_bytes w32) inner.children → keys ≡ flat_map key_bytes inner.keys
    → mid ≡ inner_head height n ++ ((children ++ replicate (1016 - length children) 0) ++ replicate 3072 0)
    → new ≡ take 1024 mid ++ (keys ++ drop (1024 + length keys) mid) → IsInnerPage new inner
made_page mid new children keys inner height n is high many is_children is_keys made more =
    inner_page_of n new inner many is
    (shaped_page mid new children keys inner.children inner.keys inner.height n is.most (omega (arith, is.between, is.most)) is_children is_keys
    (made ∙ ap (λ m. inner_head m n ++ ((children ++ replicate (1016 - length children) 0) ++ replicate 3072 0)) high) more)

-- The other children go into a page of their own.
pub rest_page : (bytes mid new : List ℕ) (inner : Inner) (height i n k : ℕ) → IsInnerPage bytes inner → n ≡ length inner.children
    → i + 2 ≤ length inner.children → height ≡ inner.height → k ≡ n - i
    → mid ≡ inner_head height k
    ++ ((slice_range bytes (8 + 4 * i) (8 + 4 * n) ++ replicate (1016 - length (slice_range bytes (8 + 4 * i) (8 + 4 * n))) 0) ++ replicate 3072 0)
    → new ≡ take 1024 mid ++ (slice_range bytes (1024 + 12 * i) (1024 + 12 * (n - 1))
    ++ drop (1024 + length (slice_range bytes (1024 + 12 * i) (1024 + 12 * (n - 1)))) mid)
    → IsInnerPage new (children_from i inner)
rest_page bytes mid new inner height i n k p count place high left made more =
    let h = inner.height in
    let m = length inner.children in
    let is = p.is_inner in
    let shaped = shape_of bytes inner p in
    let start = key_start h m inner.children is.most in
    let one_less : n - 1 ≡ length inner.keys = omega (arith, count, is.between) in
    made_page mid new (slice_range bytes (8 + 4 * i) (8 + 4 * n)) (slice_range bytes (1024 + 12 * i) (1024 + 12 * (n - 1)))
    (children_from i inner) height k (inner_rest inner i is place) high
    (left ∙ ap (λ l. l - i) count ∙ sym (length-drop i inner.children))
    (rows_from (to_be_bytes w32) 4 1016 (inner_head h m) (key_area inner.keys) bytes inner.children i (8 + 4 * i) (8 + 4 * n)
    (children_of h m bytes inner.children inner.keys shaped)
    (omega (arith, place)) refl (ap (λ l. 8 + 4 * l) count))
    (rows_from key_bytes 12 3072 (inner_head h m ++ child_area inner.children) [] bytes inner.keys i (1024 + 12 * i) (1024 + 12 * (n - 1))
    (keys_of_page h m bytes inner.children inner.keys shaped)
    (omega (arith, place, is.between)) (ap (λ l. l + 12 * i) (sym start)) (ap (λ l. 1024 + 12 * l) one_less ∙ ap (λ l. l + 12 * length inner.keys) (sym start)))
    made more

pub pair_inner : (height left right : ℕ) (k : Key) → (2 ≤ height) × (height ≤ 3) → (1 ≤ left) × (1 ≤ right) → left < 2 ^ 32 → right < 2 ^ 32 → KeyFits k
    → IsInner (record { height = height; children = left ∷ right ∷ []; keys = k ∷ [] })
pair_inner height left right k high some less fewer f = record {
  low = high.0;
  high = high.1;
  least = omega arith;
  most = omega arith;
  between = refl;
  children =
      and_from (is_page left) (list_all is_page (right ∷ [])) (page_test left some.0 less) (and_from (is_page right) true (page_test right some.1 fewer) refl);
  fit = (f, tt);
  ascends = refl;
}

pub inner_joined : (inner other : Inner) (k : Key) → IsInner inner → IsInner other → KeyFits k → length inner.children + length other.children ≤ 254
    → is_ascending (inner.keys ++ k ∷ other.keys) ≡ true → IsInner (joined inner k other)
inner_joined inner other k is os f room order =
    let both = length-append inner.children other.children in
    let keys = length-append inner.keys (k ∷ other.keys) in
    record {
      low = is.low;
      high = is.high;
      least = omega (arith, both, is.least);
      most = omega (arith, both, room);
      between = omega (arith, both, keys, is.between, os.between);
      children = all_append is_page inner.children other.children is.children os.children;
      fit = keys_append inner.keys (k ∷ other.keys) is.fit (f, os.fit);
      ascends = order;
    }

-- The children of another page are added, with a key between.
pub join_page : (bytes mid more last new other row : List ℕ) (inner right : Inner) (n m : ℕ) (k : Key) → IsInnerPage bytes inner
    → IsInnerPage other right → n ≡ length inner.children → m ≡ length right.children
    → KeyFits k → length inner.children + length right.children ≤ 254 → is_ascending (inner.keys ++ k ∷ right.keys) ≡ true → row ≡ key_bytes k
    → mid ≡ take (8 + 4 * n) bytes ++ (slice_range other 8 (8 + 4 * m) ++ drop (8 + 4 * n + length (slice_range other 8 (8 + 4 * m))) bytes)
    → more ≡ take (1024 + 12 * (n - 1)) mid ++ (row ++ drop (1024 + 12 * (n - 1) + length row) mid)
    → last ≡ take (1024 + 12 * n) more
    ++ (slice_range other 1024 (1024 + 12 * (m - 1)) ++ drop (1024 + 12 * n + length (slice_range other 1024 (1024 + 12 * (m - 1)))) more)
    → new ≡ take 2 last ++ (to_be_bytes w16 (n + m) ++ drop 4 last) → IsInnerPage new (joined inner k right)
join_page bytes mid more last new other row inner right n m k p q count counts f room order is_row made made_more made_last e =
    let h = inner.height in
    let c = length inner.children in
    let d = length right.children in
    let is = p.is_inner in
    let os = q.is_inner in
    let cs = inner.children ++ right.children in
    let both = length-append inner.children right.children in
    let cs_few : length cs ≤ 254 = omega (arith, both, room) in
    let start = key_start h c cs cs_few in
    let other_start = key_start right.height d right.children os.most in
    let shaped = shape_of other right q in
    let one_less : n - 1 ≡ length inner.keys = omega (arith, count, is.between) in
    let other_less : m - 1 ≡ length right.keys = omega (arith, counts, os.between) in
    let with_k : length (inner.keys ++ k ∷ []) ≡ n = omega (arith, length-append inner.keys (k ∷ []), count, is.between) in
    let all_keys = length-append (inner.keys ++ k ∷ []) right.keys in
    let first : IsShaped h c mid cs inner.keys =
    with_children h c mid cs inner.keys
    (add_rows (to_be_bytes w32) 4 1016 (inner_head h c) (key_area inner.keys) bytes mid
    (slice_range other 8 (8 + 4 * m)) inner.children right.children (8 + 4 * n)
    (children_of h c bytes inner.children inner.keys (shape_of bytes inner p)) (wide_words right.children) (omega (arith, cs_few)) (ap (λ l. 8 + 4 * l) count)
    (rows_from (to_be_bytes w32) 4 1016 (inner_head right.height d) (key_area right.keys) other right.children 0 8 (8 + 4 * m)
    (children_of right.height d other right.children right.keys shaped)
    (omega arith) refl (ap (λ l. 8 + 4 * l) counts)) made) (omega (arith, is.between, is.most)) in
    let second : IsShaped h c more cs (inner.keys ++ k ∷ []) =
    with_keys h c more cs (inner.keys ++ k ∷ [])
    (add_rows key_bytes 12 3072 (inner_head h c ++ child_area cs) [] mid more row inner.keys (k ∷ []) (1024 + 12 * (n - 1))
    (keys_of_page h c mid cs inner.keys first) (wide_keys (k ∷ []))
    (omega (arith, with_k, count, room, os.least)) (ap (λ l. 1024 + 12 * l) one_less ∙ ap (λ l. l + 12 * length inner.keys) (sym start))
    (is_row ∙ sym (append-nil (key_bytes k))) made_more)
    cs_few (omega (arith, with_k, count, room, os.least)) in
    let third : IsShaped h c last cs ((inner.keys ++ k ∷ []) ++ right.keys) =
    with_keys h c last cs ((inner.keys ++ k ∷ []) ++ right.keys)
    (add_rows key_bytes 12 3072 (inner_head h c ++ child_area cs) [] more last (slice_range other 1024 (1024 + 12 * (m - 1)))
    (inner.keys ++ k ∷ []) right.keys (1024 + 12 * n)
    (keys_of_page h c more cs (inner.keys ++ k ∷ []) second) (wide_keys right.keys) (omega (arith, all_keys, with_k, count, room, os.between))
    (ap (λ l. 1024 + 12 * l) (sym with_k) ∙ ap (λ l. l + 12 * length (inner.keys ++ k ∷ [])) (sym start))
    (rows_from key_bytes 12 3072 (inner_head right.height d ++ child_area right.children) [] other right.keys 0 1024 (1024 + 12 * (m - 1))
    (keys_of_page right.height d other right.children right.keys shaped)
    (omega arith) (sym other_start ∙ sym (add-zero (length (inner_head right.height d ++ child_area right.children))))
    (ap (λ l. 1024 + 12 * l) other_less ∙ ap (λ l. l + 12 * length right.keys) (sym other_start))) made_last)
    cs_few (omega (arith, all_keys, with_k, count, room, os.between)) in
    let fourth : IsShaped h c last cs (inner.keys ++ k ∷ right.keys) = subst (IsShaped h c last cs) (append_assoc inner.keys (k ∷ []) right.keys) third in
    inner_page_of (n + m) new (joined inner k right) (omega (arith, both, count, counts)) (inner_joined inner right k is os f room order)
    (recounted h c (n + m) last new cs (inner.keys ++ k ∷ right.keys) fourth e)
