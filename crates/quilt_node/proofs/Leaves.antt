-- A leaf page over its bytes: what is read in it, and what edits of the bytes make of its records.
use Rattle.std.proofs.Common.{◌≡◌, ℕ, zero, suc, ◌+◌, ◌-◌, ◌*◌, ◌<◌, ◌≤◌, ◌^◌, Bool, true, false, ◌&&◌, nat_le, Some, None, List, [], ◌∷◌, ◌++◌, length, map}
use Rattle.std.proofs.Common.{take, drop, get_or, set, length-set, slice_range, refl, sym, ◌∙◌, ap, subst, append_assoc, arith, replicate, flat_map, length-append, length-drop}
use Rattle.std.proofs.Common.{length-take-le}
use Rattle.std.specs.Prelude.{if◌then◌else◌, slice_get}
use Rattle.std.specs.Str.{bytes_eq}
use Rattle.std.specs.List.{insert, remove}
use Rattle.std.specs.Int.{to_be_bytes, w16}
use Rattle.std.proofs.lemmas.Nat.{from_be_bytes-to_be_bytes_2}
use Rattle.std.proofs.lemmas.List.{append-nil, take-map, drop-map, map-append, drop-replicate, replicate-append-replicate}
use Rattle.std.proofs.Math.Seq.{drop-append-add, take-append-add}
use Rattle.std.proofs.Math.ListN.{drop_of_length-le}
use Rattle.std.proofs.lemmas.List.{drop-append-le}
use Rattle.std.specs.Option.{option_to_list}
use Rattle.std.proofs.lemmas.List.FromFn.{fill_by_all}
use Rattle.std.proofs.lemmas.Slice.Eq.{bytes_eq-Decides}
use Rattle.std.proofs.lemmas.Bool.Decides.{nat_tests}
use Rattle.std.proofs.lemmas.Bool.{le-leb}
use Rattle.quilt_record.specs.declared.record.Record.{Record}
use Rattle.quilt_record.specs.Records.{record_bytes}
use Rattle.quilt_record.specs.Fits.{RecordFits, AllFit}
use Rattle.quilt_node.specs.Pages.{short_at, record_at, read_leaf, leaf_bytes, leaf_of, is_ascending}
use Rattle.quilt_node.specs.Nodes.{IsLeaf, IsLeafPage, keys_of, leaf_head}
use Rattle.quilt_node.proofs.Rows.{HasArea, area, row_stands, cut_front, put_row, take_row, add_rows, cut_rows, rows_from, set_row, wide_length, length_insert}
use Rattle.quilt_node.proofs.Rows.{length_remove}
use Rattle.quilt_node.proofs.Spelled.{record_stands, wide_records}
use Rattle.quilt_node.proofs.Ascending.{ascending_take, ascending_drop, ascending_remove}

-- the bytes are the head of a leaf page with n records, and these records
abbrev pub HasRecords : ℕ → List ℕ → List Record → Type 0
HasRecords n bytes rs = HasArea record_bytes 28 4032 (leaf_head n) [] bytes rs

pub leaf_shape : (rs : List Record) → AllFit rs → leaf_bytes rs ≡ leaf_head (length rs) ++ area record_bytes 28 4032 rs
unfolding leaf_bytes
leaf_shape rs f =
    let whole : length (leaf_head (length rs) ++ flat_map record_bytes rs) ≡ 64 + 28 * length rs =
    length-append (leaf_head (length rs)) (flat_map record_bytes rs) ∙ ap (λ n. 64 + n) (wide_length record_bytes 28 rs (wide_records rs f)) in
    append_assoc (leaf_head (length rs)) (flat_map record_bytes rs) (replicate (4096 - length (leaf_head (length rs) ++ flat_map record_bytes rs)) 0)
    ∙ ap (λ m. leaf_head (length rs) ++ (flat_map record_bytes rs ++ replicate m 0))
    (left (length rs) (length (leaf_head (length rs) ++ flat_map record_bytes rs)) whole)
  where
    left : (n m : ℕ) → m ≡ 64 + 28 * n → 4096 - m ≡ 4032 - 28 * n
    left n m h = omega arith

pub has_records : (bytes : List ℕ) (rs : List Record) → IsLeafPage bytes rs → HasRecords (length rs) bytes rs
has_records bytes rs p = record {
  wide = wide_records rs p.is_leaf.fit;
  fits = omega (arith, p.is_leaf.most);
  shape = p.written ∙ leaf_shape rs p.is_leaf.fit ∙ ap (λ l. leaf_head (length rs) ++ l) (sym (append-nil (area record_bytes 28 4032 rs)));
}

pub leaf_page_of : (n : ℕ) (bytes : List ℕ) (rs : List Record) → n ≡ length rs → IsLeaf rs → HasRecords n bytes rs → IsLeafPage bytes rs
leaf_page_of n bytes rs e leaf h = record {
  is_leaf = leaf;
  written = h.shape ∙ ap (λ m. leaf_head m ++ (area record_bytes 28 4032 rs ++ [])) e
      ∙ ap (λ l. leaf_head (length rs) ++ l) (append-nil (area record_bytes 28 4032 rs))
      ∙ sym (leaf_shape rs leaf.fit);
}

-- another count is written
pub counted : (n m : ℕ) (bytes new : List ℕ) (rs : List Record) → HasRecords n bytes rs
    → new ≡ take 2 bytes ++ (to_be_bytes w16 m ++ drop 4 bytes) → HasRecords m new rs
counted n m bytes new rs h e = record {
  wide = h.wide;
  fits = h.fits;
  shape = e ∙ ap (λ l. take 2 l ++ (to_be_bytes w16 m ++ drop 4 l)) h.shape;
}

pub count_is : (bytes : List ℕ) (rs : List Record) → IsLeafPage bytes rs → short_at bytes 2 ≡ length rs
count_is bytes rs p =
    let small : length rs < 2 ^ 16 = omega (arith, p.is_leaf.most) in
    ap (λ l. short_at l 2) (has_records bytes rs p).shape ∙ from_be_bytes-to_be_bytes_2 (length rs) small

fit_at : (rs : List Record) (i : ℕ) (d : Record) → AllFit rs → i < length rs → RecordFits (get_or rs i d)
fit_at [] i d f lt = absurd (omega arith)
fit_at (r ∷ rs) zero d f lt = f.0
fit_at (r ∷ rs) (suc i) d f lt = fit_at rs i d f.1 (omega arith)

abbrev nothing : Record
nothing = record { key = record { layer = 0; part = 0; code = 0; depth = 0; item = 0 }; value = [] }

pub record_is : (bytes : List ℕ) (rs : List Record) (i : ℕ) (d : Record) → IsLeafPage bytes rs → i < length rs → record_at bytes (64 + 28 * i) ≡ get_or rs i d
record_is bytes rs i d p lt =
    record_stands (get_or rs i d) bytes (64 + 28 * i) (fit_at rs i d p.is_leaf.fit lt)
    (row_stands record_bytes 28 4032 (leaf_head (length rs)) [] bytes rs i (64 + 28 * i) d (has_records bytes rs p) lt refl)

-- A leaf page reads as its records.
pub read_back : (bytes : List ℕ) (rs : List Record) → IsLeafPage bytes rs → read_leaf bytes ≡ rs
read_back bytes rs p =
    let count = count_is bytes rs p in
    sym (fill_by_all (λ i. record_at bytes (64 + 28 * i)) rs (short_at bytes 2) nothing (sym count)
    (λ k lt. sym (record_is bytes rs k nothing p (subst (λ m. k < m) count lt))))

pub read_again : (bytes : List ℕ) (rs : List Record) → IsLeafPage bytes rs → IsLeafPage bytes (read_leaf bytes)
read_again bytes rs p = subst (IsLeafPage bytes) (sym (read_back bytes rs p)) p

pub passed : {X : Type 0} (a b c d : Bool) (x : X) → a ≡ true → b ≡ true → c ≡ true → d ≡ true → (if a && b && c && d then Some x else None) ≡ Some x
passed true true true true x p q r s = refl
passed true true true false x p q r s = cc
passed true true false d x p q r s = cc
passed true false c d x p q r s = cc
passed false b c d x p q r s = cc

-- The bytes of a leaf page are well formed, and are its records.
pub leaf_of_page : (bytes : List ℕ) (rs : List Record) → IsLeafPage bytes rs → leaf_of bytes ≡ Some rs
unfolding leaf_of
leaf_of_page bytes rs p =
    let same = read_back bytes rs p in
    let ss = read_leaf bytes in
    passed (nat_le 1 (length ss)) (nat_le (length ss) 144) (is_ascending (map (λ r. r.key) ss)) (bytes_eq (leaf_bytes ss) bytes) ss
    (ap (λ (l : List Record). nat_le 1 (length l)) same ∙ le-leb 1 (length rs) p.is_leaf.least)
    (ap (λ (l : List Record). nat_le (length l) 144) same ∙ le-leb (length rs) 144 p.is_leaf.most)
    (ap (λ (l : List Record). is_ascending (map (λ r. r.key) l)) same ∙ p.is_leaf.ascends)
    ((bytes_eq-Decides (leaf_bytes ss) bytes).1 (ap leaf_bytes same ∙ sym p.written))
    ∙ ap Some same

pub fit_take : (rs : List Record) (i : ℕ) → AllFit rs → AllFit (take i rs)
fit_take rs zero f = tt
fit_take [] (suc i) f = tt
fit_take (r ∷ rs) (suc i) f = (f.0, fit_take rs i f.1)

pub fit_drop : (rs : List Record) (i : ℕ) → AllFit rs → AllFit (drop i rs)
fit_drop rs zero f = f
fit_drop [] (suc i) f = tt
fit_drop (r ∷ rs) (suc i) f = fit_drop rs i f.1

pub fit_append : (rs ss : List Record) → AllFit rs → AllFit ss → AllFit (rs ++ ss)
fit_append [] ss f g = g
fit_append (r ∷ rs) ss f g = (f.0, fit_append rs ss f.1 g)

pub leaf_insert : (rs : List Record) (i : ℕ) (r : Record) → IsLeaf rs → RecordFits r → length rs < 144
    → is_ascending (keys_of (insert rs i r)) ≡ true → IsLeaf (insert rs i r)
leaf_insert rs i r leaf f room order =
    let more = length_insert rs i r in
    record {
      fit = fit_append (take i rs) (r ∷ drop i rs) (fit_take rs i leaf.fit) (f, fit_drop rs i leaf.fit);
      least = omega (arith, more);
      most = omega (arith, more, room);
      ascends = order;
    }

pub leaf_remove : (rs : List Record) (i : ℕ) → IsLeaf rs → 1 < length rs → i < length rs → IsLeaf (remove rs i)
leaf_remove rs i leaf some lt =
    let fewer = length_remove rs i lt in
    record {
      fit = fit_append (take i rs) (drop (suc i) rs) (fit_take rs i leaf.fit) (fit_drop rs (suc i) leaf.fit);
      least = omega (arith, fewer, some);
      most = omega (arith, fewer, leaf.most);
      ascends = subst (λ l. is_ascending l ≡ true)
          (ap (λ l. l ++ drop (suc i) (keys_of rs)) (take-map (λ (r : Record). r.key) i rs)
          ∙ ap (λ l. keys_of (take i rs) ++ l) (drop-map (λ (r : Record). r.key) (suc i) rs)
          ∙ sym (map-append (λ (r : Record). r.key) (take i rs) (drop (suc i) rs)))
          (ascending_remove (keys_of rs) i leaf.ascends);
    }

pub leaf_take : (rs : List Record) (n : ℕ) → IsLeaf rs → 1 ≤ n → n ≤ length rs → IsLeaf (take n rs)
leaf_take rs n leaf some lt =
    let many = length-take-le n rs lt in
    record {
      fit = fit_take rs n leaf.fit;
      least = omega (arith, many);
      most = omega (arith, many, leaf.most);
      ascends = subst (λ l. is_ascending l ≡ true) (take-map (λ (r : Record). r.key) n rs) (ascending_take (keys_of rs) n leaf.ascends);
    }

pub leaf_drop : (rs : List Record) (n : ℕ) → IsLeaf rs → n < length rs → IsLeaf (drop n rs)
leaf_drop rs n leaf lt =
    let many = length-drop n rs in
    record {
      fit = fit_drop rs n leaf.fit;
      least = omega (arith, many);
      most = omega (arith, many, leaf.most);
      ascends = subst (λ l. is_ascending l ≡ true) (drop-map (λ (r : Record). r.key) n rs) (ascending_drop (keys_of rs) n leaf.ascends);
    }

-- A record is put in.
pub insert_page : (bytes mid new piece : List ℕ) (rs : List Record) (i n : ℕ) (r : Record) → IsLeafPage bytes rs → n ≡ length rs → RecordFits r
    → i ≤ length rs → length rs < 144 → is_ascending (keys_of (insert rs i r)) ≡ true → piece ≡ record_bytes r
    → mid ≡ take (64 + 28 * i) bytes ++ (piece ++ (slice_range bytes (64 + 28 * i) (64 + 28 * n) ++ drop (64 + 28 * n + length piece) bytes))
    → new ≡ take 2 mid ++ (to_be_bytes w16 (n + 1) ++ drop 4 mid) → IsLeafPage new (insert rs i r)
insert_page bytes mid new piece rs i n r p count f place room order row made counts =
    let many : n ≡ length rs = count in
    let wide : length (record_bytes r) ≡ 28 = (wide_records (r ∷ []) (f, tt)).0 in
    let width : length piece ≡ 28 = ap length row ∙ wide in
    leaf_page_of (n + 1) new (insert rs i r) (omega (arith, many, length_insert rs i r)) (leaf_insert rs i r p.is_leaf f room order)
    (counted (length rs) (n + 1) mid new (insert rs i r)
    (put_row record_bytes 28 4032 (leaf_head (length rs)) [] bytes mid piece rs i (64 + 28 * i) (64 + 28 * n) r
    (has_records bytes rs p) wide place (omega arith) refl
    (ap (λ m. 64 + 28 * m) many) row
    (made ∙ ap (λ m. take (64 + 28 * i) bytes ++ (piece ++ (slice_range bytes (64 + 28 * i) (64 + 28 * n) ++ drop (64 + 28 * n + m) bytes))) width)) counts)

-- A record is taken out.
pub remove_page : (bytes mid new : List ℕ) (rs : List Record) (i n : ℕ) → IsLeafPage bytes rs → n ≡ length rs → i < length rs → 1 < length rs
    → mid ≡ take (64 + 28 * i) bytes ++ (slice_range bytes (64 + 28 * i + 28) (64 + 28 * n) ++ (replicate 28 0 ++ drop (64 + 28 * n) bytes))
    → new ≡ take 2 mid ++ (to_be_bytes w16 (n - 1) ++ drop 4 mid) → IsLeafPage new (remove rs i)
remove_page bytes mid new rs i n p count place some made counts =
    let many : n ≡ length rs = count in
    leaf_page_of (n - 1) new (remove rs i) (omega (arith, many, length_remove rs i place)) (leaf_remove rs i p.is_leaf some place)
    (counted (length rs) (n - 1) mid new (remove rs i)
    (take_row record_bytes 28 4032 (leaf_head (length rs)) [] bytes mid rs i (64 + 28 * i) (64 + 28 * n) nothing (has_records bytes rs p) place refl
    (ap (λ m. 64 + 28 * m) many) made) counts)

fit_set : (rs : List Record) (i : ℕ) (r : Record) → AllFit rs → RecordFits r → AllFit (set rs i r)
fit_set [] i r f g = f
fit_set (x ∷ rs) zero r f g = (g, f.1)
fit_set (x ∷ rs) (suc i) r f g = (f.0, fit_set rs i r f.1 g)

-- A record takes the place of another.
pub replace_page : (bytes new piece : List ℕ) (rs : List Record) (i : ℕ) (r : Record) → IsLeafPage bytes rs → RecordFits r → i < length rs
    → is_ascending (keys_of (set rs i r)) ≡ true → piece ≡ record_bytes r
    → new ≡ take (64 + 28 * i) bytes ++ (piece ++ drop (64 + 28 * i + length piece) bytes) → IsLeafPage new (set rs i r)
replace_page bytes new piece rs i r p f place order row made =
    let same = length-set rs i r in
    leaf_page_of (length rs) new (set rs i r) (sym same)
    (record {
      fit = fit_set rs i r p.is_leaf.fit f;
      least = omega (arith, same, p.is_leaf.least);
      most = omega (arith, same, p.is_leaf.most);
      ascends = order;
    })
    (set_row record_bytes 28 4032 (leaf_head (length rs)) [] bytes new piece rs i (64 + 28 * i) r (has_records bytes rs p) (wide_records (r ∷ []) (f, tt)).0
    place refl row made)

-- the keys stay where a record takes the place of one with its key
pub keys_stay : (rs : List Record) (i : ℕ) (r found : Record) → slice_get rs i ≡ Some found → found.key ≡ r.key → keys_of (set rs i r) ≡ keys_of rs
keys_stay [] i r found is e = refl
keys_stay (x ∷ rs) zero r found is e = ap (λ k. k ∷ keys_of rs) (sym (ap (λ (s : Record). s.key) (one x found is) ∙ e))
  where
    one : (x y : Record) → Some x ≡ Some y → x ≡ y
    one x y h = cc
keys_stay (x ∷ rs) (suc i) r found is e = ap (λ l. x.key ∷ l) (keys_stay rs i r found is e)

-- The records of another page are added.
pub join_page : (bytes mid new other : List ℕ) (rs ss : List Record) (n m : ℕ) → IsLeafPage bytes rs → IsLeafPage other ss → n ≡ length rs → m ≡ length ss
    → length rs + length ss ≤ 144 → is_ascending (keys_of (rs ++ ss)) ≡ true
    → mid ≡ take (64 + 28 * n) bytes ++ (slice_range other 64 (64 + 28 * m) ++ drop (64 + 28 * n + length (slice_range other 64 (64 + 28 * m))) bytes)
    → new ≡ take 2 mid ++ (to_be_bytes w16 (n + m) ++ drop 4 mid) → IsLeafPage new (rs ++ ss)
join_page bytes mid new other rs ss n m p q count counts room order made e =
    let many : n ≡ length rs = count in
    let more : m ≡ length ss = counts in
    let both = length-append rs ss in
    leaf_page_of (n + m) new (rs ++ ss) (omega (arith, many, more, both))
    (record {
      fit = fit_append rs ss p.is_leaf.fit q.is_leaf.fit;
      least = omega (arith, both, p.is_leaf.least);
      most = omega (arith, both, room);
      ascends = order;
    })
    (counted (length rs) (n + m) mid new (rs ++ ss)
    (add_rows record_bytes 28 4032 (leaf_head (length rs)) [] bytes mid (slice_range other 64 (64 + 28 * m)) rs ss (64 + 28 * n) (has_records bytes rs p)
    (wide_records ss q.is_leaf.fit) (omega (arith, both, room)) (ap (λ k. 64 + 28 * k) many)
    (rows_from record_bytes 28 4032 (leaf_head (length ss)) [] other ss 0 64 (64 + 28 * m) (has_records other ss q) (omega arith) refl
    (ap (λ k. 64 + 28 * k) more)) made) e)

-- The first records stay.
pub keep_page : (bytes mid new : List ℕ) (rs : List Record) (i n : ℕ) → IsLeafPage bytes rs → n ≡ length rs → (1 ≤ i) × (i < length rs)
    → mid ≡ take (64 + 28 * i) bytes ++ (replicate (64 + 28 * n - (64 + 28 * i)) 0 ++ drop (64 + 28 * n) bytes)
    → new ≡ take 2 mid ++ (to_be_bytes w16 i ++ drop 4 mid) → IsLeafPage new (take i rs)
keep_page bytes mid new rs i n p count place made counts =
    let many : n ≡ length rs = count in
    let short : i ≤ length rs = omega (arith, place.1) in
    leaf_page_of i new (take i rs) (sym (length-take-le i rs short)) (leaf_take rs i p.is_leaf place.0 short)
    (counted (length rs) i mid new (take i rs)
    (cut_rows record_bytes 28 4032 (leaf_head (length rs)) [] bytes mid rs i (64 + 28 * i) (64 + 28 * n) (has_records bytes rs p) short refl
    (ap (λ m. 64 + 28 * m) many) made) counts)

-- A page is made of rows.
pub made_page : (new rows : List ℕ) (rs : List Record) (n : ℕ) → IsLeaf rs → n ≡ length rs → rows ≡ flat_map record_bytes rs
    → new ≡ leaf_head n ++ (rows ++ replicate (4032 - length rows) 0) → IsLeafPage new rs
made_page new rows rs n leaf many is made =
    let long : length rows ≡ 28 * length rs = ap length is ∙ wide_length record_bytes 28 rs (wide_records rs leaf.fit) in
    leaf_page_of n new rs many leaf (record {
      wide = wide_records rs leaf.fit;
      fits = omega (arith, leaf.most);
      shape = made ∙ ap (λ m. leaf_head n ++ (rows ++ replicate (4032 - m) 0)) long ∙ ap (λ l. leaf_head n ++ (l ++ replicate (4032 - 28 * length rs) 0)) is
          ∙ ap (λ l. leaf_head n ++ l) (sym (append-nil (area record_bytes 28 4032 rs)));
    })

-- The other records go into a page of their own.
pub rest_page : (bytes new : List ℕ) (rs : List Record) (i n k : ℕ) → IsLeafPage bytes rs → n ≡ length rs → i < length rs → k ≡ n - i
    → new ≡ leaf_head k ++ (slice_range bytes (64 + 28 * i) (64 + 28 * n) ++ replicate (4032 - length (slice_range bytes (64 + 28 * i) (64 + 28 * n))) 0)
    → IsLeafPage new (drop i rs)
rest_page bytes new rs i n k p count place left made =
    let many : n ≡ length rs = count in
    made_page new (slice_range bytes (64 + 28 * i) (64 + 28 * n)) (drop i rs) k (leaf_drop rs i p.is_leaf place) (omega (arith, left, many, length-drop i rs))
    (rows_from record_bytes 28 4032 (leaf_head (length rs)) [] bytes rs i (64 + 28 * i) (64 + 28 * n) (has_records bytes rs p) (omega arith) refl
    (ap (λ m. 64 + 28 * m) many)) made

-- A page is filled behind its first bytes.
pub filled_page : (n : ℕ) (start mid new rows : List ℕ) → start ≡ 1 ∷ 1 ∷ to_be_bytes w16 n
    → mid ≡ take 0 (replicate {A = ℕ} 4096 0) ++ (start ++ drop (0 + length start) (replicate {A = ℕ} 4096 0))
    → new ≡ take 64 mid ++ (rows ++ drop (64 + length rows) mid)
    → new ≡ leaf_head n ++ (rows ++ replicate (4032 - length rows) 0)
filled_page n start mid new rows s m e =
    let shape : mid ≡ leaf_head n ++ replicate {A = ℕ} 4032 0 =
    m ∙ ap (λ l. l ++ drop (0 + length l) (replicate {A = ℕ} 4096 0)) s
    ∙ ap (λ l. (1 ∷ 1 ∷ to_be_bytes w16 n) ++ l) (drop-replicate 4 4096 0 ∙ sym (replicate-append-replicate 60 4032 0))
    ∙ sym (append_assoc (1 ∷ 1 ∷ to_be_bytes w16 n) (replicate 60 0) (replicate 4032 0)) in
    e ∙ ap (λ l. take 64 l ++ (rows ++ drop (64 + length rows) l)) shape
    ∙ ap (λ l. l ++ (rows ++ drop (64 + length rows) (leaf_head n ++ replicate {A = ℕ} 4032 0))) (cut_front (leaf_head n) (replicate 4032 0) 64 refl)
    ∙ ap (λ l. leaf_head n ++ (rows ++ l)) (drop-append-add (leaf_head n) (replicate {A = ℕ} 4032 0) (length rows) ∙ drop-replicate (length rows) 4032 0)

-- Putting in, and then taking the first or leaving them out.
pub take_insert_low : {X : Type 0} (xs : List X) (i n : ℕ) (x : X) → i ≤ n → take (suc n) (insert xs i x) ≡ insert (take n xs) i x
take_insert_low xs zero n x h = refl
take_insert_low xs (suc i) zero x h = absurd (omega arith)
take_insert_low [] (suc i) (suc n) x h = refl
take_insert_low (y ∷ xs) (suc i) (suc n) x h = ap (λ l. y ∷ l) (take_insert_low xs i n x (omega arith))

pub drop_insert_low : {X : Type 0} (xs : List X) (i n : ℕ) (x : X) → i ≤ n → drop (suc n) (insert xs i x) ≡ drop n xs
drop_insert_low xs zero n x h = refl
drop_insert_low xs (suc i) zero x h = absurd (omega arith)
drop_insert_low [] (suc i) (suc n) x h = refl
drop_insert_low (y ∷ xs) (suc i) (suc n) x h = drop_insert_low xs i n x (omega arith)

pub take_insert_high : {X : Type 0} (xs : List X) (i n : ℕ) (x : X) → n ≤ i → n ≤ length xs → take n (insert xs i x) ≡ take n xs
take_insert_high xs i zero x h g = refl
take_insert_high xs zero (suc n) x h g = absurd (omega arith)
take_insert_high [] (suc i) (suc n) x h g = absurd (omega arith)
take_insert_high (y ∷ xs) (suc i) (suc n) x h g = ap (λ l. y ∷ l) (take_insert_high xs i n x (omega arith) (omega arith))

pub drop_insert_high : {X : Type 0} (xs : List X) (i n m : ℕ) (x : X) → i ≡ n + m → n ≤ length xs → drop n (insert xs i x) ≡ insert (drop n xs) m x
drop_insert_high xs i zero m x h g =
    let e : i ≡ m = omega arith in
    ap (λ j. insert xs j x) e
drop_insert_high xs zero (suc n) m x h g = absurd (omega arith)
drop_insert_high [] (suc i) (suc n) m x h g = absurd (omega arith)
drop_insert_high (y ∷ xs) (suc i) (suc n) m x h g = drop_insert_high xs i n m x (omega arith) (omega arith)

-- putting in behind the last
pub insert_last : {X : Type 0} (xs : List X) (n : ℕ) (x : X) → n ≡ length xs → insert xs n x ≡ xs ++ x ∷ []
insert_last [] zero x e = refl
insert_last [] (suc n) x e = refl
insert_last (y ∷ xs) zero x e = absurd (omega arith)
insert_last (y ∷ xs) (suc n) x e = ap (λ l. y ∷ l) (insert_last xs n x (omega arith))

pub keys_take : (rs : List Record) (n : ℕ) → is_ascending (keys_of rs) ≡ true → is_ascending (keys_of (take n rs)) ≡ true
keys_take rs n h = subst (λ l. is_ascending l ≡ true) (take-map (λ (r : Record). r.key) n rs) (ascending_take (keys_of rs) n h)

pub keys_drop : (rs : List Record) (n : ℕ) → is_ascending (keys_of rs) ≡ true → is_ascending (keys_of (drop n rs)) ≡ true
keys_drop rs n h = subst (λ l. is_ascending l ≡ true) (drop-map (λ (r : Record). r.key) n rs) (ascending_drop (keys_of rs) n h)

pub keys_low : (rs : List Record) (i n : ℕ) (r : Record) → i ≤ n → is_ascending (keys_of (insert rs i r)) ≡ true
    → is_ascending (keys_of (insert (take n rs) i r)) ≡ true
keys_low rs i n r h a = subst (λ l. is_ascending (keys_of l) ≡ true) (take_insert_low rs i n r h) (keys_take (insert rs i r) (suc n) a)

pub keys_high : (rs : List Record) (i n m : ℕ) (r : Record) → i ≡ n + m → n ≤ length rs → is_ascending (keys_of (insert rs i r)) ≡ true
    → is_ascending (keys_of (insert (drop n rs) m r)) ≡ true
keys_high rs i n m r e h a = subst (λ l. is_ascending (keys_of l) ≡ true) (drop_insert_high rs i n m r e h) (keys_drop (insert rs i r) n a)

first_of : (ss : List Record) (x : Record) → slice_get ss 0 ≡ Some x → take 1 ss ≡ x ∷ []
first_of [] x h = cc
first_of (s ∷ ss) x h = ap (λ o. option_to_list o) h

-- the first of another list comes behind the last
pub lent_first : (rs ss : List Record) (n : ℕ) (x : Record) → n ≡ length rs → slice_get ss 0 ≡ Some x → insert rs n x ≡ rs ++ take 1 ss
lent_first rs ss n x e h = insert_last rs n x e ∙ ap (λ l. rs ++ l) (sym (first_of ss x h))

pub lent_first_order : (rs ss : List Record) (n : ℕ) (x : Record) → n ≡ length rs → slice_get ss 0 ≡ Some x
    → is_ascending (keys_of (rs ++ ss)) ≡ true → is_ascending (keys_of (insert rs n x)) ≡ true
lent_first_order rs ss n x e h a =
    subst (λ l. is_ascending (keys_of l) ≡ true) (take-append-add rs ss 1 ∙ sym (lent_first rs ss n x e h)) (keys_take (rs ++ ss) (length rs + 1) a)

last_of : {X : Type 0} (ss : List X) (n : ℕ) (x : X) → suc n ≡ length ss → slice_get ss n ≡ Some x → drop n ss ≡ x ∷ []
last_of [] n x e h = cc
last_of (s ∷ []) zero x e h = ap (λ o. option_to_list o) h
last_of (s ∷ t ∷ ss) zero x e h = absurd (omega arith)
last_of (s ∷ ss) (suc n) x e h = last_of ss n x (omega arith) h

-- the last of another list comes in front of the first
pub lent_last : {X : Type 0} (rs ss : List X) (n : ℕ) (x : X) → suc n ≡ length ss → slice_get ss n ≡ Some x → insert rs 0 x ≡ drop n ss ++ rs
lent_last rs ss n x e h = ap (λ l. l ++ rs) (sym (last_of ss n x e h))

pub lent_last_order : (rs ss : List Record) (n : ℕ) (x : Record) → suc n ≡ length ss → slice_get ss n ≡ Some x
    → is_ascending (keys_of (ss ++ rs)) ≡ true → is_ascending (keys_of (insert rs 0 x)) ≡ true
lent_last_order rs ss n x e h a =
    subst (λ l. is_ascending (keys_of l) ≡ true) (drop-append-le n ss rs (omega arith) ∙ sym (lent_last rs ss n x e h)) (keys_drop (ss ++ rs) n a)

past : {X : Type 0} (ss : List X) (n : ℕ) → suc n ≡ length ss → drop (suc n) ss ≡ []
past ss n e = drop_of_length-le ss {i = suc n} (omega (arith, e))

pub remove_last : {X : Type 0} (ss : List X) (n : ℕ) → suc n ≡ length ss → remove ss n ≡ take n ss
remove_last ss n e = ap (λ l. take n ss ++ l) (past ss n e) ∙ append-nil (take n ss)

pub one_leaf : (r : Record) → RecordFits r → IsLeaf (r ∷ [])
one_leaf r f = record { fit = (f, tt); least = omega arith; most = omega arith; ascends = refl }
