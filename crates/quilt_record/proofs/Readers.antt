-- A record that spells a fact is read as that fact alone.
use Rattle.std.proofs.Common.{◌≡◌, ℕ, ◌+◌, ◌*◌, ◌/◌, ◌%◌, ◌^◌, ◌<◌, ◌≤◌, [], ◌∷◌, Option, Some, None, sym, ◌∙◌, ap, subst, arith}
use Rattle.std.specs.Prelude.{true, unwrap_or, IfSome}
use Rattle.quilt_types.specs.declared.plane.Block.{Block}
use Rattle.quilt_types.specs.Plane.{IsBlock, is_pixel}
use Rattle.quilt_types.specs.declared.plane.Point.{Point}
use Rattle.quilt_types.specs.declared.plane.Seg.{Seg}
use Rattle.quilt_types.specs.Facts.{HasColour, IsSegment}
use Rattle.std.proofs.lemmas.Nat.{from_be_bytes-to_be_bytes_2, from_be_bytes-to_be_bytes_4}
use Rattle.std.proofs.lemmas.Option.{some_pair_parts}
use Rattle.quilt_record.specs.declared.key.Key.{Key}
use Rattle.quilt_record.specs.declared.record.Record.{Record}
use Rattle.quilt_types.specs.Bytes.{filled}
use Rattle.quilt_record.specs.Records.{block_key, point_item, record_of}
use Rattle.quilt_record.specs.Blocks.{IsNamed}
use Rattle.quilt_record.proofs.BlockKeys.{pixel_below}
use Rattle.quilt_record.specs.Canonical.{IsRecordOf, point_fact, pair_fact}
use Rattle.quilt_record.specs.Values.{colour_of, held_of, segment_of}
use Rattle.quilt_record.specs.Parts.{point_value, point_under, pair_under, segment_value, segment_under}

pub key_named : (n layer part : ℕ) (b : Block) (item : ℕ) (k : Key) → 1 ≤ layer → layer ≤ 255 → IsBlock n b
    → k ≡ block_key n layer part b item → IsNamed n k layer b
key_named n layer part b item k least most block e = record {
  least = least;
  most = most;
  same = ap (λ (j : Key). j.layer) e;
  of = record { block = block; code = ap (λ (j : Key). j.code) e; depth = ap (λ (j : Key). j.depth) e };
}

pub region_named : (n : ℕ) (r : Record) (layer : ℕ) (b : Block) (c : ℕ) → IsRecordOf n 0 r layer (HasColour b c) → IsNamed n r.key layer b
region_named n r layer b c f = key_named n layer 1 b 0 r.key f.least f.most f.fits (ap (λ (s : Record). s.key) (f.written []))

pub region_colour : (n : ℕ) (r : Record) (layer : ℕ) (b : Block) (c : ℕ) → IsRecordOf n 0 r layer (HasColour b c) → colour_of r.value ≡ c
region_colour n r layer b c f =
    let both : c % 256 + 256 * (c / 256) ≡ c = omega arith in
    ap (λ (s : Record). colour_of s.value) (f.written []) ∙ both

-- a record under the key of a block, with the part of a region layer, the item 0 and the value of a colour
pub region_under : (n : ℕ) (r : Record) (layer : ℕ) (b : Block) (c : ℕ) → IsNamed n r.key layer b
    → record { key = record r.key { part = 1; item = 0 }; value = filled 16 (c % 256 ∷ c / 256 ∷ []) } ≡ r
    → IsRecordOf n 0 r r.key.layer (HasColour b c)
region_under n r layer b c h e = record {
  least = subst (λ l. 1 ≤ l) (sym h.same) h.least;
  most = subst (λ l. l ≤ 255) (sym h.same) h.most;
  fits = h.of.block;
  written = λ name. sym e ∙ (λ i. record {
    key = record { layer = r.key.layer; part = 1; code = h.of.code i; depth = h.of.depth i; item = 0 };
    value = filled 16 (c % 256 ∷ c / 256 ∷ []);
  });
}

-- and the record of a colour is such a one
pub under_region : (n : ℕ) (r : Record) (layer : ℕ) (b : Block) (c d : ℕ) → IsRecordOf n 0 r layer (HasColour b c) → d ≡ c
    → record { key = record r.key { part = 1; item = 0 }; value = filled 16 (d % 256 ∷ d / 256 ∷ []) } ≡ r
under_region n r layer b c d f same =
    let part : 1 ≡ r.key.part = sym (ap (λ (s : Record). s.key.part) (f.written [])) in
    let item : 0 ≡ r.key.item = sym (ap (λ (s : Record). s.key.item) (f.written [])) in
    let value : filled 16 (c % 256 ∷ c / 256 ∷ []) ≡ r.value = sym (ap (λ (s : Record). s.value) (f.written [])) in
    ap (λ v. let made : Record = record { key = record r.key { part = 1; item = 0 }; value = filled 16 (v % 256 ∷ v / 256 ∷ []) } in made) same
    ∙ (λ i. record { key = record r.key { part = part i; item = item i }; value = value i })

pub point_named : (n capacity : ℕ) (r : Record) (layer : ℕ) (b : Block) (held : Option Point)
    → IsRecordOf n capacity r layer (point_fact b held) → IsNamed n r.key layer b
point_named n capacity r layer b None f = key_named n layer 2 b 0 r.key f.least f.most f.fits (ap (λ (s : Record). s.key) (f.written []))
point_named n capacity r layer b (Some p) f =
    key_named n layer 2 b (point_item capacity p.at) r.key f.least f.most f.fits.0 (ap (λ (s : Record). s.key) (f.written []))

pub point_held : (n capacity : ℕ) (r : Record) (layer : ℕ) (b : Block) (held : Option Point) → n ≤ 12
    → IsRecordOf n capacity r layer (point_fact b held) → held_of r.value ≡ held
point_held n capacity r layer b None h f = ap (λ (s : Record). held_of s.value) (f.written [])
point_held n capacity r layer b (Some p) h f =
    let small = pixel_below n p.at h f.fits.1 in
    let in_x = small.0 in
    let in_y = small.1 in
    let x = from_be_bytes-to_be_bytes_2 p.at.x (omega arith) in
    let y = from_be_bytes-to_be_bytes_2 p.at.y (omega arith) in
    let label = from_be_bytes-to_be_bytes_4 p.label f.fits.2 in
    ap (λ (s : Record). held_of s.value) (f.written []) ∙ (λ i. Some (record { at = record { y = y i; x = x i }; label = label i }))

pub point_inside : (n capacity : ℕ) (r : Record) (layer : ℕ) (b : Block) (held : Option Point) → IsRecordOf n capacity r layer (point_fact b held)
    → IfSome held (λ p. is_pixel n p.at ≡ true)
point_inside n capacity r layer b None f = tt
point_inside n capacity r layer b (Some p) f = f.fits.1

-- a record that has the part, the item and the value of a point under the key of a block, or those of none
pub point_by_parts : (n capacity : ℕ) (r : Record) (layer : ℕ) (b : Block) (held : Option Point) → IsNamed n r.key layer b
    → IfSome held (λ p. is_pixel n p.at ≡ true) → IfSome held (λ p. p.label < 2 ^ 32) → r ≡ point_under capacity r.key held
    → IsRecordOf n capacity r r.key.layer (point_fact b held)
point_by_parts n capacity r layer b None h inside small e = record {
  least = subst (λ l. 1 ≤ l) (sym h.same) h.least;
  most = subst (λ l. l ≤ 255) (sym h.same) h.most;
  fits = h.of.block;
  written = λ name. e ∙ (λ i. record {
    key = record { layer = r.key.layer; part = 2; code = h.of.code i; depth = h.of.depth i; item = 0 };
    value = filled 16 [];
  });
}
point_by_parts n capacity r layer b (Some p) h inside small e = record {
  least = subst (λ l. 1 ≤ l) (sym h.same) h.least;
  most = subst (λ l. l ≤ 255) (sym h.same) h.most;
  fits = (h.of.block, inside, small);
  written = λ name. e ∙ (λ i. record {
    key = record { layer = r.key.layer; part = 2; code = h.of.code i; depth = h.of.depth i; item = point_item capacity p.at };
    value = point_value p;
  });
}

-- and the record of a point, or of none, has them
pub point_parts : (n capacity : ℕ) (r : Record) (layer : ℕ) (b : Block) (held read : Option Point) → IsRecordOf n capacity r layer (point_fact b held)
    → read ≡ held → r ≡ point_under capacity r.key read
point_parts n capacity r layer b None read f same =
    let part : r.key.part ≡ 2 = ap (λ (s : Record). s.key.part) (f.written []) in
    let item : r.key.item ≡ 0 = ap (λ (s : Record). s.key.item) (f.written []) in
    let value : r.value ≡ filled 16 [] = ap (λ (s : Record). s.value) (f.written []) in
    (λ i. record { key = record r.key { part = part i; item = item i }; value = value i }) ∙ ap (point_under capacity r.key) (sym same)
point_parts n capacity r layer b (Some p) read f same =
    let part : r.key.part ≡ 2 = ap (λ (s : Record). s.key.part) (f.written []) in
    let item : r.key.item ≡ point_item capacity p.at = ap (λ (s : Record). s.key.item) (f.written []) in
    let value : r.value ≡ point_value p = ap (λ (s : Record). s.value) (f.written []) in
    (λ i. record { key = record r.key { part = part i; item = item i }; value = value i }) ∙ ap (point_under capacity r.key) (sym same)

pub pair_named : (n : ℕ) (r : Record) (layer : ℕ) (b : Block) (id : Option ℕ) → IsRecordOf n 0 r layer (pair_fact b id) → IsNamed n r.key layer b
pair_named n r layer b None f = key_named n layer 3 b 0 r.key f.least f.most f.fits (ap (λ (s : Record). s.key) (f.written []))
pair_named n r layer b (Some id) f = key_named n layer 3 b id r.key f.least f.most f.fits.0 (ap (λ (s : Record). s.key) (f.written []))

-- a record that has the part, the item and the value of a segment's id under the key of a block, or those of none
pub pair_by_parts : (n : ℕ) (r : Record) (layer : ℕ) (b : Block) (id : Option ℕ) → IsNamed n r.key layer b → IfSome id (λ m. m < 2 ^ 32)
    → r ≡ pair_under r.key id → IsRecordOf n 0 r r.key.layer (pair_fact b id)
pair_by_parts n r layer b None h small e = record {
  least = subst (λ l. 1 ≤ l) (sym h.same) h.least;
  most = subst (λ l. l ≤ 255) (sym h.same) h.most;
  fits = h.of.block;
  written = λ name. e ∙ (λ i. record {
    key = record { layer = r.key.layer; part = 3; code = h.of.code i; depth = h.of.depth i; item = 0 };
    value = filled 16 [];
  });
}
pair_by_parts n r layer b (Some id) h small e = record {
  least = subst (λ l. 1 ≤ l) (sym h.same) h.least;
  most = subst (λ l. l ≤ 255) (sym h.same) h.most;
  fits = (h.of.block, small);
  written = λ name. e ∙ (λ i. record {
    key = record { layer = r.key.layer; part = 3; code = h.of.code i; depth = h.of.depth i; item = id };
    value = filled 16 (1 ∷ []);
  });
}

-- and the record of an id, or of none, has them
pub pair_parts : (n : ℕ) (r : Record) (layer : ℕ) (b : Block) (id : Option ℕ) → IsRecordOf n 0 r layer (pair_fact b id) → r ≡ pair_under r.key id
pair_parts n r layer b None f =
    let part : r.key.part ≡ 3 = ap (λ (s : Record). s.key.part) (f.written []) in
    let item : r.key.item ≡ 0 = ap (λ (s : Record). s.key.item) (f.written []) in
    let value : r.value ≡ filled 16 [] = ap (λ (s : Record). s.value) (f.written []) in
    λ i. record { key = record r.key { part = part i; item = item i }; value = value i }
pair_parts n r layer b (Some id) f =
    let part : r.key.part ≡ 3 = ap (λ (s : Record). s.key.part) (f.written []) in
    let item : r.key.item ≡ id = ap (λ (s : Record). s.key.item) (f.written []) in
    let value : r.value ≡ filled 16 (1 ∷ []) = ap (λ (s : Record). s.value) (f.written []) in
    λ i. record { key = record r.key { part = part i; item = item i }; value = value i }

pub segment_ends : (n : ℕ) (r : Record) (layer id : ℕ) (s : Seg) → IsRecordOf n 0 r layer (IsSegment id s) → segment_of r.value ≡ s
segment_ends n r layer id s f =
    let x1 = from_be_bytes-to_be_bytes_2 s.x1 f.fits.1 in
    let y1 = from_be_bytes-to_be_bytes_2 s.y1 f.fits.2 in
    let x2 = from_be_bytes-to_be_bytes_2 s.x2 f.fits.3 in
    let y2 = from_be_bytes-to_be_bytes_2 s.y2 f.fits.4 in
    ap (λ (t : Record). segment_of t.value) (f.written []) ∙ (λ i. record { x1 = x1 i; y1 = y1 i; x2 = x2 i; y2 = y2 i })

pub segment_key : (n : ℕ) (r : Record) (layer id : ℕ) (s : Seg) → IsRecordOf n 0 r layer (IsSegment id s) → (r.key.layer ≡ layer) × (r.key.item ≡ id)
segment_key n r layer id s f = (ap (λ (t : Record). t.key.layer) (f.written []), ap (λ (t : Record). t.key.item) (f.written []))

-- a record that has the part, the place and the value of a segment
pub segment_by_parts : (n : ℕ) (r : Record) (s : Seg) → 1 ≤ r.key.layer → r.key.layer ≤ 255 → r.key.item < 2 ^ 32
    → (s.x1 < 2 ^ 16) × (s.y1 < 2 ^ 16) × (s.x2 < 2 ^ 16) × (s.y2 < 2 ^ 16) → r ≡ segment_under r.key s
    → IsRecordOf n 0 r r.key.layer (IsSegment r.key.item s)
segment_by_parts n r s least most small fits e = record { least = least; most = most; fits = (small, fits.0, fits.1, fits.2, fits.3); written = λ name. e }

-- and the record of a segment has them
pub segment_parts : (n : ℕ) (r : Record) (layer id : ℕ) (s read : Seg) → IsRecordOf n 0 r layer (IsSegment id s) → read ≡ s → r ≡ segment_under r.key read
segment_parts n r layer id s read f same =
    let part : r.key.part ≡ 4 = ap (λ (t : Record). t.key.part) (f.written []) in
    let code : r.key.code ≡ 0 = ap (λ (t : Record). t.key.code) (f.written []) in
    let depth : r.key.depth ≡ 0 = ap (λ (t : Record). t.key.depth) (f.written []) in
    let value : r.value ≡ segment_value s = ap (λ (t : Record). t.value) (f.written []) in
    (λ i. record { key = record r.key { part = part i; code = code i; depth = depth i }; value = value i }) ∙ ap (segment_under r.key) (sym same)
