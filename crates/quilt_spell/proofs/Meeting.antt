-- That the laws say something: each valid map is spelled, the empty one by no records, and each change has a plan.
use Rattle.std.proofs.Common.{◌≡◌, ℕ, ◌+◌, ◌≤◌, List, [], length, Option, Some, None, refl, sym, ◌∙◌, ap, arith, nat_cmp}
use Rattle.std.specs.Cmp.Lexicographic.{slice_cmp}
use Rattle.std.specs.FinMap as finmap
use Rattle.std.proofs.lemmas.List.{length-map}
use Rattle.quilt_types.specs.Layers.{Layer, Map, IsMap}
use Rattle.quilt_types.specs.Facts.{HoldsPoint}
use Rattle.quilt_types.specs.Codes.{code}
use Rattle.quilt_types.specs.declared.plane.Block.{Block}
use Rattle.quilt_types.specs.declared.plane.Pixel.{Pixel}
use Rattle.quilt_record.specs.declared.record.Record.{Record}
use Rattle.quilt_record.specs.Records.{Numbering, records_of, record_of}
use Rattle.quilt_spell.specs.Written.{IsNumbering}
use Rattle.quilt_spell.specs.Spelled.{SpellsUnder}
use Rattle.quilt_spell.specs.Changing.{KeepsCapacity, IsOne, records_alone}
use Rattle.quilt_spell.specs.Stepping.{IsPlaced, IsStep}
use Rattle.quilt_loc.proofs.Members.{Contains-nil}
use Rattle.quilt_spell.proofs.Written.{written_from, written_is, records_ascend}
use Rattle.quilt_spell.proofs.Spelling.{numbered_is}
use Rattle.quilt_spell.proofs.Edits.{alone_apart}
use Rattle.quilt_spell.proofs.Stepping.{old_fits, least_of}

-- each valid map is spelled by its records
pub spelled_exists : (form n : ℕ) (numbers : Numbering) (layers : Map) → n ≤ 12 → IsMap form n layers → IsNumbering layers numbers
    → SpellsUnder form n numbers (records_of n numbers layers) layers
spelled_exists form n numbers layers le h num = record {
  map = h;
  numbering = num;
  ascending = records_ascend form n numbers layers le h num;
  written = λ r. (λ c. written_from n numbers layers r c, λ w. written_is n numbers layers r w);
}

-- the empty map by no records
pub empty_spells : (form n : ℕ) → SpellsUnder form n finmap.empty [] finmap.empty
empty_spells form n =
    let no : (name : List ℕ) (l : Layer) → finmap.get {R = slice_cmp nat_cmp} finmap.empty name ≡ Some l → ⊥ =
    λ name l at. (let z : None ≡ Some l = sym (finmap.get-empty (slice_cmp nat_cmp) name) ∙ at in cc) in
    let none : (name : List ℕ) (k : ℕ) → finmap.get {R = slice_cmp nat_cmp} finmap.empty name ≡ Some k → ⊥ =
    λ name k at. (let z : None ≡ Some k = sym (finmap.get-empty (slice_cmp nat_cmp) name) ∙ at in cc) in
    let zero' : length (finmap.entries {X = Layer} {R = slice_cmp nat_cmp} finmap.empty) ≡ 0 =
    sym (finmap.len-entries finmap.empty) ∙ finmap.len-empty (slice_cmp nat_cmp) Layer in
    let few = finmap.len-empty (slice_cmp nat_cmp) Layer in record {
      map = record {
        few = omega arith;
        named = λ k d lt. absurd (omega arith);
        each = λ k d lt. absurd (omega arith);
      };
      numbering = record {
        has = λ name l at. absurd (no name l at);
        only = λ name k at. absurd (none name k at);
        in_range = λ name k at. absurd (none name k at);
        differ = λ a b k at bt. absurd (none a k at);
      };
      ascending = tt;
      written = λ r. (λ c. absurd (Contains-nil r c), λ w. absurd (no w.name w.layer w.at));
    }

-- as many numbers as layers
pub numbers_len : (layers : Map) (numbers : Numbering) → IsNumbering layers numbers → finmap.len numbers ≡ finmap.len layers
numbers_len layers numbers num =
    finmap.len-entries numbers ∙ sym (length-map (finmap.entries numbers) (λ (e : List ℕ × ℕ). e.0)) ∙ ap length (numbered_is layers numbers num)
    ∙ length-map (finmap.entries layers) (λ (e : List ℕ × Layer). e.0) ∙ sym (finmap.len-entries layers)

-- each change of a layer has a plan
pub plan_exists : (form n : ℕ) (numbers : Numbering) (rs : List Record) (layers : Map) (name : List ℕ) (number : ℕ) (new : Option Layer) → n ≤ 12
    → SpellsUnder form n numbers rs layers
    → IsOne form n new → KeepsCapacity (finmap.get layers name) new → IsPlaced layers numbers name number (finmap.get layers name)
    → IsStep form n layers numbers name number new (records_alone n name number (finmap.get layers name) new)
    (records_alone n name number new (finmap.get layers name))
plan_exists form n numbers rs layers name number new le s fits kept placed =
    let old = finmap.get layers name in
    let least = least_of form n numbers rs layers le s name number new [] [] old refl placed in record {
      fits = fits;
      kept = kept;
      placed = placed;
      leads = record {
        remove = λ r. (λ c. c, λ c. c);
        remove_once = alone_apart form n name number old new le least (old_fits form n numbers rs layers le s name number new [] [] old refl);
        add = λ r. (λ c. c, λ c. c);
        add_once = alone_apart form n name number new old le least fits;
      };
    }

-- Why a layer has to keep its capacity: one fact has two records under two capacities, and `changes` counts facts.
two_items : (b : Block) (p : Pixel) (label : ℕ)
    → ((record_of 1 1 [] 1 (HoldsPoint b p label)).key.item ≡ 0) × ((record_of 1 2 [] 1 (HoldsPoint b p label)).key.item ≡ code p.x p.y + 1)
two_items b p label = (refl, refl)
