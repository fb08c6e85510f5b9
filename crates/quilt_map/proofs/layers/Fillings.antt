-- A region layer of the pixels inside of rings, and what its command is answered.
use Rattle.std.specs.Prelude.{is_none, unwrap_or}
use Rattle.std.specs.List.{list_any}
use Rattle.std.proofs.Common.{◌≡◌, ℕ, ◌+◌, ◌*◌, ◌^◌, ◌%◌, ◌<◌, ◌≤◌, Bool, true, false, ◌||◌, not, List, [], ◌∷◌, take, get_or, slice_get, Option, Some, None}
use Rattle.std.proofs.Common.{refl, sym, ◌∙◌, ap, subst}
use Rattle.std.proofs.lemmas.List.Folds.{list_any_at, list_any_more}
use Rattle.std.proofs.lemmas.Option.{get_or_from_slice_get, slice_get_within}
use Rattle.quilt_types.specs.Layers.{Region, Grid, IsGrid, colours}
use Rattle.quilt_types.specs.Plane.{side}
use Rattle.quilt_types.specs.Polygons.{filled_rings, is_corner}
use Rattle.quilt_types.specs.declared.code.Code.{Code}
use Rattle.quilt_types.specs.declared.code.Code.TheVariants as no
use Rattle.quilt_types.specs.declared.plane.Colour.{Colour}
use Rattle.quilt_types.specs.declared.plane.Corner.{Corner}
use Rattle.quilt_world.specs.declared.disk.Disk as disk
use Rattle.quilt_words.specs.declared.command.Command.TheVariants as commands
use Rattle.quilt_blocks.specs.Raster.{Raster}
use Rattle.quilt_blocks.proofs.Squares.{width}
use Rattle.quilt_region.proofs.GridsFit.{fits_law}
use Rattle.quilt_replies.specs.Answers.{State, Outcome, Refused, answer, unless, exists, too_many, full, with, changed}
use Rattle.quilt_map.specs.Commanding.{Answered}
use Rattle.quilt_map.specs.Making.{AnsweredBy, layer_placed, refused}
use Rattle.quilt_replies.specs.declared.reply.Reply.{Reply}
use Rattle.quilt_map.specs.declared.session.Session.{Session}
use Rattle.quilt_map.proofs.answers.FirstTests.{new_passes, first_true, first_false}
use Rattle.quilt_map.proofs.answers.Outcomes.{nothing_done}
use Rattle.quilt_map.proofs.answers.Placing.{answered_by, placed_none}

abbrev Rings : Type 0
Rings = List (List Corner)

-- whether a corner of some ring is none of a square of this side
abbrev pub leave : ℕ → Rings → Bool
leave wide rings = list_any (list_any (λ k. not (is_corner wide k))) rings

-- a ring has such a corner
pub leave_here : (wide : ℕ) (rings : Rings) (i : ℕ) (ring : List Corner) → slice_get rings i ≡ Some ring
    → list_any (λ k. not (is_corner wide k)) ring ≡ true → leave wide rings ≡ true
leave_here wide rings i ring there out =
    let test : List Corner → Bool = list_any (λ k. not (is_corner wide k)) in
    list_any_at test rings i [] (slice_get_within rings i ring there) (ap test (get_or_from_slice_get rings i ring [] there) ∙ out)

-- or one ring more has none
pub leave_more : (wide : ℕ) (rings : Rings) (i : ℕ) (ring : List Corner) → slice_get rings i ≡ Some ring
    → list_any (λ k. not (is_corner wide k)) ring ≡ false → leave wide (take i rings) ≡ false
    → leave wide (take (i + 1) rings) ≡ false
leave_more wide rings i ring there inside before =
    let test : List Corner → Bool = list_any (λ k. not (is_corner wide k)) in
    let last : test (get_or rings i []) ≡ false = ap test (get_or_from_slice_get rings i ring [] there) ∙ inside in
    list_any_more test rings i [] (slice_get_within rings i ring there) ∙ (λ j. before j || last j)

-- the side of a square as it is computed
pub leave_at : (m n : ℕ) (rings : Rings) (b v : Bool) → m ≡ n → n ≤ 12 → b ≡ leave (1 * 2 ^ m % 65536) rings → b ≡ v → leave (side n) rings ≡ v
leave_at m n rings b v same most is value =
    let here : b ≡ leave (side n) rings = is ∙ ap (λ (k : ℕ). leave (1 * 2 ^ k % 65536) rings) same ∙ ap (λ (k : ℕ). leave k rings) (width n most) in
    sym here ∙ value

-- ---- what the definition answers
module _ (s : State) (a : List ℕ) (c : Colour) where
  abbrev later_tests : Option Rings → List (Bool × Code)
  later_tests rings =
      (is_none rings, no.Rows) ∷ (leave (side s.last.level) (unwrap_or rings []), no.Outside)
      ∷ full s (with s a (Region (filled_rings s.last.level (unwrap_or rings []) c.0))) ∷ []

  abbrev done_with : Rings → Outcome
  done_with rings = changed (with s a (Region (filled_rings s.last.level rings c.0)))

  pub polygon_refusal : (rings : Option Rings) (code : Code)
      → ((rs : List (Bool × Code)) (done : Outcome) → unless (exists s a ∷ too_many s ∷ rs) s done ≡ refused s code)
      → answer s (commands.Polygon a c rings) ≡ nothing_done s (Refused code)
  unfolding answer
  polygon_refusal rings code h = h (later_tests rings) (done_with (unwrap_or rings []))

  module _ (passes : ((exists s a).0 ≡ false) × ((too_many s).0 ≡ false)) where
    later : (rings : Option Rings) → answer s (commands.Polygon a c rings) ≡ unless (later_tests rings) s (done_with (unwrap_or rings []))
    unfolding answer
    later rings = new_passes s a (later_tests rings) (done_with (unwrap_or rings [])) passes

    pub polygon_missing : (rings : Option Rings) → rings ≡ None → answer s (commands.Polygon a c rings) ≡ nothing_done s (Refused no.Rows)
    polygon_missing rings none = ap (λ (o : Option Rings). answer s (commands.Polygon a c o)) none ∙ later None

    module _ (more : Option Rings) (rings : Rings) (there : more ≡ Some rings) where
      last_tests : List (Bool × Code)
      last_tests = full s (with s a (Region (filled_rings s.last.level rings c.0))) ∷ []

      pub polygon_outside : leave (side s.last.level) rings ≡ true → answer s (commands.Polygon a c more) ≡ nothing_done s (Refused no.Outside)
      unfolding last_tests
      polygon_outside out = ap (λ (o : Option Rings). answer s (commands.Polygon a c o)) there ∙ later (Some rings)
          ∙ first_true (leave (side s.last.level) rings) no.Outside last_tests s (done_with rings) out

      pub polygon_done : leave (side s.last.level) rings ≡ false
          → answer s (commands.Polygon a c more) ≡ layer_placed s a (Region (filled_rings s.last.level rings c.0))
      unfolding last_tests
      polygon_done inside = ap (λ (o : Option Rings). answer s (commands.Polygon a c o)) there ∙ later (Some rings)
          ∙ first_false (leave (side s.last.level) rings) no.Outside last_tests s (done_with rings) inside

-- ---- the list of the region
module _ (s : State) (c : Colour) (rings : Rings) (list : Raster) (n : ℕ) (is : list ≡ record { level = n; grid = filled_rings n rings c.0 })
    (same : n ≡ s.last.level) where
  pub filled_level : list.level ≡ s.last.level
  filled_level = ap (λ (l : Raster). l.level) is ∙ same

  filled_grid : list.grid ≡ filled_rings s.last.level rings c.0
  filled_grid = ap (λ (l : Raster). l.grid) is ∙ ap (λ (k : ℕ). filled_rings k rings c.0) same

  pub filled_fits : c.0 < colours s.last.format → IsGrid s.last.format s.last.level list.grid
  filled_fits low = subst (λ (g : Grid). IsGrid s.last.format s.last.level g) (sym filled_grid) (fits_law.filled_fits s.last.format s.last.level rings c.0 low)

module _ {W : Type 0} {D : disk.Ghosts W} where
  pub polygon_answered : (old new : Session W D) (s : State) (a : List ℕ) (c : Colour) (more : Option Rings) (rings : Rings) (list : Raster) (n : ℕ)
      (reply : Reply) → more ≡ Some rings
      → list ≡ record { level = n; grid = filled_rings n rings c.0 } → n ≡ s.last.level → ((exists s a).0 ≡ false) × ((too_many s).0 ≡ false)
      → leave (side s.last.level) rings ≡ false
      → AnsweredBy s (layer_placed s a (Region list.grid)) old new reply → Answered s (commands.Polygon a c more) old new reply
  polygon_answered old new s a c more rings list n reply there is same passes inside by =
      let layer = Region (filled_rings s.last.level rings c.0) in
      answered_by {D = D} s (commands.Polygon a c more) (layer_placed s a layer) old new reply (polygon_done s a c passes more rings there inside)
      (placed_none s a layer) refl
      (subst (λ (g : Grid). AnsweredBy s (layer_placed s a (Region g)) old new reply) (filled_grid s c rings list n is same) by)
