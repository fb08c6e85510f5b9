-- A region layer that is painted, as a plan of the work, and what its command is answered.
use Rattle.std.specs.Prelude.{if◌then◌else◌}
use Rattle.std.proofs.Common.{◌≡◌, ⊎_elim, ℕ, ◌+◌, ◌<◌, min, nat_lt, nat_le, Bool, true, false, ◌&&◌, ◌||◌, not, List, [], ◌∷◌, Option, Some, is_some, refl}
use Rattle.std.proofs.Common.{sym, ◌∙◌, ap, subst, arith}
use Rattle.std.proofs.lemmas.Bool.{cases_lt, lt-ltb, le-ltb, lt-leb, le-leb}
use Rattle.std.specs.FinMap as finmap
use Rattle.quilt_types.specs.Algebra.{painted}
use Rattle.quilt_types.specs.Facts.{changes}
use Rattle.quilt_types.specs.Layers.{Layer, Map, Region, Grid, IsGrid, colours}
use Rattle.quilt_types.specs.Plane.{side, is_pixel, is_window}
use Rattle.quilt_types.specs.declared.code.Code.{Code}
use Rattle.quilt_types.specs.declared.code.Code.TheVariants as no
use Rattle.quilt_types.specs.declared.plane.Colour.{Colour}
use Rattle.quilt_types.specs.declared.plane.Pixel.{Pixel}
use Rattle.quilt_types.specs.declared.plane.Window.{Window}
use Rattle.quilt_world.specs.declared.disk.Disk as disk
use Rattle.quilt_words.specs.declared.command.Command.TheVariants as commands
use Rattle.quilt_record.specs.declared.edits.Edits.{Edits}
use Rattle.quilt_record.specs.declared.entry.Entry.{Entry}
use Rattle.quilt_record.specs.Records.{Numbering}
use Rattle.quilt_spell.specs.Catalogued.{IsCatalogOf}
use Rattle.quilt_spell.specs.Written.{number_of}
use Rattle.quilt_region.specs.Plans.{ReplacesGrid}
use Rattle.quilt_region.specs.Regions.{HasRegion}
use Rattle.quilt_region.proofs.GridsFit.{fits_law}
use Rattle.quilt_region.proofs.plans.RegionLaws.{changes_law}
use Rattle.quilt_edition.specs.declared.book.Book.{Book}
use Rattle.quilt_replies.specs.Answers.{State, Outcome, Refused, answer, unless, unknown, unless_region, window_outside, full, changed, with, grid, grid_in}
use Rattle.quilt_map.specs.Asking.{IsRegionAt, IsRefusedFirst, IsStill}
use Rattle.quilt_map.specs.Commanding.{Answered}
use Rattle.quilt_map.specs.Making.{AnsweredBy, layer_placed}
use Rattle.quilt_map.specs.Painting.{IsRegionIn}
use Rattle.quilt_map.specs.Planning.{IsAmendment}
use Rattle.quilt_map.specs.Sessions.{IsAtState, told_of, tree_in, last_count}
use Rattle.quilt_replies.specs.States.{Tells, after_outcome}
use Rattle.quilt_replies.specs.declared.reply.Reply as replies
use Rattle.quilt_map.specs.declared.session.Session.{Session}
use Rattle.quilt_map.proofs.plans.Amends.{amendment, mid_at}
use Rattle.quilt_map.proofs.answers.Answered.{has_region, level_is}
use Rattle.quilt_map.proofs.answers.Asked.{layer_is}
use Rattle.quilt_map.proofs.states.ChangeSteps.{at_most, at_spelled}
use Rattle.quilt_map.proofs.states.Moving.{IsLawful, with_book}
use Rattle.quilt_map.proofs.answers.Outcomes.{nothing_done}
use Rattle.quilt_map.proofs.answers.Placing.{placed_none, answered_by}
use Rattle.quilt_map.proofs.answers.FirstTests.{region_refused, region_passes, first_true, first_false}

-- the layer that was found, under each numbering that the entries give
pub region_in : (layers : Map) (numbers : Numbering) (es entries : List Entry) (name : List ℕ) (number : ℕ) → es ≡ entries → IsCatalogOf layers numbers entries
    → ((m : Map) (k : Numbering) → IsCatalogOf m k es → IsRegionAt m k name number) → (g : Grid) × IsRegionIn layers entries name number g
region_in layers numbers es entries name number same catalog found =
    let under = λ (k : Numbering) (c : IsCatalogOf layers k entries). found layers k (subst (IsCatalogOf layers k) (sym same) c) in
    let first = under numbers catalog in
    (first.grid, record { got = first.got; numbered = λ k c. (under k c).numbered })

-- ---- the plan
module _ {W : Type 0} {D : disk.Ghosts W} (session : Session W D) (s : State) (at : IsAtState session s) (name : List ℕ) (number : ℕ) (g : Grid)
    (is : IsRegionIn s.work session.catalog name number g) where
  here : number ≡ number_of at.work.numbers name
  here = is.numbered at.work.numbers at.work.catalog

  pub as_region : IsRegionAt s.work at.work.numbers name number
  as_region = record { grid = g; got = is.got; numbered = here }

  pub region_there : HasRegion (told_of session.book) (tree_in session.book.work) number session.book.work.level g
  unfolding as_region
  region_there = has_region {D = D} session s at name number as_region

  -- its grid is one of the format
  pub region_grid : IsGrid s.last.format s.last.level g
  region_grid = layer_is s.last.format s.last.level s.work (at_spelled {D = D} session s at).map name (Region g) is.got

  pub painted_grid : (w : Window) (c : ℕ) → c < colours s.last.format → IsGrid s.last.format s.last.level (painted s.last.level g w c)
  painted_grid w c low = fits_law.painted_fits s.last.format s.last.level g w c region_grid low

  -- a region layer becomes another grid
  pub region_amendment : (h : Grid) (edits : Edits) → IsGrid s.last.format s.last.level h → ReplacesGrid s.last.level number g h edits
      → IsAmendment s at.work.numbers session.catalog name number (Region h) edits.remove edits.add
  region_amendment h edits fits leads =
      amendment {D = D} session s at name number (Region g) (Region h) is.got here refl refl fits edits.remove edits.add
      (changes_law s.last.format s.last.level name number g h edits (at_most {D = D} session s at) region_grid fits leads)

-- ---- once the layer was read
module _ {W : Type 0} {D : disk.Ghosts W} (old : Session W D) (s : State) (at : IsAtState old s) (b : Book W D) (still : IsStill old.book b)
    (law : IsLawful (D.size b.world) (D.told b.world)) where
  pub mid_amendment : (name : List ℕ) (number : ℕ) (g : Grid) → IsRegionIn s.work old.catalog name number g → (next : ℕ → Grid → Grid)
      → IsGrid s.last.format s.last.level (next s.last.level g)
      → (edits : Edits) → ((h : Grid) → HasRegion (told_of old.book) (tree_in old.book.work) number old.book.work.level h
      → ReplacesGrid old.book.work.level number h (next old.book.work.level h) edits)
      → IsAmendment s (mid_at old s at b still law).work.numbers old.catalog name number (Region (next s.last.level g)) edits.remove edits.add
  mid_amendment name number g is next fits edits leads =
      region_amendment {D = D} (with_book old b) s (mid_at old s at b still law) name number g is (next s.last.level g) edits fits
      (subst (λ (k : ℕ). ReplacesGrid k number g (next k g) edits) (level_is {D = D} old s at) (leads g (region_there {D = D} old s at name number g is)))

-- ---- what the definition answers
module _ (s : State) (a : List ℕ) (w : Window) (c : Colour) where
  work_then : Map
  work_then = with s a (Region (painted s.last.level (grid s a) w c.0))

  pub rect_refused : (code : Code) → IsRefusedFirst s a code → answer s (commands.Rect a w c) ≡ nothing_done s (Refused code)
  unfolding answer work_then
  rect_refused code first = region_refused s a code first (window_outside s w ∷ full s work_then ∷ []) (changed work_then)

  module _ (g : Grid) (got : finmap.get s.work a ≡ Some (Region g)) where
    rect_tests : answer s (commands.Rect a w c) ≡ unless (window_outside s w ∷ full s work_then ∷ []) s (changed work_then)
    unfolding answer work_then
    rect_tests = region_passes s a g (window_outside s w ∷ full s work_then ∷ []) (changed work_then) got

    pub rect_outside : is_window s.last.level w ≡ false → answer s (commands.Rect a w c) ≡ nothing_done s (Refused no.Outside)
    rect_outside out = rect_tests ∙ first_true (window_outside s w).0 no.Outside (full s work_then ∷ []) s (changed work_then) (ap not out)

    pub rect_done : is_window s.last.level w ≡ true → answer s (commands.Rect a w c) ≡ layer_placed s a (Region (painted s.last.level g w c.0))
    unfolding work_then
    rect_done inside =
        rect_tests ∙ first_false (window_outside s w).0 no.Outside (full s work_then ∷ []) s (changed work_then) (ap not inside)
        ∙ ap (λ (o : Option Layer). layer_placed s a (Region (painted s.last.level (grid_in o) w c.0))) got

-- the window of one pixel
abbrev pub pixel_window : Pixel → Window
pixel_window p = record { x = p.x; y = p.y; w = 1; h = 1 }

lt_le : (a b : ℕ) → nat_lt a b ≡ nat_le (a + 1) b
lt_le a b = ⊎_elim (λ lt. lt-ltb a b lt ∙ sym (le-leb (a + 1) b (omega arith))) (λ ge. le-ltb a b ge ∙ sym (lt-leb (a + 1) b (omega arith))) (cases_lt a b)

pub pixel_is : (n : ℕ) (p : Pixel) → is_pixel n p ≡ is_window n (pixel_window p)
pixel_is n p = λ i. lt_le p.x (side n) i && lt_le p.y (side n) i

pub set_as_rect : (s : State) (a : List ℕ) (p : Pixel) (c : Colour) → answer s (commands.Set a p c) ≡ answer s (commands.Rect a (pixel_window p) c)
unfolding answer
set_as_rect s a p c =
    let work = with s a (Region (painted s.last.level (grid s a) (pixel_window p) c.0)) in
    ap (λ (b : Bool). unless (unknown s a ∷ unless_region s a ∷ (not b, no.Outside) ∷ full s work ∷ []) s (changed work)) (pixel_is s.last.level p)

module _ {W : Type 0} {D : disk.Ghosts W} where
  pub rect_answered : (old new : Session W D) (s : State) (a : List ℕ) (w : Window) (c : Colour) (g : Grid) (reply : replies.Reply)
      → finmap.get s.work a ≡ Some (Region g)
      → is_window s.last.level w ≡ true → AnsweredBy s (layer_placed s a (Region (painted s.last.level g w c.0))) old new reply
      → Answered s (commands.Rect a w c) old new reply
  rect_answered old new s a w c g reply got inside by =
      let layer = Region (painted s.last.level g w c.0) in
      answered_by {D = D} s (commands.Rect a w c) (layer_placed s a layer) old new reply (rect_done s a w c g got inside) (placed_none s a layer) refl by

  pub set_answered : (old new : Session W D) (s : State) (a : List ℕ) (p : Pixel) (c : Colour) (reply : replies.Reply)
      → Answered s (commands.Rect a (pixel_window p) c) old new reply
      → Answered s (commands.Set a p c) old new reply
  set_answered old new s a p c reply by =
      let same = sym (set_as_rect s a p c) in record {
        tells = subst (λ (o : Outcome). Tells reply o.reply) same by.tells;
        at = subst (λ (o : Outcome). IsAtState new (after_outcome s o)) same by.at;
        count =
            by.count ∙ ap (λ (o : Outcome). if is_some o.published || false then 0 else min (old.changes + changes s.last.level s.work o.work) last_count) same;
      }
