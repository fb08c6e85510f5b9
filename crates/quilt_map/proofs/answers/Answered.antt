-- The replies of commands that change nothing, and the state that they leave.
use Rattle.std.proofs.Common.{◌≡◌, ℕ, ◌*◌, ◌≤◌, Bool, true, false, not, List, [], ◌∷◌, Option, Some, None, Result, Ok, Err, refl, sym, ◌∙◌, ap, subst}
use Rattle.std.specs.Prelude.{IfOk, codes, decimal, map, ◌-◌, is_none, unwrap_or, option_map}
use Rattle.std.specs.FinMap as finmap
use Rattle.quilt_types.specs.declared.code.Code.{Code}
use Rattle.quilt_types.specs.declared.code.Code.TheVariants as no
use Rattle.quilt_types.specs.declared.plane.Kind.TheVariants as kinds
use Rattle.quilt_types.specs.declared.plane.Pixel.{Pixel}
use Rattle.quilt_types.specs.declared.plane.Window.{Window}
use Rattle.quilt_types.specs.Facts.{records, quota}
use Rattle.quilt_types.specs.Layers.{Layer, Region, Points, Lines, Grid, IsGrid, colour_at}
use Rattle.quilt_types.specs.Plane.{below, is_pixel, is_window}
use Rattle.quilt_types.specs.Quadtrees.{leaves}
use Rattle.quilt_world.specs.declared.disk.Disk as disk
use Rattle.quilt_record.specs.declared.entry.Entry.{Entry}
use Rattle.quilt_lang.specs.Trials.{spaced}
use Rattle.quilt_words.specs.declared.command.Command.TheVariants as commands
use Rattle.quilt_blocks.specs.Raster.{Raster}
use Rattle.quilt_region.specs.Covers.{AgreesIn}
use Rattle.quilt_region.specs.Regions.{HasRegion}
use Rattle.quilt_spell.specs.Catalogued.{kind_of, IsCatalogOf}
use Rattle.quilt_spell.proofs.Stepping.{spelled_count}
use Rattle.quilt_edition.specs.declared.book.Book.{Book}
use Rattle.quilt_replies.specs.Answers as answers
use Rattle.quilt_replies.specs.Answers.{State, Outcome, Done, Refused, answer, unless, unknown, unless_region, is_region, grid_in, layer_line, leaf_line}
use Rattle.quilt_replies.specs.Answers.{row_line, block_lines, sides_of}
use Rattle.quilt_map.specs.Asking.{IsLayerUnder, IsRegionAt, IsRefusedFirst, IsStill, KeepsAll, HasText}
use Rattle.quilt_replies.specs.Runs.{text_of, is_done}
use Rattle.quilt_map.specs.Sessions.{IsAtWith, IsAtState, told_of, tree_in}
use Rattle.quilt_replies.specs.States.{Tells}
use Rattle.quilt_replies.specs.declared.reply.Reply as replies
use Rattle.quilt_map.specs.declared.session.Session.{Session}
use Rattle.quilt_map.proofs.answers.Asked.{still_here, layer_is}
use Rattle.quilt_map.proofs.answers.Parts.{agrees_at, rows_same}
use Rattle.quilt_map.proofs.states.HeldLayers.{layer_there, layer_number}
use Rattle.quilt_map.proofs.states.Moving.{IsLawful, later_at}

-- ---- what the definition answers
module _ (s : State) (a : List ℕ) where
  pub at_refused : (p : Pixel) (code : Code) → IsRefusedFirst s a code → (answer s (commands.At a p)).reply ≡ Refused code
  unfolding answer
  at_refused p code first = first (answers.outside s p ∷ []) (answers.told s (decimal (colour_at s.last.level (answers.grid s a) p) ∷ []))

  pub show_refused : (w : Window) (code : Code) → IsRefusedFirst s a code → (answer s (commands.Show a w)).reply ≡ Refused code
  unfolding answer
  show_refused w code first =
      first (answers.window_outside s w ∷ []) (answers.told s (map (row_line s.last.format s.last.level (answers.grid s a) w) (below w.h)))

  pub leaves_refused : (code : Code) → IsRefusedFirst s a code → (answer s (commands.Leaves a)).reply ≡ Refused code
  unfolding answer
  leaves_refused code first = first [] (answers.told s (map leaf_line (leaves s.last.level (answers.grid s a))))

  pub blocks_unknown : finmap.get s.work a ≡ None → (answer s (commands.Blocks a)).reply ≡ Refused no.Unknown
  unfolding answer
  blocks_unknown e =
      ap (λ (o : Option Layer).
      (unless ((is_none o, no.Unknown) ∷ []) s (answers.told s (block_lines s.last.level (unwrap_or (option_map (sides_of s.last.level) o) [])))).reply) e

  module _ (g : Grid) (e : finmap.get s.work a ≡ Some (Region g)) where
    at_with : Option Layer → Bool → Pixel → answers.Reply
    at_with o b p =
        (unless ((is_none o, no.Unknown) ∷ (not (is_region o), no.Kind) ∷ (not b, no.Outside) ∷ []) s
        (answers.told s (decimal (colour_at s.last.level (grid_in o) p) ∷ []))).reply

    at_is : (p : Pixel) → (answer s (commands.At a p)).reply ≡ at_with (finmap.get s.work a) (is_pixel s.last.level p) p
    unfolding answer at_with
    at_is p = refl

    pub at_outside : (p : Pixel) → is_pixel s.last.level p ≡ false → (answer s (commands.At a p)).reply ≡ Refused no.Outside
    unfolding at_with
    at_outside p outside = at_is p ∙ (λ i. at_with (e i) (outside i) p)

    pub at_done : (p : Pixel) → is_pixel s.last.level p ≡ true → (answer s (commands.At a p)).reply ≡ Done (decimal (colour_at s.last.level g p) ∷ [])
    unfolding at_with
    at_done p inside = at_is p ∙ (λ i. at_with (e i) (inside i) p)

    show_with : Option Layer → Bool → Window → answers.Reply
    show_with o b w =
        (unless ((is_none o, no.Unknown) ∷ (not (is_region o), no.Kind) ∷ (not b, no.Outside) ∷ []) s
        (answers.told s (map (row_line s.last.format s.last.level (grid_in o) w) (below w.h)))).reply

    show_is : (w : Window) → (answer s (commands.Show a w)).reply ≡ show_with (finmap.get s.work a) (is_window s.last.level w) w
    unfolding answer show_with
    show_is w = refl

    pub show_outside : (w : Window) → is_window s.last.level w ≡ false → (answer s (commands.Show a w)).reply ≡ Refused no.Outside
    unfolding show_with
    show_outside w outside = show_is w ∙ (λ i. show_with (e i) (outside i) w)

    pub show_done : (w : Window) → is_window s.last.level w ≡ true
        → (answer s (commands.Show a w)).reply ≡ Done (map (row_line s.last.format s.last.level g w) (below w.h))
    unfolding show_with
    show_done w inside = show_is w ∙ (λ i. show_with (e i) (inside i) w)

    pub leaves_done : (answer s (commands.Leaves a)).reply ≡ Done (map leaf_line (leaves s.last.level g))
    unfolding answer
    leaves_done =
        ap (λ (o : Option Layer).
        (unless ((is_none o, no.Unknown) ∷ (not (is_region o), no.Kind) ∷ []) s (answers.told s (map leaf_line (leaves s.last.level (grid_in o))))).reply) e

pub layers_done : (s : State) → (answer s commands.Layers).reply ≡ Done (map layer_line (finmap.entries s.work))
unfolding answer
layers_done s = refl

pub records_done : (s : State)
    → (answer s commands.Records).reply ≡ Done (spaced (decimal (records s.last.level s.work) ∷ codes "of" ∷ decimal s.quota ∷ []) ∷ [])
unfolding answer
records_done s = refl

pub edition_done : (s : State) → (answer s commands.Edition).reply ≡ Done (spaced (codes "edition" ∷ decimal s.last.number ∷ []) ∷ [])
unfolding answer
edition_done s = refl

-- ---- a reply of a text
-- the text is that of a reply with this body
pub record IsBodyOf (out : answers.Reply) (text : List ℕ) : Type 0 where
  pub body : List (List ℕ)
  pub answered : out ≡ Done body
  pub written : text ≡ text_of (Done body)

pub text_tells : (out : answers.Reply) (text : List ℕ) → IsBodyOf out text → (text ≡ text_of out) × (is_done out ≡ true)
text_tells out text is = (is.written ∙ ap text_of (sym is.answered), ap is_done is.answered)

pub told_reply : {A E F : Type 0} (At : A → Type 0) (out : A → answers.Reply) (text : Result (List ℕ) E) (r : Result replies.Reply F)
    → IfOk r (HasText text) → ((s : A) → At s → IfOk text (IsBodyOf (out s))) → IfOk r (λ given. (s : A) → At s → Tells given (out s))
told_reply At out (Ok t) (Ok given) has is = λ s at. subst (λ (x : replies.Reply). Tells x (out s)) (sym has) (text_tells (out s) t (is s at))
told_reply At out (Err e) (Ok given) has is = absurd has
told_reply At out text (Err e) has is = tt

-- ---- the session
module _ {W : Type 0} {D : disk.Ghosts W} where
  -- nothing but the last pixel changes
  pub keeps_here : (old : Session W D) (w : Option (List ℕ × Pixel))
      → KeepsAll old (record { book = old.book; catalog = old.catalog; last = old.last; changes = old.changes; warm = w; alloc = old.alloc })
  keeps_here old w = record { book = still_here old.book; catalog = refl; last = refl; changes = refl }

  -- another last pixel leaves the state
  pub warm_at : (old : Session W D) (w : Option (List ℕ × Pixel)) (s : State) → IsAtState old s
      → IsAtState (record { book = old.book; catalog = old.catalog; last = old.last; changes = old.changes; warm = w; alloc = old.alloc }) s
  warm_at old w s at = record {
    tale = at.tale;
    told = at.told;
    lawful = at.lawful;
    ready = at.ready;
    last = at.last;
    pages = at.pages;
    pages_told = at.pages_told;
    work = at.work;
    format = at.format;
    level = at.level;
    quota = at.quota;
    few = at.few;
    bounded = at.bounded;
  }

  -- a book that goes on with the same pages leaves the state
  pub keeps_at : (old : Session W D) (b : Book W D) (w : Option (List ℕ × Pixel)) (s : State) → IsStill old.book b
      → IsLawful (D.size b.world) (D.told b.world) → IsAtState old s
      → IsAtWith (record { book = b; catalog = old.catalog; last = old.last; changes = old.changes; warm = w; alloc = old.alloc }) old.catalog s
  keeps_at old b w s still law at =
      let r = later_at old b old.catalog s still.later still.told still.free still.changed law at in record {
        tale = r.tale;
        told = r.told;
        lawful = r.lawful;
        ready = r.ready;
        last = r.last;
        pages = r.pages;
        pages_told = r.pages_told;
        work = r.work;
        format = r.format;
        level = r.level;
        quota = r.quota;
        few = r.few;
        bounded = r.bounded;
      }

  module _ (old : Session W D) (s : State) (at : IsAtState old s) where
    pub level_is : old.book.work.level ≡ s.last.level
    level_is = at.level ∙ sym at.last.head.level

    pub format_is : old.book.work.format ≡ s.last.format
    format_is = at.format ∙ sym at.last.head.format

    level_fits : old.book.work.level ≤ 12
    level_fits = old.book.next.level.1

    pub catalog_as : (entries : List Entry) → entries ≡ old.catalog → IsCatalogOf s.work at.work.numbers entries
    catalog_as entries same = subst (IsCatalogOf s.work at.work.numbers) (sym same) at.work.catalog

    pub count_is : old.book.work.records ≡ records s.last.level s.work
    count_is =
        sym at.work.whole.number ∙ spelled_count old.book.work.format old.book.work.level at.work.numbers at.work.records s.work level_fits at.work.spelled
        ∙ ap (λ (n : ℕ). records n s.work) level_is

    module _ (name : List ℕ) (number : ℕ) (r : IsRegionAt s.work at.work.numbers name number) where
      pub has_region : HasRegion (told_of old.book) (tree_in old.book.work) number old.book.work.level r.grid
      has_region = layer_there old s at name number (Region r.grid) r.got r.numbered

      pub has_number : 1 ≤ number
      has_number = layer_number old s at name number (Region r.grid) r.got r.numbered

      pub has_grid : IsGrid s.last.format s.last.level r.grid
      has_grid =
          subst (λ (f : ℕ). IsGrid f s.last.level r.grid) format_is
          (subst (λ (n : ℕ). IsGrid old.book.work.format n r.grid) level_is
          (layer_is old.book.work.format old.book.work.level s.work at.work.spelled.map name (Region r.grid) r.got))

      -- the list of its leaves
      pub raster_is : (l : Raster) → ((g : Grid) → HasRegion (told_of old.book) (tree_in old.book.work) number old.book.work.level g
          → l ≡ record { level = old.book.work.level; grid = g }) → l ≡ record { level = s.last.level; grid = r.grid }
      raster_is l is = is r.grid has_region ∙ ap (λ (n : ℕ). record { level = n; grid = r.grid }) level_is

      pub leaves_body : (l : Raster) → ((g : Grid) → HasRegion (told_of old.book) (tree_in old.book.work) number old.book.work.level g
          → l ≡ record { level = old.book.work.level; grid = g })
          → (t : List ℕ) → t ≡ text_of (Done (map leaf_line (leaves l.level l.grid))) → IsBodyOf ((answer s (commands.Leaves name)).reply) t
      leaves_body l is t written = record {
        body = map leaf_line (leaves s.last.level r.grid);
        answered = leaves_done s name r.grid r.got;
        written = written ∙ ap (λ (x : Raster). text_of (Done (map leaf_line (leaves x.level x.grid)))) (raster_is l is);
      }

      pub show_body : (w : Window) (f : ℕ) (l : Raster) → f ≡ old.book.work.format → is_window s.last.level w ≡ true → l.level ≡ old.book.work.level
          → ((g : Grid) → HasRegion (told_of old.book) (tree_in old.book.work) number old.book.work.level g
          → AgreesIn old.book.work.level w g l.grid)
          → (t : List ℕ) → (IsGrid f l.level l.grid → t ≡ text_of (Done (map (row_line f l.level l.grid w) (below w.h))))
          → IsBodyOf ((answer s (commands.Show name w)).reply) t
      show_body w f l same inside size is t written =
          let form : f ≡ s.last.format = same ∙ format_is in
          let level : l.level ≡ s.last.level = size ∙ level_is in
          let agrees = agrees_at old.book.work.level s.last.level w r.grid l.grid level_is (is r.grid has_region) in
          let grid : IsGrid f l.level l.grid =
          subst (λ (k : ℕ). IsGrid f k l.grid) (sym level) (subst (λ (k : ℕ). IsGrid k s.last.level l.grid) (sym form) (agrees.fits s.last.format has_grid)) in
          record {
            body = map (row_line s.last.format s.last.level r.grid w) (below w.h);
            answered = show_done s name r.grid r.got w inside;
            written = written grid ∙ (λ i. text_of (Done (map (row_line (form i) (level i) l.grid w) (below w.h))))
                ∙ ap (λ (rows : List (List ℕ)). text_of (Done rows)) (rows_same s.last.format s.last.level w r.grid l.grid agrees);
          }

      pub at_body : (p : Pixel) (c n : ℕ) → is_pixel s.last.level p ≡ true
          → ((g : Grid) → HasRegion (told_of old.book) (tree_in old.book.work) number old.book.work.level g → c ≡ colour_at old.book.work.level g p)
          → n ≡ c → (t : List ℕ) → t ≡ text_of (Done (decimal n ∷ [])) → IsBodyOf ((answer s (commands.At name p)).reply) t
      at_body p c n inside is same t written = record {
        body = decimal (colour_at s.last.level r.grid p) ∷ [];
        answered = at_done s name r.grid r.got p inside;
        written = written ∙ ap (λ (k : ℕ). text_of (Done (decimal k ∷ []))) (same ∙ is r.grid has_region ∙ ap (λ (k : ℕ). colour_at k r.grid p) level_is);
      }

    -- the layer that was found is a region
    pub region_under : (name : List ℕ) (number : ℕ) → IsLayerUnder s.work at.work.numbers name number kinds.Region
        → IsRegionAt s.work at.work.numbers name number
    region_under name number u =
        let l = only_region u.layer u.kinded in
        record { grid = l.0; got = u.got ∙ ap Some l.1; numbered = u.numbered }
      where
        only_region : (l : Layer) → kinds.Region ≡ kind_of l → (g : Grid) × (l ≡ Region g)
        only_region (Region g) e = (g, refl)
        only_region (Points capacity points) e = cc
        only_region (Lines threshold segs cover) e = cc

    pub records_body : (n pages : ℕ) → n ≡ old.book.work.records → pages ≡ old.book.journal.pages → (t : List ℕ)
        → t ≡ text_of (Done (spaced (decimal n ∷ codes "of" ∷ decimal (64 * (pages - 8)) ∷ []) ∷ []))
        → IsBodyOf ((answer s commands.Records).reply) t
    records_body n pages many size t written =
        let room : 64 * (pages - 8) ≡ s.quota = ap quota size ∙ sym at.quota in
        let all : n ≡ records s.last.level s.work = many ∙ count_is in record {
          body = spaced (decimal (records s.last.level s.work) ∷ codes "of" ∷ decimal s.quota ∷ []) ∷ [];
          answered = records_done s;
          written = written ∙ (λ i. text_of (Done (spaced (decimal (all i) ∷ codes "of" ∷ decimal (room i) ∷ []) ∷ [])));
        }

    pub edition_body : (n : ℕ) → n ≡ old.book.last.edition → (t : List ℕ) → t ≡ text_of (Done (spaced (codes "edition" ∷ decimal n ∷ []) ∷ []))
        → IsBodyOf ((answer s commands.Edition).reply) t
    edition_body n same t written = record {
      body = spaced (codes "edition" ∷ decimal s.last.number ∷ []) ∷ [];
      answered = edition_done s;
      written = written ∙ ap (λ (k : ℕ). text_of (Done (spaced (codes "edition" ∷ decimal k ∷ []) ∷ []))) (same ∙ sym at.last.head.number);
    }

-- a test at a level, by another name
pub test_at : (test : ℕ → Bool) (m n : ℕ) (b v : Bool) → m ≡ n → b ≡ test m → b ≡ v → test n ≡ v
test_at test m n b v same is value = ap test (sym same) ∙ sym is ∙ value
