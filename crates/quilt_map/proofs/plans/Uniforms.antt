-- A region layer of one colour.
use Rattle.std.proofs.Common.{◌≡◌, ℕ, ◌*◌, ◌^◌, ◌<◌, ◌≤◌, Bool, false, List, [], ◌∷◌, ◌++◌, replicate, refl, sym, ◌∙◌, ap, subst}
use Rattle.quilt_types.specs.declared.plane.Block.{Block}
use Rattle.quilt_types.specs.declared.plane.Colour.{Colour}
use Rattle.quilt_types.specs.declared.code.Code.{Code}
use Rattle.quilt_types.specs.declared.code.Code.TheVariants as no
use Rattle.quilt_types.specs.Algebra.{uniform}
use Rattle.quilt_types.specs.Layers.{Region, Grid, IsGrid, colours}
use Rattle.quilt_types.specs.Plane.{whole}
use Rattle.quilt_world.specs.declared.disk.Disk as disk
use Rattle.quilt_blocks.specs.Painting.{Painted}
use Rattle.quilt_blocks.specs.Raster.{Raster}
use Rattle.quilt_blocks.specs.Adding.{AddsColours}
use Rattle.quilt_blocks.proofs.Squares.{whole_at}
use Rattle.quilt_blocks.proofs.Adding.{whole_next, Adds-push, Adds-whole}
use Rattle.quilt_region.proofs.GridsFit.{fits_law}
use Rattle.quilt_words.specs.declared.command.Command.TheVariants as commands
use Rattle.quilt_replies.specs.Answers.{State, Outcome, Refused, answer, unless, exists, too_many, full, with, changed}
use Rattle.quilt_map.specs.Commanding.{Answered}
use Rattle.quilt_map.specs.Making.{AnsweredBy, layer_placed, refused}
use Rattle.quilt_replies.specs.declared.reply.Reply.{Reply}
use Rattle.quilt_map.specs.declared.session.Session.{Session}
use Rattle.quilt_map.proofs.answers.Outcomes.{nothing_done}
use Rattle.quilt_map.proofs.answers.Placing.{answered_by, placed_none}
use Rattle.quilt_map.proofs.answers.FirstTests.{first_false}

-- the whole square in one colour
pub square_added : (n c : ℕ) (b : Block) (old new : Painted) → n ≤ 12 → b ≡ whole n → old ≡ record { level = n; colours = [] }
    → new ≡ record { level = old.level; colours = old.colours ++ replicate (b.side * b.side) c }
    → AddsColours n (λ p. c) (4 ^ n) (record { level = n; colours = [] }) new
square_added n c b old new le is start more =
    Adds-whole n n (λ p. c) b old new refl is start
    (Adds-push n (λ p. c) old new b c le (whole_at n n b refl is) (whole_next n b old is start) (λ p h. refl) more)

region_answer : (s : State) (name : List ℕ) (c : Colour) → (exists s name).0 ≡ false → (too_many s).0 ≡ false
    → answer s (commands.Region name c) ≡ layer_placed s name (Region (uniform s.last.level c.0))
unfolding answer
region_answer s name c away few =
    let work = with s name (Region (uniform s.last.level c.0)) in
    first_false (exists s name).0 no.Exists (too_many s ∷ full s work ∷ []) s (changed work) away
    ∙ first_false (too_many s).0 no.Layers (full s work ∷ []) s (changed work) few

pub region_refusal : (s : State) (name : List ℕ) (c : Colour) (code : Code)
    → ((rs : List (Bool × Code)) (done : Outcome) → unless (exists s name ∷ too_many s ∷ rs) s done ≡ refused s code)
    → answer s (commands.Region name c) ≡ nothing_done s (Refused code)
unfolding answer
region_refusal s name c code h = let work = with s name (Region (uniform s.last.level c.0)) in h (full s work ∷ []) (changed work)

-- the grid of the list fits, and is that of the state's level
pub list_level : (s : State) (c : Colour) (list : Raster) (n : ℕ) → list ≡ record { level = n; grid = uniform n c.0 } → n ≡ s.last.level
    → list.level ≡ s.last.level
list_level s c list n is same = ap (λ (l : Raster). l.level) is ∙ same

list_grid : (s : State) (c : Colour) (list : Raster) (n : ℕ) → list ≡ record { level = n; grid = uniform n c.0 } → n ≡ s.last.level
    → list.grid ≡ uniform s.last.level c.0
list_grid s c list n is same = ap (λ (l : Raster). l.grid) is ∙ ap (λ (k : ℕ). uniform k c.0) same

pub list_fits : (s : State) (c : Colour) (list : Raster) (n : ℕ) → list ≡ record { level = n; grid = uniform n c.0 } → n ≡ s.last.level
    → c.0 < colours s.last.format → IsGrid s.last.format s.last.level list.grid
list_fits s c list n is same lt =
    subst (λ (g : Grid). IsGrid s.last.format s.last.level g) (sym (list_grid s c list n is same)) (fits_law.uniform_fits s.last.format s.last.level c.0 lt)

module _ {W : Type 0} {D : disk.Ghosts W} where
  pub region_answered : (old new : Session W D) (s : State) (name : List ℕ) (c : Colour) (list : Raster) (n : ℕ) (reply : Reply)
      → list ≡ record { level = n; grid = uniform n c.0 } → n ≡ s.last.level
      → ((exists s name).0 ≡ false) × ((too_many s).0 ≡ false) → AnsweredBy s (layer_placed s name (Region list.grid)) old new reply
      → Answered s (commands.Region name c) old new reply
  region_answered old new s name c list n reply is same passes by =
      answered_by s (commands.Region name c) (layer_placed s name (Region (uniform s.last.level c.0))) old new reply
      (region_answer s name c passes.0 passes.1) (placed_none s name (Region (uniform s.last.level c.0))) refl
      (subst (λ (g : Grid). AnsweredBy s (layer_placed s name (Region g)) old new reply) (list_grid s c list n is same) by)
