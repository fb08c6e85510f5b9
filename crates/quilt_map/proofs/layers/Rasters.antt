-- A region layer that gets the colours of a raster, and what its command is answered.
use Rattle.std.specs.Prelude.{is_none, unwrap_or}
use Rattle.std.proofs.Common.{◌≡◌, ℕ, ◌+◌, ◌*◌, ◌<◌, true, false, List, [], ◌∷◌, length, All, Option, Some, None, IfSome, refl, sym, ◌∙◌, ap, subst}
use Rattle.std.proofs.lemmas.List.Elements.{All-nil, All-cons}
use Rattle.std.specs.FinMap as finmap
use Rattle.quilt_types.specs.Layers.{Region, Grid, IsGrid, colours}
use Rattle.quilt_types.specs.Plane.{side}
use Rattle.quilt_types.specs.declared.code.Code.{Code}
use Rattle.quilt_types.specs.declared.code.Code.TheVariants as no
use Rattle.quilt_world.specs.declared.disk.Disk as disk
use Rattle.quilt_words.specs.Fitting.{AreColours, IsRows}
use Rattle.quilt_words.specs.declared.command.Command.TheVariants as commands
use Rattle.quilt_blocks.specs.Raster.{Raster}
use Rattle.quilt_raster.specs.Bytes.{cell_colours}
use Rattle.quilt_raster.proofs.Bytes.{length-colours_of_bytes}
use Rattle.quilt_replies.specs.Answers as answers
use Rattle.quilt_replies.specs.Answers.{State, Refused, answer, full, changed, with}
use Rattle.quilt_map.specs.Asking.{IsRefusedFirst}
use Rattle.quilt_map.specs.Commanding.{Answered}
use Rattle.quilt_map.specs.Making.{AnsweredBy, layer_placed}
use Rattle.quilt_map.specs.Sessions.{IsAtState}
use Rattle.quilt_replies.specs.declared.reply.Reply.{Reply}
use Rattle.quilt_map.specs.declared.session.Session.{Session}
use Rattle.quilt_map.proofs.answers.Answered.{format_is}
use Rattle.quilt_map.proofs.answers.FirstTests.{region_refused, region_passes}
use Rattle.quilt_map.proofs.answers.Outcomes.{nothing_done}
use Rattle.quilt_map.proofs.answers.Placing.{answered_by, placed_none}

-- ---- the bytes of rows
pub same_colours : (bytes : List ℕ) → cell_colours bytes ≡ answers.colours_of_bytes bytes
unfolding cell_colours
same_colours [] = refl
same_colours (high ∷ []) = refl
same_colours (high ∷ low ∷ bytes) = ap (λ (g : Grid). (256 * high + low) ∷ g) (same_colours bytes)

few_colours : (f : ℕ) (bytes : List ℕ) → AreColours f bytes → All (λ c. c < colours f) (answers.colours_of_bytes bytes)
few_colours f [] are = All-nil (λ c. c < colours f)
few_colours f (high ∷ []) are = All-nil (λ c. c < colours f)
few_colours f (high ∷ low ∷ bytes) are = All-cons (λ c. c < colours f) (256 * high + low) (answers.colours_of_bytes bytes) are.0 (few_colours f bytes are.1)

pub rows_grid : (f n : ℕ) (bytes : List ℕ) → IsRows f n bytes → IsGrid f n (answers.colours_of_bytes bytes)
rows_grid f n bytes is = record {
  size = ap length (sym (same_colours bytes)) ∙ length-colours_of_bytes (side n * side n) bytes is.size;
  colours = few_colours f bytes is.colours;
}

pub some_rows : (f n : ℕ) (o : Option (List ℕ)) (bytes : List ℕ) → o ≡ Some bytes → IfSome o (IsRows f n) → IsRows f n bytes
some_rows f n o bytes is are = subst (λ (r : Option (List ℕ)). IfSome r (IsRows f n)) is are

pub list_grid : (list : Raster) (n : ℕ) (bytes : List ℕ) → list ≡ record { level = n; grid = cell_colours bytes }
    → list.grid ≡ answers.colours_of_bytes bytes
list_grid list n bytes is = ap (λ (l : Raster). l.grid) is ∙ same_colours bytes

-- ---- what the definition answers
module _ (s : State) (a : List ℕ) where
  pub raster_refused : (rows : Option (List ℕ)) (code : Code) → IsRefusedFirst s a code → answer s (commands.Raster a rows) ≡ nothing_done s (Refused code)
  unfolding answer
  raster_refused rows code first =
      let work = with s a (Region (answers.colours_of_bytes (unwrap_or rows []))) in
      region_refused s a code first ((is_none rows, no.Rows) ∷ full s work ∷ []) (changed work)

  module _ (g : Grid) (got : finmap.get s.work a ≡ Some (Region g)) where
    none_missing : answer s (commands.Raster a None) ≡ nothing_done s (Refused no.Rows)
    unfolding answer
    none_missing = let work = with s a (Region []) in region_passes s a g ((true, no.Rows) ∷ full s work ∷ []) (changed work) got

    pub raster_missing : (rows : Option (List ℕ)) → rows ≡ None → answer s (commands.Raster a rows) ≡ nothing_done s (Refused no.Rows)
    raster_missing rows none = ap (λ (o : Option (List ℕ)). answer s (commands.Raster a o)) none ∙ none_missing

    pub raster_done : (bytes : List ℕ) → answer s (commands.Raster a (Some bytes)) ≡ layer_placed s a (Region (answers.colours_of_bytes bytes))
    unfolding answer
    raster_done bytes = let work = with s a (Region (answers.colours_of_bytes bytes)) in
        region_passes s a g ((false, no.Rows) ∷ full s work ∷ []) (changed work) got

module _ {W : Type 0} {D : disk.Ghosts W} where
  pub raster_answered : (old new : Session W D) (s : State) (a bytes : List ℕ) (rows : Option (List ℕ)) (g h : Grid) (reply : Reply)
      → finmap.get s.work a ≡ Some (Region g) → rows ≡ Some bytes
      → h ≡ answers.colours_of_bytes bytes → AnsweredBy s (layer_placed s a (Region h)) old new reply → Answered s (commands.Raster a rows) old new reply
  raster_answered old new s a bytes rows g h reply got is same by =
      let layer = Region (answers.colours_of_bytes bytes) in
      subst (λ (o : Option (List ℕ)). Answered s (commands.Raster a o) old new reply) (sym is)
      (answered_by {D = D} s (commands.Raster a (Some bytes)) (layer_placed s a layer) old new reply (raster_done s a g got bytes) (placed_none s a layer) refl
      (subst (λ (k : Grid). AnsweredBy s (layer_placed s a (Region k)) old new reply) same by))

  -- the rows of a command are those of a grid of the work
  pub rows_at : (old : Session W D) (s : State) (bytes : List ℕ) (h : Grid) → IsAtState old s → IsRows old.book.work.format old.book.last.level bytes
      → h ≡ answers.colours_of_bytes bytes
      → IsGrid s.last.format s.last.level h
  rows_at old s bytes h at are same =
      let here : IsRows s.last.format s.last.level bytes =
      subst (λ (f : ℕ). IsRows f s.last.level bytes) (format_is {D = D} old s at)
      (subst (λ (n : ℕ). IsRows old.book.work.format n bytes) (sym at.last.head.level) are) in
      subst (λ (k : Grid). IsGrid s.last.format s.last.level k) (sym same) (rows_grid s.last.format s.last.level bytes here)
