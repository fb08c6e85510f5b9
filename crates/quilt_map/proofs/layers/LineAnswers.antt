-- What the commands that put segments into a line layer and take them out are answered, by the tests that they pass.
use Rattle.std.proofs.Common.{◌≡◌, ℕ, ◌≤◌, Bool, true, false, not, List, [], ◌∷◌, Option, Some, refl, sym, ◌∙◌, ap}
use Rattle.std.specs.Prelude.{unwrap_or, is_none, is_some}
use Rattle.std.specs.FinMap as finmap
use Rattle.quilt_types.specs.declared.code.Code.{Code}
use Rattle.quilt_types.specs.declared.code.Code.TheVariants as no
use Rattle.quilt_types.specs.declared.plane.Seg.{Seg}
use Rattle.quilt_types.specs.Facts.{records}
use Rattle.quilt_types.specs.Layers.{Layer, Lines, SegMap, BlockSet, is_in_square}
use Rattle.quilt_world.specs.declared.disk.Disk as disk
use Rattle.quilt_words.specs.declared.command.Command.TheVariants as commands
use Rattle.quilt_replies.specs.Answers.{State, Outcome, Refused, answer, unless, makes, changed, with, full, layer, is_lines, segs_in, cover_in, threshold_in}
use Rattle.quilt_replies.specs.declared.reply.Reply as replies
use Rattle.quilt_map.specs.Commanding.{Answered}
use Rattle.quilt_map.specs.LineLayers.{IsNoLines, with_segment, without_segment, segment_put, segment_taken}
use Rattle.quilt_map.specs.Making.{AnsweredBy, layer_placed}
use Rattle.quilt_map.specs.declared.session.Session.{Session}
use Rattle.quilt_map.proofs.answers.FirstTests.{lines_refused, first_true, first_false}
use Rattle.quilt_map.proofs.answers.Outcomes.{nothing_done}
use Rattle.quilt_map.proofs.answers.Placing.{placed_within, answered_by}
use Rattle.quilt_map.proofs.layers.PointAnswers.{none_with, none_with_two}

-- what stands for a segment that is not there
abbrev pub no_segment : Seg
no_segment = record { x1 = 0; y1 = 0; x2 = 0; y2 = 0 }

module _ (s : State) (a : List ℕ) where
  -- ---- where the layer is none of lines
  pub line_refused : (id : ℕ) (seg : Seg) (code : Code) → IsNoLines s a code → answer s (commands.Line a id seg) ≡ nothing_done s (Refused code)
  unfolding answer
  line_refused id seg code first =
      let l = layer s a in
      let work = with s a (with_segment (threshold_in l) (segs_in l) (cover_in l) id seg) in
      lines_refused s a code first ((not (is_in_square s.last.level seg), no.Outside) ∷ (is_some (finmap.get (segs_in l) id), no.Present)
      ∷ full s work ∷ []) (changed work)

  pub unline_refused : (id : ℕ) (code : Code) → IsNoLines s a code → answer s (commands.Unline a id) ≡ nothing_done s (Refused code)
  unfolding answer
  unline_refused id code first =
      let l = layer s a in
      let gone = finmap.get (segs_in l) id in
      lines_refused s a code first ((is_none gone, no.Absent) ∷ [])
      (changed (with s a (without_segment s.last.level (threshold_in l) (segs_in l) (cover_in l) id (unwrap_or gone no_segment))))

  -- ---- a layer of lines
  module _ (t : ℕ) (segs : SegMap) (cover : BlockSet) (got : finmap.get s.work a ≡ Some (Lines t segs cover)) where
    abbrev line_with : ℕ → Seg → Option Layer → Bool → Outcome
    line_with id seg o b =
        makes s ((is_none o, no.Unknown) ∷ (not (is_lines o), no.Kind) ∷ (not b, no.Outside) ∷ (is_some (finmap.get (segs_in o) id), no.Present) ∷ []) a
        (with_segment (threshold_in o) (segs_in o) (cover_in o) id seg)

    line_is : (id : ℕ) (seg : Seg) → answer s (commands.Line a id seg) ≡ line_with id seg (finmap.get s.work a) (is_in_square s.last.level seg)
    unfolding answer
    line_is id seg = refl

    pub line_outside : (id : ℕ) (seg : Seg) → is_in_square s.last.level seg ≡ false → answer s (commands.Line a id seg) ≡ nothing_done s (Refused no.Outside)
    line_outside id seg out = line_is id seg ∙ (λ i. line_with id seg (got i) (out i))

    line_inside : (id : ℕ) (seg : Seg) → is_in_square s.last.level seg ≡ true → answer s (commands.Line a id seg) ≡ segment_put s a t segs cover id seg
    line_inside id seg on = line_is id seg ∙ (λ i. line_with id seg (got i) (on i))

    abbrev unline_with : ℕ → Option Layer → Outcome
    unline_with id o =
        unless ((is_none o, no.Unknown) ∷ (not (is_lines o), no.Kind) ∷ (is_none (finmap.get (segs_in o) id), no.Absent) ∷ []) s
        (changed (with s a (without_segment s.last.level (threshold_in o) (segs_in o) (cover_in o) id (unwrap_or (finmap.get (segs_in o) id) no_segment))))

    unline_is : (id : ℕ) → answer s (commands.Unline a id) ≡ unline_with id (finmap.get s.work a)
    unfolding answer
    unline_is id = refl

    unline_here : (id : ℕ) → answer s (commands.Unline a id) ≡ segment_taken s a t segs cover id
    unline_here id = unline_is id ∙ ap (unline_with id) got

    -- ---- a session that has these answers
    module _ {W : Type 0} {D : disk.Ghosts W} (old new : Session W D) (reply : replies.Reply) (id : ℕ) where
      pub line_answered : (seg : Seg) → is_in_square s.last.level seg ≡ true → AnsweredBy s (segment_put s a t segs cover id seg) old new reply
          → Answered s (commands.Line a id seg) old new reply
      line_answered seg inside by =
          let work = with s a (with_segment t segs cover id seg) in
          answered_by s (commands.Line a id seg) (segment_put s a t segs cover id seg) old new reply (line_inside id seg inside)
          (none_with_two (is_some (finmap.get segs id)) (full s work).0 no.Present no.Full s work) refl by

      pub unline_answered : AnsweredBy s (segment_taken s a t segs cover id) old new reply → Answered s (commands.Unline a id) old new reply
      unline_answered by =
          answered_by s (commands.Unline a id) (segment_taken s a t segs cover id) old new reply (unline_here id)
          (none_with (is_none (finmap.get segs id)) no.Absent s
          (with s a (without_segment s.last.level t segs cover id (unwrap_or (finmap.get segs id) no_segment)))) refl by

-- ---- a segment that comes or goes
module _ (s : State) (a : List ℕ) (t : ℕ) (segs : SegMap) (cover : BlockSet) (id : ℕ) where
  pub segment_present : (seg : Seg) → is_some (finmap.get segs id) ≡ true → segment_put s a t segs cover id seg ≡ nothing_done s (Refused no.Present)
  segment_present seg there =
      let work = with s a (with_segment t segs cover id seg) in first_true (is_some (finmap.get segs id)) no.Present (full s work ∷ []) s (changed work) there

  pub segment_new : (seg : Seg) → is_some (finmap.get segs id) ≡ false → segment_put s a t segs cover id seg ≡ layer_placed s a (with_segment t segs cover id seg)
  segment_new seg away =
      let work = with s a (with_segment t segs cover id seg) in first_false (is_some (finmap.get segs id)) no.Present (full s work ∷ []) s (changed work) away

  pub segment_absent : is_none (finmap.get segs id) ≡ true → segment_taken s a t segs cover id ≡ nothing_done s (Refused no.Absent)
  segment_absent away =
      let seg = unwrap_or (finmap.get segs id) no_segment in
      first_true (is_none (finmap.get segs id)) no.Absent [] s (changed (with s a (without_segment s.last.level t segs cover id seg))) away

  taken_with : Option Seg → Outcome
  taken_with gone = unless ((is_none gone, no.Absent) ∷ []) s (changed (with s a (without_segment s.last.level t segs cover id (unwrap_or gone no_segment))))

  pub segment_there : (seg : Seg) → finmap.get segs id ≡ Some seg → records s.last.level (with s a (without_segment s.last.level t segs cover id seg)) ≤ s.quota
      → segment_taken s a t segs cover id ≡ layer_placed s a (without_segment s.last.level t segs cover id seg)
  unfolding taken_with
  segment_there seg there within = ap taken_with there ∙ sym (placed_within s a (without_segment s.last.level t segs cover id seg) within)
