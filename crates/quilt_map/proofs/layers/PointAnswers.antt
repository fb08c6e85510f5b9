-- What the commands on the points of a layer are answered, by the tests that they pass.
use Rattle.std.proofs.Common.{◌≡◌, ℕ, ◌≤◌, Bool, true, false, not, List, [], ◌∷◌, map, filter, Option, Some, None, refl, sym, ◌∙◌, ap}
use Rattle.std.specs.Prelude.{◌↔◌, decimal, unwrap_or, is_none, is_some, IsNone, IsSome}
use Rattle.std.specs.FinMap as finmap
use Rattle.quilt_types.specs.declared.code.Code.{Code}
use Rattle.quilt_types.specs.declared.code.Code.TheVariants as no
use Rattle.quilt_types.specs.declared.plane.Pixel.{Pixel}
use Rattle.quilt_types.specs.declared.plane.Point.{Point}
use Rattle.quilt_types.specs.declared.plane.Window.{Window}
use Rattle.quilt_types.specs.Facts.{records}
use Rattle.quilt_types.specs.Layers.{Layer, Map, Points, PointMap}
use Rattle.quilt_types.specs.Plane.{is_pixel, is_window, in_window}
use Rattle.quilt_world.specs.declared.disk.Disk as disk
use Rattle.quilt_words.specs.declared.command.Command.TheVariants as commands
use Rattle.quilt_replies.specs.Answers.{State, Outcome, Reply, Refused, Done, answer, unless, makes, told, changed, with, full, layer, unknown, unless_points}
use Rattle.quilt_replies.specs.Answers.{outside, window_outside, is_points, points_in, capacity_in, point_line}
use Rattle.quilt_replies.specs.Runs.{text_of}
use Rattle.quilt_replies.specs.declared.reply.Reply as replies
use Rattle.quilt_points.specs.Layers.{point_entries}
use Rattle.quilt_map.specs.Commanding.{Answered}
use Rattle.quilt_map.specs.Making.{AnsweredBy, layer_placed}
use Rattle.quilt_map.specs.PointLayers.{IsNoPoints, points_put, points_del}
use Rattle.quilt_map.specs.declared.session.Session.{Session}
use Rattle.quilt_map.proofs.answers.Answered.{IsBodyOf}
use Rattle.quilt_map.proofs.answers.FirstTests.{points_refused, first_true, first_false}
use Rattle.quilt_map.proofs.answers.Outcomes.{nothing_done}
use Rattle.quilt_map.proofs.answers.Placing.{placed_within, answered_by}

pub none_with : (b : Bool) (k : Code) (s : State) (work : Map) → (unless ((b, k) ∷ []) s (changed work)).published ≡ None
none_with true k s work = refl
none_with false k s work = refl

pub none_with_two : (b c : Bool) (k l : Code) (s : State) (work : Map) → (unless ((b, k) ∷ (c, l) ∷ []) s (changed work)).published ≡ None
none_with_two true c k l s work = refl
none_with_two false c k l s work = none_with c l s work

-- the lines of points, as entries
entry_lines : (list : List Point) → map (λ (p : Point). point_line (p.at, p.label)) list ≡ map point_line (point_entries list)
entry_lines [] = refl
entry_lines (p ∷ list) = ap (λ (ls : List (List ℕ)). point_line (p.at, p.label) ∷ ls) (entry_lines list)

module _ (s : State) (a : List ℕ) where
  -- ---- where the layer is none of points
  pub put_refused : (p : Pixel) (label : ℕ) (code : Code) → IsNoPoints s a code → answer s (commands.Put a p label) ≡ nothing_done s (Refused code)
  unfolding answer
  put_refused p label code first =
      let work = with s a (Points (capacity_in (layer s a)) (finmap.insert (points_in (layer s a)) p label)) in
      points_refused s a code first (outside s p ∷ (is_some (finmap.get (points_in (layer s a)) p), no.Present) ∷ full s work ∷ []) (changed work)

  pub del_refused : (p : Pixel) (code : Code) → IsNoPoints s a code → answer s (commands.Del a p) ≡ nothing_done s (Refused code)
  unfolding answer
  del_refused p code first =
      points_refused s a code first (outside s p ∷ (is_none (finmap.get (points_in (layer s a)) p), no.Absent) ∷ [])
      (changed (with s a (Points (capacity_in (layer s a)) (finmap.remove (points_in (layer s a)) p))))

  pub find_refused : (p : Pixel) (code : Code) → IsNoPoints s a code → (answer s (commands.Find a p)).reply ≡ Refused code
  unfolding answer
  find_refused p code first =
      first (outside s p ∷ (is_none (finmap.get (points_in (layer s a)) p), no.Absent) ∷ [])
      (told s (decimal (unwrap_or (finmap.get (points_in (layer s a)) p) 0) ∷ []))

  pub within_refused : (w : Window) (code : Code) → IsNoPoints s a code → (answer s (commands.Within a w)).reply ≡ Refused code
  unfolding answer
  within_refused w code first =
      first (window_outside s w ∷ []) (told s (map point_line (filter (λ e. in_window w e.0) (finmap.entries (points_in (layer s a))))))

  -- ---- a layer of points
  module _ (capacity : ℕ) (points : PointMap) (got : finmap.get s.work a ≡ Some (Points capacity points)) where
    abbrev put_with : Pixel → ℕ → Option Layer → Bool → Outcome
    put_with p label o b =
        makes s ((is_none o, no.Unknown) ∷ (not (is_points o), no.Kind) ∷ (not b, no.Outside) ∷ (is_some (finmap.get (points_in o) p), no.Present) ∷ []) a
        (Points (capacity_in o) (finmap.insert (points_in o) p label))

    put_is : (p : Pixel) (label : ℕ) → answer s (commands.Put a p label) ≡ put_with p label (finmap.get s.work a) (is_pixel s.last.level p)
    unfolding answer
    put_is p label = refl

    pub put_outside : (p : Pixel) (label : ℕ) → is_pixel s.last.level p ≡ false → answer s (commands.Put a p label) ≡ nothing_done s (Refused no.Outside)
    put_outside p label out = put_is p label ∙ (λ i. put_with p label (got i) (out i))

    put_inside : (p : Pixel) (label : ℕ) → is_pixel s.last.level p ≡ true → answer s (commands.Put a p label) ≡ points_put s a capacity points p label
    put_inside p label on = put_is p label ∙ (λ i. put_with p label (got i) (on i))

    abbrev del_with : Pixel → Option Layer → Bool → Outcome
    del_with p o b =
        unless ((is_none o, no.Unknown) ∷ (not (is_points o), no.Kind) ∷ (not b, no.Outside) ∷ (is_none (finmap.get (points_in o) p), no.Absent) ∷ []) s
        (changed (with s a (Points (capacity_in o) (finmap.remove (points_in o) p))))

    del_is : (p : Pixel) → answer s (commands.Del a p) ≡ del_with p (finmap.get s.work a) (is_pixel s.last.level p)
    unfolding answer
    del_is p = refl

    pub del_outside : (p : Pixel) → is_pixel s.last.level p ≡ false → answer s (commands.Del a p) ≡ nothing_done s (Refused no.Outside)
    del_outside p out = del_is p ∙ (λ i. del_with p (got i) (out i))

    del_inside : (p : Pixel) → is_pixel s.last.level p ≡ true → answer s (commands.Del a p) ≡ points_del s a capacity points p
    del_inside p on = del_is p ∙ (λ i. del_with p (got i) (on i))

    abbrev find_with : Pixel → Option Layer → Bool → Reply
    find_with p o b =
        (unless ((is_none o, no.Unknown) ∷ (not (is_points o), no.Kind) ∷ (not b, no.Outside) ∷ (is_none (finmap.get (points_in o) p), no.Absent) ∷ []) s
        (told s (decimal (unwrap_or (finmap.get (points_in o) p) 0) ∷ []))).reply

    find_is : (p : Pixel) → (answer s (commands.Find a p)).reply ≡ find_with p (finmap.get s.work a) (is_pixel s.last.level p)
    unfolding answer
    find_is p = refl

    pub find_outside : (p : Pixel) → is_pixel s.last.level p ≡ false → (answer s (commands.Find a p)).reply ≡ Refused no.Outside
    find_outside p out = find_is p ∙ (λ i. find_with p (got i) (out i))

    find_in : Option ℕ → Reply
    find_in found = (unless ((is_none found, no.Absent) ∷ []) s (told s (decimal (unwrap_or found 0) ∷ []))).reply

    pub find_absent : (p : Pixel) → is_pixel s.last.level p ≡ true → finmap.get points p ≡ None → (answer s (commands.Find a p)).reply ≡ Refused no.Absent
    unfolding find_in
    find_absent p on none = find_is p ∙ (λ i. find_with p (got i) (on i)) ∙ ap find_in none

    pub find_done : (p : Pixel) (label : ℕ) → is_pixel s.last.level p ≡ true → finmap.get points p ≡ Some label
        → (answer s (commands.Find a p)).reply ≡ Done (decimal label ∷ [])
    unfolding find_in
    find_done p label on some = find_is p ∙ (λ i. find_with p (got i) (on i)) ∙ ap find_in some

    abbrev within_with : Window → Option Layer → Bool → Reply
    within_with w o b =
        (unless ((is_none o, no.Unknown) ∷ (not (is_points o), no.Kind) ∷ (not b, no.Outside) ∷ []) s
        (told s (map point_line (filter (λ e. in_window w e.0) (finmap.entries (points_in o)))))).reply

    within_is : (w : Window) → (answer s (commands.Within a w)).reply ≡ within_with w (finmap.get s.work a) (is_window s.last.level w)
    unfolding answer
    within_is w = refl

    pub within_outside : (w : Window) → is_window s.last.level w ≡ false → (answer s (commands.Within a w)).reply ≡ Refused no.Outside
    within_outside w out = within_is w ∙ (λ i. within_with w (got i) (out i))

    pub within_done : (w : Window) → is_window s.last.level w ≡ true
        → (answer s (commands.Within a w)).reply ≡ Done (map point_line (filter (λ e. in_window w e.0) (finmap.entries points)))
    within_done w on = within_is w ∙ (λ i. within_with w (got i) (on i))

    -- ---- the texts of what is found
    pub find_body : (p : Pixel) → is_pixel s.last.level p ≡ true → (label : ℕ) → finmap.get points p ≡ Some label → (n : ℕ) → n ≡ label
        → (t : List ℕ) → t ≡ text_of (Done (decimal n ∷ []))
        → IsBodyOf ((answer s (commands.Find a p)).reply) t
    find_body p on label some n same t written = record {
      body = decimal label ∷ [];
      answered = find_done p label on some;
      written = written ∙ ap (λ (k : ℕ). text_of (Done (decimal k ∷ []))) same;
    }

    pub within_body : (w : Window) → is_window s.last.level w ≡ true → (list : List Point)
        → point_entries list ≡ filter (λ e. in_window w e.0) (finmap.entries points)
        → (t : List ℕ) → t ≡ text_of (Done (map (λ (p : Point). point_line (p.at, p.label)) list)) → IsBodyOf ((answer s (commands.Within a w)).reply) t
    within_body w on list all t written = record {
      body = map point_line (filter (λ e. in_window w e.0) (finmap.entries points));
      answered = within_done w on;
      written = written ∙ ap (λ (ls : List (List ℕ)). text_of (Done ls)) (entry_lines list ∙ ap (map point_line) all);
    }

    -- ---- a session that has these answers
    module _ {W : Type 0} {D : disk.Ghosts W} (old new : Session W D) (p : Pixel) (inside : is_pixel s.last.level p ≡ true) (reply : replies.Reply) where
      pub put_answered : (label : ℕ) → AnsweredBy s (points_put s a capacity points p label) old new reply → Answered s (commands.Put a p label) old new reply
      put_answered label by =
          answered_by s (commands.Put a p label) (points_put s a capacity points p label) old new reply (put_inside p label inside)
          (none_with_two (is_some (finmap.get points p)) (full s (with s a (Points capacity (finmap.insert points p label)))).0 no.Present no.Full s
          (with s a (Points capacity (finmap.insert points p label)))) refl by

      pub del_answered : AnsweredBy s (points_del s a capacity points p) old new reply → Answered s (commands.Del a p) old new reply
      del_answered by =
          answered_by s (commands.Del a p) (points_del s a capacity points p) old new reply (del_inside p inside)
          (none_with (is_none (finmap.get points p)) no.Absent s (with s a (Points capacity (finmap.remove points p)))) refl by

-- ---- a point that comes or goes
module _ (s : State) (a : List ℕ) (capacity : ℕ) (points : PointMap) (p : Pixel) where
  pub put_present : (label : ℕ) → is_some (finmap.get points p) ≡ true → points_put s a capacity points p label ≡ nothing_done s (Refused no.Present)
  put_present label there =
      let work = with s a (Points capacity (finmap.insert points p label)) in
      first_true (is_some (finmap.get points p)) no.Present (full s work ∷ []) s (changed work) there

  pub put_new : (label : ℕ) → is_some (finmap.get points p) ≡ false
      → points_put s a capacity points p label ≡ layer_placed s a (Points capacity (finmap.insert points p label))
  put_new label away =
      let work = with s a (Points capacity (finmap.insert points p label)) in
      first_false (is_some (finmap.get points p)) no.Present (full s work ∷ []) s (changed work) away

  pub del_absent : is_none (finmap.get points p) ≡ true → points_del s a capacity points p ≡ nothing_done s (Refused no.Absent)
  del_absent away = first_true (is_none (finmap.get points p)) no.Absent [] s (changed (with s a (Points capacity (finmap.remove points p)))) away

  pub del_there : is_none (finmap.get points p) ≡ false → records s.last.level (with s a (Points capacity (finmap.remove points p))) ≤ s.quota
      → points_del s a capacity points p ≡ layer_placed s a (Points capacity (finmap.remove points p))
  del_there there within =
      first_false (is_none (finmap.get points p)) no.Absent [] s (changed (with s a (Points capacity (finmap.remove points p)))) there
      ∙ sym (placed_within s a (Points capacity (finmap.remove points p)) within)

-- ---- what a plan says of the pixel
pub put_finds : {X Y : Type 0} (o : Option X) (q : Option Y) → IsNone o ↔ IsSome q → (o ≡ None → is_some q ≡ true) × ((x : X) → o ≡ Some x → is_some q ≡ false)
put_finds None None h = let wrong : false ≡ true = h.0 refl in cc
put_finds None (Some y) h = (λ e. refl, λ x e. cc)
put_finds (Some x) None h = (λ e. cc, λ z e. refl)
put_finds (Some x) (Some y) h = let wrong : true ≡ false = h.1 refl in cc

pub del_finds : {X Y : Type 0} (o : Option X) (q : Option Y) → IsNone o ↔ IsNone q
    → (o ≡ None → is_none q ≡ true) × ((x : X) → o ≡ Some x → (y : Y) × (q ≡ Some y) × (is_none q ≡ false))
del_finds None None h = (λ e. refl, λ x e. cc)
del_finds None (Some y) h = let wrong : true ≡ false = h.0 refl in cc
del_finds (Some x) None h = let wrong : true ≡ false = h.1 refl in cc
del_finds (Some x) (Some y) h = (λ e. cc, λ z e. (y, refl, refl))
