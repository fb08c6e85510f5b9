-- Points that come at once: which of them may, and what the command is answered.
use Rattle.std.specs.Prelude.{◌↔◌, is_some, is_none, IsNone, unwrap_or}
use Rattle.std.specs.List.{list_any}
use Rattle.std.proofs.Common.{◌≡◌, ℕ, Bool, true, false, not, List, [], ◌∷◌, map, All, Contains, Option, Some, None, refl, sym, ◌∙◌, ap, subst, ⊎_elim}
use Rattle.std.specs.FinMap as finmap
use Rattle.std.proofs.lemmas.Bool.{cases_Bool, or_parts, or_from, not-false}
use Rattle.std.proofs.lemmas.List.Elements.{All-weaker, All-contains_itself}
use Rattle.quilt_types.specs.declared.code.Code.{Code}
use Rattle.quilt_types.specs.declared.code.Code.TheVariants as no
use Rattle.quilt_types.specs.declared.plane.Pixel.{Pixel}
use Rattle.quilt_types.specs.declared.plane.Point.{Point}
use Rattle.quilt_types.specs.Layers.{Layer, Points, PointMap}
use Rattle.quilt_types.specs.Plane.{is_pixel, pixel_cmp}
use Rattle.quilt_world.specs.declared.disk.Disk as disk
use Rattle.quilt_loc.proofs.Members.{Contains-nil, Contains-here, Contains-there, Contains-cons_cases, Contains-map, Contains-map_from}
use Rattle.quilt_loc.proofs.PlaneOrders.{pixel_total}
use Rattle.quilt_spell.proofs.facts.FactKeys.{pixel_same}
use Rattle.quilt_spell.proofs.Maps.{get_inserted, get_others}
use Rattle.quilt_points.specs.Plans.{AreNew}
use Rattle.quilt_words.specs.declared.command.Command.TheVariants as commands
use Rattle.quilt_replies.specs.Answers.{State, Outcome, Refused, answer, unless, makes, changed, with, full, layer, is_points, points_in, capacity_in, collide}
use Rattle.quilt_replies.specs.Answers.{with_points}
use Rattle.quilt_replies.specs.declared.reply.Reply as replies
use Rattle.quilt_map.specs.Commanding.{Answered}
use Rattle.quilt_map.specs.Making.{AnsweredBy, layer_placed}
use Rattle.quilt_map.specs.PointLayers.{IsNoPoints, points_scattered}
use Rattle.quilt_map.specs.declared.session.Session.{Session}
use Rattle.quilt_map.proofs.answers.FirstTests.{points_refused, first_true, first_false}
use Rattle.quilt_map.proofs.answers.Outcomes.{nothing_done}
use Rattle.quilt_map.proofs.answers.Placing.{answered_by}
use Rattle.quilt_map.proofs.layers.PointAnswers.{none_with_two}

-- ---- which points are new
nothing_there : {X : Type 0} (o : Option X) → is_some o ≡ false → o ≡ None
nothing_there None h = refl
nothing_there (Some x) h = cc

pub new_when : (points : PointMap) (ps : List Point) → collide points ps ≡ false → AreNew points ps
new_when points [] h = record { differ = tt; free = λ q c. absurd (Contains-nil q c) }
new_when points (p ∷ ps) h =
    let after = finmap.insert points p.at p.label in
    let parts = or_parts (is_some (finmap.get points p.at)) (collide after ps) h in
    let rest = new_when after ps parts.1 in
    let away : (q : Point) → Contains ps q → q.at ≡ p.at → ⊥ = λ q c e.
    (let wrong : None ≡ Some p.label =
    sym (rest.free q c) ∙ ap (finmap.get after) e ∙ get_inserted pixel_cmp pixel_total pixel_same points p.at p.label in cc) in
    record {
      differ = (λ c. let m = Contains-map_from (λ (q : Point). q.at) ps p.at c in away m.0 m.1 m.2, rest.differ);
      free = λ q c.
          ⊎_elim (λ is. subst (λ (z : Point). finmap.get points z.at ≡ None) is (nothing_there (finmap.get points p.at) parts.0))
          (λ d. sym (get_others pixel_cmp pixel_total pixel_same points p.at p.label q.at (away q d)) ∙ rest.free q d) (Contains-cons_cases p ps q c);
    }

pub none_when : (points : PointMap) (ps : List Point) → AreNew points ps → collide points ps ≡ false
none_when points [] n = refl
none_when points (p ∷ ps) n =
    let after = finmap.insert points p.at p.label in
    let at : Point → Pixel = λ q. q.at in
    let rest : AreNew after ps = record {
      differ = n.differ.1;
      free = λ q c.
          get_others pixel_cmp pixel_total pixel_same points p.at p.label q.at
          (λ e. n.differ.0 (subst (Contains (map at ps)) e (Contains-map at ps q c))) ∙ n.free q (Contains-there p ps q c);
    } in
    or_from (is_some (finmap.get points p.at)) (collide after ps) (ap (λ (o : Option ℕ). is_some o) (n.free p (Contains-here p ps)))
    (none_when after ps rest)

-- ---- pixels of the square
any_none : {X : Type 0} (p : X → Bool) (xs : List X) → list_any p xs ≡ false → (x : X) → Contains xs x → p x ≡ false
any_none {X = X} p [] h x c = absurd (Contains-nil x c)
any_none {X = X} p (y ∷ ys) h x c =
    let parts = or_parts (p y) (list_any p ys) h in
    ⊎_elim (λ is. subst (λ (z : X). p z ≡ false) is parts.0) (λ d. any_none p ys parts.1 x d) (Contains-cons_cases y ys x c)

pub none_outside : (n : ℕ) (ps : List Point) → list_any (λ q. not (is_pixel n q.at)) ps ≡ false → All (λ q. is_pixel n q.at ≡ true) ps
none_outside n ps h =
    All-weaker (Contains ps) (λ q. is_pixel n q.at ≡ true)
    (λ q c. not-false (is_pixel n q.at) (any_none (λ (z : Point). not (is_pixel n z.at)) ps h q c)) ps (All-contains_itself ps)

-- what a plan says of the points
pub scatter_finds : {X : Type 0} (o : Option X) (points : PointMap) (ps : List Point) → IsNone o ↔ (AreNew points ps → ⊥)
    → (o ≡ None → collide points ps ≡ true) × ((x : X) → o ≡ Some x → collide points ps ≡ false)
scatter_finds None points ps h = (λ e. ⊎_elim (λ t. t) (λ f. absurd (h.0 refl (new_when points ps f))) (cases_Bool (collide points ps)), λ x e. cc)
scatter_finds (Some x) points ps h = (
  λ e. cc,
  λ z e.
      ⊎_elim
      (λ t. let wrong : true ≡ false = h.1 (λ n. let other : true ≡ false = sym t ∙ none_when points ps n in cc) in cc)
      (λ f. f) (cases_Bool (collide points ps)),
)

-- ---- what the definition answers
module _ (s : State) (a : List ℕ) where
  abbrev scatter_with : Option Layer → Option (List Point) → Outcome
  scatter_with o list =
      let ps = unwrap_or list [] in
      makes s (
      (is_none o, no.Unknown) ∷ (not (is_points o), no.Kind) ∷ (is_none list, no.Rows)
      ∷ (list_any (λ q. not (is_pixel s.last.level q.at)) ps, no.Outside)
      ∷ (collide (points_in o) ps, no.Present) ∷ []) a
      (Points (capacity_in o) (with_points (points_in o) ps))

  scatter_is : (list : Option (List Point)) → answer s (commands.Scatter a list) ≡ scatter_with (finmap.get s.work a) list
  unfolding answer
  scatter_is list = refl

  pub scatter_refused : (list : Option (List Point)) (code : Code) → IsNoPoints s a code → answer s (commands.Scatter a list) ≡ nothing_done s (Refused code)
  unfolding answer
  scatter_refused list code first =
      let ps = unwrap_or list [] in
      let work = with s a (Points (capacity_in (layer s a)) (with_points (points_in (layer s a)) ps)) in
      points_refused s a code first (
      (is_none list, no.Rows) ∷ (list_any (λ q. not (is_pixel s.last.level q.at)) ps, no.Outside) ∷ (collide (points_in (layer s a)) ps, no.Present)
      ∷ full s work ∷ []) (changed work)

  module _ (capacity : ℕ) (points : PointMap) (got : finmap.get s.work a ≡ Some (Points capacity points)) where
    pub scatter_rows : answer s (commands.Scatter a None) ≡ nothing_done s (Refused no.Rows)
    scatter_rows = scatter_is None ∙ ap (λ (o : Option Layer). scatter_with o None) got

    module _ (ps : List Point) where
      rest_of : Bool → Outcome
      rest_of b =
          let work = with s a (Points capacity (with_points points ps)) in
          unless ((b, no.Outside) ∷ (collide points ps, no.Present) ∷ full s work ∷ []) s (changed work)

      to_pixels : answer s (commands.Scatter a (Some ps)) ≡ rest_of (list_any (λ q. not (is_pixel s.last.level q.at)) ps)
      unfolding rest_of
      to_pixels = scatter_is (Some ps) ∙ ap (λ (o : Option Layer). scatter_with o (Some ps)) got

      pub scatter_outside : list_any (λ q. not (is_pixel s.last.level q.at)) ps ≡ true
          → answer s (commands.Scatter a (Some ps)) ≡ nothing_done s (Refused no.Outside)
      unfolding rest_of
      scatter_outside out = to_pixels ∙ ap rest_of out

      scatter_inside : list_any (λ q. not (is_pixel s.last.level q.at)) ps ≡ false
          → answer s (commands.Scatter a (Some ps)) ≡ points_scattered s a capacity points ps
      unfolding rest_of
      scatter_inside on = to_pixels ∙ ap rest_of on

      pub scatter_present : collide points ps ≡ true → points_scattered s a capacity points ps ≡ nothing_done s (Refused no.Present)
      scatter_present there =
          let work = with s a (Points capacity (with_points points ps)) in first_true (collide points ps) no.Present (full s work ∷ []) s (changed work) there

      pub scatter_new : collide points ps ≡ false → points_scattered s a capacity points ps ≡ layer_placed s a (Points capacity (with_points points ps))
      scatter_new away =
          let work = with s a (Points capacity (with_points points ps)) in first_false (collide points ps) no.Present (full s work ∷ []) s (changed work) away

      pub scatter_answered : {W : Type 0} {D : disk.Ghosts W} (old new : Session W D) (reply : replies.Reply)
          → list_any (λ q. not (is_pixel s.last.level q.at)) ps ≡ false
          → AnsweredBy s (points_scattered s a capacity points ps) old new reply → Answered s (commands.Scatter a (Some ps)) old new reply
      scatter_answered old new reply on by =
          answered_by s (commands.Scatter a (Some ps)) (points_scattered s a capacity points ps) old new reply (scatter_inside on)
          (none_with_two (collide points ps) (full s (with s a (Points capacity (with_points points ps)))).0 no.Present no.Full s
          (with s a (Points capacity (with_points points ps)))) refl by
