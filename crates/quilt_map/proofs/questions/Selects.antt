-- What commands that ask for segments of a line layer are answered, by the tests that they pass.
use Rattle.std.specs.Prelude.{◌==◌, nat_lt, length, if◌then◌else◌}
use Rattle.std.proofs.Common.{◌≡◌, ℕ, ◌+◌, ◌≤◌, Bool, true, false, not, List, [], ◌∷◌, map, Option, Some, None, is_none, refl, sym, ◌∙◌, ap, subst}
use Rattle.std.specs.FinMap as finmap
use Rattle.quilt_types.specs.declared.code.Code.{Code}
use Rattle.quilt_types.specs.declared.code.Code.TheVariants as no
use Rattle.quilt_types.specs.Fractions.{Fraction}
use Rattle.quilt_types.specs.Layers.{Layer, Region, Lines, SegMap, BlockSet, Grid}
use Rattle.quilt_types.specs.Segments.{nearest}
use Rattle.quilt_types.specs.Crossings.{crossings}
use Rattle.quilt_types.specs.Ranking.{ranked}
use Rattle.quilt_words.specs.Table.{IsFitting}
use Rattle.quilt_words.specs.declared.command.Command.{Command}
use Rattle.quilt_words.specs.declared.command.Command.TheVariants as commands
use Rattle.quilt_world.specs.Tale.{Goes}
use Rattle.quilt_replies.specs.Answers as answers
use Rattle.quilt_replies.specs.Answers.{State, Outcome, Reply, Done, Refused, answer, unless, unknown, unless_lines, unless_region, outside, is_lines}
use Rattle.quilt_replies.specs.Answers.{is_region, layer, segs_in, cover_in, grid_in, grid, nearest_lines, ranked_line, pair_line}
use Rattle.quilt_replies.specs.declared.reply.Reply as replies
use Rattle.quilt_map.specs.LineLayers.{IsNoLines}
use Rattle.quilt_map.specs.Selecting.{layer_asked, is_place, AsksSome, nearest_reply, selected, selected_over, HasFound, IsAnswered, pages_for_answer}
use Rattle.quilt_map.specs.Selecting.{AreNotLinesAndRegion, AreNotLines, crossed}
use Rattle.quilt_map.specs.Steps.{asks}
use Rattle.quilt_map.proofs.answers.Outcomes.{nothing_done}

-- ---- what the definition answers
abbrev asking : State → Command → List ℕ → Outcome
asking s command name = unless (unknown s name ∷ unless_lines s name ∷ (not (is_place s.last.level command), no.Outside) ∷ []) s
    (nothing_done s (selected command (segs_in (layer s name))))

nearest_case : (s : State) (o : Option (ℕ × Fraction)) → unless ((is_none o, no.Absent) ∷ []) s (answers.told s (nearest_lines o)) ≡ nothing_done s
    (nearest_reply o)
nearest_case s None = refl
nearest_case s (Some e) = refl

last_case : (s : State) (b : Bool) (code : Code) (body : List (List ℕ)) → unless ((b, code) ∷ []) s (answers.told s body) ≡ nothing_done s
    (if b then Refused code else Done body)
last_case s true code body = refl
last_case s false code body = refl

ask_is : (s : State) (command : Command) (name : List ℕ) → layer_asked command ≡ Some name → answer s command ≡ asking s command name
unfolding answer
ask_is s (commands.Cross l w) name is = let same : l ≡ name = cc in ap (λ (x : List ℕ). asking s (commands.Cross l w) x) same
ask_is s (commands.Clip l w) name is = let same : l ≡ name = cc in ap (λ (x : List ℕ). asking s (commands.Clip l w) x) same
ask_is s (commands.Nearest l at) name is =
    let same : l ≡ name = cc in
    ap (λ (o : Outcome). unless (unknown s l ∷ unless_lines s l ∷ outside s at ∷ []) s o) (nearest_case s (nearest (segs_in (layer s l)) at))
    ∙ ap (λ (x : List ℕ). asking s (commands.Nearest l at) x) same
ask_is s (commands.Rank l at k) name is =
    let same : l ≡ name = cc in
    let segs = segs_in (layer s l) in
    ap (λ (o : Outcome). unless (unknown s l ∷ unless_lines s l ∷ outside s at ∷ []) s o)
    (last_case s (finmap.len segs == 0) no.Absent (map ranked_line (ranked segs at k)))
    ∙ ap (λ (x : List ℕ). asking s (commands.Rank l at k) x) same
ask_is s command name is = cc

pub lines_asked : (command : Command) (name : List ℕ) → layer_asked command ≡ Some name → asks command ≡ true
lines_asked commands.Layers name is = refl
lines_asked command name is = search

module _ (command : Command) (name : List ℕ) (is : layer_asked command ≡ Some name) (s : State) where
  reply_is : (answer s command).reply ≡ (asking s command name).reply
  reply_is = ap (λ (o : Outcome). o.reply) (ask_is s command name is)

  pub ask_refused : (code : Code) → IsNoLines s name code → (answer s command).reply ≡ Refused code
  ask_refused code first = reply_is ∙ first ((not (is_place s.last.level command), no.Outside) ∷ [])
      (nothing_done s (selected command (segs_in (layer s name))))

  module _ (threshold : ℕ) (segs : SegMap) (cover : BlockSet) (got : finmap.get s.work name ≡ Some (Lines threshold segs cover)) where
    abbrev ask_with : Option Layer → Bool → Reply
    ask_with o b = (unless ((is_none o, no.Unknown) ∷ (not (is_lines o), no.Kind) ∷ (not b, no.Outside) ∷ []) s
        (nothing_done s (selected command (segs_in o)))).reply

    pub ask_outside : is_place s.last.level command ≡ false → (answer s command).reply ≡ Refused no.Outside
    ask_outside out = reply_is ∙ (λ i. ask_with (got i) (out i))

    pub ask_done : is_place s.last.level command ≡ true → (answer s command).reply ≡ selected command segs
    ask_done on = reply_is ∙ (λ i. ask_with (got i) (on i))

    -- what the answer may cost, by the state
    pub ask_reads : (n : ℕ) (reply : replies.Reply) (before now : Option ℕ) → n ≡ s.last.level
        → (HasFound command segs → IsAnswered reply → Goes (λ old new. new ≤ old + pages_for_answer n command segs cover) before now)
        → HasFound command (segs_in (layer s name)) → IsAnswered reply → Goes
        (λ old new. new ≤ old + pages_for_answer s.last.level command (segs_in (layer s name)) (cover_in (layer s name))) before now
    ask_reads n reply before now same h =
        let Costs : ℕ → Option Layer → Type 0 = λ m o. HasFound command (segs_in o) → IsAnswered reply → Goes
        (λ old new. new ≤ old + pages_for_answer m command (segs_in o) (cover_in o)) before now in
        subst (λ (o : Option Layer). Costs s.last.level o) (sym got) (subst (λ (m : ℕ). Costs m (Some (Lines threshold segs cover))) same h)

-- what is spelled asks for one segment at least
pub fits_some : (f n : ℕ) (command : Command) → IsFitting f n command → AsksSome command
fits_some f n (commands.Rank l at k) fits = fits.2.least
fits_some f n (commands.Cross l w) fits = tt
fits_some f n (commands.Clip l w) fits = tt
fits_some f n (commands.Nearest l at) fits = tt
fits_some f n command fits = tt

-- ---- segments over a region
module _ (s : State) (l a : List ℕ) where
  over_is : answer s (commands.Over l a) ≡ unless (unknown s l ∷ unknown s a ∷ unless_lines s l ∷ unless_region s a ∷ []) s
      (nothing_done s (selected_over s.last.level (grid s a) (segs_in (layer s l))))
  unfolding answer
  over_is = refl

  pub over_refused : (code : Code) → AreNotLinesAndRegion s l a code → (answer s (commands.Over l a)).reply ≡ Refused code
  over_refused code first = ap (λ (o : Outcome). o.reply) over_is ∙ first [] (nothing_done s (selected_over s.last.level (grid s a) (segs_in (layer s l))))

  module _ (threshold : ℕ) (segs : SegMap) (cover : BlockSet) (g : Grid) (got : finmap.get s.work l ≡ Some (Lines threshold segs cover))
      (has : finmap.get s.work a ≡ Some (Region g)) where
    abbrev over_with : Option Layer → Option Layer → Reply
    over_with o p =
        (unless ((is_none o, no.Unknown) ∷ (is_none p, no.Unknown) ∷ (not (is_lines o), no.Kind) ∷ (not (is_region p), no.Kind) ∷ []) s
        (nothing_done s (selected_over s.last.level (grid_in p) (segs_in o)))).reply

    pub over_done : (answer s (commands.Over l a)).reply ≡ selected_over s.last.level g segs
    over_done = ap (λ (o : Outcome). o.reply) over_is ∙ (λ i. over_with (got i) (has i))

-- ---- segments of two layers that share a point
module _ (s : State) (l m : List ℕ) where
  crossings_are : answer s (commands.Crossings l m) ≡ unless (unknown s l ∷ unknown s m ∷ unless_lines s l ∷ unless_lines s m ∷ []) s
      (nothing_done s (crossed (segs_in (layer s l)) (segs_in (layer s m))))
  unfolding answer
  crossings_are =
      let pairs = crossings (segs_in (layer s l)) (segs_in (layer s m)) in
      ap (λ (o : Outcome). unless (unknown s l ∷ unknown s m ∷ unless_lines s l ∷ unless_lines s m ∷ []) s o)
      (last_case s (nat_lt 1000000 (length pairs)) no.Many (map pair_line pairs))

  pub crossings_refused : (code : Code) → AreNotLines s l m code → (answer s (commands.Crossings l m)).reply ≡ Refused code
  crossings_refused code first = ap (λ (o : Outcome). o.reply) crossings_are ∙ first [] (nothing_done s (crossed (segs_in (layer s l)) (segs_in (layer s m))))

  module _ (t u : ℕ) (a b : SegMap) (cover other : BlockSet) (got : finmap.get s.work l ≡ Some (Lines t a cover))
      (has : finmap.get s.work m ≡ Some (Lines u b other)) where
    abbrev crossings_with : Option Layer → Option Layer → Reply
    crossings_with o p =
        (unless ((is_none o, no.Unknown) ∷ (is_none p, no.Unknown) ∷ (not (is_lines o), no.Kind) ∷ (not (is_lines p), no.Kind) ∷ []) s
        (nothing_done s (crossed (segs_in o) (segs_in p)))).reply

    pub crossings_done : (answer s (commands.Crossings l m)).reply ≡ crossed a b
    crossings_done = ap (λ (o : Outcome). o.reply) crossings_are ∙ (λ i. crossings_with (got i) (has i))
