-- The pages that the answer to a command reads, as all calls of the session say it.
use Rattle.std.proofs.Common.{◌≡◌, ℕ, ◌+◌, ◌≤◌, true, List, Option, Some, None, is_some, Result, Ok, Err, refl, sym, subst}
use Rattle.std.specs.Prelude.{IfOk}
use Rattle.quilt_types.specs.declared.plane.Pixel.{Pixel}
use Rattle.quilt_types.specs.declared.plane.Window.{Window}
use Rattle.quilt_types.specs.declared.stop.Stop.{Stop}
use Rattle.quilt_words.specs.declared.command.Command.{Command}
use Rattle.quilt_words.specs.declared.command.Command.TheVariants as commands
use Rattle.quilt_world.specs.Tale.{Goes}
use Rattle.quilt_region.specs.Covers.{IsSideOver}
use Rattle.quilt_replies.specs.Answers.{State, layer, grid_in, segs_in, cover_in}
use Rattle.quilt_replies.specs.declared.reply.Reply.{Reply}
use Rattle.quilt_map.specs.Costs.{cut_pages}
use Rattle.quilt_map.specs.Derivation.{layers_derived}
use Rattle.quilt_map.specs.Measuring.{layer_measured}
use Rattle.quilt_map.specs.Reading.{IsAnsweredOk, IsReplied, IsPromised, ReadsFew, warm_left}
use Rattle.quilt_map.specs.Selecting.{layer_asked, HasFound, IsAnswered, pages_for_answer}
use Rattle.quilt_map.proofs.answers.Asked.{if_ok}

-- what measures a layer has no bound
pub measured_never : (c : Command) (r : Result Reply Stop) → is_some (layer_measured c) ≡ true → (s : State) → IsPromised s c r → ⊥
measured_never commands.Layers r is s promised = promised
measured_never c r is s promised = first_of (search, cc)

-- a bound that holds where it is answered
pub where_answered : (At P : State → Type 0) (r : Result Reply Stop) → IfOk r (λ reply. (s : State) → At s → IsAnswered reply → P s) → (s : State) → At s
    → IsAnsweredOk r → P s
where_answered At P (Ok reply) h s at answered = h s at answered
where_answered At P (Err e) h s at answered = absurd answered

module _ (At : State → Type 0) (before now : Option ℕ) where
  replied_now : (P : State → Type 0) (r : Result Reply Stop) → IfOk r (λ reply. (s : State) → At s → P s) → (s : State) → At s → IsReplied r → P s
  replied_now P (Ok reply) h s at replied = h s at
  replied_now P (Err e) h s at replied = absurd replied

  -- of the commands that make a layer of another one, the one that cuts a window has a bound
  pub derived_reads : (c : Command) (r : Result Reply Stop) → is_some (layers_derived c) ≡ true
      → IfOk r (λ reply. (s : State) → At s → (side : ℕ) (x y : List ℕ) (v : Window) → c ≡ commands.Window x v y → IsSideOver v side
      → Goes (λ old new. new ≤ old + cut_pages s.last.level (grid_in (layer s x)) side v) before now)
      → (s : State) → At s → IsPromised s c r → ReadsFew s c before now
  derived_reads (commands.Window a w b) r is h s at promised =
      replied_now (λ (s : State). (side : ℕ) → IsSideOver w side → Goes (λ old new. new ≤ old + cut_pages s.last.level (grid_in (layer s a)) side w) before now)
      r (if_ok _ _ r (λ reply p s at side over. p s at side a b w refl over) h) s at promised
  derived_reads c r is h s at promised = first_of (search, cc)

  -- what the call says that asks for segments
  abbrev Costs : Command → List ℕ → Result Reply Stop → Type 0
  Costs c l r =
      IfOk r (λ reply. (s : State) → At s → HasFound c (segs_in (layer s l)) → IsAnswered reply
      → Goes (λ old new. new ≤ old + pages_for_answer s.last.level c (segs_in (layer s l)) (cover_in (layer s l))) before now)

  costs_now : (c : Command) (l : List ℕ) (r : Result Reply Stop) → Costs c l r → (s : State) → At s → HasFound c (segs_in (layer s l)) → IsAnsweredOk r
      → Goes (λ old new. new ≤ old + pages_for_answer s.last.level c (segs_in (layer s l)) (cover_in (layer s l))) before now
  costs_now c l (Ok reply) h s at found answered = h s at found answered
  costs_now c l (Err e) h s at found answered = absurd answered

  pub ask_reads : (c : Command) (l : List ℕ) (r : Result Reply Stop) → layer_asked c ≡ Some l → Costs c l r → (s : State) → At s → IsPromised s c r
      → ReadsFew s c before now
  ask_reads (commands.Cross a w) l r is h s at promised =
      let same : a ≡ l = cc in costs_now (commands.Cross a w) a r (subst (λ (x : List ℕ). Costs (commands.Cross a w) x r) (sym same) h) s at tt promised
  ask_reads (commands.Clip a w) l r is h s at promised =
      let same : a ≡ l = cc in costs_now (commands.Clip a w) a r (subst (λ (x : List ℕ). Costs (commands.Clip a w) x r) (sym same) h) s at tt promised
  ask_reads (commands.Nearest a p) l r is h s at promised =
      let same : a ≡ l = cc in costs_now (commands.Nearest a p) a r (subst (λ (x : List ℕ). Costs (commands.Nearest a p) x r) (sym same) h) s at tt promised
  ask_reads (commands.Rank a p k) l r is h s at promised =
      let same : a ≡ l = cc in costs_now (commands.Rank a p k) a r
      (subst (λ (x : List ℕ). Costs (commands.Rank a p k) x r) (sym same) h) s at promised.1 promised.0
  ask_reads c l r is h s at promised = cc

-- ---- commands that ask for no colour
pub warm_none : (c : Command) (r : Result Reply Stop) → ((a : List ℕ) (p : Pixel) → c ≡ commands.At a p → ⊥) → None ≡ warm_left c r
warm_none (commands.At a p) r not_at = absurd (not_at a p refl)
warm_none c r not_at = refl
