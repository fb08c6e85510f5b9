-- The tests that come before a command does anything.
use Rattle.std.proofs.Common.{◌≡◌, ℕ, ◌<◌, ◌≤◌, Bool, true, false, List, [], ◌∷◌, Option, Some, None, is_some, is_none, not, ◌∙◌, ap}
use Rattle.std.proofs.lemmas.Bool.{lt-leb, le-leb}
use Rattle.std.specs.FinMap as finmap
use Rattle.quilt_types.specs.Layers.{Layer, Region, Grid}
use Rattle.quilt_types.specs.declared.code.Code.{Code}
use Rattle.quilt_types.specs.declared.code.Code.TheVariants as no
use Rattle.quilt_replies.specs.Answers.{State, Outcome, Reply, Refused, Done, unless, exists, too_many, unknown, unless_region, unless_points, unless_lines}
use Rattle.quilt_replies.specs.Answers.{is_region}
use Rattle.quilt_map.specs.Asking.{IsRefusedFirst}
use Rattle.quilt_map.specs.LineLayers.{IsNoLines}
use Rattle.quilt_map.specs.Making.{refused}
use Rattle.quilt_map.specs.PointLayers.{IsNoPoints}

abbrev Tests : Type 0
Tests = List (Bool × Code)

pub first_true : (b : Bool) (code : Code) (rs : Tests) (s : State) (done : Outcome) → b ≡ true → unless ((b, code) ∷ rs) s done ≡ refused s code
first_true b code rs s done e = ap (λ (c : Bool). unless ((c, code) ∷ rs) s done) e

pub first_false : (b : Bool) (code : Code) (rs : Tests) (s : State) (done : Outcome) → b ≡ false → unless ((b, code) ∷ rs) s done ≡ unless rs s done
first_false b code rs s done e = ap (λ (c : Bool). unless ((c, code) ∷ rs) s done) e

-- where the first two tests refuse with the code, nothing else is done
two_tests : (b c : Bool) (k l code : Code) (s : State) → ((rs : Tests) (done : Outcome) → (unless ((b, k) ∷ (c, l) ∷ rs) s done).reply ≡ Refused code)
    → (rs : Tests) (done : Outcome) → unless ((b, k) ∷ (c, l) ∷ rs) s done ≡ refused s code
two_tests true c k l code s h rs done = ap (λ (r : Reply). record { reply = r; work = s.work; published = None }) (h rs done)
two_tests false true k l code s h rs done = ap (λ (r : Reply). record { reply = r; work = s.work; published = None }) (h rs done)
two_tests false false k l code s h rs done = absurd (other (h [] (record { reply = Done []; work = s.work; published = None })))
  where
    other : Done [] ≡ Refused code → ⊥
    other e = cc

pub region_refused : (s : State) (name : List ℕ) (code : Code) → IsRefusedFirst s name code → (rs : Tests) (done : Outcome)
    → unless (unknown s name ∷ unless_region s name ∷ rs) s done ≡ refused s code
region_refused s name code first = two_tests (unknown s name).0 (unless_region s name).0 no.Unknown no.Kind code s first

pub points_refused : (s : State) (name : List ℕ) (code : Code) → IsNoPoints s name code → (rs : Tests) (done : Outcome)
    → unless (unknown s name ∷ unless_points s name ∷ rs) s done ≡ refused s code
points_refused s name code first = two_tests (unknown s name).0 (unless_points s name).0 no.Unknown no.Kind code s first

pub lines_refused : (s : State) (name : List ℕ) (code : Code) → IsNoLines s name code → (rs : Tests) (done : Outcome)
    → unless (unknown s name ∷ unless_lines s name ∷ rs) s done ≡ refused s code
lines_refused s name code first = two_tests (unknown s name).0 (unless_lines s name).0 no.Unknown no.Kind code s first

-- a region layer is there
pub region_passes : (s : State) (name : List ℕ) (g : Grid) (rs : Tests) (done : Outcome) → finmap.get s.work name ≡ Some (Region g)
    → unless (unknown s name ∷ unless_region s name ∷ rs) s done ≡ unless rs s done
region_passes s name g rs done at = ap (λ (o : Option Layer). unless ((is_none o, no.Unknown) ∷ (not (is_region o), no.Kind) ∷ rs) s done) at

pub exists_not : (s : State) (name : List ℕ) → finmap.get s.work name ≡ None → (exists s name).0 ≡ false
exists_not s name at = ap (λ (o : Option Layer). is_some o) at

pub few_layers : (s : State) → finmap.len s.work < 255 → (too_many s).0 ≡ false
few_layers s few = lt-leb 255 (finmap.len s.work) few

pub many_layers : (s : State) → 255 ≤ finmap.len s.work → (too_many s).0 ≡ true
many_layers s many = le-leb 255 (finmap.len s.work) many

-- a new layer may come under the name
pub new_passes : (s : State) (name : List ℕ) (rs : Tests) (done : Outcome) → ((exists s name).0 ≡ false) × ((too_many s).0 ≡ false)
    → unless (exists s name ∷ too_many s ∷ rs) s done ≡ unless rs s done
new_passes s name rs done passes =
    first_false (exists s name).0 no.Exists (too_many s ∷ rs) s done passes.0 ∙ first_false (too_many s).0 no.Layers rs s done passes.1
