-- One layer of a map, and what its records are: the same for each kind of layer.
use Rattle.std.specs.Prelude.{◌≡◌, ◌⊎◌, ℕ, List, [], ◌∷◌, ◌++◌, Contains}
use Rattle.quilt_types.specs.declared.plane.Kind.{Kind}
use Rattle.quilt_types.specs.Layers.{Layer, IsLayer}
use Rattle.quilt_types.specs.Facts.{Fact, facts}
use Rattle.quilt_loc.specs.Codes.{Rises}
use Rattle.quilt_record.specs.declared.record.Record.{Record}
use Rattle.quilt_record.specs.Records.{record_of, capacity_of}
use Rattle.quilt_spell.specs.Catalogued.{kind_of}
use Rattle.quilt_spell.specs.OfLayer.{kind_fact}
use Rattle.quilt_spell.specs.Written.{by_key}

-- Those of the records that are of the layer with this number are exactly those of its facts, but for that of its kind.
pub record SpellsOne (form n : ℕ) (rs : List Record) (number : ℕ) (layer : Layer) : Type 0 where
  pub fits : IsLayer form n layer
  pub each : (f : Fact) → Contains (facts n layer) f → (f ≡ kind_fact layer) ⊎ Contains rs (record_of n (capacity_of layer) [] number f)
  pub only : (r : Record) → Contains rs r → r.key.layer ≡ number →
      (f : Fact) × Contains (facts n layer) f × (record_of n (capacity_of layer) [] number f ≡ r)

-- the records are those of some layer of this kind
pub record IsLayerOf (form n : ℕ) (rs : List Record) (number : ℕ) (kind : Kind) : Type 0 where
  pub layer : Layer
  pub is : kind_of layer ≡ kind
  pub spelled : SpellsOne form n rs number layer

-- no layer of this kind has these records first and then this one
abbrev pub RefusesRecord : ℕ → ℕ → List Record → ℕ → Kind → Record → Type 0
RefusesRecord form n rs number kind r =
    (rest : List Record) (layer : Layer) → kind_of layer ≡ kind → Rises by_key (rs ++ r ∷ rest)
    → SpellsOne form n (rs ++ r ∷ rest) number layer → ⊥

-- no layer of this kind has these records first and then only records of other layers
abbrev pub IsShort : ℕ → ℕ → List Record → ℕ → Kind → Type 0
IsShort form n rs number kind =
    (rest : List Record) (layer : Layer) → kind_of layer ≡ kind → ((r : Record) → Contains rest r → r.key.layer ≡ number → ⊥)
    → Rises by_key (rs ++ rest) → SpellsOne form n (rs ++ rest) number layer → ⊥
