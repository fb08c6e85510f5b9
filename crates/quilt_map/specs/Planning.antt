-- What a plan of records makes of the work.
use Rattle.std.specs.Prelude.{◌≡◌, ℕ, ◌+◌, ◌<◌, ◌≤◌, min, Bool, true, false, List, Option, Some, None}
use Rattle.std.specs.FinMap as finmap
use Rattle.quilt_types.specs.Facts.{records, changes}
use Rattle.quilt_types.specs.Layers.{Layer}
use Rattle.quilt_world.specs.declared.disk.Disk as disk
use Rattle.quilt_record.specs.declared.entry.Entry.{Entry}
use Rattle.quilt_record.specs.declared.record.Record.{Record}
use Rattle.quilt_record.specs.Records.{Numbering}
use Rattle.quilt_node.specs.Pages.{is_ascending}
use Rattle.quilt_node.specs.Nodes.{keys_of}
use Rattle.quilt_spell.specs.Catalogued.{IsCatalogOf}
use Rattle.quilt_spell.specs.Changing.{with_layer, with_number}
use Rattle.quilt_spell.specs.Stepping.{IsStep}
use Rattle.quilt_replies.specs.Answers.{State}
use Rattle.quilt_map.specs.declared.session.Session.{Session}
use Rattle.quilt_map.specs.Sessions.{IsAtWith, IsAtState, last_count}

-- the records that go and come, each in the order of keys, make the layer under the name the new one, or none
pub record IsLayerPlan (s : State) (numbers : Numbering) (name : List ℕ) (number : ℕ) (new : Option Layer) (removed added : List Record) : Type 0 where
  pub step : IsStep s.last.format s.last.level s.work numbers name number new removed added
  pub some : finmap.get s.work name ≡ None → new ≡ None → ⊥
  pub removed_ascend : is_ascending (keys_of removed) ≡ true
  pub added_ascend : is_ascending (keys_of added) ≡ true

-- the records that go and come make the layer under the name the new one, and the entries stay those of the map
pub record IsAmendment (s : State) (numbers : Numbering) (entries : List Entry) (name : List ℕ) (number : ℕ) (new : Layer)
    (removed added : List Record) : Type 0 where
  pub plan : IsLayerPlan s numbers name number (Some new) removed added
  pub catalog : IsCatalogOf (with_layer s.work name (Some new)) (with_number numbers name number (Some new)) entries

-- the state with the layer under the name changed
abbrev pub changed_state : State → List ℕ → Option Layer → State
changed_state s name new = record { quota = s.quota; last = s.last; work = with_layer s.work name new }

module _ {W : Type 0} {D : disk.Ghosts W} where
  -- the work has the new layer, with its catalog not yet renewed
  pub record HasLayer (old new : Session W D) (s : State) (name : List ℕ) (layer : Option Layer) (entries : List Entry) : Type 0 where
    pub at : IsAtWith new entries (changed_state s name layer)
    pub within : records s.last.level (with_layer s.work name layer) ≤ s.quota
    pub count : new.changes ≡ min (old.changes + changes s.last.level s.work (with_layer s.work name layer)) last_count

  -- the map would be too large, and nothing has changed
  pub record IsFull (old new : Session W D) (s : State) (name : List ℕ) (layer : Option Layer) : Type 0 where
    pub at : IsAtState new s
    pub past : s.quota < records s.last.level (with_layer s.work name layer)
    pub count : new.changes ≡ old.changes

  -- what became of a change, true where it was made
  abbrev pub HasChanged : Bool → Session W D → Session W D → State → List ℕ → Option Layer → List Entry → Type 0
  HasChanged true old new s name layer entries = HasLayer old new s name layer entries
  HasChanged false old new s name layer entries = IsFull old new s name layer
