-- A layer that stays under its name and becomes another of its kind: a plan of the work, and what its command is answered.
use Rattle.std.proofs.Common.{◌≡◌, ℕ, ◌≤◌, List, [], length, Option, Some, None, refl, sym, subst, arith}
use Rattle.std.specs.FinMap as finmap
use Rattle.quilt_types.specs.Facts.{records}
use Rattle.quilt_types.specs.Layers.{Layer, IsLayer}
use Rattle.quilt_world.specs.declared.disk.Disk as disk
use Rattle.quilt_record.specs.declared.entry.Entry.{Entry}
use Rattle.quilt_record.specs.declared.record.Record.{Record}
use Rattle.quilt_record.specs.Records.{Numbering, capacity_of}
use Rattle.quilt_spell.specs.Catalogued.{IsCatalogOf, kind_of}
use Rattle.quilt_spell.specs.Changing.{KeepsCapacity, LeadsTo, with_layer, with_number}
use Rattle.quilt_spell.specs.Stepping.{IsPlaced}
use Rattle.quilt_spell.specs.Written.{number_of}
use Rattle.quilt_region.specs.Laws as regions
use Rattle.quilt_edition.specs.declared.book.Book.{Book}
use Rattle.quilt_replies.specs.Answers.{State, Outcome, Done, with}
use Rattle.quilt_replies.specs.Runs.{text_of}
use Rattle.quilt_replies.specs.declared.reply.Reply.TheVariants as given
use Rattle.quilt_map.specs.Asking.{IsStill}
use Rattle.quilt_map.specs.Making.{AnsweredBy, layer_placed}
use Rattle.quilt_map.specs.Planning.{IsLayerPlan, IsAmendment, HasLayer}
use Rattle.quilt_map.specs.Sessions.{IsAtState}
use Rattle.quilt_map.specs.declared.session.Session.{Session}
use Rattle.quilt_map.proofs.answers.Answered.{keeps_at}
use Rattle.quilt_map.proofs.states.Catalogs.{catalog_stays}
use Rattle.quilt_map.proofs.states.ChangeSteps.{counted}
use Rattle.quilt_map.proofs.states.Moving.{IsLawful, with_book}
use Rattle.quilt_map.proofs.answers.Placing.{placed_within}

module _ {W : Type 0} {D : disk.Ghosts W} (session : Session W D) (s : State) (at : IsAtState session s) where
  -- the layer under the name becomes another of its kind
  pub amendment : (name : List ℕ) (number : ℕ) (old new : Layer) → finmap.get s.work name ≡ Some old → number ≡ number_of at.work.numbers name
      → kind_of old ≡ kind_of new → capacity_of old ≡ capacity_of new
      → IsLayer s.last.format s.last.level new → (removed added : List Record) → regions.IsRegionPlan s.last.level name number (Some old) (Some new) removed added
      → IsAmendment s at.work.numbers session.catalog name number new removed added
  amendment name number old new got here kind capacity fits removed added plan = record {
    plan = record {
      step = record {
        fits = fits;
        kept = subst (λ (o : Option Layer). KeepsCapacity o (Some new)) (sym got) capacity;
        placed = subst (λ (o : Option Layer). IsPlaced s.work at.work.numbers name number o) (sym got) here;
        leads = subst (λ (o : Option Layer). LeadsTo s.last.level name number o (Some new) removed added) (sym got) plan.leads;
      };
      some = λ e none. some_none new none;
      removed_ascend = plan.removed_ascend;
      added_ascend = plan.added_ascend;
    };
    catalog = catalog_stays s.work at.work.numbers session.catalog at.work.catalog name old new number got kind (sym here);
  }
    where
      some_none : (l : Layer) → Some l ≡ None → ⊥
      some_none l e = cc

  -- what does not make more records stays within the quota
  pub never_more : (name : List ℕ) (number : ℕ) (layer : Layer) (removed added : List Record)
      → IsLayerPlan s at.work.numbers name number (Some layer) removed added → length added ≤ length removed
      → records s.last.level (with s name layer) ≤ s.quota
  never_more name number layer removed added plan fewer =
      let c = counted session s at name number (Some layer) removed added plan in
      let q = at.quota in
      let most = session.book.next.records in
      omega arith

-- the same with other names for the lists, and for the entries
pub planned_as : (s : State) (numbers : Numbering) (entries : List Entry) (name : List ℕ) (number : ℕ) (new : Layer) (removed added : List Record)
    → IsAmendment s numbers entries name number new removed added
    → (go come : List Record) → go ≡ removed → come ≡ added → IsLayerPlan s numbers name number (Some new) go come
planned_as s numbers entries name number new removed added is go come same_go same_come =
    subst (λ (rs : List Record). IsLayerPlan s numbers name number (Some new) rs come) (sym same_go)
    (subst (λ (rs : List Record). IsLayerPlan s numbers name number (Some new) removed rs) (sym same_come) is.plan)

pub entries_as : (s : State) (numbers : Numbering) (name : List ℕ) (number : ℕ) (new : Layer) (entries now : List Entry) → now ≡ entries
    → IsCatalogOf (with_layer s.work name (Some new)) (with_number numbers name number (Some new)) entries
    → IsCatalogOf (with_layer s.work name (Some new)) (with_number numbers name number (Some new)) now
entries_as s numbers name number new entries now same is =
    subst (IsCatalogOf (with_layer s.work name (Some new)) (with_number numbers name number (Some new))) (sym same) is

-- the layer stands, and the entries are as they were
module _ {W : Type 0} {D : disk.Ghosts W} where
  pub amended_answer : (old new : Session W D) (s : State) (name : List ℕ) (layer : Layer) (text : List ℕ) → HasLayer old new s name (Some layer) new.catalog
      → text ≡ text_of (Done []) → AnsweredBy s (layer_placed s name layer) old new (given.Ok text)
  amended_answer old new s name layer text has told =
      subst (λ (o : Outcome). AnsweredBy s o old new (given.Ok text)) (sym (placed_within s name layer has.within))
      (record { tells = (told, refl); at = has.at; count = has.count })

-- once the layer was read
module _ {W : Type 0} {D : disk.Ghosts W} (old : Session W D) (s : State) (at : IsAtState old s) (b : Book W D) (still : IsStill old.book b)
    (law : IsLawful (D.size b.world) (D.told b.world)) where
  pub mid_at : IsAtState (with_book old b) s
  mid_at = keeps_at {D = D} old b old.warm s still law at
