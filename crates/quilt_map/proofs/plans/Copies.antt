-- Layers of any kind that are dropped or copied.
use Rattle.std.specs.Prelude.{unwrap_or, is_none}
use Rattle.std.proofs.Common.{◌≡◌, ◌≢◌, ℕ, ◌+◌, ◌<◌, ◌≤◌, min, Bool, true, false, List, [], ◌∷◌, length, map, All, Option, Some, None, slice_index_or, refl}
use Rattle.std.proofs.Common.{sym, ◌∙◌, ap, subst, arith}
use Rattle.std.specs.List.{remove}
use Rattle.std.specs.FinMap as finmap
use Rattle.quilt_types.specs.Facts.{changes}
use Rattle.quilt_types.specs.Layers.{Layer, Region, Map, is_name}
use Rattle.quilt_types.specs.declared.code.Code.{Code}
use Rattle.quilt_types.specs.declared.plane.Kind.{Kind}
use Rattle.quilt_types.specs.declared.code.Code.TheVariants as no
use Rattle.quilt_world.specs.Disk.{Pages}
use Rattle.quilt_world.specs.declared.disk.Disk as disk
use Rattle.quilt_record.specs.declared.entry.Entry.{Entry}
use Rattle.quilt_record.specs.declared.record.Record.{Record}
use Rattle.quilt_record.specs.Records.{Numbering, record_of}
use Rattle.quilt_record.specs.Listing.{fact_of_kind}
use Rattle.quilt_node.specs.declared.head.Head.{Head}
use Rattle.quilt_btree.specs.Trees.{IsTree}
use Rattle.quilt_spell.specs.Catalogued.{catalog_entry, kind_of, IsCatalogOf}
use Rattle.quilt_spell.specs.Changing.{KeepsCapacity, LeadsTo, with_layer, with_number}
use Rattle.quilt_spell.specs.Copying.{renumbered}
use Rattle.quilt_spell.specs.Written.{number_of}
use Rattle.quilt_spell.specs.Stepping.{IsPlaced}
use Rattle.quilt_region.specs.Laws as regions
use Rattle.quilt_region.proofs.plans.LayerPlans.{numbers_law, drops_law, copies_law}
use Rattle.quilt_edition.specs.declared.book.Book.{Book}
use Rattle.quilt_words.specs.declared.command.Command.TheVariants as commands
use Rattle.quilt_replies.specs.Answers.{State, Outcome, Refused, Done, answer, unless, exists, too_many, full, with, makes, changed}
use Rattle.quilt_map.specs.Asking.{IsStill}
use Rattle.quilt_map.specs.Commanding.{Answered}
use Rattle.quilt_map.specs.Copying.{BeginsWithEntry, records_numbered}
use Rattle.quilt_map.specs.Making.{AnsweredBy, layer_placed}
use Rattle.quilt_map.specs.Lookups.{IsLayerAt}
use Rattle.quilt_map.specs.Planning.{IsLayerPlan, HasLayer, IsFull, changed_state}
use Rattle.quilt_replies.specs.Runs.{text_of}
use Rattle.quilt_map.specs.Sessions.{IsAtWith, IsAtState, told_of, tree_in, last_count}
use Rattle.quilt_replies.specs.declared.reply.Reply as replies
use Rattle.quilt_replies.specs.declared.reply.Reply.TheVariants as given
use Rattle.quilt_map.specs.declared.session.Session.{Session}
use Rattle.quilt_map.proofs.answers.Asked.{layer_is}
use Rattle.quilt_map.proofs.states.Catalogs.{catalog_goes, some_entry}
use Rattle.quilt_map.proofs.states.ChangeSteps.{at_most, at_spelled, counted}
use Rattle.quilt_map.proofs.plans.NewLayers.{new_plan}
use Rattle.quilt_map.proofs.answers.Outcomes.{nothing_done}
use Rattle.quilt_map.proofs.answers.Placing.{answered_by, answered_from}

-- ---- what the definition answers

pub drop_unknown : (s : State) (a : List ℕ) → finmap.get s.work a ≡ None → answer s (commands.Drop a) ≡ nothing_done s (Refused no.Unknown)
unfolding answer
drop_unknown s a e = ap (λ (o : Option Layer). unless ((is_none o, no.Unknown) ∷ []) s (changed (finmap.remove s.work a))) e

pub drop_gives : (s : State) (a : List ℕ) (l : Layer) → finmap.get s.work a ≡ Some l → answer s (commands.Drop a) ≡ changed (finmap.remove s.work a)
unfolding answer
drop_gives s a l e = ap (λ (o : Option Layer). unless ((is_none o, no.Unknown) ∷ []) s (changed (finmap.remove s.work a))) e

abbrev copy_with : State → List ℕ → Option Layer → Outcome
copy_with s b o = makes s ((is_none o, no.Unknown) ∷ exists s b ∷ too_many s ∷ []) b (unwrap_or o (Region []))

pub copy_unknown : (s : State) (a b : List ℕ) → finmap.get s.work a ≡ None → answer s (commands.Copy a b) ≡ nothing_done s (Refused no.Unknown)
unfolding answer
copy_unknown s a b e = ap (copy_with s b) e

copy_tests : (s : State) (a b : List ℕ) (l : Layer) → finmap.get s.work a ≡ Some l
    → answer s (commands.Copy a b) ≡ unless (exists s b ∷ too_many s ∷ full s (with s b l) ∷ []) s (changed (with s b l))
unfolding answer
copy_tests s a b l e = ap (copy_with s b) e

pub copy_refused : (s : State) (a b : List ℕ) (l : Layer) (code : Code) → finmap.get s.work a ≡ Some l
    → ((rs : List (Bool × Code)) (done : Outcome) → unless (exists s b ∷ too_many s ∷ rs) s done ≡ nothing_done s (Refused code))
    → answer s (commands.Copy a b) ≡ nothing_done s (Refused code)
copy_refused s a b l code e refuses = copy_tests s a b l e ∙ refuses (full s (with s b l) ∷ []) (changed (with s b l))

copy_gives : (s : State) (a b : List ℕ) (l : Layer) → finmap.get s.work a ≡ Some l → (exists s b).0 ≡ false → (too_many s).0 ≡ false
    → answer s (commands.Copy a b) ≡ layer_placed s b l
copy_gives s a b l e new few =
    copy_tests s a b l e ∙ (λ i. unless ((new i, no.Exists) ∷ (few i, no.Layers) ∷ full s (with s b l) ∷ []) s (changed (with s b l)))

none_published : (b : Bool) (s : State) (work : Map) → (unless ((b, no.Full) ∷ []) s (changed work)).published ≡ None
none_published true s work = refl
none_published false s work = refl

-- ---- the entry of the layer

-- what was read of it, with the same name
pub entry_is : (layers : Map) (numbers : Numbering) (entries again : List Entry) (name : List ℕ) (i : ℕ)
    (found : IsLayerAt layers numbers entries name i) → again ≡ entries
    → (x : Entry) → x ≡ slice_index_or again i x → (b : List ℕ) → b ≡ name
    → record { number = x.number; name = b; kind = x.kind } ≡ catalog_entry numbers (name, found.layer)
entry_is layers numbers entries again name i found same x is b named =
    let p : x ≡ catalog_entry numbers (name, found.layer) = is ∙ ap (λ (l : List Entry). slice_index_or l i x) same ∙ found.entry x in
    λ j. record { number = (p j).number; name = named j; kind = (p j).kind }

pub entry_goes : (layers : Map) (numbers : Numbering) (entries : List Entry) (name : List ℕ) (number i : ℕ) → IsCatalogOf layers numbers entries
    → IsLayerAt layers numbers entries name i
    → IsCatalogOf (with_layer layers name None) (with_number numbers name number None) (remove entries i)
entry_goes layers numbers entries name number i catalog found =
    catalog_goes layers numbers entries catalog name number i some_entry found.inside (ap (λ (e : Entry). e.name) (found.entry some_entry))

some_none : {X : Type 0} (x : X) → Some x ≡ None → ⊥
some_none x e = cc

module _ {W : Type 0} {D : disk.Ghosts W} where
  -- the tree before a call that leaves the pages and the head
  pub tree_before : (a b : Book W D) → IsStill a b → (rs : List Record) → IsTree (told_of b) (tree_in b.work) rs → IsTree (told_of a) (tree_in a.work) rs
  tree_before a b still rs tree =
      subst (λ (o : Option Pages). IsTree o (tree_in a.work) rs) still.told (subst (λ (h : Head). IsTree (told_of b) (tree_in h) rs) still.later.2.1 tree)

  module _ (session : Session W D) (s : State) (at : IsAtState session s) where
    pub at_tree : IsTree (told_of session.book) (tree_in session.book.work) at.work.records
    at_tree = subst (λ (o : Option Pages). IsTree o (tree_in session.book.work) at.work.records) (sym at.pages_told) at.work.whole.tree

    -- fewer records than any range may give
    records_fit : length at.work.records ≤ 4294967295
    records_fit = let n = at.work.whole.number in let most = session.book.next.records in let pages = session.book.most in omega arith

    -- the number of a layer's entry
    pub number_least : (name : List ℕ) (layer : Layer) → finmap.get s.work name ≡ Some layer → (e : Entry)
        → e ≡ catalog_entry at.work.numbers (name, layer) → 1 ≤ e.number
    number_least name layer got e is =
        let least = (numbers_law s.last.format s.last.level at.work.numbers at.work.records s.work name layer (at_spelled session s at) got).0 in
        let same = ap (λ (x : Entry). x.number) is in
        omega arith

    -- all records of a layer go
    pub drop_plan : (name : List ℕ) (layer : Layer) → finmap.get s.work name ≡ Some layer → (e : Entry) → e ≡ catalog_entry at.work.numbers (name, layer)
        → (all given : List Record) → given ≡ all → BeginsWithEntry e (records_numbered e.number at.work.records) all → IsLayerPlan s at.work.numbers name e.number None given []
    drop_plan name layer got e is all given same listed =
        subst (λ (l : List Record). IsLayerPlan s at.work.numbers name e.number None l []) (sym same)
        (subst (λ (x : Entry). BeginsWithEntry x (records_numbered x.number at.work.records) all → IsLayerPlan s at.work.numbers name x.number None all [])
        (sym is) by_law listed)
      where
        number : ℕ
        number = number_of at.work.numbers name

        by_law : BeginsWithEntry (catalog_entry at.work.numbers (name, layer)) (records_numbered (number_of at.work.numbers name) at.work.records) all
            → IsLayerPlan s at.work.numbers name (number_of at.work.numbers name) None all []
        by_law l =
            let plan = drops_law s.last.format s.last.level at.work.numbers at.work.records s.work name layer 4294967295 l.0 (at_most session s at)
            (at_spelled session s at) got records_fit l.2 in
            subst (λ (r : List Record). IsLayerPlan s at.work.numbers name (number_of at.work.numbers name) None r []) (sym l.1) (record {
              step = record {
                fits = tt;
                kept = subst (λ (o : Option Layer). KeepsCapacity o None) (sym got) tt;
                placed = subst (λ (o : Option Layer). IsPlaced s.work at.work.numbers name (number_of at.work.numbers name) o) (sym got) refl;
                leads =
                    subst (λ (o : Option Layer). LeadsTo s.last.level name (number_of at.work.numbers name) o None
                    (l.0 ∷ records_numbered (number_of at.work.numbers name) at.work.records) []) (sym got) plan.leads;
              };
              some = λ gone none. some_none layer (sym got ∙ gone);
              removed_ascend = plan.removed_ascend;
              added_ascend = plan.added_ascend;
            })

    -- a map with fewer records is within its quota
    pub never_full : (new : Session W D) (name : List ℕ) (number : ℕ) (gone : List Record) → IsLayerPlan s at.work.numbers name number None gone []
        → IsFull session new s name None → ⊥
    never_full new name number gone plan is =
        let c = counted session s at name number None gone [] plan in
        let q = at.quota in
        let most = session.book.next.records in
        let past = is.past in
        omega arith

    -- the records of a layer come under the number of a new one
    pub copy_plan : (name : List ℕ) (number : ℕ) (layer : Layer) → finmap.get s.work name ≡ Some layer → number ≡ number_of at.work.numbers name
        → (e : Entry) → e.kind ≡ kind_of layer
        → is_name e.name ≡ true → length session.catalog < 255 → All (λ f. f.name ≢ e.name) session.catalog → 1 ≤ e.number → e.number ≤ 255
        → ((other : List ℕ) → finmap.get at.work.numbers other ≢ Some e.number) → (all given : List Record) → given ≡ all
        → BeginsWithEntry e (map (renumbered e.number) (records_numbered number at.work.records)) all → IsLayerPlan s at.work.numbers e.name e.number (Some layer) [] given
    copy_plan name number layer got numbered e kind named few others least most free all given same listed =
        let rest : List Record = map (renumbered e.number) (records_numbered (number_of at.work.numbers name) at.work.records) in
        let is : given ≡ listed.0 ∷ rest = same ∙ listed.1 ∙ ap (λ (k : ℕ). listed.0 ∷ map (renumbered e.number) (records_numbered k at.work.records)) numbered in
        let plan = copies_law s.last.format s.last.level at.work.numbers at.work.records s.work name layer 4294967295 e.name e.number listed.0
        (at_most session s at) (at_spelled session s at) got records_fit least
        (λ n k. listed.2 n k ∙ ap (λ (x : Kind). record_of n k e.name e.number (fact_of_kind x)) kind) in
        new_plan session s at e.name e.number layer given named few others least most free
        (layer_is s.last.format s.last.level s.work (at_spelled session s at).map name layer got)
        (subst (λ (l : List Record). regions.IsRegionPlan s.last.level e.name e.number None (Some layer) [] l) (sym is) plan)

  -- the copy is placed, unless the quota refuses it
  pub copy_answer : (old mid new : Session W D) (s : State) (a b : List ℕ) (l : Layer) (reply : replies.Reply) → finmap.get s.work a ≡ Some l
      → (exists s b).0 ≡ false → (too_many s).0 ≡ false
      → mid.changes ≡ old.changes → AnsweredBy s (layer_placed s b l) mid new reply → Answered s (commands.Copy a b) old new reply
  copy_answer old mid new s a b l reply got fresh few same by =
      answered_by s (commands.Copy a b) (layer_placed s b l) old new reply (copy_gives s a b l got fresh few)
      (none_published (full s (with s b l)).0 s (with s b l)) refl
      (answered_from old mid new s (layer_placed s b l) reply same by)

  -- the layer is gone, with its catalog renewed
  pub drop_answer : (old mid new : Session W D) (s : State) (name : List ℕ) (layer : Layer) (entries : List Entry) (text : List ℕ)
      → finmap.get s.work name ≡ Some layer
      → HasLayer mid new s name None entries → mid.changes ≡ old.changes → text ≡ text_of (Done [])
      → Answered s (commands.Drop name) old (record new { catalog = entries }) (given.Ok text)
  drop_answer old mid new s name layer entries text got has same told =
      answered_by s (commands.Drop name) (changed (finmap.remove s.work name)) old (record new { catalog = entries }) (given.Ok text)
      (drop_gives s name layer got) refl refl (record {
        tells = (told, refl);
        at = renewed has.at;
        count = has.count ∙ ap (λ k. min (k + changes s.last.level s.work (finmap.remove s.work name)) last_count) same;
      })
    where
      renewed : IsAtWith new entries (changed_state s name None) → IsAtState (record new { catalog = entries }) (changed_state s name None)
      renewed at = record {
        tale = at.tale;
        told = at.told;
        lawful = at.lawful;
        ready = at.ready;
        last = at.last;
        pages = at.pages;
        pages_told = at.pages_told;
        work = at.work;
        format = at.format;
        level = at.level;
        quota = at.quota;
        few = at.few;
        bounded = at.bounded;
      }
