use Rattle.std.proofs.Common.{◌≡◌, ◌≤◌, ◌<◌, ◌∙◌, sym, ap, subst, length, lit<}
use Rattle.std.specs.List.{insert, position_or_len}
use Rattle.std.specs.Ordering.{is_lt}
use Rattle.quilt_record.specs.Catalogs.{IsCatalog, name_cmp, with_entry}
use Rattle.quilt_record.proofs.Entries.{placed, place_most, catalog_with}
use Rattle.quilt_record.proofs.catalog.Catalog.insert.Goals as goal

pub insert-requires : goal.insert-requires
insert-requires c = (
  lit< tt,
  (
    subst (λ i. i ≤ length c.self.inside.entries.items)
        (sym (c.place_of-i.ensures ∙ ap (position_or_len (λ f. is_lt (name_cmp c.args.e.name f.name))) c.deref.ensures.0))
        (place_most (λ f. is_lt (name_cmp c.args.e.name f.name)) c.self.inside.entries.items),
    subst (λ es. length es < 255) (sym c.self.view_is) c.requires.room,
  ),
)

inserted : (c : goal.After-insert) → c.insert.new.self.items ≡ with_entry c.args.e c.args.self.now
inserted c =
    c.insert.ensures.items
    ∙ ap (λ i. insert c.self.inside.entries.items i c.args.e)
    (c.place_of-i.ensures ∙ ap (position_or_len (λ f. is_lt (name_cmp c.args.e.name f.name))) c.deref.ensures.0)
    ∙ placed c.args.e c.self.inside.entries.items ∙ ap (with_entry c.args.e) c.self.view_is

pub invariant_of-self : goal.invariant_of-self
invariant_of-self c =
    subst IsCatalog (sym (inserted c)) (catalog_with c.args.e c.args.self.now (subst IsCatalog c.self.view_is c.self.invariant) c.requires.room c.requires.new)

pub returns : goal.returns
returns c = inserted c
