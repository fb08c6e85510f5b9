-- The first entry with the name is that of the layer.
use Rattle.quilt_map.proofs.states.Catalogs.{if_some, none_named, one_named, no_layer, layer_at, some_entry}
use Rattle.quilt_map.proofs.entries.index_of.Goals as goal

pub returns-clause-others : goal.returns-clause-others
returns-clause-others c = none_named c.args.entries.now c.args.name.now c.place_of.result c.place_of.ensures

pub returns-clause-none : goal.returns-clause-none
returns-clause-none c none layers numbers is =
    no_layer layers numbers c.args.entries.now c.args.name.now is (none_named c.args.entries.now c.args.name.now c.place_of.result c.place_of.ensures none)

pub returns-clause-some : goal.returns-clause-some
returns-clause-some c =
    if_some _ c.place_of.result
    (λ i at layers numbers is.
    let p = one_named c.args.entries.now c.args.name.now c.place_of.result c.place_of.ensures i at some_entry in
    layer_at layers numbers c.args.entries.now c.args.name.now i some_entry is p.0 p.1)
