-- What the edits of an inner page make of it.
use Rattle.std.specs.Prelude.{ℕ, suc, ◌-◌, ◌∷◌, ◌++◌, take, drop, slice_set}
use Rattle.std.specs.List.{insert, remove}
use Rattle.quilt_record.specs.declared.key.Key.{Key}
use Rattle.quilt_node.specs.Pages.{Inner}

-- key i is another one
abbrev pub with_key : Inner → ℕ → Key → Inner
with_key inner i k = record { height = inner.height; children = inner.children; keys = slice_set inner.keys i k }

-- a key at place i, and the child behind it
abbrev pub with_child : Inner → ℕ → Key → ℕ → Inner
with_child inner i k child =
    record { height = inner.height; children = insert inner.children (suc i) child; keys = insert inner.keys i k }

-- without key i, and without the child behind it
abbrev pub without_child : Inner → ℕ → Inner
without_child inner i =
    record { height = inner.height; children = remove inner.children (suc i); keys = remove inner.keys i }

-- the first n children, with the keys between them
abbrev pub first_children : ℕ → Inner → Inner
first_children n inner =
    record { height = inner.height; children = take n inner.children; keys = take (n - 1) inner.keys }

-- the children from place n on, with the keys between them
abbrev pub children_from : ℕ → Inner → Inner
children_from n inner =
    record { height = inner.height; children = drop n inner.children; keys = drop n inner.keys }

-- the children of both, with a key between them
abbrev pub joined : Inner → Key → Inner → Inner
joined left k right = record {
  height = left.height;
  children = left.children ++ right.children;
  keys = left.keys ++ k ∷ right.keys;
}
