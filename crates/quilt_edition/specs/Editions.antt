-- The laws of files and editions.
use Rattle.std.specs.Prelude.{◌≡◌, ℕ, ◌==◌, true, List, [], length, slice_index_or}
use Rattle.std.specs.List.{list_any}
use Rattle.quilt_types.specs.Layers.{Edition}
use Rattle.quilt_world.specs.Home.{page_of}
use Rattle.quilt_edition.specs.Stands.{HoldsEdition, Stands}

-- a file stands for one edition at most
abbrev pub OneEditionLaw : Type 0
OneEditionLaw = (image : List (List ℕ)) (d e : Edition) → Stands image d → Stands image e → d ≡ e

-- Home pages hold the edition that others hold, where they have the same header and the same bytes in each page of the others' tree.
abbrev pub SameEditionLaw : Type 0
SameEditionLaw =
    (pages others : List (List ℕ)) (e : Edition) (h : HoldsEdition others e) → length pages ≡ length others
    → page_of pages 0 ≡ page_of others 0
    → ((p : ℕ) → list_any (λ v. v == p) h.visited ≡ true → slice_index_or pages p [] ≡ slice_index_or others p [])
    → HoldsEdition pages e
