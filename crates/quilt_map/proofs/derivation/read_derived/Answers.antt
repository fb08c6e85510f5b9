use Rattle.std.proofs.Common.{◌≡◌, ℕ, ◌+◌, ◌≤◌, sym, ◌∙◌, ap, subst}
use Rattle.quilt_types.specs.declared.plane.Window.{Window}
use Rattle.quilt_world.specs.Tale.{Goes}
use Rattle.quilt_region.specs.Covers.{IsSideOver}
use Rattle.quilt_words.specs.declared.command.Command.{Command}
use Rattle.quilt_edition.specs.Books.{work_of}
use Rattle.quilt_map.specs.Asking.{reads_in}
use Rattle.quilt_map.specs.Costs.{show_pages}
use Rattle.quilt_map.specs.Derivation.{derived}
use Rattle.quilt_map.proofs.answers.Asked.{if_ok}
use Rattle.quilt_map.proofs.answers.Parts.{cut_same}
use Rattle.quilt_map.proofs.layers.Derives.{same_window}
use Rattle.quilt_map.proofs.derivation.read_derived.Goals as goal

pub returns-in-Window-clause-list : goal.returns-in-Window-clause-list
returns-in-Window-clause-list g c =
    let n = (work_of c.args.book.now).level in
    if_ok _ _ c.read_part.result (λ list p grid has.
    subst (λ (k : Command). derived k n list.grid ≡ derived k n grid) (sym c.in-Window.is) (cut_same n c.in-Window.w grid list.grid (p grid has)))
    c.read_part.ensures.list

pub returns-in-Window-clause-reads : goal.returns-in-Window-clause-reads
returns-in-Window-clause-reads g c =
    let book = c.args.book.now in
    if_ok _ _ c.read_part.result (λ list p grid side a b w is over has.
    let same = same_window _ _ a b c.in-Window.w w (sym c.in-Window.is ∙ is) in
    subst (λ (v : Window). Goes {A = ℕ} (λ old new. new ≤ old + show_pages (work_of book).level grid side v) (reads_in {D = g.W.Disk} book)
    (reads_in {D = g.W.Disk} c.read_part.new.book)) same
    (p grid side has (subst (λ (v : Window). IsSideOver v side) (sym same) over)))
    c.read_part.ensures.reads

pub returns-in_default : goal.returns-in_default
returns-in_default g c = record {
  list = if_ok _ _ c.read_region.result (λ list p grid has. ap (λ l. derived c.args.command.now (work_of c.args.book.now).level l.grid) (p grid has))
      c.read_region.ensures.list;
  level = c.read_region.ensures.level;
  number = c.read_region.ensures.number;
  sound = c.read_region.ensures.sound;
  still = c.read_region.ensures.still;
  cause = c.read_region.ensures.cause;
  reads = if_ok _ _ c.read_region.result (λ list p grid side a b w is over has. absurd (c.in_default.not-Window a w b is)) c.read_region.ensures.list;
}
