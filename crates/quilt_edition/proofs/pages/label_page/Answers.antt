use Rattle.quilt_world.specs.Home.{file_label}
use Rattle.quilt_edition.proofs.pages.label_page.Goals as goal

pub returns : goal.returns
unfolding file_label
returns c = c.page_of.ensures
