use Rattle.quilt_lines.specs.Searches.{last_pixel_key}
use Rattle.quilt_lines.proofs.Around.{seen_record}
use Rattle.quilt_lines.proofs.Found.{floor_known}
use Rattle.quilt_lines.proofs.view.LineView.block_seen.Goals as goal

pub returns-in-Some : goal.returns-in-Some
returns-in-Some c told t segs cover is h =
    let self = c.args.self.now in
    let at = c.args.search.now.at in
    let w = seen_record told self.tree self.level self.layer at c.args.search.now.home c.in-Some.r c.in-Some.ensures is.home in
    floor_known told self.tree self.layer self.level t segs cover (last_pixel_key self.level self.layer at) w.0 c.in-Some.r c.block_of.result w.1 w.2
    c.block_of.ensures h
