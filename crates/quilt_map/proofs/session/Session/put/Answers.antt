use Rattle.std.proofs.Common.{ap}
use Rattle.std.specs.Map.{keys_of}
use Rattle.quilt_pool.specs.Views.{entries_of}
use Rattle.quilt_pool.specs.declared.pool.Pool.{Pool}
use Rattle.quilt_map.specs.Sessions.{IsAt}
use Rattle.quilt_map.proofs.questions.Warming.{warm_as}
use Rattle.quilt_edition.proofs.TextSteps.{put}
use Rattle.quilt_map.proofs.states.Moving.{text_at}
use Rattle.quilt_map.proofs.session.Session.put.Goals as goal

pub returns-clause-at : goal.returns-clause-at
unfolding IsAt
returns-clause-at g c = λ s at.
    let same = c.put.ensures.same in
    let told = c.put.ensures.told in record {
      at = text_at c.args.self.now c.put.new.self s c.put.ensures.same c.put.ensures.told (put _ _ _ _ c.put.ensures.put c.put.ensures.nothing)
          (g.met.W.Disk.is_consistent c.put.new.self.world) at.at;
      warm = warm_as c.args.self.now.warm c.args.self.now.catalog _ _ _ _ _ _ told same.work (ap (λ (p : Pool). keys_of (entries_of p)) same.pool) at.warm;
    }
