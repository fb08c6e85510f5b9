use Rattle.std.proofs.Common.{◌≡◌, ◌≤◌, ◌*◌, ◌-◌, ◌++◌, length, map, drop, Ok}
use Rattle.quilt_words.specs.Forms.{◌>>=◌}
use Rattle.quilt_words.specs.Pairs.{pairs_in}
use Rattle.quilt_words.proofs.recolour.parse_pairs.Given as goal

abbrev pub invariant-loop-i : goal.invariant-loop-i
invariant-loop-i l = record {
  number : 2 * length l.pairs ≡ l.i;
  within : l.i ≤ length l.words;
  is : pairs_in l.format (map (λ w. w.now) l.words) ≡ (pairs_in l.format (map (λ w. w.now) (drop l.i l.words)) >>= λ ps. Ok (l.pairs ++ ps));
}

abbrev pub decreases-loop-i : goal.decreases-loop-i
decreases-loop-i l = length l.words - l.i
