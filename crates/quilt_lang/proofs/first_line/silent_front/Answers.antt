use Rattle.std.proofs.Common.{ℕ, ◌+◌, List, [], false, drop, arith, length-drop}
use Rattle.std.proofs.lemmas.List.{drop-drop}
use Rattle.quilt_words.proofs.Slices.{behind}
use Rattle.quilt_lang.proofs.Counts.{uncut_first}
use Rattle.quilt_lang.proofs.Pieces.{gives_then}
use Rattle.quilt_lang.proofs.first_line.silent_front.Goals as goal

pub loop-k-preserved : goal.loop-k-preserved
loop-k-preserved c =
    let text : List ℕ = c.args.text.now in
    let from = c.loop-k.from in
    let found = rw (behind from text) at c.in-Silent.ensures in
    record {
      within = omega (arith, found.1, length-drop from text);
      gives = λ n. gives_then false n [] [] text (drop from text) (drop (from + c.in-Silent.k) text) (c.loop-k.invariant.gives n)
          (rw (drop-drop c.in-Silent.k from text) at (found.2 n));
      uncut = uncut_first (drop (from + c.in-Silent.k) text);
    }
