-- What is accepted means what the paper says.
use Prim.Native.Nat.{ℕ}
use native.Mathlib.Omega.{arith}
use mathlib.Core.Path.{sym, ◌∙◌}
use mathlib.Core.List.{List}
use Rattle.ranks.specs.Promise.{Lent, Ranked, Promise}
use Rattle.ranks.specs.Meaning.{Meant}
use Rattle.std.proofs.Common.{Ok}
use Rattle.ranks.proofs.Meaning.{rank-least, rank_most, rank-ties, rank_rises, percentile-nearest}

-- ranks and percentiles as they are defined do
pub ranked-means : (values : List ℕ) (after : Lent) → Ranked values after → Meant values after
ranked-means values after w =
    record {
      ranks_long = w.ranks_long;
      percentiles_long = w.percentiles_long;
      least = λ i l. omega (arith, w.ranks_are i l, rank-least values i l);
      most = λ i l. omega (arith, w.ranks_are i l, rank_most values i);
      ties = λ i j l k e. w.ranks_are i l ∙ rank-ties values i j e ∙ sym (w.ranks_are j k);
      rises = λ i j l k e. omega (arith, w.ranks_are i l, w.ranks_are j k, rank_rises values i j k e);
      rounded = λ i l. rw (w.ranks_are i l, w.percentiles_are i l) (percentile-nearest values i l);
    }

-- and an answer that accepts says that they are filled in
pub means : (values : List ℕ) (before after : Lent) → Promise values before (Ok tt) after → Meant values after
means values before after h = ranked-means values after h.leaves
