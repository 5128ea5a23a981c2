-- The first of some places.
--
--   least p ps          the first in order of p and ps, found in one pass
use Rattle.std.specs.Prelude.{cond, List, [], ◌∷◌}
use Rattle.rules.specs.Page.{Point}
use Rattle.rules.specs.Shapes.{before}

unfoldable pub least : Point → List Point → Point
least p [] = p
least p (q ∷ qs) = least (cond (before q p) q p) qs
