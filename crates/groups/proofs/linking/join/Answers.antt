-- Two trees become one: the later root is put below the earlier, and the labels follow by their laws.
use mathlib.Core.Path.{◌∙◌}
use native.Mathlib.Omega.{arith}
use Rattle.groups.specs.ForestLaws.{forest-set, rep-roots, rep-cousins}
use Rattle.groups.proofs.linking.join.Goals as goal

pub returns-then-p-c : goal.returns-then-p-c
returns-then-p-c c =
    let a = c.args.a in
    let b = c.args.b in
    let f = c.requires.2 in
    let u = c.find-x in
    let v = c.find-y in (
      forest-set _ _ _ f (omega (arith, f.down a, f.down b)) (omega arith),
      λ n L m la lb r. rep-roots n c.args.p.now L f r m a b u.result v.result la lb
          (u.ensures.2 n L (omega (arith, f.down a)) r ∙ rw c.from-c.ensures (r.same a la))
          (v.ensures.2 n L (omega (arith, f.down b)) r ∙ rw c.from-d.ensures (r.same b lb))
          u.ensures.1 v.ensures.1 _ _ c.max.ensures c.min.ensures,
    )

pub returns-else-p-c : goal.returns-else-p-c
returns-else-p-c c = (
  c.requires.2,
  λ n L k la lb r. rep-cousins n c.args.p.now L c.requires.2 r c.args.a c.args.b la lb
      (rw (c.from-c.ensures, c.from-d.ensures) at c.if-p-c.false),
)
