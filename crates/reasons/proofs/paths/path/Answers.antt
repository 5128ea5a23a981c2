-- A cell off the page has no path; otherwise the search, and the way back.
use Rattle.reasons.proofs.MemoryLaws.{naming-none}
use Rattle.reasons.proofs.PathLaws.{path-off-a, path-off-b}
use Rattle.reasons.proofs.paths.path.Goals.{Start, then-h-w-via-then-h-w, then-h-w-via-else-h-w+then-h-w-2}
use Rattle.reasons.proofs.paths.path.Goals as goal

pub returns-then-h-w : goal.returns-then-h-w
returns-then-h-w c =
    let a = c.args in
    elim c.then-h-w.branch [
      | then-h-w-via-then-h-w w ↦
          rw (path-off-a a.h a.w a.borders.now a.a a.b w.if-h-w.true) (naming-none c.requires.2)
      | then-h-w-via-else-h-w+then-h-w-2 w ↦
          rw (path-off-b a.h a.w a.borders.now a.a a.b w.if-h-w-2.true) (naming-none c.requires.2)
    ]
