-- `on_page` meets its contract, test by test.
use Rattle.page.specs.Grammar.{on_page}
use borrow.Author.Tests.{lt-ltb, le-ltb}
use Rattle.page.proofs.whole.on_page.Goals as goal

pub returns-then-c-h : goal.returns-then-c-h
unfolding on_page
returns-then-c-h c = simp (lt-ltb _ _ c.if-c-h.true)

pub returns-else-c-h : goal.returns-else-c-h
unfolding on_page
returns-else-c-h c = simp (le-ltb _ _ c.if-c-h.false)
