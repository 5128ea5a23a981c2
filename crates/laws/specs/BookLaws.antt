-- Laws of the book: what is put last in a sequence of literals and taken off it, what states reads in it, what the book
-- keeps after a list of calls, and its answers.
--
--   states-none         a border that the sequence does not name is undecided
--   names_table         the borders that a sequence names, by its places
--   states-all          where each literal of a sequence holds, the borders that it names have their states by it
--   without-last        taking the last literal off undoes putting it last
--   Clean Z ls          the sequence names borders of the page, none of them twice
--   clean-none, clean-with, clean-without  the empty sequence is so; with a literal put last; with the last taken off
--   decided-mem         a decided border has its literal in the sequence
--   states-exact        exactly the sequence's literals are decided
--   undecided-left      so the undecided borders are those that the sequence leaves
--   after-clean, book-clean  the book's sequence is so
--   from-append, book-append, replies-append  the book and the answers of a list that is followed by another
--   plain-answered      a call that is answered, with a record or none, is so without one
--   alien-after, agreed-after  a record that disagrees leaves the book; with another it goes on as with none
--   undo-takes          an undo takes the last literal off
--   check-leaves, preview-leaves  a check and a preview leave the book as it is
--   preview-follows, preview-refused  a preview is answered as the check after the decide, or refused as the decide
--   preview-decides     the decide of a preview that is answered is done
--   answered-check      an answered call is answered with what check gives of the sequence that it looked at ..
--   looked-clean        .. which names borders of the page, none of them twice
--   replies-refused     the numbers of refused calls, where no memory is short
use Rattle.std.specs.Prelude.{◌≡◌, ◌⊎◌, ◌↔◌, Bool, ◌||◌, ℕ, zero, suc, ◌+◌, ◌<◌, ◌≤◌, eqb, T, length}
use Rattle.std.proofs.Common.{◌∙◌, sym, subst, inl, inr, arith, eq-eqb, ne_eqb, eqb-true, le-ltb, eqb→eq, ltb→lt}
use Rattle.std.proofs.Math.Path.{refl, ap}
use Rattle.std.proofs.Math.Bool.{true, false, cond, or-false}
use mathlib.Core.List.Memᴰ
use mathlib.Core.List.{List, [], ◌∷◌, map, ◌++◌}
use Rattle.std.proofs.lemmas.List.{map-append}
use Rattle.std.proofs.Math.Dec.{ltb, eqb_refl}
use Rattle.lists.specs.Lists.{◌∈◌, any, Distinct}
use Rattle.lists.specs.Tests.{any_below}
use Rattle.lists.specs.Table.{table}
use Rattle.lists.specs.Appends.{any_append}
use Rattle.lists.specs.ListLaws.{any-mem, any-find, mem-map, map-find}
use Rattle.lists.specs.Pairs.{distinct-last}
use Rattle.lists.specs.Count.{count_below}
use Rattle.lists.specs.CountLaws.{count-cong, count-more}
use Rattle.rules.specs.declared.Literal.{Literal}
use Rattle.rules.specs.declared.Call.{Call}
use Rattle.rules.specs.declared.Call.TheVariants.{Decide, Undo, Check, Preview}
use Rattle.rules.specs.Page.{Puzzle, State, undecided, decided, Has, is_undecided}
use Rattle.rules.specs.Check.{Verdict, borders_named, undecided_count, check}
use Rattle.rules.specs.Book.{Asked, ask, Reply, refused, done, answered, Book, fresh_book, state_if, states, names}
use Rattle.rules.specs.Book.{with_last, without_last, bare_or, looked, then_reply, done_book, after_by, decide_reply}
use Rattle.rules.specs.Book.{check_reply, reply_to, or_alien, disagrees, reply, after, book_from, replies_from}
use Rattle.rules.specs.Book.{book_after}
use Rattle.rules.specs.Book.{replies}

pub states-none : (ls : List Literal) (x : ℕ) → names ls x ≡ false → states ls x ≡ undecided
unfolding names any states
states-none [] x e = refl
states-none (l ∷ ls) x e = go (eqb l.border x) e (states-none ls x)
  where
    go : (t : Bool) → t || names ls x ≡ false → (names ls x ≡ false → states ls x ≡ undecided)
        → state_if t (decided l.side) (states ls x) ≡ undecided
    go true p ih = let z : ◌≡◌ {A = Bool} true false = p in cc
    go false p ih = ih p

names-last : (ls : List Literal) (l : Literal) (x : ℕ) → names (with_last ls l) x ≡ names ls x || eqb l.border x
unfolding names any
names-last ls l x =
    any_append (λ (k : Literal). eqb k.border x) ls (l ∷ [])
    ∙ ap (λ (t : Bool). names ls x || t) (or-false (eqb l.border x))

pub names_table : (n : ℕ) (f : ℕ → Literal) (x : ℕ) → names (table n f) x ≡ any_below n (λ i. eqb (f i).border x)
unfolding table any_below names any
names_table zero f x = refl
names_table (suc n) f x =
    names-last (table n f) (f n) x ∙ ap (λ (t : Bool). t || eqb (f n).border x) (names_table n f x)

-- where each literal holds in m, the states of the literals are those of m
pub states-all : (m : ℕ → State) (ls : List Literal) (x : ℕ)
    → ((l : Literal) → l ∈ ls → m l.border ≡ decided l.side) → names ls x ≡ true → states ls x ≡ m x
unfolding names any states
states-all m [] x f e = let z : ◌≡◌ {A = Bool} false true = e in cc
states-all m (l ∷ ls) x f e = go (eqb l.border x) refl e (states-all m ls x (λ k i. f k (Memᴰ.tail i)))
  where
    go : (t : Bool) → eqb l.border x ≡ t → t || names ls x ≡ true → (names ls x ≡ true → states ls x ≡ m x)
        → state_if t (decided l.side) (states ls x) ≡ m x
    go true p q ih = sym (f l (Memᴰ.head refl)) ∙ ap m (eqb-true l.border x p)
    go false p q ih = ih q

pub without-last : (ls : List Literal) (l : Literal) → without_last (with_last ls l) ≡ ls
unfolding without_last
without-last [] l = refl
without-last (a ∷ []) l = refl
without-last (a ∷ b ∷ ls) l = ap (λ (t : List Literal). a ∷ t) (without-last (b ∷ ls) l)

pub record Clean (Z : Puzzle) (ls : List Literal) : Type 0 where
  pub below : (l : Literal) → l ∈ ls → l.border < Z.page.borders
  pub once : Distinct (borders_named ls)

names-mem : (ls : List Literal) (b : ℕ) → b ∈ borders_named ls → T (names ls b)
unfolding names
names-mem ls b m =
    let r = map-find (λ (l : Literal). l.border) ls m in
    any-mem (λ (l : Literal). eqb l.border b) ls r.1
    (subst (λ (c : ℕ). T (eqb r.0.border c)) (sym r.2) (eqb_refl r.0.border))

named-mem : (ls : List Literal) (b : ℕ) → T (names ls b) → b ∈ borders_named ls
unfolding names
named-mem ls b t =
    let r = any-find (λ (l : Literal). eqb l.border b) ls t in
    subst (λ (c : ℕ). c ∈ borders_named ls) (eqb→eq r.0.border b r.2)
    (mem-map (λ (l : Literal). l.border) r.1)

without-mem : (ls : List Literal) (l : Literal) → l ∈ without_last ls → l ∈ ls
unfolding without_last
without-mem [] l m = m
without-mem (k ∷ []) l m = absurd (Memᴰ.not-nil m)
without-mem (k ∷ j ∷ ls) l (Memᴰ.head q) = Memᴰ.head q
without-mem (k ∷ j ∷ ls) l (Memᴰ.tail m) = Memᴰ.tail (without-mem (j ∷ ls) l m)

without-once : (ls : List Literal) → Distinct (borders_named ls) → Distinct (borders_named (without_last ls))
unfolding without_last
without-once [] d = tt
without-once (k ∷ []) d = tt
without-once (k ∷ j ∷ ls) d = (
  λ m. go (map-find (λ (l : Literal). l.border) (without_last (j ∷ ls)) m),
  without-once (j ∷ ls) d.1,
)
  where
    go : (l : Literal) × l ∈ without_last (j ∷ ls) × (k.border ≡ l.border) → ⊥
    go r =
        d.0 (subst (λ (b : ℕ). b ∈ borders_named (j ∷ ls)) (sym r.2)
        (mem-map (λ (l : Literal). l.border) (without-mem (j ∷ ls) r.0 r.1)))

module _ (Z : Puzzle) where
  pub clean-none : Clean Z []
  clean-none = record { below = λ l m. absurd (Memᴰ.not-nil m); once = tt }

  pub clean-with : (ls : List Literal) (l : Literal) → Clean Z ls → l.border < Z.page.borders
      → names ls l.border ≡ false → Clean Z (with_last ls l)
  clean-with ls l c h n = record {
    below = λ k m. go k (Memᴰ.append_cases ls m);
    once =
        subst Distinct (sym (map-append (λ (k : Literal). k.border) ls (l ∷ [])))
        (distinct-last (borders_named ls) l.border c.once (λ m. rw n at (names-mem ls l.border m)));
  }
    where
      go : (k : Literal) → k ∈ ls ⊎ k ∈ (l ∷ []) → k.border < Z.page.borders
      go k (inl m) = c.below k m
      go k (inr m) = let e = Memᴰ.eq_of_singleton m in rw e h

  pub clean-without : (ls : List Literal) → Clean Z ls → Clean Z (without_last ls)
  clean-without ls c = record {
    below = λ l m. c.below l (without-mem ls l m);
    once = without-once ls c.once;
  }

-- a decided border has its literal in the sequence
pub decided-mem : (ls : List Literal) (l : Literal) → Has (states ls) l → l ∈ ls
unfolding states
decided-mem [] l e = let z : ◌≡◌ {A = ℕ} 0 1 = cc in absurd (omega arith)
decided-mem (k ∷ ls) l e = go (eqb k.border l.border) refl e (decided-mem ls l)
  where
    go : (t : Bool) → eqb k.border l.border ≡ t
        → state_if t (decided k.side) (states ls l.border) ≡ decided l.side → (Has (states ls) l → l ∈ ls)
        → l ∈ (k ∷ ls)
    go true q f ih =
        let b : k.border ≡ l.border = eqb→eq k.border l.border (rw q tt) in
        let x : k.side ≡ l.side = cc in
        Memᴰ.head (sym (λ i. record { border = b i; side = x i }))
    go false q f ih = Memᴰ.tail (ih f)

mem-decided : (ls : List Literal) (l : Literal) → Distinct (borders_named ls) → l ∈ ls → Has (states ls) l
unfolding states
mem-decided [] l d m = absurd (Memᴰ.not-nil m)
mem-decided (k ∷ ls) l d (Memᴰ.head q) =
    rw q (rw (eq-eqb k.border k.border refl))
mem-decided (k ∷ ls) l d (Memᴰ.tail m) =
    rw (ne_eqb k.border l.border (λ e. d.0 (rw e (mem-map (λ (j : Literal). j.border) m))))
    (mem-decided ls l d.1 m)

-- "the puzzle with exactly the sequence's literals decided"
pub states-exact : (Z : Puzzle) (ls : List Literal) (l : Literal) → Clean Z ls → (l ∈ ls ↔ Has (states ls) l)
states-exact Z ls l c = (mem-decided ls l c.once, decided-mem ls l)

-- as many borders are undecided as the sequence leaves out
count-every : (n : ℕ) → count_below n (λ b. true) ≡ n
unfolding count_below
count-every zero = refl
count-every (suc n) = let e = count-every n in omega arith

one-decided : (l : Literal) (ls : List Literal) → Distinct (borders_named (l ∷ ls)) → (b : ℕ)
    → is_undecided (states (l ∷ ls) b) || eqb l.border b ≡ is_undecided (states ls b)
unfolding states
one-decided l ls d b = go (eqb l.border b) refl
  where
    unnamed : (t : Bool) → names ls l.border ≡ t → names ls l.border ≡ false
    unnamed false e = e
    unnamed true e = absurd (d.0 (named-mem ls l.border (rw e tt)))

    go : (t : Bool) → eqb l.border b ≡ t
        → is_undecided (state_if t (decided l.side) (states ls b)) || t ≡ is_undecided (states ls b)
    go true e =
        let p : l.border ≡ b = eqb→eq l.border b (rw e tt) in
        rw (← p, states-none ls l.border (unnamed (names ls l.border) refl))
    go false e = or-false (is_undecided (states ls b))

left-count : (n : ℕ) (ls : List Literal) → Distinct (borders_named ls) → ((l : Literal) → l ∈ ls → l.border < n)
    → count_below n (λ b. is_undecided (states ls b)) + length ls ≡ n
unfolding states
left-count n [] d h = let e = count-every n in omega arith
left-count n (l ∷ ls) d h =
    let a = left-count n ls d.1 (λ k m. h k (Memᴰ.tail m)) in
    let here : is_undecided (states (l ∷ ls) l.border) ≡ false = rw (eq-eqb l.border l.border refl) in
    let b = count-more n (λ b. is_undecided (states (l ∷ ls) b)) l.border (h l (Memᴰ.head refl)) here in
    let c = count-cong n (λ b. is_undecided (states (l ∷ ls) b) || eqb l.border b) (λ b. is_undecided (states ls b))
    (λ b k. one-decided l ls d b) in
    omega arith

pub undecided-left : (Z : Puzzle) (ls : List Literal) → Clean Z ls
    → undecided_count Z (states ls) + length ls ≡ Z.page.borders
unfolding undecided_count
undecided-left Z ls c = left-count Z.page.borders ls c.once c.below

-- ---- the kinds of replies
not_done : (n : ℕ) → refused n ≡ done → ⊥
not_done n e = let z : ◌≡◌ {A = ℕ} 0 1 = cc in omega arith

not-answered : (n : ℕ) (f : Verdict) → refused n ≡ answered f → ⊥
not-answered n f e = let z : ◌≡◌ {A = ℕ} 0 1 = cc in omega arith

done-answered : (f : Verdict) → done ≡ answered f → ⊥
done-answered f e = let z : ◌≡◌ {A = ℕ} 0 1 = cc in omega arith

-- ---- a lent record
module _ (Z : Puzzle) (k : Book) (a : Asked) where
  abbrev plain : Reply
  plain = reply_to Z k.sequence a.places a.call

  plain_done : reply Z k a ≡ done → plain ≡ done
  plain_done e = go (disagrees Z k.sequence a.tally) e
    where
      go : (t : Bool) → or_alien t plain ≡ done → plain ≡ done
      go true q = absurd (not_done 5 q)
      go false q = q

  pub plain-answered : (f : Verdict) → reply Z k a ≡ answered f → plain ≡ answered f
  plain-answered f e = go (disagrees Z k.sequence a.tally) e
    where
      go : (t : Bool) → or_alien t plain ≡ answered f → plain ≡ answered f
      go true q = absurd (not-answered 5 f q)
      go false q = q

  pub alien-after : disagrees Z k.sequence a.tally ≡ true → after Z k a ≡ k
  unfolding after
  alien-after e = rw e

  pub agreed-after : disagrees Z k.sequence a.tally ≡ false
      → after Z k a ≡ after Z k (ask a.places a.call)
  unfolding after
  agreed-after e = rw e

-- ---- the book's sequence is clean
module _ (Z : Puzzle) where
  -- a decide that is done
  decided-clean : (ls : List Literal) (l : Literal) → Clean Z ls → decide_reply Z ls l ≡ done → Clean Z (with_last ls l)
  unfolding decide_reply
  decided-clean ls l c e = go (ltb l.border Z.page.borders) refl (names ls l.border) refl e
    where
      go : (t : Bool) → ltb l.border Z.page.borders ≡ t → (u : Bool) → names ls l.border ≡ u
          → cond t (cond u (refused 7) done) (refused 6) ≡ done → Clean Z (with_last ls l)
      go true q true r f = absurd (not_done 7 f)
      go true q false r f = clean-with Z ls l c (ltb→lt l.border Z.page.borders (rw q tt)) r
      go false q u r f = absurd (not_done 6 f)

  done-clean : (k : Book) (n : ℕ) (c : Call) → Clean Z k.sequence → reply_to Z k.sequence n c ≡ done
      → Clean Z (done_book k c).sequence
  unfolding done_book reply_to
  done-clean k n (Decide l) c e = decided-clean k.sequence l c e
  done-clean k n Undo c e = clean-without Z k.sequence c
  done-clean k n Check c e = c
  done-clean k n (Preview l) c e = c

  pub after-clean : (k : Book) (a : Asked) → Clean Z k.sequence → Clean Z (after Z k a).sequence
  unfolding after
  after-clean k a c = go (reply Z k a) refl
    where
      go : (r : Reply) → reply Z k a ≡ r → Clean Z (after_by r k (done_book k a.call)).sequence
      go (refused n) e = c
      go done e = done-clean k a.places a.call c (plain_done Z k a e)
      go (answered f) e = c

  from-clean : (k : Book) (calls : List Asked) → Clean Z k.sequence → Clean Z (book_from Z k calls).sequence
  unfolding book_from
  from-clean k [] c = c
  from-clean k (a ∷ calls) c = from-clean (after Z k a) calls (after-clean k a c)

  pub book-clean : (calls : List Asked) → Clean Z (book_after Z calls).sequence
  book-clean calls = from-clean fresh_book calls (clean-none Z)

  -- ---- a list that is followed by another
  pub from-append : (k : Book) (calls more : List Asked)
      → book_from Z k (calls ++ more) ≡ book_from Z (book_from Z k calls) more
  unfolding book_from
  from-append k [] more = refl
  from-append k (a ∷ calls) more = from-append (after Z k a) calls more

  pub book-append : (calls more : List Asked) → book_after Z (calls ++ more) ≡ book_from Z (book_after Z calls) more
  book-append calls more = from-append fresh_book calls more

replies-from : (Z : Puzzle) (k : Book) (calls more : List Asked)
    → replies_from Z k (calls ++ more) ≡ replies_from Z k calls ++ replies_from Z (book_from Z k calls) more
unfolding replies_from book_from
replies-from Z k [] more = refl
replies-from Z k (a ∷ calls) more =
    ap (λ (rs : List Reply). reply Z k a ∷ rs) (replies-from Z (after Z k a) calls more)

-- a call in the middle of a list is answered by the book after the calls before it
pub replies-append : (Z : Puzzle) (calls : List Asked) (a : Asked) (more : List Asked)
    → replies Z (calls ++ (a ∷ more))
    ≡ replies Z calls ++ (reply Z (book_after Z calls) a ∷ replies_from Z (book_after Z (calls ++ (a ∷ []))) more)
unfolding replies_from book_from
replies-append Z calls a more =
    replies-from Z fresh_book calls (a ∷ more)
    ∙ ap (λ (k : Book). replies Z calls ++ (reply Z (book_after Z calls) a ∷ replies_from Z k more))
    (sym (book-append Z calls (a ∷ [])))

-- ---- after an undo, a check and a preview
by-same : (r : Reply) (k : Book) → after_by r k k ≡ k
by-same (refused number) k = refl
by-same done k = refl
by-same (answered f) k = refl

module _ (Z : Puzzle) (k : Book) (n : ℕ) where
  pub undo-takes : (after Z k (ask n Undo)).sequence ≡ without_last k.sequence
  unfolding after reply_to done_book without_last
  undo-takes = go k.sequence refl
    where
      go : (ls : List Literal) → k.sequence ≡ ls
          → (after_by (bare_or ls done) k (record { sequence = without_last k.sequence })).sequence
          ≡ without_last k.sequence
      go [] e = e ∙ ap without_last (sym e)
      go (l ∷ ls) e = refl

  -- "Checks and refused calls do not change the sequence"
  pub check-leaves : after Z k (ask n Check) ≡ k
  unfolding after done_book
  check-leaves = by-same (reply Z k (ask n Check)) k

  module _ (l : Literal) where
    -- "and leaves the sequence"
    pub preview-leaves : after Z k (ask n (Preview l)) ≡ k
    unfolding after done_book
    preview-leaves = by-same (reply Z k (ask n (Preview l))) k

    -- "what decide followed by check would on a copy"
    pub preview-follows : reply Z k (ask n (Decide l)) ≡ done
        → reply Z k (ask n (Preview l)) ≡ reply Z (after Z k (ask n (Decide l))) (ask n Check)
    unfolding after reply_to done_book
    preview-follows e = rw e

    pub preview-refused : (number : ℕ) → reply Z k (ask n (Decide l)) ≡ refused number
        → reply Z k (ask n (Preview l)) ≡ refused number
    unfolding reply_to
    preview-refused number e = rw e

-- ---- what is answered
module _ (Z : Puzzle) (ls : List Literal) where
  -- the verdict is check's of the sequence that the call looked at
  record LooksAt (c : Call) (f : Verdict) : Type 0 where
    verdict : check Z (states (looked ls c)) ≡ f
    clean : Clean Z ls → Clean Z (looked ls c)

  checked : (ks : List Literal) (n : ℕ) (f : Verdict) → check_reply Z ks n ≡ answered f → check Z (states ks) ≡ f
  unfolding check_reply
  checked ks n f e = go (ltb n 1984) e
    where
      go : (b : Bool) → cond b (refused 9) (answered (check Z (states ks))) ≡ answered f → check Z (states ks) ≡ f
      go true q = absurd (not-answered 9 f q)
      go false q = cc

  decide-never : (l : Literal) (f : Verdict) → decide_reply Z ls l ≡ answered f → ⊥
  unfolding decide_reply
  decide-never l f e = go (ltb l.border Z.page.borders) (names ls l.border) e
    where
      go : (b c : Bool) → cond b (cond c (refused 7) done) (refused 6) ≡ answered f → ⊥
      go true true q = not-answered 7 f q
      go true false q = done-answered f q
      go false c q = not-answered 6 f q

  pub preview-decides : (n : ℕ) (l : Literal) (f : Verdict) → reply_to Z ls n (Preview l) ≡ answered f
      → decide_reply Z ls l ≡ done
  unfolding reply_to
  preview-decides n l f e = go (decide_reply Z ls l) refl e
    where
      go : (d : Reply) → decide_reply Z ls l ≡ d → then_reply d (check_reply Z (with_last ls l) n) ≡ answered f
          → d ≡ done
      go (refused m) q r = absurd (not-answered m f r)
      go done q r = refl
      go (answered g) q r = absurd (decide-never l g q)

  call-looks : (n : ℕ) (c : Call) (f : Verdict) → reply_to Z ls n c ≡ answered f → LooksAt c f
  unfolding reply_to
  call-looks n (Decide l) f e = absurd (decide-never l f e)
  call-looks n Undo f e = absurd (go ls e)
    where
      go : (ks : List Literal) → bare_or ks done ≡ answered f → ⊥
      go [] q = not-answered 8 f q
      go (k ∷ ks) q = done-answered f q
  call-looks n Check f e = record { verdict = checked ls n f e; clean = λ c. c }
  call-looks n (Preview l) f e =
      let d = preview-decides n l f e in
      record { verdict = checked (with_last ls l) n f (rw d at e); clean = λ c. decided-clean Z ls l c d }

module _ (Z : Puzzle) (k : Book) (a : Asked) (f : Verdict) (e : reply Z k a ≡ answered f) where
  looks : LooksAt Z k.sequence a.call f
  looks = call-looks Z k.sequence a.places a.call f (plain-answered Z k a f e)

  pub answered-check : check Z (states (looked k.sequence a.call)) ≡ f
  answered-check = looks.verdict

  pub looked-clean : Clean Z k.sequence → Clean Z (looked k.sequence a.call)
  looked-clean = looks.clean

-- a call with memory that is not short is refused with 6, 7 or 8
module _ (Z : Puzzle) (m n : ℕ) (l : 1984 ≤ m) where
  refused-is : (k : ℕ) → refused k ≡ refused n → n ≡ k
  refused-is k e = cc

  decide-refused : (ls : List Literal) (k : Literal) → decide_reply Z ls k ≡ refused n → n ∈ (6 ∷ 7 ∷ 8 ∷ [])
  unfolding decide_reply
  decide-refused ls k e = go (ltb k.border Z.page.borders) (names ls k.border) e
    where
      go : (a b : Bool) → cond a (cond b (refused 7) done) (refused 6) ≡ refused n → n ∈ (6 ∷ 7 ∷ 8 ∷ [])
      go true true f = Memᴰ.tail (Memᴰ.head (refused-is 7 f))
      go true false f = absurd (not_done n (sym f))
      go false b f = Memᴰ.head (refused-is 6 f)

  check-refused : (ls : List Literal) → check_reply Z ls m ≡ refused n → ⊥
  unfolding check_reply
  check-refused ls e = not-answered n (check Z (states ls)) (sym (rw (le-ltb m 1984 l) at e))

  call-refused : (ls : List Literal) (c : Call) → reply_to Z ls m c ≡ refused n → n ∈ (6 ∷ 7 ∷ 8 ∷ [])
  unfolding reply_to
  call-refused ls (Decide k) e = decide-refused ls k e
  call-refused [] Undo e = Memᴰ.tail (Memᴰ.tail (Memᴰ.head (refused-is 8 e)))
  call-refused (k ∷ ls) Undo e = absurd (not_done n (sym e))
  call-refused ls Check e = absurd (check-refused ls e)
  call-refused ls (Preview k) e = go (decide_reply Z ls k) refl e
    where
      go : (d : Reply) → decide_reply Z ls k ≡ d → then_reply d (check_reply Z (with_last ls k) m) ≡ refused n
          → n ∈ (6 ∷ 7 ∷ 8 ∷ [])
      go (refused j) q r = decide-refused ls k (q ∙ r)
      go done q r = absurd (check-refused (with_last ls k) r)
      go (answered f) q r = absurd (not-answered n f (sym r))

  from-refused : (k : Book) (cs : List Call) → refused n ∈ replies_from Z k (map (ask m) cs) → n ∈ (6 ∷ 7 ∷ 8 ∷ [])
  unfolding replies_from
  from-refused k [] i = absurd (Memᴰ.not-nil i)
  from-refused k (c ∷ cs) (Memᴰ.head e) = call-refused k.sequence c (sym e)
  from-refused k (c ∷ cs) (Memᴰ.tail i) = from-refused (after Z k (ask m c)) cs i

  pub replies-refused : (cs : List Call) → refused n ∈ replies Z (map (ask m) cs) → n ∈ (6 ∷ 7 ∷ 8 ∷ [])
  replies-refused cs i = from-refused fresh_book cs i
