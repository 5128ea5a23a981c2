-- Laws of Path: the search's start and run, an early stop, and the way back.
use Rattle.std.specs.Prelude.{◌≡◌, Bool, true, false, ◌&&◌, ltb, get_or, set, replicate}
use Rattle.std.proofs.Math.Path.{refl, sym}
use Rattle.std.proofs.Common.{ap, ◌∙◌, add-one, arith, length-set}
use Rattle.std.proofs.Math.Bool.{not}
use mathlib.Core.List.{List, [], ◌∷◌, ◌++◌, append_assoc, append-nil}
use Prim.Native.Nat.{ℕ, zero, suc, ◌+◌, ◌-◌, ◌*◌, ◌<◌, ◌≤◌}
use borrow.Author.Tests.{eq-eqb, ne_eqb, lt-ltb, le-ltb}
use Rattle.std.proofs.Math.ListN.{length}
use Rattle.std.proofs.lemmas.List.{get_or-replicate, length-replicate}
use Rattle.std.proofs.Math.Seq.{slice, slice-cons, slice_empty, get_or-set_same, get_or-set_other}
use Rattle.lists.specs.Lists.{any}
use Rattle.lists.specs.Booleans.{and-fails, false-true}
use Rattle.lists.specs.CountLaws.{count_none, count-le}
use Rattle.lists.specs.Arithmetic.{if-same}
use Rattle.lists.specs.Stores.{slice-push}
use Rattle.rules.specs.declared.Literal.{Literal}
use Rattle.rules.specs.Page.{Page, State, Hop, is_open, open_at}
use Rattle.rules.specs.Flat.{flat}
use Rattle.rules.specs.Codes.{states_in}
use Rattle.rules.specs.Reasons.{Found, Search, is_found, visit_if, look, hunt, trace, path}
use Rattle.reasons.specs.Memory.{Spare, Wrote}
use Rattle.reasons.proofs.MemoryLaws.{naming-none, naming-more}
use Rattle.reasons.specs.Arrays.{is_flagged}
use Rattle.reasons.specs.Search.{path_in, Lined, Holds, Looked, Ended}
use Rattle.reasons.specs.SearchLaws.{trace-other, found-other, count_set, unflagged}

-- what is found stays found, and so does its way back: so the search may stop early
module _ (a : ℕ) where
  abbrev Kept : Search → Search → ℕ → Type 0
  Kept t u c = (is_found a u.found c ≡ true) × (trace u.found c ≡ trace t.found c)

  keep-visit : (v : Bool) (x : ℕ) (k : Hop) (t : Search) (c : ℕ) → (v ≡ true → is_found a t.found k.to ≡ false)
      → is_found a t.found c ≡ true → Kept t (visit_if v x k t) c
  keep-visit true x k t c n e =
      let other : c ≡ k.to → ⊥ = λ q. false-true (n refl) (rw q at e) in
      (found-other t.found k.to k.border x a c other ∙ e, trace-other t.found k.to k.border x c other)
  keep-visit false x k t c n e = (e, refl)

  fresh : (p q : Bool) → (p && not q) ≡ true → q ≡ false
  fresh p false e = refl
  fresh true true e = sym e
  fresh false true e = false-true refl e

  module _ (G : Page) (s : ℕ → State) where
    look-keeps : (x : ℕ) (hs : List Hop) (t : Search) (c : ℕ) → is_found a t.found c ≡ true
        → Kept t (look G s a x hs t) c
    unfolding look
    look-keeps x [] t c e = (e, refl)
    look-keeps x (k ∷ hs) t c e =
        let v = is_open (s k.border) && not (is_found a t.found k.to) in
        let one : Kept t (visit_if v x k t) c =
        keep-visit v x k t c (fresh (is_open (s k.border)) (is_found a t.found k.to)) e in
        let rest = look-keeps x hs (visit_if v x k t) c one.0 in
        (rest.0, rest.1 ∙ one.1)

    pub hunt-keeps : (k : ℕ) (q : List ℕ) (f : List Found) (c : ℕ) → is_found a f c ≡ true
        → trace (hunt G s k a q f) c ≡ trace f c
    unfolding hunt
    hunt-keeps zero q f c e = refl
    hunt-keeps (suc k) [] f c e = refl
    hunt-keeps (suc k) (x ∷ q) f c e =
        let t = look G s a x (G.around x) (record { queue = q; found = f }) in
        let one = look-keeps x (G.around x) (record { queue = q; found = f }) c e in
        hunt-keeps k t.queue t.found c one.0 ∙ one.1

-- the definition's run
module _ (G : Page) (s : ℕ → State) (a : ℕ) where
  pub hunt-step : (k x : ℕ) (q : List ℕ) (f : List Found) →
      let t = look G s a x (G.around x) (record { queue = q; found = f }) in
      hunt G s (suc k) a (x ∷ q) f ≡ hunt G s k a t.queue t.found
  unfolding hunt
  hunt-step k x q f = refl

  pub hunt-done : (k : ℕ) (f : List Found) → hunt G s k a [] f ≡ f
  unfolding hunt
  hunt-done zero f = refl
  hunt-done (suc k) f = refl

module _ (h w : ℕ) (bs : List ℕ) (a b : ℕ) where
  pub path-is : a < h * w → b < h * w
      → path_in h w bs a b ≡ trace (hunt (flat h w) (states_in bs) (h * w) a (a ∷ []) []) b
  unfolding path_in path flat
  path-is p q = rw (lt-ltb a (h * w) p, lt-ltb b (h * w) q)

  -- none for a cell that is not on the page
  pub path-off-a : h * w ≤ a → path_in h w bs a b ≡ []
  unfolding path_in path flat
  path-off-a p = rw (le-ltb a (h * w) p)

  pub path-off-b : h * w ≤ b → path_in h w bs a b ≡ []
  unfolding path_in path flat
  path-off-b p = rw (and-fails (ltb a (h * w)) (ltb b (h * w)) (le-ltb b (h * w) p))

-- the start
pub record BlankList (Z : List ℕ) : Type 0 where
  pub long : length Z ≡ 1024
  pub zero : (i : ℕ) → i < 1024 → get_or Z i 0 ≡ 0

pub blank : (Z : List ℕ) → Z ≡ replicate 1024 0 → BlankList Z
blank Z e =
    record {
      long = ap length e ∙ length-replicate {A = ℕ} 1024 0;
      zero = λ i q. ap (λ (l : List ℕ). get_or l i 0) e ∙ get_or-replicate {A = ℕ} 1024 i 0 0 q;
    }

module _ (n a : ℕ) (Z Y P O : List ℕ) (bz : BlankList Z) (by : BlankList Y) (ha : a < n) (hn : n ≤ 1024)
    (lp : length P ≡ 1024) (lo : length O ≡ 1024) where
  nothing : (c : ℕ) → c < n → get_or Y c 0 ≡ 1 → ⊥
  nothing c q e = omega (arith, by.zero c (omega arith))

  lined-start : Lined n (set Z 0 a) P O (set Y a 1) 1
  lined-start =
      let lz : 0 < length Z = omega (arith, bz.long) in
      let ly : a < length Y = omega (arith, by.long) in
      record {
        queues = length-set Z 0 a ∙ bz.long;
        parents = lp;
        overs = lo;
        founds = length-set Y a 1 ∙ by.long;
        small = hn;
        full =
            count_set Y n a ha (omega (arith, by.long)) (nothing a ha)
            ∙ rw (count_none n (is_flagged Y) (λ i q. unflagged Y i (nothing i q)));
        lined = λ i q. let e : i ≡ 0 = omega arith in rw (e, get_or-set_same Z 0 a 0 lz) ha;
        seen =
            λ i q. let e : i ≡ 0 = omega arith in rw (e, get_or-set_same Z 0 a 0 lz) (get_or-set_same Y a 1 0 ly);
      }

  only-first : (c : ℕ) → c < n → get_or (set Y a 1) c 0 ≡ 1 → (c ≡ a → ⊥) → ⊥
  only-first c q e r = nothing c q (sym (get_or-set_other Y a c 1 0 r) ∙ e)

  holds-start : Holds n a 0 (set Z 0 a) P O (set Y a 1) 1 (record { queue = a ∷ []; found = [] })
  unfolding is_found any trace is_flagged
  holds-start =
      let lz : 0 < length Z = omega (arith, bz.long) in
      let ly : a < length Y = omega (arith, by.long) in
      record {
        inside = ha;
        line = sym (slice-push 0 0 Z a (omega arith) lz);
        flag =
            λ c q.
            if-same c a
            (λ e. rw (e, eq-eqb a a refl, get_or-set_same Y a 1 0 ly))
            (λ e. rw (ne_eqb c a e, get_or-set_other Y a c 1 0 e, by.zero c (omega arith)));
        root = refl;
        step = λ c q s r. absurd (only-first c q s r);
        kin = λ c q s r. absurd (only-first c q s r);
        older = λ c q s r. absurd (only-first c q s r);
        narrow = λ c q s r. absurd (only-first c q s r);
        none = λ c q s. refl;
      }

-- the loop of the search: what is left of the definition's run is the whole run
pub record Going (h w : ℕ) (bs : List ℕ) (a head : ℕ) (Q P O F : List ℕ) (tail : ℕ) : Type 0 where
  pub searched : Search
  pub below : head ≤ tail
  pub lined : Lined (h * w) Q P O F tail
  pub holds : Holds (h * w) a head Q P O F tail searched
  pub rest : hunt (flat h w) (states_in bs) (h * w - head) a searched.queue searched.found
      ≡ hunt (flat h w) (states_in bs) (h * w) a (a ∷ []) []

module _ (h w : ℕ) (bs : List ℕ) (a : ℕ) where
  pub going_start : (Z Y P O : List ℕ) → BlankList Z → BlankList Y → a < h * w → h * w ≤ 1024 → length P ≡ 1024
      → length O ≡ 1024 → Going h w bs a 0 (set Z 0 a) P O (set Y a 1) 1
  going_start Z Y P O bz by ha hn lp lo =
      let e : h * w - 0 ≡ h * w = omega arith in
      record {
        searched = record { queue = a ∷ []; found = [] };
        below = omega arith;
        lined = lined-start (h * w) a Z Y P O bz by ha hn lp lo;
        holds = holds-start (h * w) a Z Y P O bz by ha hn lp lo;
        rest = rw e;
      }

module _ {h w : ℕ} {bs : List ℕ} {a head : ℕ} {Q P O F : List ℕ} {tail : ℕ} (g : Going h w bs a head Q P O F tail) where
  -- the way back of a cell that is found stays
  found-way : (c : ℕ) → c < h * w → get_or F c 0 ≡ 1 → trace g.searched.found c ≡ path_in h w bs a c
  unfolding is_flagged
  found-way c hc e =
      sym
      (hunt-keeps a (flat h w) (states_in bs) (h * w - head) g.searched.queue g.searched.found c
      (g.holds.flag c hc ∙ eq-eqb _ _ e))
      ∙ rw (path-is h w bs a c g.holds.inside hc) (ap (λ (f : List Found). trace f c) g.rest)

  -- b is found
  pub end-early : (b : ℕ) → b < h * w → get_or F b 0 ≡ 1 → Ended h w bs a b P O F
  end-early b hb e =
      record {
        Q = Q;
        head = head;
        tail = tail;
        searched = g.searched;
        lined = g.lined;
        holds = g.holds;
        is = found-way b hb e;
        ways = found-way;
      }

  -- the queue is empty
  pub end-late : (b : ℕ) → b < h * w → tail ≤ head → Ended h w bs a b P O F
  end-late b hb q =
      let same : head ≡ tail = omega (arith, g.below) in
      let none : g.searched.queue ≡ [] = g.holds.line ∙ rw same (slice_empty tail Q) in
      let over : g.searched.found ≡ hunt (flat h w) (states_in bs) (h * w) a (a ∷ []) [] =
      sym (hunt-done (flat h w) (states_in bs) a (h * w - head) g.searched.found)
      ∙ ap (λ (l : List ℕ). hunt (flat h w) (states_in bs) (h * w - head) a l g.searched.found) (sym none)
      ∙ g.rest in
      record {
        Q = Q;
        head = head;
        tail = tail;
        searched = g.searched;
        lined = g.lined;
        holds = g.holds;
        is = rw (path-is h w bs a b g.holds.inside hb) (ap (λ (f : List Found). trace f b) over);
        ways = found-way;
      }

  module _ (more : head < tail) where
    abbrev popped : Search
    popped = record { queue = slice (head + 1) tail Q; found = g.searched.found }

    holds-pop : Holds (h * w) a (head + 1) Q P O F tail popped
    holds-pop =
        let k = g.holds in
        record {
          inside = k.inside;
          line = refl;
          flag = k.flag;
          root = k.root;
          step = k.step;
          kin = k.kin;
          older = k.older;
          narrow = k.narrow;
          none = k.none;
        }

    pub going-left : head < h * w
    going-left = omega (arith, g.lined.full, count-le (h * w) (is_flagged F))

    pub going_more : {Q' P' O' F' : List ℕ} {next : ℕ} → let c = get_or Q head 0 in
        Looked h w bs c ((flat h w).around c) Q P O F tail Q' P' O' F' next
        → Going h w bs a (head + 1) Q' P' O' F' next
    going_more l =
        let c = get_or Q head 0 in
        let left = going-left in
        let fuel : h * w - head ≡ suc (h * w - (head + 1)) = omega arith in
        let room : tail ≤ length Q =
        omega (arith, g.lined.full, count-le (h * w) (is_flagged F), g.lined.queues, g.lined.small) in
        let first : g.searched.queue ≡ c ∷ slice (head + 1) tail Q =
        g.holds.line ∙ rw (add-one head) (slice-cons head tail Q 0 more room) in
        let run : hunt (flat h w) (states_in bs) (suc (h * w - (head + 1))) a (c ∷ slice (head + 1) tail Q)
        g.searched.found
        ≡ hunt (flat h w) (states_in bs) (h * w) a (a ∷ []) [] =
        ap (λ (l : List ℕ). hunt (flat h w) (states_in bs) (suc (h * w - (head + 1))) a l g.searched.found)
        (sym first)
        ∙ rw fuel at g.rest in
        record {
          searched = look (flat h w) (states_in bs) a c ((flat h w).around c) popped;
          below = omega (arith, l.more);
          lined = l.lined;
          holds = l.holds a (head + 1) popped (omega arith) holds-pop;
          rest =
              sym
              (hunt-step (flat h w) (states_in bs) a (h * w - (head + 1)) c (slice (head + 1) tail Q)
              g.searched.found)
              ∙ run;
        }

-- the way back, from b as far as c
pub record Tracing (h w : ℕ) (bs : List ℕ) (a b : ℕ) (P O F m : List ℕ) (from c : ℕ) (m' : List ℕ) (at : ℕ) :
    Type 0 where
  pub ended : Ended h w bs a b P O F
  pub inside : c < h * w
  pub old : get_or F c 0 ≡ 1
  pub done : List Literal
  pub wrote : Wrote m from done m' at
  pub whole : done ++ trace ended.searched.found c ≡ path_in h w bs a b

module _ {h w : ℕ} {bs : List ℕ} {a b : ℕ} {P O F : List ℕ} (e : Ended h w bs a b P O F) (hb : b < h * w)
    {m : List ℕ} {from : ℕ} (S : Spare m from) where
  pub tracing-start : get_or F b 0 ≡ 1 → Tracing h w bs a b P O F m from b m from
  tracing-start q =
      record { ended = e; inside = hb; old = q; done = []; wrote = naming-none S; whole = e.is }

  pub tracing-none : (get_or F b 0 ≡ 1 → ⊥) → Wrote m from (path_in h w bs a b) m from
  tracing-none q = rw (← e.is, e.holds.none b hb q) (naming-none S)

module _ {h w : ℕ} {bs : List ℕ} {a b : ℕ} {P O F m : List ℕ} {from c : ℕ} {m' : List ℕ} {at : ℕ}
    (t : Tracing h w bs a b P O F m from c m' at) where
  pub tracing-end : c ≡ a → Wrote m from (path_in h w bs a b) m' at
  tracing-end e =
      let z : trace t.ended.searched.found c ≡ [] = rw e t.ended.holds.root in
      let all : t.done ≡ path_in h w bs a b =
      sym (append-nil t.done) ∙ ap (λ (l : List Literal). t.done ++ l) (sym z) ∙ t.whole in
      rw (← all) t.wrote

  module _ (ne : c ≡ a → ⊥) where
    one : (t.done ++ (open_at (get_or O c 0) ∷ [])) ++ trace t.ended.searched.found (get_or P c 0) ≡ path_in h w bs a b
    one =
        append_assoc t.done _ _
        ∙ ap (λ (l : List Literal). t.done ++ l) (sym (t.ended.holds.step c t.inside t.old ne))
        ∙ t.whole

    pub tracing-narrow : get_or O c 0 < 1984
    tracing-narrow = t.ended.holds.narrow c t.inside t.old ne

    pub tracing-kin : get_or P c 0 < h * w
    tracing-kin = t.ended.holds.kin c t.inside t.old ne

    -- the way from the finder is shorter
    pub tracing-less : length (path_in h w bs a (get_or P c 0)) < length (path_in h w bs a c)
    tracing-less =
        let k = t.ended.holds in
        let up = t.ended.ways (get_or P c 0) tracing-kin (k.older c t.inside t.old ne) in
        let here = t.ended.ways c t.inside t.old in
        omega (arith, ap length up, ap length here, ap length (k.step c t.inside t.old ne))

    pub tracing-more : {m'' : List ℕ} {at' : ℕ} → Wrote m' at (open_at (get_or O c 0) ∷ []) m'' at'
        → Tracing h w bs a b P O F m from (get_or P c 0) m'' at'
    tracing-more o =
        record {
          ended = t.ended;
          inside = tracing-kin;
          old = t.ended.holds.older c t.inside t.old ne;
          done = t.done ++ (open_at (get_or O c 0) ∷ []);
          wrote = naming-more t.wrote o;
          whole = one;
        }
