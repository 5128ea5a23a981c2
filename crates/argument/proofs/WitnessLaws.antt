-- The open border is a solution of the 1×2 page, and the wall is none; the lists of calls answer as the witness says.
use Rattle.std.specs.Prelude.{◌≡◌, refl, Bool, true, false, [], ◌∷◌, ℕ, zero, suc, ◌<◌, T, eqb}
use Rattle.std.proofs.Common.{sym, ap, ◌∙◌, subst, arith}
use mathlib.Core.List.Memᴰ
use Rattle.std.proofs.Math.Option.{some}
use Rattle.lists.specs.Lists.{◌∈◌, any}
use Rattle.rules.specs.declared.Side.{Side}
use Rattle.rules.specs.declared.Side.TheVariants.{Wall, Open}
use Rattle.rules.specs.Page.{State, undecided, decided, Point, ◌⊕◌, opposite}
use Rattle.rules.specs.Rules.{Joined, stay, one_colour, joins_block, joins_unit, SameBlock, SameUnit, UnitHas}
use Rattle.rules.specs.Rules.{Congruent}
use Rattle.rules.specs.Rules.{Solution, step}
use Rattle.rules.specs.Turns.{apply, keep}
use Rattle.rules.specs.Codes.{colours_in, clues_in}
use Rattle.rules.specs.Flat.{flat, cell_at, right_of, border_count, hop_if, hop_above, hop_below, hop_left, hop_right}
use Rattle.rules.specs.Flat.{around_at}
use Rattle.rules.specs.Flat.{flat_first, flat_second}
use Rattle.rules.specs.Book.{state_if, states, names, done_book}
use Rattle.rules.specs.Book.{decide_reply, check_reply, reply_to, after, book_from, replies_from}
use Rattle.laws.specs.PageLaws.{Bordered}
use Rattle.laws.specs.PointLaws.{add_assoc, add_comm, add-opposite, add-origin, origin}
use Rattle.laws.specs.TurnLaws.{apply-keep}
use Rattle.laws.specs.FlatPage.{flat-bordered}
use Rattle.argument.specs.Witness.{small, opened, walled, Witness}

-- what holds of both cells
two : (P : ℕ → Type 0) → P 0 → P 1 → (x : ℕ) → x < 2 → P x
two P a b zero l = a
two P a b (suc zero) l = b
two P a b (suc (suc x)) l = absurd (omega arith)

bordered : Bordered (flat 1 2)
bordered = flat-bordered 1 2 (omega arith)

first-only : (b : ℕ) → b < border_count 1 2 → b ≡ 0
unfolding border_count
first-only b l = omega arith

-- a cell is joined to none but itself over borders that do not link
single : (link : ℕ → Bool) → (T (link 0) → ⊥) → (x p : ℕ) → x < 2 → Joined (flat 1 2) link p x → x ≡ p
unfolding flat
single link shut x p l (stay e) = e
single link shut x p l (step h m t j) =
    absurd (shut (subst (λ (b : ℕ). T (link b)) (first-only h.border (bordered.hop-border x h l m)) t))

-- the two cells are joined over a border that links
over : (link : ℕ → Bool) → T (link 0) → Joined (flat 1 2) link 1 0 × Joined (flat 1 2) link 0 1
unfolding flat around_at hop_above hop_below hop_left hop_right hop_if right_of cell_at
over link t = (
  step {x = 0} (record { border = 0; to = 1 }) (Memᴰ.head refl) t (stay refl),
  step {x = 1} (record { border = 0; to = 0 }) (Memᴰ.head refl) t (stay refl),
)

block_in : (y x : ℕ) → x < 2 → SameBlock small opened x y → y < 2
unfolding flat
block_in y x l (stay e) = omega arith
block_in y x l (step h m t j) = block_in y h.to (bordered.hop-in x h l m) j

-- the two cells differ in colour, so each is a unit
alone : (x p : ℕ) → x < 2 → SameUnit small opened x p → x ≡ p
unfolding joins_unit one_colour flat flat_first flat_second colours_in states cell_at
alone x p l j = single (joins_unit small opened) (λ t. t) x p l j

open-joins : T (joins_block small opened 0)
unfolding joins_block states
open-joins = tt

walls-joins : T (joins_block small walled 0) → ⊥
unfolding joins_block states
walls-joins t = t

never : (b : ℕ) → opened b ≡ decided Wall → ⊥
unfolding states
never b e = go (eqb 0 b) e
  where
    go : (t : Bool) → state_if t (decided Open) undecided ≡ decided Wall → ⊥
    go true q = let z : ◌≡◌ {A = ℕ} 0 1 = cc in omega arith
    go false q = let z : ◌≡◌ {A = ℕ} 0 1 = cc in omega arith

decides : (m : State) (side : Side) → m ≡ decided side → m ≡ undecided → ⊥
decides m side p q = let z : ◌≡◌ {A = ℕ} 0 1 = cc in omega arith

open_full : (b : ℕ) → b < border_count 1 2 → opened b ≡ undecided → ⊥
unfolding states
open_full b l = subst (λ (b : ℕ). opened b ≡ undecided → ⊥) (sym (first-only b l)) (decides (opened 0) Open refl)

wall-full : (b : ℕ) → b < border_count 1 2 → walled b ≡ undecided → ⊥
unfolding states
wall-full b l = subst (λ (b : ℕ). walled b ≡ undecided → ⊥) (sym (first-only b l)) (decides (walled 0) Wall refl)

both-colours : (x : ℕ) (c : Bool) → x < 2 → (y : ℕ) × SameBlock small opened x y × (small.colour y ≡ c)
unfolding colours_in
both-colours x false l =
    two (λ x. (y : ℕ) × SameBlock small opened x y × (small.colour y ≡ false)) (0, stay refl, refl)
    (0, (over (joins_block small opened) open-joins).1, refl) x l
both-colours x true l =
    two (λ x. (y : ℕ) × SameBlock small opened x y × (small.colour y ≡ true))
    (1, (over (joins_block small opened) open-joins).0, refl) (1, stay refl, refl) x l

-- two cells of one colour are one cell
one_cell : (x : ℕ) → x < 2 → (y : ℕ) → y < 2 → small.colour x ≡ small.colour y → x ≡ y
unfolding colours_in
one_cell =
    two (λ x. (y : ℕ) → y < 2 → small.colour x ≡ small.colour y → x ≡ y)
    (two (λ y. small.colour 0 ≡ small.colour y → 0 ≡ y) (λ e. refl) (λ e. let z : ◌≡◌ {A = ℕ} 0 1 = cc in z))
    (two (λ y. small.colour 1 ≡ small.colour y → 1 ≡ y) (λ e. let z : ◌≡◌ {A = ℕ} 1 0 = cc in z) (λ e. refl))

onto : (p q : Point) → q ≡ apply keep p ⊕ (opposite p ⊕ q)
onto p q =
    sym (add_comm origin q ∙ add-origin q)
    ∙ (ap (λ z. z ⊕ q) (sym (add-opposite p))
    ∙ (add_assoc p (opposite p) q ∙ ap (λ z. z ⊕ (opposite p ⊕ q)) (sym (apply-keep p))))

units-congruent : (x y : ℕ) → x < 2 → y < 2 → Congruent small opened x y
unfolding flat
units-congruent x y l k =
    record {
      turn = apply keep;
      listed = Memᴰ.head refl;
      shift = opposite (small.page.place x) ⊕ small.page.place y;
      onto = λ p j. (y, stay refl, rw (← alone x p l j) (onto (small.page.place x) (small.page.place y)));
      from = λ q j. (x, stay refl, rw (← alone y q k j) (onto (small.page.place x) (small.page.place y)));
    }

sizes : (x n : ℕ) → x < 2 → small.clue x ≡ some n → UnitHas small opened x n
unfolding clues_in
sizes x n l =
    two (λ x. small.clue x ≡ some n → UnitHas small opened x n)
    (λ e. record {
      cells = 0 ∷ [];
      once = (λ m. Memᴰ.not-nil m, tt);
      each = λ y m. itself y m;
      every = λ y j. Memᴰ.head (sym (alone 0 y (omega arith) j));
      size = (let z : ◌≡◌ {A = ℕ} 1 n = cc in z);
    })
    (λ e. let z : ◌≡◌ {A = ℕ} 0 1 = cc in absurd (omega arith))
    x l
  where
    itself : (y : ℕ) → y ∈ (0 ∷ []) → SameUnit small opened 0 y
    itself y (Memᴰ.head e) = stay (sym e)
    itself y (Memᴰ.tail m) = absurd (Memᴰ.not-nil m)

pub open-solves : Solution small opened
unfolding flat
open-solves =
    record {
      full = open_full;
      no_wall = λ x h l m j. never h.border;
      both = both-colours;
      one = λ x y l j e. stay (one_cell x l y (block_in y x l j) e);
      congruent = λ x y l j e. units-congruent x y l (block_in y x l j);
      clues = sizes;
    }

pub wall-fails : Solution small walled → ⊥
unfolding flat colours_in
wall-fails S =
    let r = S.both 0 true (omega arith) in
    let e = single (joins_block small walled) walls-joins 0 r.0 (omega arith) r.1 in
    let f = ap small.colour e ∙ r.2 in
    let z : ◌≡◌ {A = ℕ} 0 1 = cc in
    omega arith

pub witness : Witness
unfolding flat border_count book_from replies_from after done_book reply_to decide_reply check_reply names any
witness =
    record {
      solves = open-solves;
      fails = wall-fails;
      full = wall-full;
      open-stood = refl;
      open-answered = refl;
      wall-stood = refl;
      wall-answered = refl;
      open-looked = refl;
      open-previewed = refl;
      open-left = refl;
      wall-looked = refl;
      wall-previewed = refl;
      wall-left = refl;
    }
