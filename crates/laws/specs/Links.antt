-- A page whose borders are links from a first to a second cell has all that is asked of borders.
--
--   Link G b p q        the border b lies between p, its first cell, and q, its second; all that the page says of it
--   Linking G b p q     a link, one way round or the other
--   Linked G            every hop, and every border, is of a link
use Rattle.std.specs.Prelude.{◌≡◌, ◌⊎◌, ℕ, ◌<◌}
use Rattle.std.proofs.Common.{ap, ◌∙◌, inl, inr}
use Rattle.std.proofs.Math.Option.{some}
use Rattle.lists.specs.Lists.{◌∈◌}
use Rattle.rules.specs.Page.{Page, Hop, ◌⊕◌}
use Rattle.laws.specs.PointLaws.{add_comm}
use Rattle.laws.specs.PageLaws.{OneStep, Bordered}

pub record Link (G : Page) (b p q : ℕ) : Type 0 where
  pub border-in : b < G.borders
  pub first-in : p < G.cells
  pub second-in : q < G.cells
  pub first-is : G.first b ≡ p
  pub second_is : G.second b ≡ q
  pub forward : record { border = b; to = q } ∈ G.ahead p
  pub around-first : record { border = b; to = q } ∈ G.around p
  pub around-second : record { border = b; to = p } ∈ G.around q
  pub near : OneStep (G.place p) (G.place q)
  pub near-back : OneStep (G.place q) (G.place p)
  pub reads-it : G.reads (G.place p ⊕ G.place q) ≡ some b

-- the two cells are the link's, one way round or the other
abbrev pub Linking : Page → ℕ → ℕ → ℕ → Type 0
Linking G b p q = Link G b p q ⊎ Link G b q p

pub record Linked (G : Page) : Type 0 where
  pub of-around : (x : ℕ) (h : Hop) → x < G.cells → h ∈ G.around x → Linking G h.border x h.to
  pub of-ahead : (x : ℕ) (h : Hop) → x < G.cells → h ∈ G.ahead x → Link G h.border x h.to
  pub of-border : (b : ℕ) → b < G.borders → (p : ℕ) × (q : ℕ) × Link G b p q

module _ (G : Page) where
  pub linking-hop : (b p q : ℕ) → Linking G b p q → record { border = b; to = q } ∈ G.around p
  linking-hop b p q (inl l) = l.around-first
  linking-hop b p q (inr l) = l.around-second

  pub linking-reads : (b p q : ℕ) → Linking G b p q → G.reads (G.place p ⊕ G.place q) ≡ some b
  linking-reads b p q (inl l) = l.reads-it
  linking-reads b p q (inr l) = ap G.reads (add_comm (G.place p) (G.place q)) ∙ l.reads-it

  linking-near : (b p q : ℕ) → Linking G b p q → OneStep (G.place p) (G.place q)
  linking-near b p q (inl l) = l.near
  linking-near b p q (inr l) = l.near-back

  pub linking-in : (b p q : ℕ) → Linking G b p q → q < G.cells
  linking-in b p q (inl l) = l.second-in
  linking-in b p q (inr l) = l.first-in

  linking-border : (b p q : ℕ) → Linking G b p q → b < G.borders
  linking-border b p q (inl l) = l.border-in
  linking-border b p q (inr l) = l.border-in

  linking-ends : (b p q : ℕ) → Linking G b p q
      → ((G.first b ≡ p) × (G.second b ≡ q)) ⊎ ((G.first b ≡ q) × (G.second b ≡ p))
  linking-ends b p q (inl l) = inl (l.first-is, l.second_is)
  linking-ends b p q (inr l) = inr (l.first-is, l.second_is)

  linking-ahead : (b p q : ℕ) → Linking G b p q
      → record { border = b; to = q } ∈ G.ahead p ⊎ record { border = b; to = p } ∈ G.ahead q
  linking-ahead b p q (inl l) = inl l.forward
  linking-ahead b p q (inr l) = inr l.forward

  turn-round : (b p q : ℕ) → Linking G b p q → Linking G b q p
  turn-round b p q (inl l) = inr l
  turn-round b p q (inr l) = inl l

  module _ (K : Linked G) where
    pub linked-bordered : Bordered G
    linked-bordered =
        record {
          hop-in = λ x h l m. linking-in h.border x h.to (K.of-around x h l m);
          hop-border = λ x h l m. linking-border h.border x h.to (K.of-around x h l m);
          hop-back = λ x h l m.
              linking-hop h.border h.to x (turn-round h.border x h.to (K.of-around x h l m));
          hop-ends = λ x h l m. linking-ends h.border x h.to (K.of-around x h l m);
          first-in = λ b l. let r = K.of-border b l in rw r.2.first-is r.2.first-in;
          first-hop = λ b l.
              let r = K.of-border b l in rw (r.2.first-is, r.2.second_is) r.2.around-first;
          ahead-around = λ x h l m. (K.of-ahead x h l m).around-first;
          ahead-all = λ x h l m. linking-ahead h.border x h.to (K.of-around x h l m);
        }

    pub linked-near : (x : ℕ) (h : Hop) → x < G.cells → h ∈ G.around x → OneStep (G.place x) (G.place h.to)
    linked-near x h l m = linking-near h.border x h.to (K.of-around x h l m)

    pub linked-reads : (x : ℕ) (h : Hop) → x < G.cells → h ∈ G.around x
        → G.reads (G.place x ⊕ G.place h.to) ≡ some h.border
    linked-reads x h l m = linking-reads h.border x h.to (K.of-around x h l m)
