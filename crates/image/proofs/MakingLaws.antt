-- Making a fresh image: what is stored is the image of the fresh board; when the number is 0; and demand 3 from there.
--
--   fresh-bytes      tally, height, width, colours and clues stored over zeros are the image of the fresh board
--   number-refused, making-other, number-done, bytes-refused, bytes-done  the definitions by cases
--   fresh-exact      the number is 0 exactly if the puzzle is accepted and the bytes have an image's length
--   fresh-image      then the bytes are the image of the fresh board that `host-demand` starts from
--   fresh-known      and not alien
--   fresh-demand     demand 3 for a list of a host's calls from the bytes that making a fresh image wrote
use Rattle.std.specs.Prelude.{◌≡◌, refl, false, ◌↔◌, ℕ, ◌+◌, ◌-◌, ◌*◌, ◌≤◌, ℤ, pos, length, replicate}
use Rattle.std.proofs.Math.Path.{ap}
use Rattle.std.proofs.Common.{ap₂, sym, subst, ◌∙◌, arith}
use mathlib.Core.List.{List, [], ◌∷◌, ◌++◌, append_assoc}
use Rattle.std.proofs.Math.Decide.{ℕ_discrete}
use borrow.Author.Tests.{eq-eqb, ne_eqb}
use Rattle.std.proofs.Math.ListN.{set}
use Rattle.std.proofs.lemmas.List.{length-replicate, replicate-append-replicate}
use Rattle.std.proofs.Math.Seq.{sets}
use Rattle.lists.specs.Lists.{flat_map}
use Rattle.lists.specs.Padded.{padded}
use Rattle.lists.specs.PaddedLaws.{length-padded}
use Rattle.lists.specs.Stores.{sets-past, sets_over}
use Rattle.lists.specs.Appends.{flat_append}
use Rattle.lists.specs.Flats.{length-flat, flat-replicate}
use Rattle.rules.specs.Flat.{border_count}
use Rattle.rules.specs.Codes.{puzzle_in}
use Rattle.rules.specs.Book.{tally_of}
use Rattle.board.specs.declared.Returned.{Returned}
use Rattle.board.specs.Board.{number_of, fresh_board, fresh_of, SmallClues}
use Rattle.board.specs.Accepted.{Accepted, made_board}
use Rattle.board.proofs.DecideLaws.{done-returned}
use Rattle.board.proofs.FreshLaws.{Made, made-is}
use Rattle.demand3.proofs.Demand3Laws.{start-bare}
use Rattle.image.specs.Image.{two_bytes, four_bytes, bits_of, clue_bytes, tally_bytes, image_of, right_length}
use Rattle.image.specs.Image.{image_alien}
use Rattle.image.specs.Making.{fresh_number, fresh_image}
use Rattle.image.specs.Hosts.{HostCall, HostDemand}
use Rattle.image.proofs.HostLaws.{host-demand}
use Rattle.image.specs.RoundLaws.{long-is, image-known}
use Rattle.image.specs.ByteLaws.{four-long}

-- ---- what is stored
abbrev zeros : ℕ → List ℕ
zeros n = replicate n 0

zeros-join : (a b c : ℕ) (l : List ℕ) → a + b ≡ c → zeros a ++ (zeros b ++ l) ≡ zeros c ++ l
zeros-join a b c l e =
    sym (append_assoc (zeros a) (zeros b) l)
    ∙ ap (λ (x : List ℕ). x ++ l) (replicate-append-replicate a b 0 ∙ ap zeros e)

zero-clue : clue_bytes (pos 0) ≡ zeros 4
unfolding four_bytes two_bytes
zero-clue = refl

zero-two : two_bytes 0 ≡ zeros 2
unfolding two_bytes
zero-two = refl

-- the tally with m borders undecided and none decided
tally-stored : (m : ℕ) → sets (zeros 11082) 11076 (two_bytes m) ≡ zeros 11076 ++ tally_bytes (tally_of m 0 0)
unfolding flat_map two_bytes
tally-stored m =
    ap (λ (l : List ℕ). sets l 11076 (two_bytes m)) (sym (replicate-append-replicate 11076 6 0))
    ∙ sets-past (zeros 11076) (zeros 6) 11076 0 (two_bytes m) (length-replicate {A = ℕ} 11076 0)

-- from the clues on a fresh board's image has the clues, then zeros and the bytes l of the tally
module _ (ks : List ℤ) (q : length ks ≤ 1024) where
  abbrev bytes : List ℕ
  bytes = flat_map clue_bytes ks

  bytes-long : length bytes ≡ 4 * length ks
  bytes-long = length-flat clue_bytes 4 ks (λ k m. four-long (bits_of k))

  tail : (l : List ℕ) → flat_map clue_bytes (padded 1024 (pos 0) ks)
      ++ (zeros 1984 ++ (two_bytes 0 ++ (flat_map two_bytes (zeros 1984) ++ l)))
      ≡ bytes ++ (zeros (10050 - 4 * length ks) ++ l)
  tail l =
      let m = 1024 - length ks in
      let z : zeros 1984 ++ (two_bytes 0 ++ (flat_map two_bytes (zeros 1984) ++ l)) ≡ zeros 5954 ++ l =
      ap (λ (x : List ℕ). zeros 1984 ++ x)
      (ap₂ (λ (x y : List ℕ). x ++ (y ++ l)) zero-two (flat-replicate two_bytes 2 0 0 zero-two 1984)
      ∙ zeros-join 2 (2 * 1984) 3970 l (omega arith))
      ∙ zeros-join 1984 3970 5954 l (omega arith) in
      let f : flat_map clue_bytes (padded 1024 (pos 0) ks) ≡ bytes ++ zeros (4 * m) =
      flat_append clue_bytes ks (replicate m (pos 0))
      ∙ ap (λ (x : List ℕ). bytes ++ x) (flat-replicate clue_bytes 4 (pos 0) 0 zero-clue m) in
      ap₂ (λ (x y : List ℕ). x ++ y) f z
      ∙ append_assoc bytes (zeros (4 * m)) (zeros 5954 ++ l)
      ∙ ap (λ (x : List ℕ). bytes ++ x) (zeros-join (4 * m) 5954 (10050 - 4 * length ks) l (omega arith))

module _ (h w : ℕ) (cs : List ℕ) (ks : List ℤ) (p : length cs ≤ 1024) (q : length ks ≤ 1024) where
  abbrev size : List ℕ
  size = h ∷ w ∷ []

  abbrev tally : List ℕ
  tally = tally_bytes (tally_of (border_count h w) 0 0)

  abbrev rest : List ℕ
  rest = zeros (10050 - 4 * length ks) ++ tally

  -- the zeros in parts: over the colours, after them, over the clues, after them
  parts : zeros 11074 ++ tally ≡ zeros (length cs) ++ (zeros (1024 - length cs) ++ (zeros (4 * length ks) ++ rest))
  parts =
      let n = length cs in
      let k = 4 * length ks in
      sym
      (ap (λ (l : List ℕ). zeros n ++ l)
      (ap (λ (l : List ℕ). zeros (1024 - n) ++ l) (zeros-join k (10050 - k) 10050 tally (omega arith))
      ∙ zeros-join (1024 - n) 10050 (11074 - n) tally (omega arith))
      ∙ zeros-join n (11074 - n) 11074 tally (omega arith))

  colours-stored : sets (size ++ (zeros 11074 ++ tally)) 2 cs
      ≡ size ++ (padded 1024 0 cs ++ (zeros (4 * length ks) ++ rest))
  colours-stored =
      let r = zeros (1024 - length cs) in
      let t = zeros (4 * length ks) ++ rest in
      ap (λ (l : List ℕ). sets (size ++ l) 2 cs) parts
      ∙ sets-past size (zeros (length cs) ++ (r ++ t)) 2 0 cs refl
      ∙ ap (λ (l : List ℕ). size ++ l)
      (sets_over cs (zeros (length cs)) (r ++ t) (length-replicate (length cs) 0) ∙ sym (append_assoc cs r t))

  clues-stored : sets (size ++ (padded 1024 0 cs ++ (zeros (4 * length ks) ++ rest))) 1026 (bytes ks q)
      ≡ size ++ (padded 1024 0 cs ++ (bytes ks q ++ rest))
  clues-stored =
      let t = zeros (4 * length ks) ++ rest in
      sets-past size (padded 1024 0 cs ++ t) 2 1024 (bytes ks q) refl
      ∙ ap (λ (l : List ℕ). size ++ l)
      (sets-past (padded 1024 0 cs) t 1024 0 (bytes ks q) (length-padded 1024 0 cs p)
      ∙ ap (λ (l : List ℕ). padded 1024 0 cs ++ l)
      (sets_over (bytes ks q) (zeros (4 * length ks)) rest
      (length-replicate (4 * length ks) 0 ∙ sym (bytes-long ks q))))

  pub fresh-bytes : (n m : ℕ) → n ≡ 11082 → m ≡ border_count h w
      → sets (sets (set (set (sets (zeros n) 11076 (two_bytes m)) 0 h) 1 w) 2 cs) 1026 (flat_map clue_bytes ks)
      ≡ image_of (fresh_board h w cs ks)
  unfolding image_of
  fresh-bytes n m e f =
      ap (λ (l : List ℕ). sets (sets l 2 cs) 1026 (bytes ks q))
      (ap₂ (λ (i j : ℕ). set (set (sets (zeros i) 11076 (two_bytes j)) 0 h) 1 w) e f
      ∙ ap (λ (l : List ℕ). set (set l 0 h) 1 w) (tally-stored (border_count h w)))
      ∙ ap (λ (l : List ℕ). sets l 1026 (bytes ks q)) colours-stored
      ∙ clues-stored
      ∙ ap (λ (l : List ℕ). size ++ (padded 1024 0 cs ++ l)) (sym (tail ks q tally))

-- ---- the cases
module _ (h w : ℕ) (cs : List ℕ) (ks : List ℤ) (s : List ℕ) where
  abbrev made : ℕ
  made = number_of (fresh_of h w cs ks).outcome

  pub number-refused : (made ≡ 0 → ⊥) → fresh_number h w cs ks s ≡ made
  unfolding fresh_number
  number-refused p = rw (ne_eqb made 0 p)

  module _ (p : made ≡ 0) where
    pub making-other : (length s ≡ 11082 → ⊥) → fresh_number h w cs ks s ≡ 5
    unfolding fresh_number right_length
    making-other q = rw (eq-eqb made 0 p, ne_eqb (length s) 11082 q)

    pub number-done : length s ≡ 11082 → fresh_number h w cs ks s ≡ 0
    unfolding fresh_number
    number-done q = rw (eq-eqb made 0 p, long-is s q)

    -- what a number of 0 says of the puzzle
    pub made_of : Made h w cs ks (made_board h w cs ks)
    made_of = made-is (done-returned (fresh_of h w cs ks) p)

  pub bytes-refused : (fresh_number h w cs ks s ≡ 0 → ⊥) → fresh_image h w cs ks s ≡ s
  unfolding fresh_image
  bytes-refused p = rw (ne_eqb (fresh_number h w cs ks s) 0 p)

  pub bytes-done : fresh_number h w cs ks s ≡ 0 → fresh_image h w cs ks s ≡ image_of (made_board h w cs ks)
  unfolding fresh_image
  bytes-done p = rw (eq-eqb (fresh_number h w cs ks s) 0 p)

  zero_of : fresh_number h w cs ks s ≡ 0 → (made ≡ 0) × (length s ≡ 11082)
  zero_of e = go (ℕ_discrete made 0) (ℕ_discrete (length s) 11082)
    where
      go : Dec (made ≡ 0) → Dec (length s ≡ 11082) → (made ≡ 0) × (length s ≡ 11082)
      go (no p) q = absurd (p (sym (number-refused p) ∙ e))
      go (yes p) (no q) = absurd (let z : 5 ≡ 0 = sym (making-other p q) ∙ e in omega arith)
      go (yes p) (yes q) = (p, q)

-- ---- accepted puzzles
module _ (h w : ℕ) (cs : List ℕ) (ks : List ℤ) (s : List ℕ) where
  accepted-zero : Accepted h w cs ks → length s ≡ 11082 → fresh_number h w cs ks s ≡ 0
  accepted-zero A q = number-done h w cs ks s (ap number_of A.made) q

  pub fresh-exact : SmallClues ks → (fresh_number h w cs ks s ≡ 0) ↔ (Accepted h w cs ks × (length s ≡ 11082))
  fresh-exact f = (
    λ e.
        let z = zero_of h w cs ks s e in
        let o = ap (λ (r : Returned). r.outcome) (done-returned (fresh_of h w cs ks) z.0) in
        (record { small = f; made = o }, z.1),
    λ r. accepted-zero r.0 r.1,
  )

  module _ (A : Accepted h w cs ks) (q : length s ≡ 11082) where
    pub fresh-image : fresh_image h w cs ks s ≡ image_of (made_board h w cs ks)
    fresh-image = bytes-done h w cs ks s (accepted-zero A q)

    pub fresh-known : image_alien (fresh_image h w cs ks s) ≡ false
    fresh-known =
        let b = start-bare h w cs ks A in
        ap image_alien fresh-image ∙ image-known (made_board h w cs ks) (record { known = b.known; typed = b.typed })

    pub fresh-demand : (calls : List HostCall)
        → HostDemand (fresh_image h w cs ks s) (made_board h w cs ks) (puzzle_in h w cs ks) calls
    fresh-demand calls =
        subst (λ (t : List ℕ). HostDemand t (made_board h w cs ks) (puzzle_in h w cs ks) calls) (sym fresh-image)
        (host-demand h w cs ks A calls)
