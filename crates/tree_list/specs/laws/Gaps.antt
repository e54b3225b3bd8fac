-- A node that is let in, and the array of the gaps behind it. Assumes nothing.
use Rattle.std.specs.Prelude.{ℕ, suc, ◌+◌, ◌*◌, ◌≤◌, ◌<◌, ◌≡◌, Bool, ◌&&◌, ◌⊎◌, List, [], ◌∷◌, ◌++◌, leb, ltb, length, take, set}
use Rattle.std.proofs.Math.Path.{refl, ap}
use Rattle.std.proofs.Common.{subst, ◌∙◌, sym as flip, inl, inr, ⊎_elim, arith, length-set, get_or-set_same, get_or-set_other}
use Rattle.std.proofs.Math.Bool.{true, false}
use Rattle.std.proofs.lemmas.Bool.{false≢true}
use Rattle.std.proofs.Math.ListN.{get_or, length-append, get_or-append}
use Rattle.std.proofs.Math.Seq.{length-take-le, get_or-take, get_or-append-add, get_or_at}
use borrow.Author.Tests.{le-leb, lt-leb, leb-true, lt-ltb, le-ltb, ltb-true}
use Rattle.base_facts.specs.laws.Bools.{and_parts}
use Rattle.base_facts.specs.laws.Numbers.{lt-or-ge}
use Rattle.read_tokens.specs.Bounds.{depth_bound}
use Rattle.match_meaning.specs.Meaning.{Node}
use Rattle.tree_list.specs.Preorder.{Gap, gap, gap_at, root_first, admits, gaps_behind}
use Rattle.tree_list.specs.steps.Gaps.{Gapped, admits_in, opened_in, Admitted}

-- ── what a node that is let in has ──
pub record Stands (R : ℕ) (gs : List Gap) (k : ℕ) (x : Node) : Type 0 where
  pub first : root_first k x.depth ≡ true
  pub high : x.depth ≤ depth_bound
  pub possible : x.depth < length gs
  pub known : x.symbol < R
  pub forward : x.start ≤ x.end
  pub behind : (gap_at gs x.depth).from ≤ x.start
  pub inside : x.end ≤ (gap_at gs x.depth).to

module _ (R : ℕ) (gs : List Gap) (k : ℕ) (x : Node) where
  pub admits-parts : admits R gs k x ≡ true → Stands R gs k x
  unfolding admits
  admits-parts e =
      let a : (root_first k x.depth ≡ true) × (_ ≡ true) = and_parts (root_first k x.depth) _ e in
      let b : (leb x.depth depth_bound ≡ true) × (_ ≡ true) = and_parts (leb x.depth depth_bound) _ a.1 in
      let c : (ltb x.depth (length gs) ≡ true) × (_ ≡ true) = and_parts (ltb x.depth (length gs)) _ b.1 in
      let d : (ltb x.symbol R ≡ true) × (_ ≡ true) = and_parts (ltb x.symbol R) _ c.1 in
      let f : (leb x.start x.end ≡ true) × (_ ≡ true) = and_parts (leb x.start x.end) _ d.1 in
      let g : (leb (gap_at gs x.depth).from x.start ≡ true) × (leb x.end (gap_at gs x.depth).to ≡ true) = and_parts (leb (gap_at gs x.depth).from x.start) _ f.1 in
      record {
        first = a.0;
        high = leb-true x.depth depth_bound b.0;
        possible = ltb-true x.depth (length gs) c.0;
        known = ltb-true x.symbol R d.0;
        forward = leb-true x.start x.end f.0;
        behind = leb-true (gap_at gs x.depth).from x.start g.0;
        inside = leb-true x.end (gap_at gs x.depth).to g.1;
      }

  pub parts-admit : Stands R gs k x → admits R gs k x ≡ true
  unfolding admits
  parts-admit s =
      rw (
        s.first,
        le-leb x.depth depth_bound s.high,
        lt-ltb x.depth (length gs) s.possible,
        lt-ltb x.symbol R s.known,
        le-leb x.start x.end s.forward,
        le-leb (gap_at gs x.depth).from x.start s.behind,
        le-leb x.end (gap_at gs x.depth).to s.inside,
      )

  too-deep-out : depth_bound < x.depth → false ≡ admits R gs k x
  unfolding admits
  too-deep-out h = rw (lt-leb x.depth depth_bound h) (second (root_first k x.depth))
    where
      second : (a : Bool) → false ≡ (a && false)
      second true = refl
      second false = refl

-- ── the gaps behind a node ──
module _ (gs : List Gap) (x : Node) (possible : x.depth ≤ length gs) where
  pub gaps_behind-long : length (gaps_behind gs x) ≡ x.depth + 2
  unfolding gaps_behind
  gaps_behind-long = length-append (take x.depth gs) _ ∙ ap (λ (n : ℕ). n + 2) (length-take-le x.depth gs possible)

  pub gaps_behind-below : (e : ℕ) → e < x.depth → gap_at (gaps_behind gs x) e ≡ gap_at gs e
  unfolding gaps_behind
  gaps_behind-below e h =
      get_or-append (take x.depth gs) _ (gap 0 0) e (omega (arith, h, length-take-le x.depth gs possible)) ∙ get_or-take x.depth gs e (gap 0 0) h

  pub gaps_behind-own : gap_at (gaps_behind gs x) x.depth ≡ gap x.end (gap_at gs x.depth).to
  unfolding gaps_behind
  gaps_behind-own = get_or_at (take x.depth gs) _ _ (gap 0 0) x.depth (length-take-le x.depth gs possible)

  pub gaps_behind-child : gap_at (gaps_behind gs x) (suc x.depth) ≡ gap x.start x.end
  unfolding gaps_behind
  gaps_behind-child =
      ap (λ (i : ℕ). get_or (take x.depth gs ++ (gap x.end (gap_at gs x.depth).to ∷ gap x.start x.end ∷ [])) i (gap 0 0))
      (omega (arith, length-take-le x.depth gs possible))
      ∙ get_or-append-add (take x.depth gs) (gap x.end (gap_at gs x.depth).to ∷ gap x.start x.end ∷ []) 1 (gap 0 0)

-- as many as are possible for the next node
pub gaps_behind-length : (R : ℕ) (gs : List Gap) (k : ℕ) (x : Node) → admits R gs k x ≡ true → length (gaps_behind gs x) ≡ x.depth + 2
gaps_behind-length R gs k x e = gaps_behind-long gs x (omega (arith, (admits-parts R gs k x e).possible))

-- ── in the array ──
-- after its first store, and after two
abbrev one : List ℕ → Node → List ℕ
one old x = set old (2 * x.depth) x.end

abbrev two : List ℕ → Node → List ℕ
two old x = set (one old x) (2 * x.depth + 2) x.start

module _ (x : Node) (old : List ℕ) (room : 2 * x.depth + 3 < length old) where
  stays : (j : ℕ) → (j ≡ 2 * x.depth → ⊥) → (j ≡ 2 * x.depth + 2 → ⊥) → (j ≡ 2 * x.depth + 3 → ⊥) → get_or (opened_in old x) j 0 ≡ get_or old j 0
  stays j a b c =
      get_or-set_other (two old x) (2 * x.depth + 3) j x.end 0 c ∙ get_or-set_other (one old x) (2 * x.depth + 2) j x.start 0 b
      ∙ get_or-set_other old (2 * x.depth) j x.end 0 a

  own-from : get_or (opened_in old x) (2 * x.depth) 0 ≡ x.end
  own-from =
      get_or-set_other (two old x) (2 * x.depth + 3) (2 * x.depth) x.end 0 (λ e. omega (arith, e))
      ∙ get_or-set_other (one old x) (2 * x.depth + 2) (2 * x.depth) x.start 0 (λ e. omega (arith, e))
      ∙ get_or-set_same old (2 * x.depth) x.end 0 (omega (arith, room))

  child-from : get_or (opened_in old x) (2 * x.depth + 2) 0 ≡ x.start
  child-from =
      get_or-set_other (two old x) (2 * x.depth + 3) (2 * x.depth + 2) x.end 0 (λ e. omega (arith, e))
      ∙ get_or-set_same (one old x) (2 * x.depth + 2) x.start 0 (rw (length-set old (2 * x.depth) x.end) (omega (arith, room)))

  child-to : get_or (opened_in old x) (2 * x.depth + 3) 0 ≡ x.end
  child-to =
      get_or-set_same (two old x) (2 * x.depth + 3) x.end 0
      (rw (length-set (one old x) (2 * x.depth + 2) x.start, length-set old (2 * x.depth) x.end) room)

places : (d e : ℕ) → e < d + 2 → (e < d) ⊎ ((e ≡ d) ⊎ (e ≡ suc d))
places d e h = ⊎_elim (λ l. inl l) (λ g. ⊎_elim (λ l. inr (inl (omega (arith, l, g)))) (λ l. inr (inr (omega (arith, l, g, h)))) (lt-or-ge e (suc d))) (lt-or-ge e d)

module _ (gs : List Gap) (x : Node) (old : List ℕ) (possible : x.depth < length gs) (room : 2 * x.depth + 3 < length old) (g : Gapped gs old) where
  lies : x.depth ≤ length gs
  lies = omega (arith, possible)

  from_at : (e : ℕ) → (e < x.depth) ⊎ ((e ≡ x.depth) ⊎ (e ≡ suc x.depth)) → get_or (opened_in old x) (2 * e) 0 ≡ (gap_at (gaps_behind gs x) e).from
  from_at e (inl h) =
      stays x old room (2 * e) (λ i. omega (arith, i, h)) (λ i. omega (arith, i, h)) (λ i. omega (arith, i, h)) ∙ g.from e (omega (arith, h, possible))
      ∙ ap (λ (y : Gap). y.from) (flip (gaps_behind-below gs x lies e h))
  from_at e (inr (inl h)) =
      subst (λ (i : ℕ). get_or (opened_in old x) (2 * i) 0 ≡ (gap_at (gaps_behind gs x) i).from) (flip h) (own-from x old room ∙ ap (λ (y : Gap). y.from) (flip (gaps_behind-own gs x lies)))
  from_at e (inr (inr h)) =
      ap (λ (i : ℕ). get_or (opened_in old x) i 0) (omega (arith, h)) ∙ child-from x old room
      ∙ ap (λ (y : Gap). y.from) (flip (gaps_behind-child gs x lies)) ∙ ap (λ (i : ℕ). (gap_at (gaps_behind gs x) i).from) (flip h)

  to_at : (e : ℕ) → (e < x.depth) ⊎ ((e ≡ x.depth) ⊎ (e ≡ suc x.depth)) → get_or (opened_in old x) (2 * e + 1) 0 ≡ (gap_at (gaps_behind gs x) e).to
  to_at e (inl h) =
      stays x old room (2 * e + 1) (λ i. omega (arith, i, h)) (λ i. omega (arith, i, h)) (λ i. omega (arith, i, h)) ∙ g.to e (omega (arith, h, possible))
      ∙ ap (λ (y : Gap). y.to) (flip (gaps_behind-below gs x lies e h))
  to_at e (inr (inl h)) =
      subst (λ (i : ℕ). get_or (opened_in old x) (2 * i + 1) 0 ≡ (gap_at (gaps_behind gs x) i).to) (flip h)
      (stays x old room (2 * x.depth + 1) (λ i. omega (arith, i)) (λ i. omega (arith, i)) (λ i. omega (arith, i)) ∙ g.to x.depth possible
      ∙ ap (λ (y : Gap). y.to) (flip (gaps_behind-own gs x lies)))
  to_at e (inr (inr h)) =
      ap (λ (i : ℕ). get_or (opened_in old x) i 0) (omega (arith, h)) ∙ child-to x old room
      ∙ ap (λ (y : Gap). y.to) (flip (gaps_behind-child gs x lies)) ∙ ap (λ (i : ℕ). (gap_at (gaps_behind gs x) i).to) (flip h)

  gapped-behind : Gapped (gaps_behind gs x) (opened_in old x)
  gapped-behind =
      record {
        from = λ e h. from_at e (places x.depth e (omega (arith, h, gaps_behind-long gs x lies)));
        to = λ e h. to_at e (places x.depth e (omega (arith, h, gaps_behind-long gs x lies)));
      }

-- ── of the code ──
pub stored : (a b c d : List ℕ) (x : Node) → b ≡ set a (2 * x.depth) x.end → c ≡ set b (2 * x.depth + 2) x.start → d ≡ set c (2 * x.depth + 3) x.end
    → d ≡ opened_in a x
stored a b c d x e f g = g ∙ ap (λ (l : List ℕ). set l (2 * x.depth + 3) x.end) (f ∙ ap (λ (l : List ℕ). set l (2 * x.depth + 2) x.start) e)

module _ (R depths k : ℕ) (x : Node) (old : List ℕ) where
  -- the words of a gap that is not there do not count
  reads-by : (gs : List Gap) → length gs ≡ depths → Gapped gs old → (x.depth < length gs) ⊎ (length gs ≤ x.depth)
      → admits_in R depths (gap (get_or old (2 * x.depth) 0) (get_or old (2 * x.depth + 1) 0)) k x ≡ admits R gs k x
  unfolding admits_in admits
  reads-by gs l g (inl h) = rw (l, g.from x.depth h, g.to x.depth h)
  reads-by gs l g (inr h) = rw (l, le-ltb x.depth depths (omega (arith, l, h)))

  module _ (new : List ℕ) where
    pub refused-deep : depth_bound < x.depth → Admitted R k x depths old new false
    refused-deep h = record { answer = λ gs l g. too-deep-out R gs k x h; opens = λ gs l g e. absurd (false≢true e) }

    module _ (from to : ℕ) (starts : from ≡ get_or old (2 * x.depth) 0) (ends : to ≡ get_or old (2 * x.depth + 1) 0) where
      reads-gap : (gs : List Gap) → length gs ≡ depths → Gapped gs old → admits_in R depths (gap from to) k x ≡ admits R gs k x
      reads-gap gs l g = rw (starts, ends) (reads-by gs l g (lt-or-ge x.depth (length gs)))

      pub refused : false ≡ admits_in R depths (gap from to) k x → Admitted R k x depths old new false
      refused e = record { answer = λ gs l g. e ∙ reads-gap gs l g; opens = λ gs l g i. absurd (false≢true i) }

      pub let-in : true ≡ admits_in R depths (gap from to) k x → 2 * x.depth + 3 < length old → new ≡ opened_in old x → Admitted R k x depths old new true
      let-in e room n =
          record {
            answer = λ gs l g. e ∙ reads-gap gs l g;
            opens = λ gs l g i.
                subst (λ (ws : List ℕ). Gapped (gaps_behind gs x) ws) (flip n)
                (gapped-behind gs x old (admits-parts R gs k x (flip (e ∙ reads-gap gs l g))).possible room g);
          }
