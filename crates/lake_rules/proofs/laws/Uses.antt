-- ALT of a symbol's body is the union of ALT over the symbol's uses (01: "A body gets the set of each occurrence", and nothing else), so that one
-- definition serves lakes with a body and without (02, §4). Assumes nothing.
use Prim.Native.Nat.{ℕ, zero, suc, ◌+◌, ◌-◌, ◌≤◌, ◌<◌}
use Rattle.std.specs.Prelude.{◌≡◌, ◌⊎◌, Bool, cond, set}
use Rattle.std.proofs.Math.Path.{refl, ap}
use Rattle.std.proofs.Common.{sym, ◌∙◌, subst, inl, inr, arith, length-set, length-append, get_or-set_same, get_or-set_other, get_or-append-add, eqb-true, eq-eqb}
use Rattle.std.proofs.Math.Logic.{⊎_elim}
use Rattle.std.proofs.Math.Bool.{true, false}
use Rattle.std.proofs.lemmas.Bool.{false≢true}
use mathlib.Core.List.{List, [], ◌∷◌, ◌++◌}
use Rattle.std.proofs.Math.Option.{Option, none, some}
use Rattle.std.proofs.Math.ListN.{length, get_or, get_or-append}
use Rattle.base_facts.specs.laws.Numbers.{lt-or-ge, same?}
use Rattle.base_words.specs.Set.{union_of, empty}
use Rattle.base_rounds.specs.laws.Cells.{Every}
use Rattle.base_rounds.specs.laws.Pair.{Set2, In2, pair, pair-joins}
use Rattle.read_tokens.specs.Token.{Leaf}
use Rattle.grammar.specs.Exp.{Exp, sym as use-of, ter, seq, alt, opt, star, plus, ahead, never, size}
use Rattle.grammar.specs.Numbers.{Grammar, terminal_in}
use Rattle.grammar.specs.Parts.{Part, terminal, occurs, sequence, choice, option, repeat, repeat1, affirms, denies, last, parts_of, parts_all}
use Rattle.grammar_table.specs.Holds.{present, roots_from}
use Rattle.grammar_table.specs.laws.Parts.{size-pos, total, all-long, root-le}
use Rattle.grammar_table.specs.laws.Places.{get_d_any}
use Rattle.lake_step_one.specs.Intermediate.{intermediate}
use Rattle.lake_step_one.specs.Proper.{ProperIn, Proper, middle}
use Rattle.lake_rules.specs.Beginning.{Beginning}
use Rattle.lake_rules.specs.Analysis.{analysed, analysis_in, analysis, is_use, uses_alt, lake_alt}
use Rattle.lake_rules.specs.Rules.{OfBody, AltRule, Solves, Least}
use Rattle.lake_rules.proofs.laws.Least.{lawful-in}

-- ── a body is no part of an expression ──
abbrev NoPart : ℕ → Part → Type 0
NoPart k (terminal t) = Unit {0}
NoPart k (occurs r) = Unit {0}
NoPart k (sequence a b) = (a ≡ k → ⊥) × (b ≡ k → ⊥)
NoPart k (choice a b) = (a ≡ k → ⊥) × (b ≡ k → ⊥)
NoPart k (option a) = a ≡ k → ⊥
NoPart k (repeat a) = a ≡ k → ⊥
NoPart k (repeat1 a) = a ≡ k → ⊥
NoPart k (affirms a) = a ≡ k → ⊥
NoPart k (denies a) = a ≡ k → ⊥

-- the parts lie from lo on, before hi
abbrev From : ℕ → ℕ → ℕ → Type 0
From lo hi a = (lo ≤ a) × (a < hi)

abbrev Between : ℕ → ℕ → Part → Type 0
Between lo hi (terminal t) = Unit {0}
Between lo hi (occurs r) = Unit {0}
Between lo hi (sequence a b) = From lo hi a × From lo hi b
Between lo hi (choice a b) = From lo hi a × From lo hi b
Between lo hi (option a) = From lo hi a
Between lo hi (repeat a) = From lo hi a
Between lo hi (repeat1 a) = From lo hi a
Between lo hi (affirms a) = From lo hi a
Between lo hi (denies a) = From lo hi a

abbrev BetweenAll : ℕ → ℕ → List Part → Type 0
BetweenAll lo hi [] = Unit {0}
BetweenAll lo hi (p ∷ ps) = Between lo hi p × BetweenAll lo hi ps

both : (lo hi : ℕ) (ps qs : List Part) → BetweenAll lo hi ps → BetweenAll lo hi qs → BetweenAll lo hi (ps ++ qs)
both lo hi [] qs h k = k
both lo hi (p ∷ ps) qs h k = (h.0, both lo hi ps qs h.1 k)

between-at : (lo hi : ℕ) (ps : List Part) (d : Part) → BetweenAll lo hi ps → (i : ℕ) → i < length ps → Between lo hi (get_or ps i d)
between-at lo hi [] d h i l = absurd (omega arith)
between-at lo hi (p ∷ ps) d h zero l = h.0
between-at lo hi (p ∷ ps) d h (suc i) l = between-at lo hi ps d h.1 i (omega arith)

module _ (lo hi lo' hi' : ℕ) (l : lo' ≤ lo) (h : hi ≤ hi') where
  wide : (a : ℕ) → From lo hi a → From lo' hi' a
  wide a w = (omega (arith, w.0), omega (arith, w.1))

  wider : (p : Part) → Between lo hi p → Between lo' hi' p
  wider (terminal t) w = tt
  wider (occurs r) w = tt
  wider (sequence a b) w = (wide a w.0, wide b w.1)
  wider (choice a b) w = (wide a w.0, wide b w.1)
  wider (option a) w = wide a w
  wider (repeat a) w = wide a w
  wider (repeat1 a) w = wide a w
  wider (affirms a) w = wide a w
  wider (denies a) w = wide a w

  wider-all : (ps : List Part) → BetweenAll lo hi ps → BetweenAll lo' hi' ps
  wider-all [] w = tt
  wider-all (p ∷ ps) w = (wider p w.0, wider-all ps w.1)

-- a number before them or behind is none of them
module _ (lo hi k : ℕ) (out : (k < lo) ⊎ (hi ≤ k)) where
  not-it : (a : ℕ) → From lo hi a → a ≡ k → ⊥
  not-it a w e = ⊎_elim (λ (h : k < lo). absurd (omega (arith, w.0, e, h))) (λ (h : hi ≤ k). absurd (omega (arith, w.1, e, h))) out

  outside : (p : Part) → Between lo hi p → NoPart k p
  outside (terminal t) w = tt
  outside (occurs r) w = tt
  outside (sequence a b) w = (not-it a w.0, not-it b w.1)
  outside (choice a b) w = (not-it a w.0, not-it b w.1)
  outside (option a) w = not-it a w
  outside (repeat a) w = not-it a w
  outside (repeat1 a) w = not-it a w
  outside (affirms a) w = not-it a w
  outside (denies a) w = not-it a w

module _ (t : Leaf → ℕ) where
  here : (a : Exp ℕ) (o hi : ℕ) → o + size a ≤ hi → From o hi (last o a)
  here a o hi h = (omega (arith, size-pos a), omega (arith, size-pos a))

  -- of one expression: its parts come before it
  one_more : (a : Exp ℕ) (o : ℕ) (p : Part) → BetweenAll o (last o a) (parts_of t o a) → Between o (o + size a) p → BetweenAll o (o + size a) (parts_of t o a ++ (p ∷ []))
  one_more a o p h k = both o (o + size a) (parts_of t o a) (p ∷ []) (wider-all o (last o a) o (o + size a) (omega arith) (omega arith) (parts_of t o a) h) (k, tt)

  two-more : (a b : Exp ℕ) (o : ℕ) (p : Part) → BetweenAll o (last o a) (parts_of t o a) → BetweenAll (o + size a) (last (o + size a) b) (parts_of t (o + size a) b)
      → Between o (o + (size a + size b)) p → BetweenAll o (o + (size a + size b)) (parts_of t o a ++ (parts_of t (o + size a) b ++ (p ∷ [])))
  two-more a b o p h k w =
      let hi = o + (size a + size b) in
      both o hi (parts_of t o a) (parts_of t (o + size a) b ++ (p ∷ [])) (wider-all o (last o a) o hi (omega arith) (omega arith) (parts_of t o a) h)
      (both o hi (parts_of t (o + size a) b) (p ∷ []) (wider-all (o + size a) (last (o + size a) b) o hi (omega arith) (omega arith) (parts_of t (o + size a) b) k) (w, tt))

  up_to : (o hi hi' : ℕ) (ps : List Part) → hi ≡ hi' → BetweenAll o hi ps → BetweenAll o hi' ps
  up_to o hi hi' ps e h = subst (λ (i : ℕ). BetweenAll o i ps) e h

  parts-between : (e : Exp ℕ) (o : ℕ) → BetweenAll o (last o e) (parts_of t o e)
  unfolding parts_of size
  parts-between (use-of r) o = (tt, tt)
  parts-between (ter x) o = (tt, tt)
  parts-between (seq a b) o =
      up_to o (o + (size a + size b)) (last o (seq a b)) (parts_of t o (seq a b)) (omega arith)
      (two-more a b o (sequence (last o a) (last (o + size a) b)) (parts-between a o) (parts-between b (o + size a))
      (here a o (o + (size a + size b)) (omega arith), (omega (arith, size-pos b), omega (arith, size-pos b))))
  parts-between (alt a b) o =
      up_to o (o + (size a + size b)) (last o (alt a b)) (parts_of t o (alt a b)) (omega arith)
      (two-more a b o (choice (last o a) (last (o + size a) b)) (parts-between a o) (parts-between b (o + size a))
      (here a o (o + (size a + size b)) (omega arith), (omega (arith, size-pos b), omega (arith, size-pos b))))
  parts-between (opt a) o = up_to o (o + size a) (last o (opt a)) (parts_of t o (opt a)) (omega arith) (one_more a o (option (last o a)) (parts-between a o) (here a o (o + size a) (omega arith)))
  parts-between (star a) o = up_to o (o + size a) (last o (star a)) (parts_of t o (star a)) (omega arith) (one_more a o (repeat (last o a)) (parts-between a o) (here a o (o + size a) (omega arith)))
  parts-between (plus a) o = up_to o (o + size a) (last o (plus a)) (parts_of t o (plus a)) (omega arith) (one_more a o (repeat1 (last o a)) (parts-between a o) (here a o (o + size a) (omega arith)))
  parts-between (ahead a) o = up_to o (o + size a) (last o (ahead a)) (parts_of t o (ahead a)) (omega arith)
      (one_more a o (affirms (last o a)) (parts-between a o) (here a o (o + size a) (omega arith)))
  parts-between (never a) o = up_to o (o + size a) (last o (never a)) (parts_of t o (never a)) (omega arith) (one_more a o (denies (last o a)) (parts-between a o) (here a o (o + size a) (omega arith)))

  -- of all bodies
  all-between : (es : List (Exp ℕ)) (o : ℕ) → BetweenAll o (o + total es) (parts_all t o es)
  unfolding parts_all total
  all-between [] o = tt
  all-between (e ∷ es) o =
      both o (o + (size e + total es)) (parts_of t o e) (parts_all t (o + size e) es)
      (wider-all o (last o e) o (o + (size e + total es)) (omega arith) (omega arith) (parts_of t o e) (parts-between e o))
      (wider-all (o + size e) (o + size e + total es) o (o + (size e + total es)) (omega arith) (omega arith) (parts_all t (o + size e) es) (all-between es (o + size e)))

  root-from : (os : List (Option (Exp ℕ))) (o s k : ℕ) → get_or (roots_from o os) s 0 ≡ suc k → o ≤ k
  unfolding roots_from
  root-from [] o s k e = absurd (omega (arith, e))
  root-from (none ∷ os) o zero k e = absurd (omega (arith, e))
  root-from (none ∷ os) o (suc s) k e = root-from os o s k e
  root-from (some a ∷ os) o zero k e = omega (arith, e, size-pos a)
  root-from (some a ∷ os) o (suc s) k e = omega (arith, root-from os (o + size a) s k e)

  -- each symbol has a body of its own
  pub one-root : (os : List (Option (Exp ℕ))) (o s q k : ℕ) → get_or (roots_from o os) s 0 ≡ suc k → get_or (roots_from o os) q 0 ≡ suc k → q ≡ s
  unfolding roots_from
  one-root [] o s q k e f = absurd (omega (arith, e))
  one-root (none ∷ os) o zero q k e f = absurd (omega (arith, e))
  one-root (none ∷ os) o (suc s) zero k e f = absurd (omega (arith, f))
  one-root (none ∷ os) o (suc s) (suc q) k e f = ap suc (one-root os o s q k e f)
  one-root (some a ∷ os) o zero zero k e f = refl
  one-root (some a ∷ os) o zero (suc q) k e f = absurd (omega (arith, e, size-pos a, root-from os (o + size a) q k f))
  one-root (some a ∷ os) o (suc s) zero k e f = absurd (omega (arith, f, size-pos a, root-from os (o + size a) s k e))
  one-root (some a ∷ os) o (suc s) (suc q) k e f = ap suc (one-root os (o + size a) s q k e f)

  pub no_part : (os : List (Option (Exp ℕ))) (o s k : ℕ) → get_or (roots_from o os) s 0 ≡ suc k → (i : ℕ) → i < length (parts_all t o (present os))
      → NoPart k (get_or (parts_all t o (present os)) i (terminal 0))
  unfolding roots_from present parts_all
  no_part [] o s k e i l = absurd (omega (arith, e))
  no_part (none ∷ os) o zero k e i l = absurd (omega (arith, e))
  no_part (none ∷ os) o (suc s) k e i l = no_part os o s k e i l
  no_part (some a ∷ os) o s k e i l =
      ⊎_elim (λ (h : i < length A). in-first s e h) (λ (h : length A ≤ i). behind (λ q f j m. no_part os (o + size a) q k f j m) s e h) (lt-or-ge i (length A))
    where
      A : List Part
      A = parts_of t o a

      B : List Part
      B = parts_all t (o + size a) (present os)

      d : Part
      d = terminal 0

      late : (s : ℕ) → get_or (roots_from o (some a ∷ os)) s 0 ≡ suc k → last o a ≤ k
      late zero e = omega (arith, e)
      late (suc s) e = omega (arith, size-pos a, root-from os (o + size a) s k e)

      in-first : (s : ℕ) → get_or (roots_from o (some a ∷ os)) s 0 ≡ suc k → i < length A → NoPart k (get_or (A ++ B) i d)
      in-first s e h =
          subst (NoPart k) (sym (get_or-append A B d i h))
          (outside o (last o a) k (inr (late s e)) (get_or A i d) (between-at o (last o a) A d (parts-between a o) i h))

      shown : length A ≤ i → get_or (A ++ B) i d ≡ get_or B (i - length A) d
      shown h = ap (λ (j : ℕ). get_or (A ++ B) j d) (let q : i ≡ length A + (i - length A) = omega arith in q) ∙ get_or-append-add A B (i - length A) d

      rest : length A ≤ i → i - length A < length B
      rest h = omega (arith, l, h, length-append A B)

      behind : ((q : ℕ) → get_or (roots_from (o + size a) os) q 0 ≡ suc k → (j : ℕ) → j < length B → NoPart k (get_or B j d))
          → (s : ℕ) → get_or (roots_from o (some a ∷ os)) s 0 ≡ suc k → length A ≤ i → NoPart k (get_or (A ++ B) i d)
      behind later zero e h =
          subst (NoPart k) (sym (shown h))
          (outside (o + size a) (o + size a + total (present os)) k (inl (omega (arith, e, size-pos a))) (get_or B (i - length A) d)
          (between-at (o + size a) (o + size a + total (present os)) B d (all-between (present os) (o + size a)) (i - length A) (rest h)))
      behind later (suc s) e h = subst (NoPart k) (sym (shown h)) (later s e (i - length A) (rest h))

-- ── the union over the uses ──
pub is-occurs : (p : Part) (s : ℕ) → is_use p s ≡ true → p ≡ occurs s
is-occurs (terminal t) s e = absurd (false≢true e)
is-occurs (occurs q) s e = ap occurs (eqb-true q s e)
is-occurs (sequence a b) s e = absurd (false≢true e)
is-occurs (choice a b) s e = absurd (false≢true e)
is-occurs (option a) s e = absurd (false≢true e)
is-occurs (repeat a) s e = absurd (false≢true e)
is-occurs (repeat1 a) s e = absurd (false≢true e)
is-occurs (affirms a) s e = absurd (false≢true e)
is-occurs (denies a) s e = absurd (false≢true e)

module _ (r x n : ℕ) (part : ℕ → Part) (alts : List (List ℕ)) (fine : Every (Set2 r x) [] n alts) (s : ℕ) where
  abbrev alt-at : ℕ → List ℕ
  alt-at i = get_or alts i empty

  good : (i : ℕ) → i < n → Set2 r x (alt-at i)
  good i l = subst (Set2 r x) (get_d_any alts i [] empty (omega (arith, fine.long))) (fine.each i l)

  pub uses-good : (j : ℕ) → j ≤ n → Set2 r x (uses_alt part alt-at s j)
  unfolding uses_alt
  uses-good zero l = (pair-joins r x).bot-good
  uses-good (suc j) l = by (uses-good j (omega arith)) (is_use (part j) s)
    where
      by : Set2 r x (uses_alt part alt-at s j) → (b : Bool) → Set2 r x (cond b (union_of (uses_alt part alt-at s j) (alt-at j)) (uses_alt part alt-at s j))
      by old true = (pair-joins r x).join-good (uses_alt part alt-at s j) (alt-at j) old (good j (omega arith))
      by old false = old

  pub uses-in : (j : ℕ) → j ≤ n → (i : ℕ) → i < j → is_use (part i) s ≡ true → In2 (alt-at i) (uses_alt part alt-at s j)
  unfolding uses_alt
  uses-in zero l i h e = absurd (omega arith)
  uses-in (suc j) l i h e = ⊎_elim (λ (q : i ≡ j). last_one q (is_use (part j) s) refl) (λ (q : i ≡ j → ⊥). before (is_use (part j) s) (uses-in j (omega arith) i (omega (arith, h, q)) e)) (same? i j)
    where
      U : List ℕ
      U = uses_alt part alt-at s j

      last_one : i ≡ j → (b : Bool) → is_use (part j) s ≡ b → In2 (alt-at i) (cond b (union_of U (alt-at j)) U)
      last_one q true f = subst (λ (a : ℕ). In2 (alt-at a) (union_of U (alt-at j))) (sym q) ((pair-joins r x).join-r U (alt-at j) (uses-good j (omega arith)) (good j (omega arith)))
      last_one q false f = absurd (false≢true (sym f ∙ ap (λ (a : ℕ). is_use (part a) s) (sym q) ∙ e))

      before : (b : Bool) → In2 (alt-at i) U → In2 (alt-at i) (cond b (union_of U (alt-at j)) U)
      before true w = (pair-joins r x).trans (alt-at i) U (union_of U (alt-at j)) w ((pair-joins r x).join-l U (alt-at j) (uses-good j (omega arith)) (good j (omega arith)))
      before false w = w

  pub uses-least : (z : List ℕ) → Set2 r x z → ((i : ℕ) → i < n → is_use (part i) s ≡ true → In2 (alt-at i) z) → (j : ℕ) → j ≤ n → In2 (uses_alt part alt-at s j) z
  unfolding uses_alt
  uses-least z g h zero l = (pair-joins r x).bot-le z g
  uses-least z g h (suc j) l = by (uses-least z g h j (omega arith)) (is_use (part j) s) refl
    where
      U : List ℕ
      U = uses_alt part alt-at s j

      by : In2 U z → (b : Bool) → is_use (part j) s ≡ b → In2 (cond b (union_of U (alt-at j)) U) z
      by old true e = (pair-joins r x).join-least U (alt-at j) z (uses-good j (omega arith)) (good j (omega arith)) old (h j (omega arith) e)
      by old false e = old

-- ── ALT of the body that symbol s has, which is no part of an expression and no other symbol's ──
module _ (r x n : ℕ) (part : ℕ → Part) (bs : ℕ → Beginning) (root : ℕ → ℕ) (succ : ℕ → List ℕ) (alts : List (List ℕ)) (least : Least r x n part (AltRule bs root succ) alts)
    (s k : ℕ) (is : root s ≡ suc k) (kin : k < n) (apart : (i : ℕ) → i < n → NoPart k (part i)) (one : (q : ℕ) → root q ≡ suc k → q ≡ s) where
  abbrev fine : Every (Set2 r x) [] n alts
  fine = least.solves.sets

  abbrev U : List ℕ
  U = uses_alt part (λ i. get_or alts i empty) s n

  same : (i : ℕ) → i < n → get_or alts i [] ≡ get_or alts i empty
  same i l = get_d_any alts i [] empty (omega (arith, fine.long))

  U-good : Set2 r x U
  U-good = uses-good r x n part alts fine s n (omega arith)

  -- a use hands its own on
  handed : (i : ℕ) → i < n → is_use (part i) s ≡ true → In2 (get_or alts i []) (get_or alts k [])
  handed i l e =
      subst (λ (w : ℕ). OfBody w (λ e. In2 (get_or alts i []) (get_or alts e []))) is
      (subst (AltRule bs root succ (λ j. get_or alts j []) i) (is-occurs (part i) s e) (least.solves.rules i l))

  U-in : In2 U (get_or alts k [])
  U-in =
      uses-least r x n part alts fine s (get_or alts k []) (fine.each k kin)
      (λ i l e. subst (λ (z : List ℕ). In2 z (get_or alts k [])) (same i l) (handed i l e)) n (omega arith)

  -- the sets with the union in the body's place solve the rules, too
  abbrev Y : List (List ℕ)
  Y = set alts k U

  abbrev at : ℕ → List ℕ
  at j = get_or Y j []

  at-k : at k ≡ U
  at-k = get_or-set_same alts k U [] (omega (arith, fine.long, kin))

  at_other : (j : ℕ) → (j ≡ k → ⊥) → at j ≡ get_or alts j []
  at_other j h = get_or-set_other alts k j U [] h

  on : (a b c : List ℕ) → In2 a b → In2 b c → In2 a c
  on a b c p q = (pair-joins r x).trans a b c p q

  smaller : (i : ℕ) → In2 (at i) (get_or alts i [])
  smaller i =
      ⊎_elim (λ (q : i ≡ k). subst (λ (j : ℕ). In2 (at j) (get_or alts j [])) (sym q) (subst (λ (z : List ℕ). In2 z (get_or alts k [])) (sym at-k) U-in))
      (λ (q : i ≡ k → ⊥). subst (λ (z : List ℕ). In2 z (get_or alts i [])) (sym (at_other i q)) ((pair r x).le_rfl (get_or alts i []))) (same? i k)

  -- what the whole hands a part, and what a part is given
  part-gets : (i a : ℕ) → (a ≡ k → ⊥) → In2 (get_or alts i []) (get_or alts a []) → In2 (at i) (at a)
  part-gets i a h w = subst (In2 (at i)) (sym (at_other a h)) (on (at i) (get_or alts i []) (get_or alts a []) (smaller i) w)

  gets : (z : List ℕ) (a : ℕ) → (a ≡ k → ⊥) → In2 z (get_or alts a []) → In2 z (at a)
  gets z a h w = subst (In2 z) (sym (at_other a h)) w

  body-gets : (i q : ℕ) → i < n → part i ≡ occurs q → (w : ℕ) → root q ≡ w → OfBody w (λ e. In2 (get_or alts i []) (get_or alts e [])) → OfBody w (λ e. In2 (at i) (at e))
  body-gets i q l u zero f h = tt
  body-gets i q l u (suc e) f h =
      ⊎_elim
      (λ (y : e ≡ k).
      let z : q ≡ s = one q (f ∙ ap suc y) in
      let v : is_use (part i) s ≡ true = ap (λ (p : Part). is_use p s) u ∙ eq-eqb q s z in
      subst (λ (j : ℕ). In2 (at i) (at j)) (sym y)
      (subst (In2 (at i)) (sym at-k) (on (at i) (get_or alts i []) U (smaller i) (subst (λ (w : List ℕ). In2 w U) (sym (same i l)) (uses-in r x n part alts fine s n (omega arith) i l v)))))
      (λ (y : e ≡ k → ⊥). part-gets i e y h) (same? e k)

  solves-rule : (i : ℕ) → i < n → (p : Part) → part i ≡ p → NoPart k p → AltRule bs root succ (λ j. get_or alts j []) i p → AltRule bs root succ at i p
  solves-rule i l (terminal t) u h w = tt
  solves-rule i l (occurs q) u h w = body-gets i q l u (root q) refl w
  solves-rule i l (sequence a b) u h w = (part-gets i a h.0 w.0, λ e. part-gets i b h.1 (w.1 e))
  solves-rule i l (choice a b) u h w = (part-gets i a h.0 w.0, part-gets i b h.1 w.1, gets (bs b).set a h.0 w.2, λ e. gets (succ i) a h.0 (w.3 e))
  solves-rule i l (option a) u h w = (part-gets i a h w.0, gets (succ i) a h w.1)
  solves-rule i l (repeat a) u h w = (part-gets i a h w.0, gets (succ i) a h w.1)
  solves-rule i l (repeat1 a) u h w = (part-gets i a h w.0, gets (succ i) a h w.1)
  solves-rule i l (affirms a) u h w = tt
  solves-rule i l (denies a) u h w = tt

  sol : Solves (Set2 r x) [] n part (AltRule bs root succ) Y
  sol = record {
    sets = record {
      long = length-set alts k U ∙ fine.long;
      each = λ i l. ⊎_elim (λ (q : i ≡ k). subst (λ (j : ℕ). Set2 r x (at j)) (sym q) (subst (Set2 r x) (sym at-k) U-good))
          (λ (q : i ≡ k → ⊥). subst (Set2 r x) (sym (at_other i q)) (fine.each i l)) (same? i k);
    };
    rules = λ i l. solves-rule i l (part i) refl (apart i l) (least.solves.rules i l);
  }

  pub body-is-uses : U ≡ get_or alts k empty
  body-is-uses =
      let A = get_or alts k [] in
      let into : In2 A U = subst (In2 A) at-k (least.within Y sol k kin) in
      (pair r x).strict A U (fine.each k kin) U-good into ((pair-joins r x).size_mono U A U-in) ∙ same k kin

-- ── of a grammar ──
module _ (g : Grammar) (proper : ProperIn g) (long : length g.rights ≡ length g.names) where
  -- for a symbol with a body, ALT of the body is the union over its uses
  pub alt-by-uses-in : (s k : ℕ) → get_or (analysis_in g).roots s 0 ≡ suc k → lake_alt (analysis_in g) s ≡ get_or (analysis_in g).alts k empty
  unfolding analysis_in analysed lake_alt
  alt-by-uses-in s k e =
      let t = terminal_in g in
      let parts = parts_all t 0 (present g.rights) in
      let law = lawful-in g proper long in
      body-is-uses (length g.names) (length g.terminals) (length parts) (λ i. get_or parts i (terminal 0)) _ _ _ (analysis_in g).alts law.alts s k e
      (omega (arith, e, root-le g.rights 0 s, all-long t (present g.rights) 0)) (no_part t g.rights 0 s k e) (λ q f. one-root t g.rights 0 s q k e f)

pub alt-by-uses : (g : Grammar) → Proper g → length (intermediate g) ≡ length g.names → (s k : ℕ) → get_or (analysis g).roots s 0 ≡ suc k
    → lake_alt (analysis g) s ≡ get_or (analysis g).alts k empty
unfolding analysis
alt-by-uses g proper long = alt-by-uses-in (middle g) proper long
