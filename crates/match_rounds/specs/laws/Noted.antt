-- What is remembered stays right when an entry is made or a run goes on. Assumes nothing.
use Rattle.std.specs.Prelude.{ℕ, ◌+◌, ◌*◌, ◌≤◌, ◌<◌, ◌≡◌, refl, List, ◌⊎◌, get_or, length, set}
use Rattle.std.proofs.Common.{sym, ap, ◌∙◌, subst, inl, inr, arith, length-set, get_or-set_same, get_or-set_other}
use Rattle.std.proofs.Math.Decide.{ℕ_discrete}
use Rattle.base_facts.specs.laws.Numbers.{lt-or-ge}
use Rattle.std.proofs.Math.ListN.{get_or-eq_default}
use Rattle.grammar.specs.Exp.{Exp}
use Rattle.match_eval.specs.Eval.{ev, rep}
use Rattle.grammar_table.specs.Trees.{tree_of}
use Rattle.match_eval.specs.steps.Firsts.{said_of}
use Rattle.match_eval.specs.steps.Memory.{count_at, keys_at, entries_at, rounds_of, Key, About, first_of, past_of, end_of, Knows, Front}
use Rattle.match_eval.proofs.laws.Said.{said_same}
use Rattle.match_eval.proofs.laws.Memory.{wider-same, words_same, heard-back, rounds-next}
use Rattle.match_rounds.specs.steps.Noted.{Noted, runs_at, Longer}

-- an entry is made
module _ (t s cs old new : List ℕ) (n x k p c : ℕ) (small : p < 65536) (has : Key old x k) (h : ℕ) (w : Knows t s cs n old p h) (o : Noted k p c old new)
    (e : c ≡ rounds_of t s cs n x p) where
  key_back : (y j : ℕ) → Key new y j → Key old y j
  key_back y j (l, z, a) = (l, z, sym (o.front (keys_at + y) (omega arith)) ∙ a)

  first : (i y j q : ℕ) → q < 65536 → Key new y j
      → ((z : ℕ) × About old z j q × (end_of new i ≡ end_of old z)) ⊎ ((j ≡ k) × (q ≡ p) × (end_of new i ≡ p + c)) → p ≤ q
  first i y j q l h (inl (z, b, d)) = w.from z y j q l (key_back y j h) b
  first i y j q l h (inr b) = omega (arith, b.1)

  second : (i y j q : ℕ) → q < 65536 → Key new y j
      → ((z : ℕ) × About old z j q × (end_of new i ≡ end_of old z)) ⊎ ((j ≡ k) × (q ≡ p) × (end_of new i ≡ p + c))
      → end_of new i ≡ q + rounds_of t s cs n y q
  second i y j q l h (inl (z, b, d)) = d ∙ w.right z y j q l (key_back y j h) b
  second i y j q l h (inr b) =
      let f : tree_of t x ≡ tree_of t y = w.shared.like x y k has (subst (λ (z : ℕ). Key old y z) b.0 (key_back y j h)) in
      b.2 ∙ ap (λ (z : ℕ). p + z) (e ∙ ap (λ (z : Exp ℕ). rep (length s) (λ (i : ℕ). ev s cs n z i) p) f)
      ∙ ap (λ (z : ℕ). z + rounds_of t s cs n y z) (sym b.1)

  same-said : (b y : ℕ) → said_of new b y ≡ said_of old b y
  same-said = said_same old new (λ j l m. o.front j m)

  pub knows-noted : Knows t s cs n new p h
  knows-noted = record {
    shared = record {
      most = λ y j h. subst (λ (z : ℕ). j ≤ z) (sym (o.front count_at (omega arith))) (w.shared.most y j (key_back y j h));
      like = λ y z j h g. w.shared.like y z j (key_back y j h) (key_back z j g);
    };
    words = words_same t old new n same-said w.words;
    heard = λ q g l. heard-back t new old s cs n q (wider-same new old (λ b y. sym (same-said b y))) (w.heard q g l);
    from = λ i y j q l h a. first i y j q l h (o.at i j q l a);
    right = λ i y j q l h a. second i y j q l h (o.at i j q l a);
  }

-- nothing is made
pub noted-none : (k p c : ℕ) (old : List ℕ) → Noted k p c old old
noted-none k p c old = record { front = λ j l. refl; at = λ i j q l a. inl (i, a, refl) }

-- two entries that say the same
pub noted-both : (k p c : ℕ) (old mid new : List ℕ) → Noted k p c old mid → Noted k p c mid new → Noted k p c old new
noted-both k p c old mid new o u = record { front = λ j l. u.front j l ∙ o.front j l; at = λ i j q l a. go i j q l (u.at i j q l a) }
  where
    go : (i j q : ℕ) → q < 65536 → ((z : ℕ) × About mid z j q × (end_of new i ≡ end_of mid z)) ⊎ ((j ≡ k) × (q ≡ p) × (end_of new i ≡ p + c))
        → ((z : ℕ) × About old z j q × (end_of new i ≡ end_of old z)) ⊎ ((j ≡ k) × (q ≡ p) × (end_of new i ≡ p + c))
    go i j q l (inr b) = inr b
    go i j q l (inl (z, b, e)) = elim (o.at z j q l b) [ inl (y, d, f) ↦ inl (y, d, e ∙ f) | inr d ↦ inr (d.0, d.1, e ∙ d.2) ]

-- what an entry of one place is about
one_place : (j k q p a b : ℕ) → p < 65536 → q < 65536 → a ≡ k * 65536 + p → b ≡ p + 1 → (j * 65536 ≤ a) × (a ≤ j * 65536 + q) × (q < b) → (j ≡ k) × (q ≡ p)
one_place j k q p a b l m e f (g, h, i) =
    let u : j ≡ k = omega (arith, l, m, e, g, h) in
    (u, omega (arith, l, m, e, f, g, h, i, u))

-- ── entry i gets three words ──
module _ (old : List ℕ) (i a b d : ℕ) (room : entries_at + 3 * i + 2 < length old) where
  abbrev one : List ℕ
  one = set old (entries_at + 3 * i) a

  abbrev two : List ℕ
  two = set one (entries_at + 3 * i + 1) b

  abbrev three : List ℕ
  three = set two (entries_at + 3 * i + 2) d

  other : (j : ℕ) → (j ≡ entries_at + 3 * i → ⊥) → (j ≡ entries_at + 3 * i + 1 → ⊥) → (j ≡ entries_at + 3 * i + 2 → ⊥) → get_or three j 0 ≡ get_or old j 0
  other j f g h =
      get_or-set_other two (entries_at + 3 * i + 2) j d 0 h ∙ get_or-set_other one (entries_at + 3 * i + 1) j b 0 g
      ∙ get_or-set_other old (entries_at + 3 * i) j a 0 f

  at_first : get_or three (entries_at + 3 * i) 0 ≡ a
  at_first =
      get_or-set_other two (entries_at + 3 * i + 2) (entries_at + 3 * i) d 0 (λ e. omega (arith, e))
      ∙ get_or-set_other one (entries_at + 3 * i + 1) (entries_at + 3 * i) b 0 (λ e. omega (arith, e))
      ∙ get_or-set_same old (entries_at + 3 * i) a 0 (omega (arith, room))

  at-past : get_or three (entries_at + 3 * i + 1) 0 ≡ b
  at-past =
      get_or-set_other two (entries_at + 3 * i + 2) (entries_at + 3 * i + 1) d 0 (λ e. omega (arith, e))
      ∙ get_or-set_same one (entries_at + 3 * i + 1) b 0 (omega (arith, room, length-set old (entries_at + 3 * i) a))

  at-end : get_or three (entries_at + 3 * i + 2) 0 ≡ d
  at-end =
      get_or-set_same two (entries_at + 3 * i + 2) d 0 (omega (arith, room, length-set one (entries_at + 3 * i + 1) b, length-set old (entries_at + 3 * i) a))

  in-front : Front old three
  in-front j l = other j (λ e. omega (arith, e, l)) (λ e. omega (arith, e, l)) (λ e. omega (arith, e, l))

  -- what another entry is about
  elsewhere : (x j q : ℕ) → (x ≡ i → ⊥) → About three x j q → About old x j q × (end_of three x ≡ end_of old x)
  elsewhere x j q f (g, h, k) =
      let u : get_or three (entries_at + 3 * x) 0 ≡ get_or old (entries_at + 3 * x) 0 =
      other (entries_at + 3 * x) (λ e. f (omega (arith, e))) (λ e. omega (arith, e)) (λ e. omega (arith, e)) in
      let v : get_or three (entries_at + 3 * x + 1) 0 ≡ get_or old (entries_at + 3 * x + 1) 0 =
      other (entries_at + 3 * x + 1) (λ e. omega (arith, e)) (λ e. f (omega (arith, e))) (λ e. omega (arith, e)) in (
        (omega (arith, g, u), omega (arith, h, u), omega (arith, k, v)),
        other (entries_at + 3 * x + 2) (λ e. omega (arith, e)) (λ e. omega (arith, e)) (λ e. f (omega (arith, e))),
      )

-- an entry of its own for one place
module _ (old : List ℕ) (i k p c : ℕ) (small : p < 65536) (room : entries_at + 3 * i + 2 < length old) where
  abbrev made : List ℕ
  made = three old i (k * 65536 + p) (p + 1) (p + c) room

  pub noted : Noted k p c old (set (set (set old (entries_at + 3 * i) (k * 65536 + p)) (entries_at + 3 * i + 1) (p + 1)) (entries_at + 3 * i + 2) (p + c))
  noted = record { front = in-front old i (k * 65536 + p) (p + 1) (p + c) room; at = λ x j q l a. go x j q l a (ℕ_discrete x i) }
    where
      go : (x j q : ℕ) → q < 65536 → About made x j q → Dec (x ≡ i)
          → ((z : ℕ) × About old z j q × (end_of made x ≡ end_of old z)) ⊎ ((j ≡ k) × (q ≡ p) × (end_of made x ≡ p + c))
      go x j q l a (no f) = let u = elsewhere old i (k * 65536 + p) (p + 1) (p + c) room x j q f a in inl (x, u.0, u.1)
      go x j q l a (yes e) =
          let b : About made i j q = subst (λ (z : ℕ). About made z j q) e a in
          let d : (j ≡ k) × (q ≡ p) = one_place j k q p _ _ small l (at_first old i (k * 65536 + p) (p + 1) (p + c) room)
          (at-past old i (k * 65536 + p) (p + 1) (p + c) room) b in
          inr (d.0, d.1, ap (λ (z : ℕ). end_of made z) e ∙ at-end old i (k * 65536 + p) (p + 1) (p + c) room)

-- entry m says what entry i says
module _ (old : List ℕ) (m i k p c : ℕ) (room : entries_at + 3 * m + 2 < length old) where
  abbrev again : List ℕ
  again = three old m (first_of old i) (past_of old i) (end_of old i) room

  pub copied : Noted k p c old (set (set (set old (entries_at + 3 * m) (first_of old i)) (entries_at + 3 * m + 1) (past_of old i)) (entries_at + 3 * m + 2) (end_of old i))
  copied = record { front = in-front old m (first_of old i) (past_of old i) (end_of old i) room; at = λ x j q l a. go x j q a (ℕ_discrete x m) }
    where
      go : (x j q : ℕ) → About again x j q → Dec (x ≡ m)
          → ((z : ℕ) × About old z j q × (end_of again x ≡ end_of old z)) ⊎ ((j ≡ k) × (q ≡ p) × (end_of again x ≡ p + c))
      go x j q a (no f) = let u = elsewhere old m (first_of old i) (past_of old i) (end_of old i) room x j q f a in inl (x, u.0, u.1)
      go x j q a (yes e) =
          let b : About again m j q = subst (λ (z : ℕ). About again z j q) e a in
          let u = at_first old m (first_of old i) (past_of old i) (end_of old i) room in
          let v = at-past old m (first_of old i) (past_of old i) (end_of old i) room in
          inl (
            i,
            (omega (arith, b.0, u), omega (arith, b.1, u), omega (arith, b.2, v)),
            ap (λ (z : ℕ). end_of again z) e ∙ at-end old m (first_of old i) (past_of old i) (end_of old i) room,
          )

-- the run of an entry begins one place before
module _ (old : List ℕ) (i k p c : ℕ) (small : p < 65536) (behind : About old i k (p + 1)) (end : end_of old i ≡ p + c) where
  abbrev new : List ℕ
  new = set old (entries_at + 3 * i) (k * 65536 + p)

  aside : (j : ℕ) → (j ≡ entries_at + 3 * i → ⊥) → get_or new j 0 ≡ get_or old j 0
  aside j f = get_or-set_other old (entries_at + 3 * i) j (k * 65536 + p) 0 f

  within : entries_at + 3 * i < length old
  within = go (lt-or-ge (entries_at + 3 * i) (length old))
    where
      go : (entries_at + 3 * i < length old) ⊎ (length old ≤ entries_at + 3 * i) → entries_at + 3 * i < length old
      go (inl l) = l
      go (inr l) = absurd (omega (arith, get_or-eq_default old 0 {n = entries_at + 3 * i + 1} (omega (arith, l)), behind.2))

  pub lengthened : Noted k p c old (set old (entries_at + 3 * i) (k * 65536 + p))
  lengthened = record {
    front = λ j l. aside j (λ e. omega (arith, e, l));
    at = λ x j q l a. go x j q l a (ℕ_discrete x i);
  }
    where
      ends : (x : ℕ) → end_of new x ≡ end_of old x
      ends x = aside (entries_at + 3 * x + 2) (λ e. omega (arith, e))

      pasts : (x : ℕ) → get_or new (entries_at + 3 * x + 1) 0 ≡ get_or old (entries_at + 3 * x + 1) 0
      pasts x = aside (entries_at + 3 * x + 1) (λ e. omega (arith, e))

      own : (j q : ℕ) → q < 65536 → About new i j q → ((z : ℕ) × About old z j q × (end_of new i ≡ end_of old z)) ⊎ ((j ≡ k) × (q ≡ p) × (end_of new i ≡ p + c))
      own j q l (a, b, d) =
          let f : get_or new (entries_at + 3 * i) 0 ≡ k * 65536 + p = get_or-set_same old (entries_at + 3 * i) (k * 65536 + p) 0 within in
          let u : j ≡ k = omega (arith, small, l, f, a, b) in
          let m : p ≤ q = omega (arith, f, b, u) in
          elim (lt-or-ge p q) [
            | inl h ↦ inl (i, (omega (arith, behind.0, u), omega (arith, behind.1, u, h), omega (arith, d, pasts i)), ends i)
            | inr h ↦ inr (u, omega (arith, m, h), ends i ∙ end)
          ]

      go : (x j q : ℕ) → q < 65536 → About new x j q → Dec (x ≡ i)
          → ((z : ℕ) × About old z j q × (end_of new x ≡ end_of old z)) ⊎ ((j ≡ k) × (q ≡ p) × (end_of new x ≡ p + c))
      go x j q l a (yes e) =
          subst (λ (y : ℕ). ((z : ℕ) × About old z j q × (end_of new y ≡ end_of old z)) ⊎ ((j ≡ k) × (q ≡ p) × (end_of new y ≡ p + c))) (sym e)
          (own j q l (subst (λ (z : ℕ). About new z j q) e a))
      go x j q l (a, b, d) (no f) =
          let u : get_or new (entries_at + 3 * x) 0 ≡ get_or old (entries_at + 3 * x) 0 = aside (entries_at + 3 * x) (λ e. f (omega (arith, e))) in
          inl (x, (omega (arith, a, u), omega (arith, b, u), omega (arith, d, pasts x)), ends x)

-- the newest run goes on where the first round is one byte
pub run-goes-on : (t s cs mem : List ℕ) (n y k i p : ℕ) → length s ≤ 65535 → p < length s → Knows t s cs n mem p p → Key mem y k → About mem i k (p + 1)
    → ev s cs n (tree_of t y) p ≡ 2 → end_of mem i ≡ p + rounds_of t s cs n y p
run-goes-on t s cs mem n y k i p l h w a b e =
    omega (arith, w.right i y k (p + 1) (omega (arith, l, h)) a b, rounds-next t s cs n y p 2 (omega (arith, h)) (sym e) (omega arith))

-- what is noted of a part is known
pub learnt : (t s cs old new : List ℕ) (n y k p c : ℕ) → p < 65536 → Key old y k → Knows t s cs n old p p → Noted k p c old new → c ≡ rounds_of t s cs n y p
    → Knows t s cs n new p p × Front old new
learnt t s cs old new n y k p c small a w o e = (knows-noted t s cs old new n y k p c small a p w o e, o.front)

-- and so is where the newest run goes on
pub longer-learnt : (t s cs old new : List ℕ) (n y k p : ℕ) → length s ≤ 65535 → p < length s → Key old y k → Knows t s cs n old p p → ev s cs n (tree_of t y) p ≡ 2
    → Longer k p old new → Knows t s cs n new p p × Front old new
longer-learnt t s cs old new n y k p l h a w e (b, o) =
    learnt t s cs old new n y k p (rounds_of t s cs n y p) (omega (arith, l, h)) a w
    (o (rounds_of t s cs n y p) (run-goes-on t s cs old n y k (runs_at + k) p l h w a b e)) refl
