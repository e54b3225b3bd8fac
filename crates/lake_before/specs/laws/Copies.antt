-- The expressions now are among those before 02, §4: a number for each, with the same parts, and a body now is the body before or the first of its choice.
-- Assumes nothing.
use Prim.Native.Nat.{ℕ, zero, suc, ◌+◌, ◌-◌, ◌≤◌, ◌<◌}
use Rattle.std.specs.Prelude.{◌≡◌, ◌⊎◌, Bool, List, [], ◌∷◌, ◌++◌, map, length, get_or, ltb}
use Rattle.std.proofs.Math.Path.{refl, ap}
use Rattle.std.proofs.Common.{sym, ◌∙◌, subst, ⊎_elim, lt-ltb, le-ltb}
use Rattle.std.proofs.Math.Logic.{inl, inr}
use Rattle.std.proofs.Math.Bool.{cond}
use Rattle.std.proofs.Math.Option.{Option, none, some}
use native.Mathlib.Omega.{arith}
use Rattle.std.proofs.Math.ListN.{get_or-map}
use Rattle.base_facts.specs.laws.Numbers.{lt-or-ge}
use Rattle.read_tokens.specs.Token.{Leaf}
use Rattle.grammar.specs.Exp.{Exp, alt, size}
use Rattle.grammar.specs.Parts.{Part, terminal, choice, last, parts_of, parts_all}
use Rattle.grammar_table.specs.Holds.{present, roots_from}
use Rattle.grammar_table.specs.laws.Parts.{size-pos, total, parts-long, all-long, Seg, seg-left, seg-right, seg-one}
use Rattle.lake_step_one.specs.steps.Runs.{renamed}
use Rattle.lake_step_one.proofs.laws.Shifts.{Moves, last-moves, run-renamed}
use Rattle.lake_before.specs.laws.Bodies.{KinAll, none_left, and_one, none-now, same, first_of}

-- of a body with root k, where it was j: it is all of it, or the first of a choice
abbrev pub BodyIn : (ℕ → Part) → (ℕ → ℕ) → ℕ → ℕ → Type 0
BodyIn old to zero j = Unit {0}
BodyIn old to (suc k) j = (to k ≡ j) ⊎ ((c : ℕ) × (old j ≡ choice (to k) c))

-- n expressions `new` among m expressions `old`; r symbols with a root each, every one had a body
pub record Copied (n m r : ℕ) (new old : ℕ → Part) (root before : ℕ → ℕ) (to : ℕ → ℕ) : Type 0 where
  pub inside : (i : ℕ) → i < n → to i < m
  pub outside : (i : ℕ) → n ≤ i → m ≤ to i
  pub parts : (i : ℕ) → i < n → old (to i) ≡ renamed to (new i)
  pub bodies : (s : ℕ) → s < r → (j : ℕ) × (before s ≡ suc j) × (j < m) × BodyIn old to (root s) j

-- the number that an expression had, behind o expressions now and p before
unfoldable pub place : ℕ → ℕ → List (Option (Exp ℕ)) → List (Exp ℕ) → ℕ → ℕ
place o p [] bs i = i + p - o
place o p (none ∷ os) [] i = i + p - o
place o p (none ∷ os) (b ∷ bs) i = place o (p + size b) os bs i
place o p (some e ∷ os) [] i = i + p - o
place o p (some e ∷ os) (b ∷ bs) i = cond (ltb i (o + size e)) (i + p - o) (place (o + size e) (p + size b) os bs i)

module _ (t : Leaf → ℕ) (to : ℕ → ℕ) where
  -- ── all bodies ──
  module _ (new old : ℕ → Part) where
    abbrev d : Part
    d = terminal 0

    abbrev New : ℕ → List Part → Type 0
    New = Seg t new d

    abbrev Old : ℕ → List Part → Type 0
    Old = Seg t old d

    run_at : (e : Exp ℕ) (o p : ℕ) → Moves to o p (size e) → New o (parts_of t o e) → Old p (parts_of t p e) → (k : ℕ) → k < size e → old (to (o + k)) ≡ renamed to (new (o + k))
    run_at e o p h n m k l =
        ap old (h k l) ∙ m k (rw (parts-long t e p) l) ∙ ap (λ (ps : List Part). get_or ps k d) (sym (run-renamed to t e o p h)) ∙ get_or-map (renamed to) (parts_of t o e) k d
        ∙ ap (renamed to) (sym (n k (rw (parts-long t e o) l)))

    abbrev Agrees : ℕ → ℕ → List (Option (Exp ℕ)) → List (Exp ℕ) → Type 0
    Agrees o p os bs = (i : ℕ) → o ≤ i → to i ≡ place o p os bs i

    -- the first body's run, and the rest
    module _ (e b : Exp ℕ) (os : List (Option (Exp ℕ))) (bs : List (Exp ℕ)) (o p : ℕ) (h : Agrees o p (some e ∷ os) (b ∷ bs)) where
      moves : Moves to o p (size e)
      unfolding place
      moves k l =
          h (o + k) (omega arith) ∙ ap (λ (c : Bool). cond c (o + k + p - o) (place (o + size e) (p + size b) os bs (o + k))) (lt-ltb (o + k) (o + size e) (omega arith))
          ∙ (let z : o + k + p - o ≡ p + k = omega arith in z)

      rest : Agrees (o + size e) (p + size b) os bs
      unfolding place
      rest i l = h i (omega arith) ∙ ap (λ (c : Bool). cond c (i + p - o) (place (o + size e) (p + size b) os bs i)) (le-ltb i (o + size e) l)

    rest-none : (b : Exp ℕ) (os : List (Option (Exp ℕ))) (bs : List (Exp ℕ)) (o p : ℕ) → Agrees o p (none ∷ os) (b ∷ bs) → Agrees o (p + size b) os bs
    unfolding place
    rest-none b os bs o p h i l = h i l

    abbrev At : ℕ → ℕ → Type 0
    At top i = (to i < top) × (old (to i) ≡ renamed to (new i))

    part_at : (e b : Exp ℕ) (o p u v : ℕ) → size e ≤ size b → Moves to o p (size e) → New o (parts_of t o e) → Old p (parts_of t p e)
        → ((i : ℕ) → o + size e ≤ i → i < o + size e + u → At (p + size b + v) i) → (i : ℕ) → o ≤ i → i < o + (size e + u) → At (p + (size b + v)) i
    part_at e b o p u v s m n q r i l h =
        ⊎_elim (λ (w : i < o + size e). subst (At (p + (size b + v))) (let z : o + (i - o) ≡ i = omega arith in z)
        (let y : to (o + (i - o)) ≡ p + (i - o) = m (i - o) (omega arith) in omega (arith, y), run_at e o p m n q (i - o) (omega arith)))
        (λ (w : o + size e ≤ i). let y = r i w (omega arith) in (omega (arith, y.0), y.1)) (lt-or-ge i (o + size e))

    in-choice : (e b : Exp ℕ) → size e ≤ size (alt e b)
    unfolding size
    in-choice e b = omega arith

    first_run : (e b : Exp ℕ) (p : ℕ) → Old p (parts_of t p (alt e b)) → Old p (parts_of t p e)
    unfolding parts_of
    first_run e b p m = seg-left t old d p (parts_of t p e) (parts_of t (p + size e) b ++ (choice (last p e) (last (p + size e) b) ∷ [])) m

    choice-at : (e b : Exp ℕ) (p : ℕ) → Old p (parts_of t p (alt e b)) → old (last p (alt e b)) ≡ choice (last p e) (last (p + size e) b)
    unfolding parts_of size
    choice-at e b p m =
        let A = parts_of t p e in let B = parts_of t (p + size e) b in let c = choice (last p e) (last (p + size e) b) in
        seg-one t old d (p + size e + size b) (last p (alt e b)) c
        (seg-right t old d (p + size e) (size b) B (c ∷ []) (parts-long t b (p + size e)) (seg-right t old d p (size e) A (B ++ (c ∷ [])) (parts-long t e p) m)) (omega arith)

    pub parts-copied : {os : List (Option (Exp ℕ))} {bs : List (Exp ℕ)} → KinAll os bs → (o p : ℕ) → Agrees o p os bs → New o (parts_all t o (present os))
        → Old p (parts_all t p (present (map some bs))) → (i : ℕ) → o ≤ i → i < o + total (present os) → At (p + total (present (map some bs))) i
    unfolding present parts_all total
    parts-copied none_left o p h n m i l w = absurd (omega arith)
    parts-copied (and_one {b = b} {os = os} {bs = bs} none-now q) o p h n m i l w =
        let y = parts-copied q o (p + size b) (rest-none b os bs o p h) n
        (seg-right t old d p (size b) (parts_of t p b) (parts_all t (p + size b) (present (map some bs))) (parts-long t b p) m) i l w in
        (omega (arith, y.0), y.1)
    parts-copied (and_one {os = os} {bs = bs} (same {e = e}) q) o p h n m i l w =
        part_at e e o p (total (present os)) (total (present (map some bs))) (omega arith) (moves e e os bs o p h)
        (seg-left t new d o (parts_of t o e) (parts_all t (o + size e) (present os)) n)
        (seg-left t old d p (parts_of t p e) (parts_all t (p + size e) (present (map some bs))) m)
        (parts-copied q (o + size e) (p + size e) (rest e e os bs o p h)
        (seg-right t new d o (size e) (parts_of t o e) (parts_all t (o + size e) (present os)) (parts-long t e o) n)
        (seg-right t old d p (size e) (parts_of t p e) (parts_all t (p + size e) (present (map some bs))) (parts-long t e p) m)) i l w
    parts-copied (and_one {os = os} {bs = bs} (first_of {e = e} {b = b}) q) o p h n m i l w =
        part_at e (alt e b) o p (total (present os)) (total (present (map some bs))) (in-choice e b) (moves e (alt e b) os bs o p h)
        (seg-left t new d o (parts_of t o e) (parts_all t (o + size e) (present os)) n)
        (first_run e b p (seg-left t old d p (parts_of t p (alt e b)) (parts_all t (p + size (alt e b)) (present (map some bs))) m))
        (parts-copied q (o + size e) (p + size (alt e b)) (rest e (alt e b) os bs o p h)
        (seg-right t new d o (size e) (parts_of t o e) (parts_all t (o + size e) (present os)) (parts-long t e o) n)
        (seg-right t old d p (size (alt e b)) (parts_of t p (alt e b)) (parts_all t (p + size (alt e b)) (present (map some bs))) (parts-long t (alt e b) p) m)) i l w

    pub outside-copied : {os : List (Option (Exp ℕ))} {bs : List (Exp ℕ)} → KinAll os bs → (o p : ℕ) → Agrees o p os bs → (i : ℕ) → o + total (present os) ≤ i
        → p + total (present (map some bs)) ≤ to i
    unfolding present total place
    outside-copied none_left o p h i l = let y : to i ≡ i + p - o = h i (omega arith) in omega (arith, y)
    outside-copied (and_one {b = b} {os = os} {bs = bs} none-now q) o p h i l = omega (arith, outside-copied q o (p + size b) (rest-none b os bs o p h) i l)
    outside-copied (and_one {os = os} {bs = bs} (same {e = e}) q) o p h i l = omega (arith, outside-copied q (o + size e) (p + size e) (rest e e os bs o p h) i (omega arith))
    outside-copied (and_one {os = os} {bs = bs} (first_of {e = e} {b = b}) q) o p h i l =
        omega (arith, outside-copied q (o + size e) (p + size (alt e b)) (rest e (alt e b) os bs o p h) i (omega arith))

    -- root: the root of a symbol's body now, before: what it was
    abbrev BodyOf : ℕ → ℕ → ℕ → Type 0
    BodyOf root before top = (j : ℕ) × (before ≡ suc j) × (j < top) × BodyIn old to root j

    lower : (root before u v : ℕ) → u ≤ v → BodyOf root before u → BodyOf root before v
    lower root before u v l h = (h.0, h.1, omega (arith, h.2), h.3)

    pub bodies-copied : {os : List (Option (Exp ℕ))} {bs : List (Exp ℕ)} → KinAll os bs → (o p : ℕ) → Agrees o p os bs → Old p (parts_all t p (present (map some bs)))
        → (s : ℕ) → s < length bs → BodyOf (get_or (roots_from o os) s 0) (get_or (roots_from p (map some bs)) s 0) (p + total (present (map some bs)))
    unfolding present parts_all total roots_from
    bodies-copied none_left o p h m s l = absurd (omega arith)
    bodies-copied (and_one {b = b} none-now q) o p h m zero l = (last p b, refl, omega (arith, size-pos b), tt)
    bodies-copied (and_one {os = os} {bs = bs} (same {e = e}) q) o p h m zero l = (last p e, refl, omega (arith, size-pos e), inl (last-moves to e o p (moves e e os bs o p h)))
    bodies-copied (and_one {os = os} {bs = bs} (first_of {e = e} {b = b}) q) o p h m zero l = (
      last p (alt e b),
      refl,
      omega (arith, size-pos (alt e b)),
      inr (
        last (p + size e) b,
        choice-at e b p (seg-left t old d p (parts_of t p (alt e b)) (parts_all t (p + size (alt e b)) (present (map some bs))) m)
            ∙ ap (λ (k : ℕ). choice k (last (p + size e) b)) (sym (last-moves to e o p (moves e (alt e b) os bs o p h))),
      ),
    )
    bodies-copied (and_one {b = b} {os = os} {bs = bs} none-now q) o p h m (suc s) l =
        lower (get_or (roots_from o os) s 0) (get_or (roots_from (p + size b) (map some bs)) s 0) (p + size b + total (present (map some bs))) (p + (size b + total (present (map some bs)))) (omega arith)
        (bodies-copied q o (p + size b) (rest-none b os bs o p h)
        (seg-right t old d p (size b) (parts_of t p b) (parts_all t (p + size b) (present (map some bs))) (parts-long t b p) m) s (omega arith))
    bodies-copied (and_one {os = os} {bs = bs} (same {e = e}) q) o p h m (suc s) l =
        lower (get_or (roots_from (o + size e) os) s 0) (get_or (roots_from (p + size e) (map some bs)) s 0) (p + size e + total (present (map some bs)))
        (p + (size e + total (present (map some bs)))) (omega arith)
        (bodies-copied q (o + size e) (p + size e) (rest e e os bs o p h)
        (seg-right t old d p (size e) (parts_of t p e) (parts_all t (p + size e) (present (map some bs))) (parts-long t e p) m) s (omega arith))
    bodies-copied (and_one {os = os} {bs = bs} (first_of {e = e} {b = b}) q) o p h m (suc s) l =
        lower (get_or (roots_from (o + size e) os) s 0) (get_or (roots_from (p + size (alt e b)) (map some bs)) s 0) (p + size (alt e b) + total (present (map some bs)))
        (p + (size (alt e b) + total (present (map some bs)))) (omega arith)
        (bodies-copied q (o + size e) (p + size (alt e b)) (rest e (alt e b) os bs o p h)
        (seg-right t old d p (size (alt e b)) (parts_of t p (alt e b)) (parts_all t (p + size (alt e b)) (present (map some bs))) (parts-long t (alt e b) p) m) s (omega arith))

-- the expressions of the bodies now among those of the bodies before
module _ (t : Leaf → ℕ) (os : List (Option (Exp ℕ))) (bs : List (Exp ℕ)) (kin : KinAll os bs) where
  abbrev now : List Part
  now = parts_all t 0 (present os)

  abbrev then : List Part
  then = parts_all t 0 (present (map some bs))

  abbrev nil : Part
  nil = terminal 0

  whole : (ps : List Part) → Seg t (λ i. get_or ps i nil) nil 0 ps
  whole ps k l = ap (λ (i : ℕ). get_or ps i nil) (let z : 0 + k ≡ k = omega arith in z)

  pub copied : Copied (length now) (length then) (length bs) (λ i. get_or now i nil) (λ i. get_or then i nil) (λ s. get_or (roots_from 0 os) s 0)
      (λ s. get_or (roots_from 0 (map some bs)) s 0) (place 0 0 os bs)
  copied =
      let to : ℕ → ℕ = place 0 0 os bs in
      let n : length now ≡ total (present os) = all-long t (present os) 0 in
      let m : length then ≡ total (present (map some bs)) = all-long t (present (map some bs)) 0 in
      let at = parts-copied t to (λ i. get_or now i nil) (λ i. get_or then i nil) kin 0 0 (λ i l. refl) (whole now) (whole then) in
      record {
        inside = λ i l. omega (arith, (at i (omega arith) (omega arith)).0);
        outside = λ i l. omega (arith, outside-copied t to (λ i. get_or now i nil) (λ i. get_or then i nil) kin 0 0 (λ i l. refl) i (omega arith));
        parts = λ i l. (at i (omega arith) (omega arith)).1;
        bodies = λ s l. let y = bodies-copied t to (λ i. get_or now i nil) (λ i. get_or then i nil) kin 0 0 (λ i l. refl) (whole then) s l in (y.0, y.1, omega (arith, y.2), y.3);
      }
