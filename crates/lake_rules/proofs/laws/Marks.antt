-- The ε marks are the least (01: "All are least"), and as many rounds as there are symbols reach them. Assumes nothing.
use Rattle.std.specs.Prelude.{ℕ, zero, suc, ◌*◌, ◌≤◌, ◌<◌, ◌≡◌, refl, Bool, true, ◌&&◌, get_or, replicate}
use Rattle.std.proofs.Math.Path.{sym, ap}
use Rattle.std.proofs.Common.{ap₂, ◌∙◌, ⊎_elim, true≢false, arith}
use Rattle.std.proofs.Math.Bool.{false, ◌||◌}
use Rattle.std.proofs.lemmas.Bool.{false≢true}
use mathlib.Core.List.{List, [], ◌∷◌, map}
use Rattle.std.proofs.Math.Option.{Option, none, some}
use Rattle.std.proofs.Math.ListN.{length, length-map, get_or-map, get_or-eq_default}
use Rattle.std.proofs.lemmas.List.{length-replicate, get_or-replicate}
use Rattle.base_facts.specs.laws.Numbers.{lt-or-ge}
use Rattle.read_tokens.specs.Token.{any}
use Rattle.grammar.specs.Exp.{Exp, sym as uses, ter, seq, alt, opt, star, plus, ahead, never}
use Rattle.grammar.specs.Empty.{has_empty}
use Rattle.base_rounds.specs.Rounds.{iter, First}
use Rattle.base_rounds.specs.laws.Fix.{Lattice, first-exists, rounds-bound, iter-below}
use Rattle.base_rounds.specs.laws.Cells.{Joins, Every, Below, cells}
use Rattle.lake_rules.specs.Beginning.{marked, mark_round, marks_by, marks_of, right_empty}
use Rattle.grammar_table.specs.laws.Places.{get_d_any}
use Rattle.lake_rules.specs.Rules.{LeastMarksBy, LeastMarks, LeastRightMarks}

abbrev pub Imp : Bool → Bool → Type 0
Imp a b = a ≡ true → b ≡ true

abbrev one : Bool → ℕ
one true = 1
one false = 0

one-mono : (a b : Bool) → Imp a b → one a ≤ one b
one-mono true true h = omega arith
one-mono true false h = absurd (false≢true (h refl))
one-mono false b h = omega arith

one-strict : (a b : Bool) → Imp a b → one b ≤ one a → b ≡ a
one-strict true true h l = refl
one-strict true false h l = absurd (false≢true (h refl))
one-strict false true h l = let z : ⊥ = omega arith in absurd z
one-strict false false h l = refl

one-le : (a : Bool) → one a ≤ 1
one-le true = omega arith
one-le false = omega arith

abbrev marks : Lattice Bool
marks = record { Le = Imp; Good = λ x. Unit {0}; le_rfl = λ x e. e; size = one; top = 1; bounded = λ x g. one-le x; strict = λ x y g h. one-strict x y }

pub or_l : (a b : Bool) → Imp a (a || b)
or_l true b e = refl
or_l false b e = absurd (false≢true e)

pub or_r : (a b : Bool) → Imp b (a || b)
or_r true b e = refl
or_r false b e = e

pub or-least : (a b c : Bool) → Imp a c → Imp b c → Imp (a || b) c
or-least true b c p q e = p refl
or-least false b c p q e = q e

and_mono : (a b c d : Bool) → Imp a c → Imp b d → Imp (a && b) (c && d)
and_mono true true c d p q e = rw (p refl, q refl)
and_mono true false c d p q e = absurd (false≢true e)
and_mono false b c d p q e = absurd (false≢true e)

marks-joins : Joins marks ◌||◌ false
marks-joins = record {
  trans = λ x y z p q e. q (p e);
  size_mono = one-mono;
  join-l = λ x y g h. or_l x y;
  join-r = λ x y g h. or_r x y;
  join-least = λ x y z g h. or-least x y z;
  join-good = λ x y g h. tt;
  bot-good = tt;
  bot-le = λ x g e. absurd (false≢true e);
}

-- more marks, more ε
pub empty-mono : (m k : ℕ → Bool) → ((r : ℕ) → Imp (m r) (k r)) → (e : Exp ℕ) → Imp (has_empty m e) (has_empty k e)
unfolding has_empty
empty-mono m k h (uses r) = h r
empty-mono m k h (ter x) = λ e. e
empty-mono m k h (seq a b) = and_mono (has_empty m a) (has_empty m b) (has_empty k a) (has_empty k b) (empty-mono m k h a) (empty-mono m k h b)
empty-mono m k h (alt a b) =
    or-least (has_empty m a) (has_empty m b) (has_empty k a || has_empty k b) (λ e. or_l (has_empty k a) (has_empty k b) (empty-mono m k h a e))
    (λ e. or_r (has_empty k a) (has_empty k b) (empty-mono m k h b e))
empty-mono m k h (opt a) = λ e. refl
empty-mono m k h (star a) = λ e. refl
empty-mono m k h (plus a) = empty-mono m k h a
empty-mono m k h (ahead a) = λ e. refl
empty-mono m k h (never a) = λ e. refl

same_bool : (a b : Bool) → Dec (a ≡ b)
same_bool true true = yes refl
same_bool true false = no true≢false
same_bool false true = no false≢true
same_bool false false = yes refl

abbrev cons_head : Bool → List Bool → Bool
cons_head d [] = d
cons_head d (x ∷ l) = x

abbrev cons_tail : List Bool → List Bool
cons_tail [] = []
cons_tail (x ∷ l) = l

same-list : (s t : List Bool) → Dec (s ≡ t)
same-list [] [] = yes refl
same-list [] (y ∷ t) = no (λ e. let z : ◌≡◌ {A = ℕ} 0 1 = cc in omega arith)
same-list (x ∷ s) [] = no (λ e. let z : ◌≡◌ {A = ℕ} 0 1 = cc in omega arith)
same-list (x ∷ s) (y ∷ t) =
    elim (same_bool x y) [
      | yes p ↦ elim (same-list s t) [ yes q ↦ yes (ap₂ (λ (a : Bool) (l : List Bool). a ∷ l) p q) | no q ↦ no (λ e. q (ap cons_tail e)) ]
      | no p ↦ no (λ e. p (ap (cons_head x) e))
    ]

-- more marks, more ε, whatever a body is
module _ {B : Type 0} (has : (ℕ → Bool) → B → Bool) (more : (m k : ℕ → Bool) → ((r : ℕ) → Imp (m r) (k r)) → (b : B) → Imp (has m b) (has k b)) (d : B) (bodies : List B) where
  abbrev n : ℕ
  n = length bodies

  abbrev Fine : List Bool → Type 0
  Fine = Every (λ (x : Bool). Unit {0}) false n

  abbrev Under : List Bool → List Bool → Type 0
  Under = Below marks ◌||◌ false false marks-joins n

  abbrev F : List Bool → List Bool
  F = mark_round has bodies

  abbrev start : List Bool
  start = replicate n false

  round-at : (ms : List Bool) (s : ℕ) → s < n → marked (F ms) s ≡ has (marked ms) (get_or bodies s d)
  unfolding mark_round
  round-at ms s l =
      get_d_any (map (has (marked ms)) bodies) s false (has (marked ms) d) (rw (length-map bodies (has (marked ms))) l) ∙ get_or-map (has (marked ms)) bodies s d

  round-fine : (ms : List Bool) → Fine ms → Fine (F ms)
  unfolding mark_round
  round-fine ms g = record { long = length-map bodies (has (marked ms)); each = λ i p. tt }

  -- below n, and past the end no mark
  every : (ms ks : List Bool) → Fine ms → Under ms ks → (r : ℕ) → Imp (marked ms r) (marked ks r)
  every ms ks g h r = ⊎_elim (λ l. h r l) (λ l e. absurd (false≢true (sym (get_or-eq_default ms false {n = r} (omega (arith, g.long))) ∙ e))) (lt-or-ge r n)

  round_mono : (ms ks : List Bool) → Fine ms → Under ms ks → Under (F ms) (F ks)
  round_mono ms ks g h s l e = round-at ks s l ∙ more (marked ms) (marked ks) (every ms ks g h) (get_or bodies s d) (sym (round-at ms s l) ∙ e)

  start_fine : Fine start
  start_fine = record { long = length-replicate n false; each = λ i p. tt }

  start_under : (ms : List Bool) → Fine ms → Under start ms
  start_under ms g i p e = absurd (false≢true (sym (get_or-replicate n i false false p) ∙ e))

  found : (m : ℕ) × First F start m
  found = first-exists (cells marks ◌||◌ false false marks-joins n) F start start_fine round-fine (λ x y gx gy. round_mono x y gx) start_under same-list

  few : found.0 ≤ n * 1
  few = rounds-bound (cells marks ◌||◌ false false marks-joins n) F start start_fine round-fine (λ x y gx gy. round_mono x y gx) start_under found.0 found.1.before

  -- after the first equal round nothing changes
  stays : (m k : ℕ) → F (iter F start m) ≡ iter F start m → m ≤ k → iter F start k ≡ iter F start m
  stays m zero e l = let q : m ≡ 0 = omega arith in ap (iter F start) (sym q)
  stays m (suc k) e l = ⊎_elim (λ p. let q : suc k ≡ m = omega arith in ap (iter F start) q) (λ p. ap F (stays m k e p) ∙ e) (lt-or-ge k m)

  reached : F (marks_by has bodies) ≡ marks_by has bodies
  unfolding marks_by
  reached = let q : iter F start n ≡ iter F start found.0 = stays found.0 n found.1.stops (omega (arith, few)) in ap F q ∙ found.1.stops ∙ sym q

  marks-long : length (marks_by has bodies) ≡ n
  unfolding mark_round
  marks-long = ap length (sym reached) ∙ length-map bodies (has (marked (marks_by has bodies)))

  pub marks-by : LeastMarksBy has d bodies (marks_by has bodies)
  unfolding marks_by
  marks-by = record {
    long = marks-long;
    exact = λ s l. ap (λ (ms : List Bool). marked ms s) (sym reached) ∙ round-at (marks_by has bodies) s l;
    within = λ ks e h s l. iter-below (cells marks ◌||◌ false false marks-joins n) F start start_fine round-fine (λ x y gx gy. round_mono x y gx)
        ks (record { long = e; each = λ i p. tt }) (start_under ks (record { long = e; each = λ i p. tt }))
        (λ x p i q u. h i q (sym (round-at ks i q) ∙ p i q u)) n s l;
  }

right-mono : (m k : ℕ → Bool) → ((r : ℕ) → Imp (m r) (k r)) → (o : Option (Exp ℕ)) → Imp (right_empty m o) (right_empty k o)
right-mono m k h none = λ e. e
right-mono m k h (some e) = empty-mono m k h e

pub marks-least : (bodies : List (Exp ℕ)) → LeastMarks bodies (marks_of bodies)
unfolding marks_of
marks-least bodies = marks-by has_empty empty-mono (ter any) bodies

pub right-marks-least : (rights : List (Option (Exp ℕ))) → LeastRightMarks rights (marks_by right_empty rights)
right-marks-least rights = marks-by right_empty right-mono none rights
