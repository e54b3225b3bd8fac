-- Line and column are exact: at the text's begin both are 1; a byte moves the column by one, and a line end goes to column 1 of the next line. So the column
-- counts from behind the last line end, and on the first line from the text's begin.
use Rattle.std.specs.Prelude.{ℕ, zero, suc, ◌+◌, ◌<◌, ◌≤◌, ◌≡◌, refl, Bool, true, false, cond, List, [], ◌∷◌, ◌++◌, length, get_or, take}
use Rattle.std.proofs.Common.{add-suc, add-zero, suc-add, suc-ne-zero, le_of_eq, le_of_lt, arith, sym, ◌∙◌, ap, ap₂, subst, eq-eqb, ne_eqb, take-suc, take_all}
use Rattle.base_lines.specs.declared.Place.{Place}
use Rattle.std.proofs.Math.Seq.{take-length}
use Rattle.base_lines.specs.Lines.{ends_line, ended_lines, column_from, line_of, column_of, place_at}
use Rattle.base_lines.specs.steps.Behind.{behind}

pub at-begin : (s : List ℕ) → (line_of s 0 ≡ 1) × (column_of s 0 ≡ 1)
unfolding line_of column_of ended_lines column_from
at-begin s = (refl, refl)

-- ── one byte more ──
either_first : (p q : Bool) (k : ℕ) → cond p (suc (cond q (suc k) k)) (cond q (suc k) k) ≡ cond q (suc (cond p (suc k) k)) (cond p (suc k) k)
either_first true true k = refl
either_first true false k = refl
either_first false true k = refl
either_first false false k = refl

ends-one-more : (s : List ℕ) (b : ℕ) → ended_lines (s ++ (b ∷ [])) ≡ cond (ends_line b) (suc (ended_lines s)) (ended_lines s)
unfolding ended_lines
ends-one-more [] b = refl
ends-one-more (x ∷ s) b = ap (λ (k : ℕ). cond (ends_line x) (suc k) k) (ends-one-more s b) ∙ either_first (ends_line x) (ends_line b) (ended_lines s)

column-one-more : (c : ℕ) (s : List ℕ) (b : ℕ) → column_from c (s ++ (b ∷ [])) ≡ cond (ends_line b) 1 (suc (column_from c s))
unfolding column_from
column-one-more c [] b = refl
column-one-more c (x ∷ s) b = column-one-more (cond (ends_line x) 1 (suc c)) s b

pub next-line : (s : List ℕ) (p : ℕ) → p < length s → line_of s (suc p) ≡ cond (ends_line (get_or s p 0)) (suc (line_of s p)) (line_of s p)
unfolding line_of
next-line s p l =
    ap (λ (t : List ℕ). suc (ended_lines t)) (take-suc s p 0 l)
    ∙ ap suc (ends-one-more (take p s) (get_or s p 0))
    ∙ inside (ends_line (get_or s p 0)) (ended_lines (take p s))
  where
    inside : (q : Bool) (k : ℕ) → suc (cond q (suc k) k) ≡ cond q (suc (suc k)) (suc k)
    inside true k = refl
    inside false k = refl

pub next-column : (s : List ℕ) (p : ℕ) → p < length s → column_of s (suc p) ≡ cond (ends_line (get_or s p 0)) 1 (suc (column_of s p))
unfolding column_of
next-column s p l = ap (λ (t : List ℕ). column_from 1 t) (take-suc s p 0 l) ∙ column-one-more 1 (take p s) (get_or s p 0)

pub next_place : (s : List ℕ) (p : ℕ) → p < length s → place_at s (suc p) ≡ behind (place_at s p) (get_or s p 0)
unfolding behind
next_place s p l = ap₂ (λ (k : ℕ) (c : ℕ). record { line = k; column = c }) (next-line s p l) (next-column s p l)

one_more : (k : ℕ) → k + 1 ≡ suc k
one_more k = omega arith

pub behind-end : (at : Place) (b : ℕ) → b ≡ 10 → record { line = at.line + 1; column = 1 } ≡ behind at b
unfolding behind
behind-end at b e =
    ap (λ (k : ℕ). record { line = k; column = 1 }) (one_more at.line)
    ∙ sym (ap (λ (q : Bool). record { line = cond q (suc at.line) at.line; column = cond q 1 (suc at.column) }) (eq-eqb b 10 e))

pub behind-other : (at : Place) (b : ℕ) → (b ≡ 10 → ⊥) → record { line = at.line; column = at.column + 1 } ≡ behind at b
unfolding behind
behind-other at b e =
    ap (λ (k : ℕ). record { line = at.line; column = k }) (one_more at.column)
    ∙ sym (ap (λ (q : Bool). record { line = cond q (suc at.line) at.line; column = cond q 1 (suc at.column) }) (ne_eqb b 10 e))

-- no number passes the position
pub place-small : (s : List ℕ) (p : ℕ) → p ≤ length s → (line_of s p ≤ suc p) × (column_of s p ≤ suc p)
place-small s zero l = (le_of_eq (at-begin s).0, le_of_eq (at-begin s).1)
place-small s (suc p) l =
    let q : (line_of s p ≤ suc p) × (column_of s p ≤ suc p) = place-small s p (le_of_lt l) in (
      subst (λ (k : ℕ). k ≤ suc (suc p)) (sym (next-line s p l)) (either (ends_line (get_or s p 0)) (line_of s p) q.0),
      subst (λ (k : ℕ). k ≤ suc (suc p)) (sym (next-column s p l)) (other (ends_line (get_or s p 0)) (column_of s p) q.1),
    )
  where
    either : (b : Bool) (k : ℕ) → k ≤ suc p → cond b (suc k) k ≤ suc (suc p)
    either true k h = omega arith
    either false k h = omega arith

    other : (b : Bool) (k : ℕ) → k ≤ suc p → cond b 1 (suc k) ≤ suc (suc p)
    other true k h = omega arith
    other false k h = omega arith

-- ── a position past the text is its end ──
pub past_end : (s : List ℕ) (p : ℕ) → length s ≤ p → place_at s p ≡ place_at s (length s)
unfolding line_of column_of
past_end s p l = ap (λ (t : List ℕ). record { line = suc (ended_lines t); column = column_from 1 t }) (take_all p s l ∙ sym (take-length s))

-- ── the column counts from behind the last line end ──
pub without_end : (c : ℕ) (s : List ℕ) → ended_lines s ≡ 0 → column_from c s ≡ c + length s
unfolding ended_lines column_from
without_end c [] e = sym (add-zero c)
without_end c (x ∷ s) e = by_byte (ends_line x) e (λ f. without_end (suc c) s f)
  where
    by_byte : (q : Bool) → cond q (suc (ended_lines s)) (ended_lines s) ≡ 0 → (ended_lines s ≡ 0 → column_from (suc c) s ≡ suc c + length s)
        → column_from (cond q 1 (suc c)) s ≡ c + suc (length s)
    by_byte true f rest = absurd (suc-ne-zero (ended_lines s) f)
    by_byte false f rest = rest f ∙ suc-add c (length s) ∙ sym (add-suc c (length s))

pub behind-an-end : (c : ℕ) (a b : List ℕ) → ended_lines b ≡ 0 → column_from c (a ++ (10 ∷ b)) ≡ 1 + length b
unfolding column_from
behind-an-end c [] b e = without_end 1 b e
behind-an-end c (x ∷ a) b e = behind-an-end (cond (ends_line x) 1 (suc c)) a b e
