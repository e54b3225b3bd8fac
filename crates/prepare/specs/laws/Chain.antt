-- The chain of refusals 1 to 5, check after check, and reading's chain by it. Assumes nothing.
use Rattle.std.specs.Prelude.{ℕ, zero, suc, ◌-◌, ◌≤◌, ◌<◌, ◌≡◌, refl, Bool, true, false, length, ltb}
use Rattle.std.specs.Prelude as std
use Rattle.std.specs.Prelude.{Some, None, unwrap_or}
use Rattle.std.proofs.Common.{sym, ◌∙◌, arith, lt-ltb, le-ltb}
use Rattle.std.proofs.Math.Path.{ap}
use mathlib.Core.List.{List, []}
use Rattle.std.proofs.Math.Option.{Option, none, some}
use Rattle.read_tokens.specs.declared.Mode.{Mode}
use Rattle.read_tokens.specs.Bounds.{text_bound}
use Rattle.read_tokens.specs.Tokens.{lexemes, toks_of}
use Rattle.grammar.specs.Refusal.{Refusal, refusal, refuse_if, refuse_at, ◌▸◌}
use Rattle.read_syntax.specs.Machine.{Judged, fine, syntax, wide, judge, start}
use Rattle.read_syntax.specs.Reading.{too_long, offence, second, unruled, lefts_in, too_many, rules_from, refuses_text, rules_of}
use Rattle.read_syntax.specs.declared.syntax.Found.{Found}
use Rattle.read_syntax.specs.steps.Found.{found}
use Rattle.read_walks.specs.steps.Names.{placed}
use Rattle.prepare.specs.steps.Scanned.{scanned}

pub assoc : (a b c : Option Refusal) → ((a ▸ b) ▸ c) ≡ (a ▸ (b ▸ c))
assoc none b c = refl
assoc (some r) b c = refl

-- reading refuses by 1 to 5, and then by 6
pub text-by-scan : (m : Mode) (s : List ℕ) → refuses_text m s ≡ (scanned m s ▸ too_many m (rules_of m s))
unfolding refuses_text rules_of
text-by-scan m s =
    sym (assoc (too_long m s) (o ▸ (q ▸ p)) (too_many m (rules_from (toks_of (lexemes m s))))
    ∙ ap (λ (x : Option Refusal). too_long m s ▸ x) (assoc o (q ▸ p) (too_many m (rules_from (toks_of (lexemes m s))))
    ∙ ap (λ (x : Option Refusal). o ▸ x) (assoc q p (too_many m (rules_from (toks_of (lexemes m s)))))))
  where
    o : Option Refusal
    o = offence (length s) (lexemes m s) (judge m 0 start (lexemes m s))

    q : Option Refusal
    q = refuse_at 4 (second m [] (lexemes m s))

    p : Option Refusal
    p = refuse_at 5 (unruled (lefts_in (lexemes m s)) (lexemes m s))

pub too_long_lem : (m : Mode) (s : List ℕ) (b : ℕ) → b ≡ text_bound m → b < length s → found (some (refusal 1 b)) ≡ found (scanned m s)
too_long_lem m s b e h =
    ap (λ (x : ℕ). found (some (refusal 1 x))) e
    ∙ sym (ap (λ (t : Bool). found (refuse_if t 1 (text_bound m) ▸ rest)) (lt-ltb (text_bound m) (length s) (omega (arith, e, h))))
  where
    rest : Option Refusal
    rest = offence (length s) (lexemes m s) (judge m 0 start (lexemes m s)) ▸ refuse_at 4 (second m [] (lexemes m s)) ▸ refuse_at 5 (unruled (lefts_in (lexemes m s)) (lexemes m s))

module _ (m : Mode) (s : List ℕ) (b : ℕ) (e : b ≡ text_bound m) (h : length s ≤ b) where
  rest : Option Refusal
  rest = refuse_at 4 (second m [] (lexemes m s)) ▸ refuse_at 5 (unruled (lefts_in (lexemes m s)) (lexemes m s))

  short : scanned m s ≡ (offence (length s) (lexemes m s) (judge m 0 start (lexemes m s)) ▸ rest)
  unfolding rest
  short = ap (λ (t : Bool). refuse_if t 1 (text_bound m) ▸ (offence (length s) (lexemes m s) (judge m 0 start (lexemes m s)) ▸ rest)) (le-ltb (text_bound m) (length s) (omega (arith, e, h)))

  abbrev offends : Option Refusal
  offends = offence (length s) (lexemes m s) (judge m 0 start (lexemes m s))

  no_offence : (j : Judged) → None ≡ found (offence (length s) (lexemes m s) j) → offence (length s) (lexemes m s) j ≡ none
  no_offence fine z = refl
  no_offence (syntax k) z = let y : ◌≡◌ {A = ℕ} 0 1 = cc in absurd (omega arith)
  no_offence (wide k) z = let y : ◌≡◌ {A = ℕ} 0 1 = cc in absurd (omega arith)

  first-found : (f : Found) (o : Option Refusal) (r : Option Refusal) → Some f ≡ found o → found o ≡ found (o ▸ r)
  first-found f none r e = let y : ◌≡◌ {A = ℕ} 0 1 = cc in absurd (omega arith)
  first-found f (some x) r e = refl

  pub syntax-refuses : (f : Found) → Some f ≡ found offends → Some f ≡ found (scanned m s)
  syntax-refuses f q = q ∙ first-found f offends rest q ∙ ap found (sym short)

  module _ (q : None ≡ found offends) where
    clean : scanned m s ≡ rest
    clean = short ∙ ap (λ (o : Option Refusal). o ▸ rest) (no_offence (judge m 0 start (lexemes m s)) q)

    place-of : (o : Option ℕ) (k p : ℕ) (r : Option Refusal) → Some p ≡ placed o → found (some (refusal k p)) ≡ found (refuse_at k o ▸ r)
    place-of none k p r g = let y : ◌≡◌ {A = ℕ} 0 1 = cc in absurd (omega arith)
    place-of (some x) k p r g = ap (λ (y : ℕ). found (some (refusal k y))) (ap (λ (o : std.Option ℕ). unwrap_or o p) g)

    no_place : (o : Option ℕ) (k : ℕ) → None ≡ placed o → refuse_at k o ≡ none
    no_place none k g = refl
    no_place (some x) k g = let y : ◌≡◌ {A = ℕ} 0 1 = cc in absurd (omega arith)

    pub second-refuses : (p : ℕ) → Some p ≡ placed (second m [] (lexemes m s)) → found (some (refusal 4 p)) ≡ found (scanned m s)
    unfolding rest
    second-refuses p g = place-of (second m [] (lexemes m s)) 4 p (refuse_at 5 (unruled (lefts_in (lexemes m s)) (lexemes m s))) g ∙ ap found (sym clean)

    module _ (g : None ≡ placed (second m [] (lexemes m s))) where
      cleaner : scanned m s ≡ refuse_at 5 (unruled (lefts_in (lexemes m s)) (lexemes m s))
      unfolding rest
      cleaner = clean ∙ ap (λ (o : Option Refusal). o ▸ refuse_at 5 (unruled (lefts_in (lexemes m s)) (lexemes m s))) (no_place (second m [] (lexemes m s)) 4 g)

      or-none : (o : Option Refusal) → found (o ▸ none) ≡ found o
      or-none none = refl
      or-none (some r) = refl

      pub unruled-refuses : (p : ℕ) → Some p ≡ placed (unruled (lefts_in (lexemes m s)) (lexemes m s)) → found (some (refusal 5 p)) ≡ found (scanned m s)
      unruled-refuses p v =
          place-of (unruled (lefts_in (lexemes m s)) (lexemes m s)) 5 p none v ∙ or-none (refuse_at 5 (unruled (lefts_in (lexemes m s)) (lexemes m s))) ∙ ap found (sym cleaner)

      pub none-refuses : None ≡ placed (unruled (lefts_in (lexemes m s)) (lexemes m s)) → None ≡ found (scanned m s)
      none-refuses v = ap found (sym (cleaner ∙ no_place (unruled (lefts_in (lexemes m s)) (lexemes m s)) 5 v))
