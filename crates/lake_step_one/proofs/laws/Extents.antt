-- A body's extent by its word. Assumes nothing.
use Rattle.std.specs.Prelude.{ℕ, ◌+◌, ◌<◌, ◌≡◌, refl, Bool, true, false, List, Option, Some, None}
use Rattle.std.specs.Option.{is_none}
use Rattle.std.proofs.Math.Option.{Option as Maybe, none, some}
use Rattle.std.proofs.Common.{arith, sym, subst, true≢false}
use Rattle.std.proofs.lemmas.Bool.{false≢true}
use Rattle.read_tokens.specs.Token.{Leaf}
use Rattle.grammar.specs.Exp.{Exp, size}
use Rattle.grammar_table.specs.laws.Parts.{size-pos}
use Rattle.lake_step_one.specs.declared.extent.Extent.{Extent}
use Rattle.lake_step_one.specs.steps.Extents.{from_of, end_of, Spans}
use Rattle.lake_step_one.specs.steps.Runs.{BodyAt, BodyTo}

pub none-end : (o : Option Extent) → is_none o ≡ true → end_of o ≡ 0
none-end None e = refl
none-end (Some x) e = absurd (false≢true e)

pub some-end : (o : Option Extent) → is_none o ≡ false → end_of o ≡ 0 → ⊥
some-end None e h = true≢false e
some-end (Some x) e h = omega (arith, x.words)

-- a body whose word is b
pub spanned : (number : Leaf → ℕ) (t : List ℕ) (a b : ℕ) (o : Option Extent) (w : Maybe (Exp ℕ)) → Spans a b o → BodyAt number t a b w → BodyAt number t (from_of o) (end_of o) w
spanned number t a b None none s h = refl
spanned number t a b None (some e) s h = let z : ⊥ = omega (arith, s, h.0, size-pos e) in absurd z
spanned number t a b (Some x) w s h = subst (λ (i : ℕ). BodyAt number t i x.end w) (sym s.0) (subst (λ (j : ℕ). BodyAt number t a j w) (sym s.1) h)

pub body-spanned : (t : List ℕ) (lake : Bool) (a b wa wb : ℕ) (o : Option Extent) (mid : List ℕ) (m : ℕ) (one : List ℕ) (p : ℕ) → Spans a b o
    → BodyTo t lake (from_of o) (end_of o) wa wb mid m one p → BodyTo t lake a b wa wb mid m one p
body-spanned t lake a b wa wb o mid m one p s to number w e long u v = to number w e long u (spanned number t a b o e s v)
