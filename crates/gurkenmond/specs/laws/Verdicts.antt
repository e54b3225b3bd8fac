-- What a refusal of `read` says of the checks, it is handed on; and what a check says that refuses nothing. Assumes nothing.
use Rattle.std.specs.Prelude.{ℕ, ◌≡◌, refl, Bool, true, false, List}
use Rattle.std.proofs.Common.{sym, ap, ◌∙◌, true≢false}
use Rattle.std.proofs.Math.Option.{Option, none, some}
use Rattle.read_tokens.specs.declared.Mode.{Mode}
use Rattle.grammar.specs.Refusal.{Refusal, refusal, refuse_if, refuse_at}
use Rattle.prepare.specs.declared.Counted.{Counted}
use Rattle.prepare.specs.Prepare.{prepared, refuses}
use Rattle.prepare.specs.Reads.{verdict_of, is_refused, read_by, read_of}
use Rattle.prepare.specs.laws.Loads.{some-none}

-- what is told of the verdict of a refused text
pub handed : (m : Mode) (s : List ℕ) (c : Counted) → c ≡ read_of m s → is_refused c.verdict ≡ true → (x : Refusal) × (refuses m s ≡ some x) × (c.verdict ≡ verdict_of (some x))
unfolding read_of verdict_of
handed m s c e h = go (refuses m s) refl
  where
    go : (o : Option Refusal) → refuses m s ≡ o → (x : Refusal) × (refuses m s ≡ some x) × (c.verdict ≡ verdict_of (some x))
    go none q = absurd (true≢false (sym h ∙ ap (λ (y : Counted). is_refused y.verdict) (e ∙ ap (λ (o : Option Refusal). read_by o (prepared m s)) q)))
    go (some x) q = (x, q, ap (λ (y : Counted). y.verdict) (e ∙ ap (λ (o : Option Refusal). read_by o (prepared m s)) q))

-- ── checks that let it through ──
pub if_none : (b : Bool) (k p : ℕ) → refuse_if b k p ≡ none → b ≡ false
if_none false k p e = refl
if_none true k p e = absurd (some-none (refusal k p) e)

pub at_none : (k : ℕ) (o : Option ℕ) → refuse_at k o ≡ none → o ≡ none
at_none k none e = refl
at_none k (some p) e = absurd (some-none (refusal k p) e)
