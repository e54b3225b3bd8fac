-- ε of an expression (01, BEGINNING), given that of each symbol's body. Assumes nothing: these are definitions.
use Rattle.std.specs.Prelude.{ℕ, Bool, true, false, ◌&&◌, ◌||◌, List, [], ◌∷◌}
use Rattle.read_tokens.specs.Token.{Leaf, any, literal, class}
use Rattle.grammar.specs.Exp.{Exp, sym, ter, seq, alt, opt, star, plus, ahead, never}

-- a literal without bytes; no text has one: "an empty literal .. [is a] bad token" (01, Notation)
unfoldable pub empty_leaf : Leaf → Bool
empty_leaf any = false
empty_leaf (literal []) = true
empty_leaf (literal (b ∷ bs)) = false
empty_leaf (class m) = false

-- whether an expression has ε, where m says which symbols' bodies have it; "Terminal t: {t}"
unfoldable pub has_empty : (ℕ → Bool) → Exp ℕ → Bool
has_empty m (sym r) = m r
has_empty m (ter x) = false
has_empty m (seq a b) = has_empty m a && has_empty m b
has_empty m (alt a b) = has_empty m a || has_empty m b
has_empty m (opt a) = true
has_empty m (star a) = true
has_empty m (plus a) = has_empty m a
has_empty m (ahead a) = true
has_empty m (never a) = true
