-- Refusals 2 and 3 by the tokens: which token offends, and which is over its bound (01, Refusal numbers). Names no automaton; that the automaton finds
-- just this is proved in laws/. Assumes nothing: these are definitions.
use Rattle.std.specs.Prelude.{ℕ, zero, suc, ◌<◌, ◌≡◌, Bool, true, false, List, [], ◌∷◌}
use Rattle.read_tokens.specs.declared.Mode.{Mode}
use Rattle.read_tokens.specs.Token.{Tok, symbol, leaf, pre, suf, arrow, slash, opens, closes, bad, Lexeme}
use Rattle.read_tokens.specs.Tokens.{toks_of}
use Rattle.grammar.specs.Syntax.{Grammatical, Offends}
use Rattle.read_syntax.specs.Machine.{over, Judged, fine, syntax, wide}

-- how many parentheses are open after a token
abbrev pub fewer : ℕ → ℕ
fewer zero = zero
fewer (suc d) = d

abbrev pub opened : ℕ → Tok → ℕ
opened d (symbol h) = d
opened d (leaf y) = d
opened d (pre y) = d
opened d (suf y) = d
opened d arrow = d
opened d slash = d
opened d opens = suc d
opened d closes = fewer d
opened d bad = d

-- token k is over its bound, where d parentheses are open before the first
unfoldable pub over_at : Mode → ℕ → List Lexeme → ℕ → Bool
over_at m d [] k = false
over_at m d (x ∷ l) zero = over m d x.is
over_at m d (x ∷ l) (suc k) = over_at m (opened d x.is) l k

-- what the document says of the answer: "2 and 3: the leftmost place decides, then 2" (01, Refusal numbers)
abbrev pub Judges : Mode → List Lexeme → Judged → Type 0
Judges m xs fine = Grammatical (toks_of xs) × ((j : ℕ) → over_at m 0 xs j ≡ false)
Judges m xs (syntax k) = Offends (toks_of xs) k × ((j : ℕ) → j < k → over_at m 0 xs j ≡ false)
Judges m xs (wide k) = (over_at m 0 xs k ≡ true) × ((j : ℕ) → j < k → over_at m 0 xs j ≡ false) × ((j : ℕ) → Offends (toks_of xs) j → k < j)
