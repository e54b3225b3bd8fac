-- A walk over the tokens goes on as long as there is a token, and passes each left side once. Assumes nothing.
use Prim.Native.Nat.{ℕ, zero, suc, ◌+◌, ◌≤◌, ◌<◌}
use Rattle.std.specs.Prelude.{◌≡◌, refl, Bool, true, false, ◌||◌, List, ◌⊎◌}
use Rattle.std.proofs.Common.{sym, ◌∙◌, subst, inl, inr, ⊎_elim}
use Rattle.std.proofs.Math.Path.{ap}
use Rattle.std.proofs.Math.Option.{Option, none, some}
use native.Mathlib.Omega.{arith}
use Rattle.read_tokens.specs.declared.Mode.{Mode}
use Rattle.read_tokens.specs.Token.{Symbol, Tok, symbol, leaf, pre, suf, arrow, slash, opens, closes, bad}
use Rattle.read_tokens.specs.Tokens.{token_at}
use Rattle.read_tokens.specs.laws.Forward.{lexemes_at, forward}
use Rattle.grammar.specs.Same.{same_symbol, is_in}
use Rattle.read_syntax.specs.Reading.{before, left_by}
use Rattle.read_walks.specs.steps.Names.{hit_by, Walk, walk, pass_by, walk_to}

-- a left side is found among those passed, or is the one passed now
pub in_left : (h : Symbol) (t : Tok) (b : Bool) (hs : List Symbol) → is_in same_symbol h (left_by t b hs) ≡ (hit_by h t b || is_in same_symbol h hs)
unfolding is_in
in_left h (symbol x) true hs = refl
in_left h (symbol x) false hs = refl
in_left h (leaf x) b hs = refl
in_left h (pre x) b hs = refl
in_left h (suf x) b hs = refl
in_left h arrow b hs = refl
in_left h slash b hs = refl
in_left h opens b hs = refl
in_left h closes b hs = refl
in_left h bad b hs = refl

module _ (m : Mode) (s : List ℕ) where
  pub next-none : (k : ℕ) → (token_at m s (walk_to m s k).at).is ≡ none → walk_to m s (suc k) ≡ walk_to m s k
  unfolding walk_to
  next-none k e =
      ap (λ (o : Option Tok). pass_by o (token_at m s (walk_to m s k).at).next (before (lexemes_at m s (token_at m s (walk_to m s k).at).next)) (walk_to m s k)) e

  pub next-some : (k : ℕ) (t : Tok) → (token_at m s (walk_to m s k).at).is ≡ some t
      → walk_to m s (suc k) ≡ walk (token_at m s (walk_to m s k).at).next (left_by t (before (lexemes_at m s (token_at m s (walk_to m s k).at).next)) (walk_to m s k).seen)
  unfolding walk_to
  next-some k t e =
      ap (λ (o : Option Tok). pass_by o (token_at m s (walk_to m s k).at).next (before (lexemes_at m s (token_at m s (walk_to m s k).at).next)) (walk_to m s k)) e

  -- a turn goes forward, or nothing is left
  turn : (k : ℕ) → (walk_to m s (suc k) ≡ walk_to m s k) ⊎ ((walk_to m s k).at < (walk_to m s (suc k)).at)
  turn k = go (token_at m s (walk_to m s k).at).is refl
    where
      go : (o : Option Tok) → (token_at m s (walk_to m s k).at).is ≡ o → (walk_to m s (suc k) ≡ walk_to m s k) ⊎ ((walk_to m s k).at < (walk_to m s (suc k)).at)
      go none e = inl (next-none k e)
      go (some t) e = inr (let a = forward m s (walk_to m s k).at t e in let q : (walk_to m s (suc k)).at ≡ (token_at m s (walk_to m s k).at).next = ap (λ (w : Walk). w.at) (next-some k t e) in omega (arith, q, a.behind, a.long))

  -- once nothing is left it stays so
  pub stuck : (k d : ℕ) → walk_to m s (suc k) ≡ walk_to m s k → walk_to m s (d + k) ≡ walk_to m s k
  unfolding walk_to
  stuck k zero e = let z : 0 + k ≡ k = omega arith in ap (walk_to m s) z
  stuck k (suc d) e =
      let z : suc d + k ≡ suc (d + k) = omega arith in
      ap (walk_to m s) z
      ∙ ap (λ (w : Walk). pass_by (token_at m s w.at).is (token_at m s w.at).next (before (lexemes_at m s (token_at m s w.at).next)) w) (stuck k d e)
      ∙ e

  later : (k d : ℕ) → (walk_to m s k).at ≤ (walk_to m s (d + k)).at
  later k zero = let z : 0 + k ≡ k = omega arith in subst (λ (j : ℕ). (walk_to m s k).at ≤ (walk_to m s j).at) (sym z) (omega arith)
  later k (suc d) =
      let z : suc d + k ≡ suc (d + k) = omega arith in
      subst (λ (j : ℕ). (walk_to m s k).at ≤ (walk_to m s j).at) (sym z)
      (⊎_elim (λ e. omega (arith, later k d, ap (λ (w : Walk). w.at) e)) (λ p. omega (arith, later k d, p)) (turn (d + k)))

  -- from k to k + d either nothing moves, or it moves at once
  pub moves : (k d : ℕ) → (walk_to m s (d + k) ≡ walk_to m s k) ⊎ ((walk_to m s k).at < (walk_to m s (d + k)).at)
  moves k zero = let z : 0 + k ≡ k = omega arith in inl (ap (walk_to m s) z)
  moves k (suc d) =
      ⊎_elim (λ e. inl (stuck k (suc d) e))
      (λ p. let z : suc d + k ≡ d + suc k = omega arith in inr (subst (λ (j : ℕ). (walk_to m s k).at < (walk_to m s j).at) (sym z) (let l = later (suc k) d in omega (arith, p, l)))) (turn k)
