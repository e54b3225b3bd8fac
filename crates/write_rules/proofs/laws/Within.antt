-- A text of which no token is over its bound, written anew, has none either; so it is judged free of 2 and 3 again, and is not too long for
-- plain mode. No token is over its bound just where no more parentheses than may are open at once, and each token is narrow. Assumes nothing.
use Prim.Native.Nat.{ℕ, zero, suc, ◌≤◌, ◌<◌}
use Rattle.std.specs.Prelude.{◌≡◌, false, ◌↔◌, leb, length}
use Rattle.std.proofs.Math.Path.{refl, subst}
use Rattle.std.proofs.Common.{sym as inverse, ap, ◌∙◌}
use mathlib.Core.List.{List, [], ◌∷◌, ◌++◌}
use native.Mathlib.Omega.{arith}
use borrow.Author.Tests.{leb-false, ltb-false, lt-leb}
use Rattle.read_tokens.specs.declared.Mode.{Mode}
use Rattle.read_tokens.specs.declared.Mode.TheVariants.{Lake, Plain}
use Rattle.read_tokens.specs.Token.{Symbol, name, lake, Leaf, any, literal, class, query, asterisk, cross, Tok, symbol, leaf, pre, suf, arrow, slash, opens, closes, bad, Lexeme}
use Rattle.read_tokens.specs.Bounds.{text_bound, name_bound, open_bound, expression_bound, symbol_bound, literal_bound}
use Rattle.read_tokens.specs.Tokens.{lexemes, toks_of, toks}
use Rattle.read_tokens.specs.laws.Bytes.{Bytes}
use Rattle.grammar.specs.Exp.{Exp, sym, ter, seq, alt, opt, star, plus, ahead, never, Rule}
use Rattle.grammar.specs.Numbers.{expressions_of}
use Rattle.read_syntax.specs.Machine.{start, over, Judged, fine as free, judge}
use Rattle.read_syntax.specs.Grammar.{GrammarOf}
use Rattle.read_syntax.proofs.laws.Bounds.{fewer, opened, over_at, Judges, judged, one_answer}
use Rattle.write_rules.specs.Writing.{text}
use Rattle.write_rules.proofs.laws.Trip.{FineExpr, FineRules}
use Rattle.write_rules.proofs.laws.Fine.{fine, same-grammar}
use Rattle.write_rules.proofs.laws.Depth.{peak, peak-from}
use Rattle.write_rules.proofs.laws.Kept.{bones, yield, yields, bones-r, kept, no_deeper}
use Rattle.write_rules.proofs.laws.Lengths.{Short, Brief, Bounded, BoundedAll, not-too-long}

-- each token by itself is within its bound
abbrev pub Narrow : Mode → List Tok → Type 0
Narrow m [] = Unit {0}
Narrow m (t ∷ l) = (over m 0 t ≡ false) × Narrow m l

-- the same with the parentheses that are open, d before the first
abbrev Free : Mode → ℕ → List Tok → Type 0
Free m d [] = Unit {0}
Free m d (t ∷ l) = (over m d t ≡ false) × Free m (opened d t) l

module _ (m : Mode) where
  to_free : (xs : List Lexeme) (d : ℕ) → ((j : ℕ) → over_at m d xs j ≡ false) → Free m d (toks_of xs)
  unfolding over_at toks_of
  to_free [] d h = tt
  to_free (x ∷ l) d h = (h 0, to_free l (opened d x.is) (λ j. h (suc j)))

  of-free : (xs : List Lexeme) (d : ℕ) → Free m d (toks_of xs) → (j : ℕ) → over_at m d xs j ≡ false
  unfolding over_at toks_of
  of-free [] d f j = refl
  of-free (x ∷ l) d f zero = f.0
  of-free (x ∷ l) d f (suc j) = of-free l (opened d x.is) f.1 j

  fewer-le : (d : ℕ) → fewer d ≤ d
  fewer-le zero = omega arith
  fewer-le (suc d) = omega arith

  none_open : leb (open_bound m) 0 ≡ false
  unfolding open_bound
  none_open = lt-leb (open_bound m) 0 (go m)
    where
      go : (m : Mode) → 0 < open_bound m
      go Lake = omega arith
      go Plain = omega arith

  free-peak : (ts : List Tok) (d : ℕ) → d ≤ open_bound m → Free m d ts → peak d ts ≤ open_bound m
  unfolding over
  free-peak [] d h f = h
  free-peak (symbol x ∷ l) d h f = free-peak l d h f.1
  free-peak (leaf x ∷ l) d h f = free-peak l d h f.1
  free-peak (pre x ∷ l) d h f = free-peak l d h f.1
  free-peak (suf x ∷ l) d h f = free-peak l d h f.1
  free-peak (arrow ∷ l) d h f = free-peak l d h f.1
  free-peak (slash ∷ l) d h f = free-peak l d h f.1
  free-peak (opens ∷ l) d h f = free-peak l (suc d) (leb-false (open_bound m) d f.0) f.1
  free-peak (closes ∷ l) d h f = omega (arith, free-peak l (fewer d) (omega (arith, fewer-le d)) f.1)
  free-peak (bad ∷ l) d h f = free-peak l d h f.1

  free-narrow : (ts : List Tok) (d : ℕ) → Free m d ts → Narrow m ts
  unfolding over
  free-narrow [] d f = tt
  free-narrow (symbol x ∷ l) d f = (f.0, free-narrow l d f.1)
  free-narrow (leaf x ∷ l) d f = (f.0, free-narrow l d f.1)
  free-narrow (pre x ∷ l) d f = (refl, free-narrow l d f.1)
  free-narrow (suf x ∷ l) d f = (refl, free-narrow l d f.1)
  free-narrow (arrow ∷ l) d f = (refl, free-narrow l d f.1)
  free-narrow (slash ∷ l) d f = (refl, free-narrow l d f.1)
  free-narrow (opens ∷ l) d f = (none_open, free-narrow l (suc d) f.1)
  free-narrow (closes ∷ l) d f = (refl, free-narrow l (fewer d) f.1)
  free-narrow (bad ∷ l) d f = (refl, free-narrow l d f.1)

  narrow-free : (ts : List Tok) (d : ℕ) → peak d ts ≤ open_bound m → Narrow m ts → Free m d ts
  unfolding over
  narrow-free [] d h n = tt
  narrow-free (symbol x ∷ l) d h n = (n.0, narrow-free l d h n.1)
  narrow-free (leaf x ∷ l) d h n = (n.0, narrow-free l d h n.1)
  narrow-free (pre x ∷ l) d h n = (refl, narrow-free l d h n.1)
  narrow-free (suf x ∷ l) d h n = (refl, narrow-free l d h n.1)
  narrow-free (arrow ∷ l) d h n = (refl, narrow-free l d h n.1)
  narrow-free (slash ∷ l) d h n = (refl, narrow-free l d h n.1)
  narrow-free (opens ∷ l) d h n = (lt-leb (open_bound m) d (omega (arith, peak-from (suc d) l)), narrow-free l (suc d) h n.1)
  narrow-free (closes ∷ l) d h n = (refl, narrow-free l (fewer d) (omega arith) n.1)
  narrow-free (bad ∷ l) d h n = (refl, narrow-free l d h n.1)

  pub within-iff : (xs : List Lexeme) → ((j : ℕ) → over_at m 0 xs j ≡ false) ↔ ((peak 0 (toks_of xs) ≤ open_bound m) × Narrow m (toks_of xs))
  within-iff xs = (
    λ h. (free-peak (toks_of xs) 0 (omega arith) (to_free xs 0 h), free-narrow (toks_of xs) 0 (to_free xs 0 h)),
    λ w. of-free xs 0 (narrow-free (toks_of xs) 0 w.0 w.1),
  )

  -- parentheses are narrow
  pub narrow-bones : (ts : List Tok) → Narrow m ts → Narrow m (bones ts)
  narrow-bones [] n = tt
  narrow-bones (symbol x ∷ l) n = (n.0, narrow-bones l n.1)
  narrow-bones (leaf x ∷ l) n = (n.0, narrow-bones l n.1)
  narrow-bones (pre x ∷ l) n = (n.0, narrow-bones l n.1)
  narrow-bones (suf x ∷ l) n = (n.0, narrow-bones l n.1)
  narrow-bones (arrow ∷ l) n = (n.0, narrow-bones l n.1)
  narrow-bones (slash ∷ l) n = (n.0, narrow-bones l n.1)
  narrow-bones (opens ∷ l) n = narrow-bones l n.1
  narrow-bones (closes ∷ l) n = narrow-bones l n.1
  narrow-bones (bad ∷ l) n = (n.0, narrow-bones l n.1)

  pub bones-narrow : (ts : List Tok) → Narrow m (bones ts) → Narrow m ts
  unfolding over
  bones-narrow [] n = tt
  bones-narrow (symbol x ∷ l) n = (n.0, bones-narrow l n.1)
  bones-narrow (leaf x ∷ l) n = (n.0, bones-narrow l n.1)
  bones-narrow (pre x ∷ l) n = (n.0, bones-narrow l n.1)
  bones-narrow (suf x ∷ l) n = (n.0, bones-narrow l n.1)
  bones-narrow (arrow ∷ l) n = (n.0, bones-narrow l n.1)
  bones-narrow (slash ∷ l) n = (n.0, bones-narrow l n.1)
  bones-narrow (opens ∷ l) n = (none_open, bones-narrow l n)
  bones-narrow (closes ∷ l) n = (refl, bones-narrow l n)
  bones-narrow (bad ∷ l) n = (n.0, bones-narrow l n.1)

  -- ── of the trees: what `not-too-long` asks ──
  pub narrow-split : (l r : List Tok) → Narrow m (l ++ r) → Narrow m l × Narrow m r
  narrow-split [] r n = (tt, n)
  narrow-split (t ∷ l) r n = let u = narrow-split l r n.1 in ((n.0, u.0), u.1)

  name-most : name_bound m ≤ name_bound Plain
  unfolding name_bound
  name-most = go m
    where
      go : (m : Mode) → name_bound m ≤ name_bound Plain
      go Lake = omega arith
      go Plain = omega arith

  brief : (h : Symbol) → over m 0 (symbol h) ≡ false → Brief h
  unfolding over
  brief (name w) e = omega (arith, ltb-false (name_bound m) (length w) e, name-most)
  brief (lake w) e = omega (arith, ltb-false (name_bound m) (length w) e, name-most)

  short : (x : Leaf) → over m 0 (leaf x) ≡ false → Short x
  unfolding over
  short any e = tt
  short (literal l) e = ltb-false literal_bound (length l) e
  short (class l) e = tt

  bounded-expr : (e : Exp Symbol) → FineExpr m e → Narrow m (yield e) → Bounded e
  unfolding yield
  bounded-expr (sym h) f n = brief h n.0
  bounded-expr (ter x) f n = (f, short x n.0)
  bounded-expr (seq a b) f n = let u = narrow-split (yield a) (yield b) n in (bounded-expr a f.0 u.0, bounded-expr b f.1 u.1)
  bounded-expr (alt a b) f n = let u = narrow-split (yield a) (slash ∷ yield b) n in (bounded-expr a f.0 u.0, bounded-expr b f.1 u.1.1)
  bounded-expr (opt a) f n = bounded-expr a f (narrow-split (yield a) (suf query ∷ []) n).0
  bounded-expr (star a) f n = bounded-expr a f (narrow-split (yield a) (suf asterisk ∷ []) n).0
  bounded-expr (plus a) f n = bounded-expr a f (narrow-split (yield a) (suf cross ∷ []) n).0
  bounded-expr (ahead a) f n = bounded-expr a f n.1
  bounded-expr (never a) f n = bounded-expr a f n.1

  pub bounded : (g : List Rule) → FineRules m g → Narrow m (yields g) → BoundedAll g
  unfolding yields
  bounded [] f n = tt
  bounded (r ∷ rs) f n = let u = narrow-split (yield r.right) (yields rs) n.1.1 in (brief r.left n.0, bounded-expr r.right f.1 u.0, bounded rs f.2 u.1)

-- ── written anew ──
module _ (m : Mode) (s : List ℕ) (g : List Rule) (b : Bytes s) (a : GrammarOf m s g) where
  narrow-read : ((j : ℕ) → over_at m 0 (lexemes m s) j ≡ false) → (peak 0 (toks m s) ≤ open_bound m) × Narrow m (toks m s)
  unfolding toks
  narrow-read h = (within-iff m (lexemes m s)).0 h

  pub within-again : ((j : ℕ) → over_at m 0 (lexemes m s) j ≡ false) → (j : ℕ) → over_at m 0 (lexemes m (text g)) j ≡ false
  unfolding toks
  within-again h =
      let w = narrow-read h in
      (within-iff m (lexemes m (text g))).1
      (omega (arith, no_deeper m s g b a, w.0), bones-narrow m (toks m (text g)) (subst (λ (l : List Tok). Narrow m l) (inverse (kept m s g b a)) (narrow-bones m (toks m s) w.1)))

  -- neither 2 nor 3 in the text, so neither in what is written
  pub judged-again : judge m 0 start (lexemes m s) ≡ free → judge m 0 start (lexemes m (text g)) ≡ free
  unfolding toks
  judged-again e =
      let u : Judges m (lexemes m s) free = subst (λ (o : Judged). Judges m (lexemes m s) o) e (judged m (lexemes m s)) in
      let r = same-grammar m s g b a in
      one_answer m (lexemes m (text g)) (judge m 0 start (lexemes m (text g))) free (judged m (lexemes m (text g))) ((r.0, r.1), within-again u.1)

  pub short-enough : ((j : ℕ) → over_at m 0 (lexemes m s) j ≡ false) → expressions_of g ≤ expression_bound Plain → length g ≤ symbol_bound → length (text g) ≤ text_bound Plain
  short-enough h n k =
      let y : Narrow m (yields g) = subst (λ (l : List Tok). Narrow m l) (ap bones (inverse a.1) ∙ bones-r a.0 ∙ ap yields a.2) (narrow-bones m (toks m s) (narrow-read h).1) in
      not-too-long g (bounded m g (fine m s g b a) y) n k
