-- Comparing names by their places. Assumes nothing.
use Prim.Native.Nat.{ℕ, suc, ◌+◌, ◌≤◌, ◌<◌}
use Rattle.std.specs.Prelude.{◌≡◌, Bool, ◌&&◌, length, get_or, take, drop, eqb}
use Rattle.std.proofs.Math.Path.{refl, sym, ap}
use Rattle.std.proofs.Common.{◌∙◌, arith, length-take, length-drop, drop-cons}
use Rattle.std.proofs.Math.Bool.{true, false}
use mathlib.Core.Bool.{true≢false}
use lib.Pointwise.{pointwise}
use mathlib.Core.List.{List, [], ◌∷◌}
use Rattle.std.proofs.Math.Option.{Option, none, some}
use Rattle.std.proofs.Math.Numerals.{add-one}
use Rattle.read_tokens.specs.declared.Mode.{Mode}
use Rattle.read_tokens.specs.declared.Kind.{Kind}
use Rattle.read_tokens.specs.declared.Kind.TheVariants.{End, Name, Lake, Any, Literal, Class, Amp, Bang, Query, Asterisk, Cross, Arrow, Slash, Opens, Closes, Bad}
use Rattle.read_tokens.specs.Token.{Tok, name, lake, any, literal, class, amp, bang, query, asterisk, cross, symbol, leaf, pre, suf, arrow, slash, opens, closes, bad}
use Rattle.read_tokens.specs.Tokens.{token_at, toks_of}
use Rattle.read_tokens.specs.steps.Code.{kind_of, arrow_is, symbolic, size_of}
use Rattle.read_tokens.specs.laws.Forward.{lexemes_at, lex-end, lex-more, forward}
use Rattle.read_tokens.specs.laws.Again.{name-again, lake-again}
use Rattle.grammar.specs.Same.{same_bytes, same_symbol}
use Rattle.read_syntax.specs.Reader.{is_arrow}
use Rattle.read_syntax.specs.Reading.{before}
use Rattle.read_walks.specs.steps.Names.{bytes_at, symbol_by, hit_by, begun}

-- one byte more
pub bytes-more : (s : List ℕ) (i n : ℕ) → i < length s → bytes_at s i (suc n) ≡ get_or s i 0 ∷ bytes_at s (suc i) n
bytes-more s i n h = ap (take (suc n)) (drop-cons s i 0 h)

pub bytes-long : (s : List ℕ) (i n : ℕ) → i + n ≤ length s → length (bytes_at s i n) ≡ n
bytes-long s i n h = length-take n (drop i s) ∙ omega (arith, length-drop i s)

-- the comparison of two lists that the library makes
pub same-points : (v w : List ℕ) → pointwise eqb v w ≡ same_bytes v w
unfolding same_bytes
same-points [] [] = refl
same-points [] (y ∷ w) = refl
same-points (x ∷ v) [] = refl
same-points (x ∷ v) (y ∷ w) = ap (λ (t : Bool). eqb x y && t) (same-points v w)

arrow-first : (u : Tok) (l : List Tok) → is_arrow (u ∷ l) ≡ arrow_is (some u)
arrow-first (symbol x) l = refl
arrow-first (leaf x) l = refl
arrow-first (pre x) l = refl
arrow-first (suf x) l = refl
arrow-first arrow l = refl
arrow-first slash l = refl
arrow-first opens l = refl
arrow-first closes l = refl
arrow-first bad l = refl

pub left_is : (m : Mode) (s : List ℕ) (at : ℕ) → arrow_is (token_at m s at).is ≡ before (lexemes_at m s at)
unfolding toks_of
left_is m s at = go (token_at m s at).is refl
  where
    go : (o : Option Tok) → (token_at m s at).is ≡ o → arrow_is o ≡ before (lexemes_at m s at)
    go none e = sym (ap before (lex-end m s at e))
    go (some u) e = sym (ap before (lex-more m s at u e) ∙ arrow-first u (toks_of (lexemes_at m s (token_at m s at).next)))

-- ── names of another length are not the same ──
pub other_length : (v w : List ℕ) → (length v ≡ length w → ⊥) → same_bytes v w ≡ false
unfolding same_bytes
other_length [] [] f = absurd (f refl)
other_length [] (y ∷ w) f = refl
other_length (x ∷ v) [] f = refl
other_length (x ∷ v) (y ∷ w) f = go (eqb x y) (other_length v w (λ e. f (ap suc e)))
  where
    go : (b : Bool) → same_bytes v w ≡ false → (b && same_bytes v w) ≡ false
    go true e = e
    go false e = refl

-- ── whether a token is the left side h, where h is the symbol of kind k with the name w ──
-- what holds of both kinds of symbols holds of a kind that is one
pub one_of : (k : Kind) → symbolic k ≡ true → (P : Kind → Type 0) → P Name → P Lake → P k
one_of End e P a b = absurd (true≢false (sym e))
one_of Name e P a b = a
one_of Lake e P a b = b
one_of Any e P a b = absurd (true≢false (sym e))
one_of Literal e P a b = absurd (true≢false (sym e))
one_of Class e P a b = absurd (true≢false (sym e))
one_of Amp e P a b = absurd (true≢false (sym e))
one_of Bang e P a b = absurd (true≢false (sym e))
one_of Query e P a b = absurd (true≢false (sym e))
one_of Asterisk e P a b = absurd (true≢false (sym e))
one_of Cross e P a b = absurd (true≢false (sym e))
one_of Arrow e P a b = absurd (true≢false (sym e))
one_of Slash e P a b = absurd (true≢false (sym e))
one_of Opens e P a b = absurd (true≢false (sym e))
one_of Closes e P a b = absurd (true≢false (sym e))
one_of Bad e P a b = absurd (true≢false (sym e))

module _ (k : Kind) (sy : symbolic k ≡ true) (w : List ℕ) where
  pub hit-kind : (u : Tok) (b : Bool) → (kind_of (some u) ≡ k → ⊥) → hit_by (symbol_by k w) u b ≡ false
  unfolding same_symbol
  hit-kind (symbol (name v)) true f = one_of k sy (λ (j : Kind). (kind_of (some (symbol (name v))) ≡ j → ⊥) → hit_by (symbol_by j w) (symbol (name v)) true ≡ false) (λ g. absurd (g refl)) (λ g. refl) f
  hit-kind (symbol (lake v)) true f = one_of k sy (λ (j : Kind). (kind_of (some (symbol (lake v))) ≡ j → ⊥) → hit_by (symbol_by j w) (symbol (lake v)) true ≡ false) (λ g. refl) (λ g. absurd (g refl)) f
  hit-kind (symbol x) false f = refl
  hit-kind (leaf x) b f = refl
  hit-kind (pre x) b f = refl
  hit-kind (suf x) b f = refl
  hit-kind arrow b f = refl
  hit-kind slash b f = refl
  hit-kind opens b f = refl
  hit-kind closes b f = refl
  hit-kind bad b f = refl

  pub hit-size : (u : Tok) (b : Bool) → (size_of (some u) ≡ length w → ⊥) → hit_by (symbol_by k w) u b ≡ false
  unfolding same_symbol
  hit-size (symbol (name v)) true f = one_of k sy (λ (j : Kind). hit_by (symbol_by j w) (symbol (name v)) true ≡ false) (other_length w v (λ e. f (sym e))) refl
  hit-size (symbol (lake v)) true f = one_of k sy (λ (j : Kind). hit_by (symbol_by j w) (symbol (lake v)) true ≡ false) refl (other_length w v (λ e. f (sym e)))
  hit-size (symbol x) false f = refl
  hit-size (leaf x) b f = refl
  hit-size (pre x) b f = refl
  hit-size (suf x) b f = refl
  hit-size arrow b f = refl
  hit-size slash b f = refl
  hit-size opens b f = refl
  hit-size closes b f = refl
  hit-size bad b f = refl

  pub hit-use : (u : Tok) → hit_by (symbol_by k w) u false ≡ false
  hit-use (symbol x) = refl
  hit-use (leaf x) = refl
  hit-use (pre x) = refl
  hit-use (suf x) = refl
  hit-use arrow = refl
  hit-use slash = refl
  hit-use opens = refl
  hit-use closes = refl
  hit-use bad = refl

  not-symbol : {A : Type 0} (j : Kind) → j ≡ k → symbolic j ≡ false → A
  not-symbol j e h = absurd (true≢false (sym sy ∙ ap symbolic (sym e) ∙ h))

  -- the name of a token of kind k stands in the text, and the left side is told by it
  pub named : (m : Mode) (s : List ℕ) (at : ℕ) (u : Tok) → (token_at m s at).is ≡ some u → kind_of (some u) ≡ k
      → (hit_by (symbol_by k w) u true ≡ same_bytes w (bytes_at s (begun k (token_at m s at).start) (size_of (some u)))) × (begun k (token_at m s at).start + size_of (some u) ≤ length s)
      × (symbol (symbol_by k (bytes_at s (begun k (token_at m s at).start) (size_of (some u)))) ≡ u)
  unfolding same_symbol
  named m s at (symbol (name v)) e f =
      let a = name-again m s at v e in
      let b = forward m s at (symbol (name v)) e in
      let g : k ≡ Name = sym f in
      let h : begun k (token_at m s at).start ≡ (token_at m s at).start = ap (λ (j : Kind). begun j (token_at m s at).start) g in
      let x : bytes_at s (begun k (token_at m s at).start) (length v) ≡ v = ap (λ (i : ℕ). bytes_at s i (length v)) h ∙ a.0 in (
        ap (λ (j : Kind). hit_by (symbol_by j w) (symbol (name v)) true) g ∙ ap (same_bytes w) (sym x),
        omega (arith, h, a.1, b.within),
        ap (λ (y : List ℕ). symbol (symbol_by k y)) x ∙ ap (λ (j : Kind). symbol (symbol_by j v)) g,
      )
  named m s at (symbol (lake v)) e f =
      let a = lake-again m s at v e in
      let b = forward m s at (symbol (lake v)) e in
      let g : k ≡ Lake = sym f in
      let h : begun k (token_at m s at).start ≡ suc (token_at m s at).start = ap (λ (j : Kind). begun j (token_at m s at).start) g ∙ add-one (token_at m s at).start in
      let x : bytes_at s (begun k (token_at m s at).start) (length v) ≡ v = ap (λ (i : ℕ). bytes_at s i (length v)) h ∙ a.0 in (
        ap (λ (j : Kind). hit_by (symbol_by j w) (symbol (lake v)) true) g ∙ ap (same_bytes w) (sym x),
        omega (arith, h, a.1, b.within),
        ap (λ (y : List ℕ). symbol (symbol_by k y)) x ∙ ap (λ (j : Kind). symbol (symbol_by j v)) g,
      )
  named m s at (leaf any) e f = not-symbol Any f refl
  named m s at (leaf (literal x)) e f = not-symbol Literal f refl
  named m s at (leaf (class x)) e f = not-symbol Class f refl
  named m s at (pre amp) e f = not-symbol Amp f refl
  named m s at (pre bang) e f = not-symbol Bang f refl
  named m s at (suf query) e f = not-symbol Query f refl
  named m s at (suf asterisk) e f = not-symbol Asterisk f refl
  named m s at (suf cross) e f = not-symbol Cross f refl
  named m s at arrow e f = not-symbol Arrow f refl
  named m s at slash e f = not-symbol Slash f refl
  named m s at opens e f = not-symbol Opens f refl
  named m s at closes e f = not-symbol Closes f refl
  named m s at bad e f = not-symbol Bad f refl
