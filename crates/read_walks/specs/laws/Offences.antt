-- Refusals 4 and 5, token by token, as code finds them. Assumes nothing.
use Rattle.std.specs.Prelude.{ℕ, suc, ◌+◌, ◌≤◌, ◌≡◌, Bool, not, ◌&&◌, ◌||◌, length, eqb}
use Rattle.std.proofs.Math.Path.{refl, sym, ap}
use Rattle.std.proofs.Common.{◌∙◌, arith}
use Rattle.std.proofs.Math.Bool.{true, false}
use mathlib.Core.Bool.{true≢false}
use lib.Pointwise.{pointwise}
use lib.ListN.{take}
use mathlib.Core.List.{List, [], ◌∷◌}
use Rattle.std.proofs.Math.Option.{Option, none, some}
use Rattle.read_tokens.specs.declared.Mode.{Mode}
use Rattle.read_tokens.specs.declared.Mode.TheVariants.{Lake, Plain}
use Rattle.read_tokens.specs.declared.Kind.{Kind}
use Rattle.read_tokens.specs.declared.Kind.TheVariants.{End, Name}
use Rattle.read_tokens.specs.declared.Kind.TheVariants as kind
use Rattle.std.specs.Prelude.{Some, None}
use Rattle.read_tokens.specs.declared.Token.{Token}
use Rattle.read_tokens.specs.Token.{Symbol, Tok, Lexeme, name, lake, symbol, leaf, pre, suf, arrow, slash, opens, closes, bad}
use Rattle.read_tokens.specs.Tokens.{token_at, lexemes}
use Rattle.read_tokens.specs.steps.Code.{kind_of, kind_number, symbolic, size_of, coded}
use Rattle.read_tokens.specs.laws.Forward.{lexemes_at, lex-end, lex-more}
use Rattle.grammar.specs.Same.{same_symbol, is_in}
use Rattle.read_syntax.specs.Machine.{name_of}
use Rattle.read_syntax.specs.Reading.{before, starts_with, reserved, left_by, second_by, second, unruled, lacks}
use Rattle.read_walks.specs.steps.Names.{bytes_at, symbol_by, begun, placed, bad4, Walk, walk_to, lake_prefix, reserved_by}
use Rattle.read_walks.specs.laws.Names.{named}
use Rattle.read_walks.specs.laws.Walks.{next-some}
use Rattle.read_tokens.specs.laws.Here.{is-token}

-- ── names that begin with `lake__` ──
pub prefix-points : (p w : List ℕ) → pointwise eqb p (take (length p) w) ≡ starts_with p w
unfolding starts_with
prefix-points [] w = refl
prefix-points (a ∷ p) [] = refl
prefix-points (a ∷ p) (b ∷ w) = ap (λ (t : Bool). eqb a b && t) (prefix-points p w)

pub reserved-is : (m : Mode) (k : Kind) (w : List ℕ) → reserved m (symbol_by k w) ≡ reserved_by m w
unfolding reserved
reserved-is Lake k w = ap (starts_with lake_prefix) (go k)
  where
    go : (k : Kind) → name_of (symbol_by k w) ≡ w
    go kind.End = refl
    go kind.Name = refl
    go kind.Lake = refl
    go kind.Any = refl
    go kind.Literal = refl
    go kind.Class = refl
    go kind.Amp = refl
    go kind.Bang = refl
    go kind.Query = refl
    go kind.Asterisk = refl
    go kind.Cross = refl
    go kind.Arrow = refl
    go kind.Slash = refl
    go kind.Opens = refl
    go kind.Closes = refl
    go kind.Bad = refl
reserved-is Plain k w = refl

-- ── one token ──
module _ (m : Mode) (s : List ℕ) (at : ℕ) (t : Token) (e : t ≡ coded (token_at m s at)) (f : t.kind ≡ End → ⊥) where
  kind-is : (u : Tok) → (token_at m s at).is ≡ some u → kind_of (some u) ≡ t.kind
  kind-is u q = sym (ap (λ (x : Token). x.kind) e ∙ ap kind_of q)

  pub not-symbol : (seen : List Symbol) (b : Bool) → symbolic t.kind ≡ false → (u : Tok) → (token_at m s at).is ≡ some u → false ≡ bad4 m seen u b
  not-symbol seen b h (symbol (name w)) q = absurd (true≢false (ap symbolic (kind-is (symbol (name w)) q) ∙ h))
  not-symbol seen b h (symbol (lake w)) q = absurd (true≢false (ap symbolic (kind-is (symbol (lake w)) q) ∙ h))
  not-symbol seen b h (leaf x) q = refl
  not-symbol seen b h (pre x) q = refl
  not-symbol seen b h (suf x) q = refl
  not-symbol seen b h arrow q = refl
  not-symbol seen b h slash q = refl
  not-symbol seen b h opens q = refl
  not-symbol seen b h closes q = refl
  not-symbol seen b h bad q = refl

  module _ (h : symbolic t.kind ≡ true) where
    abbrev w : List ℕ
    w = bytes_at s (begun t.kind t.start) t.size

    pub said : (u : Tok) → (token_at m s at).is ≡ some u → symbol (symbol_by t.kind w) ≡ u
    said u q =
        let n = named t.kind h [] m s at u q (kind-is u q) in
        ap (λ (i : ℕ). symbol (symbol_by t.kind (bytes_at s (begun t.kind i) t.size))) (ap (λ (x : Token). x.start) e)
        ∙ ap (λ (z : ℕ). symbol (symbol_by t.kind (bytes_at s (begun t.kind (token_at m s at).start) z))) (ap (λ (x : Token). x.size) e ∙ ap size_of q)
        ∙ n.2

    pub inside : begun t.kind t.start + t.size ≤ length s
    inside =
        let x = is-token (token_at m s at).is (λ z. f (ap (λ (y : Token). y.kind) e ∙ z)) in
        let n = named t.kind h [] m s at x.0 x.1 (kind-is x.0 x.1) in
        let p : begun t.kind t.start ≡ begun t.kind (token_at m s at).start = ap (λ (y : Token). begun t.kind y.start) e in
        omega (arith, n.1, p, ap (λ (y : Token). y.size) e, ap size_of x.1)

    -- by its name, and by whether it is a left side that is seen already
    bad-symbol : (seen : List Symbol) (b : Bool) (u : Tok) → (token_at m s at).is ≡ some u → (reserved_by m w || (b && is_in same_symbol (symbol_by t.kind w) seen)) ≡ bad4 m seen u b
    bad-symbol seen b u q =
        ap (λ (x : Bool). x || (b && is_in same_symbol (symbol_by t.kind w) seen)) (sym (reserved-is m t.kind w)) ∙ ap (λ (x : Tok). bad4 m seen x b) (said u q)

    pub reserved-here : (seen : List Symbol) (b : Bool) → reserved_by m w ≡ true → (u : Tok) → (token_at m s at).is ≡ some u → true ≡ bad4 m seen u b
    reserved-here seen b r u q = sym (ap (λ (x : Bool). x || (b && is_in same_symbol (symbol_by t.kind w) seen)) r) ∙ bad-symbol seen b u q

    pub used-here : (seen : List Symbol) (b : Bool) → reserved_by m w ≡ false → b ≡ false → (u : Tok) → (token_at m s at).is ≡ some u → false ≡ bad4 m seen u b
    used-here seen b r l u q =
        sym (ap (λ (x : Bool). x || (b && is_in same_symbol (symbol_by t.kind w) seen)) r ∙ ap (λ (x : Bool). x && is_in same_symbol (symbol_by t.kind w) seen) l) ∙ bad-symbol seen b u q

    pub left_here : (seen : List Symbol) (b : Bool) → reserved_by m w ≡ false → b ≡ true → (u : Tok) → (token_at m s at).is ≡ some u
        → is_in same_symbol (symbol_by t.kind w) seen ≡ bad4 m seen u b
    left_here seen b r l u q =
        sym (ap (λ (x : Bool). x || (b && is_in same_symbol (symbol_by t.kind w) seen)) r ∙ ap (λ (x : Bool). x && is_in same_symbol (symbol_by t.kind w) seen) l) ∙ bad-symbol seen b u q

-- ── the walk for 4 ──
second-step : (m : Mode) (seen : List Symbol) (u : Tok) (i : ℕ) (b : Bool) (k : List Symbol → Option ℕ) (r : Bool) → r ≡ bad4 m seen u b
    → second_by m seen u i b k ≡ elim r as (λ x. Option ℕ) [ true ↦ some i | false ↦ k (left_by u b seen) ]
second-step m seen (symbol h) i true k r e =
    ap (λ (x : Bool). elim x as (λ y. Option ℕ) [ true ↦ some i | false ↦ k (h ∷ seen) ]) (sym e)
second-step m seen (symbol h) i false k r e =
    ap (λ (x : Bool). elim x as (λ y. Option ℕ) [ true ↦ some i | false ↦ k seen ]) (sym e)
second-step m seen (leaf x) i b k r e = ap (λ (x : Bool). elim x as (λ y. Option ℕ) [ true ↦ some i | false ↦ k seen ]) (sym e)
second-step m seen (pre x) i b k r e = ap (λ (x : Bool). elim x as (λ y. Option ℕ) [ true ↦ some i | false ↦ k seen ]) (sym e)
second-step m seen (suf x) i b k r e = ap (λ (x : Bool). elim x as (λ y. Option ℕ) [ true ↦ some i | false ↦ k seen ]) (sym e)
second-step m seen arrow i b k r e = ap (λ (x : Bool). elim x as (λ y. Option ℕ) [ true ↦ some i | false ↦ k seen ]) (sym e)
second-step m seen slash i b k r e = ap (λ (x : Bool). elim x as (λ y. Option ℕ) [ true ↦ some i | false ↦ k seen ]) (sym e)
second-step m seen opens i b k r e = ap (λ (x : Bool). elim x as (λ y. Option ℕ) [ true ↦ some i | false ↦ k seen ]) (sym e)
second-step m seen closes i b k r e = ap (λ (x : Bool). elim x as (λ y. Option ℕ) [ true ↦ some i | false ↦ k seen ]) (sym e)
second-step m seen bad i b k r e = ap (λ (x : Bool). elim x as (λ y. Option ℕ) [ true ↦ some i | false ↦ k seen ]) (sym e)

module _ (m : Mode) (s : List ℕ) where
  -- the walk is at `at`, and what is left says what the whole says
  abbrev pub Walking : ℕ → Type 0
  Walking at = (k : ℕ) × ((walk_to m s k).at ≡ at) × (second m (walk_to m s k).seen (lexemes_at m s at) ≡ second m [] (lexemes m s))

  pub walking : Walking 0
  unfolding walk_to lexemes
  walking = (0, refl, refl)

  pub walked : (at : ℕ) → Walking at → (token_at m s at).is ≡ none → None ≡ placed (second m [] (lexemes m s))
  unfolding second
  walked at v e = sym (ap placed (sym v.2 ∙ ap (second m (walk_to m s v.0).seen) (lex-end m s at e)))

  pub at-token : (at : ℕ) (v : Walking at) (u : Tok) → (token_at m s at).is ≡ some u → (r : Bool)
      → r ≡ bad4 m (walk_to m s v.0).seen u (before (lexemes_at m s (token_at m s at).next))
      → second m [] (lexemes m s)
      ≡ elim r as (λ x. Option ℕ) [
        | true ↦ some (token_at m s at).start
        | false ↦ second m (left_by u (before (lexemes_at m s (token_at m s at).next)) (walk_to m s v.0).seen) (lexemes_at m s (token_at m s at).next)
      ]
  unfolding second
  at-token at v u e r q =
      sym v.2
      ∙ ap (second m (walk_to m s v.0).seen) (lex-more m s at u e)
      ∙ second-step m (walk_to m s v.0).seen u (token_at m s at).start (before (lexemes_at m s (token_at m s at).next)) (λ more. second m more (lexemes_at m s (token_at m s at).next)) r q

  pub walked-into : (at i : ℕ) (v : Walking at) (u : Tok) → (token_at m s at).is ≡ some u → i ≡ (token_at m s at).start
      → true ≡ bad4 m (walk_to m s v.0).seen u (before (lexemes_at m s (token_at m s at).next)) → Some i ≡ placed (second m [] (lexemes m s))
  walked-into at i v u e z q = ap Some z ∙ ap placed (sym (at-token at v u e true q))

  pub walks-past : (at : ℕ) (v : Walking at) (u : Tok) → (token_at m s at).is ≡ some u
      → false ≡ bad4 m (walk_to m s v.0).seen u (before (lexemes_at m s (token_at m s at).next)) → Walking (token_at m s at).next
  walks-past at v u e q =
      let p = next-some m s v.0 u (ap (λ (x : ℕ). (token_at m s x).is) v.1 ∙ e) in (
        suc v.0,
        ap (λ (x : Walk). x.at) p ∙ ap (λ (x : ℕ). (token_at m s x).next) v.1,
        ap (λ (x : Walk). second m x.seen (lexemes_at m s (token_at m s at).next)) p
            ∙ ap (λ (x : ℕ). second m (left_by u (before (lexemes_at m s (token_at m s x).next)) (walk_to m s v.0).seen) (lexemes_at m s (token_at m s at).next)) v.1
            ∙ sym (at-token at v u e false q),
      )

  -- ── the walk for 5 ──
  module _ (lefts : List Symbol) (at : ℕ) where
    pub none-lacks : (token_at m s at).is ≡ none → None ≡ placed (unruled lefts (lexemes_at m s at))
    unfolding unruled
    none-lacks e = sym (ap (λ (l : List Lexeme). placed (unruled lefts l)) (lex-end m s at e))

    lack-token : (u : Tok) → (token_at m s at).is ≡ some u → (r : Bool) → r ≡ lacks lefts u (before (lexemes_at m s (token_at m s at).next))
        → unruled lefts (lexemes_at m s at) ≡ elim r as (λ x. Option ℕ) [ true ↦ some (token_at m s at).start | false ↦ unruled lefts (lexemes_at m s (token_at m s at).next) ]
    unfolding unruled
    lack-token u e r q =
        ap (unruled lefts) (lex-more m s at u e)
        ∙ ap (λ (x : Bool). elim x as (λ y. Option ℕ) [ true ↦ some (token_at m s at).start | false ↦ unruled lefts (lexemes_at m s (token_at m s at).next) ]) (sym q)

    pub this-lacks : (i : ℕ) (u : Tok) → (token_at m s at).is ≡ some u → i ≡ (token_at m s at).start → true ≡ lacks lefts u (before (lexemes_at m s (token_at m s at).next))
        → Some i ≡ placed (unruled lefts (lexemes_at m s at))
    this-lacks i u e z q = ap Some z ∙ ap placed (sym (lack-token u e true q))

    pub later-lacks : (u : Tok) → (token_at m s at).is ≡ some u → false ≡ lacks lefts u (before (lexemes_at m s (token_at m s at).next))
        → unruled lefts (lexemes_at m s (token_at m s at).next) ≡ unruled lefts (lexemes_at m s at)
    later-lacks u e q = sym (lack-token u e false q)

-- one token for 5
module _ (m : Mode) (s : List ℕ) (at : ℕ) (t : Token) (e : t ≡ coded (token_at m s at)) (lefts : List Symbol) where
  kind-of : (u : Tok) → (token_at m s at).is ≡ some u → kind_of (some u) ≡ t.kind
  kind-of u q = sym (ap (λ (x : Token). x.kind) e ∙ ap kind_of q)

  pub no_name : (b : Bool) → (t.kind ≡ Name → ⊥) → (u : Tok) → (token_at m s at).is ≡ some u → false ≡ lacks lefts u b
  no_name b f (symbol (name w)) q = absurd (f (sym (kind-of (symbol (name w)) q)))
  no_name b f (symbol (lake w)) q = refl
  no_name b f (leaf x) q = refl
  no_name b f (pre x) q = refl
  no_name b f (suf x) q = refl
  no_name b f arrow q = refl
  no_name b f slash q = refl
  no_name b f opens q = refl
  no_name b f closes q = refl
  no_name b f bad q = refl

  pub no-use : (u : Tok) → false ≡ lacks lefts u true
  no-use (symbol (name w)) = refl
  no-use (symbol (lake w)) = refl
  no-use (leaf x) = refl
  no-use (pre x) = refl
  no-use (suf x) = refl
  no-use arrow = refl
  no-use slash = refl
  no-use opens = refl
  no-use closes = refl
  no-use bad = refl

  pub name-use : (g : t.kind ≡ Name) → (u : Tok) → (token_at m s at).is ≡ some u → not (is_in same_symbol (symbol_by t.kind (bytes_at s t.start t.size)) lefts) ≡ lacks lefts u false
  name-use g u q =
      let f : t.kind ≡ End → ⊥ = λ z. omega (arith, ap kind_number (sym g ∙ z)) in
      let h : symbolic t.kind ≡ true = ap symbolic g in
      let x : begun t.kind t.start ≡ t.start = ap (λ (k : Kind). begun k t.start) g in
      let y : symbol (symbol_by t.kind (bytes_at s t.start t.size)) ≡ u = ap (λ (i : ℕ). symbol (symbol_by t.kind (bytes_at s i t.size))) (sym x) ∙ said m s at t e f h u q in
      ap (λ (k : Kind). not (is_in same_symbol (symbol_by k (bytes_at s t.start t.size)) lefts)) g
      ∙ ap (λ (k : Kind). lacks lefts (symbol (symbol_by k (bytes_at s t.start t.size))) false) (sym g)
      ∙ ap (λ (v : Tok). lacks lefts v false) y

  pub use-inside : t.kind ≡ Name → t.start + t.size ≤ length s
  use-inside g =
      let f : t.kind ≡ End → ⊥ = λ z. omega (arith, ap kind_number (sym g ∙ z)) in
      let h : symbolic t.kind ≡ true = ap symbolic g in
      let x : begun t.kind t.start ≡ t.start = ap (λ (k : Kind). begun k t.start) g in
      omega (arith, inside m s at t e f h, x)
