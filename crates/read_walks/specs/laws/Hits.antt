-- Looking for a left side, as code does it. Assumes nothing.
use Rattle.std.specs.Prelude.{ℕ, zero, suc, ◌+◌, ◌-◌, ◌≤◌, ◌<◌, ◌≡◌, Bool, true, false, ◌||◌, ◌⊎◌, length}
use Rattle.std.proofs.Math.Path.{refl, sym, ap}
use Rattle.std.proofs.Common.{◌∙◌, subst, inl, inr, ⊎_elim, arith, eq-or-lt_of_le}
use mathlib.Core.Bool.{true≢false}
use mathlib.Core.List.{List}
use Rattle.std.proofs.Math.Option.{Option, none, some}
use Rattle.base_facts.specs.laws.Bools.{or-true}
use Rattle.read_tokens.specs.declared.Mode.{Mode}
use Rattle.read_tokens.specs.declared.Kind.{Kind}
use Rattle.read_tokens.specs.declared.Token.{Token}
use Rattle.read_tokens.specs.Token.{Symbol, Tok, Lexeme}
use Rattle.read_tokens.specs.Tokens.{token_at}
use Rattle.read_tokens.specs.steps.Code.{kind_of, symbolic, size_of, coded}
use Rattle.read_tokens.specs.laws.Forward.{lexemes_at, none_left, lex-end, lex-more, forward}
use Rattle.grammar.specs.Same.{same_bytes, same_symbol, is_in}
use Rattle.read_syntax.specs.Reading.{before, lefts_in}
use Rattle.read_walks.specs.steps.Names.{bytes_at, symbol_by, hit_by, begun, Walk, walk_to}
use Rattle.read_tokens.specs.laws.Here.{is-token}
use Rattle.read_walks.specs.laws.Names.{bytes-long, hit-kind, hit-size, hit-use, named}
use Rattle.read_walks.specs.laws.Walks.{in_left, next-none, next-some, moves, stuck}

module _ (m : Mode) (s : List ℕ) (at : ℕ) (t : Token) (e : t ≡ coded (token_at m s at)) (k : Kind) (sy : symbolic k ≡ true) (from size : ℕ) (fits : from + size ≤ length s) where
  abbrev w : List ℕ
  w = bytes_at s from size

  abbrev b : Bool
  b = before (lexemes_at m s (token_at m s at).next)

  kind-is : (u : Tok) → (token_at m s at).is ≡ some u → kind_of (some u) ≡ t.kind
  kind-is u q = sym (ap (λ (x : Token). x.kind) e ∙ ap kind_of q)

  size_is : (u : Tok) → (token_at m s at).is ≡ some u → size_of (some u) ≡ t.size
  size_is u q = sym (ap (λ (x : Token). x.size) e ∙ ap size_of q)

  pub other-kind : (t.kind ≡ k → ⊥) → (u : Tok) → (token_at m s at).is ≡ some u → false ≡ hit_by (symbol_by k w) u b
  other-kind f u q = sym (hit-kind k sy w u b (λ z. f (sym (kind-is u q) ∙ z)))

  pub other-size : (t.size ≡ size → ⊥) → (u : Tok) → (token_at m s at).is ≡ some u → false ≡ hit_by (symbol_by k w) u b
  other-size f u q = sym (hit-size k sy w u b (λ z. f (sym (size_is u q) ∙ z ∙ bytes-long s from size fits)))

  pub not_left : before (lexemes_at m s t.next) ≡ false → (u : Tok) → (token_at m s at).is ≡ some u → false ≡ hit_by (symbol_by k w) u b
  not_left f u q =
      sym (ap (hit_by (symbol_by k w) u) (ap (λ (i : ℕ). before (lexemes_at m s i)) (sym (ap (λ (x : Token). x.next) e)) ∙ f) ∙ hit-use k sy w u)

  start_is : t.start ≡ (token_at m s at).start
  start_is = ap (λ (x : Token). x.start) e

  pub by_bytes : t.kind ≡ k → t.size ≡ size → before (lexemes_at m s t.next) ≡ true → (r : Bool) → r ≡ same_bytes w (bytes_at s (begun k t.start) size)
      → (u : Tok) → (token_at m s at).is ≡ some u → r ≡ hit_by (symbol_by k w) u b
  by_bytes f g l r h u q =
      let n = named k sy w m s at u q (kind-is u q ∙ f) in
      h
      ∙ ap (λ (i : ℕ). same_bytes w (bytes_at s (begun k i) size)) start_is
      ∙ ap (λ (z : ℕ). same_bytes w (bytes_at s (begun k (token_at m s at).start) z)) (sym (size_is u q ∙ g))
      ∙ sym n.0
      ∙ ap (hit_by (symbol_by k w) u) (sym (ap (λ (i : ℕ). before (lexemes_at m s i)) (sym (ap (λ (x : Token). x.next) e)) ∙ l))

  there : t.kind ≡ k → (u : Tok) × ((token_at m s at).is ≡ some u)
  there f = is-token (token_at m s at).is (λ z. absurd (true≢false (sym sy ∙ ap symbolic (sym f ∙ ap (λ (x : Token). x.kind) e ∙ z))))

  pub start-inside : t.kind ≡ k → t.start < length s
  start-inside f = let x = there f in let a = forward m s at x.0 x.1 in omega (arith, a.long, a.within, start_is)

  pub name-inside : t.kind ≡ k → t.size ≡ size → begun k t.start + size ≤ length s
  name-inside f g =
      let u : Tok = (there f).0 in
      let q : (token_at m s at).is ≡ some u = (there f).1 in
      let n = named k sy w m s at u q (kind-is u q ∙ f) in
      let x : begun k t.start ≡ begun k (token_at m s at).start = ap (begun k) start_is in
      omega (arith, n.1, x, size_is u q, g)

-- ── among the tokens that a walk has passed ──
module _ (m : Mode) (s : List ℕ) (limit : ℕ) (h : Symbol) where
  -- the walk is at i, not past the limit, and has not seen h
  abbrev pub Looking : ℕ → Type 0
  Looking i = (j : ℕ) × ((walk_to m s j).at ≡ i) × (is_in same_symbol h (walk_to m s j).seen ≡ false) × ((k : ℕ) → (walk_to m s k).at ≡ limit → j ≤ k)

  pub look-start : Looking 0
  unfolding walk_to is_in
  look-start = (0, refl, refl, λ k e. omega arith)

  -- the walk's two places
  reach : (i : ℕ) (l : Looking i) (k : ℕ) → (walk_to m s k).at ≡ limit → (walk_to m s k ≡ walk_to m s l.0) ⊎ (i < limit)
  reach i l k e =
      let d : k - l.0 + l.0 ≡ k = omega (arith, l.3 k e) in
      ⊎_elim (λ p. inl (ap (walk_to m s) (sym d) ∙ p))
      (λ p. inr (let q : (walk_to m s l.0).at < (walk_to m s k).at = subst (λ (x : ℕ). (walk_to m s l.0).at < (walk_to m s x).at) d p in omega (arith, q, l.1, e)))
      (moves m s l.0 (k - l.0))

  pub look-end : (i : ℕ) → Looking i → limit ≤ i → (k : ℕ) → (walk_to m s k).at ≡ limit → false ≡ is_in same_symbol h (walk_to m s k).seen
  look-end i l p k e = ⊎_elim (λ q. sym (ap (λ (x : Walk). is_in same_symbol h x.seen) q ∙ l.2)) (λ q. absurd (omega arith)) (reach i l k e)

  -- before the limit there is a token
  pub look_none : (i : ℕ) → Looking i → i < limit → (token_at m s i).is ≡ none → (k : ℕ) → (walk_to m s k).at ≡ limit → false ≡ is_in same_symbol h (walk_to m s k).seen
  look_none i l p q k e = sym (ap (λ (x : Walk). is_in same_symbol h x.seen) (ap (walk_to m s) (sym d) ∙ stuck m s l.0 (k - l.0) stop) ∙ l.2)
    where
      stop : walk_to m s (suc l.0) ≡ walk_to m s l.0
      stop = next-none m s l.0 (ap (λ (x : ℕ). (token_at m s x).is) l.1 ∙ q)

      d : k - l.0 + l.0 ≡ k
      d = omega (arith, l.3 k e)

  next-at : (i : ℕ) (l : Looking i) (u : Tok) → (token_at m s i).is ≡ some u → (walk_to m s (suc l.0)).at ≡ (token_at m s i).next
  next-at i l u q =
      ap (λ (x : Walk). x.at) (next-some m s l.0 u (ap (λ (x : ℕ). (token_at m s x).is) l.1 ∙ q)) ∙ ap (λ (x : ℕ). (token_at m s x).next) l.1

  next-seen : (i : ℕ) (l : Looking i) (u : Tok) → (token_at m s i).is ≡ some u
      → is_in same_symbol h (walk_to m s (suc l.0)).seen ≡ (hit_by h u (before (lexemes_at m s (token_at m s i).next)) || is_in same_symbol h (walk_to m s l.0).seen)
  next-seen i l u q =
      ap (λ (x : Walk). is_in same_symbol h x.seen) (next-some m s l.0 u (ap (λ (x : ℕ). (token_at m s x).is) l.1 ∙ q))
      ∙ in_left h u (before (lexemes_at m s (token_at m s (walk_to m s l.0).at).next)) (walk_to m s l.0).seen
      ∙ ap (λ (x : ℕ). hit_by h u (before (lexemes_at m s (token_at m s x).next)) || is_in same_symbol h (walk_to m s l.0).seen) l.1

  -- what is seen stays seen
  kept : (j d : ℕ) → is_in same_symbol h (walk_to m s j).seen ≡ true → is_in same_symbol h (walk_to m s (d + j)).seen ≡ true
  kept j zero e = let z : 0 + j ≡ j = omega arith in ap (λ (x : ℕ). is_in same_symbol h (walk_to m s x).seen) z ∙ e
  kept j (suc d) e =
      let z : suc d + j ≡ suc (d + j) = omega arith in
      ap (λ (x : ℕ). is_in same_symbol h (walk_to m s x).seen) z ∙ go (token_at m s (walk_to m s (d + j)).at).is refl (kept j d e)
    where
      go : (o : Option Tok) → (token_at m s (walk_to m s (d + j)).at).is ≡ o → is_in same_symbol h (walk_to m s (d + j)).seen ≡ true → is_in same_symbol h (walk_to m s (suc (d + j))).seen ≡ true
      go none q f = ap (λ (x : Walk). is_in same_symbol h x.seen) (next-none m s (d + j) q) ∙ f
      go (some u) q f =
          ap (λ (x : Walk). is_in same_symbol h x.seen) (next-some m s (d + j) u q)
          ∙ in_left h u (before (lexemes_at m s (token_at m s (walk_to m s (d + j)).at).next)) (walk_to m s (d + j)).seen
          ∙ ap (λ (x : Bool). hit_by h u (before (lexemes_at m s (token_at m s (walk_to m s (d + j)).at).next)) || x) f
          ∙ or-true (hit_by h u (before (lexemes_at m s (token_at m s (walk_to m s (d + j)).at).next)))

  before-limit : (i : ℕ) (l : Looking i) → i < limit → (k : ℕ) → (walk_to m s k).at ≡ limit → suc l.0 ≤ k
  before-limit i l p k e =
      ⊎_elim (λ (q : l.0 ≡ k). absurd (let z : (walk_to m s l.0).at ≡ (walk_to m s k).at = ap (λ (x : ℕ). (walk_to m s x).at) q in omega (arith, z, l.1, e, p))) (λ q. q) (eq-or-lt_of_le (l.3 k e))

  pub look_hit : (i : ℕ) → Looking i → i < limit → (u : Tok) → (token_at m s i).is ≡ some u → hit_by h u (before (lexemes_at m s (token_at m s i).next)) ≡ true
      → (k : ℕ) → (walk_to m s k).at ≡ limit → true ≡ is_in same_symbol h (walk_to m s k).seen
  look_hit i l p u q f k e =
      let d : k - suc l.0 + suc l.0 ≡ k = omega (arith, before-limit i l p k e) in
      sym (ap (λ (x : ℕ). is_in same_symbol h (walk_to m s x).seen) (sym d)
      ∙ kept (suc l.0) (k - suc l.0) (next-seen i l u q ∙ ap (λ (x : Bool). x || is_in same_symbol h (walk_to m s l.0).seen) f))

  pub look-on : (i : ℕ) → Looking i → i < limit → (u : Tok) → (token_at m s i).is ≡ some u → hit_by h u (before (lexemes_at m s (token_at m s i).next)) ≡ false
      → Looking (token_at m s i).next
  look-on i l p u q f =
      (suc l.0, next-at i l u q, next-seen i l u q ∙ ap (λ (x : Bool). x || is_in same_symbol h (walk_to m s l.0).seen) f ∙ l.2, before-limit i l p)

-- ── among all tokens from a place on ──
module _ (m : Mode) (s : List ℕ) (h : Symbol) (at : ℕ) where
  pub all_none : (token_at m s at).is ≡ none → false ≡ is_in same_symbol h (lefts_in (lexemes_at m s at))
  unfolding is_in lefts_in
  all_none e = sym (ap (λ (l : List Lexeme). is_in same_symbol h (lefts_in l)) (lex-end m s at e))

  pub all-next : (u : Tok) → (token_at m s at).is ≡ some u
      → is_in same_symbol h (lefts_in (lexemes_at m s at)) ≡ (hit_by h u (before (lexemes_at m s (token_at m s at).next)) || is_in same_symbol h (lefts_in (lexemes_at m s (token_at m s at).next)))
  unfolding lefts_in
  all-next u e =
      ap (λ (l : List Lexeme). is_in same_symbol h (lefts_in l)) (lex-more m s at u e)
      ∙ in_left h u (before (lexemes_at m s (token_at m s at).next)) (lefts_in (lexemes_at m s (token_at m s at).next))

  pub all-past : length s ≤ at → false ≡ is_in same_symbol h (lefts_in (lexemes_at m s at))
  unfolding is_in lefts_in
  all-past e = sym (ap (λ (l : List Lexeme). is_in same_symbol h (lefts_in l)) (none_left (length s) m s at e))
