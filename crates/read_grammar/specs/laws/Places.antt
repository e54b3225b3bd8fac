-- The token at a place and the tokens from there on: by its kind, and what stands behind it. Assumes nothing.
use Rattle.std.specs.Prelude.{ℕ, ◌+◌, ◌≤◌, ◌<◌, ◌≡◌, refl, Bool, true, false, not, List, [], ◌∷◌, length}
use Rattle.std.proofs.Common.{sym, ◌∙◌, subst, arith, true≢false}
use Rattle.std.proofs.Math.Path.{ap}
use Rattle.std.proofs.Math.Option.{Option, none, some}
use Rattle.std.proofs.lemmas.Bool.{false≢true}
use Rattle.read_tokens.specs.declared.Mode.{Mode}
use Rattle.read_tokens.specs.declared.Kind.{Kind}
use Rattle.read_tokens.specs.declared.Kind.TheVariants as kinds
use Rattle.read_tokens.specs.Token.{Symbol, name, lake, Leaf, any, literal, class, amp, bang, query, asterisk, cross, Tok, symbol, leaf, pre, suf, arrow, slash, opens, closes, bad, Token}
use Rattle.read_tokens.specs.Tokens.{token_at, toks_of}
use Rattle.read_tokens.specs.steps.Code.{kind_of, symbolic, arrow_is, size_of}
use Rattle.read_tokens.specs.laws.Here.{is-end}
use Rattle.read_tokens.specs.laws.Forward.{Ahead, forward, lex-end, lex-more}
use Rattle.read_tokens.specs.laws.Again.{name-again, lake-again}
use Rattle.read_syntax.specs.Reader.{is_arrow, begins}
use Rattle.read_grammar.specs.steps.Promises.{toks_at, begins_part, Over}

-- the first token's kind; `End`: there is none
abbrev pub kind_l : List Tok → Kind
kind_l [] = kinds.End
kind_l (t ∷ l) = kind_of (some t)

pub kind-some : (t : Tok) → kind_of (some t) ≡ kinds.End → ⊥
kind-some t e = let f : ◌≡◌ {A = Option Tok} (some t) none = is-end (some t) e in let z : ◌≡◌ {A = ℕ} 0 1 = cc in omega arith

module _ (m : Mode) (s : List ℕ) (at : ℕ) where
  abbrev T : Token
  T = token_at m s at

  toks-end : (token_at m s at).is ≡ none → toks_at m s at ≡ []
  unfolding toks_of
  toks-end e = ap toks_of (lex-end m s at e)

  pub toks_more : (t : Tok) → (token_at m s at).is ≡ some t → toks_at m s at ≡ t ∷ toks_at m s (token_at m s at).next
  unfolding toks_of
  toks_more t e = ap toks_of (lex-more m s at t e)

  pub kind-is : kind_of (token_at m s at).is ≡ kind_l (toks_at m s at)
  kind-is = by (token_at m s at).is refl
    where
      by : (o : Option Tok) → (token_at m s at).is ≡ o → kind_of (token_at m s at).is ≡ kind_l (toks_at m s at)
      by none e = ap kind_of e ∙ sym (ap kind_l (toks-end e))
      by (some t) e = ap kind_of e ∙ sym (ap kind_l (toks_more t e))

  -- a token stands here
  pub the-token : (kind_of (token_at m s at).is ≡ kinds.End → ⊥) → (t : Tok) × ((token_at m s at).is ≡ some t)
  the-token h = by (token_at m s at).is refl
    where
      by : (o : Option Tok) → (token_at m s at).is ≡ o → (t : Tok) × ((token_at m s at).is ≡ some t)
      by none e = absurd (h (ap kind_of e))
      by (some t) e = (t, e)

  cons_head : (t u : Tok) (l r : List Tok) → t ∷ l ≡ u ∷ r → (t ≡ u) × (l ≡ r)
  cons_head t u l r e = (cc, cc)

  pub token-is : (t : Tok) (l : List Tok) → toks_at m s at ≡ t ∷ l → ((token_at m s at).is ≡ some t) × (toks_at m s (token_at m s at).next ≡ l)
  token-is t l e = by (token_at m s at).is refl
    where
      by : (o : Option Tok) → (token_at m s at).is ≡ o → ((token_at m s at).is ≡ some t) × (toks_at m s (token_at m s at).next ≡ l)
      by none f = let g : [] ≡ t ∷ l = sym (toks-end f) ∙ e in let z : ◌≡◌ {A = ℕ} 0 1 = cc in absurd (omega arith)
      by (some u) f = let g = cons_head u t (toks_at m s (token_at m s at).next) l (sym (toks_more u f) ∙ e) in (f ∙ ap some g.0, g.1)

  pub next-over : (kind_of (token_at m s at).is ≡ kinds.End → ⊥) → Over m s at (token_at m s at).next
  next-over h =
      let w = the-token h in
      let a = forward m s at w.0 w.1 in
      record {
        low = omega (arith, a.behind, a.long);
        high = a.within;
        behind = λ t l e. (omega (arith, a.behind, a.long), (token-is t l e).1);
      }

  pub next-long : (kind_of (token_at m s at).is ≡ kinds.End → ⊥) → at < (token_at m s at).next
  next-long h = let w = the-token h in let a = forward m s at w.0 w.1 in omega (arith, a.behind, a.long)

  pub start-within : (kind_of (token_at m s at).is ≡ kinds.End → ⊥) → (token_at m s at).start < length s
  start-within h = let w = the-token h in let a = forward m s at w.0 w.1 in omega (arith, a.long, a.within)

  pub end-over : kind_of (token_at m s at).is ≡ kinds.End → at ≤ length s → Over m s at at
  end-over e h = record {
    low = omega arith;
    high = h;
    behind = λ t l f. absurd (kind-some t (sym (ap kind_l f) ∙ sym kind-is ∙ e));
  }

  pub no-toks : kind_of (token_at m s at).is ≡ kinds.End → toks_at m s at ≡ []
  no-toks e = by (token_at m s at).is refl
    where
      by : (o : Option Tok) → (token_at m s at).is ≡ o → toks_at m s at ≡ []
      by none f = toks-end f
      by (some t) f = absurd (kind-some t (sym (ap kind_of f) ∙ e))

-- ── kinds ──
pub is-symbol : (t : Tok) → symbolic (kind_of (some t)) ≡ true → (h : Symbol) × (t ≡ symbol h)
is-symbol (symbol h) e = (h, refl)
is-symbol (leaf any) e = absurd (false≢true e)
is-symbol (leaf (literal w)) e = absurd (false≢true e)
is-symbol (leaf (class w)) e = absurd (false≢true e)
is-symbol (pre amp) e = absurd (false≢true e)
is-symbol (pre bang) e = absurd (false≢true e)
is-symbol (suf query) e = absurd (false≢true e)
is-symbol (suf asterisk) e = absurd (false≢true e)
is-symbol (suf cross) e = absurd (false≢true e)
is-symbol arrow e = absurd (false≢true e)
is-symbol slash e = absurd (false≢true e)
is-symbol opens e = absurd (false≢true e)
is-symbol closes e = absurd (false≢true e)
is-symbol bad e = absurd (false≢true e)

pub symbol_low : (h : Symbol) → symbolic (kind_of (some (symbol h))) ≡ true
symbol_low (name w) = refl
symbol_low (lake w) = refl

-- whether it is that of a terminal
abbrev pub leafy : Kind → Bool
leafy kinds.Any = true
leafy kinds.Literal = true
leafy kinds.Class = true
leafy _ = false

pub leaf-mid : (x : Leaf) → leafy (kind_of (some (leaf x))) ≡ true
leaf-mid any = refl
leaf-mid (literal w) = refl
leaf-mid (class l) = refl

pub is_leaf : (t : Tok) → leafy (kind_of (some t)) ≡ true → (x : Leaf) × (t ≡ leaf x)
is_leaf (symbol (name w)) e = absurd (false≢true e)
is_leaf (symbol (lake w)) e = absurd (false≢true e)
is_leaf (leaf x) e = (x, refl)
is_leaf (pre amp) e = absurd (false≢true e)
is_leaf (pre bang) e = absurd (false≢true e)
is_leaf (suf query) e = absurd (false≢true e)
is_leaf (suf asterisk) e = absurd (false≢true e)
is_leaf (suf cross) e = absurd (false≢true e)
is_leaf arrow e = absurd (false≢true e)
is_leaf slash e = absurd (false≢true e)
is_leaf opens e = absurd (false≢true e)
is_leaf closes e = absurd (false≢true e)
is_leaf bad e = absurd (false≢true e)

-- a symbol's name lies within the text
pub symbol-room : (m : Mode) (s : List ℕ) (at : ℕ) → (kind_of (token_at m s at).is ≡ kinds.End → ⊥) → symbolic (kind_of (token_at m s at).is) ≡ true → (token_at m s at).start + size_of (token_at m s at).is ≤ length s
symbol-room m s at h k =
    let w = the-token m s at h in
    let v = is-symbol w.0 (subst (λ (o : Option Tok). symbolic (kind_of o) ≡ true) w.1 k) in
    let a = forward m s at w.0 w.1 in
    by v.0 (w.1 ∙ ap some v.1) a
  where
    by : (x : Symbol) → (token_at m s at).is ≡ some (symbol x) → Ahead at (length s) (token_at m s at) → (token_at m s at).start + size_of (token_at m s at).is ≤ length s
    by (name w) e a = omega (arith, a.within, (name-again m s at w e).1, ap size_of e)
    by (lake w) e a = omega (arith, a.within, (lake-again m s at w e).1, ap size_of e)

-- ── what begins here ──
arrow-first : (t : Tok) (l : List Tok) → arrow_is (some t) ≡ is_arrow (t ∷ l)
arrow-first (symbol h) l = refl
arrow-first (leaf x) l = refl
arrow-first (pre x) l = refl
arrow-first (suf x) l = refl
arrow-first arrow l = refl
arrow-first slash l = refl
arrow-first opens l = refl
arrow-first closes l = refl
arrow-first bad l = refl

pub arrow-there : (m : Mode) (s : List ℕ) (at : ℕ) → arrow_is (token_at m s at).is ≡ is_arrow (toks_at m s at)
arrow-there m s at = by (token_at m s at).is refl
  where
    by : (o : Option Tok) → (token_at m s at).is ≡ o → arrow_is (token_at m s at).is ≡ is_arrow (toks_at m s at)
    by none e = ap arrow_is e ∙ sym (ap is_arrow (toks-end m s at e))
    by (some t) e = ap arrow_is e ∙ arrow-first t (toks_at m s (token_at m s at).next) ∙ sym (ap is_arrow (toks_more m s at t e))

pub begins-kind : (l : List Tok) → symbolic (kind_l l) ≡ false → begins_part (kind_l l) ≡ begins l
begins-kind [] h = refl
begins-kind (symbol (name w) ∷ l) h = absurd (true≢false h)
begins-kind (symbol (lake w) ∷ l) h = absurd (true≢false h)
begins-kind (leaf any ∷ l) h = refl
begins-kind (leaf (literal w) ∷ l) h = refl
begins-kind (leaf (class w) ∷ l) h = refl
begins-kind (pre amp ∷ l) h = refl
begins-kind (pre bang ∷ l) h = refl
begins-kind (suf query ∷ l) h = refl
begins-kind (suf asterisk ∷ l) h = refl
begins-kind (suf cross ∷ l) h = refl
begins-kind (arrow ∷ l) h = refl
begins-kind (slash ∷ l) h = refl
begins-kind (opens ∷ l) h = refl
begins-kind (closes ∷ l) h = refl
begins-kind (bad ∷ l) h = refl

pub begins-symbol : (m : Mode) (s : List ℕ) (at to : ℕ) → Over m s at to → symbolic (kind_l (toks_at m s at)) ≡ true → not (is_arrow (toks_at m s to)) ≡ begins (toks_at m s at)
begins-symbol m s at to o k = by (toks_at m s at) refl
  where
    by : (l : List Tok) → toks_at m s at ≡ l → not (is_arrow (toks_at m s to)) ≡ begins (toks_at m s at)
    by [] e = absurd (false≢true (sym (ap (λ (x : List Tok). symbolic (kind_l x)) e) ∙ k))
    by (t ∷ l) e =
        let v = is-symbol t (subst (λ (x : List Tok). symbolic (kind_l x) ≡ true) e k) in
        ap (λ (x : List Tok). not (is_arrow x)) (o.behind t l e).1 ∙ sym (ap begins (e ∙ ap (λ (x : Tok). x ∷ l) v.1))

pub begins-some : (l : List Tok) → begins l ≡ true → l ≡ [] → ⊥
begins-some [] e f = let z : ◌≡◌ {A = ℕ} 0 1 = ap (λ (b : Bool). elim b [ true ↦ 1 | false ↦ 0 ]) e in omega arith
begins-some (t ∷ l) e f = let z : ◌≡◌ {A = ℕ} 0 1 = cc in omega arith
