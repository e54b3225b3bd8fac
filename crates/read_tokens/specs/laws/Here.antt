-- What the token that code has says of the token list: that it is at its end, or how it goes on. Assumes nothing.
use Rattle.std.specs.Prelude.{ℕ, ◌≤◌, ◌<◌, ◌≡◌, refl, List, [], ◌∷◌, length}
use Rattle.std.proofs.Common.{sym, ap, ◌∙◌, arith}
use Rattle.std.proofs.Math.Option.{Option, none, some}
use Rattle.read_tokens.specs.declared.Mode.{Mode}
use Rattle.read_tokens.specs.declared.Kind.TheVariants.{End}
use Rattle.read_tokens.specs.declared.Token.{Token}
use Rattle.read_tokens.specs.Token.{Tok, name, lake, any, literal, class, amp, bang, query, asterisk, cross, symbol, leaf, pre, suf, arrow, slash, opens, closes, bad}
use Rattle.read_tokens.specs.Tokens.{token_at, lexeme}
use Rattle.read_tokens.specs.steps.Code.{kind_of, kind_number, size_of, coded}
use Rattle.read_tokens.specs.laws.Forward.{lexemes_at, lex-end, lex-more, forward}

-- only the text's end is of that kind
abbrev Ends : Option Tok → Type 0
Ends none = Unit {0}
Ends (some t) = kind_of (some t) ≡ End → ⊥

ends : (o : Option Tok) → Ends o
ends none = tt
ends (some (symbol (name w))) = λ e. omega (arith, ap kind_number e)
ends (some (symbol (lake w))) = λ e. omega (arith, ap kind_number e)
ends (some (leaf any)) = λ e. omega (arith, ap kind_number e)
ends (some (leaf (literal l))) = λ e. omega (arith, ap kind_number e)
ends (some (leaf (class l))) = λ e. omega (arith, ap kind_number e)
ends (some (pre amp)) = λ e. omega (arith, ap kind_number e)
ends (some (pre bang)) = λ e. omega (arith, ap kind_number e)
ends (some (suf query)) = λ e. omega (arith, ap kind_number e)
ends (some (suf asterisk)) = λ e. omega (arith, ap kind_number e)
ends (some (suf cross)) = λ e. omega (arith, ap kind_number e)
ends (some arrow) = λ e. omega (arith, ap kind_number e)
ends (some slash) = λ e. omega (arith, ap kind_number e)
ends (some opens) = λ e. omega (arith, ap kind_number e)
ends (some closes) = λ e. omega (arith, ap kind_number e)
ends (some bad) = λ e. omega (arith, ap kind_number e)

pub is-end : (o : Option Tok) → kind_of o ≡ End → o ≡ none
is-end none e = refl
is-end (some t) e = absurd (ends (some t) e)

pub is-token : (o : Option Tok) → (kind_of o ≡ End → ⊥) → (t : Tok) × (o ≡ some t)
is-token none f = absurd (f refl)
is-token (some t) f = (t, refl)

module _ (m : Mode) (s : List ℕ) (at : ℕ) (t : Token) (e : t ≡ coded (token_at m s at)) where
  pub kind-of : t.kind ≡ kind_of (token_at m s at).is
  kind-of = ap (λ (x : Token). x.kind) e

  pub start_of : t.start ≡ (token_at m s at).start
  start_of = ap (λ (x : Token). x.start) e

  pub next_of : t.next ≡ (token_at m s at).next
  next_of = ap (λ (x : Token). x.next) e

  pub at-end : t.kind ≡ End → lexemes_at m s at ≡ []
  at-end z = lex-end m s at (is-end (token_at m s at).is (sym kind-of ∙ z))

  -- what a token that is there says
  pub record Here : Type 0 where
    pub tok : Tok
    pub kind : kind_of (some tok) ≡ t.kind
    pub size : size_of (some tok) ≡ t.size
    pub more : lexemes_at m s at ≡ lexeme tok t.start ∷ lexemes_at m s t.next
    pub forth : at < t.next
    pub within : t.next ≤ length s
    pub before-end : t.start < length s

  pub here : (t.kind ≡ End → ⊥) → Here
  here f =
      let x : (u : Tok) × ((token_at m s at).is ≡ some u) = is-token (token_at m s at).is (λ z. f (kind-of ∙ z)) in
      let a = forward m s at x.0 x.1 in
      record {
        tok = x.0;
        kind = sym (kind-of ∙ ap kind_of x.1);
        size = sym (ap (λ (y : Token). y.size) e ∙ ap size_of x.1);
        more = lex-more m s at x.0 x.1 ∙ ap (λ (i : ℕ). lexeme x.0 i ∷ lexemes_at m s (token_at m s at).next) (sym start_of)
            ∙ ap (λ (i : ℕ). lexeme x.0 t.start ∷ lexemes_at m s i) (sym next_of);
        forth = omega (arith, a.behind, a.long, next_of);
        within = omega (arith, a.within, next_of);
        before-end = omega (arith, a.long, a.within, start_of);
      }
