-- One turn of the walk for refusals 2 and 3, in terms of the token that code has. Assumes nothing.
use Rattle.std.specs.Prelude.{ℕ, ◌<◌, ◌≡◌, true, false, List, length}
use Rattle.std.proofs.Common.{sym, ap, ◌∙◌}
use Rattle.std.proofs.Math.Option.{none, some}
use Rattle.read_tokens.specs.declared.Mode.{Mode}
use Rattle.read_tokens.specs.declared.Kind.{Kind}
use Rattle.read_tokens.specs.declared.Kind.TheVariants.{End}
use Rattle.read_tokens.specs.declared.Token.{Token}
use Rattle.read_tokens.specs.Tokens.{token_at}
use Rattle.read_tokens.specs.steps.Code.{kind_of, size_of, coded}
use Rattle.read_tokens.specs.laws.Forward.{lexemes_at}
use Rattle.grammar.specs.Refusal.{refusal}
use Rattle.read_syntax.specs.Machine.{accepting}
use Rattle.read_syntax.specs.steps.Numbers.{class_of, kind_class, state_of, next_of, deep, moved, over_by, judged_at}
use Rattle.read_syntax.proofs.laws.Automaton.{class-is, class-small, dies, too_wide, goes_on, ends-well, ends-badly, shallow}
use Rattle.read_tokens.specs.laws.Here.{at-end, here}

module _ (m : Mode) (s : List ℕ) (at : ℕ) (t : Token) (e : t ≡ coded (token_at m s at)) where
  module _ (c d : ℕ) where
    pub end-well : t.kind ≡ End → accepting (state_of c d) ≡ true → none ≡ judged_at m (length s) (state_of c d) (lexemes_at m s at)
    end-well z a = ends-well m (length s) c d a ∙ ap (judged_at m (length s) (state_of c d)) (sym (at-end m s at t e z))

    pub end-badly : t.kind ≡ End → accepting (state_of c d) ≡ false → some (refusal 2 (length s)) ≡ judged_at m (length s) (state_of c d) (lexemes_at m s at)
    end-badly z a = ends-badly m (length s) c d a ∙ ap (judged_at m (length s) (state_of c d)) (sym (at-end m s at t e z))

    module _ (flat : c < 2 → d ≡ 0) (f : t.kind ≡ End → ⊥) (k x : ℕ) (ke : k ≡ kind_class t.kind) (xe : x ≡ next_of c (deep d) k) where
      class-of : k ≡ class_of (here m s at t e f).tok
      class-of = ke ∙ ap kind_class (sym (here m s at t e f).kind) ∙ class-is (here m s at t e f).tok

      pub class-below : k < 9
      class-below = rw class-of (class-small (here m s at t e f).tok)

      step_of : x ≡ next_of c (deep d) (class_of (here m s at t e f).tok)
      step_of = xe ∙ ap (next_of c (deep d)) class-of

      over-of : over_by m d (kind_of (some (here m s at t e f).tok)) (size_of (some (here m s at t e f).tok)) ≡ over_by m d t.kind t.size
      over-of = ap (λ (i : Kind). over_by m d i (size_of (some (here m s at t e f).tok))) (here m s at t e f).kind ∙ ap (over_by m d t.kind) (here m s at t e f).size

      pub dead : x ≡ 7 → some (refusal 2 t.start) ≡ judged_at m (length s) (state_of c d) (lexemes_at m s at)
      dead z = dies m (length s) c d flat (here m s at t e f).tok t.start (lexemes_at m s t.next) x step_of z ∙ ap (judged_at m (length s) (state_of c d)) (sym (here m s at t e f).more)

      pub over-wide : (x ≡ 7 → ⊥) → over_by m d t.kind t.size ≡ true → some (refusal 3 t.start) ≡ judged_at m (length s) (state_of c d) (lexemes_at m s at)
      over-wide n w =
          too_wide m (length s) c d flat (here m s at t e f).tok t.start (lexemes_at m s t.next) x step_of n (over-of ∙ w) ∙ ap (judged_at m (length s) (state_of c d)) (sym (here m s at t e f).more)

      pub walks-on : (d' : ℕ) → (x ≡ 7 → ⊥) → over_by m d t.kind t.size ≡ false → d' ≡ moved d k
          → judged_at m (length s) (state_of x d') (lexemes_at m s t.next) ≡ judged_at m (length s) (state_of c d) (lexemes_at m s at)
      walks-on d' n w g =
          ap (λ (i : ℕ). judged_at m (length s) (state_of x i) (lexemes_at m s t.next)) (g ∙ ap (moved d) class-of)
          ∙ goes_on m (length s) c d flat (here m s at t e f).tok t.start (lexemes_at m s t.next) x step_of n (over-of ∙ w)
          ∙ ap (judged_at m (length s) (state_of c d)) (sym (here m s at t e f).more)

      pub stays-flat : (d' : ℕ) → d' ≡ moved d k → x < 2 → d' ≡ 0
      stays-flat d' g l = g ∙ shallow c d k flat (rw (← xe) l)
