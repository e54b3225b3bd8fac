-- The automaton on numbers is the automaton, and the walk with byte places is refusals 2 and 3. Assumes nothing.
use Rattle.std.specs.Prelude.{ℕ, zero, suc, ◌+◌, ◌-◌, ◌≤◌, ◌<◌, ◌≡◌, refl, Bool, true, false, cond, List, [], ◌∷◌, ◌++◌, length, leb}
use Rattle.std.proofs.Math.Path.{sym, ap}
use Rattle.std.proofs.Common.{◌∙◌, append_assoc, add-one, sub-one, arith, length-append, leb-true, leb-false}
use Rattle.std.proofs.Math.Option.{Option, none, some}
use Rattle.read_tokens.specs.declared.Mode.{Mode}
use Rattle.read_tokens.specs.Token.{Tok, Lexeme, name, lake, any, literal, class, amp, bang, query, asterisk, cross, symbol, leaf, pre, suf, arrow, slash, opens, closes, bad}
use Rattle.read_tokens.specs.declared.Kind.{Kind}
use Rattle.read_tokens.specs.declared.Kind.TheVariants.{End, Name, Lake, Any, Literal, Class, Amp, Bang, Query, Asterisk, Cross, Arrow, Slash, Opens, Closes, Bad}
use Rattle.read_tokens.specs.steps.Code.{kind_of, size_of}
use Rattle.grammar.specs.Refusal.{refusal}
use Rattle.read_syntax.specs.Machine.{State, start, head, need, bound, prim, part, maybe, close, new_rule, after, step, accepting, over, open_in, fine, syntax, judge_by, judge, place_of}
use Rattle.read_syntax.specs.Reading.{offence}
use Rattle.read_syntax.specs.steps.Numbers.{tok_of, class_of, kind_class, state_of, code, next_of, deep, moved, decode, over_by, judged_by, judged_at}

pub law : (c d : ℕ) (t : Tok) → step (state_of c d) t ≡ decode (next_of c (deep d) (class_of t)) (moved d (class_of t))
unfolding step after close new_rule state_of tok_of class_of code next_of moved decode
law zero d (symbol h) = refl
law zero d (leaf x) = refl
law zero d (pre x) = refl
law zero d (suf x) = refl
law zero d arrow = refl
law zero d slash = refl
law zero d opens = refl
law zero d closes = refl
law zero d bad = refl
law (suc zero) d (symbol h) = refl
law (suc zero) d (leaf x) = refl
law (suc zero) d (pre x) = refl
law (suc zero) d (suf x) = refl
law (suc zero) d arrow = refl
law (suc zero) d slash = refl
law (suc zero) d opens = refl
law (suc zero) d closes = refl
law (suc zero) d bad = refl
law (suc (suc zero)) d (symbol h) = refl
law (suc (suc zero)) d (leaf x) = refl
law (suc (suc zero)) d (pre x) = refl
law (suc (suc zero)) d (suf x) = refl
law (suc (suc zero)) d arrow = refl
law (suc (suc zero)) d slash = refl
law (suc (suc zero)) d opens = refl
law (suc (suc zero)) d closes = refl
law (suc (suc zero)) d bad = refl
law (suc (suc (suc zero))) d (symbol h) = refl
law (suc (suc (suc zero))) d (leaf x) = refl
law (suc (suc (suc zero))) d (pre x) = refl
law (suc (suc (suc zero))) d (suf x) = refl
law (suc (suc (suc zero))) d arrow = refl
law (suc (suc (suc zero))) d slash = refl
law (suc (suc (suc zero))) d opens = refl
law (suc (suc (suc zero))) d closes = refl
law (suc (suc (suc zero))) d bad = refl
law (suc (suc (suc (suc zero)))) d (symbol h) = refl
law (suc (suc (suc (suc zero)))) d (leaf x) = refl
law (suc (suc (suc (suc zero)))) d (pre x) = refl
law (suc (suc (suc (suc zero)))) d (suf x) = refl
law (suc (suc (suc (suc zero)))) d arrow = refl
law (suc (suc (suc (suc zero)))) d slash = refl
law (suc (suc (suc (suc zero)))) d opens = refl
law (suc (suc (suc (suc zero)))) zero closes = refl
law (suc (suc (suc (suc zero)))) (suc d) closes = refl
law (suc (suc (suc (suc zero)))) d bad = refl
law (suc (suc (suc (suc (suc zero))))) d (symbol h) = refl
law (suc (suc (suc (suc (suc zero))))) d (leaf x) = refl
law (suc (suc (suc (suc (suc zero))))) d (pre x) = refl
law (suc (suc (suc (suc (suc zero))))) d (suf x) = refl
law (suc (suc (suc (suc (suc zero))))) d arrow = refl
law (suc (suc (suc (suc (suc zero))))) d slash = refl
law (suc (suc (suc (suc (suc zero))))) d opens = refl
law (suc (suc (suc (suc (suc zero))))) zero closes = refl
law (suc (suc (suc (suc (suc zero))))) (suc d) closes = refl
law (suc (suc (suc (suc (suc zero))))) d bad = refl
law (suc (suc (suc (suc (suc (suc n)))))) d (symbol h) = refl
law (suc (suc (suc (suc (suc (suc n)))))) d (leaf x) = refl
law (suc (suc (suc (suc (suc (suc n)))))) d (pre x) = refl
law (suc (suc (suc (suc (suc (suc n)))))) d (suf x) = refl
law (suc (suc (suc (suc (suc (suc n)))))) zero arrow = refl
law (suc (suc (suc (suc (suc (suc n)))))) (suc d) arrow = refl
law (suc (suc (suc (suc (suc (suc n)))))) d slash = refl
law (suc (suc (suc (suc (suc (suc n)))))) d opens = refl
law (suc (suc (suc (suc (suc (suc n)))))) zero closes = refl
law (suc (suc (suc (suc (suc (suc n)))))) (suc d) closes = refl
law (suc (suc (suc (suc (suc (suc n)))))) d bad = refl

decode-live : (n d : ℕ) → n < 7 → decode n d ≡ some (state_of n d)
unfolding decode state_of
decode-live zero d h = refl
decode-live (suc zero) d h = refl
decode-live (suc (suc zero)) d h = refl
decode-live (suc (suc (suc zero))) d h = refl
decode-live (suc (suc (suc (suc zero)))) d h = refl
decode-live (suc (suc (suc (suc (suc zero))))) d h = refl
decode-live (suc (suc (suc (suc (suc (suc zero)))))) d h = refl
decode-live (suc (suc (suc (suc (suc (suc (suc m))))))) d h = absurd (omega arith)

code-le : (o : Option State) → code o ≤ 7
unfolding code
code-le none = omega arith
code-le (some start) = omega arith
code-le (some head) = omega arith
code-le (some (need d)) = omega arith
code-le (some (bound d)) = omega arith
code-le (some (prim d)) = omega arith
code-le (some (part d)) = omega arith
code-le (some (maybe d)) = omega arith

pub next_le : (c z k : ℕ) → next_of c z k ≤ 7
unfolding next_of
next_le c z k = code-le (step (state_of c z) (tok_of k))

pub moved-arrow : (d k : ℕ) → k ≡ 4 → 0 ≡ moved d k
unfolding moved
moved-arrow d k e = ap (moved d) (sym e)

pub moved_open : (d k : ℕ) → k ≡ 6 → d + 1 ≡ moved d k
unfolding moved
moved_open d k e = add-one d ∙ ap (moved d) (sym e)

pub moved-close : (d k : ℕ) → k ≡ 7 → d - 1 ≡ moved d k
unfolding moved
moved-close zero k e = ap (moved 0) (sym e)
moved-close (suc d) k e = sub-one (suc d) ∙ ap (moved (suc d)) (sym e)

pub moved-else : (d k : ℕ) → (k ≡ 4 → ⊥) → (k ≡ 6 → ⊥) → (k ≡ 7 → ⊥) → d ≡ moved d k
unfolding moved
moved-else d zero a b c = refl
moved-else d (suc zero) a b c = refl
moved-else d (suc (suc zero)) a b c = refl
moved-else d (suc (suc (suc zero))) a b c = refl
moved-else d (suc (suc (suc (suc zero)))) a b c = absurd (a refl)
moved-else d (suc (suc (suc (suc (suc zero))))) a b c = refl
moved-else d (suc (suc (suc (suc (suc (suc zero)))))) a b c = absurd (b refl)
moved-else d (suc (suc (suc (suc (suc (suc (suc zero))))))) a b c = absurd (c refl)
moved-else d (suc (suc (suc (suc (suc (suc (suc (suc m)))))))) a b c = refl

pub moved-le : (d k : ℕ) → moved d k ≤ d + 1
unfolding moved
moved-le d zero = omega arith
moved-le d (suc zero) = omega arith
moved-le d (suc (suc zero)) = omega arith
moved-le d (suc (suc (suc zero))) = omega arith
moved-le d (suc (suc (suc (suc zero)))) = omega arith
moved-le d (suc (suc (suc (suc (suc zero))))) = omega arith
moved-le d (suc (suc (suc (suc (suc (suc zero)))))) = omega arith
moved-le zero (suc (suc (suc (suc (suc (suc (suc zero))))))) = omega arith
moved-le (suc d) (suc (suc (suc (suc (suc (suc (suc zero))))))) = omega arith
moved-le d (suc (suc (suc (suc (suc (suc (suc (suc m)))))))) = omega arith

pub last : (c d : ℕ) → 4 ≤ c → d ≡ 0 → accepting (state_of c d) ≡ true
unfolding accepting state_of
last zero zero h e = absurd (omega arith)
last zero (suc d) h e = absurd (omega arith)
last (suc zero) zero h e = absurd (omega arith)
last (suc zero) (suc d) h e = absurd (omega arith)
last (suc (suc zero)) zero h e = absurd (omega arith)
last (suc (suc zero)) (suc d) h e = absurd (omega arith)
last (suc (suc (suc zero))) zero h e = absurd (omega arith)
last (suc (suc (suc zero))) (suc d) h e = absurd (omega arith)
last (suc (suc (suc (suc zero)))) zero h e = refl
last (suc (suc (suc (suc zero)))) (suc d) h e = absurd (omega arith)
last (suc (suc (suc (suc (suc zero))))) zero h e = refl
last (suc (suc (suc (suc (suc zero))))) (suc d) h e = absurd (omega arith)
last (suc (suc (suc (suc (suc (suc m)))))) zero h e = refl
last (suc (suc (suc (suc (suc (suc m)))))) (suc d) h e = absurd (omega arith)

pub not_last : (c d : ℕ) → c < 4 → accepting (state_of c d) ≡ false
unfolding accepting state_of
not_last zero d h = refl
not_last (suc zero) d h = refl
not_last (suc (suc zero)) d h = refl
not_last (suc (suc (suc zero))) d h = refl
not_last (suc (suc (suc (suc zero)))) d h = absurd (omega arith)
not_last (suc (suc (suc (suc (suc zero))))) d h = absurd (omega arith)
not_last (suc (suc (suc (suc (suc (suc m)))))) d h = absurd (omega arith)

pub not-closed : (c d : ℕ) → (d ≡ 0 → ⊥) → accepting (state_of c d) ≡ false
unfolding accepting state_of
not-closed zero zero h = absurd (h refl)
not-closed zero (suc d) h = refl
not-closed (suc zero) zero h = absurd (h refl)
not-closed (suc zero) (suc d) h = refl
not-closed (suc (suc zero)) zero h = absurd (h refl)
not-closed (suc (suc zero)) (suc d) h = refl
not-closed (suc (suc (suc zero))) zero h = absurd (h refl)
not-closed (suc (suc (suc zero))) (suc d) h = refl
not-closed (suc (suc (suc (suc zero)))) zero h = absurd (h refl)
not-closed (suc (suc (suc (suc zero)))) (suc d) h = refl
not-closed (suc (suc (suc (suc (suc zero))))) zero h = absurd (h refl)
not-closed (suc (suc (suc (suc (suc zero))))) (suc d) h = refl
not-closed (suc (suc (suc (suc (suc (suc m)))))) zero h = absurd (h refl)
not-closed (suc (suc (suc (suc (suc (suc m)))))) (suc d) h = refl

pub closed-is : (c d : ℕ) → d ≡ 0 → leb 4 c ≡ accepting (state_of c d)
closed-is c d e = go (leb 4 c) refl
  where
    go : (b : Bool) → leb 4 c ≡ b → b ≡ accepting (state_of c d)
    go true f = sym (last c d (leb-true 4 c f) e)
    go false f = sym (not_last c d (leb-false 4 c f))

pub deep_one : (d : ℕ) → (d ≡ 0 → ⊥) → 1 ≡ deep d
deep_one zero h = absurd (h refl)
deep_one (suc d) h = refl

-- the open parentheses after a token that neither opens nor closes any
pub moved_rest : (d : ℕ) (k : Kind) → (k ≡ Arrow → ⊥) → (k ≡ Opens → ⊥) → (k ≡ Closes → ⊥) → d ≡ moved d (kind_class k)
unfolding moved
moved_rest d End f g h = refl
moved_rest d Name f g h = refl
moved_rest d Lake f g h = refl
moved_rest d Any f g h = refl
moved_rest d Literal f g h = refl
moved_rest d Class f g h = refl
moved_rest d Amp f g h = refl
moved_rest d Bang f g h = refl
moved_rest d Query f g h = refl
moved_rest d Asterisk f g h = refl
moved_rest d Cross f g h = refl
moved_rest d Arrow f g h = absurd (f refl)
moved_rest d Slash f g h = refl
moved_rest d Opens f g h = absurd (g refl)
moved_rest d Closes f g h = absurd (h refl)
moved_rest d Bad f g h = refl

-- the class of a token is that of its kind
pub class-is : (t : Tok) → kind_class (kind_of (some t)) ≡ class_of t
unfolding class_of
class-is (symbol (name w)) = refl
class-is (symbol (lake w)) = refl
class-is (leaf any) = refl
class-is (leaf (literal l)) = refl
class-is (leaf (class l)) = refl
class-is (pre amp) = refl
class-is (pre bang) = refl
class-is (suf query) = refl
class-is (suf asterisk) = refl
class-is (suf cross) = refl
class-is arrow = refl
class-is slash = refl
class-is opens = refl
class-is closes = refl
class-is bad = refl

pub class-small : (t : Tok) → class_of t < 9
unfolding class_of
class-small (symbol h) = omega arith
class-small (leaf x) = omega arith
class-small (pre x) = omega arith
class-small (suf x) = omega arith
class-small arrow = omega arith
class-small slash = omega arith
class-small opens = omega arith
class-small closes = omega arith
class-small bad = omega arith

-- a token is over its bound by its kind and size
pub over-is : (m : Mode) (d : ℕ) (t : Tok) → over m d t ≡ over_by m d (kind_of (some t)) (size_of (some t))
unfolding over
over-is m d (symbol (name w)) = refl
over-is m d (symbol (lake w)) = refl
over-is m d (leaf any) = refl
over-is m d (leaf (literal l)) = refl
over-is m d (leaf (class l)) = refl
over-is m d (pre amp) = refl
over-is m d (pre bang) = refl
over-is m d (suf query) = refl
over-is m d (suf asterisk) = refl
over-is m d (suf cross) = refl
over-is m d arrow = refl
over-is m d slash = refl
over-is m d opens = refl
over-is m d closes = refl
over-is m d bad = refl

pub open_is : (c d : ℕ) → (c < 2 → d ≡ 0) → open_in (state_of c d) ≡ d
unfolding state_of
open_is zero d h = sym (h (omega arith))
open_is (suc zero) d h = sym (h (omega arith))
open_is (suc (suc zero)) d h = refl
open_is (suc (suc (suc zero))) d h = refl
open_is (suc (suc (suc (suc zero)))) d h = refl
open_is (suc (suc (suc (suc (suc zero))))) d h = refl
open_is (suc (suc (suc (suc (suc (suc n)))))) d h = refl

-- a control below 2 comes only after nothing, by a symbol
shallow-next : (c z k : ℕ) → next_of c z k < 2 → (c ≡ 0) × (k ≡ 0)
unfolding step after close new_rule state_of tok_of code next_of
shallow-next zero z zero h = (refl, refl)
shallow-next zero z (suc zero) h = absurd (omega arith)
shallow-next zero z (suc (suc zero)) h = absurd (omega arith)
shallow-next zero z (suc (suc (suc zero))) h = absurd (omega arith)
shallow-next zero z (suc (suc (suc (suc zero)))) h = absurd (omega arith)
shallow-next zero z (suc (suc (suc (suc (suc zero))))) h = absurd (omega arith)
shallow-next zero z (suc (suc (suc (suc (suc (suc zero)))))) h = absurd (omega arith)
shallow-next zero z (suc (suc (suc (suc (suc (suc (suc zero))))))) h = absurd (omega arith)
shallow-next zero z (suc (suc (suc (suc (suc (suc (suc (suc m)))))))) h = absurd (omega arith)
shallow-next (suc zero) z zero h = absurd (omega arith)
shallow-next (suc zero) z (suc zero) h = absurd (omega arith)
shallow-next (suc zero) z (suc (suc zero)) h = absurd (omega arith)
shallow-next (suc zero) z (suc (suc (suc zero))) h = absurd (omega arith)
shallow-next (suc zero) z (suc (suc (suc (suc zero)))) h = absurd (omega arith)
shallow-next (suc zero) z (suc (suc (suc (suc (suc zero))))) h = absurd (omega arith)
shallow-next (suc zero) z (suc (suc (suc (suc (suc (suc zero)))))) h = absurd (omega arith)
shallow-next (suc zero) z (suc (suc (suc (suc (suc (suc (suc zero))))))) h = absurd (omega arith)
shallow-next (suc zero) z (suc (suc (suc (suc (suc (suc (suc (suc m)))))))) h = absurd (omega arith)
shallow-next (suc (suc zero)) z zero h = absurd (omega arith)
shallow-next (suc (suc zero)) z (suc zero) h = absurd (omega arith)
shallow-next (suc (suc zero)) z (suc (suc zero)) h = absurd (omega arith)
shallow-next (suc (suc zero)) z (suc (suc (suc zero))) h = absurd (omega arith)
shallow-next (suc (suc zero)) z (suc (suc (suc (suc zero)))) h = absurd (omega arith)
shallow-next (suc (suc zero)) z (suc (suc (suc (suc (suc zero))))) h = absurd (omega arith)
shallow-next (suc (suc zero)) z (suc (suc (suc (suc (suc (suc zero)))))) h = absurd (omega arith)
shallow-next (suc (suc zero)) z (suc (suc (suc (suc (suc (suc (suc zero))))))) h = absurd (omega arith)
shallow-next (suc (suc zero)) z (suc (suc (suc (suc (suc (suc (suc (suc m)))))))) h = absurd (omega arith)
shallow-next (suc (suc (suc zero))) z zero h = absurd (omega arith)
shallow-next (suc (suc (suc zero))) z (suc zero) h = absurd (omega arith)
shallow-next (suc (suc (suc zero))) z (suc (suc zero)) h = absurd (omega arith)
shallow-next (suc (suc (suc zero))) z (suc (suc (suc zero))) h = absurd (omega arith)
shallow-next (suc (suc (suc zero))) z (suc (suc (suc (suc zero)))) h = absurd (omega arith)
shallow-next (suc (suc (suc zero))) z (suc (suc (suc (suc (suc zero))))) h = absurd (omega arith)
shallow-next (suc (suc (suc zero))) z (suc (suc (suc (suc (suc (suc zero)))))) h = absurd (omega arith)
shallow-next (suc (suc (suc zero))) z (suc (suc (suc (suc (suc (suc (suc zero))))))) h = absurd (omega arith)
shallow-next (suc (suc (suc zero))) z (suc (suc (suc (suc (suc (suc (suc (suc m)))))))) h = absurd (omega arith)
shallow-next (suc (suc (suc (suc zero)))) z zero h = absurd (omega arith)
shallow-next (suc (suc (suc (suc zero)))) z (suc zero) h = absurd (omega arith)
shallow-next (suc (suc (suc (suc zero)))) z (suc (suc zero)) h = absurd (omega arith)
shallow-next (suc (suc (suc (suc zero)))) z (suc (suc (suc zero))) h = absurd (omega arith)
shallow-next (suc (suc (suc (suc zero)))) z (suc (suc (suc (suc zero)))) h = absurd (omega arith)
shallow-next (suc (suc (suc (suc zero)))) z (suc (suc (suc (suc (suc zero))))) h = absurd (omega arith)
shallow-next (suc (suc (suc (suc zero)))) z (suc (suc (suc (suc (suc (suc zero)))))) h = absurd (omega arith)
shallow-next (suc (suc (suc (suc zero)))) zero (suc (suc (suc (suc (suc (suc (suc zero))))))) h = absurd (omega arith)
shallow-next (suc (suc (suc (suc zero)))) (suc z) (suc (suc (suc (suc (suc (suc (suc zero))))))) h = absurd (omega arith)
shallow-next (suc (suc (suc (suc zero)))) z (suc (suc (suc (suc (suc (suc (suc (suc m)))))))) h = absurd (omega arith)
shallow-next (suc (suc (suc (suc (suc zero))))) z zero h = absurd (omega arith)
shallow-next (suc (suc (suc (suc (suc zero))))) z (suc zero) h = absurd (omega arith)
shallow-next (suc (suc (suc (suc (suc zero))))) z (suc (suc zero)) h = absurd (omega arith)
shallow-next (suc (suc (suc (suc (suc zero))))) z (suc (suc (suc zero))) h = absurd (omega arith)
shallow-next (suc (suc (suc (suc (suc zero))))) z (suc (suc (suc (suc zero)))) h = absurd (omega arith)
shallow-next (suc (suc (suc (suc (suc zero))))) z (suc (suc (suc (suc (suc zero))))) h = absurd (omega arith)
shallow-next (suc (suc (suc (suc (suc zero))))) z (suc (suc (suc (suc (suc (suc zero)))))) h = absurd (omega arith)
shallow-next (suc (suc (suc (suc (suc zero))))) zero (suc (suc (suc (suc (suc (suc (suc zero))))))) h = absurd (omega arith)
shallow-next (suc (suc (suc (suc (suc zero))))) (suc z) (suc (suc (suc (suc (suc (suc (suc zero))))))) h = absurd (omega arith)
shallow-next (suc (suc (suc (suc (suc zero))))) z (suc (suc (suc (suc (suc (suc (suc (suc m)))))))) h = absurd (omega arith)
shallow-next (suc (suc (suc (suc (suc (suc n)))))) z zero h = absurd (omega arith)
shallow-next (suc (suc (suc (suc (suc (suc n)))))) z (suc zero) h = absurd (omega arith)
shallow-next (suc (suc (suc (suc (suc (suc n)))))) z (suc (suc zero)) h = absurd (omega arith)
shallow-next (suc (suc (suc (suc (suc (suc n)))))) z (suc (suc (suc zero))) h = absurd (omega arith)
shallow-next (suc (suc (suc (suc (suc (suc n)))))) zero (suc (suc (suc (suc zero)))) h = absurd (omega arith)
shallow-next (suc (suc (suc (suc (suc (suc n)))))) (suc z) (suc (suc (suc (suc zero)))) h = absurd (omega arith)
shallow-next (suc (suc (suc (suc (suc (suc n)))))) z (suc (suc (suc (suc (suc zero))))) h = absurd (omega arith)
shallow-next (suc (suc (suc (suc (suc (suc n)))))) z (suc (suc (suc (suc (suc (suc zero)))))) h = absurd (omega arith)
shallow-next (suc (suc (suc (suc (suc (suc n)))))) zero (suc (suc (suc (suc (suc (suc (suc zero))))))) h = absurd (omega arith)
shallow-next (suc (suc (suc (suc (suc (suc n)))))) (suc z) (suc (suc (suc (suc (suc (suc (suc zero))))))) h = absurd (omega arith)
shallow-next (suc (suc (suc (suc (suc (suc n)))))) z (suc (suc (suc (suc (suc (suc (suc (suc m)))))))) h = absurd (omega arith)

pub shallow : (c d k : ℕ) → (c < 2 → d ≡ 0) → next_of c (deep d) k < 2 → moved d k ≡ 0
unfolding moved
shallow c d k h l = let e = shallow-next c (deep d) k l in ap (moved d) e.1 ∙ h (omega (arith, e.0))

-- ── the walk with byte places ──
place_here : (n : ℕ) (ys : List Lexeme) (x : Lexeme) (l : List Lexeme) → place_of n (ys ++ (x ∷ l)) (length ys) ≡ x.start
unfolding place_of
place_here n [] x l = refl
place_here n (y ∷ ys) x l = place_here n ys x l

place_end : (n : ℕ) (ys : List Lexeme) → place_of n (ys ++ []) (length ys) ≡ n
unfolding place_of
place_end n [] = refl
place_end n (y ∷ ys) = place_end n ys

same-walk : (m : Mode) (n : ℕ) (ys xs : List Lexeme) (s : State) → offence n (ys ++ xs) (judge m (length ys) s xs) ≡ judged_at m n s xs
unfolding judge judged_at
same-walk m n ys [] s = go (accepting s)
  where
    go : (b : Bool) → offence n (ys ++ []) (cond b fine (syntax (length ys))) ≡ cond b none (some (refusal 2 n))
    go true = refl
    go false = ap (λ (i : ℕ). some (refusal 2 i)) (place_end n ys)
same-walk m n ys (x ∷ l) s = go (step s x.is) (over m (open_in s) x.is) (λ s'. same-walk m n (ys ++ (x ∷ [])) l s')
  where
    moves : (s' : State) → offence n ((ys ++ (x ∷ [])) ++ l) (judge m (length (ys ++ (x ∷ []))) s' l) ≡ offence n (ys ++ (x ∷ l)) (judge m (suc (length ys)) s' l)
    moves s' =
        ap (λ (zs : List Lexeme). offence n zs (judge m (length (ys ++ (x ∷ []))) s' l)) (append_assoc ys (x ∷ []) l)
        ∙ ap (λ (k : ℕ). offence n (ys ++ (x ∷ l)) (judge m k s' l)) (length-append ys (x ∷ []) ∙ add-one (length ys))

    go : (o : Option State) (w : Bool) → ((s' : State) → offence n ((ys ++ (x ∷ [])) ++ l) (judge m (length (ys ++ (x ∷ []))) s' l) ≡ judged_at m n s' l)
        → offence n (ys ++ (x ∷ l)) (judge_by o w (length ys) (λ s'. judge m (suc (length ys)) s' l)) ≡ judged_by o w x.start (λ s'. judged_at m n s' l)
    go none w f = ap (λ (i : ℕ). some (refusal 2 i)) (place_here n ys x l)
    go (some s') true f = ap (λ (i : ℕ). some (refusal 3 i)) (place_here n ys x l)
    go (some s') false f = sym (moves s') ∙ f s'

-- refusals 2 and 3 are what the walk with byte places says
pub walk_is : (m : Mode) (n : ℕ) (xs : List Lexeme) → offence n xs (judge m 0 start xs) ≡ judged_at m n start xs
walk_is m n xs = same-walk m n [] xs start

-- ── a turn of the walk, as code has it ──
module _ (m : Mode) (n c d : ℕ) (flat : c < 2 → d ≡ 0) (t : Tok) (i : ℕ) (l : List Lexeme) (e : ℕ) (is : e ≡ next_of c (deep d) (class_of t)) where
  stepped : step (state_of c d) t ≡ decode e (moved d (class_of t))
  stepped = law c d t ∙ ap (λ (k : ℕ). decode k (moved d (class_of t))) (sym is)

  pub dies : e ≡ 7 → some (refusal 2 i) ≡ judged_at m n (state_of c d) (record { is = t; start = i } ∷ l)
  unfolding judged_at decode
  dies z = sym (ap (λ (o : Option State). judged_by o (over m (open_in (state_of c d)) t) i (λ s'. judged_at m n s' l)) (stepped ∙ ap (λ (k : ℕ). decode k (moved d (class_of t))) z))

  lives : (e ≡ 7 → ⊥) → step (state_of c d) t ≡ some (state_of e (moved d (class_of t)))
  lives f = stepped ∙ decode-live e (moved d (class_of t)) (omega (arith, next_le c (deep d) (class_of t), is, f))

  over-here : over m (open_in (state_of c d)) t ≡ over_by m d (kind_of (some t)) (size_of (some t))
  over-here = ap (λ (k : ℕ). over m k t) (open_is c d flat) ∙ over-is m d t

  pub too_wide : (e ≡ 7 → ⊥) → over_by m d (kind_of (some t)) (size_of (some t)) ≡ true → some (refusal 3 i) ≡ judged_at m n (state_of c d) (record { is = t; start = i } ∷ l)
  unfolding judged_at
  too_wide f w =
      sym (ap (λ (o : Option State). judged_by o (over m (open_in (state_of c d)) t) i (λ s'. judged_at m n s' l)) (lives f)
      ∙ ap (λ (b : Bool). judged_by (some (state_of e (moved d (class_of t)))) b i (λ s'. judged_at m n s' l)) (over-here ∙ w))

  pub goes_on : (e ≡ 7 → ⊥) → over_by m d (kind_of (some t)) (size_of (some t)) ≡ false → judged_at m n (state_of e (moved d (class_of t))) l ≡ judged_at m n (state_of c d) (record { is = t; start = i } ∷ l)
  unfolding judged_at
  goes_on f w =
      sym (ap (λ (o : Option State). judged_by o (over m (open_in (state_of c d)) t) i (λ s'. judged_at m n s' l)) (lives f)
      ∙ ap (λ (b : Bool). judged_by (some (state_of e (moved d (class_of t)))) b i (λ s'. judged_at m n s' l)) (over-here ∙ w))

pub ends-well : (m : Mode) (n c d : ℕ) → accepting (state_of c d) ≡ true → none ≡ judged_at m n (state_of c d) []
unfolding judged_at
ends-well m n c d e = sym (ap (λ (b : Bool). cond b none (some (refusal 2 n))) e)

pub ends-badly : (m : Mode) (n c d : ℕ) → accepting (state_of c d) ≡ false → some (refusal 2 n) ≡ judged_at m n (state_of c d) []
unfolding judged_at
ends-badly m n c d e = sym (ap (λ (b : Bool). cond b none (some (refusal 2 n))) e)
