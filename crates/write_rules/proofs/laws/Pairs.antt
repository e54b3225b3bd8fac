-- The concrete syntax that is written: an expression at each of the five levels, in a group where it is looser than what may stand there
-- (01, Writing, "only needed parentheses"); of rules; and that it has the same trees. Assumes nothing.
use Rattle.std.specs.Prelude.{◌≡◌, refl, List, [], ◌∷◌, ◌++◌}
use Rattle.std.proofs.Common.{sym as inverse, ap, ap₂, ◌∙◌, append_assoc, append-nil}
use Rattle.read_tokens.specs.Token.{Symbol, amp, bang, query, asterisk, cross, Tok, symbol, arrow}
use Rattle.grammar.specs.Syntax.{Choice, one, or, Sequence, first, next, Prefixed, bare, with, Suffixed, only, then, Primary, psym, term, group, Rules, rule, more, choice_toks, tokens}
use Rattle.grammar.specs.Exp.{Exp, sym, ter, seq, alt, opt, star, plus, ahead, never, Rule}
use Rattle.grammar.specs.Trees.{tree_c, tree_s, tree_p, tree_f, tree_q, ruled, trees}

pub record Levels : Type 0 where
  pub c : Choice
  pub s : Sequence
  pub p : Prefixed
  pub f : Suffixed
  pub q : Primary

abbrev pub from_q : Primary → Levels
from_q q = record { c = one (first (bare (only q))); s = first (bare (only q)); p = bare (only q); f = only q; q = q }

abbrev pub from_f : Suffixed → Levels
from_f f = record { c = one (first (bare f)); s = first (bare f); p = bare f; f = f; q = group (one (first (bare f))) }

abbrev pub from_p : Prefixed → Levels
from_p p = record { c = one (first p); s = first p; p = p; f = only (group (one (first p))); q = group (one (first p)) }

abbrev pub from_s : Sequence → Levels
from_s s = record { c = one s; s = s; p = bare (only (group (one s))); f = only (group (one s)); q = group (one s) }

abbrev pub from_c : Choice → Levels
from_c c = record { c = c; s = first (bare (only (group c))); p = bare (only (group c)); f = only (group c); q = group c }

unfoldable pub conc : Exp Symbol → Levels
conc (sym h) = from_q (psym h)
conc (ter x) = from_q (term x)
conc (seq a b) = from_s (next (conc a).s (conc b).p)
conc (alt a b) = from_c (or (conc a).c (conc b).s)
conc (opt a) = from_f (then (conc a).q query)
conc (star a) = from_f (then (conc a).q asterisk)
conc (plus a) = from_f (then (conc a).q cross)
conc (ahead a) = from_p (with amp (conc a).f)
conc (never a) = from_p (with bang (conc a).f)

-- the tokens of rules so written
abbrev pub rule_toks : Rule → List Tok
rule_toks r = symbol r.left ∷ arrow ∷ choice_toks (conc r.right).c

unfoldable pub written : List Rule → List Tok
written [] = []
written (r ∷ rs) = rule_toks r ++ written rs

-- one rule or more as concrete syntax
unfoldable pub rules_on : Rules → List Rule → Rules
rules_on g [] = g
rules_on g (r ∷ rs) = rules_on (more g r.left (conc r.right).c) rs

unfoldable pub rules : Rule → List Rule → Rules
rules r rs = rules_on (rule r.left (conc r.right).c) rs

-- ── the same trees ──
record Same (e : Exp Symbol) : Type 0 where
  c : tree_c (conc e).c ≡ e
  s : tree_s (conc e).s ≡ e
  p : tree_p (conc e).p ≡ e
  f : tree_f (conc e).f ≡ e
  q : tree_q (conc e).q ≡ e

same : (e : Exp Symbol) → Same e
unfolding conc tree_c
same (sym h) = record { c = refl; s = refl; p = refl; f = refl; q = refl }
same (ter x) = record { c = refl; s = refl; p = refl; f = refl; q = refl }
same (seq a b) = let u = ap₂ seq (same a).s (same b).p in record { c = u; s = u; p = u; f = u; q = u }
same (alt a b) = let u = ap₂ alt (same a).c (same b).s in record { c = u; s = u; p = u; f = u; q = u }
same (opt a) = let u = ap opt (same a).q in record { c = u; s = u; p = u; f = u; q = u }
same (star a) = let u = ap star (same a).q in record { c = u; s = u; p = u; f = u; q = u }
same (plus a) = let u = ap plus (same a).q in record { c = u; s = u; p = u; f = u; q = u }
same (ahead a) = let u = ap ahead (same a).f in record { c = u; s = u; p = u; f = u; q = u }
same (never a) = let u = ap never (same a).f in record { c = u; s = u; p = u; f = u; q = u }

trees-on : (g : Rules) (rs : List Rule) → trees (rules_on g rs) ≡ trees g ++ rs
unfolding rules_on trees
trees-on g [] = inverse (append-nil (trees g))
trees-on g (r ∷ rs) =
    trees-on (more g r.left (conc r.right).c) rs
    ∙ append_assoc (trees g) (ruled r.left (tree_c (conc r.right).c) ∷ []) rs
    ∙ ap (λ (e : Exp Symbol). trees g ++ (ruled r.left e ∷ rs)) (same r.right).c

pub trees-rules : (r : Rule) (rs : List Rule) → trees (rules r rs) ≡ r ∷ rs
unfolding rules trees
trees-rules r rs = trees-on (rule r.left (conc r.right).c) rs ∙ ap (λ (e : Exp Symbol). ruled r.left e ∷ rs) (same r.right).c

tokens-on : (g : Rules) (rs : List Rule) → tokens (rules_on g rs) ≡ tokens g ++ written rs
unfolding rules_on tokens written
tokens-on g [] = inverse (append-nil (tokens g))
tokens-on g (r ∷ rs) = tokens-on (more g r.left (conc r.right).c) rs ∙ append_assoc (tokens g) (rule_toks r) (written rs)

pub tokens-rules : (r : Rule) (rs : List Rule) → tokens (rules r rs) ≡ written (r ∷ rs)
unfolding rules tokens written
tokens-rules r rs = tokens-on (rule r.left (conc r.right).c) rs

-- a concrete syntax without the pairs that are not needed
unfoldable pub shed : Rules → Rules
shed (rule h c) = rule h (conc (tree_c c)).c
shed (more r h c) = more (shed r) h (conc (tree_c c)).c

written-append : (l r : List Rule) → written (l ++ r) ≡ written l ++ written r
unfolding written
written-append [] r = refl
written-append (x ∷ l) r = ap (λ (t : List Tok). rule_toks x ++ t) (written-append l r) ∙ inverse (append_assoc (rule_toks x) (written l) (written r))

pub tokens-shed : (r : Rules) → tokens (shed r) ≡ written (trees r)
unfolding shed tokens trees written
tokens-shed (rule h c) = inverse (append-nil _)
tokens-shed (more r h c) =
    ap₂ (λ (a b : List Tok). a ++ b) (tokens-shed r) (inverse (append-nil (rule_toks (ruled h (tree_c c))))) ∙ inverse (written-append (trees r) (ruled h (tree_c c) ∷ []))

pub trees-shed : (r : Rules) → trees (shed r) ≡ trees r
unfolding shed trees
trees-shed (rule h c) = ap (λ (e : Exp Symbol). ruled h e ∷ []) (same (tree_c c)).c
trees-shed (more r h c) = ap₂ (λ (a : List Rule) (e : Exp Symbol). a ++ (ruled h e ∷ [])) (trees-shed r) (same (tree_c c)).c
