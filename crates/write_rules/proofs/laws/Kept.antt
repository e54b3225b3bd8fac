-- What writing keeps: all tokens but the parentheses, of which there are no more, and no more open at once. So names and literals within
-- their bounds stay so, and parentheses too. Assumes nothing.
use Rattle.std.specs.Prelude.{ℕ, ◌≤◌, ◌<◌, ◌≡◌, refl, ◌⊎◌, List, [], ◌∷◌, ◌++◌}
use Rattle.std.proofs.Common.{sym as inverse, ap, ap₂, ◌∙◌, inl, inr, append-nil, append_assoc, arith}
use Rattle.read_tokens.specs.declared.Mode.{Mode}
use Rattle.read_tokens.specs.Token.{Symbol, amp, bang, query, asterisk, cross, Tok, symbol, leaf, pre, suf, arrow, slash, opens, closes, bad}
use Rattle.read_tokens.specs.Tokens.{toks}
use Rattle.read_tokens.specs.laws.Bytes.{Bytes}
use Rattle.grammar.specs.Syntax.{Choice, one, or, Sequence, first, next, Prefixed, bare, with, Suffixed, only, then, Primary, psym, term, group, Rules, rule, more, choice_toks, seq_toks, pref_toks, suf_toks, prim_toks, tokens}
use Rattle.grammar.specs.Exp.{Exp, sym, ter, seq, alt, opt, star, plus, ahead, never, Rule}
use Rattle.grammar.specs.Trees.{tree_c, tree_s, tree_p, tree_f, tree_q, ruled, trees}
use Rattle.read_syntax.specs.Grammar.{GrammarOf}
use Rattle.write_rules.specs.Writing.{text}
use Rattle.write_rules.proofs.laws.Pairs.{written, shed, tokens-shed, trees-shed}
use Rattle.write_rules.proofs.laws.Trip.{text-written}
use Rattle.write_rules.proofs.laws.Fine.{fine}
use Rattle.write_rules.proofs.laws.Needed.{pairs, least}
use Rattle.write_rules.proofs.laws.Depth.{peak, shallowest}

-- the tokens but the parentheses
abbrev pub bones : List Tok → List Tok
bones [] = []
bones (symbol h ∷ l) = symbol h ∷ bones l
bones (leaf x ∷ l) = leaf x ∷ bones l
bones (pre x ∷ l) = pre x ∷ bones l
bones (suf x ∷ l) = suf x ∷ bones l
bones (arrow ∷ l) = arrow ∷ bones l
bones (slash ∷ l) = slash ∷ bones l
bones (opens ∷ l) = bones l
bones (closes ∷ l) = bones l
bones (bad ∷ l) = bad ∷ bones l

bones-append : (l r : List Tok) → bones (l ++ r) ≡ bones l ++ bones r
bones-append [] r = refl
bones-append (symbol h ∷ l) r = ap (λ (x : List Tok). symbol h ∷ x) (bones-append l r)
bones-append (leaf y ∷ l) r = ap (λ (x : List Tok). leaf y ∷ x) (bones-append l r)
bones-append (pre y ∷ l) r = ap (λ (x : List Tok). pre y ∷ x) (bones-append l r)
bones-append (suf y ∷ l) r = ap (λ (x : List Tok). suf y ∷ x) (bones-append l r)
bones-append (arrow ∷ l) r = ap (λ (x : List Tok). arrow ∷ x) (bones-append l r)
bones-append (slash ∷ l) r = ap (λ (x : List Tok). slash ∷ x) (bones-append l r)
bones-append (opens ∷ l) r = bones-append l r
bones-append (closes ∷ l) r = bones-append l r
bones-append (bad ∷ l) r = ap (λ (x : List Tok). bad ∷ x) (bones-append l r)

-- those of an expression, and of rules
unfoldable pub yield : Exp Symbol → List Tok
yield (sym h) = symbol h ∷ []
yield (ter x) = leaf x ∷ []
yield (seq a b) = yield a ++ yield b
yield (alt a b) = yield a ++ (slash ∷ yield b)
yield (opt a) = yield a ++ (suf query ∷ [])
yield (star a) = yield a ++ (suf asterisk ∷ [])
yield (plus a) = yield a ++ (suf cross ∷ [])
yield (ahead a) = pre amp ∷ yield a
yield (never a) = pre bang ∷ yield a

unfoldable pub yields : List Rule → List Tok
yields [] = []
yields (r ∷ rs) = symbol r.left ∷ arrow ∷ (yield r.right ++ yields rs)

mutual
  unfolding choice_toks tree_c yield

  bones-c : (c : Choice) → bones (choice_toks c) ≡ yield (tree_c c)
  bones-c (one s) = bones-s s
  bones-c (or c s) = bones-append (choice_toks c) (slash ∷ seq_toks s) ∙ ap₂ (λ (x y : List Tok). x ++ (slash ∷ y)) (bones-c c) (bones-s s)

  bones-s : (s : Sequence) → bones (seq_toks s) ≡ yield (tree_s s)
  bones-s (first p) = bones-p p
  bones-s (next s p) = bones-append (seq_toks s) (pref_toks p) ∙ ap₂ (λ (x y : List Tok). x ++ y) (bones-s s) (bones-p p)

  bones-p : (p : Prefixed) → bones (pref_toks p) ≡ yield (tree_p p)
  bones-p (bare f) = bones-f f
  bones-p (with amp f) = ap (λ (y : List Tok). pre amp ∷ y) (bones-f f)
  bones-p (with bang f) = ap (λ (y : List Tok). pre bang ∷ y) (bones-f f)

  bones-f : (f : Suffixed) → bones (suf_toks f) ≡ yield (tree_f f)
  bones-f (only q) = bones-q q
  bones-f (then q query) = bones-append (prim_toks q) (suf query ∷ []) ∙ ap (λ (y : List Tok). y ++ (suf query ∷ [])) (bones-q q)
  bones-f (then q asterisk) = bones-append (prim_toks q) (suf asterisk ∷ []) ∙ ap (λ (y : List Tok). y ++ (suf asterisk ∷ [])) (bones-q q)
  bones-f (then q cross) = bones-append (prim_toks q) (suf cross ∷ []) ∙ ap (λ (y : List Tok). y ++ (suf cross ∷ [])) (bones-q q)

  bones-q : (q : Primary) → bones (prim_toks q) ≡ yield (tree_q q)
  bones-q (psym h) = refl
  bones-q (term x) = refl
  bones-q (group c) = bones-append (choice_toks c) (closes ∷ []) ∙ append-nil (bones (choice_toks c)) ∙ bones-c c

yields_append : (l r : List Rule) → yields (l ++ r) ≡ yields l ++ yields r
unfolding yields
yields_append [] r = refl
yields_append (x ∷ l) r =
    ap (λ (t : List Tok). symbol x.left ∷ arrow ∷ t) (ap (λ (t : List Tok). yield x.right ++ t) (yields_append l r) ∙ inverse (append_assoc (yield x.right) (yields l) (yields r)))

pub bones-r : (r : Rules) → bones (tokens r) ≡ yields (trees r)
unfolding tokens trees yields
bones-r (rule h c) = ap (λ (x : List Tok). symbol h ∷ arrow ∷ x) (bones-c c ∙ inverse (append-nil (yield (tree_c c))))
bones-r (more r h c) =
    bones-append (tokens r) (symbol h ∷ arrow ∷ choice_toks c)
    ∙ ap₂ (λ (x y : List Tok). x ++ (symbol h ∷ arrow ∷ y)) (bones-r r) (bones-c c ∙ inverse (append-nil (yield (tree_c c))))
    ∙ inverse (yields_append (trees r) (ruled h (tree_c c) ∷ []))

-- writing changes parentheses alone, and leaves no more of them and none deeper
module _ (m : Mode) (s : List ℕ) (g : List Rule) (b : Bytes s) (a : GrammarOf m s g) where
  written_as : toks m (text g) ≡ tokens (shed a.0)
  written_as = text-written m g (fine m s g b a) ∙ ap written (inverse a.2) ∙ inverse (tokens-shed a.0)

  pub kept : bones (toks m (text g)) ≡ bones (toks m s)
  kept = ap bones written_as ∙ bones-r (shed a.0) ∙ ap yields (trees-shed a.0) ∙ inverse (bones-r a.0) ∙ ap bones a.1

  pub fewest : pairs (toks m (text g)) ≤ pairs (toks m s)
  fewest = go (least a.0)
    where
      go : (a.0 ≡ shed a.0) ⊎ (pairs (tokens (shed a.0)) < pairs (tokens a.0)) → pairs (toks m (text g)) ≤ pairs (toks m s)
      go (inl f) = omega (arith, ap pairs written_as, ap (λ (x : Rules). pairs (tokens x)) f, ap pairs a.1)
      go (inr f) = omega (arith, ap pairs written_as, f, ap pairs a.1)

  pub no_deeper : peak 0 (toks m (text g)) ≤ peak 0 (toks m s)
  no_deeper = omega (arith, ap (λ (x : List Tok). peak 0 x) written_as, shallowest a.0, ap (λ (x : List Tok). peak 0 x) a.1)
