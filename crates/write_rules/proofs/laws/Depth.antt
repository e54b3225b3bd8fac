-- How many parentheses are open at once: where needed pairs only are written, no more than in any text of the same trees. Assumes nothing.
use Rattle.std.specs.Prelude.{ℕ, suc, ◌+◌, ◌≤◌, max, ◌≡◌, List, [], ◌∷◌, ◌++◌}
use Rattle.std.proofs.Common.{sym as inverse, ap, ◌∙◌, append_assoc, append-nil, arith}
use Rattle.read_tokens.specs.Token.{Symbol, amp, bang, query, asterisk, cross, Tok, symbol, leaf, pre, suf, arrow, slash, opens, closes, bad}
use Rattle.grammar.specs.Syntax.{Choice, one, or, Sequence, first, next, Prefixed, bare, with, Suffixed, only, then, Primary, psym, term, group, Rules, rule, more, choice_toks, seq_toks, pref_toks, suf_toks, prim_toks, tokens}
use Rattle.grammar.specs.Exp.{Exp, sym, ter, seq, alt, opt, star, plus, ahead, never}
use Rattle.grammar.specs.Trees.{tree_c, tree_s, tree_p, tree_f, tree_q}
use Rattle.read_syntax.proofs.laws.Bounds.{fewer}
use Rattle.write_rules.proofs.laws.Pairs.{Levels, conc, shed}

-- the most parentheses that are open at once, from d on
abbrev pub peak : ℕ → List Tok → ℕ
peak d [] = d
peak d (symbol h ∷ l) = peak d l
peak d (leaf x ∷ l) = peak d l
peak d (pre x ∷ l) = peak d l
peak d (suf x ∷ l) = peak d l
peak d (arrow ∷ l) = peak d l
peak d (slash ∷ l) = peak d l
peak d (opens ∷ l) = peak (suc d) l
peak d (closes ∷ l) = max d (peak (fewer d) l)
peak d (bad ∷ l) = peak d l

pub peak-from : (d : ℕ) (l : List Tok) → d ≤ peak d l
peak-from d [] = omega arith
peak-from d (symbol h ∷ l) = peak-from d l
peak-from d (leaf x ∷ l) = peak-from d l
peak-from d (pre x ∷ l) = peak-from d l
peak-from d (suf x ∷ l) = peak-from d l
peak-from d (arrow ∷ l) = peak-from d l
peak-from d (slash ∷ l) = peak-from d l
peak-from d (opens ∷ l) = omega (arith, peak-from (suc d) l)
peak-from d (closes ∷ l) = omega arith
peak-from d (bad ∷ l) = peak-from d l

abbrev mutual
  pub deep_c : Choice → ℕ
  deep_c (one s) = deep_s s
  deep_c (or c s) = max (deep_c c) (deep_s s)

  pub deep_s : Sequence → ℕ
  deep_s (first p) = deep_p p
  deep_s (next s p) = max (deep_s s) (deep_p p)

  pub deep_p : Prefixed → ℕ
  deep_p (bare f) = deep_f f
  deep_p (with x f) = deep_f f

  pub deep_f : Suffixed → ℕ
  deep_f (only q) = deep_q q
  deep_f (then q x) = deep_q q

  pub deep_q : Primary → ℕ
  deep_q (psym h) = 0
  deep_q (term x) = 0
  deep_q (group c) = suc (deep_c c)

mutual
  unfolding choice_toks

  pub peak-c : (c : Choice) (d : ℕ) (l : List Tok) → peak d (choice_toks c ++ l) ≡ max (d + deep_c c) (peak d l)
  peak-c (one s) d l = peak-s s d l
  peak-c (or c s) d l = rw (append_assoc (choice_toks c) (slash ∷ seq_toks s) l) (omega (arith, peak-c c d (slash ∷ (seq_toks s ++ l)), peak-s s d l))

  peak-s : (s : Sequence) (d : ℕ) (l : List Tok) → peak d (seq_toks s ++ l) ≡ max (d + deep_s s) (peak d l)
  peak-s (first p) d l = peak-p p d l
  peak-s (next s p) d l = rw (append_assoc (seq_toks s) (pref_toks p) l) (omega (arith, peak-s s d (pref_toks p ++ l), peak-p p d l))

  peak-p : (p : Prefixed) (d : ℕ) (l : List Tok) → peak d (pref_toks p ++ l) ≡ max (d + deep_p p) (peak d l)
  peak-p (bare f) d l = peak-f f d l
  peak-p (with x f) d l = peak-f f d l

  peak-f : (f : Suffixed) (d : ℕ) (l : List Tok) → peak d (suf_toks f ++ l) ≡ max (d + deep_f f) (peak d l)
  peak-f (only q) d l = peak-q q d l
  peak-f (then q x) d l = rw (append_assoc (prim_toks q) (suf x ∷ []) l) (peak-q q d (suf x ∷ l))

  peak-q : (q : Primary) (d : ℕ) (l : List Tok) → peak d (prim_toks q ++ l) ≡ max (d + deep_q q) (peak d l)
  peak-q (psym h) d l = omega (arith, peak-from d l)
  peak-q (term x) d l = omega (arith, peak-from d l)
  peak-q (group c) d l = rw (append_assoc (choice_toks c) (closes ∷ []) l) (omega (arith, peak-c c (suc d) (closes ∷ l), peak-from d l))

pub record Shallow (v : Levels) : Type 0 where
  pub cs : deep_c v.c ≤ deep_s v.s
  pub sp : deep_s v.s ≤ deep_p v.p
  pub pf : deep_p v.p ≤ deep_f v.f
  pub fq : deep_f v.f ≤ deep_q v.q
  pub qc : deep_q v.q ≤ suc (deep_c v.c)

pub shallow : (e : Exp Symbol) → Shallow (conc e)
unfolding conc
shallow (sym h) = omega arith
shallow (ter x) = omega arith
shallow (seq a b) = omega arith
shallow (alt a b) = omega arith
shallow (opt a) = omega arith
shallow (star a) = omega arith
shallow (plus a) = omega arith
shallow (ahead a) = omega arith
shallow (never a) = omega arith

mutual
  unfolding conc tree_c

  low-c : (c : Choice) → deep_c (conc (tree_c c)).c ≤ deep_c c
  low-c (one s) = omega (arith, low-s s, (shallow (tree_s s)).cs)
  low-c (or c s) = omega (arith, low-c c, low-s s)

  low-s : (s : Sequence) → deep_s (conc (tree_s s)).s ≤ deep_s s
  low-s (first p) = omega (arith, low-p p, (shallow (tree_p p)).sp)
  low-s (next s p) = omega (arith, low-s s, low-p p)

  low-p : (p : Prefixed) → deep_p (conc (tree_p p)).p ≤ deep_p p
  low-p (bare f) = omega (arith, low-f f, (shallow (tree_f f)).pf)
  low-p (with amp f) = low-f f
  low-p (with bang f) = low-f f

  low-f : (f : Suffixed) → deep_f (conc (tree_f f)).f ≤ deep_f f
  low-f (only q) = omega (arith, low-q q, (shallow (tree_q q)).fq)
  low-f (then q query) = low-q q
  low-f (then q asterisk) = low-q q
  low-f (then q cross) = low-q q

  low-q : (q : Primary) → deep_q (conc (tree_q q)).q ≤ deep_q q
  low-q (psym h) = omega arith
  low-q (term x) = omega arith
  low-q (group c) = omega (arith, low-c c, (shallow (tree_c c)).qc)

abbrev pub deep_r : Rules → ℕ
deep_r (rule h c) = deep_c c
deep_r (more r h c) = max (deep_r r) (deep_c c)

peak-r : (r : Rules) (l : List Tok) → peak 0 (tokens r ++ l) ≡ max (deep_r r) (peak 0 l)
unfolding tokens
peak-r (rule h c) l = peak-c c 0 l ∙ omega arith
peak-r (more r h c) l = rw (append_assoc (tokens r) (symbol h ∷ arrow ∷ choice_toks c) l) (omega (arith, peak-r r (symbol h ∷ arrow ∷ (choice_toks c ++ l)), peak-c c 0 l))

low-r : (r : Rules) → deep_r (shed r) ≤ deep_r r
unfolding shed
low-r (rule h c) = low-c c
low-r (more r h c) = omega (arith, low-r r, low-c c)

peak-deep : (r : Rules) → peak 0 (tokens r) ≡ deep_r r
peak-deep r = ap (λ (l : List Tok). peak 0 l) (inverse (append-nil (tokens r))) ∙ peak-r r [] ∙ omega arith

-- no text of the same trees has fewer parentheses open at once
pub shallowest : (r : Rules) → peak 0 (tokens (shed r)) ≤ peak 0 (tokens r)
shallowest r = omega (arith, low-r r, peak-deep r, peak-deep (shed r))
