-- Every pair that is written is needed: of all concrete syntaxes with the same tree the written one has the fewest pairs, and it alone (01, Writing, "only needed parentheses"). Assumes nothing.
use Rattle.std.specs.Prelude.{ℕ, suc, ◌+◌, ◌<◌, ◌≡◌, refl, ◌⊎◌, List, [], ◌∷◌, ◌++◌}
use Rattle.std.proofs.Common.{sym as inverse, ap, ap₂, ◌∙◌, subst, inl, inr, arith}
use Rattle.read_tokens.specs.Token.{Symbol, Prefix, amp, bang, Suffix, query, asterisk, cross, Tok, symbol, leaf, pre, suf, arrow, slash, opens, closes, bad}
use Rattle.grammar.specs.Syntax.{Choice, one, or, Sequence, first, next, Prefixed, bare, with, Suffixed, only, then, Primary, psym, term, group, Rules, rule, more, choice_toks, seq_toks, pref_toks, suf_toks, prim_toks, tokens}
use Rattle.grammar.specs.Exp.{Exp, sym, ter, seq, alt, opt, star, plus, ahead, never, Rule}
use Rattle.grammar.specs.Trees.{tree_c, tree_s, tree_p, tree_f, tree_q, trees}
use Rattle.write_rules.proofs.laws.Pairs.{Levels, from_q, from_f, from_p, from_s, from_c, conc, written, shed, tokens-shed}

-- the open parentheses among tokens
abbrev pub pairs : List Tok → ℕ
pairs [] = 0
pairs (symbol h ∷ l) = pairs l
pairs (leaf x ∷ l) = pairs l
pairs (pre x ∷ l) = pairs l
pairs (suf x ∷ l) = pairs l
pairs (arrow ∷ l) = pairs l
pairs (slash ∷ l) = pairs l
pairs (opens ∷ l) = suc (pairs l)
pairs (closes ∷ l) = pairs l
pairs (bad ∷ l) = pairs l

pub pairs-append : (l r : List Tok) → pairs (l ++ r) ≡ pairs l + pairs r
pairs-append [] r = omega arith
pairs-append (symbol h ∷ l) r = pairs-append l r
pairs-append (leaf x ∷ l) r = pairs-append l r
pairs-append (pre x ∷ l) r = pairs-append l r
pairs-append (suf x ∷ l) r = pairs-append l r
pairs-append (arrow ∷ l) r = pairs-append l r
pairs-append (slash ∷ l) r = pairs-append l r
pairs-append (opens ∷ l) r = omega (arith, pairs-append l r)
pairs-append (closes ∷ l) r = pairs-append l r
pairs-append (bad ∷ l) r = pairs-append l r

abbrev n_c : Choice → ℕ
n_c c = pairs (choice_toks c)

abbrev n_s : Sequence → ℕ
n_s s = pairs (seq_toks s)

abbrev n_p : Prefixed → ℕ
n_p p = pairs (pref_toks p)

abbrev n_f : Suffixed → ℕ
n_f f = pairs (suf_toks f)

abbrev n_q : Primary → ℕ
n_q q = pairs (prim_toks q)

group-pairs : (c : Choice) → n_q (group c) ≡ suc (n_c c)
unfolding choice_toks
group-pairs c = omega (arith, pairs-append (choice_toks c) (closes ∷ []))

or-pairs : (c : Choice) (s : Sequence) → n_c (or c s) ≡ n_c c + n_s s
unfolding choice_toks
or-pairs c s = pairs-append (choice_toks c) (slash ∷ seq_toks s)

next-pairs : (s : Sequence) (p : Prefixed) → n_s (next s p) ≡ n_s s + n_p p
unfolding choice_toks
next-pairs s p = pairs-append (seq_toks s) (pref_toks p)

then-pairs : (q : Primary) (x : Suffix) → n_f (then q x) ≡ n_q q
unfolding choice_toks
then-pairs q x = pairs-append (prim_toks q) (suf x ∷ []) ∙ omega arith

one-0 : (s : Sequence) → n_c (one s) ≡ 0 + n_s s
unfolding choice_toks
one-0 s = omega arith

first-0 : (p : Prefixed) → n_s (first p) ≡ 0 + n_p p
unfolding choice_toks
first-0 p = omega arith

bare-0 : (f : Suffixed) → n_p (bare f) ≡ 0 + n_f f
unfolding choice_toks
bare-0 f = omega arith

with-0 : (x : Prefix) (f : Suffixed) → n_p (with x f) ≡ 0 + n_f f
unfolding choice_toks
with-0 x f = omega arith

only-0 : (q : Primary) → n_f (only q) ≡ 0 + n_q q
unfolding choice_toks
only-0 q = omega arith

then-0 : (x : Suffix) (q : Primary) → n_f (then q x) ≡ 0 + n_q q
then-0 x q = omega (arith, then-pairs q x)

group-1 : (c : Choice) → n_q (group c) ≡ 1 + n_c c
group-1 c = omega (arith, group-pairs c)

-- the same, or fewer
abbrev Least : {A : Type 0} → (A → ℕ) → A → A → Type 0
Least n best a = (a ≡ best) ⊎ (n best < n a)

through : {A B : Type 0} (n : A → ℕ) (k : B → ℕ) (make : A → B) (d : ℕ) → ((a : A) → k (make a) ≡ d + n a) → (x y : A) (z : B) → Least k z (make x) → Least n x y → Least k z (make y)
through {A} {B} n k make d h x y z (inl e) (inl f) = inl (ap make f ∙ e)
through {A} {B} n k make d h x y z (inr e) (inl f) = inr (subst (λ (a : A). k z < k (make a)) (inverse f) e)
through {A} {B} n k make d h x y z (inl e) (inr f) = inr (subst (λ (b : B). k b < k (make y)) e (omega (arith, h x, h y)))
through {A} {B} n k make d h x y z (inr e) (inr f) = inr (omega (arith, h x, h y))

-- from each level to the next
record Steps (v : Levels) : Type 0 where
  cs : Least n_c v.c (one v.s)
  sp : Least n_s v.s (first v.p)
  pf : Least n_p v.p (bare v.f)
  fq : Least n_f v.f (only v.q)
  qc : Least n_q v.q (group v.c)

steps-q : (q : Primary) → Steps (from_q q)
unfolding choice_toks
steps-q q = record { cs = inl refl; sp = inl refl; pf = inl refl; fq = inl refl; qc = inr (omega (arith, group-pairs (from_q q).c)) }

steps-f : (f : Suffixed) → Steps (from_f f)
unfolding choice_toks
steps-f f = record { cs = inl refl; sp = inl refl; pf = inl refl; fq = inr (omega (arith, group-pairs (from_f f).c)); qc = inl refl }

steps-p : (p : Prefixed) → Steps (from_p p)
unfolding choice_toks
steps-p p = record { cs = inl refl; sp = inl refl; pf = inr (omega (arith, group-pairs (from_p p).c)); fq = inl refl; qc = inl refl }

steps-s : (s : Sequence) → Steps (from_s s)
unfolding choice_toks
steps-s s = record { cs = inl refl; sp = inr (omega (arith, group-pairs (from_s s).c)); pf = inl refl; fq = inl refl; qc = inl refl }

steps-c : (c : Choice) → Steps (from_c c)
unfolding choice_toks
steps-c c = record { cs = inr (omega (arith, group-pairs c)); sp = inl refl; pf = inl refl; fq = inl refl; qc = inl refl }

steps : (e : Exp Symbol) → Steps (conc e)
unfolding conc
steps (sym h) = steps-q (psym h)
steps (ter x) = steps-q (term x)
steps (seq a b) = steps-s (next (conc a).s (conc b).p)
steps (alt a b) = steps-c (or (conc a).c (conc b).s)
steps (opt a) = steps-f (then (conc a).q query)
steps (star a) = steps-f (then (conc a).q asterisk)
steps (plus a) = steps-f (then (conc a).q cross)
steps (ahead a) = steps-p (with amp (conc a).f)
steps (never a) = steps-p (with bang (conc a).f)

two : {A B C : Type 0} (n : A → ℕ) (k : B → ℕ) (t : C → ℕ) (make : A → B → C) → ((a : A) (b : B) → t (make a b) ≡ n a + k b) → (x y : A) (u v : B) → Least n x y → Least k u v → Least t (make x u) (make y v)
two n k t make h x y u v (inl e) (inl f) = inl (ap₂ make e f)
two {A} {B} n k t make h x y u v (inl e) (inr f) = inr (subst (λ (a : A). t (make x u) < t (make a v)) (inverse e) (omega (arith, h x u, h x v)))
two {A} {B} n k t make h x y u v (inr e) (inl f) = inr (subst (λ (b : B). t (make x u) < t (make y b)) (inverse f) (omega (arith, h x u, h y u)))
two n k t make h x y u v (inr e) (inr f) = inr (omega (arith, h x u, h y v))

least-with : (x : Prefix) (f best : Suffixed) → Least n_f best f → Least n_p (with x best) (with x f)
least-with x f best h = through n_f n_p (with x) 0 (with-0 x) best f (with x best) (inl refl) h

least-then : (x : Suffix) (q best : Primary) → Least n_q best q → Least n_f (then best x) (then q x)
least-then x q best h = through n_q n_f (λ a. then a x) 0 (then-0 x) best q (then best x) (inl refl) h

mutual
  unfolding conc tree_c

  pub least-c : (c : Choice) → Least n_c (conc (tree_c c)).c c
  least-c (one s) = through n_s n_c one 0 one-0 (conc (tree_s s)).s s (conc (tree_s s)).c (steps (tree_s s)).cs (least-s s)
  least-c (or c s) = two n_c n_s n_c or or-pairs (conc (tree_c c)).c c (conc (tree_s s)).s s (least-c c) (least-s s)

  least-s : (s : Sequence) → Least n_s (conc (tree_s s)).s s
  least-s (first p) = through n_p n_s first 0 first-0 (conc (tree_p p)).p p (conc (tree_p p)).s (steps (tree_p p)).sp (least-p p)
  least-s (next s p) = two n_s n_p n_s next next-pairs (conc (tree_s s)).s s (conc (tree_p p)).p p (least-s s) (least-p p)

  least-p : (p : Prefixed) → Least n_p (conc (tree_p p)).p p
  least-p (bare f) = through n_f n_p bare 0 bare-0 (conc (tree_f f)).f f (conc (tree_f f)).p (steps (tree_f f)).pf (least-f f)
  least-p (with amp f) = least-with amp f (conc (tree_f f)).f (least-f f)
  least-p (with bang f) = least-with bang f (conc (tree_f f)).f (least-f f)

  least-f : (f : Suffixed) → Least n_f (conc (tree_f f)).f f
  least-f (only q) = through n_q n_f only 0 only-0 (conc (tree_q q)).q q (conc (tree_q q)).f (steps (tree_q q)).fq (least-q q)
  least-f (then q query) = least-then query q (conc (tree_q q)).q (least-q q)
  least-f (then q asterisk) = least-then asterisk q (conc (tree_q q)).q (least-q q)
  least-f (then q cross) = least-then cross q (conc (tree_q q)).q (least-q q)

  least-q : (q : Primary) → Least n_q (conc (tree_q q)).q q
  least-q (psym h) = inl refl
  least-q (term x) = inl refl
  least-q (group c) = through n_c n_q group 1 group-1 (conc (tree_c c)).c c (conc (tree_c c)).q (steps (tree_c c)).qc (least-c c)

abbrev pub n_r : Rules → ℕ
n_r r = pairs (tokens r)

rule-0 : (h : Symbol) (c : Choice) → n_r (rule h c) ≡ 0 + n_c c
unfolding tokens
rule-0 h c = omega arith

more-pairs : (h : Symbol) (r : Rules) (c : Choice) → n_r (more r h c) ≡ n_r r + n_c c
unfolding tokens
more-pairs h r c = pairs-append (tokens r) (symbol h ∷ arrow ∷ choice_toks c)

-- a concrete syntax has needed pairs only, or more pairs than that
pub least : (r : Rules) → (r ≡ shed r) ⊎ (pairs (tokens (shed r)) < pairs (tokens r))
unfolding shed
least (rule h c) = through n_c n_r (rule h) 0 (rule-0 h) (conc (tree_c c)).c c (rule h (conc (tree_c c)).c) (inl refl) (least-c c)
least (more r h c) = two n_r n_c n_r (λ a b. more a h b) (more-pairs h) (shed r) r (conc (tree_c c)).c c (least r) (least-c c)

shed-pairs : (g : List Rule) (r : Rules) → trees r ≡ g → n_r (shed r) ≡ pairs (written g)
shed-pairs g r e = ap pairs (tokens-shed r ∙ ap written e)

-- with fewer pairs, whichever are dropped: no grammar, or other trees
pub needed : (g : List Rule) (r : Rules) → pairs (tokens r) < pairs (written g) → trees r ≡ g → ⊥
needed g r h e = go (least r)
  where
    go : (r ≡ shed r) ⊎ (pairs (tokens (shed r)) < pairs (tokens r)) → ⊥
    go (inl f) = omega (arith, ap n_r f, shed-pairs g r e)
    go (inr f) = omega (arith, f, shed-pairs g r e)

-- with as many pairs: the written tokens
pub only_one : (g : List Rule) (r : Rules) → pairs (tokens r) ≡ pairs (written g) → trees r ≡ g → tokens r ≡ written g
only_one g r h e = go (least r)
  where
    go : (r ≡ shed r) ⊎ (pairs (tokens (shed r)) < pairs (tokens r)) → tokens r ≡ written g
    go (inl f) = ap tokens f ∙ tokens-shed r ∙ ap written e
    go (inr f) = absurd (omega (arith, f, shed-pairs g r e))

-- one pair dropped, whichever it is: no grammar, or other trees
pub dropped : (g : List Rule) (u v w : List Tok) → written g ≡ u ++ (opens ∷ (v ++ (closes ∷ w))) → (r : Rules) → tokens r ≡ u ++ (v ++ w) → trees r ≡ g → ⊥
dropped g u v w e r f h =
    needed g r
    (omega (arith, ap pairs e, ap pairs f, pairs-append u (opens ∷ (v ++ (closes ∷ w))), pairs-append v (closes ∷ w), pairs-append u (v ++ w), pairs-append v w))
    h
