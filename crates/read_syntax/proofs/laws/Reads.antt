-- The reader reads a grammar's tokens back as the concrete syntax; so a token list is at most one grammar. Assumes nothing.
use Rattle.std.specs.Prelude.{ℕ, zero, suc, ◌+◌, ◌*◌, ◌≤◌, ◌≡◌, refl, Bool, true, false, not, List, [], ◌∷◌, ◌++◌, length}
use Rattle.std.proofs.Common.{sym, ap, ◌∙◌, subst, append_assoc, append-nil, arith, length-append}
use Rattle.std.proofs.lemmas.Bool.{false≢true}
use Rattle.std.proofs.Math.Option.{some}
use Rattle.read_tokens.specs.Token.{Symbol, Suffix, Tok, symbol, leaf, pre, suf, arrow, slash, opens, closes, bad}
use Rattle.grammar.specs.Syntax.{Choice, one, or, Sequence, first, next, Prefixed, bare, with, Suffixed, only, then, Primary, psym, term, group, Rules, rule, more, choice_toks, seq_toks, pref_toks, suf_toks, prim_toks, tokens}
use Rattle.read_syntax.specs.Reader.{Res, ok, bind, is_arrow, begins, close_by, prim_by, suf_by, suf_p, pref_by, choice_by, choice_p, choice_r, seq_p, seq_r, pref_p, prim_p, arrow_by, rule_by, rules_r, rules_p}
use Rattle.read_syntax.specs.Machine.{start, state_after, accepts}
use Rattle.read_syntax.proofs.laws.Back.{grammar}

-- what may stand behind a part: no suffix and no arrow
abbrev free : List Tok → Bool
free [] = true
free (symbol h ∷ l) = true
free (leaf y ∷ l) = true
free (pre y ∷ l) = true
free (suf y ∷ l) = false
free (arrow ∷ l) = false
free (slash ∷ l) = true
free (opens ∷ l) = true
free (closes ∷ l) = true
free (bad ∷ l) = true

-- what may stand behind a choice
data Over : List Tok → Type 0 where
  over-end : Over []
  over-close : {l : List Tok} → Over (closes ∷ l)
  over-rule : {h : Symbol} {l : List Tok} → Over (symbol h ∷ arrow ∷ l)

over-free : {l : List Tok} → Over l → free l ≡ true
over-free over-end = refl
over-free over-close = refl
over-free over-rule = refl

over-begins : {l : List Tok} → Over l → begins l ≡ false
over-begins over-end = refl
over-begins over-close = refl
over-begins over-rule = refl

over-choice : {l : List Tok} (c : Choice) (k : List Tok → Res Choice) → Over l → choice_by c l k ≡ ok c l
unfolding choice_by
over-choice c k over-end = refl
over-choice c k over-close = refl
over-choice c k over-rule = refl

free-arrow : (l : List Tok) → free l ≡ true → is_arrow l ≡ false
free-arrow [] e = refl
free-arrow (symbol h ∷ l) e = refl
free-arrow (leaf y ∷ l) e = refl
free-arrow (pre y ∷ l) e = refl
free-arrow (suf y ∷ l) e = refl
free-arrow (arrow ∷ l) e = sym e
free-arrow (slash ∷ l) e = refl
free-arrow (opens ∷ l) e = refl
free-arrow (closes ∷ l) e = refl
free-arrow (bad ∷ l) e = refl

begins-free : (l : List Tok) → begins l ≡ true → free l ≡ true
begins-free [] e = refl
begins-free (symbol h ∷ l) e = refl
begins-free (leaf y ∷ l) e = refl
begins-free (pre y ∷ l) e = refl
begins-free (suf y ∷ l) e = e
begins-free (arrow ∷ l) e = e
begins-free (slash ∷ l) e = refl
begins-free (opens ∷ l) e = refl
begins-free (closes ∷ l) e = refl
begins-free (bad ∷ l) e = refl

free-suf : (q : Primary) (l : List Tok) → free l ≡ true → suf_by q l ≡ ok (only q) l
unfolding suf_by
free-suf q [] e = refl
free-suf q (symbol h ∷ l) e = refl
free-suf q (leaf y ∷ l) e = refl
free-suf q (pre y ∷ l) e = refl
free-suf q (suf y ∷ l) e = absurd (false≢true e)
free-suf q (arrow ∷ l) e = refl
free-suf q (slash ∷ l) e = refl
free-suf q (opens ∷ l) e = refl
free-suf q (closes ∷ l) e = refl
free-suf q (bad ∷ l) e = refl

abbrev mutual
  pub cost_c : Choice → ℕ
  cost_c (one s) = cost_s s + 2
  cost_c (or c s) = cost_c c + (cost_s s + 2)

  pub cost_s : Sequence → ℕ
  cost_s (first p) = cost_p p + 1
  cost_s (next s p) = cost_s s + (cost_p p + 1)

  pub cost_p : Prefixed → ℕ
  cost_p (bare e) = cost_f e + 1
  cost_p (with x e) = cost_f e + 1

  pub cost_f : Suffixed → ℕ
  cost_f (only q) = cost_q q
  cost_f (then q x) = cost_q q

  pub cost_q : Primary → ℕ
  cost_q (psym h) = 1
  cost_q (term x) = 1
  cost_q (group c) = cost_c c + 2

abbrev pub cost_r : Rules → ℕ
cost_r (rule h c) = cost_c c + 1
cost_r (more g h c) = cost_r g + (cost_c c + 2)

bind_ok : {A B : Type 0} {o : Res A} {a : A} {l : List Tok} (k : A → List Tok → Res B) → o ≡ ok a l → bind o k ≡ k a l
bind_ok {A} {B} k e = ap (λ (x : Res A). bind x k) e

-- the first token of a part
prim-starts : (q : Primary) (l : List Tok) → free l ≡ true → begins (prim_toks q ++ l) ≡ true
unfolding choice_toks
prim-starts (psym h) l e = ap not (free-arrow l e)
prim-starts (term x) l e = refl
prim-starts (group c) l e = refl

prim-starts-suf : (q : Primary) (x : Suffix) (l : List Tok) → begins (prim_toks q ++ (suf x ∷ l)) ≡ true
unfolding choice_toks
prim-starts-suf (psym h) x l = refl
prim-starts-suf (term y) x l = refl
prim-starts-suf (group c) x l = refl

pref-starts : (p : Prefixed) (l : List Tok) → free l ≡ true → begins (pref_toks p ++ l) ≡ true
unfolding choice_toks
pref-starts (bare (only q)) l e = prim-starts q l e
pref-starts (bare (then q x)) l e = rw append_assoc (prim-starts-suf q x l)
pref-starts (with x f) l e = refl

-- a part without a prefix is read as a suffixed primary
pref_by-plain : (q : Primary) (l : List Tok) (k : List Tok → Res Primary) → pref_by (prim_toks q ++ l) k ≡ bind (suf_p (k (prim_toks q ++ l))) (λ e r. ok (bare e) r)
unfolding choice_toks pref_by
pref_by-plain (psym h) l k = refl
pref_by-plain (term x) l k = refl
pref_by-plain (group c) l k = refl

seq-stop : (s : Sequence) (l : List Tok) (g : ℕ) → 1 ≤ g → begins l ≡ false → seq_r g s l ≡ ok s l
unfolding choice_p
seq-stop s l zero h e = absurd (omega arith)
seq-stop s l (suc g) h e = rw (seq_r, e)

choice-stop : {l : List Tok} (c : Choice) (g : ℕ) → 1 ≤ g → Over l → choice_r g c l ≡ ok c l
unfolding choice_p
choice-stop c zero h o = absurd (omega arith)
choice-stop c (suc g) h o = over-choice c _ o

seq_on : (s : Sequence) (p : Prefixed) (l : List Tok) (m g : ℕ) → cost_p p + 1 + m ≤ g → free l ≡ true
    → ((f : ℕ) → cost_p p ≤ f → pref_p f (pref_toks p ++ l) ≡ ok p l)
    → (k : ℕ) × (m ≤ k) × (seq_r g s (pref_toks p ++ l) ≡ seq_r k (next s p) l)
unfolding choice_p
seq_on s p l m zero h e r = absurd (omega arith)
seq_on s p l m (suc g) h e r = (g, omega arith, rw (seq_r, pref-starts p l e) (bind_ok (λ x y. seq_r g (next s x) y) (r g (omega arith))))

choice-on : (c : Choice) (s : Sequence) (l : List Tok) (m g : ℕ) → cost_s s + 2 + m ≤ g
    → ((f : ℕ) → cost_s s + 1 ≤ f → seq_p f (seq_toks s ++ l) ≡ ok s l)
    → (k : ℕ) × (m ≤ k) × (choice_r g c (slash ∷ (seq_toks s ++ l)) ≡ choice_r k (or c s) l)
unfolding choice_p choice_by
choice-on c s l m zero h r = absurd (omega arith)
choice-on c s l m (suc g) h r = (g, omega arith, bind_ok (λ x y. choice_r g (or c x) y) (r g (omega arith)))

mutual
  unfolding choice_toks choice_p choice_by pref_by prim_by close_by suf_by

  choice-turns : (c : Choice) (l : List Tok) → free l ≡ true → begins l ≡ false → (m f : ℕ) → cost_c c + m ≤ f → (g : ℕ) × (m ≤ g) × (choice_p f (choice_toks c ++ l) ≡ choice_r g c l)
  choice-turns (one s) l x y m zero h = absurd (omega arith)
  choice-turns (one s) l x y m (suc f) h =
      let u = seq-turns s l x 1 f (omega arith) in
      (f, omega arith, bind_ok (λ a b. choice_r f (one a) b) (u.2 ∙ seq-stop s l u.0 u.1 y))
  choice-turns (or c s) l x y m f h =
      let u = choice-turns c (slash ∷ (seq_toks s ++ l)) refl refl (cost_s s + 2 + m) f (omega arith) in
      let v = choice-on c s l m u.0 u.1 (λ k j. let w = seq-turns s l x 1 k j in w.2 ∙ seq-stop s l w.0 w.1 y) in
      (v.0, v.1, rw (append_assoc (choice_toks c) (slash ∷ seq_toks s) l) (u.2 ∙ v.2))

  seq-turns : (s : Sequence) (l : List Tok) → free l ≡ true → (m f : ℕ) → cost_s s + m ≤ f → (g : ℕ) × (m ≤ g) × (seq_p f (seq_toks s ++ l) ≡ seq_r g s l)
  seq-turns (first p) l e m zero h = absurd (omega arith)
  seq-turns (first p) l e m (suc f) h = (f, omega arith, bind_ok (λ x y. seq_r f (first x) y) (pref-reads p l e f (omega arith)))
  seq-turns (next s p) l e m f h =
      let u = seq-turns s (pref_toks p ++ l) (begins-free (pref_toks p ++ l) (pref-starts p l e)) (cost_p p + 1 + m) f (omega arith) in
      let v = seq_on s p l m u.0 u.1 e (λ k j. pref-reads p l e k j) in
      (v.0, v.1, rw (append_assoc (seq_toks s) (pref_toks p) l) (u.2 ∙ v.2))

  pref-reads : (p : Prefixed) (l : List Tok) → free l ≡ true → (f : ℕ) → cost_p p ≤ f → pref_p f (pref_toks p ++ l) ≡ ok p l
  pref-reads (bare e) l x zero h = absurd (omega arith)
  pref-reads (bare e) l x (suc f) h = sufd-plain e l x f (omega arith)
  pref-reads (with y e) l x zero h = absurd (omega arith)
  pref-reads (with y e) l x (suc f) h = bind_ok (λ z r. ok (with y z) r) (sufd-reads e l x f (omega arith))

  sufd-reads : (e : Suffixed) (l : List Tok) → free l ≡ true → (f : ℕ) → cost_f e ≤ f → suf_p (prim_p f (suf_toks e ++ l)) ≡ ok e l
  sufd-reads (only q) l x f h = bind_ok (λ z r. suf_by z r) (prim-reads q l (free-arrow l x) f h) ∙ free-suf q l x
  sufd-reads (then q y) l x f h = rw (append_assoc (prim_toks q) (suf y ∷ []) l) (bind_ok (λ z r. suf_by z r) (prim-reads q (suf y ∷ l) refl f h))

  sufd-plain : (e : Suffixed) (l : List Tok) → free l ≡ true → (f : ℕ) → cost_f e ≤ f → pref_by (suf_toks e ++ l) (λ m. prim_p f m) ≡ ok (bare e) l
  sufd-plain (only q) l x f h = pref_by-plain q l (λ m. prim_p f m) ∙ bind_ok (λ z r. ok (bare z) r) (bind_ok (λ z r. suf_by z r) (prim-reads q l (free-arrow l x) f h) ∙ free-suf q l x)
  sufd-plain (then q y) l x f h = rw (append_assoc (prim_toks q) (suf y ∷ []) l) (pref_by-plain q (suf y ∷ l) (λ m. prim_p f m) ∙ bind_ok (λ z r. ok (bare z) r) (bind_ok (λ z r. suf_by z r) (prim-reads q (suf y ∷ l) refl f h)))

  prim-reads : (q : Primary) (l : List Tok) → is_arrow l ≡ false → (f : ℕ) → cost_q q ≤ f → prim_p f (prim_toks q ++ l) ≡ ok q l
  prim-reads (psym h) l x zero n = absurd (omega arith)
  prim-reads (psym h) l x (suc f) n = rw x refl
  prim-reads (term y) l x zero n = absurd (omega arith)
  prim-reads (term y) l x (suc f) n = refl
  prim-reads (group c) l x zero n = absurd (omega arith)
  prim-reads (group c) l x (suc f) n =
      let u = choice-turns c (closes ∷ l) refl refl 1 f (omega arith) in
      rw (append_assoc (choice_toks c) (closes ∷ []) l) (bind_ok (λ z r. close_by z r) (u.2 ∙ choice-stop c u.0 u.1 over-close))

choice-reads : (c : Choice) (l : List Tok) → Over l → (f : ℕ) → cost_c c + 1 ≤ f → choice_p f (choice_toks c ++ l) ≡ ok c l
choice-reads c l o f h = let u = choice-turns c l (over-free o) (over-begins o) 1 f h in u.2 ∙ choice-stop c u.0 u.1 o

rules-on : (g : Rules) (h : Symbol) (c : Choice) (l : List Tok) → Over l → (m f : ℕ) → cost_c c + 2 + m ≤ f
    → (k : ℕ) × (m ≤ k) × (rules_r f g (symbol h ∷ arrow ∷ (choice_toks c ++ l)) ≡ rules_r k (more g h c) l)
unfolding rules_r rule_by arrow_by
rules-on g h c l o m zero n = absurd (omega arith)
rules-on g h c l o m (suc f) n = (f, omega arith, bind_ok (λ x y. rules_r f (more g h x) y) (choice-reads c l o f (omega arith)))

rules-turn : (g : Rules) (l : List Tok) → Over l → (m f : ℕ) → cost_r g + m ≤ f → (k : ℕ) × (m ≤ k) × (rules_p f (tokens g ++ l) ≡ rules_r k g l)
unfolding tokens rules_p rule_by arrow_by
rules-turn (rule h c) l o m f n = (f, omega arith, bind_ok (λ x y. rules_r f (rule h x) y) (choice-reads c l o f (omega arith)))
rules-turn (more g h c) l o m f n =
    let u = rules-turn g (symbol h ∷ arrow ∷ (choice_toks c ++ l)) over-rule (cost_c c + 2 + m) f (omega arith) in
    let v = rules-on g h c l o m u.0 u.1 in
    (v.0, v.1, rw (append_assoc (tokens g) (symbol h ∷ arrow ∷ choice_toks c) l) (u.2 ∙ v.2))

rules-stop : (g : Rules) (f : ℕ) → 1 ≤ f → rules_r f g [] ≡ ok g []
unfolding rules_r
rules-stop g zero h = absurd (omega arith)
rules-stop g (suc f) h = refl

-- the reader reads back what a concrete syntax has written, for every fuel that is large enough
pub reads-back : (g : Rules) (f : ℕ) → cost_r g + 1 ≤ f → rules_p f (tokens g) ≡ ok g []
reads-back g f h = let u = rules-turn g [] over-end 1 f h in ap (λ (l : List Tok). rules_p f l) (sym (append-nil (tokens g))) ∙ u.2 ∙ rules-stop g u.0 u.1

-- one concrete syntax at most
pub unambiguous : (g g' : Rules) → tokens g ≡ tokens g' → g ≡ g'
unambiguous g g' e =
    let f = cost_r g + cost_r g' + 1 in
    let a : rules_p f (tokens g) ≡ ok g [] = reads-back g f (omega arith) in
    let b : rules_p f (tokens g') ≡ ok g' [] = reads-back g' f (omega arith) in
    cc (a, b, e)

-- a fuel that is enough, from the tokens alone
mutual
  unfolding choice_toks

  pub cost_c-le : (c : Choice) → cost_c c ≤ 5 * length (choice_toks c)
  cost_c-le (one s) = omega (arith, cost_s-le s)
  cost_c-le (or c s) = rw (length-append (choice_toks c) (slash ∷ seq_toks s)) (omega (arith, cost_c-le c, cost_s-le s))

  pub cost_s-le : (s : Sequence) → cost_s s + 2 ≤ 5 * length (seq_toks s)
  cost_s-le (first p) = omega (arith, cost_p-le p)
  cost_s-le (next s p) = rw (length-append (seq_toks s) (pref_toks p)) (omega (arith, cost_s-le s, cost_p-le p))

  pub cost_p-le : (p : Prefixed) → cost_p p + 3 ≤ 5 * length (pref_toks p)
  cost_p-le (bare e) = omega (arith, cost_f-le e)
  cost_p-le (with x e) = omega (arith, cost_f-le e)

  cost_f-le : (e : Suffixed) → cost_f e + 4 ≤ 5 * length (suf_toks e)
  cost_f-le (only q) = cost_q-le q
  cost_f-le (then q x) = rw (length-append (prim_toks q) (suf x ∷ [])) (omega (arith, cost_q-le q))

  cost_q-le : (q : Primary) → cost_q q + 4 ≤ 5 * length (prim_toks q)
  cost_q-le (psym h) = omega arith
  cost_q-le (term x) = omega arith
  cost_q-le (group c) = rw (length-append (choice_toks c) (closes ∷ [])) (omega (arith, cost_c-le c))

pub cost-enough : (g : Rules) → cost_r g + 1 ≤ 5 * length (tokens g)
unfolding tokens
cost-enough (rule h c) = omega (arith, cost_c-le c)
cost-enough (more g h c) = rw (length-append (tokens g) (symbol h ∷ arrow ∷ choice_toks c)) (omega (arith, cost-enough g, cost_c-le c))

-- on accepted tokens the reader answers the concrete syntax, the only one that has these tokens
pub reads : (ts : List Tok) → accepts (state_after (some start) ts) ≡ true → (g : Rules) × (tokens g ≡ ts) × (rules_p (5 * length ts) ts ≡ ok g []) × ((g' : Rules) → tokens g' ≡ ts → g' ≡ g)
reads ts e =
    let w = grammar ts e in
    let g = w.0 in
    (g, w.1, subst (λ (l : List Tok). rules_p (5 * length l) l ≡ ok g []) w.1 (reads-back g (5 * length (tokens g)) (cost-enough g)), λ g' e'. unambiguous g' g (e' ∙ sym w.1))
