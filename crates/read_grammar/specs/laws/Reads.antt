-- One law for each way through the reader. Assumes nothing.
use Rattle.std.specs.Prelude.{ℕ, zero, suc, ◌<◌, ◌≡◌, refl, Bool, true, false, List, [], ◌∷◌, length}
use Rattle.std.proofs.Common.{sym, ap, ◌∙◌, arith}
use Rattle.std.proofs.lemmas.Bool.{false≢true}
use Rattle.std.specs.Prelude.{Option, Some, None, unwrap_or}
use Rattle.read_tokens.specs.declared.Kind.{Kind}
use Rattle.read_tokens.specs.declared.Kind.TheVariants as kinds
use Rattle.read_tokens.specs.steps.Code.{kind_number}
use Rattle.read_tokens.specs.Token.{Symbol, name, lake, Leaf, any, literal, class, Prefix, amp, bang, Suffix, query, asterisk, cross, Tok, symbol, leaf, pre, suf, arrow, slash, opens, closes, bad}
use Rattle.grammar.specs.Syntax.{Choice, Sequence, Prefixed, Suffixed, Primary, Rules, one, or, first, next, bare, with, only, psym, term, group, rule, more}
use Rattle.read_syntax.specs.Reader.{Res, ok, no as refused, out, bind, is_arrow, begins, sym_by, close_by, prim_by, suf_by, suf_p, pref_by, choice_by, seq_by, choice_p, choice_r, seq_p, seq_r, pref_p, prim_p, arrow_by, rule_by, end_by, rules_r, rules_p}
use Rattle.read_entries.specs.steps.Entries.{prefix_op, suffix_op}
use Rattle.read_grammar.specs.laws.Places.{kind_l, kind-some}

abbrev pub is_ok : {A : Type 0} → Res A → Bool
is_ok (ok a l) = true
is_ok (refused l) = false
is_ok out = false

pub not-ok : {A : Type 0} {a : A} {r : List Tok} {l : List Tok} → refused l ≡ ok a r → ⊥
not-ok e = false≢true (ap is_ok e)

pub out-ok : {A : Type 0} {a : A} {r : List Tok} → out ≡ ok a r → ⊥
out-ok e = false≢true (ap is_ok e)

-- a bind that reads has read both
pub bind_inv : {A B : Type 0} {b : B} {r : List Tok} (o : Res A) (k : A → List Tok → Res B) → bind o k ≡ ok b r → (a : A) × (l : List Tok) × (o ≡ ok a l) × (k a l ≡ ok b r)
bind_inv (ok a l) k e = (a, l, refl, e)
bind_inv (refused l) k e = absurd (not-ok e)
bind_inv out k e = absurd (out-ok e)

pub choice-begins : (f : ℕ) (l : List Tok) (c : Choice) (r : List Tok) → choice_p f l ≡ ok c r → (g : ℕ) × (s : Sequence) × (m : List Tok) × (seq_p g l ≡ ok s m) × (choice_r g (one s) m ≡ ok c r)
unfolding choice_p
choice-begins zero l c r e = absurd (out-ok e)
choice-begins (suc f) l c r e = let u = bind_inv (seq_p f l) (λ s m. choice_r f (one s) m) e in (f, u.0, u.1, u.2, u.3)

pub choice-turn : (f : ℕ) (b : Choice) (l : List Tok) (c : Choice) (r : List Tok) → choice_r f b (slash ∷ l) ≡ ok c r → (g : ℕ) × (s : Sequence) × (m : List Tok) × (seq_p g l ≡ ok s m) × (choice_r g (or b s) m ≡ ok c r)
unfolding choice_p choice_by
choice-turn zero b l c r e = absurd (out-ok e)
choice-turn (suc f) b l c r e = let u = bind_inv (seq_p f l) (λ s m. choice_r f (or b s) m) e in (f, u.0, u.1, u.2, u.3)

pub same_ok : {A : Type 0} (a b : A) (l r : List Tok) → ok a l ≡ ok b r → (a ≡ b) × (l ≡ r)
same_ok a b l r e = (cc, cc)

choice_by-halt : (b : Choice) (l : List Tok) (k : List Tok → Res Choice) → (kind_l l ≡ kinds.Slash → ⊥) → choice_by b l k ≡ ok b l
unfolding choice_by
choice_by-halt b [] k z = refl
choice_by-halt b (symbol h ∷ l) k z = refl
choice_by-halt b (leaf y ∷ l) k z = refl
choice_by-halt b (pre y ∷ l) k z = refl
choice_by-halt b (suf y ∷ l) k z = refl
choice_by-halt b (arrow ∷ l) k z = refl
choice_by-halt b (slash ∷ l) k z = absurd (z refl)
choice_by-halt b (opens ∷ l) k z = refl
choice_by-halt b (closes ∷ l) k z = refl
choice_by-halt b (bad ∷ l) k z = refl

pub choice-halt : (f : ℕ) (b : Choice) (l : List Tok) (c : Choice) (r : List Tok) → (kind_l l ≡ kinds.Slash → ⊥) → choice_r f b l ≡ ok c r → (b ≡ c) × (l ≡ r)
unfolding choice_p
choice-halt zero b l c r h e = absurd (out-ok e)
choice-halt (suc f) b l c r h e = same_ok b c l r (sym (choice_by-halt b l _ h) ∙ e)

pub seq-begins : (f : ℕ) (l : List Tok) (s : Sequence) (r : List Tok) → seq_p f l ≡ ok s r → (g : ℕ) × (p : Prefixed) × (m : List Tok) × (pref_p g l ≡ ok p m) × (seq_r g (first p) m ≡ ok s r)
unfolding choice_p
seq-begins zero l s r e = absurd (out-ok e)
seq-begins (suc f) l s r e = let u = bind_inv (pref_p f l) (λ p m. seq_r f (first p) m) e in (f, u.0, u.1, u.2, u.3)

pub seq-turn : (f : ℕ) (b : Sequence) (l : List Tok) (s : Sequence) (r : List Tok) → begins l ≡ true → seq_r f b l ≡ ok s r → (g : ℕ) × (p : Prefixed) × (m : List Tok) × (pref_p g l ≡ ok p m) × (seq_r g (next b p) m ≡ ok s r)
unfolding choice_p
seq-turn zero b l s r h e = absurd (out-ok e)
seq-turn (suc f) b l s r h e =
    let u = bind_inv (pref_p f l) (λ p m. seq_r f (next b p) m) (ap (λ (x : Bool). seq_by x (bind (pref_p f l) (λ p m. seq_r f (next b p) m)) (ok b l)) (sym h) ∙ e) in
    (f, u.0, u.1, u.2, u.3)

pub seq-halt : (f : ℕ) (b : Sequence) (l : List Tok) (s : Sequence) (r : List Tok) → begins l ≡ false → seq_r f b l ≡ ok s r → (b ≡ s) × (l ≡ r)
unfolding choice_p
seq-halt zero b l s r h e = absurd (out-ok e)
seq-halt (suc f) b l s r h e = same_ok b s l r (ap (λ (x : Bool). seq_by x (bind (pref_p f l) (λ p m. seq_r f (next b p) m)) (ok b l)) (sym h) ∙ e)

-- ── prefixes and suffixes ──
abbrev pub pre_op : Prefix → ℕ
pre_op amp = 7
pre_op bang = 8

abbrev pub suf_op : Suffix → ℕ
suf_op query = 4
suf_op asterisk = 5
suf_op cross = 6

-- an option that is there
pub none-some : {p : ℕ} → None ≡ Some p → ⊥
none-some e = let z : ◌≡◌ {A = ℕ} 0 1 = cc in omega arith

some-is : {n p : ℕ} → Some n ≡ Some p → p ≡ n
some-is {n} {p} e = ap (λ (o : Option ℕ). unwrap_or o n) (sym e)

pub pre-inv : (l : List Tok) (p : ℕ) → prefix_op (kind_l l) ≡ Some p → (y : Prefix) × (r : List Tok) × (l ≡ pre y ∷ r) × (p ≡ pre_op y)
pre-inv [] p h = absurd (none-some h)
pre-inv (symbol (name w) ∷ l) p h = absurd (none-some h)
pre-inv (symbol (lake w) ∷ l) p h = absurd (none-some h)
pre-inv (leaf any ∷ l) p h = absurd (none-some h)
pre-inv (leaf (literal w) ∷ l) p h = absurd (none-some h)
pre-inv (leaf (class w) ∷ l) p h = absurd (none-some h)
pre-inv (pre amp ∷ l) p h = (amp, l, refl, some-is h)
pre-inv (pre bang ∷ l) p h = (bang, l, refl, some-is h)
pre-inv (suf query ∷ l) p h = absurd (none-some h)
pre-inv (suf asterisk ∷ l) p h = absurd (none-some h)
pre-inv (suf cross ∷ l) p h = absurd (none-some h)
pre-inv (arrow ∷ l) p h = absurd (none-some h)
pre-inv (slash ∷ l) p h = absurd (none-some h)
pre-inv (opens ∷ l) p h = absurd (none-some h)
pre-inv (closes ∷ l) p h = absurd (none-some h)
pre-inv (bad ∷ l) p h = absurd (none-some h)

pub pre-op : (y : Prefix) (r : List Tok) → prefix_op (kind_l (pre y ∷ r)) ≡ None → ⊥
pre-op amp r e = none-some (sym e)
pre-op bang r e = none-some (sym e)

pub suf-inv : (l : List Tok) (p : ℕ) → suffix_op (kind_l l) ≡ Some p → (y : Suffix) × (r : List Tok) × (l ≡ suf y ∷ r) × (p ≡ suf_op y)
suf-inv [] p h = absurd (none-some h)
suf-inv (symbol (name w) ∷ l) p h = absurd (none-some h)
suf-inv (symbol (lake w) ∷ l) p h = absurd (none-some h)
suf-inv (leaf any ∷ l) p h = absurd (none-some h)
suf-inv (leaf (literal w) ∷ l) p h = absurd (none-some h)
suf-inv (leaf (class w) ∷ l) p h = absurd (none-some h)
suf-inv (pre amp ∷ l) p h = absurd (none-some h)
suf-inv (pre bang ∷ l) p h = absurd (none-some h)
suf-inv (suf query ∷ l) p h = (query, l, refl, some-is h)
suf-inv (suf asterisk ∷ l) p h = (asterisk, l, refl, some-is h)
suf-inv (suf cross ∷ l) p h = (cross, l, refl, some-is h)
suf-inv (arrow ∷ l) p h = absurd (none-some h)
suf-inv (slash ∷ l) p h = absurd (none-some h)
suf-inv (opens ∷ l) p h = absurd (none-some h)
suf-inv (closes ∷ l) p h = absurd (none-some h)
suf-inv (bad ∷ l) p h = absurd (none-some h)

suf-op : (y : Suffix) (r : List Tok) → suffix_op (kind_l (suf y ∷ r)) ≡ None → ⊥
suf-op query r e = none-some (sym e)
suf-op asterisk r e = none-some (sym e)
suf-op cross r e = none-some (sym e)

pub suf_by-no : (q : Primary) (l : List Tok) → suffix_op (kind_l l) ≡ None → suf_by q l ≡ ok (only q) l
unfolding suf_by
suf_by-no q [] z = refl
suf_by-no q (symbol h ∷ l) z = refl
suf_by-no q (leaf y ∷ l) z = refl
suf_by-no q (pre y ∷ l) z = refl
suf_by-no q (suf y ∷ l) z = absurd (suf-op y l z)
suf_by-no q (arrow ∷ l) z = refl
suf_by-no q (slash ∷ l) z = refl
suf_by-no q (opens ∷ l) z = refl
suf_by-no q (closes ∷ l) z = refl
suf_by-no q (bad ∷ l) z = refl

pub pref-pre : (f : ℕ) (y : Prefix) (l : List Tok) (p : Prefixed) (r : List Tok) → pref_p f (pre y ∷ l) ≡ ok p r → (g : ℕ) × (q : Primary) × (m : List Tok) × (e : Suffixed) × (prim_p g l ≡ ok q m) × (suf_by q m ≡ ok e r) × (with y e ≡ p)
unfolding choice_p pref_by
pref-pre zero y l p r e = absurd (out-ok e)
pref-pre (suc f) y l p r e =
    let u = bind_inv (suf_p (prim_p f l)) (λ x m. ok (with y x) m) e in
    let z = same_ok (with y u.0) p u.1 r u.3 in
    let v = bind_inv (prim_p f l) (λ q m. suf_by q m) u.2 in
    (f, v.0, v.1, u.0, v.2, v.3 ∙ ap (ok u.0) z.1, z.0)

pref_by-no : (l : List Tok) (k : List Tok → Res Primary) (p : Prefixed) (r : List Tok) → prefix_op (kind_l l) ≡ None → pref_by l k ≡ ok p r → bind (suf_p (k l)) (λ e m. ok (bare e) m) ≡ ok p r
unfolding pref_by
pref_by-no [] k p r z e = absurd (not-ok e)
pref_by-no (symbol h ∷ l) k p r z e = e
pref_by-no (leaf y ∷ l) k p r z e = e
pref_by-no (pre y ∷ l) k p r z e = absurd (pre-op y l z)
pref_by-no (suf y ∷ l) k p r z e = e
pref_by-no (arrow ∷ l) k p r z e = e
pref_by-no (slash ∷ l) k p r z e = e
pref_by-no (opens ∷ l) k p r z e = e
pref_by-no (closes ∷ l) k p r z e = e
pref_by-no (bad ∷ l) k p r z e = e

pub pref-bare : (f : ℕ) (l : List Tok) (p : Prefixed) (r : List Tok) → prefix_op (kind_l l) ≡ None → pref_p f l ≡ ok p r → (g : ℕ) × (q : Primary) × (m : List Tok) × (e : Suffixed) × (prim_p g l ≡ ok q m) × (suf_by q m ≡ ok e r) × (bare e ≡ p)
unfolding choice_p
pref-bare zero l p r h e = absurd (out-ok e)
pref-bare (suc f) l p r h e =
    let u = bind_inv (suf_p (prim_p f l)) (λ x m. ok (bare x) m) (pref_by-no l (λ m. prim_p f m) p r h e) in
    let z = same_ok (bare u.0) p u.1 r u.3 in
    let v = bind_inv (prim_p f l) (λ q m. suf_by q m) u.2 in
    (f, v.0, v.1, u.0, v.2, v.3 ∙ ap (ok u.0) z.1, z.0)

-- ── primaries ──
closed : (c : Choice) (l : List Tok) (q : Primary) (r : List Tok) → close_by c l ≡ ok q r → (l ≡ closes ∷ r) × (group c ≡ q)
unfolding close_by
closed c [] q r e = absurd (not-ok e)
closed c (symbol h ∷ l) q r e = absurd (not-ok e)
closed c (leaf y ∷ l) q r e = absurd (not-ok e)
closed c (pre y ∷ l) q r e = absurd (not-ok e)
closed c (suf y ∷ l) q r e = absurd (not-ok e)
closed c (arrow ∷ l) q r e = absurd (not-ok e)
closed c (slash ∷ l) q r e = absurd (not-ok e)
closed c (opens ∷ l) q r e = absurd (not-ok e)
closed c (closes ∷ l) q r e = let z = same_ok (group c) q l r e in (ap (λ (x : List Tok). closes ∷ x) z.1, z.0)
closed c (bad ∷ l) q r e = absurd (not-ok e)

pub prim-open : (f : ℕ) (l : List Tok) (q : Primary) (r : List Tok) → prim_p f (opens ∷ l) ≡ ok q r → (g : ℕ) × (c : Choice) × (choice_p g l ≡ ok c (closes ∷ r)) × (group c ≡ q)
unfolding choice_p prim_by
prim-open zero l q r e = absurd (out-ok e)
prim-open (suc f) l q r e =
    let u = bind_inv (choice_p f l) (λ c m. close_by c m) e in
    let z = closed u.0 u.1 q r u.3 in
    (f, u.0, u.2 ∙ ap (ok u.0) z.0, z.1)

sym_by-inv : (h : Symbol) (l : List Tok) (b : Bool) (q : Primary) (r : List Tok) → sym_by h l b ≡ ok q r → (psym h ≡ q) × (l ≡ r)
sym_by-inv h l true q r e = absurd (not-ok e)
sym_by-inv h l false q r e = same_ok (psym h) q l r e

pub prim-symbol : (f : ℕ) (h : Symbol) (l : List Tok) (q : Primary) (r : List Tok) → prim_p f (symbol h ∷ l) ≡ ok q r → (psym h ≡ q) × (l ≡ r)
unfolding choice_p prim_by
prim-symbol zero h l q r e = absurd (out-ok e)
prim-symbol (suc f) h l q r e = sym_by-inv h l (is_arrow l) q r e

pub prim-leaf : (f : ℕ) (x : Leaf) (l : List Tok) (q : Primary) (r : List Tok) → prim_p f (leaf x ∷ l) ≡ ok q r → (term x ≡ q) × (l ≡ r)
unfolding choice_p prim_by
prim-leaf zero x l q r e = absurd (out-ok e)
prim-leaf (suc f) x l q r e = same_ok (term x) q l r e

prim_by-not : (l : List Tok) (k : List Tok → Res Choice) (q : Primary) (r : List Tok) → (kind_l l ≡ kinds.End) → prim_by l k ≡ ok q r → ⊥
unfolding prim_by
prim_by-not [] k q r h e = not-ok e
prim_by-not (t ∷ l) k q r h e = absurd (kind-some t h)

pub prim-none : (f : ℕ) (l : List Tok) (q : Primary) (r : List Tok) → kind_l l ≡ kinds.End → prim_p f l ≡ ok q r → ⊥
unfolding choice_p
prim-none zero l q r h e = out-ok e
prim-none (suc f) l q r h e = prim_by-not l (λ m. choice_p f m) q r h e

-- no primary begins with a token of the kind
abbrev pub NoPart : Kind → Type 0
NoPart k = (k ≡ kinds.End → ⊥) × (k ≡ kinds.Name → ⊥) × (k ≡ kinds.Lake → ⊥) × (k ≡ kinds.Any → ⊥) × (k ≡ kinds.Literal → ⊥) × (k ≡ kinds.Class → ⊥) × (k ≡ kinds.Opens → ⊥)

prim_by-other : (l : List Tok) (k : List Tok → Res Choice) (q : Primary) (r : List Tok) → NoPart (kind_l l) → prim_by l k ≡ ok q r → ⊥
unfolding prim_by
prim_by-other [] k q r z e = z.0 refl
prim_by-other (symbol (name w) ∷ l) k q r z e = z.1 refl
prim_by-other (symbol (lake w) ∷ l) k q r z e = z.2 refl
prim_by-other (leaf any ∷ l) k q r z e = z.3 refl
prim_by-other (leaf (literal w) ∷ l) k q r z e = z.4 refl
prim_by-other (leaf (class w) ∷ l) k q r z e = z.5 refl
prim_by-other (pre y ∷ l) k q r z e = not-ok e
prim_by-other (suf y ∷ l) k q r z e = not-ok e
prim_by-other (arrow ∷ l) k q r z e = not-ok e
prim_by-other (slash ∷ l) k q r z e = not-ok e
prim_by-other (opens ∷ l) k q r z e = z.6 refl
prim_by-other (closes ∷ l) k q r z e = not-ok e
prim_by-other (bad ∷ l) k q r z e = not-ok e

pub prim-other : (f : ℕ) (l : List Tok) (q : Primary) (r : List Tok) → NoPart (kind_l l) → prim_p f l ≡ ok q r → ⊥
unfolding choice_p
prim-other zero l q r z e = out-ok e
prim-other (suc f) l q r z e = prim_by-other l (λ m. choice_p f m) q r z e

-- ── one token by its kind ──
pub is-slash : (l : List Tok) → kind_l l ≡ kinds.Slash → (r : List Tok) × (l ≡ slash ∷ r)
is-slash [] e = absurd (omega (arith, ap kind_number e))
is-slash (symbol (name w) ∷ l) e = absurd (omega (arith, ap kind_number e))
is-slash (symbol (lake w) ∷ l) e = absurd (omega (arith, ap kind_number e))
is-slash (leaf any ∷ l) e = absurd (omega (arith, ap kind_number e))
is-slash (leaf (literal w) ∷ l) e = absurd (omega (arith, ap kind_number e))
is-slash (leaf (class w) ∷ l) e = absurd (omega (arith, ap kind_number e))
is-slash (pre amp ∷ l) e = absurd (omega (arith, ap kind_number e))
is-slash (pre bang ∷ l) e = absurd (omega (arith, ap kind_number e))
is-slash (suf query ∷ l) e = absurd (omega (arith, ap kind_number e))
is-slash (suf asterisk ∷ l) e = absurd (omega (arith, ap kind_number e))
is-slash (suf cross ∷ l) e = absurd (omega (arith, ap kind_number e))
is-slash (arrow ∷ l) e = absurd (omega (arith, ap kind_number e))
is-slash (slash ∷ l) e = (l, refl)
is-slash (opens ∷ l) e = absurd (omega (arith, ap kind_number e))
is-slash (closes ∷ l) e = absurd (omega (arith, ap kind_number e))
is-slash (bad ∷ l) e = absurd (omega (arith, ap kind_number e))

pub is-opens : (l : List Tok) → kind_l l ≡ kinds.Opens → (r : List Tok) × (l ≡ opens ∷ r)
is-opens [] e = absurd (omega (arith, ap kind_number e))
is-opens (symbol (name w) ∷ l) e = absurd (omega (arith, ap kind_number e))
is-opens (symbol (lake w) ∷ l) e = absurd (omega (arith, ap kind_number e))
is-opens (leaf any ∷ l) e = absurd (omega (arith, ap kind_number e))
is-opens (leaf (literal w) ∷ l) e = absurd (omega (arith, ap kind_number e))
is-opens (leaf (class w) ∷ l) e = absurd (omega (arith, ap kind_number e))
is-opens (pre amp ∷ l) e = absurd (omega (arith, ap kind_number e))
is-opens (pre bang ∷ l) e = absurd (omega (arith, ap kind_number e))
is-opens (suf query ∷ l) e = absurd (omega (arith, ap kind_number e))
is-opens (suf asterisk ∷ l) e = absurd (omega (arith, ap kind_number e))
is-opens (suf cross ∷ l) e = absurd (omega (arith, ap kind_number e))
is-opens (arrow ∷ l) e = absurd (omega (arith, ap kind_number e))
is-opens (slash ∷ l) e = absurd (omega (arith, ap kind_number e))
is-opens (opens ∷ l) e = (l, refl)
is-opens (closes ∷ l) e = absurd (omega (arith, ap kind_number e))
is-opens (bad ∷ l) e = absurd (omega (arith, ap kind_number e))

-- ── rules ──
arrow-inv : (l : List Tok) (k : List Tok → Res Rules) (g : Rules) (r : List Tok) → arrow_by l k ≡ ok g r → (m : List Tok) × (l ≡ arrow ∷ m) × (k m ≡ ok g r)
unfolding arrow_by
arrow-inv [] k g r e = absurd (not-ok e)
arrow-inv (symbol h ∷ l) k g r e = absurd (not-ok e)
arrow-inv (leaf y ∷ l) k g r e = absurd (not-ok e)
arrow-inv (pre y ∷ l) k g r e = absurd (not-ok e)
arrow-inv (suf y ∷ l) k g r e = absurd (not-ok e)
arrow-inv (arrow ∷ l) k g r e = (l, refl, e)
arrow-inv (slash ∷ l) k g r e = absurd (not-ok e)
arrow-inv (opens ∷ l) k g r e = absurd (not-ok e)
arrow-inv (closes ∷ l) k g r e = absurd (not-ok e)
arrow-inv (bad ∷ l) k g r e = absurd (not-ok e)

rule-inv : (l : List Tok) (k : Symbol → List Tok → Res Rules) (g : Rules) (r : List Tok) → rule_by l k ≡ ok g r → (h : Symbol) × (m : List Tok) × (l ≡ symbol h ∷ arrow ∷ m) × (k h m ≡ ok g r)
unfolding rule_by
rule-inv [] k g r e = absurd (not-ok e)
rule-inv (symbol h ∷ l) k g r e = let u = arrow-inv l (k h) g r e in (h, u.0, ap (λ (y : List Tok). symbol h ∷ y) u.1, u.2)
rule-inv (leaf y ∷ l) k g r e = absurd (not-ok e)
rule-inv (pre y ∷ l) k g r e = absurd (not-ok e)
rule-inv (suf y ∷ l) k g r e = absurd (not-ok e)
rule-inv (arrow ∷ l) k g r e = absurd (not-ok e)
rule-inv (slash ∷ l) k g r e = absurd (not-ok e)
rule-inv (opens ∷ l) k g r e = absurd (not-ok e)
rule-inv (closes ∷ l) k g r e = absurd (not-ok e)
rule-inv (bad ∷ l) k g r e = absurd (not-ok e)

pub rules-begin : (f : ℕ) (l : List Tok) (g : Rules) (r : List Tok) → rules_p f l ≡ ok g r → (h : Symbol) × (m : List Tok) × (c : Choice) × (n : List Tok) × (l ≡ symbol h ∷ arrow ∷ m) × (choice_p f m ≡ ok c n) × (rules_r f (rule h c) n ≡ ok g r)
unfolding rules_p
rules-begin f l g r e =
    let u = rule-inv l (λ h m. bind (choice_p f m) (λ c n. rules_r f (rule h c) n)) g r e in
    let v = bind_inv (choice_p f u.1) (λ c n. rules_r f (rule u.0 c) n) u.3 in
    (u.0, u.1, v.0, v.1, u.2, v.2, v.3)

end_by-inv : (g d : Rules) (l : List Tok) (o : Res Rules) (r : List Tok) → 0 < length l → end_by d l o ≡ ok g r → o ≡ ok g r
end_by-inv g d [] o r h e = absurd (omega arith)
end_by-inv g d (t ∷ l) o r h e = e

pub rules-turn : (f : ℕ) (d : Rules) (l : List Tok) (g : Rules) (r : List Tok) → 0 < length l → rules_r f d l ≡ ok g r
    → (k : ℕ) × (h : Symbol) × (m : List Tok) × (c : Choice) × (n : List Tok) × (l ≡ symbol h ∷ arrow ∷ m) × (choice_p k m ≡ ok c n) × (rules_r k (more d h c) n ≡ ok g r)
unfolding rules_r
rules-turn zero d l g r z e = absurd (out-ok e)
rules-turn (suc f) d l g r z e =
    let u = rule-inv l (λ h m. bind (choice_p f m) (λ c n. rules_r f (more d h c) n)) g r (end_by-inv g d l (rule_by l (λ h m. bind (choice_p f m) (λ c n. rules_r f (more d h c) n))) r z e) in
    let v = bind_inv (choice_p f u.1) (λ c n. rules_r f (more d u.0 c) n) u.3 in
    (f, u.0, u.1, v.0, v.1, u.2, v.2, v.3)

pub rules-halt : (f : ℕ) (d g : Rules) → rules_r f d [] ≡ ok g [] → d ≡ g
unfolding rules_r
rules-halt zero d g e = absurd (out-ok e)
rules-halt (suc f) d g e = (same_ok d g [] [] e).0
