-- What the automaton has read is a concrete syntax with a hole: accepted tokens are a grammar's. Assumes nothing.
use Rattle.std.specs.Prelude.{ℕ, zero, suc, ◌≡◌, refl, true, List, [], ◌∷◌, ◌++◌}
use Rattle.std.proofs.Common.{sym, ap, ◌∙◌, subst, append_assoc, append-nil}
use Rattle.std.proofs.lemmas.Bool.{false≢true}
use Rattle.std.proofs.Math.Option.{Option, none, some}
use Rattle.read_tokens.specs.Token.{Symbol, Prefix, Tok, symbol, leaf, pre, suf, arrow, slash, opens, closes, bad}
use Rattle.grammar.specs.Syntax.{Choice, one, or, Sequence, first, next, Prefixed, bare, with, Suffixed, only, then, Primary, psym, term, group, Rules, rule, more, choice_toks, seq_toks, pref_toks, suf_toks, prim_toks, tokens, Grammatical}
use Rattle.read_syntax.specs.Machine.{State, start, head, need, bound, prim, part, maybe, close, new_rule, after, step, accepting, state_after, accepts}
use Rattle.read_syntax.proofs.laws.Forth.{runs-dead}

-- what stands before: alternatives and a slash, parts, a prefix, rules; none: nothing
abbrev alts_t : Option Choice → List Tok
alts_t none = []
alts_t (some c) = choice_toks c ++ (slash ∷ [])

abbrev parts_t : Option Sequence → List Tok
parts_t none = []
parts_t (some s) = seq_toks s

abbrev pre_t : Option Prefix → List Tok
pre_t none = []
pre_t (some x) = pre x ∷ []

abbrev rules_t : Option Rules → List Tok
rules_t none = []
rules_t (some g) = tokens g

abbrev add_seq : Option Choice → Sequence → Choice
add_seq none s = one s
add_seq (some c) s = or c s

abbrev add_part : Option Sequence → Prefixed → Sequence
add_part none p = first p
add_part (some s) p = next s p

abbrev add_pre : Option Prefix → Suffixed → Prefixed
add_pre none e = bare e
add_pre (some x) e = with x e

abbrev add_rule : Option Rules → Symbol → Choice → Rules
add_rule none h c = rule h c
add_rule (some g) h c = more g h c

-- the open places: the rule's body, and for each open parenthesis what stood before it in its choice
data Ctx : Type 0 where
  body : Option Rules → Symbol → Ctx
  inside : Ctx → Option Choice → Option Sequence → Option Prefix → Ctx

abbrev depth : Ctx → ℕ
depth (body r h) = zero
depth (inside c a p x) = suc (depth c)

abbrev ctx_t : Ctx → List Tok
ctx_t (body r h) = rules_t r ++ (symbol h ∷ arrow ∷ [])
ctx_t (inside c a p x) = ctx_t c ++ alts_t a ++ parts_t p ++ pre_t x ++ (opens ∷ [])

data Partial : Type 0 where
  nothing : Partial
  left : Symbol → Partial
  needs : Ctx → Option Choice → Partial
  bounds : Ctx → Option Choice → Option Sequence → Prefix → Partial
  prims : Ctx → Option Choice → Option Sequence → Option Prefix → Primary → Partial
  parts : Ctx → Option Choice → Sequence → Partial
  maybes : Ctx → Option Choice → Sequence → Symbol → Partial

abbrev state : Partial → State
state nothing = start
state (left h) = head
state (needs c a) = need (depth c)
state (bounds c a p x) = bound (depth c)
state (prims c a p x q) = prim (depth c)
state (parts c a s) = part (depth c)
state (maybes c a s h) = maybe (depth c)

abbrev yield : Partial → List Tok
yield nothing = []
yield (left h) = symbol h ∷ []
yield (needs c a) = ctx_t c ++ alts_t a
yield (bounds c a p x) = ctx_t c ++ alts_t a ++ parts_t p ++ (pre x ∷ [])
yield (prims c a p x q) = ctx_t c ++ alts_t a ++ parts_t p ++ pre_t x ++ prim_toks q
yield (parts c a s) = ctx_t c ++ alts_t a ++ seq_toks s
yield (maybes c a s h) = ctx_t c ++ alts_t a ++ seq_toks s ++ (symbol h ∷ [])

-- a partial syntax that has read w and stands in this state
abbrev Held : List Tok → Option State → Type 0
Held w none = Unit {0}
Held w (some s) = (p : Partial) × (state p ≡ s) × (yield p ≡ w)

seq-added : (a : Option Choice) (s : Sequence) → choice_toks (add_seq a s) ≡ alts_t a ++ seq_toks s
unfolding choice_toks
seq-added none s = refl
seq-added (some c) s = sym (append_assoc (choice_toks c) (slash ∷ []) (seq_toks s))

part-added : (a : Option Sequence) (p : Prefixed) → seq_toks (add_part a p) ≡ parts_t a ++ pref_toks p
unfolding choice_toks
part-added none p = refl
part-added (some s) p = refl

pre-added : (x : Option Prefix) (e : Suffixed) → pref_toks (add_pre x e) ≡ pre_t x ++ suf_toks e
unfolding choice_toks
pre-added none e = refl
pre-added (some x) e = refl

rule-added : (r : Option Rules) (h : Symbol) (c : Choice) → tokens (add_rule r h c) ≡ rules_t r ++ (symbol h ∷ arrow ∷ choice_toks c)
unfolding tokens
rule-added none h c = refl
rule-added (some g) h c = refl

closed-held : (c : Ctx) (a : Option Choice) (s : Sequence) → Held (ctx_t c ++ alts_t a ++ seq_toks s ++ (closes ∷ [])) (close (depth c))
unfolding close choice_toks
closed-held (body r h) a s = tt
closed-held (inside c b p x) a s = (prims c b p x (group (add_seq a s)), refl, simp (seq-added, append_assoc))

-- where a part has ended
after-held : (c : Ctx) (a : Option Choice) (s : Sequence) (t : Tok) → Held (ctx_t c ++ alts_t a ++ seq_toks s ++ (t ∷ [])) (after (depth c) t)
unfolding after close choice_toks
after-held c a s (symbol h) = (maybes c a s h, refl, refl)
after-held c a s (leaf y) = (prims c a (some s) none (term y), refl, simp (append-nil, append_assoc))
after-held c a s (pre y) = (bounds c a (some s) y, refl, refl)
after-held c a s (suf y) = tt
after-held c a s arrow = tt
after-held c a s slash = (needs c (some (add_seq a s)), refl, simp (seq-added, append_assoc))
after-held c a s opens = (needs (inside c a (some s) none) none, refl, simp (append-nil, append_assoc))
after-held c a s closes = closed-held c a s
after-held c a s bad = tt

moved : {v w : List Tok} (o : Option State) → v ≡ w → Held v o → Held w o
moved none e h = tt
moved (some s) e h = (h.0, h.1, h.2 ∙ e)

-- the part that a primary ends, with any token behind it
prim-ends : (c : Ctx) (a : Option Choice) (p : Option Sequence) (x : Option Prefix) (e : Suffixed) (w : List Tok)
    → ctx_t c ++ alts_t a ++ seq_toks (add_part p (add_pre x e)) ++ w ≡ ctx_t c ++ alts_t a ++ parts_t p ++ pre_t x ++ suf_toks e ++ w
prim-ends c a p x e w = simp (part-added, pre-added, append_assoc)

prim-after : (c : Ctx) (a : Option Choice) (p : Option Sequence) (x : Option Prefix) (q : Primary) (t : Tok) → Held (ctx_t c ++ alts_t a ++ parts_t p ++ pre_t x ++ prim_toks q ++ (t ∷ [])) (after (depth c) t)
unfolding choice_toks
prim-after c a p x q t = moved (after (depth c) t) (prim-ends c a p x (only q) (t ∷ [])) (after-held c a (add_part p (add_pre x (only q))) t)

arrow-held : (c : Ctx) (a : Option Choice) (s : Sequence) (h : Symbol) → Held (ctx_t c ++ alts_t a ++ seq_toks s ++ (symbol h ∷ []) ++ (arrow ∷ [])) (new_rule (depth c))
unfolding new_rule
arrow-held (inside c b p x) a s h = tt
arrow-held (body r g) a s h = (needs (body (some (add_rule r g (add_seq a s))) h) none, refl, simp (append-nil, rule-added, seq-added, append_assoc))

maybe-ends : (c : Ctx) (a : Option Choice) (s : Sequence) (g : Symbol) (w : List Tok)
    → ctx_t c ++ alts_t a ++ seq_toks (next s (bare (only (psym g)))) ++ w ≡ ctx_t c ++ alts_t a ++ seq_toks s ++ (symbol g ∷ []) ++ w
unfolding choice_toks
maybe-ends c a s g w = simp append_assoc

maybe-after : (c : Ctx) (a : Option Choice) (s : Sequence) (g : Symbol) (t : Tok) → Held (ctx_t c ++ alts_t a ++ seq_toks s ++ (symbol g ∷ []) ++ (t ∷ [])) (after (depth c) t)
maybe-after c a s g t = moved (after (depth c) t) (maybe-ends c a s g (t ∷ [])) (after-held c a (next s (bare (only (psym g)))) t)

held : (p : Partial) (t : Tok) → Held (yield p ++ (t ∷ [])) (step (state p) t)
unfolding step after choice_toks
held nothing (symbol h) = (left h, refl, refl)
held nothing (leaf y) = tt
held nothing (pre y) = tt
held nothing (suf y) = tt
held nothing arrow = tt
held nothing slash = tt
held nothing opens = tt
held nothing closes = tt
held nothing bad = tt
held (left g) (symbol h) = tt
held (left g) (leaf y) = tt
held (left g) (pre y) = tt
held (left g) (suf y) = tt
held (left g) arrow = (needs (body none g) none, refl, refl)
held (left g) slash = tt
held (left g) opens = tt
held (left g) closes = tt
held (left g) bad = tt
held (needs c a) (symbol h) = (prims c a none none (psym h), refl, simp append-nil)
held (needs c a) (leaf y) = (prims c a none none (term y), refl, simp append-nil)
held (needs c a) (pre y) = (bounds c a none y, refl, simp append-nil)
held (needs c a) (suf y) = tt
held (needs c a) arrow = tt
held (needs c a) slash = tt
held (needs c a) opens = (needs (inside c a none none) none, refl, simp append-nil)
held (needs c a) closes = tt
held (needs c a) bad = tt
held (bounds c a p x) (symbol h) = (prims c a p (some x) (psym h), refl, refl)
held (bounds c a p x) (leaf y) = (prims c a p (some x) (term y), refl, refl)
held (bounds c a p x) (pre y) = tt
held (bounds c a p x) (suf y) = tt
held (bounds c a p x) arrow = tt
held (bounds c a p x) slash = tt
held (bounds c a p x) opens = (needs (inside c a p (some x)) none, refl, simp append-nil)
held (bounds c a p x) closes = tt
held (bounds c a p x) bad = tt
held (prims c a p x q) (symbol h) = prim-after c a p x q (symbol h)
held (prims c a p x q) (leaf y) = prim-after c a p x q (leaf y)
held (prims c a p x q) (pre y) = prim-after c a p x q (pre y)
held (prims c a p x q) (suf y) = (parts c a (add_part p (add_pre x (then q y))), refl, simp (part-added, pre-added, append_assoc))
held (prims c a p x q) arrow = tt
held (prims c a p x q) slash = prim-after c a p x q slash
held (prims c a p x q) opens = prim-after c a p x q opens
held (prims c a p x q) closes = prim-after c a p x q closes
held (prims c a p x q) bad = tt
held (parts c a s) t = after-held c a s t
held (maybes c a s g) (symbol h) = maybe-after c a s g (symbol h)
held (maybes c a s g) (leaf y) = maybe-after c a s g (leaf y)
held (maybes c a s g) (pre y) = maybe-after c a s g (pre y)
held (maybes c a s g) (suf y) = (parts c a (next s (bare (then (psym g) y))), refl, simp append_assoc)
held (maybes c a s g) arrow = arrow-held c a s g
held (maybes c a s g) slash = maybe-after c a s g slash
held (maybes c a s g) opens = maybe-after c a s g opens
held (maybes c a s g) closes = maybe-after c a s g closes
held (maybes c a s g) bad = tt

-- over all tokens
read-on : (p : Partial) (l : List Tok) → Held (yield p ++ l) (state_after (some (state p)) l)
unfolding state_after
read-on p [] = (p, refl, sym (append-nil _))
read-on p (t ∷ l) = go (λ q. read-on q l) (step (state p) t) (held p t)
  where
    go : ((q : Partial) → Held (yield q ++ l) (state_after (some (state q)) l)) → (o : Option State) → Held (yield p ++ (t ∷ [])) o → Held (yield p ++ (t ∷ l)) (state_after o l)
    go k none h = rw (runs-dead l) tt
    go k (some s) h = moved (state_after (some s) l) (ap (λ (v : List Tok). v ++ l) h.2 ∙ append_assoc (yield p) (t ∷ []) l) (subst (λ (x : State). Held (yield h.0 ++ l) (state_after (some x) l)) h.1 (k h.0))

-- a whole grammar stands where the automaton may stop
whole : (p : Partial) → accepting (state p) ≡ true → Grammatical (yield p)
unfolding accepting choice_toks
whole nothing e = absurd (false≢true e)
whole (left h) e = absurd (false≢true e)
whole (needs c a) e = absurd (false≢true e)
whole (bounds c a p x) e = absurd (false≢true e)
whole (prims (inside c b q y) a p x t) e = absurd (false≢true e)
whole (prims (body r h) a p x q) e = (add_rule r h (add_seq a (add_part p (add_pre x (only q)))), simp (rule-added, seq-added, part-added, pre-added, append_assoc))
whole (parts (inside c b q y) a s) e = absurd (false≢true e)
whole (parts (body r h) a s) e = (add_rule r h (add_seq a s), simp (rule-added, seq-added, append_assoc))
whole (maybes (inside c b q y) a s g) e = absurd (false≢true e)
whole (maybes (body r h) a s g) e = (add_rule r h (add_seq a (next s (bare (only (psym g))))), simp (rule-added, seq-added, append_assoc))

-- accepted tokens are those of a grammar
pub grammar : (ts : List Tok) → accepts (state_after (some start) ts) ≡ true → Grammatical ts
grammar ts e = go (state_after (some start) ts) (read-on nothing ts) e
  where
    go : (o : Option State) → Held ts o → accepts o ≡ true → Grammatical ts
    go none h e = absurd (false≢true e)
    go (some s) h e = subst Grammatical h.2 (whole h.0 (ap accepting h.1 ∙ e))
