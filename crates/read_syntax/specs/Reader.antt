-- A recursive-descent reader of token lists, by fuel: how the rules of a grammar text are computed. That it reads just the concrete syntax
-- whose tokens these are is proved in laws/. What it refuses, it refuses at a token: the list from that token on. Assumes nothing: these are definitions.
use Rattle.std.specs.Prelude.{ℕ, zero, suc, Bool, true, false, not, List, [], ◌∷◌}
use Rattle.read_tokens.specs.Token.{Symbol, Tok, symbol, leaf, pre, suf, arrow, slash, opens, closes, bad}
use Rattle.grammar.specs.Syntax.{Choice, Sequence, Prefixed, Suffixed, Primary, Rules, one, or, first, next, bare, with, only, then, psym, term}
use Rattle.grammar.specs.Syntax.{group, rule, more}

-- read, with the tokens behind; refused, with the tokens from the offending one on; out of fuel
pub data Res (A : Type 0) : Type 0 where
  ok : A → List Tok → Res A
  no : List Tok → Res A
  out : Res A

abbrev pub bind : {A B : Type 0} → Res A → (A → List Tok → Res B) → Res B
bind (ok a l) k = k a l
bind (no l) k = no l
bind out k = out

abbrev pub is_arrow : List Tok → Bool
is_arrow [] = false
is_arrow (symbol h ∷ l) = false
is_arrow (leaf y ∷ l) = false
is_arrow (pre y ∷ l) = false
is_arrow (suf y ∷ l) = false
is_arrow (arrow ∷ l) = true
is_arrow (slash ∷ l) = false
is_arrow (opens ∷ l) = false
is_arrow (closes ∷ l) = false
is_arrow (bad ∷ l) = false

-- a part begins here: a symbol that an arrow follows is the next left side
abbrev pub begins : List Tok → Bool
begins [] = false
begins (symbol h ∷ l) = not (is_arrow l)
begins (leaf y ∷ l) = true
begins (pre y ∷ l) = true
begins (suf y ∷ l) = false
begins (arrow ∷ l) = false
begins (slash ∷ l) = false
begins (opens ∷ l) = true
begins (closes ∷ l) = false
begins (bad ∷ l) = false

abbrev pub sym_by : Symbol → List Tok → Bool → Res Primary
sym_by h l true = no l
sym_by h l false = ok (psym h) l

-- after the choice in a parenthesis: a symbol stands here only before an arrow, and the arrow offends
unfoldable pub close_by : Choice → List Tok → Res Primary
close_by c [] = no []
close_by c (symbol h ∷ l) = no l
close_by c (leaf y ∷ l) = no (leaf y ∷ l)
close_by c (pre y ∷ l) = no (pre y ∷ l)
close_by c (suf y ∷ l) = no (suf y ∷ l)
close_by c (arrow ∷ l) = no (arrow ∷ l)
close_by c (slash ∷ l) = no (slash ∷ l)
close_by c (opens ∷ l) = no (opens ∷ l)
close_by c (closes ∷ l) = ok (group c) l
close_by c (bad ∷ l) = no (bad ∷ l)

unfoldable pub prim_by : List Tok → (List Tok → Res Choice) → Res Primary
prim_by [] k = no []
prim_by (symbol h ∷ l) k = sym_by h l (is_arrow l)
prim_by (leaf y ∷ l) k = ok (term y) l
prim_by (pre y ∷ l) k = no (pre y ∷ l)
prim_by (suf y ∷ l) k = no (suf y ∷ l)
prim_by (arrow ∷ l) k = no (arrow ∷ l)
prim_by (slash ∷ l) k = no (slash ∷ l)
prim_by (opens ∷ l) k = bind (k l) (λ c r. close_by c r)
prim_by (closes ∷ l) k = no (closes ∷ l)
prim_by (bad ∷ l) k = no (bad ∷ l)

unfoldable pub suf_by : Primary → List Tok → Res Suffixed
suf_by q [] = ok (only q) []
suf_by q (symbol h ∷ l) = ok (only q) (symbol h ∷ l)
suf_by q (leaf y ∷ l) = ok (only q) (leaf y ∷ l)
suf_by q (pre y ∷ l) = ok (only q) (pre y ∷ l)
suf_by q (suf y ∷ l) = ok (then q y) l
suf_by q (arrow ∷ l) = ok (only q) (arrow ∷ l)
suf_by q (slash ∷ l) = ok (only q) (slash ∷ l)
suf_by q (opens ∷ l) = ok (only q) (opens ∷ l)
suf_by q (closes ∷ l) = ok (only q) (closes ∷ l)
suf_by q (bad ∷ l) = ok (only q) (bad ∷ l)

abbrev pub suf_p : Res Primary → Res Suffixed
suf_p o = bind o (λ q r. suf_by q r)

unfoldable pub pref_by : List Tok → (List Tok → Res Primary) → Res Prefixed
pref_by [] k = no []
pref_by (symbol h ∷ l) k = bind (suf_p (k (symbol h ∷ l))) (λ e r. ok (bare e) r)
pref_by (leaf y ∷ l) k = bind (suf_p (k (leaf y ∷ l))) (λ e r. ok (bare e) r)
pref_by (pre y ∷ l) k = bind (suf_p (k l)) (λ e r. ok (with y e) r)
pref_by (suf y ∷ l) k = bind (suf_p (k (suf y ∷ l))) (λ e r. ok (bare e) r)
pref_by (arrow ∷ l) k = bind (suf_p (k (arrow ∷ l))) (λ e r. ok (bare e) r)
pref_by (slash ∷ l) k = bind (suf_p (k (slash ∷ l))) (λ e r. ok (bare e) r)
pref_by (opens ∷ l) k = bind (suf_p (k (opens ∷ l))) (λ e r. ok (bare e) r)
pref_by (closes ∷ l) k = bind (suf_p (k (closes ∷ l))) (λ e r. ok (bare e) r)
pref_by (bad ∷ l) k = bind (suf_p (k (bad ∷ l))) (λ e r. ok (bare e) r)

unfoldable pub choice_by : Choice → List Tok → (List Tok → Res Choice) → Res Choice
choice_by c [] k = ok c []
choice_by c (symbol h ∷ l) k = ok c (symbol h ∷ l)
choice_by c (leaf y ∷ l) k = ok c (leaf y ∷ l)
choice_by c (pre y ∷ l) k = ok c (pre y ∷ l)
choice_by c (suf y ∷ l) k = ok c (suf y ∷ l)
choice_by c (arrow ∷ l) k = ok c (arrow ∷ l)
choice_by c (slash ∷ l) k = k l
choice_by c (opens ∷ l) k = ok c (opens ∷ l)
choice_by c (closes ∷ l) k = ok c (closes ∷ l)
choice_by c (bad ∷ l) k = ok c (bad ∷ l)

abbrev pub seq_by : Bool → Res Sequence → Res Sequence → Res Sequence
seq_by true a b = a
seq_by false a b = b

unfoldable mutual
  pub choice_p : ℕ → List Tok → Res Choice
  choice_p zero l = out
  choice_p (suc f) l = bind (seq_p f l) (λ s r. choice_r f (one s) r)

  pub choice_r : ℕ → Choice → List Tok → Res Choice
  choice_r zero c l = out
  choice_r (suc f) c l = choice_by c l (λ m. bind (seq_p f m) (λ s r. choice_r f (or c s) r))

  pub seq_p : ℕ → List Tok → Res Sequence
  seq_p zero l = out
  seq_p (suc f) l = bind (pref_p f l) (λ p r. seq_r f (first p) r)

  pub seq_r : ℕ → Sequence → List Tok → Res Sequence
  seq_r zero s l = out
  seq_r (suc f) s l = seq_by (begins l) (bind (pref_p f l) (λ p r. seq_r f (next s p) r)) (ok s l)

  pub pref_p : ℕ → List Tok → Res Prefixed
  pref_p zero l = out
  pref_p (suc f) l = pref_by l (λ m. prim_p f m)

  pub prim_p : ℕ → List Tok → Res Primary
  prim_p zero l = out
  prim_p (suc f) l = prim_by l (λ m. choice_p f m)

unfoldable pub arrow_by : List Tok → (List Tok → Res Rules) → Res Rules
arrow_by [] k = no []
arrow_by (symbol h ∷ l) k = no (symbol h ∷ l)
arrow_by (leaf y ∷ l) k = no (leaf y ∷ l)
arrow_by (pre y ∷ l) k = no (pre y ∷ l)
arrow_by (suf y ∷ l) k = no (suf y ∷ l)
arrow_by (arrow ∷ l) k = k l
arrow_by (slash ∷ l) k = no (slash ∷ l)
arrow_by (opens ∷ l) k = no (opens ∷ l)
arrow_by (closes ∷ l) k = no (closes ∷ l)
arrow_by (bad ∷ l) k = no (bad ∷ l)

unfoldable pub rule_by : List Tok → (Symbol → List Tok → Res Rules) → Res Rules
rule_by [] k = no []
rule_by (symbol h ∷ l) k = arrow_by l (k h)
rule_by (leaf y ∷ l) k = no (leaf y ∷ l)
rule_by (pre y ∷ l) k = no (pre y ∷ l)
rule_by (suf y ∷ l) k = no (suf y ∷ l)
rule_by (arrow ∷ l) k = no (arrow ∷ l)
rule_by (slash ∷ l) k = no (slash ∷ l)
rule_by (opens ∷ l) k = no (opens ∷ l)
rule_by (closes ∷ l) k = no (closes ∷ l)
rule_by (bad ∷ l) k = no (bad ∷ l)

abbrev pub end_by : Rules → List Tok → Res Rules → Res Rules
end_by g [] o = ok g []
end_by g (t ∷ l) o = o

unfoldable pub rules_r : ℕ → Rules → List Tok → Res Rules
rules_r zero g l = out
rules_r (suc f) g l = end_by g l (rule_by l (λ h m. bind (choice_p f m) (λ c r. rules_r f (more g h c) r)))

unfoldable pub rules_p : ℕ → List Tok → Res Rules
rules_p f l = rule_by l (λ h m. bind (choice_p f m) (λ c r. rules_r f (rule h c) r))
