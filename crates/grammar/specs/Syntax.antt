-- The notation as concrete syntax: which token lists are a grammar, which can still begin one, and the token that offends
-- (01, Notation; 01, Refusal numbers, 2). Assumes nothing: these are definitions.
use Rattle.std.specs.Prelude.{ℕ, suc, ◌≤◌, ◌<◌, ◌≡◌, List, [], ◌∷◌, ◌++◌, length, take}
use Rattle.read_tokens.specs.Token.{Symbol, Leaf, Prefix, Suffix, Tok, symbol, leaf, pre, suf, arrow, slash, opens, closes}

-- "Loosest to tightest: choice, sequence, one prefix, one suffix, primary", with every parenthesis that is written.
-- "Choice and sequence associate to the left"
mutual
  pub data Choice : Type 0 where
    one : Sequence → Choice
    or : Choice → Sequence → Choice

  pub data Sequence : Type 0 where
    first : Prefixed → Sequence
    next : Sequence → Prefixed → Sequence

  pub data Prefixed : Type 0 where
    bare : Suffixed → Prefixed
    with : Prefix → Suffixed → Prefixed

  pub data Suffixed : Type 0 where
    only : Primary → Suffixed
    then : Primary → Suffix → Suffixed

  pub data Primary : Type 0 where
    psym : Symbol → Primary
    term : Leaf → Primary
    group : Choice → Primary

-- "one or more rules"
pub data Rules : Type 0 where
  rule : Symbol → Choice → Rules
  more : Rules → Symbol → Choice → Rules

unfoldable mutual
  pub choice_toks : Choice → List Tok
  choice_toks (one s) = seq_toks s
  choice_toks (or c s) = choice_toks c ++ (slash ∷ seq_toks s)

  pub seq_toks : Sequence → List Tok
  seq_toks (first p) = pref_toks p
  seq_toks (next s p) = seq_toks s ++ pref_toks p

  pub pref_toks : Prefixed → List Tok
  pref_toks (bare e) = suf_toks e
  pref_toks (with x e) = pre x ∷ suf_toks e

  pub suf_toks : Suffixed → List Tok
  suf_toks (only q) = prim_toks q
  suf_toks (then q x) = prim_toks q ++ (suf x ∷ [])

  pub prim_toks : Primary → List Tok
  prim_toks (psym h) = symbol h ∷ []
  prim_toks (term x) = leaf x ∷ []
  prim_toks (group c) = opens ∷ (choice_toks c ++ (closes ∷ []))

unfoldable pub tokens : Rules → List Tok
tokens (rule h c) = symbol h ∷ arrow ∷ choice_toks c
tokens (more r h c) = tokens r ++ (symbol h ∷ arrow ∷ choice_toks c)

-- these tokens are a grammar; they "could still begin a grammar"
abbrev pub Grammatical : List Tok → Type 0
Grammatical ts = (g : Rules) × (tokens g ≡ ts)

abbrev pub Viable : List Tok → Type 0
Viable ts = (us : List Tok) × Grammatical (ts ++ us)

-- Refusal 2's place: token k, or the text's end where k is the number of tokens, "at which what stands before could still begin a grammar and with it
-- could not"
pub record Offends (ts : List Tok) (k : ℕ) : Type 0 where
  pub within : k ≤ length ts
  pub before : Viable (take k ts)
  pub token : k < length ts → ¬ Viable (take (suc k) ts)
  pub end : k ≡ length ts → ¬ Grammatical ts
